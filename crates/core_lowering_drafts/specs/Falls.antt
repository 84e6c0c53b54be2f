-- A contract of a public call rests on this: where the code of groups starts, each of which goes on in the next one.
use Rattle.std.specs.Prelude.{◌≡◌, ℕ, ◌-◌, ◌<◌, List, take}
use Rattle.core_lowering_drafts.specs.Drafts.{Ends, Normal, in_order, without}
use Rattle.core_lowering_drafts.specs.Groups.{fallen}
use Rattle.core_lowering_drafts.specs.Lists.{Parts}
use Rattle.core_lowering_drafts.specs.Only.{only}

-- the code of the first so many groups is that of the groups before the last of them, but of no path that ends normally
abbrev pub IsPassed : List Parts → ℕ → Ends → Type 0
IsPassed groups count asked =
    (1 < count)
    × (only (in_order (fallen (take (count - 1) groups))) (without Normal asked)
    ≡ only (in_order (fallen (take count groups))) asked)
