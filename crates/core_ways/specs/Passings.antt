-- A contract of a public call rests on this: what is kept of the methods that are passed.
use Rattle.std.specs.Prelude.{◌≡◌, ℕ}
use Rattle.std.specs.Option.{IfSome}
use Rattle.std.specs.BTreeMap.{BTreeMap, get}
use Rattle.std.specs.Ordering.{nat_cmp}
use Rattle.racer_base.specs.declared.ids.MethodId.{MethodId}
use Rattle.core_code.specs.Core.{Core}
use Rattle.core_ways.specs.declared.counting.Passing.{Passing}
use Rattle.core_ways.specs.Counts.{count_of}
use Rattle.core_ways.specs.Ways.{parts_of, trip_of}

-- what is passed of this method
pub record IsPassing (core : Core) (m : MethodId) (passing : Passing) : Type 0 where
  pub parts : passing.parts.items ≡ parts_of core m
  pub count : passing.count ≡ count_of (trip_of core m)

-- each method that has an entry has what is passed of it there
abbrev pub IsTable : Core → BTreeMap ℕ Passing → Type 0
IsTable core table = (m : MethodId) → IfSome (get nat_cmp table m.0) (λ p. IsPassing core m p)
