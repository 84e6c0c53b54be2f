-- A contract of a public call rests on this: the marks of warnings of typed classes.
use Rattle.std.specs.Prelude.{◌≡◌, ℕ, List, Some, slice_get}
use Rattle.std.specs.List.{Contains}
use Rattle.core_code.specs.Core.{Core}
use Rattle.race_pairs.specs.declared.warning.Warning.{Warning}
use Rattle.race_pairs.specs.Warnings.{warnings}
use Rattle.core_ways.specs.declared.mark.Mark.{Mark}
use Rattle.core_ways.specs.Marks.{said_by}
use Rattle.typed_core_laws.specs.Promise.{IsNeverBlocked, IsTyped}

-- each mark of a warning of a typed class, where that is one of the list of warnings, says that it is not blocked
abbrev pub HaveNeverBlocked : Core → List Warning → List Mark → Type 0
HaveNeverBlocked core found marks =
    (k : ℕ) (w : Warning) (mark : Mark) → slice_get found k ≡ Some w → slice_get marks k ≡ Some mark →
    Contains (warnings core) w → IsTyped core w.class → IsNeverBlocked core w (said_by mark)
