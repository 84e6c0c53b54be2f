-- A contract of a public call rests on this: what it is that a class is typed, that a step is stuck at a throw alone, and
-- that a warning is not blocked.
use Rattle.std.specs.Prelude.{◌≡◌, ◌≤◌, true, Some}
use Rattle.std.specs.List.{Contains}
use Rattle.racer_base.specs.declared.ids.ClassId.{ClassId}
use Rattle.racer_base.specs.declared.ids.MethodId.{MethodId}
use Rattle.racer_base.specs.declared.limits.TheConstants.{MAX_WAY_STEPS}
use Rattle.access_domain.specs.declared.access.Access.{Access}
use Rattle.access_domain.specs.OutcomeRecords.{record_at}
use Rattle.core_code.specs.Calls.{method_at}
use Rattle.core_code.specs.Core.{Core, Method}
use Rattle.core_semantics.specs.declared.answer.Why.TheVariants.{Thrown}
use Rattle.core_semantics.specs.Steps.{Next, Goes, Sticks, Waits, Ends}
use Rattle.core_ways.specs.Marks.{Pair, Said, Unnamed, Unstable, Unread, Long, Blocked, Confirmed}
use Rattle.core_ways.specs.Stable.{IsStable}
use Rattle.core_ways.specs.Ways.{way_of}
use Rattle.race_pairs.specs.declared.warning.Warning.{Warning}
use Rattle.race_pairs.specs.Warnings.{warnings}
use Rattle.typed_core.specs.declared.answers.Answer.TheVariants.{Typed}
use Rattle.typed_core.specs.Typings.{is_entry_of, typings}
use Rattle.witness_build_laws.specs.Headline.{IsConfirmed}
use Rattle.witness_build_laws.specs.Warned.{pair_of, warning_mark}

-- the class is among those that `typings` calls typed
abbrev pub IsTyped : Core → ClassId → Type 0
IsTyped core c = Contains (typings core) (record { class = c; answer = Typed })

-- m is an entry of class c
pub record IsEntry (core : Core) (c : ClassId) (m : MethodId) : Type 0 where
  pub method : Method
  pub is : method_at core m ≡ Some method
  pub entry : is_entry_of c method ≡ true

-- a step is made, waits for a monitor that the other thread holds, or is behind the end of its thread; where it is stuck
-- it is at a throw
abbrev pub OnlyThrows : {X : Type 0} → Next X → Type 0
OnlyThrows (Goes next) = Unit {0}
OnlyThrows (Sticks why) = why ≡ Thrown
OnlyThrows (Waits monitor) = Unit {0}
OnlyThrows Ends = Unit {0}

-- a mark that is neither of a step that is stuck nor of a call that is not read
abbrev pub IsUnblocked : Said → Type 0
IsUnblocked Unnamed = Unit {0}
IsUnblocked (Unstable before) = Unit {0}
IsUnblocked (Unread at) = ⊥
IsUnblocked (Long steps) = Unit {0}
IsUnblocked (Blocked thread at) = ⊥
IsUnblocked (Confirmed objects legs) = Unit {0}

-- the two ways of a warning have at most as many steps as are run
pub record AreShort (core : Core) (w : Pair) : Type 0 where
  pub first : (way_of core w.m1 w.i).steps ≤ MAX_WAY_STEPS
  pub second : (way_of core w.m2 w.j).steps ≤ MAX_WAY_STEPS

-- what the mark of the warning says is not that it is blocked; and where its path is stable in both methods and its ways
-- are short, it is confirmed
pub record IsNeverBlocked (core : Core) (w : Warning) (said : Said) : Type 0 where
  pub unblocked : IsUnblocked said
  pub confirmed : (r : Access) → record_at core w.entry w.access ≡ Some r →
      IsStable core w.entry w.partner r.path → AreShort core (pair_of w) → IsConfirmed core w r

-- each warning of a typed class is such a one
abbrev pub AreNeverBlocked : Core → Type 0
AreNeverBlocked core =
    (w : Warning) → Contains (warnings core) w → IsTyped core w.class → IsNeverBlocked core w (warning_mark core w)
