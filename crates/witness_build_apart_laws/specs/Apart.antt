-- A contract of a public call rests on this: what it is that a leg does not see what another leg stored.
use Rattle.std.specs.Prelude.{◌≡◌, ℕ, zero, suc, Bool, true, false, not, List, Option, None, Some}
use Rattle.racer_base.specs.declared.ids.FieldId.{FieldId}
use Rattle.racer_base.specs.declared.ids.Touch.TheVariants.{Read, Write}
use Rattle.core_code.specs.Core.{Core}
use Rattle.core_semantics.specs.declared.answer.Turn.{Turn}
use Rattle.core_semantics.specs.declared.object.Object.{Object}
use Rattle.core_semantics.specs.Runs.{Access, next_touch}
use Rattle.core_semantics.specs.State.{State, Store, other_of, thread_of}
use Rattle.core_semantics.specs.Steps.{read}
use Rattle.core_semantics.specs.Advances.{Going, one_step}
use Rattle.core_ways.specs.Ends.{Ended, Past, Stopped}

-- what is stored reads the same but in these fields, and the next fresh object is the same
pub record ReadAlike (core : Core) (but : Object → FieldId → Bool) (a b : Store) : Type 0 where
  pub fresh : a.fresh ≡ b.fresh
  pub heap : a.heap ≡ b.heap
  pub reads : (o : Object) (f : FieldId) → but o f ≡ false → read core a o f ≡ read core b o f

-- two states in which a thread is the same, beside threads that hold the same monitors
pub record AreAlike (core : Core) (but : Object → FieldId → Bool) (t : ℕ) (a b : State) : Type 0 where
  pub thread : thread_of a t ≡ thread_of b t
  pub locks : (other_of a t).locks ≡ (other_of b t).locks
  pub stores : ReadAlike core but a.store b.store

abbrev pub is_avoided : (Object → FieldId → Bool) → Option Access → Bool
is_avoided but None = true
is_avoided but (Some (o, f, Read)) = not (but o f)
is_avoided but (Some (o, f, Write)) = true

abbrev pub avoids_behind : (List Turn → State → Type 0) → Option Going → Type 0
avoids_behind rest None = Unit {0}
avoids_behind rest (Some (next, turns)) = rest turns next

-- no step of a leg reads one of these fields
abbrev pub DoesAvoid : Core → (Object → FieldId → Bool) → ℕ → ℕ → List Turn → State → Type 0
DoesAvoid core but t zero turns s = Unit {0}
DoesAvoid core but t (suc n) turns s =
    (is_avoided but (next_touch s t) ≡ true) × avoids_behind (DoesAvoid core but t n) (one_step core t turns s)

abbrev pub AreEndsAlike : Core → (Object → FieldId → Bool) → ℕ → Ended → Ended → Type 0
AreEndsAlike core but t (Past a) (Past b) = AreAlike core but t a b
AreEndsAlike core but t (Stopped a) (Stopped b) = AreAlike core but t a b
AreEndsAlike core but t _ _ = ⊥
