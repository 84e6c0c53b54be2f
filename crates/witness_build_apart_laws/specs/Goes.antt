-- A contract of a public call rests on this: where so many steps of a thread lead, what they store and whether they
-- make an object.
use Rattle.std.specs.Prelude.{◌≡◌, ℕ, zero, suc, Bool, false, List, Option, None, Some}
use Rattle.racer_base.specs.declared.ids.FieldId.{FieldId}
use Rattle.core_code.specs.Core.{Core}
use Rattle.core_semantics.specs.declared.answer.Turn.{Turn}
use Rattle.core_semantics.specs.declared.object.Object.{Object}
use Rattle.core_semantics.specs.State.{State}
use Rattle.core_semantics.specs.Advances.{Going, one_step}
use Rattle.witness_build_apart_laws.specs.Apart.{AreAlike}

abbrev pub goes_behind : (List Turn → State → Option Going) → Option Going → Option Going
goes_behind rest None = None
goes_behind rest (Some (next, turns)) = rest turns next

-- the state behind so many steps, with the turns that are left, where all are made
abbrev pub leg_goes : Core → ℕ → ℕ → List Turn → State → Option Going
leg_goes core t zero turns s = Some (s, turns)
leg_goes core t (suc n) turns s = goes_behind (leg_goes core t n) (one_step core t turns s)

-- no field
abbrev pub nothing : Object → FieldId → Bool
nothing o f = false

abbrev pub GoingAlike : Core → (Object → FieldId → Bool) → ℕ → Option Going → Option Going → Type 0
GoingAlike core but t None None = Unit {0}
GoingAlike core but t (Some (a, ts)) (Some (b, us)) = AreAlike core but t a b × (ts ≡ us)
GoingAlike core but t _ _ = ⊥
