-- Runs of two entries of a typed class, whatever the turns: each state goes with the kinds, and a step is stuck at a throw
-- alone.
use Rattle.std.proofs.Common.{◌≡◌, ℕ, suc, ◌+◌, Bool, true, false, cond, List, [], ◌∷◌, ◌++◌, None, Some}
use Rattle.std.proofs.Common.{map, slice_get, refl, sym, ap, subst, ◌∙◌, arith}
use Rattle.std.specs.Option.{option_and_then}
use Rattle.racer_base.specs.declared.ids.ClassId.{ClassId}
use Rattle.racer_base.specs.declared.ids.Kind.{Kind}
use Rattle.racer_base.specs.declared.ids.Kind.TheVariants as types
use Rattle.racer_base.specs.declared.ids.MethodId.{MethodId}
use Rattle.core_code.specs.declared.program.Program.{Program}
use Rattle.core_code.specs.Core.{Core, Method}
use Rattle.core_code.specs.Kinds.{same_class}
use Rattle.core_code.specs.Program.{core as core_of}
use Rattle.core_semantics.specs.declared.answer.Turn.{Turn}
use Rattle.core_semantics.specs.declared.object.Object.TheVariants.{Start as StartOf}
use Rattle.core_semantics.specs.declared.object.Start.TheVariants.{All}
use Rattle.core_semantics.specs.declared.object.StartRoot.TheVariants.{Param, This}
use Rattle.core_semantics.specs.declared.object.Value.TheVariants.{Object as Ref}
use Rattle.core_semantics.specs.Objects.{root_path}
use Rattle.core_semantics.specs.Runs.{begun, given_to, parameters_from}
use Rattle.core_semantics.specs.State.{State}
use Rattle.core_semantics.specs.Steps.{Next, Goes, Sticks, Waits, Ends, entered, step}
use Rattle.core_semantics_kinds.specs.Kinding.{IsState, Keeps, StepKeeps}
use Rattle.core_semantics_kinds.specs.PlaceValues.{Stand}
use Rattle.core_semantics_kinds.specs.Reached.{ObjectOf, Roots, object_of, parameter_root, roots_of}
use Rattle.core_semantics_kinds.proofs.KindedRuns.{begun-state, step-kept}
use Rattle.core_semantics_laws.specs.Monitors.{Move, made, moved}
use Rattle.typed_core.specs.Kinds.{kind_of}
use Rattle.typed_core.specs.States.{start_of}
use Rattle.typed_core.specs.Typings.{is_entry_of}
use Rattle.std.proofs.lemmas.Bool.{and_parts, eqb-true}
use Rattle.typed_core_laws.specs.Promise.{IsEntry, IsTyped, OnlyThrows}
use Rattle.typed_core_laws.specs.TypedValues.{AreHeld, IsValue, typed_kinds}
use Rattle.typed_core_laws.proofs.TypedCalls.{entered-held, typed-keeps}
use Rattle.typed_core_laws.proofs.TypedReached.{are-codes, entry-reached}

-- ---- the beginning

module _ (core : Core) (roots : Roots) (class : ClassId) where
  parameter-values : (t i : ℕ) (kinds : List Kind) →
      ((j : ℕ) → roots (Param t (i + j)) ≡ option_and_then object_of (slice_get kinds j)) →
      Stand (IsValue core roots class) (map kind_of kinds) (parameters_from t i kinds)
  parameter-values t i [] named = tt
  parameter-values t i (types.Plain ∷ kinds) named = (tt, parameter-values t (suc i) kinds (λ j. later j))
    where
      later : (j : ℕ) → roots (Param t (suc i + j)) ≡ option_and_then object_of (slice_get kinds j)
      later j = let same : suc i + j ≡ i + suc j = omega arith in ap (λ k. roots (Param t k)) same ∙ named (suc j)
  parameter-values t i (types.Declared c ∷ kinds) named =
      let here : i ≡ i + 0 = omega arith in
      (ap (λ k. roots (Param t k)) here ∙ named 0, parameter-values t (suc i) kinds (λ j. later j))
    where
      later : (j : ℕ) → roots (Param t (suc i + j)) ≡ option_and_then object_of (slice_get kinds j)
      later j = let same : suc i + j ≡ i + suc j = omega arith in ap (λ k. roots (Param t k)) same ∙ named (suc j)
  parameter-values t i (types.Other ∷ kinds) named = (tt, parameter-values t (suc i) kinds (λ j. later j))
    where
      later : (j : ℕ) → roots (Param t (suc i + j)) ≡ option_and_then object_of (slice_get kinds j)
      later j = let same : suc i + j ≡ i + suc j = omega arith in ap (λ k. roots (Param t k)) same ∙ named (suc j)

  given-values : (t : ℕ) (method : Method) (static : Bool) → roots This ≡ Some (ObjectOf method.class) →
      Stand (IsValue core roots class) (map kind_of method.parameters) (parameters_from t 0 method.parameters) →
      Stand (IsValue core roots class)
      (map kind_of (cond static method.parameters (types.Declared method.class ∷ method.parameters)))
      (cond static [] (Ref (StartOf (root_path This)) ∷ []) ++ parameters_from t 0 method.parameters)
  given-values t method true this values = values
  given-values t method false this values = (this, values)

  entry-held : (t : ℕ) (method : Method) → roots This ≡ Some (ObjectOf method.class) →
      ((j : ℕ) → roots (Param t j) ≡ parameter_root j method.parameters) →
      AreHeld core roots class (start_of method) (entered method (given_to t method)).vars []
  entry-held t method this named =
      entered-held core roots class method (given_to t method)
      (given-values t method method.is_static this (parameter-values t 0 method.parameters
      (λ j. let same : 0 + j ≡ j = omega arith in ap (λ k. roots (Param t k)) same ∙ named j)))

-- ---- two entries of one class

class-of-entry : (class : ClassId) (method : Method) → is_entry_of class method ≡ true → method.class ≡ class
class-of-entry class method entry =
    let number : method.class.0 ≡ class.0 =
    eqb-true method.class.0 class.0 (and_parts method.entry (same_class method.class class) entry).1 in
    ap (λ (n : ℕ). let c : ClassId = record { 0 = n } in c) number

module _ (p : Program) (class : ClassId) (m1 m2 : MethodId) (typed : IsTyped (core_of p) class)
    (one : IsEntry (core_of p) class m1) (other : IsEntry (core_of p) class m2) where
  abbrev core : Core
  core = core_of p

  abbrev roots : Roots
  roots = roots_of one.method other.method

  pub entries-keep : Keeps core (typed_kinds core roots class)
  entries-keep = typed-keeps core roots class (are-codes p class typed roots) (λ c. refl)

  same-classes : one.method.class ≡ other.method.class
  same-classes = class-of-entry class one.method one.entry ∙ sym (class-of-entry class other.method other.entry)

  pub entries-state : IsState core (typed_kinds core roots class) (begun core m1 m2 All)
  entries-state =
      begun-state (typed_kinds core roots class) m1 m2 one.method other.method All one.is other.is
      (are-codes p class typed roots m1 one.method (entry-reached p class m1 one.method one.is one.entry) one.is)
      (are-codes p class typed roots m2 other.method (entry-reached p class m2 other.method other.is other.entry) other.is)
      (record { full = λ q. refl; cell = λ o h v e. absurd cc })
      (entry-held core roots class 0 one.method refl (λ j. refl))
      (entry-held core roots class 1 other.method (ap (λ c. Some (ObjectOf c)) same-classes) (λ j. refl))

  -- ---- steps of any thread in any order

  abbrev IsTypedState : State → Type 0
  IsTypedState s = IsState core (typed_kinds core roots class) s

  made-state : (next : Next State) (s : State) → StepKeeps core (typed_kinds core roots class) IsTypedState next →
      made next ≡ Some s → IsTypedState s
  made-state (Goes x) s h e = let same : x ≡ s = cc in subst (λ (y : State). IsTypedState y) same h
  made-state (Sticks why) s h e = absurd cc
  made-state (Waits monitor) s h e = absurd cc
  made-state Ends s h e = absurd cc

  moved-state : (moves : List Move) (from s : State) → IsTypedState from → moved core moves from ≡ Some s →
      IsTypedState s
  moved-state [] from s is e = let same : from ≡ s = cc in subst (λ (y : State). IsTypedState y) same is
  moved-state (m ∷ moves) from s is e =
      (elim (made (step core from m.thread m.turn)) as (λ o. made (step core from m.thread m.turn) ≡ o →
      option_and_then (moved core moves) o ≡ Some s → IsTypedState s) [
        | None ↦ λ k rest. absurd cc
        | Some next ↦ λ k rest.
            moved-state moves next s
            (made-state (step core from m.thread m.turn) next (step-kept entries-keep from m.thread m.turn is) k) rest
      ]) refl e

  only-throws : (next : Next State) → StepKeeps core (typed_kinds core roots class) IsTypedState next →
      OnlyThrows next
  only-throws (Goes x) h = tt
  only-throws (Sticks why) h = h
  only-throws (Waits monitor) h = tt
  only-throws Ends h = tt

  pub never-stuck : (moves : List Move) (s : State) → moved core moves (begun core m1 m2 All) ≡ Some s → (t : ℕ)
      (turn : Turn) → OnlyThrows (step core s t turn)
  never-stuck moves s came t turn =
      only-throws (step core s t turn)
      (step-kept entries-keep s t turn (moved-state moves (begun core m1 m2 All) s entries-state came))
