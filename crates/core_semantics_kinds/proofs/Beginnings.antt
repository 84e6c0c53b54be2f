-- The beginning of two entries of a program, and the states of the runs from there.
use Rattle.std.proofs.Common.{◌≡◌, ℕ, suc, ◌+◌, Bool, true, false, cond, ◌||◌, List, [], ◌∷◌, ◌++◌}
use Rattle.std.proofs.Common.{Some, is_none, is_some, map, slice_get}
use Rattle.std.proofs.Common.{refl, ap, ◌∙◌, arith}
use Rattle.std.specs.Option.{option_and_then}
use Rattle.std.proofs.lemmas.Bool.{and_parts}
use Rattle.racer_base.specs.declared.ids.MethodId.{MethodId}
use Rattle.racer_base.specs.declared.ids.Kind.{Kind}
use Rattle.racer_base.proofs.Lists.{given_some}
use Rattle.racer_base.specs.declared.ids.Kind.TheVariants as types
use Rattle.core_code.specs.declared.program.Program.{Program}
use Rattle.core_code.specs.Calls.{is_analysed, method_at, taken_by}
use Rattle.core_code.specs.CallFacts.{has_right_calls, is_right_call}
use Rattle.core_code.specs.Core.{Core, Method}
use Rattle.core_code.specs.KindCheck.{begins_with, is_kinded, kinds_after}
use Rattle.core_code.specs.Kinds.{kind_of}
use Rattle.core_code.specs.Program.{core as core_of}
use Rattle.core_code.specs.Tree.{Operation, steps_of}
use Rattle.core_code.proofs.KindLemmas.{where_analysed}
use Rattle.core_semantics.specs.declared.object.Object.TheVariants.{Start as StartOf}
use Rattle.core_semantics.specs.declared.object.Start.{Start}
use Rattle.core_semantics.specs.declared.object.StartRoot.TheVariants.{This, Param}
use Rattle.core_semantics.specs.declared.object.Value.TheVariants.{Object as Ref}
use Rattle.core_semantics.specs.Objects.{root_path}
use Rattle.core_semantics.specs.Legs.{Leg, run}
use Rattle.core_semantics.specs.Runs.{begun, given_to, parameters_from}
use Rattle.core_semantics.specs.State.{State}
use Rattle.core_semantics.specs.Steps.{entered}
use Rattle.core_semantics_kinds.specs.Kinding.{IsState, Keeps}
use Rattle.core_semantics_kinds.specs.ObjectKinds.{AreHeld, AreValues, object_kinds}
use Rattle.core_semantics_kinds.specs.Reached.{ObjectOf, Roots, object_of, parameter_root, roots_of}
use Rattle.core_semantics_kinds.proofs.KindedRuns.{begun-state, legs-kept}
use Rattle.core_semantics_kinds.proofs.ObjectsKept.{IsKinded, entered-vars, is-code, objects-kept}
use Rattle.access_domain.proofs.Tests.{passes_at, passes_in}
use Rattle.core_ways.proofs.AloneMethods.{analysed-status}

-- ---- what every program keeps of an analysed method

pub is-kinded : (p : Program) (m : MethodId) (method : Method) → method_at (core_of p) m ≡ Some method →
    is_analysed (core_of p) m ≡ true → IsKinded (core_of p) method
is-kinded p m method there analysed =
    let core : Core = core_of p in
    let none : is_none method.status ≡ true = analysed-status core m method there analysed in
    let begins : Bool = begins_with (taken_by method) method.variables in
    let some : Bool = is_some (kinds_after core method method.code []) in
    let kinded : is_kinded core method ≡ true = where_analysed method.status (is_kinded core method) none
    (passes_at (λ (x : Method). is_some x.status || is_kinded core x) core.methods m.0 method p.kinded there) in
    let kinds = given_some (kinds_after core method method.code []) (and_parts begins some kinded).1 in
    let calls : has_right_calls core method ≡ true =
    passes_at (has_right_calls core) core.methods m.0 method p.calls_right there in
    record {
      kinds = kinds.0;
      kinded = kinds.1;
      begins = (and_parts begins some kinded).0;
      calls = λ o stands. passes_in (λ (x : Operation). is_right_call core x.op) (steps_of method.code) o calls stands;
    }

-- ---- the beginning

module _ (core : Core) (roots : Roots) where
  parameter-values : (t i : ℕ) (kinds : List Kind) →
      ((j : ℕ) → roots (Param t (i + j)) ≡ option_and_then object_of (slice_get kinds j)) →
      AreValues core roots (map kind_of kinds) (parameters_from t i kinds)
  parameter-values t i [] named = tt
  parameter-values t i (types.Plain ∷ kinds) named = (tt, parameter-values t (suc i) kinds (λ j. later j))
    where
      later : (j : ℕ) → roots (Param t (suc i + j)) ≡ option_and_then object_of (slice_get kinds j)
      later j = let same : suc i + j ≡ i + suc j = omega arith in ap (λ k. roots (Param t k)) same ∙ named (suc j)
  parameter-values t i (types.Declared c ∷ kinds) named =
      let here : i ≡ i + 0 = omega arith in
      (ap (λ k. roots (Param t k)) here ∙ named 0, parameter-values t (suc i) kinds (λ j. later j))
    where
      later : (j : ℕ) → roots (Param t (suc i + j)) ≡ option_and_then object_of (slice_get kinds j)
      later j = let same : suc i + j ≡ i + suc j = omega arith in ap (λ k. roots (Param t k)) same ∙ named (suc j)
  parameter-values t i (types.Other ∷ kinds) named = (tt, parameter-values t (suc i) kinds (λ j. later j))
    where
      later : (j : ℕ) → roots (Param t (suc i + j)) ≡ option_and_then object_of (slice_get kinds j)
      later j = let same : suc i + j ≡ i + suc j = omega arith in ap (λ k. roots (Param t k)) same ∙ named (suc j)

  given-values : (t : ℕ) (method : Method) (static : Bool) → roots This ≡ Some (ObjectOf method.class) →
      AreValues core roots (map kind_of method.parameters) (parameters_from t 0 method.parameters) →
      AreValues core roots
      (map kind_of (cond static method.parameters (types.Declared method.class ∷ method.parameters)))
      (cond static [] (Ref (StartOf (root_path This)) ∷ []) ++ parameters_from t 0 method.parameters)
  given-values t method true this values = values
  given-values t method false this values = (this, values)

  entry-held : (t : ℕ) (method : Method) → IsKinded core method → roots This ≡ Some (ObjectOf method.class) →
      ((j : ℕ) → roots (Param t j) ≡ parameter_root j method.parameters) →
      AreHeld core roots method [] (entered method (given_to t method)).vars []
  entry-held t method kinded this named =
      entered-vars core roots method (given_to t method) kinded.begins
      (given-values t method method.is_static this (parameter-values t 0 method.parameters
      (λ j. let same : 0 + j ≡ j = omega arith in ap (λ k. roots (Param t k)) same ∙ named j)))

-- ---- runs of two entries of one class

pub program-keeps : (p : Program) (f g : Method) → Keeps (core_of p) (object_kinds (core_of p) (roots_of f g))
program-keeps p f g = objects-kept (core_of p) (roots_of f g) (λ c. refl) (is-kinded p)

pub entries-state : (p : Program) (m1 m2 : MethodId) (f g : Method) (start : Start) →
    method_at (core_of p) m1 ≡ Some f → method_at (core_of p) m2 ≡ Some g → is_analysed (core_of p) m1 ≡ true →
    is_analysed (core_of p) m2 ≡ true → f.class ≡ g.class →
    IsState (core_of p) (object_kinds (core_of p) (roots_of f g)) (begun (core_of p) m1 m2 start)
entries-state p m1 m2 f g start is_f is_g an_f an_g same =
    let core : Core = core_of p in
    let roots : Roots = roots_of f g in
    let kinded_f : IsKinded core f = is-kinded p m1 f is_f an_f in
    let kinded_g : IsKinded core g = is-kinded p m2 g is_g an_g in
    begun-state (object_kinds core roots) m1 m2 f g start is_f is_g (is-code core roots f kinded_f)
    (is-code core roots g kinded_g) (record { cell = λ o h v e. absurd cc })
    (entry-held core roots 0 f kinded_f refl (λ j. refl))
    (entry-held core roots 1 g kinded_g (ap (λ c. Some (ObjectOf c)) same) (λ j. refl))

-- the state behind legs that are made whole
pub run-state : (p : Program) (m1 m2 : MethodId) (f g : Method) → method_at (core_of p) m1 ≡ Some f →
    method_at (core_of p) m2 ≡ Some g → is_analysed (core_of p) m1 ≡ true → is_analysed (core_of p) m2 ≡ true →
    f.class ≡ g.class → (start : Start) (legs : List Leg) (s : State) →
    run (core_of p) legs (begun (core_of p) m1 m2 start) ≡ Some s →
    IsState (core_of p) (object_kinds (core_of p) (roots_of f g)) s
run-state p m1 m2 f g is_f is_g an_f an_g same start legs s came =
    legs-kept (program-keeps p f g) legs (begun (core_of p) m1 m2 start) s
    (entries-state p m1 m2 f g start is_f is_g an_f an_g same) came
