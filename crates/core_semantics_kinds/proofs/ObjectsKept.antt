-- The kinds of core code keep what is known of start objects: operations, calls, returns and locks.
use Rattle.std.proofs.Common.{◌≡◌, ℕ, Bool, true, false, cond, List, [], ◌∷◌, ◌++◌, ◌-◌, Option, None, Some, arith}
use Rattle.std.proofs.Common.{drop, length, map, nat_eq, replicate, reverse, slice_index_or, take}
use Rattle.std.proofs.Common.{refl, sym, ap, subst, ◌∙◌}
use Rattle.std.proofs.lemmas.Bool.{eqb-true, and_parts}
use Rattle.std.proofs.lemmas.List.{length-reverse}
use Rattle.std.specs.Prelude.{Result, Ok, Err}
use Rattle.racer_base.specs.declared.ids.ClassId.{ClassId}
use Rattle.racer_base.specs.declared.ids.Kind.{Kind}
use Rattle.racer_base.specs.declared.ids.MethodId.{MethodId}
use Rattle.core_code.specs.declared.code.Op.TheVariants.{Call}
use Rattle.core_code.specs.Calls.{is_analysed, method_at, taken_by}
use Rattle.core_code.specs.CallFacts.{is_right_call, takes}
use Rattle.core_code.specs.Core.{Core, Method}
use Rattle.core_code.specs.KindCheck.{Kinds, after_call, after_return, and_then, begins_with, below_fitting}
use Rattle.core_code.specs.KindCheck.{kinds_after, same_declared_kind}
use Rattle.core_code.specs.Kinds.{StackKind, fits, kind_of}
use Rattle.core_code.proofs.KindLemmas.{equal_kinds, where-is, IsWhere}
use Rattle.core_semantics.specs.declared.answer.Holder.{Holder}
use Rattle.core_semantics.specs.declared.answer.Why.{Why}
use Rattle.core_semantics.specs.declared.object.Object.{Object}
use Rattle.core_semantics.specs.declared.object.StartRoot.TheVariants.{Class as StartClass}
use Rattle.core_semantics.specs.declared.object.Value.{Value}
use Rattle.core_semantics.specs.declared.object.Value.TheVariants.{Null}
use Rattle.core_semantics.specs.Steps.{base_of, entered, monitor_of}
use Rattle.core_semantics_kinds.specs.Kinding.{HasMonitor, HasObject, IsCalled, IsCode, IsLocked, Keeps}
use Rattle.core_semantics_kinds.specs.ObjectKinds.{AreHeld, AreValues, IsAfter, IsUnder, IsValue, object_kinds}
use Rattle.core_semantics_kinds.specs.PlaceValues.{Suits}
use Rattle.core_semantics_kinds.specs.Reached.{Roots, TheClass}
use Rattle.core_semantics_kinds.proofs.InnerKept.{inner-kept}
use Rattle.core_semantics_kinds.proofs.KindValues.{value-fits}
use Rattle.core_semantics_kinds.proofs.ObjectCode.{HasRight, leads}
use Rattle.core_semantics_kinds.proofs.PlaceValues.{ArePassed, passed, stand-drop, stand-top}

-- the code of a method is kinded, from its variables on
pub record IsKinded (core : Core) (method : Method) : Type 0 where
  pub kinds : List StackKind
  pub kinded : kinds_after core method method.code [] ≡ Some kinds
  pub begins : begins_with (taken_by method) method.variables ≡ true
  pub calls : HasRight core method.code

-- ---- what a call takes

record IsTaken (callee : Method) (n : ℕ) (ks after : List StackKind) : Type 0 where
  many : n ≡ length (taken_by callee)
  rest : List StackKind
  suits : below_fitting (reverse (taken_by callee)) ks ≡ Some rest
  leaves : kind_of callee.result ∷ rest ≡ after

below-rest : (kind : StackKind) (o : Kinds) (after : List StackKind) →
    and_then o (λ rest. Some (kind ∷ rest)) ≡ Some after →
    (rest : List StackKind) × (o ≡ Some rest) × (kind ∷ rest ≡ after)
below-rest kind None after is = absurd cc
below-rest kind (Some rest) after is = (rest, refl, cc)

taken : (core : Core) (callee : Method) (m : MethodId) (n : ℕ) (ks after : List StackKind) →
    method_at core m ≡ Some callee → is_right_call core (Call m n) ≡ true →
    after_call (method_at core m) ks ≡ Some after → IsTaken callee n ks after
taken core callee m n ks after there right e =
    let called : after_call (Some callee) ks ≡ Some after =
    sym (ap (λ (o : Option Method). after_call o ks) there) ∙ e in
    let takes_all : takes core m n ≡ true = (and_parts (is_analysed core m) (takes core m n) right).1 in
    let same : n ≡ length (taken_by callee) = eqb-true n (length (taken_by callee))
    (sym (ap (λ (o : Option Method). elim o as (λ _. Bool) [
      | None ↦ false
      | Some x ↦ nat_eq n (length (taken_by x))
    ]) there) ∙ takes_all) in
    let rest = below-rest (kind_of callee.result) (below_fitting (reverse (taken_by callee)) ks) after called in
    record { many = same; rest = rest.0; suits = rest.1; leaves = rest.2 }

module _ (core : Core) (roots : Roots) where
  suits : (kinds : List Kind) (ks rest : List StackKind) → below_fitting kinds ks ≡ Some rest →
      Suits (IsValue core roots) kind_of kinds ks rest
  suits [] ks rest e = cc
  suits (kind ∷ kinds) [] rest e = absurd cc
  suits (kind ∷ kinds) (k ∷ ks) rest e =
      (elim (fits kind k) as (λ b. fits kind k ≡ b → cond b (below_fitting kinds ks) None ≡ Some rest →
      Suits (IsValue core roots) kind_of (kind ∷ kinds) (k ∷ ks) rest) [
        | true ↦ λ t is. (λ v h. value-fits core roots kind k v t h, suits kinds ks rest is)
        | false ↦ λ t is. absurd cc
      ]) refl e

  -- ---- the variables that a method is entered with: what it takes, and nulls

  nulls : (kinds : List Kind) → AreValues core roots (map kind_of kinds) (replicate (length kinds) Null)
  nulls [] = tt
  nulls (kind ∷ kinds) = (tt, nulls kinds)

  same-places : (kind other : Kind) (x : Value) → same_declared_kind kind other ≡ true →
      IsValue core roots (kind_of kind) x → IsValue core roots (kind_of other) x
  same-places kind other x e h =
      subst (λ (k : StackKind). IsValue core roots k x) (equal_kinds (kind_of kind) (kind_of other) e) h

  nulls-behind : (taken kinds : List Kind) (xs : List Value) (n : ℕ) → n ≡ length kinds - length xs →
      begins_with taken kinds ≡ true → AreValues core roots (map kind_of taken) xs →
      AreValues core roots (map kind_of kinds) (xs ++ replicate n Null)
  nulls-behind [] kinds [] n many e h =
      let all : length kinds ≡ n = omega (arith, many) in
      subst (λ (i : ℕ). AreValues core roots (map kind_of kinds) (replicate i Null)) all (nulls kinds)
  nulls-behind [] kinds (x ∷ xs) n many e h = absurd h
  nulls-behind (kind ∷ taken) kinds [] n many e h = absurd h
  nulls-behind (kind ∷ taken) [] (x ∷ xs) n many e h = absurd cc
  nulls-behind (kind ∷ taken) (other ∷ kinds) (x ∷ xs) n many e h =
      let left : n ≡ length kinds - length xs = omega (arith, many) in (
        same-places kind other x (and_parts (same_declared_kind kind other) (begins_with taken kinds) e).0 h.0,
        nulls-behind taken kinds xs n left
            (and_parts (same_declared_kind kind other) (begins_with taken kinds) e).1 h.1,
      )

  pub entered-vars : (method : Method) (xs : List Value) → begins_with (taken_by method) method.variables ≡ true →
      AreValues core roots (map kind_of (taken_by method)) xs →
      AreHeld core roots method [] (entered method xs).vars []
  entered-vars method xs begins h =
      record {
        vars =
            nulls-behind (taken_by method) method.variables xs (length method.variables - length xs) refl begins h;
        stack = tt;
      }

  pub is-code : (method : Method) → IsKinded core method → IsCode core (object_kinds core roots) method
  is-code method kinded =
      record {
        ends = kinded.kinds;
        leads = leads core roots method method.code [] kinded.kinds kinded.kinded kinded.calls;
      }

  -- ---- calls, returns and locks

  has-object : (r : Result Object Why) → HasObject core (object_kinds core roots) r
  has-object (Ok o) = tt
  has-object (Err why) = tt

  has-monitor : (r : Result Holder Why) → HasMonitor core (object_kinds core roots) r
  has-monitor (Ok monitor) = tt
  has-monitor (Err why) = tt

  is-called : (method callee : Method) (m : MethodId) (n : ℕ) (ks after : List StackKind) (vars stack : List Value) →
      method_at core m ≡ Some callee → IsKinded core callee → IsTaken callee n ks after →
      AreHeld core roots method ks vars stack → IsCalled core (object_kinds core roots) method m n after vars stack
  is-called method callee m n ks after vars stack there kinded t held =
      let many : ℕ = length (reverse (taken_by callee)) in
      let all : ArePassed (IsValue core roots) kind_of (taken_by callee) t.rest stack many =
      passed (IsValue core roots) kind_of (taken_by callee) ks t.rest stack
      (suits (reverse (taken_by callee)) ks t.rest t.suits) held.stack in
      let so : ArePassed (IsValue core roots) kind_of (taken_by callee) t.rest stack n =
      subst (λ (i : ℕ). ArePassed (IsValue core roots) kind_of (taken_by callee) t.rest stack i)
      (length-reverse (taken_by callee) ∙ sym t.many) all in
      record {
        callee = callee;
        there = there;
        code = is-code callee kinded;
        passed = entered-vars callee (reverse (take n stack)) kinded.begins so.passed;
        receiver = λ e. has-object (base_of (slice_index_or (reverse (take n stack)) 0 Null));
        back = λ v value.
            record {
              vars = held.vars;
              stack =
                  subst (λ (a : List StackKind). AreValues core roots a (v ∷ drop n stack)) t.leaves
                  (value, so.under);
            };
      }

  result-fits : (method : Method) (ks after : List StackKind) (stack : List Value) →
      after_return method.result ks ≡ Some after → AreValues core roots ks stack →
      IsValue core roots (kind_of method.result) (slice_index_or stack 0 Null)
  result-fits method [] after stack e h = absurd cc
  result-fits method (k ∷ ks) after stack e h =
      let w : IsWhere (fits method.result k) ks after = where-is (fits method.result k) ks after e in
      value-fits core roots method.result k (slice_index_or stack 0 Null) w.holds
      (stand-top (IsValue core roots) k ks stack h)

  lock-popped : (method : Method) (ks under : List StackKind) (vars stack : List Value) → IsUnder ks under →
      AreHeld core roots method ks vars stack → IsLocked core (object_kinds core roots) method under vars stack
  lock-popped method ks under vars stack u held =
      record {
        monitor = λ kind. has-monitor (monitor_of kind (slice_index_or stack 0 Null));
        so =
            record {
              vars = held.vars;
              stack =
                  stand-drop (IsValue core roots) 1 (u.lock ∷ under) stack
                  (subst (λ (a : List StackKind). AreValues core roots a stack) u.is held.stack);
            };
      }

module _ (core : Core) (roots : Roots) (classes : (c : ClassId) → roots (StartClass c) ≡ Some (TheClass c))
    (methods : (m : MethodId) (callee : Method) → method_at core m ≡ Some callee → is_analysed core m ≡ true →
    IsKinded core callee) where
  call-passes : (method : Method) (m : MethodId) (n : ℕ) (ks after : List StackKind) (vars stack : List Value)
      (o : Option Method) → method_at core m ≡ o → IsAfter core method (Call m n) ks after →
      AreHeld core roots method ks vars stack → IsCalled core (object_kinds core roots) method m n after vars stack
  call-passes method m n ks after vars stack None there step held =
      let none : after_call None ks ≡ Some after =
      sym (ap (λ (o : Option Method). after_call o ks) there) ∙ step.kinded in
      absurd cc
  call-passes method m n ks after vars stack (Some callee) there step held =
      is-called core roots method callee m n ks after vars stack there
      (methods m callee there (and_parts (is_analysed core m) (takes core m n) step.right).0)
      (taken core callee m n ks after there step.right step.kinded) held

  pub objects-kept : Keeps core (object_kinds core roots)
  objects-kept =
      record {
        inner = λ method i op ks after is step stored so.
            inner-kept core roots classes method i op ks after step.kinded stored so.vars so.stack;
        call = λ method m n ks after vars stack step so.
            call-passes method m n ks after vars stack (method_at core m) refl step so;
        result = λ method ks after vars stack step so.
            result-fits core roots method ks after stack step.kinded so.stack;
        lock = λ method ks under vars stack pops so. lock-popped core roots method ks under vars stack pops so;
      }
