-- Calls, returns and locks keep what the kinds of typed classes say: a receiver is an object, and a lock has a monitor.
use Rattle.std.proofs.Common.{◌≡◌, ℕ, suc, ◌-◌, Bool, true, false, cond, List, [], ◌∷◌, Option, None, Some}
use Rattle.std.proofs.Common.{drop, length, map, replicate, reverse, slice_index_or, take}
use Rattle.std.proofs.Common.{refl, sym, ap, subst, ◌∙◌}
use Rattle.std.proofs.lemmas.Bool.{not-false}
use Rattle.std.proofs.lemmas.List.{length-drop, length-map}
use Rattle.racer_base.specs.declared.ids.ClassId.{ClassId}
use Rattle.racer_base.specs.declared.ids.Kind.{Kind}
use Rattle.racer_base.specs.declared.ids.Kind.TheVariants as types
use Rattle.racer_base.specs.declared.ids.MethodId.{MethodId}
use Rattle.core_code.specs.declared.code.LockKind.{LockKind}
use Rattle.core_code.specs.declared.code.Op.{Op as CoreOp}
use Rattle.core_code.specs.declared.code.Op.TheVariants.{Call, Ret}
use Rattle.core_code.specs.Calls.{method_at, taken_by}
use Rattle.core_code.specs.Core.{Core, Method}
use Rattle.core_semantics.specs.declared.object.StartRoot.TheVariants.{Class as StartClass}
use Rattle.core_semantics.specs.declared.object.Value.{Value}
use Rattle.core_semantics.specs.declared.object.Value.TheVariants as value
use Rattle.core_semantics.specs.Steps.{Inner, base_of, entered, inner_step, monitor_of}
use Rattle.core_semantics_kinds.specs.Kinding.{HasMonitor, HasObject, IsCalled, IsCode, IsInner, IsLocked, Keeps}
use Rattle.core_semantics_kinds.specs.Kinding.{StepKeeps, is_inner}
use Rattle.core_semantics_kinds.specs.PlaceValues.{Stand}
use Rattle.core_semantics_kinds.specs.Reached.{Roots, TheClass}
use Rattle.core_semantics_kinds.proofs.PlaceValues.{stand-append, stand-drop, stand-reverse, stand-top}
use Rattle.typed_core.specs.declared.kinds.TypedKind.{TypedKind}
use Rattle.typed_core.specs.declared.kinds.TypedKind.TheVariants as kind
use Rattle.typed_core.specs.declared.states.KindState.{KindState}
use Rattle.typed_core.specs.Kinds.{fits, kind_of}
use Rattle.typed_core.specs.Needs.{is_call_met, is_lockable, is_met}
use Rattle.typed_core.specs.States.{passed, replaced, start_of, top}
use Rattle.typed_core_laws.specs.TypedValues.{AreHeld, AreStored, IsAfter, IsOf, IsSo, IsSome, IsUnder, IsValue}
use Rattle.typed_core_laws.specs.TypedValues.{is_reached, typed_kinds}
use Rattle.typed_core_laws.proofs.TypedInner.{inner-kept}
use Rattle.typed_core_laws.proofs.TypedPlaces.{reference-some, stand-at, stand-take, value-fits, values-fit}

-- the code of each method that is reached goes with the kinds
abbrev pub AreCodes : (core : Core) → Roots → ClassId → Type 0
AreCodes core roots class =
    (m : MethodId) (callee : Method) → is_reached core class m ≡ true → method_at core m ≡ Some callee →
    IsCode core (typed_kinds core roots class) callee

module _ (core : Core) (roots : Roots) (class : ClassId) where
  abbrev Values : List TypedKind → List Value → Type 0
  Values ks vs = Stand (IsValue core roots class) ks vs

  abbrev unset : Kind → TypedKind
  unset local = kind.Unset

  -- ---- the variables that a method is entered with: what it takes, and nulls

  nulls : (kinds : List Kind) → Values (map unset kinds) (replicate (length kinds) value.Null)
  nulls [] = tt
  nulls (k ∷ kinds) = (tt, nulls kinds)

  values-long : (ks : List TypedKind) (vs : List Value) → Values ks vs → length vs ≡ length ks
  values-long [] [] h = refl
  values-long [] (v ∷ vs) h = absurd h
  values-long (k ∷ ks) [] h = absurd h
  values-long (k ∷ ks) (v ∷ vs) h = ap (λ (n : ℕ). suc n) (values-long ks vs h.1)

  pub entered-held : (method : Method) (xs : List Value) → Values (map kind_of (taken_by method)) xs →
      AreHeld core roots class (start_of method) (entered method xs).vars []
  entered-held method xs h =
      let taken : List Kind = taken_by method in
      let locals : List Kind = drop (length taken) method.variables in
      let long : length xs ≡ length taken =
      values-long (map kind_of taken) xs h ∙ length-map taken kind_of in
      let count : length locals ≡ length method.variables - length xs =
      length-drop (length taken) method.variables ∙ ap (λ (n : ℕ). length method.variables - n) (sym long) in
      record {
        vars =
            stand-append (IsValue core roots class) (map kind_of taken) (map unset locals) xs
            (replicate (length method.variables - length xs) value.Null) h
            (subst (λ (n : ℕ). Values (map unset locals) (replicate n value.Null)) count (nulls locals));
        stack = tt;
      }

  -- ---- receivers and monitors

  has-object : (c : ClassId) (v : Value) → IsOf core roots class c v →
      HasObject core (typed_kinds core roots class) (base_of v)
  has-object c value.Plain h = absurd h
  has-object c value.Opaque h = absurd h
  has-object c value.Null h = absurd h
  has-object c (value.Object o) h = tt

  has-monitor : (lock : LockKind) (v : Value) → IsSome v →
      HasMonitor core (typed_kinds core roots class) (monitor_of lock v)
  has-monitor lock value.Plain h = absurd h
  has-monitor lock value.Opaque h = tt
  has-monitor lock value.Null h = absurd h
  has-monitor lock (value.Object o) h = tt

  receiver : (static : Bool) (c : ClassId) (parameters : List Kind) (vs : List Value) → static ≡ false →
      Values (map kind_of (cond static parameters (types.Declared c ∷ parameters))) vs →
      HasObject core (typed_kinds core roots class) (base_of (slice_index_or vs 0 value.Null))
  receiver true c parameters vs e h = absurd cc
  receiver false c parameters vs e h =
      has-object c (slice_index_or vs 0 value.Null)
      (stand-top (IsValue core roots class) (kind.Object c) (map kind_of parameters) vs h)

  is-locked : (method : Method) (before under : Option KindState) (vars stack : List Value) → IsUnder before under →
      IsSo core roots class before vars stack → IsLocked core (typed_kinds core roots class) method under vars stack
  is-locked method None under vars stack step so = absurd so
  is-locked method (Some s) under vars stack step so =
      record {
        monitor = λ lock.
            has-monitor lock (slice_index_or stack 0 value.Null)
            (reference-some core roots class (top s) (slice_index_or stack 0 value.Null)
            (not-false (is_lockable s) step.met) (stand-at core roots class 0 s.stack stack so.stack));
        so =
            subst (λ (k : Option KindState). IsSo core roots class k vars (drop 1 stack)) (sym step.next)
            (record {
              vars = so.vars;
              stack = stand-drop (IsValue core roots class) 1 s.stack stack so.stack;
            });
      }

  is-result : (method : Method) (before after : Option KindState) (vars stack : List Value) →
      IsAfter core class method Ret before after → IsSo core roots class before vars stack →
      IsValue core roots class (kind_of method.result) (slice_index_or stack 0 value.Null)
  is-result method None after vars stack step so = absurd so
  is-result method (Some s) after vars stack step so =
      value-fits core roots class method.result (top s) (slice_index_or stack 0 value.Null)
      (not-false (fits method.result (top s)) step.met) (stand-at core roots class 0 s.stack stack so.stack)

  module _ (codes : AreCodes core roots class) where
    called : (method : Method) (m : MethodId) (n : ℕ) (s : KindState) (after : Option KindState)
        (vars stack : List Value) (o : Option Method) → method_at core m ≡ o → is_reached core class m ≡ true →
        is_call_met o n s ≡ true →
        after ≡ Some (replaced s n (elim o as (λ _. TypedKind) [ None ↦ kind.Other | Some x ↦ kind_of x.result ])) →
        AreHeld core roots class s vars stack →
        IsCalled core (typed_kinds core roots class) method m n after vars stack
    called method m n s after vars stack None there reached met next held = absurd cc
    called method m n s after vars stack (Some callee) there reached met next held =
        let given : List Value = reverse (take n stack) in
        let fit : Values (map kind_of (taken_by callee)) given =
        values-fit core roots class (taken_by callee) (passed s n) given met
        (stand-reverse (IsValue core roots class) (take n s.stack) (take n stack)
        (stand-take core roots class n s.stack stack held.stack)) in
        record {
          callee = callee;
          there = there;
          code = codes m callee reached there;
          passed = entered-held callee given fit;
          receiver = λ e. receiver callee.is_static callee.class callee.parameters given e fit;
          back = λ v h.
              subst (λ (k : Option KindState). IsSo core roots class k vars (v ∷ drop n stack)) (sym next)
              (record {
                vars = held.vars;
                stack = (h, stand-drop (IsValue core roots class) n s.stack stack held.stack);
              });
        }

    is-called : (method : Method) (m : MethodId) (n : ℕ) (before after : Option KindState) (vars stack : List Value) →
        IsAfter core class method (Call m n) before after → IsSo core roots class before vars stack →
        IsCalled core (typed_kinds core roots class) method m n after vars stack
    is-called method m n None after vars stack step so = absurd so
    is-called method m n (Some s) after vars stack step so =
        called method m n s after vars stack (method_at core m) refl step.allowed.0
        (not-false (is_call_met (method_at core m) n s) step.met) step.next so

    module _ (classes : (c : ClassId) → roots (StartClass c) ≡ Some (TheClass c)) where
      is-inner : (method : Method) (i : Inner) (op : CoreOp) (before after : Option KindState) → is_inner op ≡ true →
          IsAfter core class method op before after → AreStored core roots class i.store →
          IsSo core roots class before i.frame.vars i.frame.stack →
          StepKeeps core (typed_kinds core roots class)
          (IsInner core (typed_kinds core roots class) method after i.frame.todo) (inner_step core i op)
      is-inner method i op None after is step stored so = absurd so
      is-inner method i op (Some s) after is step stored so =
          subst (λ (k : Option KindState). StepKeeps core (typed_kinds core roots class)
          (IsInner core (typed_kinds core roots class) method k i.frame.todo) (inner_step core i op)) (sym step.next)
          (inner-kept core roots classes class method i op s is (not-false (is_met core method op s) step.met)
          step.allowed stored so)

      pub typed-keeps : Keeps core (typed_kinds core roots class)
      typed-keeps =
          record {
            inner = λ method i op a b is step stored so. is-inner method i op a b is step stored so;
            call = λ method m n a b vars stack step so. is-called method m n a b vars stack step so;
            result = λ method a b vars stack step so. is-result method a b vars stack step so;
            lock = λ method a b vars stack step so. is-locked method a b vars stack step so;
          }
