-- Calls and object creations are kinded.
use Rattle.std.proofs.Common.{◌≡◌, ◌≤◌, ℕ, suc, ◌+◌, ◌-◌, ◌==◌, Bool, true, false, cond, List, [], ◌∷◌, ◌++◌, Option}
use Rattle.std.proofs.Common.{Some, None}
use Rattle.std.proofs.Common.{length, take, refl, sym, ap, ◌∙◌, subst, arith, append_assoc}
use Rattle.std.proofs.Common.{length-append, reverse}
use Rattle.std.proofs.lemmas.List.{length-take-le}
use Rattle.racer_base.specs.declared.ids.ClassId.{ClassId}
use Rattle.racer_base.specs.declared.ids.MethodId.{MethodId}
use Rattle.racer_base.specs.declared.ids.Kind.{Kind}
use Rattle.racer_base.specs.declared.ids.Kind.TheVariants as types
use Rattle.racer_base.specs.declared.ids.Place.{Place}
use Rattle.java_tree.specs.declared.words.Ident.{Ident}
use Rattle.java_resolver.specs.declared.infos.MethodInfo.{MethodInfo}
use Rattle.java_resolver.specs.Declarations.{constructor_name}
use Rattle.java_resolver.specs.Meanings.{found}
use Rattle.core_code.specs.declared.code.Op.TheVariants.{New, Drop, Outside, Call, Unread}
use Rattle.core_code.specs.Core as core_specs
use Rattle.core_code.specs.Core.{Core}
use Rattle.core_code.specs.Calls.{taken_by}
use Rattle.core_code.specs.Calls as core_calls
use Rattle.core_code.specs.CallFacts.{is_right_call}
use Rattle.std.proofs.Common.{is_none, nat_eq, not}
use Rattle.std.proofs.lemmas.Bool.{eq-eqb, and_from}
use borrow.Author.Tests.{eqb-true}
use Rattle.core_code.specs.Kinds.{StackKind, Declared, Opaque, kind_of, fits_class}
use Rattle.core_code.specs.KindCheck.{Kinds, and_then, below_fitting, after_call}
use Rattle.core_code.proofs.KindLemmas.{class_same}
use Rattle.core_lowering_rules.specs.ValueKinds.{ValueKind, Of}
use Rattle.core_lowering_rules.specs.ValueKinds as value
use Rattle.core_lowering_rules.specs.Context.{Context, Code, op_at, op, push_this, is_analysed}
use Rattle.core_lowering_rules.specs.Calls.{Callee, Missing, OfClass, OfObject, info_at, callee_of, callee_found}
use Rattle.core_lowering_rules.specs.Calls.{callee_in}
use Rattle.core_lowering_rules.specs.Calls.{if_static, own_callee, callee_on, result_of, result_kind}
use Rattle.core_lowering_rules.specs.Calls.{parameters_of, given_kinds, parameter_kinds, gathered, call_of, call_at}
use Rattle.core_lowering_rules.specs.Calls.{Passing, called}
use Rattle.core_lowering_rules.specs.Calls.{called_on_value}
use Rattle.core_lowering_rules.specs.Calls.{called_on}
use Rattle.core_lowering_rules.specs.Calls.{constructor_of, constructor_among, made_by, made}
use Rattle.core_lowering_rules.proofs.Suits.{suits-own, suits-opaque}
use Rattle.core_lowering_rules.proofs.Runs.{Runs, nothing, followed, once, outside, popped}
use Rattle.core_lowering_rules.proofs.Runs.{in_turn_3, grouped}
use Rattle.core_lowering_rules.proofs.FoundElements.{IsEnough, MethodThere, method-there}
use Rattle.core_lowering_rules.proofs.Stands.{Stands, HasMethod, taken_of}
use Rattle.core_lowering_rules.proofs.KindedAccesses.{Leaves, pushes}
use Rattle.core_lowering_rules.proofs.KindedArguments.{below_first, one_more, all-fit, PassedTo, with-last}

-- the arguments, and what makes one value of some, leave the values that a method with these parameters takes
record GivenTo (core : Core) (m : core_specs.Method) (arguments made_one : Code) (parameters : List Kind)
    (stack : List StackKind) : Type 0
  where
    between : List StackKind
    values : List StackKind
    first : Runs core m arguments stack between
    second : Runs core m made_one between (values ++ stack)
    many : length values ≡ length parameters
    fit : (rest : List StackKind) → below_fitting (reverse parameters) (values ++ rest) ≡ Some rest

-- code that leaves an object of a class, or what may be one
pub record Receives (core : Core) (m : core_specs.Method) (code : Code) (c : ClassId) : Type 0 where
  pub leaves : (stack : List StackKind) →
      (s : StackKind) × Runs core m code stack (s ∷ stack) × (fits_class c s ≡ true)

-- what is known of a method that is called
pub record CalleeInfo (context : Context) (n : MethodId) (c : ClassId) (count : ℕ) (is_static : Bool) : Type 0 where
  pub info : MethodInfo
  pub there : info_at context n ≡ Some info
  pub class_is : info.class ≡ c
  pub enough : IsEnough count (length info.parameters)
  pub static_is : info.is_static ≡ is_static

abbrev pub IsCallee : Context → ClassId → ℕ → Callee → Type 0
IsCallee context c count Missing = Unit {0}
IsCallee context c count (OfClass n) = CalleeInfo context n c count true
IsCallee context c count (OfObject n) = CalleeInfo context n c count false

-- the same where the object is `this`
abbrev pub IsOwn : Context → ClassId → ℕ → Callee → Type 0
IsOwn context c count Missing = Unit {0}
IsOwn context c count (OfClass n) = CalleeInfo context n c count true
IsOwn context c count (OfObject n) =
    CalleeInfo context n c count false × (context.scope.is_static ≡ false) × (c ≡ context.scope.class)

module _ (core : Core) (m : core_specs.Method) (context : Context) (stands : Stands core m context) where
  -- ---- what is called

  by-static : (n : MethodId) (c : ClassId) (count : ℕ) (h : MethodThere context.folder.methods c count n) (b : Bool) →
      h.info.is_static ≡ b → IsCallee context c count (cond b (OfClass n) (OfObject n))
  by-static n c count h true e =
      record { info = h.info; there = h.there; class_is = h.class_is; enough = h.enough; static_is = e }
  by-static n c count h false e =
      record { info = h.info; there = h.there; class_is = h.class_is; enough = h.enough; static_is = e }

  is-found : (c : ClassId) (name : List ℕ) (count : ℕ) (o : Option MethodId) →
      found context.folder.methods c name count ≡ o → IsCallee context c count (callee_found context o)
  is-found c name count None e = tt
  is-found c name count (Some n) e =
      let h = method-there context.folder.methods c name count n e in
      subst (λ o. IsCallee context c count (callee_of n o)) (sym h.there)
      (by-static n c count h h.info.is_static refl)

  is-callee : (c : ClassId) (name : List ℕ) (count : ℕ) → IsCallee context c count (callee_in context c name count)
  is-callee c name count = is-found c name count (found context.folder.methods c name count) refl

  static-own : (c : ClassId) (count : ℕ) (callee : Callee) → IsCallee context c count callee →
      IsOwn context c count (if_static callee)
  static-own c count Missing h = tt
  static-own c count (OfClass n) h = h
  static-own c count (OfObject n) h = tt

  object-own : (count : ℕ) (callee : Callee) → context.scope.is_static ≡ false →
      IsCallee context context.scope.class count callee → IsOwn context context.scope.class count callee
  object-own count Missing e h = tt
  object-own count (OfClass n) e h = h
  object-own count (OfObject n) e h = (h, e, refl)

  own-by : (x : Ident) (count : ℕ) (b : Bool) → context.scope.is_static ≡ b →
      IsOwn context context.scope.class count
      (cond b (if_static (callee_in context context.scope.class x.text count))
      (callee_in context context.scope.class x.text count))
  own-by x count true e = static-own context.scope.class count _ (is-callee context.scope.class x.text count)
  own-by x count false e = object-own count _ e (is-callee context.scope.class x.text count)

  pub is-own : (x : Ident) (count : ℕ) → IsOwn context context.scope.class count (own_callee context x count)
  is-own x count = own-by x count context.scope.is_static refl

  -- ---- the call

  call-right : (n : MethodId) (info : MethodInfo) (count : ℕ) → HasMethod core n info →
      length (taken_of info) ≡ count → is_right_call core (Call n count) ≡ true
  call-right n info count h many =
      and_from (core_calls.is_analysed core n) _
      (ap (λ o. elim o as (λ _. Bool) [ None ↦ false | Some method ↦ is_none method.status ]) h.there ∙ h.analysed)
      (ap (λ o. elim o as (λ _. Bool) [ None ↦ false | Some method ↦ nat_eq count (length (taken_by method)) ]) h.there
      ∙ eq-eqb count (length (taken_by h.method)) (sym many ∙ ap (length {A = Kind}) (sym h.takes)))

  calls : (place : Place) (n : MethodId) (info : MethodInfo) (count : ℕ) (values stack : List StackKind) →
      HasMethod core n info → length values ≡ count → length (taken_of info) ≡ count →
      below_fitting (reverse (taken_of info)) (values ++ stack) ≡ Some stack →
      Runs core m (op_at place (Call n count)) (values ++ stack) (kind_of info.result ∷ stack)
  calls place n info count values stack h many taken e =
      once core m place (Call n count) values (kind_of info.result ∷ []) stack many refl
      (call-right n info count h taken)
      (ap (λ o. after_call o (values ++ stack)) h.there
      ∙ ap (λ kinds. and_then (below_fitting (reverse kinds) (values ++ stack))
      (λ rest. Some (kind_of h.method.result ∷ rest))) h.takes
      ∙ ap (λ (o : Kinds). and_then o (λ rest. Some (kind_of h.method.result ∷ rest))) e
      ∙ ap (λ k. Some (kind_of k ∷ stack)) h.gives)

  unreads : (place : Place) (n : MethodId) (count : ℕ) (values stack : List StackKind) → is_analysed context n ≡ false →
      length values ≡ count → Runs core m (op_at place (Unread n count)) (values ++ stack) (Opaque ∷ stack)
  unreads place n count values stack e many =
      once core m place (Unread n count) values (Opaque ∷ []) stack many refl (ap not (stands.known.unread n e))
      (popped Opaque values stack count many)

  abbrev taken_by_test : MethodInfo → Bool → List Kind
  taken_by_test info b = cond b info.parameters (types.Declared info.class ∷ info.parameters)

  given-by : (ks : List Kind) (count : ℕ) (arguments : Passing) →
      ((kinds : List Kind) → PassedTo core m (arguments kinds) kinds count) → IsEnough count (length ks) →
      (stack : List StackKind) (b : Bool) → (count == length ks) ≡ b →
      GivenTo core m (arguments (cond b ks (take (length ks - 1) ks)))
      (cond b [] (op context (Outside (count - (length ks - 1))))) ks stack
  given-by ks count arguments passing enough stack true e =
      let p = (passing ks).passes stack in
      let same : count ≡ length ks = eqb-true count (length ks) e in
      record {
        between = p.0 ++ stack;
        values = p.0;
        first = p.1;
        second = nothing core m (p.0 ++ stack);
        many = p.2 ∙ same;
        fit = all-fit ks p.0 count (p.3 (omega (arith, same))) (sym same);
      }
  given-by ks count arguments passing enough stack false e =
      let front = take (length ks - 1) ks in
      let known = enough e in
      let some : 1 ≤ length ks = known.0 in
      let few : length ks ≤ suc count = known.1 in
      let size : length front ≡ length ks - 1 = length-take-le (length ks - 1) ks (omega arith) in
      let p = (passing front).passes stack in
      let f = p.3 (omega (arith, size, few)) in
      let total : length f.others + length front ≡ count = f.many in
      let left : length f.others ≡ count - (length ks - 1) = omega (arith, total, size) in
      let all : length (f.others ++ f.own) ≡ count = ap (length {A = StackKind}) (sym f.parts) ∙ p.2 in
      let sum : length (f.others ++ f.own) ≡ length f.others + length f.own = length-append f.others f.own in
      let own : suc (length f.own) ≡ length ks = omega (arith, total, size, all, sum, some) in
      record {
        between = p.0 ++ stack;
        values = Opaque ∷ f.own;
        first = p.1;
        second = subst (λ (before : List StackKind).
            Runs core m (op context (Outside (count - (length ks - 1)))) before (Opaque ∷ (f.own ++ stack)))
            (sym (ap (λ (v : List StackKind). v ++ stack) f.parts ∙ append_assoc f.others f.own stack))
            (outside core m context.place f.others (f.own ++ stack) (count - (length ks - 1)) left);
        many = own;
        fit = λ rest. with-last ks some f.own rest (f.fit rest);
      }

  given : (ks : List Kind) (count : ℕ) (arguments : Passing) →
      ((kinds : List Kind) → PassedTo core m (arguments kinds) kinds count) → IsEnough count (length ks) →
      (stack : List StackKind) →
      GivenTo core m (arguments (given_kinds count ks)) (gathered context count (length ks)) ks stack
  given ks count arguments passing enough stack =
      given-by ks count arguments passing enough stack (count == length ks) refl

  static-call : (place : Place) (n : MethodId) (info : MethodInfo) (count : ℕ) (arguments : Passing) →
      ((kinds : List Kind) → PassedTo core m (arguments kinds) kinds count) → info_at context n ≡ Some info →
      info.is_static ≡ true → IsEnough count (length info.parameters) → (b : Bool) → is_analysed context n ≡ b →
      Leaves core m (arguments (cond b (given_kinds count info.parameters) [])
      ++ cond b (call_of context place n false count (length info.parameters)) (op_at place (Unread n count)))
      (Of info.result)
  static-call place n info count arguments passing there static_is enough true e =
      record {
        leaves = λ stack.
            let g = given info.parameters count arguments passing enough stack in
            let parameters = length info.parameters in
            let takes : below_fitting (reverse (taken_of info)) (g.values ++ stack) ≡ Some stack =
            ap (λ b. below_fitting (reverse (cond b info.parameters (types.Declared info.class ∷ info.parameters)))
            (g.values ++ stack)) static_is ∙ g.fit stack in (
              kind_of info.result,
              suits-own info.result,
              followed core m g.first
                  (followed core m g.second
                  (calls place n info parameters g.values stack (stands.known.methods n info there e) g.many
                  (ap (λ b. length (taken_by_test info b)) static_is) takes)),
            );
      }
  static-call place n info count arguments passing there static_is enough false e =
      record {
        leaves = λ stack.
            let p = (passing []).passes stack in (
              Opaque,
              suits-opaque info.result,
              followed core m p.1 (unreads place n count p.0 stack e p.2),
            );
      }

  pub static-called : (place : Place) (n : MethodId) (c : ClassId) (count : ℕ) (arguments : Passing) →
      ((kinds : List Kind) → PassedTo core m (arguments kinds) kinds count) → CalleeInfo context n c count true →
      Leaves core m (arguments (parameter_kinds context n count) ++ call_at context place n false count)
      (result_of (info_at context n))
  static-called place n c count arguments passing h =
      subst (λ o. Leaves core m
      (arguments (cond (is_analysed context n) (given_kinds count (parameters_of o)) [])
      ++ cond (is_analysed context n) (call_of context place n false count (length (parameters_of o)))
      (op_at place (Unread n count))) (result_of o))
      (sym h.there)
      (static-call place n h.info count arguments passing h.there h.static_is h.enough (is_analysed context n) refl)

  object-call : (place : Place) (n : MethodId) (info : MethodInfo) (count : ℕ) (receiver : Code) (arguments : Passing) →
      ((kinds : List Kind) → PassedTo core m (arguments kinds) kinds count) → Receives core m receiver info.class →
      info_at context n ≡ Some info → info.is_static ≡ false → IsEnough count (length info.parameters) → (b : Bool) →
      is_analysed context n ≡ b →
      Leaves core m
      (receiver ++ arguments (cond b (given_kinds count info.parameters) [])
      ++ cond b (call_of context place n true count (length info.parameters)) (op_at place (Unread n (suc count))))
      (Of info.result)
  object-call place n info count receiver arguments passing r there static_is enough true e =
      record {
        leaves = λ stack.
            let object = r.leaves stack in
            let parameters = length info.parameters in
            let g = given info.parameters count arguments passing enough (object.0 ∷ stack) in
            let values = g.values ++ object.0 ∷ [] in
            let grouped_values = append_assoc g.values (object.0 ∷ []) stack in
            let takes : below_fitting (reverse (taken_of info)) (values ++ stack) ≡ Some stack =
            ap (below_fitting (reverse (taken_of info))) grouped_values
            ∙ ap (λ b. below_fitting (reverse (taken_by_test info b)) (g.values ++ object.0 ∷ stack)) static_is
            ∙ below_first (types.Declared info.class) info.parameters g.values object.0 stack
            (g.fit (object.0 ∷ stack)) object.2 in
            let taken : length (taken_of info) ≡ suc parameters =
            ap (λ b. length (taken_by_test info b)) static_is in
            let runs : Runs core m (op_at place (Call n (suc parameters))) (g.values ++ object.0 ∷ stack)
            (kind_of info.result ∷ stack) =
            subst (λ before. Runs core m (op_at place (Call n (suc parameters))) before (kind_of info.result ∷ stack))
            grouped_values
            (calls place n info (suc parameters) values stack (stands.known.methods n info there e)
            (one_more g.values object.0 parameters g.many) taken takes) in (
              kind_of info.result,
              suits-own info.result,
              in_turn_3 core m object.1 g.first (followed core m g.second runs),
            );
      }
  object-call place n info count receiver arguments passing r there static_is enough false e =
      record {
        leaves = λ stack.
            let object = r.leaves stack in
            let p = (passing []).passes (object.0 ∷ stack) in
            let runs : Runs core m (op_at place (Unread n (suc count))) (p.0 ++ object.0 ∷ stack) (Opaque ∷ stack) =
            subst (λ before. Runs core m (op_at place (Unread n (suc count))) before (Opaque ∷ stack))
            (append_assoc p.0 (object.0 ∷ []) stack)
            (unreads place n (suc count) (p.0 ++ object.0 ∷ []) stack e (one_more p.0 object.0 count p.2)) in
            (Opaque, suits-opaque info.result, in_turn_3 core m object.1 p.1 runs);
      }

  pub object-called : (place : Place) (n : MethodId) (c : ClassId) (count : ℕ) (receiver : Code) (arguments : Passing) →
      ((kinds : List Kind) → PassedTo core m (arguments kinds) kinds count) → Receives core m receiver c →
      CalleeInfo context n c count false →
      Leaves core m (receiver ++ arguments (parameter_kinds context n count) ++ call_at context place n true count)
      (result_of (info_at context n))
  object-called place n c count receiver arguments passing r h =
      subst (λ o. Leaves core m
      (receiver ++ arguments (cond (is_analysed context n) (given_kinds count (parameters_of o)) [])
      ++ cond (is_analysed context n) (call_of context place n true count (length (parameters_of o)))
      (op_at place (Unread n (suc count)))) (result_of o)) (sym h.there)
      (object-call place n h.info count receiver arguments passing
      (subst (λ d. Receives core m receiver d) (sym h.class_is) r) h.there h.static_is h.enough
      (is_analysed context n) refl)

  -- ---- forms

  this-received : context.scope.is_static ≡ false → Receives core m (push_this context) context.scope.class
  this-received e =
      record {
        leaves = λ stack. (
          Declared context.scope.class,
          pushes core m context stands context.place (record { 0 = 0 }) (types.Declared context.scope.class) stack
              (stands.object e),
          class_same context.scope.class,
        );
      }

  received : {e : Code} (c : ClassId) → Leaves core m e (Of (types.Declared c)) → Receives core m e c
  received c l = record { leaves = λ stack. let value = l.leaves stack in (value.0, value.2, value.1) }

  -- f(..)
  pub called-leaves : (place : Place) (c : ClassId) (count : ℕ) (arguments : Passing) →
      ((kinds : List Kind) → PassedTo core m (arguments kinds) kinds count) → (callee : Callee) →
      IsOwn context c count callee →
      Leaves core m (called context place count arguments callee) (result_kind context callee)
  called-leaves place c count arguments passing Missing h =
      record {
        leaves = λ stack.
            let p = (passing []).passes stack in
            (Opaque, tt, followed core m p.1 (outside core m context.place p.0 stack count p.2));
      }
  called-leaves place c count arguments passing (OfClass n) h = static-called place n c count arguments passing h
  called-leaves place c count arguments passing (OfObject n) h =
      object-called place n c count (push_this context) arguments passing
      (subst (λ d. Receives core m (push_this context) d) (sym h.2) (this-received h.1)) h.0

  -- e.f(..)
  dropped-call : (place : Place) (n : MethodId) (c : ClassId) (count : ℕ) (e : Code) (arguments : Passing) →
      ((kinds : List Kind) → PassedTo core m (arguments kinds) kinds count) → {kind : ValueKind} →
      Leaves core m e kind → CalleeInfo context n c count true →
      Leaves core m
      (e ++ op context Drop ++ arguments (parameter_kinds context n count) ++ call_at context place n false count)
      (result_of (info_at context n))
  dropped-call place n c count e arguments passing l h =
      record {
        leaves = λ stack.
            let value = l.leaves stack in
            let rest = (static-called place n c count arguments passing h).leaves stack in (
              rest.0,
              rest.1,
              grouped core m (e ++ op context Drop) (arguments (parameter_kinds context n count))
                  (call_at context place n false count)
                  (in_turn_3 core m value.2 (once core m context.place Drop
                  (value.0 ∷ []) [] stack refl refl refl refl) rest.2),
            );
      }

  missing-on : (place : Place) (count : ℕ) (e : Code) (arguments : Passing) →
      ((kinds : List Kind) → PassedTo core m (arguments kinds) kinds count) → {kind : ValueKind} →
      Leaves core m e kind →
      Leaves core m (e ++ arguments [] ++ op context (Outside (suc count))) (Of types.Other)
  missing-on place count e arguments passing l =
      record {
        leaves = λ stack.
            let value = l.leaves stack in
            let p = (passing []).passes (value.0 ∷ stack) in
            let pops : Runs core m (op context (Outside (suc count))) (p.0 ++ value.0 ∷ stack) (Opaque ∷ stack) =
            subst (λ before. Runs core m (op context (Outside (suc count))) before (Opaque ∷ stack))
            (append_assoc p.0 (value.0 ∷ []) stack)
            (outside core m context.place (p.0 ++ value.0 ∷ []) stack (suc count) (one_more p.0 value.0 count p.2)) in
            (Opaque, tt, in_turn_3 core m value.2 p.1 pops);
      }

  called_on_value-leaves : (place : Place) (c : ClassId) (count : ℕ) (e : Code) (arguments : Passing) →
      ((kinds : List Kind) → PassedTo core m (arguments kinds) kinds count) →
      Leaves core m e (Of (types.Declared c)) → (callee : Callee) → IsCallee context c count callee →
      Leaves core m (called_on_value context place e count arguments callee) (result_kind context callee)
  called_on_value-leaves place c count e arguments passing l Missing h =
      missing-on place count e arguments passing l
  called_on_value-leaves place c count e arguments passing l (OfClass n) h =
      dropped-call place n c count e arguments passing l h
  called_on_value-leaves place c count e arguments passing l (OfObject n) h =
      object-called place n c count e arguments passing (received c l) h

  pub called_on-leaves : (x : Ident) (class : Option ClassId) (kind : ValueKind) (e : Code) (count : ℕ)
      (arguments : Passing) → ((kinds : List Kind) → PassedTo core m (arguments kinds) kinds count) →
      Leaves core m e kind →
      Leaves core m (called_on context x.place class e count arguments (callee_on context class kind x count))
      (result_kind context (callee_on context class kind x count))
  called_on-leaves x (Some c) kind e count arguments passing l =
      called-leaves x.place c count arguments passing (if_static (callee_in context c x.text count))
      (static-own c count _ (is-callee c x.text count))
  called_on-leaves x None value.Null e count arguments passing l = missing-on x.place count e arguments passing l
  called_on-leaves x None (Of types.Plain) e count arguments passing l = missing-on x.place count e arguments passing l
  called_on-leaves x None (Of types.Other) e count arguments passing l = missing-on x.place count e arguments passing l
  called_on-leaves x None (Of (types.Declared c)) e count arguments passing l =
      called_on_value-leaves x.place c count e arguments passing l (callee_in context c x.text count)
      (is-callee c x.text count)

  -- new C(..)
  pub not_made : (place : Place) (kind : Kind) (count : ℕ) (arguments : Passing) →
      ((kinds : List Kind) → PassedTo core m (arguments kinds) kinds count) →
      Leaves core m (arguments [] ++ op_at place (Outside count)) (Of kind)
  not_made place kind count arguments passing =
      record {
        leaves = λ stack.
            let p = (passing []).passes stack in
            (Opaque, suits-opaque kind, followed core m p.1 (outside core m place p.0 stack count p.2));
      }

  created : (place : Place) (c : ClassId) → Receives core m (op_at place (New c)) c
  created place c =
      record {
        leaves = λ stack. (
          Declared c,
          once core m place (New c) []
              (Declared c ∷ []) stack refl refl refl refl,
          class_same c,
        );
      }

  constructed : (place : Place) (n : MethodId) (c : ClassId) (count : ℕ) (arguments : Passing) →
      ((kinds : List Kind) → PassedTo core m (arguments kinds) kinds count) →
      (h : MethodThere context.folder.methods c count n) → (b : Bool) → h.info.is_constructor ≡ b →
      Leaves core m (made_by context place c count arguments (cond b (Some n) None)) (Of (types.Declared c))
  constructed place n c count arguments passing h false e = not_made place (types.Declared c) count arguments passing
  constructed place n c count arguments passing h true e =
      let known = stands.known.constructors n h.info h.there e in
      let info : CalleeInfo context n c count false =
      record { info = h.info; there = h.there; class_is = h.class_is; enough = h.enough; static_is = known.1 } in
      subst (λ kind. Leaves core m (op_at place (New c) ++ arguments
      (parameter_kinds context n count) ++ call_at context place n true count) kind)
      (ap result_of h.there ∙ ap (λ k. Of k) known.0 ∙ ap (λ d. Of (types.Declared d)) h.class_is)
      (object-called place n c count (op_at place (New c)) arguments passing (created place c) info)

  among : (place : Place) (c : ClassId) (count : ℕ) (arguments : Passing) →
      ((kinds : List Kind) → PassedTo core m (arguments kinds) kinds count) → (o : Option MethodId) →
      found context.folder.methods c constructor_name count ≡ o →
      Leaves core m (made_by context place c count arguments (constructor_among context o)) (Of (types.Declared c))
  among place c count arguments passing None e = not_made place (types.Declared c) count arguments passing
  among place c count arguments passing (Some n) e =
      let h = method-there context.folder.methods c constructor_name count n e in
      subst (λ o. Leaves core m (made_by context place c count arguments (constructor_of n o)) (Of (types.Declared c)))
      (sym h.there) (constructed place n c count arguments passing h h.info.is_constructor refl)

  pub made-leaves : (place : Place) (kind : Kind) (count : ℕ) (arguments : Passing) →
      ((kinds : List Kind) → PassedTo core m (arguments kinds) kinds count) →
      Leaves core m (made context place kind count arguments) (Of kind)
  made-leaves place types.Plain count arguments passing = not_made place types.Plain count arguments passing
  made-leaves place types.Other count arguments passing = not_made place types.Other count arguments passing
  made-leaves place (types.Declared c) count arguments passing =
      among place c count arguments passing (found context.folder.methods c constructor_name count) refl
