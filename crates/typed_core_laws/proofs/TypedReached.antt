-- What is known of the methods that the entries of a typed class lead to: nothing fails in them, what they read is counted
-- as read, and what they call is reached.
use Rattle.std.proofs.Common.{◌≡◌, ℕ, zero, suc, ◌+◌, ◌≤◌, Bool, true, false, cond, ⊎_elim, List, [], ◌∷◌, ◌++◌, Option}
use Rattle.std.proofs.Common.{None, Some, filter, length, nat_eq}
use Rattle.std.proofs.Common.{inl, inr, refl, sym, ap, subst, ◌∙◌, arith, zero-add}
use Rattle.std.specs.List.{Contains, enumerate_from, flat_map, list_any}
use Rattle.std.proofs.Math.Bool.{or-false}
use Rattle.std.proofs.lemmas.Bool.{eqb-true, or_cases, or_left, or_right}
use Rattle.racer_base.specs.declared.ids.ClassId.{ClassId}
use Rattle.racer_base.specs.declared.ids.MethodId.{MethodId}
use Rattle.racer_base.specs.declared.ids.Place.{Place}
use Rattle.racer_base.proofs.Lists.{given_some}
use Rattle.core_code.specs.declared.code.Op.{Op as CoreOp}
use Rattle.core_code.specs.declared.code.Op.TheVariants.{Push, PushClass, PushPrim, PushNull, New, Dup, Drop, Get, Put}
use Rattle.core_code.specs.declared.code.Op.TheVariants.{Set, Prim, Outside, Call, Unread, Ret, Throw}
use Rattle.core_code.specs.declared.parts.ClassCore.{ClassCore}
use Rattle.core_code.specs.declared.program.Program.{Program}
use Rattle.core_code.specs.Calls.{called_by, calls_in, calls_of, is_analysed, method_at, rank_of}
use Rattle.core_code.specs.CallFacts.{has_right_calls, is_right_call}
use Rattle.core_code.specs.Core.{Core, Method}
use Rattle.core_code.specs.Facts.{height_after, is_stack_enough}
use Rattle.core_code.specs.Program.{core as core_of}
use Rattle.core_code.specs.Tree.{Operation, steps_of}
use Rattle.core_code.proofs.Membership.{In, enumerate_from_has, flat_map_has, in_flat_map, in_from_Contains, map_has}
use Rattle.access_domain.proofs.Members.{contains_from_in}
use Rattle.access_domain.proofs.Tests.{passes_at, passes_in}
use Rattle.core_semantics_kinds.specs.Kinding.{IsCode}
use Rattle.core_semantics_kinds.specs.Reached.{Roots}
use Rattle.typed_core.specs.declared.answers.Answer.TheVariants.{Typed}
use Rattle.typed_core.specs.declared.answers.Typing.{Typing}
use Rattle.typed_core.specs.Check.{doubts_of}
use Rattle.typed_core.specs.Typings.{answer_of, called_from, called_within, class_typings, from_entries, has_entry}
use Rattle.typed_core.specs.Typings.{is_among, is_entry_of, is_read_by, place_failing, places_failing, reached_from}
use Rattle.typed_core.specs.Typings.{reads_field_of, typing_of, typings}
use Rattle.typed_core.proofs.Coming.{same_method}
use Rattle.typed_core.proofs.Reached.{among-analysed, called-own, callee-analysed, calls-row, chain-few, entered-among}
use Rattle.typed_core.proofs.Reached.{entered-from, entry-analysed, flat-among, flat-from, lower}
use Rattle.typed_core_laws.specs.Promise.{IsTyped}
use Rattle.typed_core_laws.specs.TypedValues.{IsAllowed, is_reached, is_read, typed_kinds}
use Rattle.typed_core_laws.proofs.TypedCalls.{AreCodes}
use Rattle.typed_core_laws.proofs.TypedCode.{DoNotFail, IsCounted, allows, is-code}

-- ---- lists

filter-has : {X : Type 0} (test : X → Bool) (xs : List X) (x : X) → In xs x → test x ≡ true → In (filter test xs) x
filter-has test [] x there e = absurd there
filter-has test (y ∷ xs) x there e =
    ⊎_elim
    (λ (same : y ≡ x).
    subst (λ (b : Bool). In (cond b (y ∷ filter test xs) (filter test xs)) x) (sym (ap test same ∙ e)) (inl same))
    (λ later. (elim (test y) as (λ b. In (cond b (y ∷ filter test xs) (filter test xs)) x) [
      | true ↦ inr (filter-has test xs x later e)
      | false ↦ filter-has test xs x later e
    ])) there

any-has : {X : Type 0} (test : X → Bool) (xs : List X) (x : X) → In xs x → test x ≡ true → list_any test xs ≡ true
any-has test [] x there e = absurd there
any-has test (y ∷ xs) x there e =
    ⊎_elim
    (λ same. or_left (test y) (list_any test xs) (ap test same ∙ e))
    (λ later. or_right (test y) (list_any test xs) (any-has test xs x later e)) there

nothing-before : {X : Type 0} (xs ys : List X) → xs ++ ys ≡ [] → (xs ≡ []) × (ys ≡ [])
nothing-before [] ys e = (refl, e)
nothing-before (x ∷ xs) ys e = absurd cc

nothing-of : {X Y : Type 0} (f : X → List Y) (xs : List X) → flat_map f xs ≡ [] → (x : X) → In xs x → f x ≡ []
nothing-of f [] e x there = absurd there
nothing-of f (y ∷ xs) e x there =
    let both = nothing-before (f y) (flat_map f xs) e in
    ⊎_elim (λ same. ap f (sym same) ∙ both.0) (λ later. nothing-of f xs both.1 x later) there

-- ---- the answer

no-place : (places : List Place) → answer_of places ≡ Typed → places ≡ []
no-place [] e = refl
no-place (place ∷ places) e = absurd cc

nothing-fails-in : (core : Core) (class : ClassId) (e : ℕ × ClassCore) →
    In (class_typings core e) (record { class = class; answer = Typed }) →
    places_failing core (reached_from core class) ≡ []
nothing-fails-in core class e there =
    let c : ClassId = record { 0 = e.0 } in
    let typing : Typing = record { class = class; answer = Typed } in
    (elim (has_entry core c) as (λ b. In (cond b (typing_of core c ∷ []) []) typing →
    places_failing core (reached_from core class) ≡ []) [
      | true ↦ λ h. ⊎_elim
          (λ (same : typing_of core c ≡ typing).
          let it : c ≡ class = ap (λ (t : Typing). t.class) same in
          subst (λ (d : ClassId). places_failing core (reached_from core d) ≡ []) it
          (no-place (places_failing core (reached_from core c)) (ap (λ (t : Typing). t.answer) same)))
          (λ none. absurd none) h
      | false ↦ λ h. absurd h
    ]) there

nothing-fails : (core : Core) (class : ClassId) → IsTyped core class →
    places_failing core (reached_from core class) ≡ []
nothing-fails core class typed =
    let typing : Typing = record { class = class; answer = Typed } in
    let from = in_flat_map (class_typings core) (enumerate_from 0 core.classes) typing
    (in_from_Contains (typings core) typing typed.0 typed.1 typed.2) in
    nothing-fails-in core class from.0 from.2

-- ---- methods that are reached

reached-in : (core : Core) (class : ClassId) (m : MethodId) (method : Method) → is_reached core class m ≡ true →
    method_at core m ≡ Some method → In (reached_from core class) method
reached-in core class m method reached there =
    let test : ℕ × Method → Bool = λ e. is_among (from_entries core class) e.0 in
    let e : ℕ × Method = (0 + m.0, method) in
    map_has (λ (x : ℕ × Method). x.1) (filter test (enumerate_from 0 core.methods)) e
    (filter-has test (enumerate_from 0 core.methods) e (enumerate_from_has 0 core.methods m.0 method there)
    (ap (λ (n : ℕ). is_among (from_entries core class) n) (zero-add m.0) ∙ reached))

do-not-fail : (core : Core) (class : ClassId) (method : Method) → IsTyped core class →
    In (reached_from core class) method → DoNotFail core class (doubts_of core method)
do-not-fail core class method typed there = λ d among.
    nothing-of (place_failing (is_read core class)) (doubts_of core method)
    (nothing-of (λ (m : Method). flat_map (place_failing (is_read core class)) (doubts_of core m))
    (reached_from core class) (nothing-fails core class typed) method there) d among

read-counted : (core : Core) (class : ClassId) (method : Method) (o : Operation) (c : ClassId) →
    In (reached_from core class) method → In (steps_of method.code) o → reads_field_of core c o.op ≡ true →
    is_read core class c ≡ true
read-counted core class method o c there among reads =
    any-has (λ (m : Method). is_read_by core m.code c) (reached_from core class) method there
    (any-has (λ (x : Operation). reads_field_of core c x.op) (steps_of method.code) o among reads)

module _ (p : Program) (class : ClassId) where
  abbrev core : Core
  core = core_of p

  callee : (m n : MethodId) → is_analysed core m ≡ true → Contains (calls_of core m) n → is_analysed core n ≡ true
  callee m n analysed call =
      callee-analysed core p.calls_right p.ranks_there m n analysed
      (calls-row core p.calls_right p.ranks_there m n analysed call)

  called-further : (k : ℕ) (m n r : MethodId) → is_analysed core m ≡ true → rank_of core m ≤ k →
      is_among (called_within k core m) n.0 ≡ true → Contains (calls_of core n) r →
      is_among (called_within k core m) r.0 ≡ true
  called-further zero m n r analysed few e call =
      let same : m ≡ n = same_method m n (eqb-true m.0 n.0 (sym (or-false (nat_eq m.0 n.0)) ∙ e)) in
      absurd (let less = lower core p.calls_right p.ranks_there m r analysed
      (subst (λ (x : MethodId). Contains (calls_of core x) r) (sym same) call) in omega (arith, less))
  called-further (suc k) m n r analysed few e call =
      let rest : List MethodId = flat_map (called_within k core) (calls_of core m) in
      ⊎_elim
      (λ (own : nat_eq m.0 n.0 ≡ true).
      let same : m ≡ n = same_method m n (eqb-true m.0 n.0 own) in
      or_right (nat_eq m.0 r.0) (is_among rest r.0)
      (flat-among (called_within k core) (calls_of core m) r r.0
      (subst (λ (x : MethodId). Contains (calls_of core x) r) (sym same) call) (called-own core k r)))
      (λ (further : is_among rest n.0 ≡ true).
      let by = flat-from (called_within k core) (calls_of core m) n.0 further in
      let less = lower core p.calls_right p.ranks_there m by.0 analysed by.1 in
      or_right (nat_eq m.0 r.0) (is_among rest r.0)
      (flat-among (called_within k core) (calls_of core m) by.0 r.0 by.1
      (called-further k by.0 n r (callee m by.0 analysed by.1) (omega (arith, less)) by.2 call)))
      (or_cases (nat_eq m.0 n.0) (is_among rest n.0) e)

  -- what a method calls that is reached is reached
  pub call-reached : (m n : MethodId) → is_reached core class m ≡ true → Contains (calls_of core m) n →
      is_reached core class n ≡ true
  call-reached m n reached call =
      let r = entered-from core class core.methods 0 m.0 reached in
      let from : MethodId = record { 0 = r.0 } in
      let analysed : is_analysed core from ≡ true = entry-analysed core class r.0 r.1 p.entries_analysed r.2 r.3 in
      let own : is_among (called_from core from) m.0 ≡ true =
      ap (λ (j : ℕ). is_among (called_from core (record { 0 = j })) m.0) (sym (zero-add r.0)) ∙ r.4 in
      entered-among core class core.methods 0 r.0 r.1 n.0 r.2 r.3
      (ap (λ (j : ℕ). is_among (called_from core (record { 0 = j })) n.0) (zero-add r.0)
      ∙ called-further (length core.methods) from m n analysed (chain-few core (length core.methods) from) own call)

  -- an entry is reached
  pub entry-reached : (m : MethodId) (method : Method) → method_at core m ≡ Some method →
      is_entry_of class method ≡ true → is_reached core class m ≡ true
  entry-reached m method there entry =
      entered-among core class core.methods 0 m.0 method m.0 there entry
      (ap (λ (j : ℕ). is_among (called_from core (record { 0 = j })) m.0) (zero-add m.0)
      ∙ called-own core (length core.methods) m)

  pub reached-analysed : (m : MethodId) → is_reached core class m ≡ true → is_analysed core m ≡ true
  reached-analysed m reached =
      among-analysed core class m p.calls_right p.ranks_there p.entries_analysed reached

  -- ---- the code of a method that is reached

  called-in : (m : MethodId) (method : Method) (o : Operation) (n : MethodId) (count : ℕ) →
      method_at core m ≡ Some method → In (steps_of method.code) o → o.op ≡ Call n count →
      Contains (calls_of core m) n
  called-in m method o n count there among is =
      contains_from_in (calls_of core m) n
      (subst (λ (x : Option Method). In (elim x as (λ _. List MethodId) [
        | None ↦ []
        | Some y ↦ calls_in y.code
      ]) n) (sym there)
      (flat_map_has (λ (x : Operation). called_by x.op) (steps_of method.code) o n among
      (subst (λ (op : CoreOp). In (called_by op) n) (sym is) (inl refl))))

  right-op : (m : MethodId) (method : Method) (o : Operation) → method_at core m ≡ Some method →
      In (steps_of method.code) o → is_right_call core o.op ≡ true
  right-op m method o there among =
      passes_in (λ (x : Operation). is_right_call core x.op) (steps_of method.code) o
      (passes_at (has_right_calls core) core.methods m.0 method p.calls_right there) among

  counted-op : (m : MethodId) (method : Method) (o : Operation) (op : CoreOp) → is_reached core class m ≡ true →
      method_at core m ≡ Some method → In (steps_of method.code) o → o.op ≡ op → IsCounted core class op
  counted-op m method o (Get f) reached there among is = λ c reads.
      read-counted core class method o c (reached-in core class m method reached there) among
      (ap (reads_field_of core c) is ∙ reads)
  counted-op m method o (Call n count) reached there among is = (
    call-reached m n reached (called-in m method o n count there among is),
    ap (is_right_call core) (sym is) ∙ right-op m method o there among,
  )
  counted-op m method o (Push v) reached there among is = tt
  counted-op m method o (PushClass c) reached there among is = tt
  counted-op m method o PushPrim reached there among is = tt
  counted-op m method o PushNull reached there among is = tt
  counted-op m method o (New c) reached there among is = tt
  counted-op m method o Dup reached there among is = tt
  counted-op m method o Drop reached there among is = tt
  counted-op m method o (Put f) reached there among is = tt
  counted-op m method o (Set v) reached there among is = tt
  counted-op m method o (Prim n) reached there among is = tt
  counted-op m method o (Outside n) reached there among is = tt
  counted-op m method o (Unread n count) reached there among is = tt
  counted-op m method o Ret reached there among is = tt
  counted-op m method o Throw reached there among is = tt

  module _ (typed : IsTyped core class) (roots : Roots) where
    code-is : (m : MethodId) (method : Method) → is_reached core class m ≡ true → method_at core m ≡ Some method →
        IsCode core (typed_kinds core roots class) method
    code-is m method reached there =
        let height = given_some (height_after method.code 0)
        (passes_at is_stack_enough core.methods m.0 method p.stacks_enough there) in
        is-code core roots class method height.0 height.1
        (do-not-fail core class method typed (reached-in core class m method reached there))
        (λ o among. counted-op m method o o.op reached there among refl)

    pub are-codes : AreCodes core roots class
    are-codes m method reached there = code-is m method reached there

    -- each of its operations is allowed
    pub ops-allowed : (m : MethodId) (method : Method) → is_reached core class m ≡ true →
        method_at core m ≡ Some method → (o : Operation) → In (steps_of method.code) o → IsAllowed core class o.op
    ops-allowed m method reached there o among =
        let code = code-is m method reached there in
        allows core roots class method method.code _ code.ends code.leads o among
