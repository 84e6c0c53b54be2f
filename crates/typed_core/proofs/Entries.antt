-- The entries of a class, as methods that are come to.
use Rattle.std.proofs.Common.{◌≡◌, ℕ, zero, suc, ◌+◌, ◌*◌, ◌<◌, ◌≤◌, inl, inr, Bool, true, false, cond, ◌||◌, ◌&&◌}
use Rattle.std.proofs.Common.{List, [], ◌∷◌, Result, OnOk, Some, length, map, replicate, nat_eq, nat_lt}
use Rattle.std.proofs.Common.{count_by, refl, sym, ap, subst, ◌∙◌, arith}
use Rattle.std.specs.Prelude.{slice_index_or, slice_get}
use Rattle.std.specs.List.{Contains}
use Rattle.std.proofs.lemmas.Bool.{cases_lt, cases_order, eq-eqb, eqb-true, le-ltb, lt-ltb, ne_eqb}
use Rattle.std.proofs.lemmas.List.{get_or_past, length-map, length-replicate}
use Rattle.std.proofs.lemmas.List.Folds.{sum_by-replicate}
use Rattle.std.proofs.Math.Bool.{and-false, or-false}
use Rattle.racer_base.specs.declared.ids.ClassId.{ClassId}
use Rattle.racer_base.specs.declared.ids.MethodId.{MethodId}
use Rattle.core_code.specs.Core.{Method}
use Rattle.typed_core.specs.declared.reaching.Reach.{Reach}
use Rattle.typed_core.specs.Typings.{is_among, is_entry_of}
use Rattle.typed_core.specs.Reaching.{flag_of_method, is_come_to, come_to, entry_of, AreEntries, AreToFollow, ComesTo}
use Rattle.typed_core.specs.Reaching.{ComesToAll}
use Rattle.typed_core.proofs.Coming.{comes-none, comes-stays}

-- ---- one method
pub entry-none : (class : ClassId) (number : ℕ) (method : Method) (reach : Reach) (is_entry : Bool) →
    is_entry ≡ is_entry_of class method → is_entry ≡ false → ComesToAll (entry_of class number method) reach reach
entry-none class number method reach is_entry is fails =
    subst (λ (b : Bool). ComesToAll (cond b (record { 0 = number } ∷ []) []) reach reach) (sym fails ∙ is)
    (comes-none reach)

pub entry-some : {E : Type 0} (class : ClassId) (number found : ℕ) (method : Method) (old new : Reach)
    (is_entry : Bool) (result : Result Unit E) → is_entry ≡ is_entry_of class method → is_entry ≡ true →
    found ≡ number → OnOk result (ComesTo (record { 0 = found }) old new) →
    OnOk result (ComesToAll (entry_of class number method) old new)
entry-some class number found method old new is_entry result is holds same =
    subst (λ (b : Bool). OnOk result (ComesTo (record { 0 = found }) old new) →
    OnOk result (ComesToAll (cond b (record { 0 = number } ∷ []) []) old new)) (sym holds ∙ is)
    (subst (λ (n : ℕ). OnOk result (ComesTo (record { 0 = found }) old new) →
    OnOk result (ComesTo (record { 0 = n }) old new)) same (λ h. h))

-- ---- methods one after another
-- the entries among so many methods are come to
pub record AreEntering (class : ClassId) (methods : List Method) (i : ℕ) (reach : Reach) : Type 0 where
  pub size : length reach.flags.items ≡ length methods
  pub flags : (m : MethodId) → is_come_to reach m ≡
      (nat_lt m.0 i && flag_of_method (map (is_entry_of class) methods) m)
  pub follow : AreToFollow reach

pub none-flagged : (n i : ℕ) → slice_index_or (replicate n false) i false ≡ false
none-flagged zero i = refl
none-flagged (suc n) zero = refl
none-flagged (suc n) (suc i) = none-flagged n i

pub entering-begins : (class : ClassId) (methods : List Method) (reach : Reach) →
    reach.flags.items ≡ replicate (length methods) false → reach.todo.items ≡ [] →
    AreEntering class methods 0 reach
entering-begins class methods reach none empty =
    let unflagged : (m : MethodId) → is_come_to reach m ≡ false =
    λ m. ap (λ (fs : List Bool). slice_index_or fs m.0 false) none ∙ none-flagged (length methods) m.0 in
    let few : come_to reach ≡ length methods * 0 =
    ap (count_by (λ (b : Bool). b)) none
    ∙ sum_by-replicate (λ (b : Bool). cond b 1 0) (length methods) false in
    let no_todo : length reach.todo.items ≡ 0 = ap length empty in
    record {
      size = ap length none ∙ length-replicate (length methods) false;
      flags = λ m. unflagged m
          ∙ sym (ap (λ (b : Bool). b && flag_of_method (map (is_entry_of class) methods) m) (le-ltb m.0 0 (omega arith)));
      follow =
          record {
            todo = λ n holds. absurd (let e : true ≡ false = sym holds ∙ unflagged n in cc);
            come = λ n there. absurd (let low : there.0 < length reach.todo.items = there.1 in omega arith);
            count = omega arith;
          };
    }

follow-more : (ms : List MethodId) (old new : Reach) → ComesToAll ms old new → AreToFollow old → AreToFollow new
follow-more ms old new all before =
    let counts : length new.todo.items + come_to old ≡ length old.todo.items + come_to new = all.count in
    let was : length old.todo.items ≡ come_to old = before.count in
    record {
      todo = λ n holds. elim (is_come_to old n) as (λ t. is_come_to old n ≡ t → Contains new.todo.items n) [
        | true ↦ λ e. all.kept n (before.todo n e)
        | false ↦ λ e. all.new_todo n holds e
      ] refl;
      come = λ n there. elim (all.todo n there) [
        | inl still ↦ comes-stays ms old new all n (before.come n still)
        | inr come ↦ come
      ];
      count = omega arith;
    }

-- the flag of one method is that it is an entry
pub flag-at : (class : ClassId) (methods : List Method) (i : ℕ) (m : Method) → slice_get methods i ≡ Some m →
    slice_index_or (map (is_entry_of class) methods) i false ≡ is_entry_of class m
flag-at class [] i m at = absurd cc
flag-at class (x ∷ methods) zero m at = let same : x ≡ m = cc in ap (is_entry_of class) same
flag-at class (x ∷ methods) (suc i) m at = flag-at class methods i m at

-- what is added at the number i
added : (t f : Bool) (k i : ℕ) → (nat_eq k i ≡ true → t ≡ f) →
    ((nat_lt i k && f) || is_among (cond t (record { 0 = k } ∷ []) []) i) ≡ (nat_lt i (k + 1) && f)
added t f k i own = elim (cases_order i k) [
  | inl same ↦
      let is : t ≡ f = own (eq-eqb k i (sym same)) in
      (λ j. (le-ltb i k (omega arith) j && f) || is_among (cond (is j) (record { 0 = k } ∷ []) []) i)
      ∙ here f k i (eq-eqb k i (sym same))
      ∙ sym (ap (λ (b : Bool). b && f) (lt-ltb i (k + 1) (omega arith)))
  | inr other ↦ elim other [
    | inl low ↦
        (λ j. (lt-ltb i k low j && f) || is_among (cond t (record { 0 = k } ∷ []) []) i)
        ∙ apart f t k i (ne_eqb k i (λ e. omega arith))
        ∙ sym (ap (λ (b : Bool). b && f) (lt-ltb i (k + 1) (omega arith)))
    | inr high ↦
        (λ j. (le-ltb i k (omega arith) j && f) || is_among (cond t (record { 0 = k } ∷ []) []) i)
        ∙ apart false t k i (ne_eqb k i (λ e. omega arith))
        ∙ sym (ap (λ (b : Bool). b && f) (le-ltb i (k + 1) (omega arith)))
  ]
]
  where
    here : (f : Bool) (k i : ℕ) → nat_eq k i ≡ true → is_among (cond f (record { 0 = k } ∷ []) []) i ≡ f
    here true k i e = or-false (nat_eq k i) ∙ e
    here false k i e = refl

    apart : (f t : Bool) (k i : ℕ) → nat_eq k i ≡ false → (f || is_among (cond t (record { 0 = k } ∷ []) []) i) ≡ f
    apart true t k i e = refl
    apart false true k i e = or-false (nat_eq k i) ∙ e
    apart false false k i e = refl

pub entering-turn : (class : ClassId) (methods : List Method) (i : ℕ) (m : Method) (old new : Reach) →
    slice_get methods i ≡ Some m → AreEntering class methods i old → ComesToAll (entry_of class i m) old new →
    AreEntering class methods (i + 1) new
entering-turn class methods i m old new at before all =
    let size : length new.flags.items ≡ length old.flags.items = all.size in
    let flag : MethodId → Bool = λ n. flag_of_method (map (is_entry_of class) methods) n in
    record {
      size = size ∙ before.size;
      flags = λ n. elim (cases_lt n.0 (length old.flags.items)) [
        | inl low ↦
            all.flags n low
            ∙ ap (λ (b : Bool). b || is_among (entry_of class i m) n.0) (before.flags n)
            ∙ added (is_entry_of class m) (flag n) i n.0
            (λ e. sym (flag-at class methods i m at)
            ∙ ap (λ (k : ℕ). slice_index_or (map (is_entry_of class) methods) k false) (eqb-true i n.0 e))
        | inr high ↦
            let long : length (map (is_entry_of class) methods) ≡ length methods =
            length-map methods (is_entry_of class) in
            let count : length old.flags.items ≡ length methods = before.size in
            get_or_past new.flags.items n.0 false (omega arith)
            ∙ sym (ap (λ (b : Bool). nat_lt n.0 (i + 1) && b)
            (get_or_past (map (is_entry_of class) methods) n.0 false (omega arith))
            ∙ and-false (nat_lt n.0 (i + 1)))
      ];
      follow = follow-more (entry_of class i m) old new all before.follow;
    }

pub entering-ends : (class : ClassId) (methods : List Method) (i : ℕ) (reach : Reach) → length methods ≤ i →
    AreEntering class methods i reach → AreEntries class methods reach
entering-ends class methods i reach past all =
    record {
      size = all.size;
      flags = λ m. all.flags m ∙ (elim (cases_lt m.0 (length methods)) [
        | inl low ↦ ap (λ (b : Bool). b && flag_of_method (map (is_entry_of class) methods) m)
            (lt-ltb m.0 i (omega arith))
        | inr high ↦
            let long : length (map (is_entry_of class) methods) ≡ length methods =
            length-map methods (is_entry_of class) in
            let none : flag_of_method (map (is_entry_of class) methods) m ≡ false =
            get_or_past (map (is_entry_of class) methods) m.0 false (omega arith) in
            ap (λ (b : Bool). nat_lt m.0 i && b) none ∙ and-false (nat_lt m.0 i) ∙ sym none
      ]);
      follow = all.follow;
    }
