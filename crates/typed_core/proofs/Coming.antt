-- Methods that are come to, one after another.
use Rattle.std.proofs.Common.{◌≡◌, ℕ, ◌+◌, ◌<◌, ◌≤◌, ◌⊎◌, inl, inr, Bool, true, false, cond, ◌||◌, List, []}
use Rattle.std.proofs.Common.{◌∷◌, ◌++◌, get_or, length, take, nat_eq, count_by, refl, sym, ap, subst, ◌∙◌}
use Rattle.std.proofs.Common.{arith}
use Rattle.std.specs.Prelude.{slice_index_or, slice_set}
use Rattle.std.specs.List.{Contains, sum_by}
use Rattle.std.proofs.lemmas.Bool.{cases_eq, cases_lt, eq-eqb, eqb-true, ne_eqb, or_left, or_right}
use Rattle.std.proofs.lemmas.List.{get_or-set_same, get_or-set_other, get_or_past, length-set, length_push, nil_from_length}
use Rattle.std.proofs.lemmas.List.{take_all, take_more}
use Rattle.std.proofs.lemmas.List.Elements.{Contains-append_left, Contains-push, Contains-push_cases}
use Rattle.std.proofs.lemmas.List.Folds.{list_any-append}
use Rattle.std.proofs.lemmas.List.Sums.{count_by-le-length, sum_by-set}
use Rattle.std.proofs.Math.Bool.{or-false}
use Rattle.racer_base.specs.declared.ids.MethodId.{MethodId}
use Rattle.core_code.specs.Chains.{row_of}
use Rattle.core_code.proofs.ChainLemmas.{Leads, then_call}
use Rattle.core_code.proofs.Members.{passing, passes}
use Rattle.core_code.proofs.RowCallees.{nat_eq-same}
use Rattle.typed_core.specs.declared.reaching.Reach.{Reach}
use Rattle.typed_core.specs.Typings.{is_among}
use Rattle.typed_core.specs.Reaching.{flag_of_method, is_come_to, come_to, AreComeTo, ComesTo, ComesToAll, IsClosed}
use Rattle.typed_core.specs.Reaching.{IsFollowed}
use Rattle.typed_core.proofs.MetKinds.{grouped}
use Rattle.typed_core.proofs.ReadClasses.{there-already}

pub same_method : (m n : MethodId) → m.0 ≡ n.0 → m ≡ n
same_method m n e = ap (λ (k : ℕ). let i : MethodId = record { 0 = k } in i) e

not_both : (b : Bool) → b ≡ true → b ≡ false → ⊥
not_both b holds fails = let e : true ≡ false = sym holds ∙ fails in cc

pub flagged-low : (flags : List Bool) (m : MethodId) → flag_of_method flags m ≡ true → m.0 < length flags
flagged-low flags m e = elim (cases_lt m.0 (length flags)) [
  | inl low ↦ low
  | inr high ↦ absurd (not_both (flag_of_method flags m) e (get_or_past flags m.0 false high))
]

-- ---- numbers among methods
pub among-append : (xs ys : List MethodId) (n : ℕ) → is_among (xs ++ ys) n ≡ (is_among xs n || is_among ys n)
among-append xs ys n = list_any-append (λ (k : MethodId). nat_eq k.0 n) xs ys

pub among-contains : (ms : List MethodId) (n : MethodId) → is_among ms n.0 ≡ true → Contains ms n
among-contains ms n e =
    let found = passing (λ (k : MethodId). nat_eq k.0 n.0) ms e in
    subst (Contains ms) (nat_eq-same found.0 n found.2) found.1

pub contains-among : (ms : List MethodId) (n : MethodId) → Contains ms n → is_among ms n.0 ≡ true
contains-among ms n there = passes (λ (k : MethodId). nat_eq k.0 n.0) ms n there (eq-eqb n.0 n.0 refl)

-- ---- one method
-- a method that is come to already, or that there is not
pub came-nothing : (m : MethodId) (reach : Reach) →
    (m.0 < length reach.flags.items → is_come_to reach m ≡ true) → ComesTo m reach reach
came-nothing m reach f =
    record {
      size = refl;
      flags = λ n low. there-already (is_come_to reach n) (is_among (m ∷ []) n.0) (λ e.
          let same : m.0 ≡ n.0 = eqb-true m.0 n.0 (sym (or-false (nat_eq m.0 n.0)) ∙ e) in
          ap (λ (k : ℕ). slice_index_or reach.flags.items k false) (sym same) ∙ f (omega arith));
      kept = λ n there. there;
      todo = λ n there. inl there;
      new_todo = λ n holds fails. absurd (not_both (is_come_to reach n) holds fails);
      count = refl;
    }

pub set-flag : (flags : List Bool) (k i : ℕ) → k < length flags →
    slice_index_or (slice_set flags k true) i false ≡ (slice_index_or flags i false || (nat_eq k i || false))
set-flag flags k i low = elim (cases_eq i k) [
  | inl same ↦
      ap (λ (j : ℕ). slice_index_or (slice_set flags k true) j false) same
      ∙ get_or-set_same flags k true false low
      ∙ sym (or_right (slice_index_or flags i false) (nat_eq k i || false)
      (or_left (nat_eq k i) false (eq-eqb k i (sym same))))
  | inr other ↦
      get_or-set_other flags k i true false other
      ∙ sym (ap (λ (b : Bool). slice_index_or flags i false || (b || false)) (ne_eqb k i (λ e. other (sym e)))
      ∙ or-false (slice_index_or flags i false))
]

pub came-new : (m : MethodId) (old new : Reach) → m.0 < length old.flags.items → is_come_to old m ≡ false →
    new.flags.items ≡ slice_set old.flags.items m.0 true → new.todo.items ≡ old.todo.items ++ m ∷ [] →
    ComesTo m old new
came-new m old new low not_yet set pushed =
    let flags = old.flags.items in
    let todo = old.todo.items in
    let here : is_come_to new m ≡ true =
    ap (λ (fs : List Bool). slice_index_or fs m.0 false) set ∙ get_or-set_same flags m.0 true false low in
    let there : Contains new.todo.items m = subst (λ (ms : List MethodId). Contains ms m) (sym pushed) (Contains-push todo m)
    in
    let one : Bool → ℕ = λ b. cond {A = ℕ} b 1 0 in
    let one_more : sum_by one (slice_set flags m.0 true) + one (get_or flags m.0 false) ≡ sum_by one flags + 1 =
    sum_by-set one flags m.0 true false low in
    let none : one (get_or flags m.0 false) ≡ 0 = ap one not_yet in
    let all : come_to new ≡ sum_by one (slice_set flags m.0 true) = ap (count_by (λ (b : Bool). b)) set in
    let before : come_to old ≡ sum_by one flags = refl in
    let long : length new.todo.items ≡ length todo + 1 = ap length pushed ∙ length_push todo m in
    record {
      size = ap length set ∙ length-set flags m.0 true;
      flags = λ n within. ap (λ (fs : List Bool). slice_index_or fs n.0 false) set ∙ set-flag flags m.0 n.0 low;
      kept = λ n h. subst (λ (ms : List MethodId). Contains ms n) (sym pushed) (Contains-append_left todo (m ∷ []) n h);
      todo = λ n h. elim (Contains-push_cases todo m n (subst (λ (ms : List MethodId). Contains ms n) pushed h)) [
        | inl was ↦ inl was
        | inr same ↦ inr (ap (is_come_to new) (sym same) ∙ here)
      ];
      new_todo = λ n holds fails. elim (cases_eq n.0 m.0) [
        | inl same ↦ subst (Contains new.todo.items) (same_method m n (sym same)) there
        | inr other ↦ absurd (not_both (is_come_to new n) holds
            (ap (λ (fs : List Bool). slice_index_or fs n.0 false) set
            ∙ get_or-set_other flags m.0 n.0 true false other ∙ fails))
      ];
      count = omega arith;
    }

-- ---- several
pub comes-stays : (ms : List MethodId) (old new : Reach) → ComesToAll ms old new → (n : MethodId) →
    is_come_to old n ≡ true → is_come_to new n ≡ true
comes-stays ms old new all n e =
    all.flags n (flagged-low old.flags.items n e) ∙ or_left (is_come_to old n) (is_among ms n.0) e

pub comes-none : (reach : Reach) → ComesToAll [] reach reach
comes-none reach =
    record {
      size = refl;
      flags = λ n low. sym (or-false (is_come_to reach n));
      kept = λ n there. there;
      todo = λ n there. inl there;
      new_todo = λ n holds fails. absurd (not_both (is_come_to reach n) holds fails);
      count = refl;
    }

pub comes-both : (xs ys : List MethodId) (old mid new : Reach) → ComesToAll xs old mid → ComesToAll ys mid new →
    ComesToAll (xs ++ ys) old new
comes-both xs ys old mid new a b =
    let count_a : length mid.todo.items + come_to old ≡ length old.todo.items + come_to mid = a.count in
    let count_b : length new.todo.items + come_to mid ≡ length mid.todo.items + come_to new = b.count in
    let size_a : length mid.flags.items ≡ length old.flags.items = a.size in
    record {
      size = b.size ∙ a.size;
      flags = λ n low.
          b.flags n (omega arith)
          ∙ ap (λ (t : Bool). t || is_among ys n.0) (a.flags n low)
          ∙ grouped (is_come_to old n) (is_among xs n.0) (is_among ys n.0)
          ∙ ap (λ (t : Bool). is_come_to old n || t) (sym (among-append xs ys n.0));
      kept = λ n there. b.kept n (a.kept n there);
      todo = λ n there. elim (b.todo n there) [
        | inl was ↦ elim (a.todo n was) [
          | inl first ↦ inl first
          | inr come ↦ inr (comes-stays ys mid new b n come)
        ]
        | inr come ↦ inr come
      ];
      new_todo = λ n holds fails. elim (is_come_to mid n) as (λ t. is_come_to mid n ≡ t → Contains new.todo.items n) [
        | true ↦ λ e. b.kept n (a.new_todo n e fails)
        | false ↦ λ e. b.new_todo n holds e
      ] refl;
      count = omega arith;
    }

pub comes-turn : (ms : List MethodId) (i : ℕ) (d : MethodId) (old now new : Reach) → i < length ms →
    ComesToAll (take i ms) old now → ComesTo (get_or ms i d) now new → ComesToAll (take (i + 1) ms) old new
comes-turn ms i d old now new low before one =
    subst (λ (xs : List MethodId). ComesToAll xs old new) (sym (take_more ms i d low))
    (comes-both (take i ms) (get_or ms i d ∷ []) old now new before one)

pub comes-end : (ms : List MethodId) (i : ℕ) (old now : Reach) → length ms ≤ i → ComesToAll (take i ms) old now →
    ComesToAll ms old now
comes-end ms i old now past all =
    subst (λ (xs : List MethodId). ComesToAll xs old now) (take_all i ms past) all

-- ---- calls that are followed
-- so many methods were followed, from the first reach on
pub record IsFollowing (rows : List (List MethodId)) (i : ℕ) (first now : Reach) : Type 0 where
  pub size : length now.flags.items ≡ length first.flags.items
  pub sound : (n : MethodId) → is_come_to now n ≡ true →
      (m : MethodId) × (is_come_to first m ≡ true) × Leads rows m n
  pub come : AreComeTo now
  pub kept : (n : MethodId) → is_come_to first n ≡ true → is_come_to now n ≡ true
  pub closed : IsClosed rows first → IsClosed rows now
  pub count : length first.todo.items ≡ come_to first → i + length now.todo.items ≡ come_to now

pub follow-begins : (rows : List (List MethodId)) (first : Reach) → AreComeTo first → IsFollowing rows 0 first first
follow-begins rows first come =
    record {
      size = refl;
      sound = λ n e. (n, e, inl refl);
      come = come;
      kept = λ n e. e;
      closed = λ shut. shut;
      count = λ e. omega arith;
    }

-- a method that is taken to be followed is one that there is
pub popped-low : (rows : List (List MethodId)) (i : ℕ) (first now : Reach) (todo : List MethodId) (m : MethodId) →
    now.todo.items ≡ todo ++ m ∷ [] → IsFollowing rows i first now → length rows ≡ length first.flags.items →
    m.0 < length rows
popped-low rows i first now todo m popped at count =
    let low : m.0 < length now.flags.items = flagged-low now.flags.items m
    (at.come m (subst (λ (ms : List MethodId). Contains ms m) (sym popped) (Contains-push todo m))) in
    let size : length now.flags.items ≡ length first.flags.items = at.size in
    omega arith

module _ (rows : List (List MethodId)) (i : ℕ) (first now mid new : Reach) (m : MethodId)
    (same : mid.flags.items ≡ now.flags.items) (popped : now.todo.items ≡ mid.todo.items ++ m ∷ [])
    (all : ComesToAll (row_of rows m) mid new) (at : IsFollowing rows i first now) where
  mid-flag : (n : MethodId) → is_come_to mid n ≡ is_come_to now n
  mid-flag n = ap (λ (fs : List Bool). slice_index_or fs n.0 false) same

  in-now : (n : MethodId) → Contains mid.todo.items n → Contains now.todo.items n
  in-now n h =
      subst (λ (ms : List MethodId). Contains ms n) (sym popped) (Contains-append_left mid.todo.items (m ∷ []) n h)

  pub popped-come : is_come_to now m ≡ true
  popped-come =
      at.come m (subst (λ (ms : List MethodId). Contains ms m) (sym popped) (Contains-push mid.todo.items m))

  stays : (n : MethodId) → is_come_to now n ≡ true → is_come_to new n ≡ true
  stays n e = comes-stays (row_of rows m) mid new all n (mid-flag n ∙ e)

  mid_size : length mid.flags.items ≡ length now.flags.items
  mid_size = ap length same

  -- a method that is new is called by the one that is followed
  called : (n : MethodId) → is_come_to new n ≡ true → is_come_to now n ≡ false → Contains (row_of rows m) n
  called n holds fails =
      let low : n.0 < length new.flags.items = flagged-low new.flags.items n holds in
      let size : length new.flags.items ≡ length mid.flags.items = all.size in
      among-contains (row_of rows m) n
      (ap (λ (b : Bool). b || is_among (row_of rows m) n.0) (sym (mid-flag n ∙ fails))
      ∙ sym (all.flags n (omega arith)) ∙ holds)

  sound-more : (n : MethodId) → is_come_to new n ≡ true → (k : MethodId) × (is_come_to first k ≡ true) × Leads rows k n
  sound-more n holds =
      elim (is_come_to now n) as (λ b. is_come_to now n ≡ b →
      (k : MethodId) × (is_come_to first k ≡ true) × Leads rows k n) [
        | true ↦ λ e. at.sound n e
        | false ↦ λ e. let from = at.sound m popped-come in
            (from.0, from.1, inr (then_call rows from.0 m n from.2 (called n holds e)))
      ] refl

  closed-more : IsClosed rows first → IsClosed rows new
  closed-more shut a b low holds call =
      let size : length new.flags.items ≡ length mid.flags.items = all.size in
      let same_size : length mid.flags.items ≡ length now.flags.items = mid_size in
      elim (is_come_to now a) as (λ t. is_come_to now a ≡ t →
      Contains new.todo.items a ⊎ (is_come_to new b ≡ true)) [
        | true ↦ λ e. elim (at.closed shut a b (omega arith) e call) [
          | inl there ↦ elim (Contains-push_cases mid.todo.items m a
              (subst (λ (ms : List MethodId). Contains ms a) popped there)) [
                | inl still ↦ inl (all.kept a still)
                | inr own ↦ inr (all.flags b (omega arith)
                    ∙ or_right (is_come_to mid b) (is_among (row_of rows m) b.0)
                    (contains-among (row_of rows m) b
                    (subst (λ (x : MethodId). Contains (row_of rows x) b) (sym own) call)))
              ]
          | inr come ↦ inr (stays b come)
        ]
        | false ↦ λ e. inl (all.new_todo a holds (mid-flag a ∙ e))
      ] refl

  pub follow-turn : IsFollowing rows (i + 1) first new
  follow-turn =
      record {
        size = all.size ∙ mid_size ∙ at.size;
        sound = sound-more;
        come = λ n there. elim (all.todo n there) [
          | inl was ↦ stays n (at.come n (in-now n was))
          | inr come ↦ come
        ];
        kept = λ n e. stays n (at.kept n e);
        closed = closed-more;
        count = λ e.
            let before : i + length now.todo.items ≡ come_to now = at.count e in
            let counts : length new.todo.items + come_to mid ≡ length mid.todo.items + come_to new = all.count in
            let flags : come_to mid ≡ come_to now = ap (count_by (λ (b : Bool). b)) same in
            let one : length now.todo.items ≡ length mid.todo.items + 1 =
            ap length popped ∙ length_push mid.todo.items m in
            omega arith;
      }

-- where none is left to follow, or all that there can be were followed
pub follow-ended : (rows : List (List MethodId)) (i count : ℕ) (first now new : Reach) →
    new.flags.items ≡ now.flags.items → new.todo.items ≡ now.todo.items → IsFollowing rows i first now →
    (length first.todo.items ≡ come_to first → length first.flags.items ≤ count → now.todo.items ≡ []) →
    IsFollowed rows count first new
follow-ended rows i count first now new same still at none =
    let flag : (n : MethodId) → is_come_to new n ≡ is_come_to now n =
    λ n. ap (λ (fs : List Bool). slice_index_or fs n.0 false) same in
    let size : length new.flags.items ≡ length now.flags.items = ap length same in
    record {
      size = size ∙ at.size;
      sound = λ n e. at.sound n (sym (flag n) ∙ e);
      kept = λ n e. flag n ∙ at.kept n e;
      closed = λ shut a b low holds call. elim (at.closed shut a b (omega arith) (sym (flag a) ∙ holds) call) [
        | inl there ↦ inl (subst (λ (ms : List MethodId). Contains ms a) (sym still) there)
        | inr come ↦ inr (flag b ∙ come)
      ];
      ended = λ e few. still ∙ none e few;
    }

pub none-left : (rows : List (List MethodId)) (i count : ℕ) (first now : Reach) → IsFollowing rows i first now →
    count ≤ i → length first.todo.items ≡ come_to first → length first.flags.items ≤ count → now.todo.items ≡ []
none-left rows i count first now at past e few =
    let all : i + length now.todo.items ≡ come_to now = at.count e in
    let most : come_to now ≤ length now.flags.items = count_by-le-length (λ (b : Bool). b) now.flags.items in
    let size : length now.flags.items ≡ length first.flags.items = at.size in
    nil_from_length now.todo.items (omega arith)
