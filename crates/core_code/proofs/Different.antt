-- The different methods of a list, one after another.
use Rattle.std.proofs.Common.{◌≡◌, ℕ, ◌<◌, ◌≤◌, Bool, true, false, cond, ◌&&◌, ◌||◌, not, List, [], ◌∷◌, ◌++◌, filter}
use Rattle.std.proofs.Common.{nat_eq}
use Rattle.std.proofs.Common.{length, refl, sym, ap, ◌∙◌, arith, inl, inr, append_assoc, set, get_or-set_same}
use Rattle.std.proofs.Common.{get_or-set_other, subst}
use borrow.Author.Tests.{eqb-true}
use Rattle.std.proofs.lemmas.Bool.{cases_eq, eq-eqb, ne_eqb}
use Rattle.std.proofs.lemmas.List.Elements.{filter_agree}
use Rattle.std.proofs.lemmas.List.Folds.{list_any-append}
use Rattle.racer_base.specs.declared.ids.MethodId.{MethodId}
use Rattle.core_code.specs.CalleeRows.{different}
use Rattle.core_code.specs.Stamps.{is_member, stamp_of, pushed, AreBelow, Tell, others}

filter-filter : {X : Type 0} (p q : X → Bool) (xs : List X) → filter p (filter q xs) ≡ filter (λ x. q x && p x) xs
filter-filter p q [] = refl
filter-filter {X} p q (x ∷ xs) =
    elim (q x) as (λ b. filter p (cond b (x ∷ filter q xs) (filter q xs)) ≡
    cond (b && p x) (x ∷ filter (λ y. q y && p y) xs) (filter (λ y. q y && p y) xs)) [
      | true ↦ elim (p x) as (λ b. cond b (x ∷ filter p (filter q xs)) (filter p (filter q xs)) ≡
          cond b (x ∷ filter (λ y. q y && p y) xs) (filter (λ y. q y && p y) xs)) [
            | true ↦ ap (λ (rest : List X). x ∷ rest) (filter-filter p q xs)
            | false ↦ filter-filter p q xs
          ]
      | false ↦ filter-filter p q xs
    ]

abbrev is_other : List MethodId → MethodId → Bool
is_other row m = not (is_member row m.0)

abbrev differs : MethodId → MethodId → Bool
differs m n = not (nat_eq m.0 n.0)

is_member-push : (row : List MethodId) (m : MethodId) (n : ℕ) →
    is_member (row ++ m ∷ []) n ≡ (is_member row n || (nat_eq m.0 n || false))
is_member-push row m n = list_any-append (λ (k : MethodId). nat_eq k.0 n) row (m ∷ [])

-- a method that is in the row already
known_other : (row : List MethodId) (m n : MethodId) → is_member row m.0 ≡ true →
    (differs m n && is_other row n) ≡ is_other row n
known_other row m n there =
    elim (nat_eq m.0 n.0) as (λ b. nat_eq m.0 n.0 ≡ b → (not b && is_other row n) ≡ is_other row n) [
      | true ↦ λ e.
          let same : m.0 ≡ n.0 = eqb-true m.0 n.0 e in
          ap (λ (b : Bool). not b) (sym there ∙ ap (is_member row) same)
      | false ↦ λ e. refl
    ] refl

pub turn_known : (row : List MethodId) (m : MethodId) (callees : List MethodId) → is_member row m.0 ≡ true →
    others row (m ∷ callees) ≡ others row callees
turn_known row m callees there =
    let rest : List MethodId = filter (differs m) (different callees) in
    ap (λ (b : Bool). cond (not b) (m ∷ filter (is_other row) rest) (filter (is_other row) rest)) there
    ∙ filter-filter (is_other row) (differs m) (different callees)
    ∙ filter_agree (λ (n : MethodId). differs m n && is_other row n) (is_other row) (λ n. known_other row m n there)
    (different callees)

other_now : (a b : Bool) → (not b && not a) ≡ not (a || (b || false))
other_now true true = refl
other_now true false = refl
other_now false true = refl
other_now false false = refl

pub turn_new : (row : List MethodId) (m : MethodId) (callees : List MethodId) → is_member row m.0 ≡ false →
    row ++ others row (m ∷ callees) ≡ (row ++ m ∷ []) ++ others (row ++ m ∷ []) callees
turn_new row m callees new =
    let rest : List MethodId = filter (differs m) (different callees) in
    ap (λ (b : Bool). row ++ cond (not b) (m ∷ filter (is_other row) rest) (filter (is_other row) rest)) new
    ∙ ap (λ (ms : List MethodId). row ++ m ∷ ms) (filter-filter (is_other row) (differs m) (different callees)
    ∙ filter_agree (λ (n : MethodId). differs m n && is_other row n) (is_other (row ++ m ∷ []))
    (λ n. other_now (is_member row n.0) (nat_eq m.0 n.0) ∙ ap (λ (b : Bool). not b) (sym (is_member-push row m n.0)))
    (different callees))
    ∙ sym (append_assoc row (m ∷ []) (others (row ++ m ∷ []) callees))

-- ---- stamps

-- at the beginning no method has the stamp
pub tell_none : (stamps : List ℕ) (stamp : ℕ) → AreBelow stamps stamp → Tell stamps stamp []
tell_none stamps stamp below =
    record {
      most = λ n. let less : stamp_of stamps n < stamp = below n in omega arith;
      members = λ n. let less : stamp_of stamps n < stamp = below n in
          ne_eqb (stamp_of stamps n) stamp (λ (e : stamp_of stamps n ≡ stamp). omega arith);
    }

-- a method of the row is stamped once more
pub tell_known : (stamps : List ℕ) (stamp : ℕ) (row : List MethodId) (m : ℕ) → m < length stamps →
    is_member row m ≡ true → Tell stamps stamp row → Tell (set stamps m stamp) stamp row
tell_known stamps stamp row m within there told =
    record {
      most = λ n. elim (cases_eq n m) [
        | inl same ↦ let is : stamp_of (set stamps m stamp) n ≡ stamp = at_own n same in omega arith
        | inr other ↦
            let is : stamp_of (set stamps m stamp) n ≡ stamp_of stamps n = get_or-set_other stamps m n stamp 0 other in
            let most : stamp_of stamps n ≤ stamp = told.most n in omega arith
      ];
      members = λ n. elim (cases_eq n m) as (λ _. nat_eq (stamp_of (set stamps m stamp) n) stamp ≡ is_member row n) [
        | inl same ↦
            eq-eqb (stamp_of (set stamps m stamp) n) stamp (at_own n same) ∙ sym there ∙ ap (is_member row) (sym same)
        | inr other ↦ ap (λ (k : ℕ). nat_eq k stamp) (get_or-set_other stamps m n stamp 0 other) ∙ told.members n
      ];
    }
  where
    at_own : (n : ℕ) → n ≡ m → stamp_of (set stamps m stamp) n ≡ stamp
    at_own n same = ap (stamp_of (set stamps m stamp)) same ∙ get_or-set_same stamps m stamp 0 within

-- a method is stamped and put at the end of the row
pub tell_new : (stamps : List ℕ) (stamp : ℕ) (row : List MethodId) (m : MethodId) → m.0 < length stamps →
    Tell stamps stamp row → Tell (set stamps m.0 stamp) stamp (row ++ m ∷ [])
tell_new stamps stamp row m within told =
    record {
      most = λ n. elim (cases_eq n m.0) [
        | inl same ↦ let is : stamp_of (set stamps m.0 stamp) n ≡ stamp = at_own n same in omega arith
        | inr other ↦
            let is : stamp_of (set stamps m.0 stamp) n ≡ stamp_of stamps n =
            get_or-set_other stamps m.0 n stamp 0 other in
            let most : stamp_of stamps n ≤ stamp = told.most n in omega arith
      ];
      members = λ n. elim (cases_eq n m.0) as (λ _. nat_eq (stamp_of (set stamps m.0 stamp) n) stamp ≡
          is_member (row ++ m ∷ []) n) [
            | inl same ↦
                eq-eqb (stamp_of (set stamps m.0 stamp) n) stamp (at_own n same)
                ∙ sym (is_member-push row m n ∙ ap (λ (b : Bool). is_member row n || (b || false))
                (eq-eqb m.0 n (sym same))
                ∙ or_true (is_member row n))
            | inr other ↦
                ap (λ (k : ℕ). nat_eq k stamp) (get_or-set_other stamps m.0 n stamp 0 other)
                ∙ told.members n
                ∙ sym (is_member-push row m n
                ∙ ap (λ (b : Bool). is_member row n || (b || false)) (ne_eqb m.0 n (λ (e : m.0 ≡ n). other (sym e)))
                ∙ or_false (is_member row n))
          ];
    }
  where
    at_own : (n : ℕ) → n ≡ m.0 → stamp_of (set stamps m.0 stamp) n ≡ stamp
    at_own n same = ap (stamp_of (set stamps m.0 stamp)) same ∙ get_or-set_same stamps m.0 stamp 0 within

    or_true : (b : Bool) → (b || (true || false)) ≡ true
    or_true true = refl
    or_true false = refl

    or_false : (b : Bool) → (b || (false || false)) ≡ b
    or_false true = refl
    or_false false = refl

-- ---- one turn

pub filter_all : {X : Type 0} (xs : List X) → filter (λ _. true) xs ≡ xs
filter_all [] = refl
filter_all {X} (x ∷ xs) = ap (λ (rest : List X). x ∷ rest) (filter_all xs)

-- of an empty row all are others
pub others_none : (callees : List MethodId) → others [] callees ≡ different callees
others_none callees = filter_all (different callees)

module _ (stamps : List ℕ) (stamp : ℕ) (row : List MethodId) (m : MethodId) (told : Tell stamps stamp row) where
  pub turn_row : (callees : List MethodId) →
      pushed row m (nat_eq (stamp_of stamps m.0) stamp)
      ++ others (pushed row m (nat_eq (stamp_of stamps m.0) stamp)) callees ≡ row ++ others row (m ∷ callees)
  turn_row callees =
      elim (nat_eq (stamp_of stamps m.0) stamp) as (λ b. nat_eq (stamp_of stamps m.0) stamp ≡ b →
      pushed row m b ++ others (pushed row m b) callees ≡ row ++ others row (m ∷ callees)) [
        | true ↦ λ e.
            ap (λ (more : List MethodId). row ++ more) (sym (turn_known row m callees (sym (told.members m.0) ∙ e)))
        | false ↦ λ e. sym (turn_new row m callees (sym (told.members m.0) ∙ e))
      ] refl

  pub turn_told : m.0 < length stamps →
      Tell (set stamps m.0 stamp) stamp (pushed row m (nat_eq (stamp_of stamps m.0) stamp))
  turn_told within =
      elim (nat_eq (stamp_of stamps m.0) stamp) as (λ b. nat_eq (stamp_of stamps m.0) stamp ≡ b →
      Tell (set stamps m.0 stamp) stamp (pushed row m b)) [
        | true ↦ λ e. tell_known stamps stamp row m.0 within (sym (told.members m.0) ∙ e) told
        | false ↦ λ e. tell_new stamps stamp row m within told
      ] refl

-- the same of what a turn leaves
pub turn : (stamps : List ℕ) (stamp : ℕ) (row : List MethodId) (m : MethodId) (callees : List MethodId)
    (new_row : List MethodId) (new_stamps : List ℕ) (whole : List MethodId) →
    new_row ≡ pushed row m (nat_eq (stamp_of stamps m.0) stamp) → new_stamps ≡ set stamps m.0 stamp →
    m.0 < length stamps → Tell stamps stamp row → row ++ others row (m ∷ callees) ≡ whole →
    (new_row ++ others new_row callees ≡ whole) × Tell new_stamps stamp new_row
turn stamps stamp row m callees new_row new_stamps whole e f within told is = (
  ap (λ (r : List MethodId). r ++ others r callees) e ∙ turn_row stamps stamp row m told callees ∙ is,
  subst (λ (r : List MethodId). Tell new_stamps stamp r) (sym e)
      (subst (λ (s : List ℕ). Tell s stamp (pushed row m (nat_eq (stamp_of stamps m.0) stamp))) (sym f)
      (turn_told stamps stamp row m told within)),
)
