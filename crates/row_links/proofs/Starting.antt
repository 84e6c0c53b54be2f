-- All nodes in one list.
use Rattle.std.proofs.Common.{◌≡◌, ℕ, zero, suc, ◌+◌, ◌≤◌, ◌<◌, inl, inr, List, [], ◌∷◌, ◌++◌, length, slice_index}
use Rattle.std.proofs.Common.{slice_set, replicate, refl, sym, ap, subst, ◌∙◌, arith}
use Rattle.std.specs.List.{concat, range_with_len}
use Rattle.std.proofs.lemmas.Bool.{cases_eq}
use Rattle.std.proofs.lemmas.List.{length-set, length-replicate, get_or-set_same, get_or-set_other, set-set}
use Rattle.std.proofs.lemmas.List.FromFn.{length-range_with_len, get_or-range_with_len}
use Rattle.row_links.specs.Lists.{list_at, all_in, put_last, times, node_count, HasEachOnce}
use Rattle.row_links.specs.Rings.{Joined, AreRings}
use Rattle.row_links.proofs.Counting.{same_once, other_never, times-set, count-set}
use Rattle.row_links.proofs.Ringing.{put_in, of-before, of-low}
use Rattle.row_links.proofs.Seeing.{seen_as, IsSeenAs}

range-more : (a n : ℕ) → range_with_len a (n + 1) ≡ range_with_len a n ++ (a + n) ∷ []
range-more a zero = ap (λ k. k ∷ []) (let e : a ≡ a + 0 = omega arith in e)
range-more a (suc n) = let one : suc n + 1 ≡ suc (n + 1) = omega arith in ap (range_with_len a) one
    ∙ ap (λ l. a ∷ l) (range-more (a + 1) n
    ∙ ap (λ k. range_with_len (a + 1) n ++ k ∷ []) (let e : a + 1 + n ≡ a + suc n = omega arith in e))

pub range_more : (n : ℕ) (xs : List ℕ) → xs ≡ range_with_len 0 n → xs ++ n ∷ [] ≡ range_with_len 0 (n + 1)
range_more n xs e = ap (λ l. l ++ n ∷ []) e
    ∙ ap (λ k. range_with_len 0 n ++ k ∷ []) (let e : n ≡ 0 + n = omega arith in e) ∙ sym (range-more 0 n)

times-range_below : (x a n : ℕ) → x < a → times x (range_with_len a n) ≡ 0
times-range_below x a zero low = refl
times-range_below x a (suc n) low = let rest = times-range_below x (a + 1) n (omega arith) in
    let never = other_never x a (λ e. omega arith) in omega arith

times-range_in : (x a n : ℕ) → a ≤ x → x < a + n → times x (range_with_len a n) ≡ 1
times-range_in x a zero low high = absurd (omega arith)
times-range_in x a (suc n) low high = elim (cases_eq x a) [
  | inl e ↦ let one = same_once x a e in let rest = times-range_below x (a + 1) n (omega arith) in omega arith
  | inr e ↦ let never = other_never x a e in let rest = times-range_in x (a + 1) n (omega arith) (omega arith) in
      omega arith
]

times-range_above : (x a n : ℕ) → a + n ≤ x → times x (range_with_len a n) ≡ 0
times-range_above x a zero high = refl
times-range_above x a (suc n) high = let rest = times-range_above x (a + 1) n (omega arith) in
    let never = other_never x a (λ e. omega arith) in omega arith

times-empty : (x k : ℕ) → times x (concat (replicate k [])) ≡ 0
times-empty x zero = refl
times-empty x (suc k) = times-empty x k

count-empty : (k : ℕ) → node_count (replicate k []) ≡ 0
count-empty zero = refl
count-empty (suc k) = count-empty k

empty-at : (l k : ℕ) → list_at (replicate k []) l ≡ []
empty-at l zero = refl
empty-at zero (suc k) = refl
empty-at (suc l) (suc k) = empty-at l k

length-empty : (k : ℕ) → length (replicate {A = List ℕ} k []) ≡ k
length-empty k = length-replicate k []

pub length-all_in : (l n k : ℕ) → length (all_in l n k) ≡ k
length-all_in l n k = length-set (replicate k []) l (range_with_len 0 n) ∙ length-replicate k []

pub times-all_in : (x l n k : ℕ) → l < k → times x (concat (all_in l n k)) ≡ times x (range_with_len 0 n)
times-all_in x l n k low = let long = length-empty k in
    let all = times-set x l (range_with_len 0 n) (replicate k []) (omega arith) in
    let none = times-empty x k in let row = ap (times x) (empty-at l k) in
    let nothing : times x [] ≡ 0 = refl in omega arith

pub count-all_in : (l n k : ℕ) → l < k → node_count (all_in l n k) ≡ n
count-all_in l n k low = let long = length-empty k in
    let all = count-set l (range_with_len 0 n) (replicate k []) (omega arith) in
    let none = count-empty k in let row = ap length (empty-at l k) in
    let nothing : length {A = ℕ} [] ≡ 0 = refl in let range = length-range_with_len 0 n in omega arith

pub each-all_in : (l n k : ℕ) → l < k → HasEachOnce (all_in l n k)
each-all_in l n k low = let count = count-all_in l n k low in record {
  once = λ x in_all. times-all_in x l n k low ∙ times-range_in x 0 n (omega arith) (omega arith);
  others = λ x out. times-all_in x l n k low ∙ times-range_above x 0 n (omega arith);
}

pub at-all_in : (l n k : ℕ) → l < k → list_at (all_in l n k) l ≡ range_with_len 0 n
at-all_in l n k low = get_or-set_same (replicate k []) l (range_with_len 0 n) []
    (let long = length-empty k in omega arith)

pub at-all_in_other : (l m n k : ℕ) → (m ≡ l → ⊥) → list_at (all_in l n k) m ≡ []
at-all_in_other l m n k other = get_or-set_other (replicate k []) l m (range_with_len 0 n) [] other ∙ empty-at m k

-- ---- one node more

pub all_in-more : (l n k : ℕ) → l < k → put_last n l (all_in l n k) ≡ all_in l (n + 1) k
all_in-more l n k low = ap (slice_set (all_in l n k) l) (ap (λ xs. xs ++ n ∷ []) (at-all_in l n k low)
    ∙ range_more n (range_with_len 0 n) refl) ∙ set-set (replicate k []) l (range_with_len 0 n)
    (range_with_len 0 (n + 1))

pub alone-at : (n a : ℕ) → a < n → slice_index (range_with_len 0 n) a ≡ a
alone-at n a low = get_or-range_with_len 0 n a 0 low ∙ (let e : 0 + a ≡ a = omega arith in e)

pub none_yet : (n l k : ℕ) (next before : List ℕ) → l < k → next ≡ range_with_len 0 (n + k) →
    before ≡ range_with_len 0 (n + k) → AreRings n next before (all_in l 0 k)
none_yet n l k next before low next_is before_is = let long = length-all_in l 0 k in record {
  next_length = ap length next_is ∙ length-range_with_len 0 (n + k) ∙ omega arith;
  before_length = ap length before_is ∙ length-range_with_len 0 (n + k) ∙ omega arith;
  joined = λ m low_m. subst (λ xs. Joined next before (n + m) xs (n + m)) (sym (nothing m)) (
    ap (λ c. slice_index c (n + m)) next_is ∙ alone-at (n + k) (n + m) (omega (arith, long)),
    ap (λ c. slice_index c (n + m)) before_is ∙ alone-at (n + k) (n + m) (omega (arith, long)),
  );
  once = λ x. let none = times-all_in x l 0 k low in let nothing : times x [] ≡ 0 = refl in omega arith;
  below = λ x high. times-all_in x l 0 k low;
}
  where
    nothing : (m : ℕ) → list_at (all_in l 0 k) m ≡ []
    nothing m = elim (cases_eq m l) [
      | inl e ↦ ap (list_at (all_in l 0 k)) e ∙ at-all_in l 0 k low
      | inr e ↦ at-all_in_other l m 0 k e
    ]

pub one_more : (n l k x last : ℕ) (next before next_1 before_1 next_2 before_2 : List ℕ) → l < k → x < n →
    AreRings n next before (all_in l x k) → last ≡ slice_index before (n + l) → next_1 ≡ slice_set next last x →
    before_1 ≡ slice_set before x last → next_2 ≡ slice_set next_1 x (n + l) →
    before_2 ≡ slice_set before_1 (n + l) x → AreRings n next_2 before_2 (all_in l (x + 1) k)
one_more n l k x last next before next_1 before_1 next_2 before_2 low low_x r last_is next_1_is before_1_is next_2_is
    before_2_is =
    subst (λ c. AreRings n c before_2 (all_in l (x + 1) k)) (sym (next_2_is ∙ ap (λ c. slice_set c x (n + l)) (next_1_is
    ∙ ap (λ p. slice_set next p x) last_is)))
    (subst (λ c. AreRings n (slice_set (slice_set next (slice_index before (n + l)) x) x (n + l)) c (all_in l
    (x + 1) k))
    (sym (before_2_is ∙ ap (λ c. slice_set c (n + l) x) (before_1_is ∙ ap (λ p. slice_set before x p) last_is)))
    (subst (λ lists. AreRings n (slice_set (slice_set next (slice_index before (n + l)) x) x (n + l))
    (slice_set (slice_set before x (slice_index before (n + l))) (n + l) x) lists) (all_in-more l x k low)
    (put_in n next before (all_in l x k) x l r (let long = length-all_in l x k in omega arith) low_x
    (times-all_in x l x k low ∙ times-range_above x 0 x (omega arith)))))

pub last_is_low : (n l k x last : ℕ) (next before : List ℕ) → l < k → AreRings n next before (all_in l x k) →
    last ≡ slice_index before (n + l) → last < n + k
last_is_low n l k x last next before low r last_is = let long = length-all_in l x k in
    let here : l < length (all_in l x k) = omega arith in
    let below = of-low n next before (all_in l x k) (slice_index before (n + l)) l r here
    (of-before n next before (all_in l x k) (n + l) l r here (inl refl)) in omega arith

pub all_are_in : (n l k x : ℕ) (next before : List ℕ) → l < k → AreRings n next before (all_in l x k) → x ≤ n → n ≤ x →
    IsSeenAs n next before (all_in l n k)
all_are_in n l k x next before low r le ge =
    seen_as n next before (all_in l n k)
    (subst (λ x. AreRings n next before (all_in l x k)) (let e : x ≡ n = omega arith in e) r) (each-all_in l n k low)
    (count-all_in l n k low)
