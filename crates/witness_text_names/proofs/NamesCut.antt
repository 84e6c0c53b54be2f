-- The names of a text are the one before its first dot and those behind it.
use Rattle.std.proofs.Common.{◌≡◌, ◌<◌, ℕ, Bool, false, ◌==◌, List, [], ◌∷◌, Option, None, Some, length}
use Rattle.std.proofs.Common.{sym, ap, subst, ◌∙◌, arith, MatchOption}
use Rattle.std.proofs.lemmas.List.Elements.{All-from_get_or}
use Rattle.std.proofs.lemmas.List.Splits.{length-slice_split, slice_split_first, slice_split_none}
use Rattle.std.proofs.lemmas.List.Sums.{fails_before_first}
use Rattle.std.proofs.lemmas.Str.Pattern.{IsSplitOnceResult, split_once_first}
use Rattle.std.specs.Borrow.{Bor}
use Rattle.std.specs.List.{after_first, before_first, position_or_len, slice_split}
use Rattle.witness_text_names.specs.Names.{names_in}

abbrev pub is_dot : ℕ → Bool
is_dot b = b == 46

-- a text without a dot is one name
one_name : (bs : List ℕ) → position_or_len is_dot bs ≡ length bs → names_in bs ≡ bs ∷ []
one_name bs none =
    slice_split_none is_dot bs
    (All-from_get_or (λ b. is_dot b ≡ false) bs 0
    (λ i below. fails_before_first is_dot bs i 0 (subst (λ n. i < n) (sym none) below)))

pub cut_names : (bs : List ℕ) (r : Option (Bor (List ℕ) × Bor (List ℕ))) → IsSplitOnceResult 46 bs r →
    MatchOption r (names_in bs ≡ bs ∷ []) (λ x. names_in bs ≡ x.0.now ∷ names_in x.1.now)
cut_names bs r found = by r (split_once_first 46 bs r found (omega arith))
  where
    by : (o : Option (Bor (List ℕ) × Bor (List ℕ))) → MatchOption o (position_or_len is_dot bs ≡ length bs)
        (λ x. (position_or_len is_dot bs < length bs) × (x.0.now ≡ before_first is_dot bs)
        × (x.1.now ≡ after_first is_dot bs)) →
        MatchOption o (names_in bs ≡ bs ∷ []) (λ x. names_in bs ≡ x.0.now ∷ names_in x.1.now)
    by None none = one_name bs none
    by (Some x) (within, first, last) =
        slice_split_first is_dot bs 0 within
        ∙ (λ i. sym first i ∷ slice_split is_dot (sym last i))

-- there is a name in each text
pub some_name : (bs : List ℕ) → names_in bs ≡ [] → ⊥
some_name bs none =
    let size = length-slice_split is_dot bs in
    let empty : length (names_in bs) ≡ 0 = ap (λ (ns : List (List ℕ)). length ns) none in
    omega (arith, size, empty)
