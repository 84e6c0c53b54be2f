-- The kinds in which loops were left, as a list by their numbers.
use Rattle.std.proofs.Common.{◌≡◌, ℕ, zero, suc, ◌<◌, inl, inr, List, [], ◌∷◌, ◌++◌, Option, None, Some}
use Rattle.std.proofs.Common.{cond, length, get_or, refl, sym, ap, ◌∙◌}
use Rattle.std.specs.Prelude.{slice_index_or, slice_set}
use Rattle.std.proofs.lemmas.Bool.{cases_eq, eq-eqb, ne_eqb}
use Rattle.std.proofs.lemmas.List.{get_or-set_same, get_or-set_other, get_or_read}
use Rattle.typed_core.specs.declared.states.KindState.{KindState}
use Rattle.typed_core.specs.Resuming.{Heads, put_head}

abbrev pub heads_in : List (Option KindState) → Heads
heads_in list i = slice_index_or list i None

-- a place for a loop that was not left yet changes no head
pub none-behind : (list : List (Option KindState)) (i : ℕ) → heads_in (list ++ None ∷ []) i ≡ heads_in list i
none-behind [] zero = refl
none-behind [] (suc i) = refl
none-behind (x ∷ list) zero = refl
none-behind (x ∷ list) (suc i) = none-behind list i

pub set-head : (list : List (Option KindState)) (k : ℕ) (x : KindState) (i : ℕ) → k < length list →
    heads_in (slice_set list k (Some x)) i ≡ put_head (heads_in list) k x i
set-head list k x i low = elim (cases_eq i k) [
  | inl same ↦
      ap (λ (n : ℕ). heads_in (slice_set list k (Some x)) n) same
      ∙ get_or-set_same list k (Some x) None low
      ∙ sym (ap (λ b. cond b (Some x) (heads_in list i)) (eq-eqb i k same))
  | inr other ↦
      get_or-set_other list k i (Some x) None other
      ∙ sym (ap (λ b. cond b (Some x) (heads_in list i)) (ne_eqb i k other))
]

-- what is read at a place is the head of its loop
pub head-read : (list : List (Option KindState)) (k : ℕ) (x : Option KindState) → k < length list →
    x ≡ get_or list k x → x ≡ heads_in list k
head-read list k x low is = get_or_read list k x low is None
