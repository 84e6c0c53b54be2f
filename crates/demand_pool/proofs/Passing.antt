-- The passes of a run, in their order.
use Rattle.std.proofs.Common.{◌≡◌, ℕ, zero, suc, ◌<◌, List, [], ◌∷◌, ◌++◌, length, get_or, refl, sym, ap, ◌∙◌, arith}
use Rattle.std.proofs.Common.{inl, inr}
use Rattle.std.specs.Prelude.{◌⊎◌}
use Rattle.summary_store.specs.declared.machine.Hand.TheVariants.{Free}
use Rattle.summary_store.specs.Passes.{PassView, pass_view, first_passes}
use Rattle.summary_store.proofs.Opening.{first_passes-length}

get_or-snoc_front : {X : Type 0} (xs : List X) (x d : X) (k : ℕ) → k < length xs
    → get_or (xs ++ x ∷ []) k d ≡ get_or xs k d
get_or-snoc_front [] x d k low = absurd (omega arith)
get_or-snoc_front (y ∷ ys) x d zero low = refl
get_or-snoc_front (y ∷ ys) x d (suc k) low = get_or-snoc_front ys x d k (omega arith)

get_or-snoc_last : {X : Type 0} (xs : List X) (x d : X) → get_or (xs ++ x ∷ []) (length xs) d ≡ x
get_or-snoc_last [] x d = refl
get_or-snoc_last (y ∷ ys) x d = get_or-snoc_last ys x d

front_or_last : (k n : ℕ) → k < suc n → (k < n) ⊎ (k ≡ n)
front_or_last k n h = grind arith

first_last : (n k : ℕ) (d : PassView) → k ≡ n
    → get_or (first_passes n ++ pass_view n Free 0 0 ∷ []) k d ≡ pass_view k Free 0 0
first_last n k d e =
    (λ i. get_or (first_passes n ++ pass_view n Free 0 0 ∷ []) ((e ∙ sym (first_passes-length n)) i) d)
    ∙ get_or-snoc_last (first_passes n) (pass_view n Free 0 0) d ∙ (λ i. pass_view (sym e i) Free 0 0)

-- the passes at the start, one by one
first_at : (n k : ℕ) (d : PassView) → k < n → get_or (first_passes n) k d ≡ pass_view k Free 0 0
first_at zero k d low = absurd (omega arith)
first_at (suc n) k d low =
    elim (front_or_last k n low) as
    (λ x. get_or (first_passes n ++ pass_view n Free 0 0 ∷ []) k d ≡ pass_view k Free 0 0) [
      | inl b ↦ get_or-snoc_front (first_passes n) (pass_view n Free 0 0) d k (omega (arith, first_passes-length n))
          ∙ first_at n k d b
      | inr e ↦ first_last n k d e
    ]

-- x stands at place k of the passes at the start
module _ (n k : ℕ) (items : List PassView) (x : PassView) (is : items ≡ first_passes n)
    (at : x ≡ get_or items k x) where
  here : k < n → x ≡ pass_view k Free 0 0
  here low = at ∙ ap (λ (q : List PassView). get_or q k x) is ∙ first_at n k x low

  pub free_at : k < length items → x.hand ≡ Free
  free_at low =
      let l : length items ≡ length (first_passes n) = ap length is in
      ap (λ (p : PassView). p.hand) (here (omega (arith, first_passes-length n)))

  pub number_at : k < n → x.number ≡ k
  number_at low = ap (λ (p : PassView). p.number) (here low)
