-- Loops over what is left of two lists.
use Rattle.std.proofs.Common.{◌≡◌, ℕ, ◌+◌, ◌<◌, ◌≤◌, List, [], ◌∷◌, ◌++◌, length, drop, get_or, sym, ap, ◌∙◌}
use Rattle.std.proofs.Common.{append-nil, append_assoc, arith, ◌⊎◌, inl, inr}
use Rattle.std.proofs.lemmas.Bool.{cases_lt}
use Rattle.std.specs.Prelude.{min}
use Rattle.std.proofs.lemmas.List.{at_drop_more, at_drop_all}

module _ {A B C : Type 0} (F : List A → List B → List C) (xs : List A) (ys : List B) (i : ℕ) (made whole : List C)
    (before : made ++ F (drop i xs) (drop i ys) ≡ whole) where
  pub zip-turn : (f : A → B → C) (x : A) (y : B) (new : List C) →
      ((l : A) (ls : List A) (r : B) (rs : List B) → F (l ∷ ls) (r ∷ rs) ≡ f l r ∷ F ls rs) → i < length xs →
      i < length ys → x ≡ get_or xs i x → y ≡ get_or ys i y → new ≡ made ++ f x y ∷ [] →
      new ++ F (drop (i + 1) xs) (drop (i + 1) ys) ≡ whole
  zip-turn f x y new splits in_xs in_ys is_x is_y e =
      let ls : List A = drop (i + 1) xs in
      let rs : List B = drop (i + 1) ys in
      ap (λ (cs : List C). cs ++ F ls rs) e
      ∙ append_assoc made (f x y ∷ []) (F ls rs)
      ∙ ap (λ (cs : List C). made ++ cs) (sym (splits x ls y rs))
      ∙ ap (λ (l : A). made ++ F (l ∷ ls) (y ∷ rs)) is_x
      ∙ ap (λ (r : B). made ++ F (get_or xs i x ∷ ls) (r ∷ rs)) is_y
      ∙ sym (at_drop_more (λ (left : List A). made ++ F left (get_or ys i y ∷ rs)) xs i x in_xs)
      ∙ sym (at_drop_more (λ (left : List B). made ++ F (drop i xs) left) ys i y in_ys)
      ∙ before

  pub zip-ended : ((rs : List B) → F [] rs ≡ []) → ((ls : List A) → F ls [] ≡ []) →
      i ≡ min (length xs) (length ys) → made ≡ whole
  zip-ended no_first no_second end = by (cases_lt (length ys) (length xs))
    where
      ending : F (drop i xs) (drop i ys) ≡ [] → made ≡ whole
      ending e = sym (append-nil made) ∙ ap (λ (cs : List C). made ++ cs) (sym e) ∙ before

      by : (length ys < length xs) ⊎ (length xs ≤ length ys) → made ≡ whole
      by (inl less) =
          let past : length ys ≤ i = omega (arith, end, less) in
          ending (at_drop_all (λ (left : List B). F (drop i xs) left) ys i past ∙ no_second (drop i xs))
      by (inr most) =
          let past : length xs ≤ i = omega (arith, end, most) in
          ending (at_drop_all (λ (left : List A). F left (drop i ys)) xs i past ∙ no_first (drop i ys))
