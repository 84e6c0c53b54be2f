-- One more of a list that is looked through, and its end.
use Rattle.std.proofs.Common.{◌≡◌, ℕ, ◌+◌, ◌<◌, ◌≤◌, Bool, true, false, ◌||◌, List, length, get_or, drop, sym, ap, ◌∙◌}
use Rattle.std.proofs.Common.{nat_eq}
use Rattle.std.proofs.lemmas.Bool.{eq-eqb, ne_eqb}
use Rattle.std.specs.List.{list_any}
use Rattle.std.proofs.lemmas.List.{at_drop_more, at_drop_all}

module _ {X : Type 0} (test : X → Bool) (xs : List X) (i : ℕ) (whole : Bool) where
  pub none_yet : (d : X) → i < length xs → false ≡ test (get_or xs i d) →
      whole ≡ list_any test (drop i xs) → whole ≡ list_any test (drop (i + 1) xs)
  none_yet d within other e =
      e
      ∙ at_drop_more (list_any test) xs i d within
      ∙ ap (λ (b : Bool). b || list_any test (drop (i + 1) xs)) (sym other)

  pub found : (d : X) → i < length xs → true ≡ test (get_or xs i d) → whole ≡ list_any test (drop i xs) →
      true ≡ whole
  found d within same e =
      sym (e
      ∙ at_drop_more (list_any test) xs i d within
      ∙ ap (λ (b : Bool). b || list_any test (drop (i + 1) xs)) (sym same))

  pub none : length xs ≤ i → whole ≡ list_any test (drop i xs) → false ≡ whole
  none past e = sym (e ∙ at_drop_all (list_any test) xs i past)

module _ (a b x y : ℕ) (is_a : x ≡ a) (is_b : y ≡ b) where
  pub same_numbers : x ≡ y → true ≡ nat_eq a b
  same_numbers e = sym (eq-eqb a b (sym is_a ∙ e ∙ is_b))

  pub other_numbers : (x ≡ y → ⊥) → false ≡ nat_eq a b
  other_numbers other = sym (ne_eqb a b (λ e. other (is_a ∙ e ∙ sym is_b)))
