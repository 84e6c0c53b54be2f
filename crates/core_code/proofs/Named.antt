-- What is seen of an element of a list, at its number.
use Rattle.std.proofs.Common.{◌≡◌, ℕ, ◌<◌, List, length, map, Some, get_or, option_map, slice_get, sym, ap, ◌∙◌, subst}
use Rattle.std.proofs.lemmas.List.{length-map}
use Rattle.std.proofs.lemmas.Option.{slice_get-map, slice_get-get_or}

module _ {A B : Type 0} (f : A → B) (all xs : List A) (i : ℕ) (same : xs ≡ all) where
  -- the number is one of the list's own
  pub is_within : i < length (map f all) → i < length xs
  is_within within =
      subst (λ (ys : List A). i < length ys) (sym same) (subst (λ (n : ℕ). i < n) (length-map all f) within)

  pub is_seen : (d : A) (seen : B) → i < length (map f all) → seen ≡ f (get_or xs i d) →
      slice_get (map f all) i ≡ Some seen
  is_seen d seen within e =
      slice_get-map f all i
      ∙ ap (λ (ys : List A). option_map f (slice_get ys i)) (sym same)
      ∙ ap (option_map f) (slice_get-get_or xs i d (is_within within))
      ∙ ap Some (sym e)
