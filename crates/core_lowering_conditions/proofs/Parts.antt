-- What holds of each token of a list holds of each token of its parts.
use Rattle.std.proofs.Common.{◌≡◌, ℕ, zero, suc, Bool, true, false, cond, List, [], ◌∷◌, ◌++◌, map, filter, take}
use Rattle.std.proofs.Common.{sym, subst}
use Rattle.java_tree.specs.FormedModifiers.{Each}
use Rattle.java_parser_grammar.specs.Cuts.{joined}

module _ {A : Type 0} (P : A → Type 0) where
  pub each_front : (xs ys : List A) → Each P (xs ++ ys) → Each P xs
  each_front [] ys h = tt
  each_front (x ∷ xs) ys h = (h.0, each_front xs ys h.1)

  pub each_behind : (xs ys : List A) → Each P (xs ++ ys) → Each P ys
  each_behind [] ys h = h
  each_behind (x ∷ xs) ys h = each_behind xs ys h.1

  pub each_append : (xs ys : List A) → Each P xs → Each P ys → Each P (xs ++ ys)
  each_append [] ys h k = k
  each_append (x ∷ xs) ys h k = (h.0, each_append xs ys h.1 k)

  pub each_take : (n : ℕ) (xs : List A) → Each P xs → Each P (take n xs)
  each_take zero xs h = tt
  each_take (suc n) [] h = tt
  each_take (suc n) (x ∷ xs) h = (h.0, each_take n xs h.1)

  pub each_filter : (test : A → Bool) (xs : List A) → Each P xs → Each P (filter test xs)
  each_filter test [] h = tt
  each_filter test (x ∷ xs) h =
      elim (test x) as (λ b. Each P (cond b (x ∷ filter test xs) (filter test xs))) [
        | true ↦ (h.0, each_filter test xs h.1)
        | false ↦ each_filter test xs h.1
      ]

  -- of parts: each element of each
  pub each_part : (ps : List (List A)) → Each P (joined ps) → Each (Each P) ps
  each_part [] h = tt
  each_part (p ∷ ps) h = (each_front p (joined ps) h, each_part ps (each_behind p (joined ps) h))

  pub each_joined : (ps : List (List A)) → Each (Each P) ps → Each P (joined ps)
  each_joined [] h = tt
  each_joined (p ∷ ps) h = each_append p (joined ps) h.0 (each_joined ps h.1)

  pub each_cut : (ps : List (List A)) (xs : List A) → joined ps ≡ xs → Each P xs → Each (Each P) ps
  each_cut ps xs e h = each_part ps (subst (Each P) (sym e) h)

module _ {A : Type 0} (P : A → Type 0) where
  -- parts of parts, each joined
  pub each_map_joined : (ds : List (List (List A))) → Each (Each (Each P)) ds → Each (Each P) (map joined ds)
  each_map_joined [] h = tt
  each_map_joined (d ∷ ds) h = (each_joined P d h.0, each_map_joined ds h.1)
