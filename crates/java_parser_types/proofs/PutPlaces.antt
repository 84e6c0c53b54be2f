-- Places of items with one more at the end.
use Rattle.std.proofs.Common.{◌≡◌, List, [], ◌∷◌, ◌++◌, map, refl, sym, ap, ◌∙◌, append_assoc}
use Rattle.java_tree.specs.KeptPlaces.{Places, Marks, Puts, all_places, each_puts}
use Rattle.java_parser_types.specs.LedPlaces.{Leads}

module _ {A : Type 0} (places : A → Places) where
  pub all_push : (xs : List A) (x : A) (rest : Places) → all_places (map places (xs ++ x ∷ [])) ++ rest
      ≡ all_places (map places xs) ++ (places x ++ rest)
  all_push [] x rest = append_assoc (places x) [] rest
  all_push (y ∷ ys) x rest =
      append_assoc (places y) (all_places (map places (ys ++ x ∷ []))) rest
      ∙ (ap (λ (ps : Places). places y ++ ps) (all_push ys x rest)
      ∙ sym (append_assoc (places y) (all_places (map places ys)) (places x ++ rest)))

  -- one more item is read
  pub one_more : (xs : List A) (x : A) (here rest total : Places) → places x ++ rest ≡ here
      → all_places (map places xs) ++ here ≡ total → all_places (map places (xs ++ x ∷ [])) ++ rest ≡ total
  one_more xs x here rest total read so_far =
      all_push xs x rest ∙ (ap (λ (ps : Places). all_places (map places xs) ++ ps) read ∙ so_far)

-- the same of marks that are put before others
module _ {A : Type 0} (puts : A → Puts) where
  pub each_push : (xs : List A) (x : A) (rest : Marks) → each_puts (map puts (xs ++ x ∷ [])) rest ≡ each_puts
      (map puts xs) (puts x rest)
  each_push [] x rest = refl
  each_push (y ∷ ys) x rest = ap (puts y) (each_push ys x rest)

  -- one more item is read
  pub one_put : (xs : List A) (x : A) (start here rest : Places) → Leads (puts x) here rest
      → Leads (each_puts (map puts xs)) start here → Leads (each_puts (map puts (xs ++ x ∷ []))) start rest
  one_put xs x start here rest read so_far =
      λ marks at. rw (each_push xs x marks) (so_far (puts x marks) (read marks at))
