-- Two lists side by side, made one element after the other.
use Rattle.std.proofs.Common.{◌≡◌, List, [], ◌∷◌, ◌++◌, sym, subst}
use Rattle.std.proofs.Common.{append-nil, append_assoc}
use Rattle.std.specs.List.{AllZip}

-- with what fits the rest, what was made fits all
abbrev pub Zips : {A B : Type 0} → (A → B → Type 0) → List A → List B → List A → Type 0
Zips {A} {B} P all made rest = (others : List B) → AllZip P rest others → AllZip P all (made ++ others)

module _ {A B : Type 0} (P : A → B → Type 0) (all : List A) where
  pub zips_start : Zips P all [] all
  zips_start = λ others z. z

  pub zips_one : (made : List B) (x : A) (rest : List A) (y : B) → Zips P all made (x ∷ rest) → P x y
      → Zips P all (made ++ y ∷ []) rest
  zips_one made x rest y h p = λ others z.
      subst (λ (l : List B). AllZip P all l) (sym (append_assoc made (y ∷ []) others)) (h (y ∷ others) (p, z))

  pub zips_end : (made : List B) → Zips P all made [] → AllZip P all made
  zips_end made h = subst (λ (l : List B). AllZip P all l) (append-nil made) (h [] tt)

  pub zips_done : (made : List B) (rest : List A) → rest ≡ [] → Zips P all made rest → AllZip P all made
  zips_done made rest e h = zips_end made (subst (Zips P all made) e h)
