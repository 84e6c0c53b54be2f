-- Over any kinds: values in places, one after another, and what a call passes.
use Rattle.std.proofs.Common.{◌≡◌, ℕ, zero, suc, List, [], ◌∷◌, ◌++◌, Some}
use Rattle.std.proofs.Common.{length, take, drop, reverse, map, slice_get, slice_index_or, slice_set}
use Rattle.std.proofs.Common.{refl, sym, ap, subst, ◌∙◌}
use Rattle.std.proofs.lemmas.List.{map-append, reverse-append, reverse-reverse}
use Rattle.racer_base.specs.declared.ids.Kind.{Kind}
use Rattle.core_semantics.specs.declared.object.Value.{Value}
use Rattle.core_semantics.specs.declared.object.Value.TheVariants.{Null}
use Rattle.core_semantics_kinds.specs.PlaceValues.{Stand, Suits}

reverse-map : {A B : Type 0} (f : A → B) (xs : List A) → reverse (map f xs) ≡ map f (reverse xs)
reverse-map f [] = refl
reverse-map {A} {B} f (x ∷ xs) =
    reverse-append (f x ∷ []) (map f xs)
    ∙ ap (λ (ys : List B). ys ++ f x ∷ []) (reverse-map f xs)
    ∙ sym (map-append f (reverse xs) (x ∷ []))
    ∙ ap (map f) (sym (reverse-append (x ∷ []) xs))

module _ {K : Type 0} (Is : K → Value → Type 0) where
  pub stand-drop : (i : ℕ) (ks : List K) (xs : List Value) → Stand Is ks xs → Stand Is (drop i ks) (drop i xs)
  stand-drop zero ks xs h = h
  stand-drop (suc i) [] [] h = tt
  stand-drop (suc i) [] (x ∷ xs) h = absurd h
  stand-drop (suc i) (k ∷ ks) [] h = absurd h
  stand-drop (suc i) (k ∷ ks) (x ∷ xs) h = stand-drop i ks xs h.1

  pub stand-append : (ks ls : List K) (xs ys : List Value) → Stand Is ks xs → Stand Is ls ys →
      Stand Is (ks ++ ls) (xs ++ ys)
  stand-append [] ls [] ys h more = more
  stand-append [] ls (x ∷ xs) ys h more = absurd h
  stand-append (k ∷ ks) ls [] ys h more = absurd h
  stand-append (k ∷ ks) ls (x ∷ xs) ys h more = (h.0, stand-append ks ls xs ys h.1 more)

  pub stand-reverse : (ks : List K) (xs : List Value) → Stand Is ks xs → Stand Is (reverse ks) (reverse xs)
  stand-reverse [] [] h = tt
  stand-reverse [] (x ∷ xs) h = absurd h
  stand-reverse (k ∷ ks) [] h = absurd h
  stand-reverse (k ∷ ks) (x ∷ xs) h =
      let last : Stand Is (reverse ks ++ k ∷ []) (reverse xs ++ x ∷ []) =
      stand-append (reverse ks) (k ∷ []) (reverse xs) (x ∷ []) (stand-reverse ks xs h.1) (h.0, tt) in
      subst (λ (a : List K). Stand Is a (reverse (x ∷ xs))) (sym (reverse-append (k ∷ []) ks))
      (subst (λ (c : List Value). Stand Is (reverse ks ++ k ∷ []) c) (sym (reverse-append (x ∷ []) xs)) last)

  -- the value of an index; null where there is none
  pub stand-slot : (i : ℕ) (ks : List K) (xs : List Value) (k : K) → slice_get ks i ≡ Some k → Stand Is ks xs →
      Is k (slice_index_or xs i Null)
  stand-slot i [] xs k is h = cc
  stand-slot i (l ∷ ks) [] k is h = absurd h
  stand-slot zero (l ∷ ks) (x ∷ xs) k is h = let same : l ≡ k = cc in subst (λ (m : K). Is m x) same h.0
  stand-slot (suc i) (l ∷ ks) (x ∷ xs) k is h = stand-slot i ks xs k is h.1

  pub stand-set : (i : ℕ) (ks : List K) (xs : List Value) (k : K) (x : Value) → slice_get ks i ≡ Some k → Is k x →
      Stand Is ks xs → Stand Is ks (slice_set xs i x)
  stand-set i [] xs k x is p h = cc
  stand-set i (l ∷ ks) [] k x is p h = absurd h
  stand-set zero (l ∷ ks) (y ∷ xs) k x is p h =
      let same : k ≡ l = cc in (subst (λ (m : K). Is m x) same p, h.1)
  stand-set (suc i) (l ∷ ks) (y ∷ xs) k x is p h = (h.0, stand-set i ks xs k x is p h.1)

  -- the value on the top
  pub stand-top : (k : K) (ks : List K) (xs : List Value) → Stand Is (k ∷ ks) xs → Is k (slice_index_or xs 0 Null)
  stand-top k ks [] h = absurd h
  stand-top k ks (x ∷ xs) h = h.0

  -- ---- what a call passes

  record AreSplit (of : Kind → K) (wanted : List Kind) (rest : List K) (xs : List Value) : Type 0 where
    above : Stand Is (map of wanted) (take (length wanted) xs)
    under : Stand Is rest (drop (length wanted) xs)

  split : (of : Kind → K) (wanted : List Kind) (ks rest : List K) (xs : List Value) → Suits Is of wanted ks rest →
      Stand Is ks xs → AreSplit of wanted rest xs
  split of [] ks rest xs fit h = record { above = tt; under = subst (λ (a : List K). Stand Is a xs) fit h }
  split of (kind ∷ wanted) [] rest xs fit h = absurd fit
  split of (kind ∷ wanted) (k ∷ ks) rest [] fit h = absurd h
  split of (kind ∷ wanted) (k ∷ ks) rest (x ∷ xs) fit h =
      let later : AreSplit of wanted rest xs = split of wanted ks rest xs fit.1 h.1 in
      record { above = (fit.0 x h.0, later.above); under = later.under }

  -- the values that are passed, in order, and those below them
  pub record ArePassed (of : Kind → K) (taken : List Kind) (rest : List K) (xs : List Value) (n : ℕ) : Type 0 where
    pub passed : Stand Is (map of taken) (reverse (take n xs))
    pub under : Stand Is rest (drop n xs)

  pub passed : (of : Kind → K) (taken : List Kind) (ks rest : List K) (xs : List Value) →
      Suits Is of (reverse taken) ks rest → Stand Is ks xs → ArePassed of taken rest xs (length (reverse taken))
  passed of taken ks rest xs fit h =
      let parts : AreSplit of (reverse taken) rest xs = split of (reverse taken) ks rest xs fit h in
      record {
        passed =
            subst (λ (a : List K). Stand Is a (reverse (take (length (reverse taken)) xs)))
            (reverse-map of (reverse taken) ∙ ap (map of) (reverse-reverse taken))
            (stand-reverse (map of (reverse taken)) (take (length (reverse taken)) xs) parts.above);
        under = parts.under;
      }
