-- Places, one after another: their lengths, parts, slots, and kinds that are weaker.
use Rattle.std.proofs.Common.{◌≡◌, ℕ, zero, suc, true, List, [], ◌∷◌, ◌++◌, Option, Some}
use Rattle.std.proofs.Common.{length, take, drop, reverse, map, slice_get, slice_index_or, slice_set}
use Rattle.std.proofs.Common.{refl, sym, ap, subst, ◌∙◌}
use Rattle.std.proofs.lemmas.List.{reverse-append}
use Rattle.std.proofs.lemmas.Option.{slice_get-map}
use Rattle.std.specs.Option.{option_map}
use Rattle.racer_base.specs.declared.ids.Kind.{Kind}
use Rattle.access_paths.specs.declared.path.Path.{Path}
use Rattle.owner_domain.specs.declared.value.Value.{Value as Called}
use Rattle.owner_domain.specs.declared.value.Value.TheVariants.{Unnamed}
use Rattle.core_code.specs.Core.{Core, Method}
use Rattle.core_code.specs.Kinds.{StackKind, kind_of, joined_kind, joined_stack}
use Rattle.core_code.proofs.KindLemmas.{joined_more, AreJoined}
use Rattle.core_semantics.specs.declared.object.Value.{Value}
use Rattle.core_semantics.specs.declared.object.Value.TheVariants.{Null}
use Rattle.core_ways_laws.specs.Names.{Naming, name_of}
use Rattle.core_ways_laws.specs.Quiet.{Quietness}
use Rattle.core_ways_laws.specs.Places.{IsPlace, ArePlaces, is_strong}
use Rattle.core_ways_laws.proofs.KindFacts.{strong_left, strong_right}

-- a place of a kind that is strong only where this one is
pub of_kind : (core : Core) (quiet : Quietness core) (k l : StackKind) (name : Option Path) (x : Value) →
    (is_strong l ≡ true → is_strong k ≡ true) → IsPlace core quiet k name x → IsPlace core quiet l name x
of_kind core quiet k l name x strong p =
    record {
      held = p.held;
      called = λ s q is quietly. p.called (strong s) q is quietly;
      declared = λ s q is. p.declared (strong s) q is;
    }

module _ (core : Core) (quiet : Quietness core) (n : Naming) where
  pub places-lengths : (ks : List StackKind) (vs : List Called) (xs : List Value) → ArePlaces core quiet n ks vs xs →
      (length vs ≡ length ks) × (length xs ≡ length ks)
  places-lengths [] [] [] h = (refl, refl)
  places-lengths [] [] (x ∷ xs) h = absurd h
  places-lengths [] (v ∷ vs) xs h = absurd h
  places-lengths (k ∷ ks) [] xs h = absurd h
  places-lengths (k ∷ ks) (v ∷ vs) [] h = absurd h
  places-lengths (k ∷ ks) (v ∷ vs) (x ∷ xs) h =
      let rest = places-lengths ks vs xs h.1 in
      (ap suc rest.0, ap suc rest.1)

  pub places_take : (i : ℕ) (ks : List StackKind) (vs : List Called) (xs : List Value) →
      ArePlaces core quiet n ks vs xs → ArePlaces core quiet n (take i ks) (take i vs) (take i xs)
  places_take zero ks vs xs h = tt
  places_take (suc i) [] [] [] h = tt
  places_take (suc i) [] [] (x ∷ xs) h = absurd h
  places_take (suc i) [] (v ∷ vs) xs h = absurd h
  places_take (suc i) (k ∷ ks) [] xs h = absurd h
  places_take (suc i) (k ∷ ks) (v ∷ vs) [] h = absurd h
  places_take (suc i) (k ∷ ks) (v ∷ vs) (x ∷ xs) h = (h.0, places_take i ks vs xs h.1)

  pub places_drop : (i : ℕ) (ks : List StackKind) (vs : List Called) (xs : List Value) →
      ArePlaces core quiet n ks vs xs → ArePlaces core quiet n (drop i ks) (drop i vs) (drop i xs)
  places_drop zero ks vs xs h = h
  places_drop (suc i) [] [] [] h = tt
  places_drop (suc i) [] [] (x ∷ xs) h = absurd h
  places_drop (suc i) [] (v ∷ vs) xs h = absurd h
  places_drop (suc i) (k ∷ ks) [] xs h = absurd h
  places_drop (suc i) (k ∷ ks) (v ∷ vs) [] h = absurd h
  places_drop (suc i) (k ∷ ks) (v ∷ vs) (x ∷ xs) h = places_drop i ks vs xs h.1

  pub places_append : (ks ls : List StackKind) (vs ws : List Called) (xs ys : List Value) →
      ArePlaces core quiet n ks vs xs → ArePlaces core quiet n ls ws ys →
      ArePlaces core quiet n (ks ++ ls) (vs ++ ws) (xs ++ ys)
  places_append [] ls [] ws [] ys h more = more
  places_append [] ls [] ws (x ∷ xs) ys h more = absurd h
  places_append [] ls (v ∷ vs) ws xs ys h more = absurd h
  places_append (k ∷ ks) ls [] ws xs ys h more = absurd h
  places_append (k ∷ ks) ls (v ∷ vs) ws [] ys h more = absurd h
  places_append (k ∷ ks) ls (v ∷ vs) ws (x ∷ xs) ys h more = (h.0, places_append ks ls vs ws xs ys h.1 more)

  pub places_reverse : (ks : List StackKind) (vs : List Called) (xs : List Value) → ArePlaces core quiet n ks vs xs →
      ArePlaces core quiet n (reverse ks) (reverse vs) (reverse xs)
  places_reverse [] [] [] h = tt
  places_reverse [] [] (x ∷ xs) h = absurd h
  places_reverse [] (v ∷ vs) xs h = absurd h
  places_reverse (k ∷ ks) [] xs h = absurd h
  places_reverse (k ∷ ks) (v ∷ vs) [] h = absurd h
  places_reverse (k ∷ ks) (v ∷ vs) (x ∷ xs) h =
      let last : ArePlaces core quiet n (reverse ks ++ k ∷ []) (reverse vs ++ v ∷ []) (reverse xs ++ x ∷ []) =
      places_append (reverse ks) (k ∷ []) (reverse vs) (v ∷ []) (reverse xs) (x ∷ [])
      (places_reverse ks vs xs h.1) (h.0, tt) in
      subst (λ (a : List StackKind). ArePlaces core quiet n a (reverse (v ∷ vs)) (reverse (x ∷ xs)))
      (sym (reverse-append (k ∷ []) ks))
      (subst (λ (b : List Called). ArePlaces core quiet n (reverse ks ++ k ∷ []) b (reverse (x ∷ xs)))
      (sym (reverse-append (v ∷ []) vs))
      (subst (λ (c : List Value). ArePlaces core quiet n (reverse ks ++ k ∷ []) (reverse vs ++ v ∷ []) c)
      (sym (reverse-append (x ∷ []) xs)) last))

  -- the place of an index
  pub place_slot : (i : ℕ) (ks : List StackKind) (vs : List Called) (xs : List Value) (k : StackKind) →
      slice_get ks i ≡ Some k → ArePlaces core quiet n ks vs xs →
      IsPlace core quiet k (name_of n (slice_index_or vs i Unnamed)) (slice_index_or xs i Null)
  place_slot i [] vs xs k is h = cc
  place_slot i (l ∷ ks) [] xs k is h = absurd h
  place_slot i (l ∷ ks) (v ∷ vs) [] k is h = absurd h
  place_slot zero (l ∷ ks) (v ∷ vs) (x ∷ xs) k is h =
      let same : l ≡ k = cc in subst (λ (m : StackKind). IsPlace core quiet m (name_of n v) x) same h.0
  place_slot (suc i) (l ∷ ks) (v ∷ vs) (x ∷ xs) k is h = place_slot i ks vs xs k is h.1

  pub places_set : (i : ℕ) (ks : List StackKind) (vs : List Called) (xs : List Value) (k : StackKind) (v : Called)
      (x : Value) → slice_get ks i ≡ Some k → IsPlace core quiet k (name_of n v) x →
      ArePlaces core quiet n ks vs xs → ArePlaces core quiet n ks (slice_set vs i v) (slice_set xs i x)
  places_set i [] vs xs k v x is p h = cc
  places_set i (l ∷ ks) [] xs k v x is p h = absurd h
  places_set i (l ∷ ks) (w ∷ vs) [] k v x is p h = absurd h
  places_set zero (l ∷ ks) (w ∷ vs) (y ∷ xs) k v x is p h =
      let same : k ≡ l = cc in (subst (λ (m : StackKind). IsPlace core quiet m (name_of n v) x) same p, h.1)
  places_set (suc i) (l ∷ ks) (w ∷ vs) (y ∷ xs) k v x is p h = (h.0, places_set i ks vs xs k v x is p h.1)

  -- the same of the variables of a method, by their declared kinds
  kind_there : (method : Method) (i : ℕ) (kind : Kind) → slice_get method.variables i ≡ Some kind →
      slice_get (map kind_of method.variables) i ≡ Some (kind_of kind)
  kind_there method i kind is = slice_get-map kind_of method.variables i ∙ ap (option_map kind_of) is

  pub variable_slot : (method : Method) (i : ℕ) (kind : Kind) (vs : List Called) (xs : List Value) →
      slice_get method.variables i ≡ Some kind → ArePlaces core quiet n (map kind_of method.variables) vs xs →
      IsPlace core quiet (kind_of kind) (name_of n (slice_index_or vs i Unnamed)) (slice_index_or xs i Null)
  variable_slot method i kind vs xs is h =
      place_slot i (map kind_of method.variables) vs xs (kind_of kind) (kind_there method i kind is) h

  pub variables_set : (method : Method) (i : ℕ) (kind : Kind) (vs : List Called) (xs : List Value) (v : Called)
      (x : Value) →
      slice_get method.variables i ≡ Some kind → IsPlace core quiet (kind_of kind) (name_of n v) x →
      ArePlaces core quiet n (map kind_of method.variables) vs xs →
      ArePlaces core quiet n (map kind_of method.variables) (slice_set vs i v) (slice_set xs i x)
  variables_set method i kind vs xs v x is p h =
      places_set i (map kind_of method.variables) vs xs (kind_of kind) v x (kind_there method i kind is) p h

  -- ---- where two ways meet, what stands on the stack of either is of the joined kinds

  joined_places : (ks : List StackKind) (vs : List Called) (xs : List Value) (k : StackKind)
      (rest joined : List StackKind) → k ∷ rest ≡ joined →
      ArePlaces core quiet n (k ∷ rest) vs xs → ArePlaces core quiet n joined vs xs
  joined_places ks vs xs k rest joined is h =
      subst (λ (a : List StackKind). ArePlaces core quiet n a vs xs) is h

  pub joined-first : (left right joined : List StackKind) (vs : List Called) (xs : List Value) →
      joined_stack left right ≡ Some joined → ArePlaces core quiet n left vs xs → ArePlaces core quiet n joined vs xs
  joined-first [] [] joined vs xs is h =
      let same : [] ≡ joined = cc in subst (λ (a : List StackKind). ArePlaces core quiet n a vs xs) same h
  joined-first [] (b ∷ right) joined vs xs is h = cc
  joined-first (a ∷ left) [] joined vs xs is h = cc
  joined-first (a ∷ left) (b ∷ right) joined [] xs is h = absurd h
  joined-first (a ∷ left) (b ∷ right) joined (v ∷ vs) [] is h = absurd h
  joined-first (a ∷ left) (b ∷ right) joined (v ∷ vs) (x ∷ xs) is h =
      let more : AreJoined a b left right joined = joined_more a b left right joined is in
      joined_places joined (v ∷ vs) (x ∷ xs) (joined_kind a b) more.rest joined more.is (
        of_kind core quiet a (joined_kind a b) (name_of n v) x (strong_left a b) h.0,
        joined-first left right more.rest vs xs more.below h.1,
      )

  pub joined-second : (left right joined : List StackKind) (vs : List Called) (xs : List Value) →
      joined_stack left right ≡ Some joined → ArePlaces core quiet n right vs xs → ArePlaces core quiet n joined vs xs
  joined-second [] [] joined vs xs is h =
      let same : [] ≡ joined = cc in subst (λ (a : List StackKind). ArePlaces core quiet n a vs xs) same h
  joined-second [] (b ∷ right) joined vs xs is h = cc
  joined-second (a ∷ left) [] joined vs xs is h = cc
  joined-second (a ∷ left) (b ∷ right) joined [] xs is h = absurd h
  joined-second (a ∷ left) (b ∷ right) joined (v ∷ vs) [] is h = absurd h
  joined-second (a ∷ left) (b ∷ right) joined (v ∷ vs) (x ∷ xs) is h =
      let more : AreJoined a b left right joined = joined_more a b left right joined is in
      joined_places joined (v ∷ vs) (x ∷ xs) (joined_kind a b) more.rest joined more.is (
        of_kind core quiet b (joined_kind a b) (name_of n v) x (strong_right a b) h.0,
        joined-second left right more.rest vs xs more.below h.1,
      )
