-- Values in places of typed kinds: weaker kinds, what fits, and slots.
use Rattle.std.proofs.Common.{◌≡◌, ℕ, zero, suc, true, inl, inr, List, [], ◌∷◌}
use Rattle.std.proofs.Common.{map, take, sym, subst}
use Rattle.std.specs.Prelude.{slice_index_or, slice_set}
use Rattle.std.proofs.lemmas.Bool.{and_parts}
use Rattle.racer_base.specs.declared.ids.ClassId.{ClassId}
use Rattle.racer_base.specs.declared.ids.Kind.{Kind}
use Rattle.racer_base.specs.declared.ids.Kind.TheVariants as types
use Rattle.core_code.specs.Core.{Core}
use Rattle.core_semantics.specs.declared.object.Value.{Value}
use Rattle.core_semantics.specs.declared.object.Value.TheVariants as value
use Rattle.core_semantics_kinds.specs.PlaceValues.{Stand}
use Rattle.core_semantics_kinds.specs.Reached.{Roots}
use Rattle.typed_core.specs.declared.kinds.TypedKind.{TypedKind}
use Rattle.typed_core.specs.declared.kinds.TypedKind.TheVariants as kind
use Rattle.typed_core.specs.declared.states.KindState.{KindState}
use Rattle.typed_core.specs.Kinds.{do_fit, fits, is_reference, kind_of}
use Rattle.typed_core.specs.Resuming.{Below, BelowAll, BelowState}
use Rattle.typed_core.proofs.Order.{equal_of_same_kind}
use Rattle.typed_core_laws.specs.TypedValues.{AreHeld, IsOf, IsSome, IsValue}

module _ (core : Core) (roots : Roots) (class : ClassId) where
  -- ---- weaker kinds

  object-some : (c : ClassId) (v : Value) → IsOf core roots class c v → IsSome v
  object-some c value.Plain h = absurd h
  object-some c value.Opaque h = absurd h
  object-some c value.Null h = absurd h
  object-some c (value.Object o) h = tt

  pub reference-some : (a : TypedKind) (v : Value) → is_reference a ≡ true → IsValue core roots class a v → IsSome v
  reference-some kind.Plain v e h = absurd cc
  reference-some (kind.Object c) v e h = object-some c v h
  reference-some (kind.Class c) v e h = subst IsSome (sym h) tt
  reference-some kind.Other v e h = h
  reference-some kind.Unset v e h = absurd cc

  pub value-below : (a b : TypedKind) (v : Value) → Below a b → IsValue core roots class a v →
      IsValue core roots class b v
  value-below a b v (inl e) h = subst (λ (k : TypedKind). IsValue core roots class k v) e h
  value-below a b v (inr (inl r)) h =
      subst (λ (k : TypedKind). IsValue core roots class k v) (sym r.1) (reference-some a v r.0 h)
  value-below a b v (inr (inr u)) h = subst (λ (k : TypedKind). IsValue core roots class k v) (sym u) tt

  stand-below : (ks ls : List TypedKind) (vs : List Value) → BelowAll ks ls → Stand (IsValue core roots class) ks vs →
      Stand (IsValue core roots class) ls vs
  stand-below [] [] vs low h = h
  stand-below [] (l ∷ ls) vs low h = absurd low
  stand-below (k ∷ ks) [] vs low h = absurd low
  stand-below (k ∷ ks) (l ∷ ls) [] low h = absurd h
  stand-below (k ∷ ks) (l ∷ ls) (v ∷ vs) low h = (value-below k l v low.0 h.0, stand-below ks ls vs low.1 h.1)

  pub held-below : (s t : KindState) (vars stack : List Value) → BelowState s t →
      AreHeld core roots class s vars stack → AreHeld core roots class t vars stack
  held-below s t vars stack low h =
      record {
        vars = stand-below s.vars t.vars vars low.0 h.vars;
        stack = stand-below s.stack t.stack stack low.1 h.stack;
      }

  -- ---- what fits

  pub value-fits : (type : Kind) (k : TypedKind) (v : Value) → fits type k ≡ true → IsValue core roots class k v →
      IsValue core roots class (kind_of type) v
  value-fits types.Plain k v e h = tt
  value-fits (types.Declared c) k v e h =
      subst (λ (a : TypedKind). IsValue core roots class a v) (sym (equal_of_same_kind (kind.Object c) k e)) h
  value-fits types.Other k v e h = reference-some k v e h

  pub values-fit : (kinds : List Kind) (ks : List TypedKind) (vs : List Value) → do_fit kinds ks ≡ true →
      Stand (IsValue core roots class) ks vs → Stand (IsValue core roots class) (map kind_of kinds) vs
  values-fit [] [] vs e h = h
  values-fit [] (k ∷ ks) vs e h = absurd cc
  values-fit (type ∷ kinds) [] vs e h = absurd cc
  values-fit (type ∷ kinds) (k ∷ ks) [] e h = absurd h
  values-fit (type ∷ kinds) (k ∷ ks) (v ∷ vs) e h =
      let both = and_parts (fits type k) (do_fit kinds ks) e in
      (value-fits type k v both.0 h.0, values-fit kinds ks vs both.1 h.1)

  -- ---- slots

  pub stand-at : (i : ℕ) (ks : List TypedKind) (vs : List Value) → Stand (IsValue core roots class) ks vs →
      IsValue core roots class (slice_index_or ks i kind.Unset) (slice_index_or vs i value.Null)
  stand-at i [] [] h = tt
  stand-at i [] (v ∷ vs) h = absurd h
  stand-at i (k ∷ ks) [] h = absurd h
  stand-at zero (k ∷ ks) (v ∷ vs) h = h.0
  stand-at (suc i) (k ∷ ks) (v ∷ vs) h = stand-at i ks vs h.1

  pub stand-put : (i : ℕ) (ks : List TypedKind) (vs : List Value) (k : TypedKind) (v : Value) →
      IsValue core roots class k v → Stand (IsValue core roots class) ks vs →
      Stand (IsValue core roots class) (slice_set ks i k) (slice_set vs i v)
  stand-put i [] [] k v is h = tt
  stand-put i [] (w ∷ vs) k v is h = absurd h
  stand-put i (l ∷ ks) [] k v is h = absurd h
  stand-put zero (l ∷ ks) (w ∷ vs) k v is h = (is, h.1)
  stand-put (suc i) (l ∷ ks) (w ∷ vs) k v is h = (h.0, stand-put i ks vs k v is h.1)

  pub stand-take : (n : ℕ) (ks : List TypedKind) (vs : List Value) → Stand (IsValue core roots class) ks vs →
      Stand (IsValue core roots class) (take n ks) (take n vs)
  stand-take zero ks vs h = tt
  stand-take (suc n) [] [] h = tt
  stand-take (suc n) [] (v ∷ vs) h = absurd h
  stand-take (suc n) (k ∷ ks) [] h = absurd h
  stand-take (suc n) (k ∷ ks) (v ∷ vs) h = (h.0, stand-take n ks vs h.1)
