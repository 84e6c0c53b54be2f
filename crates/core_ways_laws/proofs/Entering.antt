-- The entry of a call keeps the invariant.
use Rattle.std.proofs.Common.{◌≡◌, ℕ, suc, ◌+◌, Bool, true, false, cond, List, [], ◌∷◌, ◌++◌, Option, None, Some}
use Rattle.std.proofs.Common.{length, map, take, drop, reverse, slice_index_or, refl, sym, ap, ◌∙◌, subst, arith}
use Rattle.std.proofs.lemmas.List.{length-reverse, map-append, reverse-append, reverse-reverse}
use Rattle.racer_base.specs.declared.ids.ClassId.{ClassId}
use Rattle.racer_base.specs.declared.ids.Kind.{Kind}
use Rattle.racer_base.specs.declared.ids.Kind.TheVariants as types
use Rattle.access_paths.specs.declared.path.Path.{Path}
use Rattle.access_paths.specs.declared.path.Root.TheVariants.{This}
use Rattle.access_paths.specs.Paths.{alone}
use Rattle.owner_domain.specs.declared.value.State.{State}
use Rattle.owner_domain.specs.declared.value.Value.{Value as Called}
use Rattle.owner_domain.specs.declared.value.Value.TheVariants.{Named, Unnamed}
use Rattle.access_domain.specs.Operations.{passed_from}
use Rattle.access_domain.specs.Substitution.{actuals_from}
use Rattle.access_domain.specs.Summaries.{parameter_value, parameter_values}
use Rattle.core_code.specs.Calls.{taken_by}
use Rattle.core_code.specs.Core.{Core, Method}
use Rattle.core_code.specs.KindCheck.{begins_with, below_fitting}
use Rattle.core_code.specs.Kinds.{StackKind, kind_of, fits}
use Rattle.core_semantics.specs.declared.object.Value.{Value}
use Rattle.core_ways_laws.specs.Values.{Point, values_passed}
use Rattle.core_ways_laws.specs.Kept.{IsEntered}
use Rattle.core_ways_laws.specs.Names.{Naming, name_of, callee_naming}
use Rattle.core_ways_laws.specs.Places.{ArePlaces, IsPlace}
use Rattle.core_ways_laws.specs.Quiet.{Quietness}
use Rattle.core_ways_laws.proofs.KindFacts.{strong_fitting}
use Rattle.core_ways_laws.proofs.Locals.{entered-with}
use Rattle.core_ways_laws.proofs.Naming.{named-slot}
use Rattle.core_ways_laws.proofs.PlaceLists.{places_reverse}

module _ (core : Core) (quiet : Quietness core) where
  -- ---- what is passed suits what is taken

  fitting-place : (kind : Kind) (k : StackKind) (name : Option Path) (x : Value) → fits kind k ≡ true →
      IsPlace core quiet k name x → IsPlace core quiet (kind_of kind) name x
  fitting-place kind k name x suits place =
      record {
        held = place.held;
        called = λ strong. place.called (strong_fitting kind k suits strong);
        declared = λ strong. place.declared (strong_fitting kind k suits strong);
      }

  -- the places that values of these kinds take on a stack, and those below them
  record AreSplit (n : Naming) (wanted : List Kind) (rest : List StackKind) (vs : List Called)
      (xs : List Value) : Type 0
    where
      above : ArePlaces core quiet n (map kind_of wanted) (take (length wanted) vs) (take (length wanted) xs)
      below : ArePlaces core quiet n rest (drop (length wanted) vs) (drop (length wanted) xs)

  split : (n : Naming) (wanted : List Kind) (kinds rest : List StackKind) (vs : List Called) (xs : List Value) →
      below_fitting wanted kinds ≡ Some rest → ArePlaces core quiet n kinds vs xs → AreSplit n wanted rest vs xs
  split n [] kinds rest vs xs fit places =
      let same : kinds ≡ rest = cc in
      record {
        above = tt;
        below = subst (λ (ks : List StackKind). ArePlaces core quiet n ks vs xs) same places;
      }
  split n (kind ∷ wanted) [] rest vs xs fit places = absurd cc
  split n (kind ∷ wanted) (k ∷ kinds) rest [] xs fit places = absurd places
  split n (kind ∷ wanted) (k ∷ kinds) rest (v ∷ vs) [] fit places = absurd places
  split n (kind ∷ wanted) (k ∷ kinds) rest (v ∷ vs) (x ∷ xs) fit places =
      elim (fits kind k) as (λ b. fits kind k ≡ b → cond b (below_fitting wanted kinds) None ≡ Some rest →
      AreSplit n (kind ∷ wanted) rest (v ∷ vs) (x ∷ xs)) [
        | true ↦ λ e is.
            let later = split n wanted kinds rest vs xs is places.1 in
            record { above = (fitting-place kind k (name_of n v) x e places.0, later.above); below = later.below }
        | false ↦ λ e is. absurd cc
      ] refl fit

  -- ---- names in the callee

  parameter-place : (n m : Naming) (i : ℕ) (kind : Kind) (v : Called) (x : Value) →
      slice_index_or m.formals i None ≡ name_of n v → IsPlace core quiet (kind_of kind) (name_of n v) x →
      IsPlace core quiet (kind_of kind) (name_of m (parameter_value i kind)) x
  parameter-place n m i types.Plain v x name place =
      record { held = λ q e in_it. absurd cc; called = λ strong. absurd cc; declared = λ strong. absurd cc }
  parameter-place n m i (types.Declared c) v x name place =
      subst (λ (o : Option Path). IsPlace core quiet (kind_of (types.Declared c)) o x) (sym name) place
  parameter-place n m i types.Other v x name place =
      subst (λ (o : Option Path). IsPlace core quiet (kind_of types.Other) o x) (sym name) place

  parameter-places : (n m : Naming) (i : ℕ) (kinds : List Kind) (vs : List Called) (xs : List Value) →
      ((j : ℕ) → slice_index_or m.formals (i + j) None ≡ name_of n (slice_index_or vs j Unnamed)) →
      ArePlaces core quiet n (map kind_of kinds) vs xs →
      ArePlaces core quiet m (map kind_of kinds) (parameter_values i kinds) xs
  parameter-places n m i [] [] [] names places = tt
  parameter-places n m i [] [] (x ∷ xs) names places = absurd places
  parameter-places n m i [] (v ∷ vs) xs names places = absurd places
  parameter-places n m i (kind ∷ kinds) [] xs names places = absurd places
  parameter-places n m i (kind ∷ kinds) (v ∷ vs) [] names places = absurd places
  parameter-places n m i (kind ∷ kinds) (v ∷ vs) (x ∷ xs) names places =
      let here : i ≡ i + 0 = omega arith in (
        parameter-place n m i kind v x (ap (λ (k : ℕ). slice_index_or m.formals k None) here ∙ names 0) places.0,
        parameter-places n m (suc i) kinds vs xs
            (λ j. let next : suc i + j ≡ i + suc j = omega arith in
            ap (λ (k : ℕ). slice_index_or m.formals k None) next ∙ names (suc j)) places.1,
      )

  formals-named : (n : Naming) (vs : List Called) (j : ℕ) →
      slice_index_or (map (name_of n) vs) (0 + j) None ≡ name_of n (slice_index_or vs j Unnamed)
  formals-named n vs j =
      let same : 0 + j ≡ j = omega arith in
      ap (λ (k : ℕ). slice_index_or (map (name_of n) vs) k None) same ∙ named-slot n vs j

  -- what a method takes, in its own names
  taken-places : (n : Naming) (c : ClassId) (kinds : List Kind) (static : Bool) (vs : List Called) (xs : List Value) →
      ArePlaces core quiet n (map kind_of (cond static kinds (types.Declared c ∷ kinds))) vs xs →
      ArePlaces core quiet (callee_naming n (actuals_from static vs))
      (map kind_of (cond static kinds (types.Declared c ∷ kinds)))
      (cond static [] (Named (alone This) ∷ []) ++ parameter_values 0 kinds) xs
  taken-places n c kinds true vs xs places =
      parameter-places n (callee_naming n (actuals_from true vs)) 0 kinds vs xs (formals-named n vs) places
  taken-places n c kinds false [] xs places = absurd places
  taken-places n c kinds false (v ∷ vs) [] places = absurd places
  taken-places n c kinds false (v ∷ vs) (x ∷ xs) places = (
    places.0,
    parameter-places n (callee_naming n (actuals_from false (v ∷ vs))) 0 kinds vs xs (formals-named n vs) places.1,
  )

  -- ---- the call

  reverse-map : (kinds : List Kind) → reverse (map kind_of kinds) ≡ map kind_of (reverse kinds)
  reverse-map [] = refl
  reverse-map (kind ∷ kinds) =
      reverse-append (kind_of kind ∷ []) (map kind_of kinds)
      ∙ ap (λ (ks : List StackKind). ks ++ kind_of kind ∷ []) (reverse-map kinds)
      ∙ sym (map-append kind_of (reverse kinds) (kind ∷ []))
      ∙ ap (map kind_of) (sym (reverse-append (kind ∷ []) kinds))

  passed-places : (n : Naming) (taken : List Kind) (vs : List Called) (xs : List Value) →
      ArePlaces core quiet n (map kind_of (reverse taken)) vs xs →
      ArePlaces core quiet n (map kind_of taken) (reverse vs) (reverse xs)
  passed-places n taken vs xs places =
      subst (λ (ks : List StackKind). ArePlaces core quiet n ks (reverse vs) (reverse xs))
      (reverse-map (reverse taken) ∙ ap (map kind_of) (reverse-reverse taken))
      (places_reverse core quiet n (map kind_of (reverse taken)) vs xs places)

  -- the callee is entered with what is passed, and the places below that stay
  pub call-entered : (n : Naming) (callee : Method) (count : ℕ) (kinds rest : List StackKind) (s : State) (at : Point) →
      count ≡ length (taken_by callee) → begins_with (taken_by callee) callee.variables ≡ true →
      below_fitting (reverse (taken_by callee)) kinds ≡ Some rest → ArePlaces core quiet n kinds s.stack at.stack →
      IsEntered core quiet (callee_naming n (actuals_from callee.is_static (passed_from s count))) callee
      (values_passed at count) at.store × ArePlaces core quiet n rest (drop count s.stack) (drop count at.stack)
  call-entered n callee count kinds rest s at many begins fit places =
      subst (λ (k : ℕ). IsEntered core quiet (callee_naming n (actuals_from callee.is_static (passed_from s k))) callee
      (values_passed at k) at.store × ArePlaces core quiet n rest (drop k s.stack) (drop k at.stack))
      (length-reverse (taken_by callee) ∙ sym many)
      (whole (split n (reverse (taken_by callee)) kinds rest s.stack at.stack fit places))
    where
      size : ℕ
      size = length (reverse (taken_by callee))

      whole : AreSplit n (reverse (taken_by callee)) rest s.stack at.stack →
          IsEntered core quiet (callee_naming n (actuals_from callee.is_static (passed_from s size))) callee
          (values_passed at size) at.store × ArePlaces core quiet n rest (drop size s.stack) (drop size at.stack)
      whole parts = (
        entered-with core quiet (callee_naming n (actuals_from callee.is_static (passed_from s size))) callee
            (values_passed at size) at.store begins
            (taken-places n callee.class callee.parameters callee.is_static (passed_from s size) (values_passed at size)
            (passed-places n (taken_by callee) (take size s.stack) (take size at.stack) parts.above)),
        parts.below,
      )
