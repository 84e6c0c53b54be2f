-- The variables of a method at its entry are what it takes, and its locals.
use Rattle.std.proofs.Common.{◌≡◌, ℕ, suc, ◌-◌, true, List, [], ◌∷◌, ◌++◌, Option, None}
use Rattle.std.proofs.Common.{length, map, replicate, refl, sym, subst, arith}
use Rattle.std.proofs.lemmas.Bool.{and_parts}
use Rattle.racer_base.specs.declared.ids.Kind.{Kind}
use Rattle.racer_base.specs.declared.ids.Kind.TheVariants as types
use Rattle.access_paths.specs.declared.path.Path.{Path}
use Rattle.owner_domain.specs.declared.value.Value.{Value as Called}
use Rattle.owner_domain.specs.declared.value.Value.TheVariants.{Owned}
use Rattle.access_domain.specs.Summaries.{passed_values}
use Rattle.core_code.specs.Calls.{taken_by}
use Rattle.core_code.specs.Core.{Core, Method}
use Rattle.core_code.specs.KindCheck.{begins_with, same_declared_kind}
use Rattle.core_code.specs.Kinds.{StackKind, kind_of}
use Rattle.core_semantics.specs.declared.object.Value.{Value}
use Rattle.core_semantics.specs.declared.object.Value.TheVariants.{Null}
use Rattle.core_semantics.specs.State.{Store}
use Rattle.core_ways_laws.specs.Kept.{IsEntered}
use Rattle.core_ways_laws.specs.Names.{Naming, name_of}
use Rattle.core_ways_laws.specs.Quiet.{Quietness}
use Rattle.core_ways_laws.specs.Places.{ArePlaces, IsPlace, start_object}

module _ (core : Core) (quiet : Quietness core) where
  -- what has no name and holds no object
  pub nameless : (k : StackKind) (x : Value) → ((q : Path) → x ≡ start_object q → quiet.IsIn q → ⊥) →
      IsPlace core quiet k None x
  nameless k x other =
      record {
        held = λ q e in_it. absurd cc;
        called = λ strong q e in_it. absurd (other q e in_it);
        declared = λ strong q e. absurd cc;
      }

  same-kind-place : (a b : Kind) (name : Option Path) (x : Value) → same_declared_kind a b ≡ true →
      IsPlace core quiet (kind_of a) name x → IsPlace core quiet (kind_of b) name x
  same-kind-place types.Plain types.Plain name x same place = place
  same-kind-place (types.Declared c) (types.Declared d) name x same place =
      record {
        held = place.held;
        called = λ strong q e in_it. place.called refl q e in_it;
        declared = λ strong q e. place.declared refl q e;
      }
  same-kind-place types.Other types.Other name x same place = place
  same-kind-place types.Plain (types.Declared d) name x same place = absurd cc
  same-kind-place types.Plain types.Other name x same place = absurd cc
  same-kind-place (types.Declared c) types.Plain name x same place = absurd cc
  same-kind-place (types.Declared c) types.Other name x same place = absurd cc
  same-kind-place types.Other types.Plain name x same place = absurd cc
  same-kind-place types.Other (types.Declared d) name x same place = absurd cc

  module _ (n : Naming) where
    locals : (kinds : List Kind) →
        ArePlaces core quiet n (map kind_of kinds) (replicate (length kinds) Owned) (replicate (length kinds) Null)
    locals [] = tt
    locals (kind ∷ kinds) = (nameless (kind_of kind) Null (λ q e in_it. cc), locals kinds)

    taken-and-locals : (taken variables : List Kind) (vs : List Called) (xs : List Value) →
        begins_with taken variables ≡ true → ArePlaces core quiet n (map kind_of taken) vs xs →
        ArePlaces core quiet n (map kind_of variables) (vs ++ replicate (length variables - length vs) Owned)
        (xs ++ replicate (length variables - length xs) Null)
    taken-and-locals [] variables [] [] begins places =
        let none : length variables - 0 ≡ length variables = omega arith in
        subst (λ (k : ℕ). ArePlaces core quiet n (map kind_of variables) (replicate k Owned) (replicate k Null))
        (sym none) (locals variables)
    taken-and-locals [] variables [] (x ∷ xs) begins places = absurd places
    taken-and-locals [] variables (v ∷ vs) xs begins places = absurd places
    taken-and-locals (a ∷ taken) [] vs xs begins places = absurd cc
    taken-and-locals (a ∷ taken) (b ∷ variables) [] xs begins places = absurd places
    taken-and-locals (a ∷ taken) (b ∷ variables) (v ∷ vs) [] begins places = absurd places
    taken-and-locals (a ∷ taken) (b ∷ variables) (v ∷ vs) (x ∷ xs) begins places =
        let fewer : suc (length variables) - suc (length vs) ≡ length variables - length vs = omega arith in
        let less : suc (length variables) - suc (length xs) ≡ length variables - length xs = omega arith in (
          same-kind-place a b (name_of n v) x
              (and_parts (same_declared_kind a b) (begins_with taken variables) begins).0 places.0,
          subst (λ (k : ℕ). ArePlaces core quiet n (map kind_of variables) (vs ++ replicate k Owned)
              (xs ++ replicate (suc (length variables) - suc (length xs)) Null)) (sym fewer)
              (subst (λ (k : ℕ). ArePlaces core quiet n (map kind_of variables)
              (vs ++ replicate (length variables - length vs) Owned) (xs ++ replicate k Null)) (sym less)
              (taken-and-locals taken variables vs xs
              (and_parts (same_declared_kind a b) (begins_with taken variables) begins).1 places.1)),
        )

    pub entered-with : (method : Method) (values : List Value) (store : Store) →
        begins_with (taken_by method) method.variables ≡ true →
        ArePlaces core quiet n (map kind_of (taken_by method)) (passed_values method) values →
        IsEntered core quiet n method values store
    entered-with method values store begins places =
        taken-and-locals (taken_by method) method.variables (passed_values method) values begins places
