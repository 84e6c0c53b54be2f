-- A store to a field keeps what the invariant says of what is stored.
use Rattle.std.proofs.Common.{◌≡◌, ℕ, true, false, cond, ◌&&◌, Option, None, Some}
use Rattle.std.proofs.Common.{refl, sym, ap, ◌∙◌, arith}
use borrow.Author.Tests.{eqb-true}
use Rattle.std.proofs.lemmas.List.Elements.{Contains-append_left, Contains-append_right}
use Rattle.std.proofs.lemmas.Bool.{and_parts}
use Rattle.racer_base.specs.declared.ids.ClassId.{ClassId}
use Rattle.racer_base.specs.declared.ids.FieldId.{FieldId}
use Rattle.racer_base.specs.declared.ids.Kind.{Kind}
use Rattle.racer_base.specs.declared.ids.Kind.TheVariants.{Declared}
use Rattle.access_paths.specs.declared.path.Path.{Path}
use Rattle.access_paths.specs.Paths.{extended, same_field}
use Rattle.owner_domain.specs.declared.value.Value.{Value as Called}
use Rattle.owner_domain.specs.declared.value.Value.TheVariants.{Owned, Named, Unnamed}
use Rattle.owner_domain.specs.Values.{field_value, names_of}
use Rattle.access_domain.specs.Operations.{stored_paths}
use Rattle.core_code.specs.declared.parts.FieldCore.{FieldCore}
use Rattle.core_code.specs.Core.{Core}
use Rattle.core_code.specs.KindCheck.{field_at}
use Rattle.core_code.specs.Kinds.{StackKind, fits, kind_of}
use Rattle.core_semantics.specs.declared.object.Object.{Object}
use Rattle.core_semantics.specs.declared.object.Object.TheVariants.{Start}
use Rattle.core_semantics.specs.declared.object.Value.{Value}
use Rattle.core_semantics.specs.declared.object.Value.TheVariants.{Object as Ref}
use Rattle.core_semantics.specs.Objects.{same_object}
use Rattle.core_semantics.specs.Same.{equal_of_same}
use Rattle.core_semantics.specs.State.{Store}
use Rattle.core_semantics.specs.Steps.{kind_of as field_kind, written}
use Rattle.core_semantics.proofs.FieldKinds.{kind-there}
use Rattle.core_ways_laws.specs.Names.{Naming, longer_name, name_of}
use Rattle.core_ways_laws.specs.Places.{AreHushed, IsPlace, IsStore, is_strong, start_object}
use Rattle.core_ways_laws.specs.Quiet.{Quietness, start_path}
use Rattle.core_ways_laws.proofs.KindFacts.{strong_fitting}
use Rattle.core_ways_laws.proofs.Naming.{name-field}

same-fields : (f g : FieldId) → same_field f g ≡ true → f ≡ g
same-fields f g e =
    let same : f.0 ≡ g.0 = eqb-true f.0 g.0 e in
    ap (λ (i : ℕ). let made : FieldId = record { 0 = i } in made) same

-- a value whose names are hushed is not called by a quiet path
hushed-name : (core : Core) (quiet : Quietness core) (n : Naming) (v : Called) (r : Path) →
    AreHushed core quiet n (names_of v) → name_of n v ≡ Some r → quiet.IsIn r → ⊥
hushed-name core quiet n Owned r hushed named in_r = absurd cc
hushed-name core quiet n Unnamed r hushed named in_r = absurd cc
hushed-name core quiet n (Named p) r hushed named in_r = hushed p (0, omega arith, refl) r named in_r

module _ (core : Core) (quiet : Quietness core) (n : Naming) (f : FieldId) (field : FieldCore) (kb kv : StackKind)
    (base value : Called) (o : Object) (y : Value) (store : Store) (there : field_at core f ≡ Some field)
    (strong : is_strong kb ≡ true) (fit : fits field.kind kv ≡ true)
    (base-place : IsPlace core quiet kb (name_of n base) (Ref o))
    (value-place : IsPlace core quiet kv (name_of n value) y) (stored : IsStore core quiet store)
    (hushed : AreHushed core quiet n (stored_paths base f value)) where
  -- the field itself does not lie along a quiet path
  own-cell : (q : Path) (g : FieldId) (r : Path) → extended q g ≡ Some r → quiet.IsIn r →
      (same_object o (Start (start_path q)) && same_field f g) ≡ true → ⊥
  own-cell q g r ext in_r same =
      let object : o ≡ Start (start_path q) =
      equal_of_same o (Start (start_path q)) (and_parts (same_object o (Start (start_path q))) (same_field f g) same).0
      in
      let fields : f ≡ g =
      same-fields f g (and_parts (same_object o (Start (start_path q))) (same_field f g) same).1 in
      let named : name_of n base ≡ Some q =
      base-place.called strong q (ap Ref object) (quiet.prefix q g r ext in_r) in
      let path : name_of n (field_value base f) ≡ Some r =
      name-field n base f
      ∙ ap (λ (name : Option Path). longer_name name f) named
      ∙ ap (λ (x : FieldId). extended q x) fields
      ∙ ext in
      hushed-name core quiet n (field_value base f) r
      (λ w has. hushed w (Contains-append_left (names_of (field_value base f)) (names_of value) w has)) path in_r

  -- what is stored is no object of a quiet path, where the field is declared
  own-value : (g : FieldId) (c : ClassId) (q : Path) → field_kind core g ≡ Declared c → f ≡ g → y ≡ start_object q →
      quiet.IsIn q → ⊥
  own-value g c q kind same is in_q =
      let declared : field.kind ≡ Declared c =
      sym (kind-there core f field there) ∙ ap (field_kind core) same ∙ kind in
      let holds : is_strong kv ≡ true =
      strong_fitting field.kind kv fit (ap (λ (k : Kind). is_strong (kind_of k)) declared) in
      hushed-name core quiet n value q
      (λ w has. hushed w (Contains-append_right (names_of (field_value base f)) (names_of value) w has))
      (value-place.called holds q is in_q) in_q

  kept-unstored : (q : Path) (g : FieldId) (r : Path) → extended q g ≡ Some r → quiet.IsIn r →
      (written store o f y).cells (Start (start_path q)) g ≡ None
  kept-unstored q g r ext in_r =
      elim (same_object o (Start (start_path q)) && same_field f g) as (λ b.
      (same_object o (Start (start_path q)) && same_field f g) ≡ b →
      cond b (Some y) (store.cells (Start (start_path q)) g) ≡ None) [
        | true ↦ λ e. absurd (own-cell q g r ext in_r e)
        | false ↦ λ e. stored.unstored q g r ext in_r
      ] refl

  kept-stored : (p : Object) (g : FieldId) (c : ClassId) (q : Path) → field_kind core g ≡ Declared c →
      (written store o f y).cells p g ≡ Some (start_object q) → quiet.IsIn q → ⊥
  kept-stored p g c q kind is in_q =
      elim (same_object o p && same_field f g) as (λ b. (same_object o p && same_field f g) ≡ b →
      cond b (Some y) (store.cells p g) ≡ Some (start_object q) → ⊥) [
        | true ↦ λ e there. let same : y ≡ start_object q = cc in
            own-value g c q kind (same-fields f g (and_parts (same_object o p) (same_field f g) e).1) same in_q
        | false ↦ λ e there. stored.stored p g c q kind there in_q
      ] refl is

  pub write-store : IsStore core quiet (written store o f y)
  write-store = record { all = stored.all; unstored = kept-unstored; stored = kept-stored }
