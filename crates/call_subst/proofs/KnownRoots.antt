-- What a callee returns begins at something known in its caller, where all that is passed does.
use Rattle.std.proofs.Common.{◌≡◌, ℕ, zero, suc, Bool, true, false, cond, List, [], ◌∷◌, ◌++◌, length, drop}
use Rattle.std.proofs.Common.{nat_lt, None, Some, slice_index_or, refl, ap, ◌∙◌}
use Rattle.std.specs.Prelude.{Result, Ok, Err, IfOk}
use Rattle.std.specs.List.{list_all}
use Rattle.std.proofs.lemmas.Bool.{and_parts}
use Rattle.racer_base.specs.declared.ids.FieldId.{FieldId}
use Rattle.racer_base.specs.declared.limits.TheConstants.{MAX_PATH_FIELDS}
use Rattle.access_paths.specs.declared.path.Path.{Path}
use Rattle.access_paths.specs.declared.path.Root.{Root}
use Rattle.access_paths.specs.declared.path.Root.TheVariants.{This, Class, Formal, Some as SomeOf}
use Rattle.owner_domain.specs.declared.value.Value.{Value}
use Rattle.owner_domain.specs.declared.value.Value.TheVariants.{Owned, Named, Unnamed}
use Rattle.owner_domain.specs.declared.numbered.NumberedValue.{NumberedValue}
use Rattle.owner_domain.specs.Numbered.{read_value}
use Rattle.owner_domain.specs.Values.{along, field_value, has_known_root, named_or_unnamed}
use Rattle.access_domain.specs.Substitution.{actuals_from, root_value, substituted_value}
use Rattle.call_subst.specs.Numbered.{AreKnown}

field-known : (v : Value) (f : FieldId) → has_known_root v ≡ true → has_known_root (field_value v f) ≡ true
field-known Owned f known = refl
field-known Unnamed f known = refl
field-known (Named p) f known =
    let longer : Path = record { root = p.root; fields = p.fields ++ f ∷ [] } in
    elim (nat_lt (length p.fields) MAX_PATH_FIELDS) as (λ b.
    has_known_root (named_or_unnamed (cond b (Some longer) None)) ≡ true) [
      | true ↦ known
      | false ↦ refl
    ]

along-known : (v : Value) (fields : List FieldId) → has_known_root v ≡ true → has_known_root (along v fields) ≡ true
along-known v [] known = known
along-known v (f ∷ fields) known = along-known (field_value v f) fields (field-known v f known)

at-known : (values : List Value) (i : ℕ) → AreKnown values → has_known_root (slice_index_or values i Unnamed) ≡ true
at-known [] i known = refl
at-known (v ∷ values) zero known = (and_parts (has_known_root v) (list_all has_known_root values) known).0
at-known (v ∷ values) (suc i) known =
    at-known values i (and_parts (has_known_root v) (list_all has_known_root values) known).1

behind-known : (values : List Value) → AreKnown values → AreKnown (drop 1 values)
behind-known [] known = refl
behind-known (v ∷ values) known = (and_parts (has_known_root v) (list_all has_known_root values) known).1

formals-known : (is_static : Bool) (values : List Value) → AreKnown values →
    AreKnown (cond is_static values (drop 1 values))
formals-known true values known = known
formals-known false values known = behind-known values known

root-known : (is_static : Bool) (values : List Value) → AreKnown values → (root : Root) →
    has_known_root (root_value (actuals_from is_static values) root) ≡ true
root-known is_static values known This = at-known values 0 known
root-known is_static values known (Formal i) =
    at-known (cond is_static values (drop 1 values)) i (formals-known is_static values known)
root-known is_static values known (Class c) = refl
root-known is_static values known (SomeOf c) = refl

pub value-known : (is_static : Bool) (values : List Value) → AreKnown values → (v : Value) →
    has_known_root (substituted_value (actuals_from is_static values) v) ≡ true
value-known is_static values known Owned = refl
value-known is_static values known Unnamed = refl
value-known is_static values known (Named p) =
    along-known (root_value (actuals_from is_static values) p.root) p.fields
    (root-known is_static values known p.root)

-- a number of a value that begins at something known where something else does
pub number-known : {E : Type 0} (r : Result NumberedValue E) (table : List Path) (v : Value) (K : Type 0) →
    IfOk r (λ made. read_value table made ≡ v) → (K → has_known_root v ≡ true) →
    IfOk r (λ made. K → has_known_root (read_value table made) ≡ true)
number-known (Ok made) table v K is known = λ k. ap has_known_root is ∙ known k
number-known (Err e) table v K is known = tt
