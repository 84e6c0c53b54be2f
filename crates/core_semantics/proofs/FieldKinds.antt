-- The kind of a field by its number.
use Rattle.std.proofs.Common.{◌≡◌, ℕ, zero, suc, true, false, List, [], ◌∷◌, length, map, get_or, option_map, unwrap_or}
use Rattle.std.proofs.Common.{refl, sym, ap, ◌∙◌}
use Rattle.std.proofs.Common.{Option, Some, None, slice_index_or, slice_get}
use Rattle.std.proofs.Math.Dec.{ltb}
use Rattle.std.proofs.lemmas.Bool.{ltb-true, ltb-false}
use Rattle.std.proofs.lemmas.Option.{slice_get-map, slice_get_read, slice_get_past, unwrap_or-slice_get}
use Rattle.racer_base.specs.declared.ids.FieldId.{FieldId}
use Rattle.racer_base.specs.declared.ids.Kind.{Kind}
use Rattle.racer_base.specs.declared.ids.Kind.TheVariants.{Other}
use Rattle.core_code.specs.declared.parts.FieldCore.{FieldCore}
use Rattle.core_code.specs.Core.{Core}
use Rattle.core_code.specs.KindCheck.{field_at}
use Rattle.core_semantics.specs.Steps.{kind_of as field_kind}

abbrev kinds_of : List FieldCore → List Kind
kinds_of fs = map (λ (field : FieldCore). field.kind) fs

found : (fs all : List FieldCore) (f : FieldId) (o : Option FieldCore) → fs ≡ all → slice_get fs f.0 ≡ o →
    unwrap_or (option_map (λ (field : FieldCore). field.kind) o) Other ≡ slice_index_or (kinds_of all) f.0 Other
found fs all f o same is =
    ap (λ (p : Option FieldCore). unwrap_or (option_map (λ (field : FieldCore). field.kind) p) Other) (sym is)
    ∙ ap (λ (k : Option Kind). unwrap_or k Other) (sym (slice_get-map (λ (field : FieldCore). field.kind) fs f.0))
    ∙ unwrap_or-slice_get (kinds_of fs) f.0 Other
    ∙ ap (λ (xs : List FieldCore). slice_index_or (kinds_of xs) f.0 Other) same

pub kind_at : (fs all : List FieldCore) (f : FieldId) (x : FieldCore) → fs ≡ all → true ≡ ltb f.0 (length fs) →
    x ≡ get_or fs f.0 x → x.kind ≡ slice_index_or (kinds_of all) f.0 Other
kind_at fs all f x same within at =
    found fs all f (Some x) same
    (slice_get_read fs (length fs) f.0 x refl (ltb-true f.0 (length fs) (sym within)) at)

pub no_kind : (fs all : List FieldCore) (f : FieldId) → fs ≡ all → false ≡ ltb f.0 (length fs) →
    Other ≡ slice_index_or (kinds_of all) f.0 Other
no_kind fs all f same past =
    found fs all f None same (slice_get_past fs f.0 (ltb-false f.0 (length fs) (sym past)))

-- ---- a field that there is

pub kind-in : (fields : List FieldCore) (i : ℕ) (field : FieldCore) → slice_get fields i ≡ Some field →
    slice_index_or (map (λ (x : FieldCore). x.kind) fields) i Other ≡ field.kind
kind-in [] i field there = absurd cc
kind-in (x ∷ fields) zero field there = let same : x ≡ field = cc in ap (λ (y : FieldCore). y.kind) same
kind-in (x ∷ fields) (suc i) field there = kind-in fields i field there

pub kind-there : (core : Core) (f : FieldId) (field : FieldCore) → field_at core f ≡ Some field →
    field_kind core f ≡ field.kind
kind-there core f field there = kind-in core.fields f.0 field there
