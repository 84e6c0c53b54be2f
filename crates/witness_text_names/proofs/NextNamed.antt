-- A field that the index has is that of its name in the class reached, and leads where it leads.
use Rattle.std.proofs.Common.{◌≡◌, ℕ, true, List, Option, Some, get_or, length, slice_get, refl, sym, ap, ◌∙◌}
use Rattle.std.proofs.Math.Dec.{ltb}
use Rattle.std.proofs.lemmas.Bool.{ltb-true}
use Rattle.std.proofs.lemmas.Option.{slice_get_read}
use Rattle.std.specs.Option.{option_and_then, option_map}
use Rattle.racer_base.specs.declared.ids.ClassId.{ClassId}
use Rattle.racer_base.specs.declared.ids.FieldId.{FieldId}
use Rattle.core_code.specs.declared.parts.FieldCore.{FieldCore}
use Rattle.core_code.specs.Core.{Core}
use Rattle.core_code.specs.KindCheck as kinds
use Rattle.core_semantics_kinds.specs.Reached.{Reached, behind, behind_field}
use Rattle.witness_text_names.specs.Indexes.{FieldIndex, FindsFields, field_among, field_at, next_named}
use Rattle.witness_text_names.specs.Names.{class_in, field_named}

pub field_there : (xs all : List FieldCore) (i : ℕ) (x : FieldCore) → xs ≡ all → true ≡ ltb i (length xs) →
    x ≡ get_or xs i x → slice_get all i ≡ Some x
field_there xs all i x same within at =
    ap (λ (ys : List FieldCore). slice_get ys i) (sym same)
    ∙ slice_get_read xs (length xs) i x refl (ltb-true i (length xs) (sym within)) at

abbrev with_field : FieldId → Option Reached → Option (FieldId × Reached)
with_field f o = option_map (λ next. (f, next)) o

pub next_is : (core : Core) (index : FieldIndex) (name : List ℕ) (r next : Reached) (c : ClassId) (f : FieldId)
    (field : FieldCore) → FindsFields core.fields index → c ≡ class_in r → Some f ≡ field_at index c name →
    kinds.field_at core f ≡ Some field → Some next ≡ behind_field field r → Some (f, next) ≡ next_named core name r
next_is core index name r next c f field finds class at there leads =
    let found : Some f ≡ field_named core name r =
    at ∙ finds c name ∙ ap (λ (d : ClassId). field_among 0 core.fields d name) class in
    ap (with_field f) (leads ∙ sym (ap (λ (o : Option FieldCore). option_and_then (λ x. behind_field x r) o) there))
    ∙ ap (λ (o : Option FieldId). option_and_then (λ g. with_field g (behind core (Some r) g)) o) found
