-- The code of accesses is that of the base, and what comes behind it.
use Rattle.std.proofs.Common.{◌≡◌, Bool, true, false, cond, [], ◌++◌, Option, Some, None, refl, sym, ap, ◌∙◌}
use Rattle.std.proofs.Common.{append_assoc}
use Rattle.std.proofs.lemmas.Option.{none-some}
use Rattle.std.proofs.lemmas.List.{append-nil}
use Rattle.racer_base.specs.declared.ids.ClassId.{ClassId}
use Rattle.racer_base.specs.declared.ids.FieldId.{FieldId}
use Rattle.racer_base.specs.declared.ids.Kind.TheVariants.{Plain, Declared, Other}
use Rattle.java_tree.specs.declared.words.Ident.{Ident}
use Rattle.java_resolver.specs.declared.infos.FieldInfo.{FieldInfo}
use Rattle.java_resolver.specs.Meanings.{field_named}
use Rattle.core_code.specs.declared.code.Op.TheVariants.{Drop, PushClass}
use Rattle.core_lowering_rules.specs.Trees.{Access, Named, Selected, Element, NoAccess}
use Rattle.core_lowering_rules.specs.ValueKinds.{ValueKind, Of, Null}
use Rattle.core_lowering_rules.specs.Context.{Context, Code, op}
use Rattle.core_lowering_rules.specs.Assignments.{Storage, InVariable, InField, Elsewhere, kind_in, in_field, read}
use Rattle.core_lowering_rules.specs.Assignments.{assigned}
use Rattle.core_lowering_rules.specs.Assignments.{combined, counted, field_at, of_object, of_value, selected}
use Rattle.core_lowering_rules.specs.Expressions.{access_kind, storage, class_before, kind, code}
use Rattle.core_lowering_rules.proofs.FoundElements.{field-there}
use Rattle.core_lowering_expressions.specs.Parts.{base_of, without_base, storage_kind, then_read, then_assigned}
use Rattle.core_lowering_expressions.specs.Parts.{then_fetched}
use Rattle.core_lowering_expressions.specs.Parts.{then_combined, then_counted}

pub read-parts : (context : Context) (s : Storage) → read context s ≡ base_of s ++ then_read context (without_base s)
read-parts context (InVariable v k) = refl
read-parts context (InField f k name base) = refl
read-parts context (Elsewhere n operands) = refl

pub assigned-parts : (context : Context) (s : Storage) (given : ValueKind) (e : Code) →
    assigned context s given e ≡ base_of s ++ (e ++ then_assigned context (without_base s) given)
assigned-parts context (InVariable v k) given e = simp append_assoc
assigned-parts context (InField f k name base) given e = simp append_assoc
assigned-parts context (Elsewhere n operands) given e = simp append_assoc

pub combined-parts : (context : Context) (s : Storage) (e : Code) →
    combined context s e
    ≡ base_of s ++ (then_fetched context (without_base s) ++ (e ++ then_combined context (without_base s)))
combined-parts context (InVariable v k) e = simp append_assoc
combined-parts context (InField f k name base) e = simp append_assoc
combined-parts context (Elsewhere n operands) e = simp append_assoc

pub counted-parts : (context : Context) (s : Storage) →
    counted context s
    ≡ base_of s ++ (then_fetched context (without_base s) ++ then_counted context (without_base s))
counted-parts context (InVariable v k) = simp append_assoc
counted-parts context (InField f k name base) = simp append_assoc
counted-parts context (Elsewhere n operands) = refl

pub kind-parts : (s : Storage) → kind_in s ≡ storage_kind (without_base s)
kind-parts (InVariable v k) = refl
kind-parts (InField f k name base) = refl
kind-parts (Elsewhere n operands) = refl

-- ---- e.x: what is behind e

same-code : (b : Bool) (e f : Code) → cond b (e ++ f) e ≡ e ++ cond b f []
same-code true e f = refl
same-code false e f = sym (append-nil e)

field-behind : (context : Context) (c : ClassId) (e : Code) (x : Ident) (f : FieldId) (o : Option FieldInfo) →
    (info : FieldInfo) → o ≡ Some info →
    base_of (in_field (e ++ op context Drop ++ op context (PushClass c)) e x f o)
    ≡ e ++ base_of (in_field (op context Drop ++ op context (PushClass c)) [] x f o)
field-behind context c e x f None info there = absurd (none-some _ there)
field-behind context c e x f (Some field) info there =
    ap (λ d. cond field.is_static d e) (append_assoc e (op context Drop) (op context (PushClass c)))
    ∙ same-code field.is_static e (op context Drop ++ op context (PushClass c))

object-behind : (context : Context) (c : ClassId) (e : Code) (x : Ident) (o : Option FieldId) →
    field_named context.folder.fields c false x.text ≡ o →
    base_of (of_object context c e x o) ≡ e ++ base_of (of_object context c [] x o)
object-behind context c e x None named = sym (append-nil e)
object-behind context c e x (Some f) named =
    let found = field-there context.folder.fields c false x.text f named in
    field-behind context c e x f (field_at context f) found.info found.there

pub value-behind : (context : Context) (k : ValueKind) (e : Code) (x : Ident) →
    base_of (of_value context k e x) ≡ e ++ base_of (of_value context k [] x)
value-behind context (Of (Declared c)) e x =
    object-behind context c e x (field_named context.folder.fields c false x.text) refl
value-behind context (Of Plain) e x = sym (append-nil e)
value-behind context (Of Other) e x = sym (append-nil e)
value-behind context Null e x = sym (append-nil e)

field-same : (a b c d : Code) (x : Ident) (f : FieldId) (o : Option FieldInfo) →
    without_base (in_field a b x f o) ≡ without_base (in_field c d x f o)
field-same a b c d x f None = refl
field-same a b c d x f (Some field) = refl

object-same : (context : Context) (c : ClassId) (e : Code) (x : Ident) (o : Option FieldId) →
    without_base (of_object context c e x o) ≡ without_base (of_object context c [] x o)
object-same context c e x None = refl
object-same context c e x (Some f) =
    field-same (e ++ op context Drop ++ op context (PushClass c)) e (op context Drop ++ op context (PushClass c)) [] x f
    (field_at context f)

pub value-same : (context : Context) (k : ValueKind) (e : Code) (x : Ident) →
    without_base (of_value context k e x) ≡ without_base (of_value context k [] x)
value-same context (Of (Declared c)) e x =
    object-same context c e x (field_named context.folder.fields c false x.text)
value-same context (Of Plain) e x = refl
value-same context (Of Other) e x = refl
value-same context Null e x = refl

-- the kind of an access is that of what it is stored in
selected-kind : (context : Context) (o : Option ClassId) (k : ValueKind) (e : Code) (x : Ident) →
    kind_in (selected context o k [] x) ≡ kind_in (selected context o k e x)
selected-kind context None k e x =
    kind-parts (of_value context k [] x) ∙ ap storage_kind (sym (value-same context k e x))
    ∙ sym (kind-parts (of_value context k e x))
selected-kind context (Some c) k e x = refl

pub kind-stored : (context : Context) (a : Access) →
    access_kind context a ≡ storage_kind (without_base (storage context a))
kind-stored context (Named x) = kind-parts (storage context (Named x))
kind-stored context (Selected e x) =
    selected-kind context (class_before context e) (kind context e) (code context e) x
    ∙ kind-parts (storage context (Selected e x))
kind-stored context (Element a i) = refl
kind-stored context NoAccess = refl
