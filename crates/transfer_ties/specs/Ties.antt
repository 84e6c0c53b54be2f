-- A contract of a public call rests on this: which classes, kinds, fields and methods of an older program and a newer
-- one are the same by their names, whatever their numbers and places are.
use Rattle.std.specs.Prelude.{Bool, true, false, ◌&&◌, Option, Some, length, nat_eq, slice_get}
use Rattle.racer_base.specs.declared.ids.ClassId.{ClassId}
use Rattle.racer_base.specs.declared.ids.FieldId.{FieldId}
use Rattle.racer_base.specs.declared.ids.MethodId.{MethodId}
use Rattle.racer_base.specs.declared.ids.Kind.{Kind}
use Rattle.racer_base.specs.declared.ids.Kind.TheVariants.{Plain, Declared, Other}
use Rattle.core_code.specs.declared.parts.ClassCore.{ClassCore}
use Rattle.core_code.specs.declared.parts.FieldCore.{FieldCore}
use Rattle.core_code.specs.Calls.{method_at}
use Rattle.core_code.specs.Core.{Core, Method}
use Rattle.core_code.specs.Names.{same_text}
use Rattle.access_domain.specs.Records.{same_flag}

-- both are there, and are the same
abbrev pub both : {X Y : Type 0} → (X → Y → Bool) → Option X → Option Y → Bool
both same (Some x) (Some y) = same x y
both same _ _ = false

abbrev pub ties_classes : Core → Core → ClassId → ClassId → Bool
ties_classes p q c d =
    both (λ (a b : ClassCore). same_text a.name b.name) (slice_get p.classes c.0) (slice_get q.classes d.0)

abbrev pub ties_kinds : Core → Core → Kind → Kind → Bool
ties_kinds p q Plain Plain = true
ties_kinds p q Other Other = true
ties_kinds p q (Declared c) (Declared d) = ties_classes p q c d
ties_kinds p q _ _ = false

abbrev pub same_field : Core → Core → FieldCore → FieldCore → Bool
same_field p q a b =
    ties_classes p q a.class b.class && same_text a.name b.name && ties_kinds p q a.kind b.kind
    && same_flag a.is_static b.is_static && same_flag a.recorded b.recorded

abbrev pub ties_fields : Core → Core → FieldId → FieldId → Bool
ties_fields p q f g = both (same_field p q) (slice_get p.fields f.0) (slice_get q.fields g.0)

-- two methods have one class, one name, and as many parameters
abbrev pub same_signature : Core → Core → Method → Method → Bool
same_signature p q a b =
    ties_classes p q a.class b.class && same_text a.name b.name
    && nat_eq (length a.parameters) (length b.parameters)

-- the same, and both are static or neither is: so a call names its callee
abbrev pub same_callee : Core → Core → Method → Method → Bool
same_callee p q a b = same_signature p q a b && same_flag a.is_static b.is_static

abbrev pub ties_callees : Core → Core → MethodId → MethodId → Bool
ties_callees p q m n = both (same_callee p q) (method_at p m) (method_at q n)
