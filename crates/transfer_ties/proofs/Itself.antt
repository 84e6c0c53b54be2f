-- A program beside itself: what it declares is the same, and so are the forms of its methods.
use Rattle.std.proofs.Common.{◌≡◌, ℕ, zero, suc, ◌<◌, Bool, true, false, ◌&&◌, List, [], ◌∷◌, ◌++◌}
use Rattle.std.proofs.Common.{Some, length, nat_eq, refl, sym, ◌∙◌, arith}
use Rattle.std.specs.Prelude.{nat_lt, slice_get}
use Rattle.std.specs.List.{list_all}
use Rattle.std.proofs.lemmas.Bool.{and_from, and_parts, eq-eqb, ltb-true}
use Rattle.std.proofs.lemmas.List.Folds.{list_all-append}
use Rattle.racer_base.specs.declared.ids.ClassId.{ClassId}
use Rattle.racer_base.specs.declared.ids.FieldId.{FieldId}
use Rattle.racer_base.specs.declared.ids.MethodId.{MethodId}
use Rattle.racer_base.specs.declared.ids.Kind.{Kind}
use Rattle.racer_base.specs.declared.ids.Kind.TheVariants.{Plain, Declared, Other}
use Rattle.racer_base.proofs.Tests.{bytes_same}
use Rattle.core_code.specs.declared.code.LockKind.{LockKind}
use Rattle.core_code.specs.declared.code.LockKind.TheVariants.{Own, Explicit}
use Rattle.core_code.specs.declared.code.Op.{Op as CoreOp}
use Rattle.core_code.specs.declared.code.Op.TheVariants.{Push, PushClass, PushPrim, PushNull, New, Dup, Drop, Get, Put}
use Rattle.core_code.specs.declared.code.Op.TheVariants.{Set, Prim, Outside, Call, Unread, Ret, Throw}
use Rattle.core_code.specs.declared.parts.ClassCore.{ClassCore}
use Rattle.core_code.specs.declared.parts.FieldCore.{FieldCore}
use Rattle.core_code.specs.Calls.{method_at}
use Rattle.core_code.specs.Core.{Core, Method}
use Rattle.core_code.specs.Facts.{are_numbers_in_range, is_class, is_class_in_range, is_code, is_field}
use Rattle.core_code.specs.Facts.{is_field_in_range}
use Rattle.core_code.specs.Facts.{is_kind, is_method, is_method_in_range, is_op, is_operation, is_place}
use Rattle.core_code.specs.Names.{same_text}
use Rattle.core_code.specs.Tree.{Operation, Tree, Op, Skip, Seq, Choice, Loop, Sync, locks_of, steps_of}
use Rattle.core_code.proofs.Members.{at_place, each}
use Rattle.access_domain.specs.Records.{same_flag}
use Rattle.transfer_ties.specs.Ties.{same_callee, same_field, same_signature, ties_callees, ties_classes}
use Rattle.transfer_ties.specs.Ties.{ties_fields, ties_kinds}
use Rattle.transfer_ties.specs.Forms.{same_code, same_form, same_kinds, same_lock, same_op, ties_forms}
use Rattle.transfer_ties.proofs.OneToOne.{both_found}

record IsThere {X : Type 0} (xs : List X) (i : ℕ) : Type 0 where
  x : X
  at : slice_get xs i ≡ Some x

within : {X : Type 0} (xs : List X) (i : ℕ) → i < length xs → IsThere xs i
within [] i low = absurd (omega arith)
within (x ∷ xs) zero low = record { x = x; at = refl }
within (x ∷ xs) (suc i) low =
    let rest = within xs i (omega (arith, low)) in
    record { x = rest.x; at = rest.at }

there : {X : Type 0} (xs : List X) (i : ℕ) → nat_lt i (length xs) ≡ true → IsThere xs i
there xs i low = within xs i (ltb-true i (length xs) low)

flag_same : (b : Bool) → same_flag b b ≡ true
flag_same true = refl
flag_same false = refl

number_same : (n : ℕ) → nat_eq n n ≡ true
number_same n = eq-eqb n n refl

lock_same : (k : LockKind) → same_lock k k ≡ true
lock_same Own = refl
lock_same Explicit = refl

abbrev alike : ClassCore → ClassCore → Bool
alike a b = same_text a.name b.name

module _ (p : Core) (fits : are_numbers_in_range p ≡ true) where
  class_itself : (c : ClassId) → is_class p c ≡ true → ties_classes p p c c ≡ true
  class_itself c low =
      let a = there p.classes c.0 low in
      sym (both_found alike (slice_get p.classes c.0) (slice_get p.classes c.0) a.x a.x true a.at a.at
      (sym (bytes_same a.x.name)))

  kind_itself : (k : Kind) → is_kind p k ≡ true → ties_kinds p p k k ≡ true
  kind_itself Plain low = refl
  kind_itself (Declared c) low = class_itself c low
  kind_itself Other low = refl

  kinds_itself : (ks : List Kind) → list_all (is_kind p) ks ≡ true → same_kinds p p ks ks ≡ true
  kinds_itself [] low = refl
  kinds_itself (k ∷ ks) low =
      let parts = and_parts (is_kind p k) (list_all (is_kind p) ks) low in
      and_from (ties_kinds p p k k) (same_kinds p p ks ks) (kind_itself k parts.0) (kinds_itself ks parts.1)

  abbrev skipped_fit : Bool
  skipped_fit = list_all (is_place p) p.skipped && list_all (is_class_in_range p) p.classes

  fields_fit : list_all (is_field_in_range p) p.fields ≡ true
  fields_fit =
      let front = and_parts (skipped_fit && list_all (is_field_in_range p) p.fields)
      (list_all (is_method_in_range p) p.methods) fits in
      (and_parts skipped_fit (list_all (is_field_in_range p) p.fields) front.0).1

  methods_fit : list_all (is_method_in_range p) p.methods ≡ true
  methods_fit =
      (and_parts (skipped_fit && list_all (is_field_in_range p) p.fields) (list_all (is_method_in_range p) p.methods)
      fits).1

  field_alike : (a : FieldCore) → is_field_in_range p a ≡ true → same_field p p a a ≡ true
  field_alike a low =
      let parts = and_parts (is_class p a.class) (is_kind p a.kind) low in
      let class = ties_classes p p a.class a.class in
      let name = same_text a.name a.name in
      let kind = ties_kinds p p a.kind a.kind in
      let static = same_flag a.is_static a.is_static in
      and_from (class && name && kind && static) (same_flag a.recorded a.recorded)
      (and_from (class && name && kind) static
      (and_from (class && name) kind (and_from class name (class_itself a.class parts.0) (bytes_same a.name))
      (kind_itself a.kind parts.1))
      (flag_same a.is_static))
      (flag_same a.recorded)

  field_itself : (f : FieldId) → is_field p f ≡ true → ties_fields p p f f ≡ true
  field_itself f low =
      let a = there p.fields f.0 low in
      sym (both_found (same_field p p) (slice_get p.fields f.0) (slice_get p.fields f.0) a.x a.x true a.at a.at
      (sym (field_alike a.x (each (is_field_in_range p) p.fields a.x fields_fit (at_place p.fields f.0 a.x a.at)))))

  -- what is in range of a method
  record Fits (a : Method) : Type 0 where
    class : is_class p a.class ≡ true
    parameters : list_all (is_kind p) a.parameters ≡ true
    result : is_kind p a.result ≡ true
    variables : list_all (is_kind p) a.variables ≡ true
    code : list_all (is_operation p (length a.variables)) (steps_of a.code) ≡ true

  method_fits : (m : ℕ) (a : Method) → slice_get p.methods m ≡ Some a → Fits a
  method_fits m a at =
      let low = each (is_method_in_range p) p.methods a methods_fit (at_place p.methods m a at) in
      let class = is_class p a.class in
      let place = is_place p a.place in
      let parameters = list_all (is_kind p) a.parameters in
      let result = is_kind p a.result in
      let variables = list_all (is_kind p) a.variables in
      let code = is_code p (length a.variables) a.code in
      let five = and_parts (class && place && parameters && result && variables) code low in
      let four = and_parts (class && place && parameters && result) variables five.0 in
      let three = and_parts (class && place && parameters) result four.0 in
      let two = and_parts (class && place) parameters three.0 in
      let one = and_parts class place two.0 in
      record {
        class = one.0;
        parameters = two.1;
        result = three.1;
        variables = four.1;
        code = (and_parts (list_all (is_operation p (length a.variables)) (steps_of a.code))
            (list_all (is_place p) (locks_of a.code)) five.1).0;
      }

  signature_itself : (a : Method) → is_class p a.class ≡ true → same_signature p p a a ≡ true
  signature_itself a low =
      let class = ties_classes p p a.class a.class in
      let name = same_text a.name a.name in
      and_from (class && name) (nat_eq (length a.parameters) (length a.parameters))
      (and_from class name (class_itself a.class low) (bytes_same a.name)) (number_same (length a.parameters))

  callee_itself : (m : MethodId) → is_method p m ≡ true → ties_callees p p m m ≡ true
  callee_itself m low =
      let a = there p.methods m.0 low in
      sym (both_found (same_callee p p) (slice_get p.methods m.0) (slice_get p.methods m.0) a.x a.x true a.at a.at
      (sym (and_from (same_signature p p a.x a.x) (same_flag a.x.is_static a.x.is_static)
      (signature_itself a.x (method_fits m.0 a.x a.at).class) (flag_same a.x.is_static))))

  op_itself : (variables : ℕ) (op : CoreOp) → is_op p variables op ≡ true → same_op p p op op ≡ true
  op_itself variables (Push v) low = number_same v.0
  op_itself variables (PushClass c) low = class_itself c low
  op_itself variables PushPrim low = refl
  op_itself variables PushNull low = refl
  op_itself variables (New c) low = class_itself c low
  op_itself variables Dup low = refl
  op_itself variables Drop low = refl
  op_itself variables (Get f) low = field_itself f low
  op_itself variables (Put f) low = field_itself f low
  op_itself variables (Set v) low = number_same v.0
  op_itself variables (Prim k) low = number_same k
  op_itself variables (Outside k) low = number_same k
  op_itself variables (Call m k) low =
      and_from (ties_callees p p m m) (nat_eq k k) (callee_itself m low) (number_same k)
  op_itself variables (Unread m k) low =
      and_from (ties_callees p p m m) (nat_eq k k) (callee_itself m low) (number_same k)
  op_itself variables Ret low = refl
  op_itself variables Throw low = refl

  module _ (variables : ℕ) where
    abbrev fit : List Operation → Bool
    fit = list_all (is_operation p variables)

    two_fit : (some others : List Operation) → fit (some ++ others) ≡ true → (fit some ≡ true) × (fit others ≡ true)
    two_fit some others low =
        and_parts (fit some) (fit others) (sym (list_all-append (is_operation p variables) some others) ∙ low)

    code_itself : (t : Tree) → fit (steps_of t) ≡ true → same_code p p t t ≡ true
    code_itself (Op site place op) low =
        let one = and_parts (is_place p place && is_op p variables op) true low in
        and_from (nat_eq site.0 site.0) (same_op p p op op) (number_same site.0)
        (op_itself variables op (and_parts (is_place p place) (is_op p variables op) one.0).1)
    code_itself Skip low = refl
    code_itself (Seq first rest) low =
        let parts = two_fit (steps_of first) (steps_of rest) low in
        and_from (same_code p p first first) (same_code p p rest rest) (code_itself first parts.0)
        (code_itself rest parts.1)
    code_itself (Choice left right) low =
        let parts = two_fit (steps_of left) (steps_of right) low in
        and_from (same_code p p left left) (same_code p p right right) (code_itself left parts.0)
        (code_itself right parts.1)
    code_itself (Loop body) low = code_itself body low
    code_itself (Sync lock body) low =
        and_from (same_lock lock.kind lock.kind) (same_code p p body body) (lock_same lock.kind) (code_itself body low)

  pub form_itself : (m : MethodId) (a : Method) → method_at p m ≡ Some a → ties_forms p p m m ≡ true
  form_itself m a at =
      let fits = method_fits m.0 a at in
      let signature = same_signature p p a a in
      let parameters = same_kinds p p a.parameters a.parameters in
      let result = ties_kinds p p a.result a.result in
      let variables = same_kinds p p a.variables a.variables in
      let static = same_flag a.is_static a.is_static in
      let main = same_flag a.main a.main in
      let code = same_code p p a.code a.code in
      sym (both_found (same_form p p) (method_at p m) (method_at p m) a a true at at
      (sym (and_from (signature && parameters && result && variables && static && main) code
      (and_from (signature && parameters && result && variables && static) main
      (and_from (signature && parameters && result && variables) static
      (and_from (signature && parameters && result) variables
      (and_from (signature && parameters) result
      (and_from signature parameters (signature_itself a fits.class) (kinds_itself a.parameters fits.parameters))
      (kind_itself a.result fits.result))
      (kinds_itself a.variables fits.variables))
      (flag_same a.is_static))
      (flag_same a.main))
      (code_itself (length a.variables) a.code fits.code))))
