-- What is said of a class by flags is what is stated.
use Rattle.std.proofs.Common.{◌≡◌, ℕ, zero, suc, ◌+◌, ◌<◌, ◌≤◌, inl, inr, Bool, true, false, ◌&&◌, not, List, []}
use Rattle.std.proofs.Common.{◌∷◌, Option, Some, None, is_none, length, refl, sym, ap, subst, ◌∙◌, arith}
use Rattle.std.proofs.Common.{slice_get, zero-add}
use Rattle.std.specs.Prelude.{slice_index_or}
use Rattle.std.specs.List.{list_all, list_any}
use Rattle.std.proofs.lemmas.Bool.{and_left, and_parts, cases_lt, ltb-true, ne_eqb, or_from}
use Rattle.std.proofs.lemmas.List.{get_or_past}
use Rattle.racer_base.specs.declared.ids.ClassId.{ClassId}
use Rattle.core_code.specs.declared.code.Op.{Op as CoreOp}
use Rattle.core_code.specs.declared.code.Op.TheVariants.{Push, PushClass, PushPrim, PushNull, New, Dup, Drop, Get, Put}
use Rattle.core_code.specs.declared.code.Op.TheVariants.{Set, Prim as PrimOp, Outside, Call, Unread, Ret, Throw}
use Rattle.core_code.specs.declared.code.Reason.{Reason}
use Rattle.core_code.specs.declared.parts.FieldCore.{FieldCore}
use Rattle.core_code.specs.CallFacts.{are_calls_right, has_ranks}
use Rattle.core_code.specs.Core.{Core, Method}
use Rattle.core_code.specs.Facts.{are_entries_analysed, are_numbers_in_range, is_class, is_class_in_range, is_field_in_range, is_kind, is_method_in_range}
use Rattle.core_code.specs.Facts.{is_place}
use Rattle.core_code.specs.KindCheck.{field_at}
use Rattle.core_code.specs.Kinds.{same_class}
use Rattle.core_code.specs.Tree.{Operation, steps_of}
use Rattle.core_code.proofs.RowCallees.{analysed_at}
use Rattle.typed_core.specs.declared.answers.Answer.{Answer}
use Rattle.typed_core.specs.declared.answers.Typing.{Typing}
use Rattle.typed_core.specs.declared.findings.Findings.{Findings}
use Rattle.typed_core.specs.Contexts.{flag_of}
use Rattle.typed_core.specs.Typings.{answer_of, from_entries, is_among, is_null_at_first, is_plain, is_read_by, is_read_in}
use Rattle.typed_core.specs.Typings.{reached_from, reads_field_of, typing_of}
use Rattle.typed_core.specs.Reaching.{reached_places, reads_in, AreFlags, AreFound, IsInRange}
use Rattle.typed_core.proofs.Answering.{AreOf, failing_in, places-same, reads-same}
use Rattle.typed_core.proofs.Reached.{among-analysed}

-- ---- no field is one of a class that there is not
fields-right : (core : Core) → are_numbers_in_range core ≡ true → list_all (is_field_in_range core) core.fields ≡ true
fields-right core e =
    let before = list_all (is_place core) core.skipped && list_all (is_class_in_range core) core.classes in
    let fields = list_all (is_field_in_range core) core.fields in
    (and_parts before fields
    (and_parts (before && fields) (list_all (is_method_in_range core) core.methods) e).0).1

field-low : (core : Core) (fields : List FieldCore) (i : ℕ) (field : FieldCore) →
    list_all (is_field_in_range core) fields ≡ true → slice_get fields i ≡ Some field →
    field.class.0 < length core.classes
field-low core [] i field all at = absurd cc
field-low core (x ∷ fields) zero field all at =
    let same : x ≡ field = cc in
    let one = (and_parts (is_field_in_range core x) (list_all (is_field_in_range core) fields) all).0 in
    let low : x.class.0 < length core.classes = ltb-true x.class.0 (length core.classes)
    (and_parts (is_class core x.class) (is_kind core x.kind) one).0 in
    subst (λ (f : FieldCore). f.class.0 < length core.classes) same low
field-low core (x ∷ fields) (suc i) field all at =
    field-low core fields i field
    (and_parts (is_field_in_range core x) (list_all (is_field_in_range core) fields) all).1 at

null-none : (core : Core) (c : ClassId) (o : Option FieldCore) →
    ((field : FieldCore) → o ≡ Some field → field.class.0 < length core.classes) → length core.classes ≤ c.0 →
    is_null_at_first c o ≡ false
null-none core c None low high = refl
null-none core c (Some field) low high =
    let l : field.class.0 < length core.classes = low field refl in
    and_left (same_class field.class c && not field.is_static) (not (is_plain field.kind))
    (and_left (same_class field.class c) (not field.is_static) (ne_eqb field.class.0 c.0 (λ e. omega arith)))

read-none : (core : Core) (c : ClassId) (op : CoreOp) → are_numbers_in_range core ≡ true →
    length core.classes ≤ c.0 → reads_field_of core c op ≡ false
read-none core c (Get f) right high =
    null-none core c (field_at core f)
    (λ field at. field-low core core.fields f.0 field (fields-right core right) at) high
read-none core c (Push v) right high = refl
read-none core c (PushClass d) right high = refl
read-none core c PushPrim right high = refl
read-none core c PushNull right high = refl
read-none core c (New d) right high = refl
read-none core c Dup right high = refl
read-none core c Drop right high = refl
read-none core c (Put f) right high = refl
read-none core c (Set v) right high = refl
read-none core c (PrimOp n) right high = refl
read-none core c (Outside n) right high = refl
read-none core c (Call m n) right high = refl
read-none core c (Unread m n) right high = refl
read-none core c Ret right high = refl
read-none core c Throw right high = refl

none-of : {X : Type 0} (test : X → Bool) (xs : List X) → ((x : X) → test x ≡ false) → list_any test xs ≡ false
none-of test [] each = refl
none-of test (x ∷ xs) each = or_from (test x) (list_any test xs) (each x) (none-of test xs each)

reads-none : (core : Core) (ms : List Method) (c : ClassId) → are_numbers_in_range core ≡ true →
    length core.classes ≤ c.0 → is_read_in core ms c ≡ false
reads-none core ms c right high =
    none-of (λ (m : Method). is_read_by core m.code c) ms
    (λ m. none-of (λ (o : Operation). reads_field_of core c o.op) (steps_of m.code)
    (λ o. read-none core c o.op right high))

-- ---- all together
no_status : (o : Option Reason) → is_none o ≡ true → o ≡ None
no_status None e = refl
no_status (Some r) e = cc

pub typing-is : (core : Core) (class : ClassId) (all : List Findings) (reached is_read : List Bool) (count : ℕ) →
    are_numbers_in_range core ≡ true → are_calls_right core ≡ true → has_ranks core ≡ true →
    are_entries_analysed core ≡ true → AreFound core core.methods all →
    AreFlags (from_entries core class) reached → length reached ≡ length core.methods →
    count ≡ length core.classes →
    ((c : ClassId) → IsInRange count c → flag_of is_read c ≡ reads_in reached all c) → length is_read ≡ count →
    (answer : Answer) → answer ≡ answer_of (reached_places (flag_of is_read) reached all) →
    (let made : Typing = record { class = class; answer = answer } in made) ≡ typing_of core class
typing-is core class all reached is_read count right calls ranks entries found flags size classes reads long answer is =
    let wanted = from_entries core class in
    let flag : (i : ℕ) → slice_index_or reached i false ≡ is_among wanted (0 + i) =
    λ i. flags (record { 0 = i }) ∙ ap (is_among wanted) (sym (zero-add i)) in
    let analysed : (i : ℕ) (m : Method) → slice_get core.methods i ≡ Some m → is_among wanted (0 + i) ≡ true →
    m.status ≡ None = λ i m at e.
    no_status m.status (sym (ap analysed_at at)
    ∙ among-analysed core class (record { 0 = i }) calls ranks entries (ap (is_among wanted) (sym (zero-add i)) ∙ e)) in
    let are : AreOf wanted 0 reached core.methods = (size, flag, analysed) in
    let methods = reached_from core class in
    let same : (c : ClassId) → flag_of is_read c ≡ is_read_in core methods c = λ c. (elim (cases_lt c.0 count) [
      | inl low ↦ reads c low ∙ reads-same core wanted core.methods 0 reached all c found are
      | inr high ↦ get_or_past is_read c.0 false (omega arith) ∙ sym (reads-none core methods c right (omega arith))
    ]) in
    (λ i. (let made : Typing = record {
      class = class;
      answer = (is
          ∙ ap answer_of (places-same core (flag_of is_read) wanted core.methods 0 reached all found are)
          ∙ (λ j. answer_of (failing_in core (λ c. same c j) methods))) i;
    } in made))
