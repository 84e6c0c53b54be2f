-- A contract of a public call rests on this: which classes are typed, and where the others fail first.
use Rattle.std.specs.Prelude.{ℕ, zero, suc, Bool, true, false, ◌&&◌, not, List, [], ◌∷◌, Option, None, Some, map}
use Rattle.std.specs.Prelude.{filter, length, nat_eq, if◌then◌else◌}
use Rattle.std.specs.List.{enumerate_from, flat_map, list_any}
use Rattle.racer_base.specs.declared.ids.ClassId.{ClassId}
use Rattle.racer_base.specs.declared.ids.MethodId.{MethodId}
use Rattle.racer_base.specs.declared.ids.Kind.{Kind}
use Rattle.racer_base.specs.declared.ids.Kind.TheVariants as types
use Rattle.racer_base.specs.declared.ids.Place.{Place}
use Rattle.core_code.specs.declared.code.Op.{Op as CoreOp}
use Rattle.core_code.specs.declared.code.Op.TheVariants.{Get}
use Rattle.core_code.specs.declared.parts.FieldCore.{FieldCore}
use Rattle.core_code.specs.declared.parts.ClassCore.{ClassCore}
use Rattle.core_code.specs.Tree.{Tree, Operation, steps_of}
use Rattle.core_code.specs.Core.{Core, Method}
use Rattle.core_code.specs.Calls.{calls_of}
use Rattle.core_code.specs.Kinds.{same_class}
use Rattle.core_code.specs.KindCheck.{field_at}
use Rattle.typed_core.specs.declared.doubts.Doubt.{Doubt}
use Rattle.typed_core.specs.declared.doubts.Doubt.TheVariants.{Always, IfRead}
use Rattle.typed_core.specs.declared.answers.Answer.{Answer}
use Rattle.typed_core.specs.declared.answers.Answer.TheVariants.{Typed, Untyped}
use Rattle.typed_core.specs.declared.answers.Typing.{Typing}
use Rattle.typed_core.specs.Check.{doubts_of}

-- ---- methods that are reached

abbrev pub is_entry_of : ClassId → Method → Bool
is_entry_of c method = method.entry && same_class method.class c

-- the methods that at most so many calls in a row lead to from this one, itself among them
abbrev pub called_within : ℕ → Core → MethodId → List MethodId
called_within zero core m = m ∷ []
called_within (suc n) core m = m ∷ flat_map (called_within n core) (calls_of core m)

-- the methods that calls lead to from one: no chain of calls has more methods than there are
abbrev pub called_from : Core → MethodId → List MethodId
called_from core m = called_within (length core.methods) core m

-- the methods that calls lead to from the entries of a class
abbrev pub from_entry : Core → ClassId → ℕ × Method → List MethodId
from_entry core c e = if is_entry_of c e.1 then called_from core (record { 0 = e.0 }) else []

abbrev pub from_entries : Core → ClassId → List MethodId
from_entries core c = flat_map (from_entry core c) (enumerate_from 0 core.methods)

abbrev pub is_among : List MethodId → ℕ → Bool
is_among methods m = list_any (λ (n : MethodId). nat_eq n.0 m) methods

-- the methods reached from the entries of a class, in order
abbrev pub reached_from : Core → ClassId → List Method
reached_from core c =
    map (λ (e : ℕ × Method). e.1)
    (filter (λ (e : ℕ × Method). is_among (from_entries core c) e.0) (enumerate_from 0 core.methods))

-- ---- what fails in them

abbrev pub is_plain : Kind → Bool
is_plain types.Plain = true
is_plain (types.Declared c) = false
is_plain types.Other = false

-- whether a field of class c is one that every object has for itself, and that is not of a primitive type
abbrev pub is_null_at_first : ClassId → Option FieldCore → Bool
is_null_at_first c None = false
is_null_at_first c (Some field) = same_class field.class c && not field.is_static && not (is_plain field.kind)

abbrev pub reads_field_of : Core → ClassId → CoreOp → Bool
reads_field_of core c (Get f) = is_null_at_first c (field_at core f)
reads_field_of core c _ = false

-- whether code, and whether one of these methods, reads such a field of class c
abbrev pub is_read_by : Core → Tree → ClassId → Bool
is_read_by core code c = list_any (λ (o : Operation). reads_field_of core c o.op) (steps_of code)

abbrev pub is_read_in : Core → List Method → ClassId → Bool
is_read_in core methods c = list_any (λ (m : Method). is_read_by core m.code c) methods

-- the place of what fails where fields of these classes are read
abbrev pub place_failing : (ClassId → Bool) → Doubt → List Place
place_failing is_read (Always place) = place ∷ []
place_failing is_read (IfRead c place) = if is_read c then place ∷ [] else []

-- the places that fail in these methods, where these are all methods reached
abbrev pub places_failing : Core → List Method → List Place
places_failing core methods =
    flat_map (λ (m : Method). flat_map (place_failing (is_read_in core methods)) (doubts_of core m)) methods

-- ---- the answers

-- typed where nothing fails, and else the first place
abbrev pub answer_of : List Place → Answer
answer_of [] = Typed
answer_of (place ∷ later) = Untyped place

abbrev pub typing_of : Core → ClassId → Typing
typing_of core c = record { class = c; answer = answer_of (places_failing core (reached_from core c)) }

abbrev pub has_entry : Core → ClassId → Bool
has_entry core c = list_any (is_entry_of c) core.methods

-- the typing of a class, with its number, where it has an entry
abbrev pub class_typings : Core → ℕ × ClassCore → List Typing
class_typings core e =
    let c : ClassId = record { 0 = e.0 } in
    if has_entry core c then typing_of core c ∷ [] else []

abbrev pub typings : Core → List Typing
typings core = flat_map (class_typings core) (enumerate_from 0 core.classes)
