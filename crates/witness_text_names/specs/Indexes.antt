-- A contract of a public call rests on this: `entry_named`. What the indexes of roots and of fields find, and how far a
-- text leads.
use Rattle.std.specs.Prelude.{◌≡◌, ℕ, Bool, false, List, [], ◌∷◌, ◌++◌, Option, None, Some, find, option_and_then}
use Rattle.std.specs.Prelude.{String, if◌then◌else◌, nat_eq, option_map}
use Rattle.std.specs.BTreeMap.{BTreeMap, get, get_by_text}
use Rattle.std.specs.Global.{Global}
use Rattle.std.specs.List.{enumerate_from}
use Rattle.std.specs.Option.{option_or}
use Rattle.std.specs.Ordering.{nat_cmp}
use Rattle.racer_base.specs.declared.ids.ClassId.{ClassId}
use Rattle.racer_base.specs.declared.ids.FieldId.{FieldId}
use Rattle.core_code.specs.declared.parts.FieldCore.{FieldCore}
use Rattle.core_code.specs.Core.{Core, method_of}
use Rattle.core_code.specs.KindCheck as kinds
use Rattle.core_code.specs.Names.{same_text}
use Rattle.core_semantics.specs.declared.object.StartRoot.{StartRoot}
use Rattle.race_report_parts.specs.Marks.{start_root_text}
use Rattle.core_semantics_kinds.specs.Reached as right
use Rattle.core_semantics_kinds.specs.Reached.{behind, has_cell}
use Rattle.witness_text_names.specs.declared.entries.Entry.{Entry}
use Rattle.witness_text_names.specs.declared.reached.Reached.{Reached}
use Rattle.witness_text_names.specs.declared.reached.Reached.TheVariants as code
use Rattle.witness_text_names.specs.declared.walk.Ends.{Ends}
use Rattle.witness_text_names.specs.declared.walk.Ends.TheVariants.{AtObject, AtCell}
use Rattle.witness_text_names.specs.Names.{NumberedMethod, field_named, is_field_named}

-- what is seen of an entry, and of what a start path leads to
abbrev pub found_by : Entry → NumberedMethod
found_by e = (e.number.0, method_of e.method.now)

abbrev pub reached_of : Reached → right.Reached
reached_of (code.ObjectOf c) = right.ObjectOf c
reached_of (code.TheClass c) = right.TheClass c

-- ---- roots by their texts

abbrev pub RootIndex : Type 0
RootIndex = BTreeMap (String Global) StartRoot

abbrev pub root_at : RootIndex → List ℕ → Option StartRoot
root_at roots text = get_by_text roots text

abbrev pub has_text : Core → List ℕ → StartRoot → Bool
has_text core text r = same_text (start_root_text core r) text

-- each of these roots went to its text, where none was
abbrev pub AddsRoots : Core → List StartRoot → RootIndex → RootIndex → Type 0
AddsRoots core rs old new =
    (text : List ℕ) → root_at new text ≡ option_or (root_at old text) (find (has_text core text) rs)

abbrev pub FindsRoots : Core → List StartRoot → RootIndex → Type 0
FindsRoots core rs roots = (text : List ℕ) → root_at roots text ≡ find (has_text core text) rs

-- ---- fields by their names and the numbers of their classes

abbrev pub Keyed : Type 0
Keyed = BTreeMap ℕ FieldId

abbrev pub FieldIndex : Type 0
FieldIndex = BTreeMap (String Global) Keyed

abbrev pub keyed_at : ℕ → Option Keyed → Option FieldId
keyed_at c found = option_and_then (λ (keyed : Keyed). get nat_cmp keyed c) found

-- a field went to the number of its class, where none was
abbrev pub AddsKeyed : ℕ → FieldId → Keyed → Keyed → Type 0
AddsKeyed c number old new =
    (d : ℕ) → get nat_cmp new d ≡ option_or (get nat_cmp old d) (if nat_eq c d then Some number else None)

abbrev pub field_at : FieldIndex → ClassId → List ℕ → Option FieldId
field_at fields c name = keyed_at c.0 (get_by_text fields name)

-- the first of these fields that has this class and name, the first of all of them having this number
abbrev pub field_among : ℕ → List FieldCore → ClassId → List ℕ → Option FieldId
field_among n fields c name =
    option_map (λ (e : ℕ × FieldCore). record { 0 = e.0 })
    (find (λ e. is_field_named c name e.1) (enumerate_from n fields))

-- a field went to its name and class, where none was
abbrev pub AddsField : FieldCore → FieldId → FieldIndex → FieldIndex → Type 0
AddsField field number old new =
    (c : ClassId) (name : List ℕ) →
    field_at new c name ≡ option_or (field_at old c name) (if is_field_named c name field then Some number else None)

abbrev pub FindsFields : List FieldCore → FieldIndex → Type 0
FindsFields fields index = (c : ClassId) (name : List ℕ) → field_at index c name ≡ field_among 0 fields c name

-- ---- along a text

-- whether a field is one of what was reached
abbrev pub is_field_at : Core → right.Reached → FieldId → Bool
is_field_at core r f =
    elim (option_map (λ (field : FieldCore). has_cell field r) (kinds.field_at core f)) [ None ↦ false | Some is ↦ is ]

-- the field of a name behind what was reached, with what it leads to
abbrev pub next_named : Core → List ℕ → right.Reached → Option (FieldId × right.Reached)
next_named core name r =
    option_and_then (λ f. option_map (λ next. (f, next)) (behind core (Some r) f)) (field_named core name r)

-- the same of a field that need not lead on
abbrev pub cell_field : Core → List ℕ → right.Reached → Option FieldId
cell_field core name r =
    option_and_then (λ f. if is_field_at core r f then Some f else None) (field_named core name r)

-- fields so far, and what they lead to
abbrev pub Walk : Type 0
Walk = List FieldId × right.Reached

abbrev pub step_on : Core → List ℕ → Walk → Option Walk
step_on core name at =
    option_map (λ (next : FieldId × right.Reached). (at.0 ++ next.0 ∷ [], next.1)) (next_named core name at.1)

abbrev pub walked : Core → List (List ℕ) → Walk → Option Walk
walked core [] at = Some at
walked core (name ∷ names) at = option_and_then (walked core names) (step_on core name at)

abbrev pub fields_walked : Option Walk → Option (List FieldId)
fields_walked walk = option_map (λ (at : Walk). at.0) walk

-- the field of this name that ends a text: it leads on, or is only a field of what was reached
abbrev pub last_named : Core → Ends → List ℕ → right.Reached → Option FieldId
last_named core AtObject name r = option_map (λ (next : FieldId × right.Reached). next.0) (next_named core name r)
last_named core AtCell name r = cell_field core name r

-- the fields of all names but the last, and that of the last, where each leads on and the last ends so
abbrev pub ended : Core → Ends → List (List ℕ) → Walk → Option (List FieldId × FieldId)
ended core ends [] at = None
ended core ends (name ∷ []) at = option_map (λ f. (at.0, f)) (last_named core ends name at.1)
ended core ends (name ∷ next ∷ names) at =
    option_and_then (ended core ends (next ∷ names)) (step_on core name at)
