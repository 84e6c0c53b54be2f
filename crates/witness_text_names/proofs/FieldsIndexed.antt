-- The index of fields has each field at its name and class, of two the first.
use Rattle.std.proofs.Common.{◌≡◌, ◌<◌, ◌≤◌, ℕ, ◌+◌, Bool, true, false, cond, ◌&&◌, List, ◌∷◌, Option, None, Some}
use Rattle.std.proofs.Common.{drop, get_or, length, nat_eq, refl, sym, ap, ◌∙◌}
use Rattle.std.proofs.lemmas.List.{at_drop_all, at_drop_more}
use Rattle.std.specs.BTreeMap.{get, get_by_text}
use Rattle.std.specs.Cmp.Lexicographic.{same_text}
use Rattle.std.specs.List.{enumerate_from, find}
use Rattle.std.specs.Option.{option_map, option_or}
use Rattle.std.specs.Ordering.{nat_cmp}
use Rattle.std.specs.Prelude.{bytes_eq}
use Rattle.racer_base.specs.declared.ids.ClassId.{ClassId}
use Rattle.racer_base.specs.declared.ids.FieldId.{FieldId}
use Rattle.racer_base.proofs.Lists.{option_or-none}
use Rattle.core_code.specs.declared.parts.FieldCore.{FieldCore}
use Rattle.witness_text_names.specs.Indexes.{AddsField, FieldIndex, FindsFields, Keyed, field_among, field_at, keyed_at}
use Rattle.witness_text_names.specs.Names.{is_field_named}
use Rattle.access_domain.proofs.NumberedKeys.{numbers_back}

-- the first of two, and then what is left
or_next : (o : Option FieldId) (b : Bool) (x : FieldId) (rest : Option FieldId) →
    option_or (option_or o (cond b (Some x) None)) rest ≡ option_or o (cond b (Some x) rest)
or_next None true x rest = refl
or_next None false x rest = refl
or_next (Some y) b x rest = refl

and_true : (b : Bool) → b ≡ (b && true)
and_true true = refl
and_true false = refl

and_false : (b : Bool) → false ≡ (b && false)
and_false true = refl
and_false false = refl

-- a field that goes to its name and class
pub field_added : (old new : FieldIndex) (field : FieldCore) (number : FieldId) (name : List ℕ) (keyed : Keyed) →
    name ≡ field.name →
    ((d : ℕ) → get nat_cmp keyed d ≡
    option_or (keyed_at d (get_by_text old name)) (cond (nat_eq field.class.0 d) (Some number) None)) →
    ((other : List ℕ) → get_by_text new other ≡ cond (bytes_eq name other) (Some keyed) (get_by_text old other)) →
    AddsField field number old new
field_added old new field number name keyed is adds puts c other =
    let had = field_at old c other in
    let here : Bool = nat_eq field.class.0 c.0 in
    elim (bytes_eq name other)
    as (λ b. bytes_eq name other ≡ b → get_by_text new other ≡ cond b (Some keyed) (get_by_text old other) →
    field_at new c other ≡ option_or had (cond (here && b) (Some number) None)) [
      | true ↦ λ e there.
          let same : name ≡ other = same_text name other (sym e) in
          ap (keyed_at c.0) there ∙ adds c.0
          ∙ ap (λ text. option_or (field_at old c text) (cond here (Some number) None)) same
          ∙ ap (λ b. option_or had (cond b (Some number) None)) (and_true here)
      | false ↦ λ e there.
          ap (keyed_at c.0) there ∙ sym (option_or-none had)
          ∙ ap (λ b. option_or had (cond b (Some number) None)) (and_false here)
    ] refl (puts other)
    ∙ ap (λ b. option_or had (cond (b && bytes_eq name other) (Some number) None)) (numbers_back field.class.0 c.0)
    ∙ ap (λ text. option_or had (cond (nat_eq c.0 field.class.0 && bytes_eq text other) (Some number) None)) is

-- what was found so far, and then what is left, finds what all do
abbrev pub FieldsLeft : FieldIndex → ℕ → List FieldCore → Type 0
FieldsLeft index i fields =
    (c : ClassId) (name : List ℕ) →
    option_or (field_at index c name) (field_among i (drop i fields) c name) ≡ field_among 0 fields c name

pub fields_start : (index : FieldIndex) (fields : List FieldCore) →
    ((c : ClassId) (name : List ℕ) → field_at index c name ≡ None) → FieldsLeft index 0 fields
fields_start index fields none c name = ap (λ o. option_or o (field_among 0 fields c name)) (none c name)

abbrev numbered : ℕ × FieldCore → FieldId
numbered e = record { 0 = e.0 }

among_first : (i : ℕ) (x : FieldCore) (xs : List FieldCore) (c : ClassId) (name : List ℕ) →
    field_among i (x ∷ xs) c name ≡
    cond (is_field_named c name x) (Some (record { 0 = i })) (field_among (i + 1) xs c name)
among_first i x xs c name =
    let test : ℕ × FieldCore → Bool = λ e. is_field_named c name e.1 in
    elim (is_field_named c name x)
    as (λ b. option_map numbered (cond b (Some (i, x)) (find test (enumerate_from (i + 1) xs))) ≡
    cond b (Some (record { 0 = i })) (field_among (i + 1) xs c name)) [
      | true ↦ refl
      | false ↦ refl
    ]

pub fields_next : (old new : FieldIndex) (fields : List FieldCore) (i : ℕ) (x : FieldCore) (number : FieldId) →
    i < length fields → x ≡ get_or fields i x → number.0 ≡ i → AddsField x number old new →
    FieldsLeft old i fields → FieldsLeft new (i + 1) fields
fields_next old new fields i x number within is counts adds left c name =
    let rest = field_among (i + 1) (drop (i + 1) fields) c name in
    let named : Bool = is_field_named c name x in
    ap (λ o. option_or o rest) (adds c name)
    ∙ or_next (field_at old c name) named number rest
    ∙ ap (λ (n : ℕ). let f : FieldId = record { 0 = n } in option_or (field_at old c name) (cond named (Some f) rest))
    counts
    ∙ ap (option_or (field_at old c name)) (sym (among_first i x (drop (i + 1) fields) c name))
    ∙ ap (λ (y : FieldCore). option_or (field_at old c name) (field_among i (y ∷ drop (i + 1) fields) c name)) is
    ∙ ap (option_or (field_at old c name)) (sym (at_drop_more (λ ys. field_among i ys c name) fields i x within))
    ∙ left c name

pub fields_end : (index : FieldIndex) (fields : List FieldCore) (i : ℕ) → length fields ≤ i →
    FieldsLeft index i fields → FindsFields fields index
fields_end index fields i past left c name =
    sym (option_or-none (field_at index c name))
    ∙ ap (option_or (field_at index c name)) (sym (at_drop_all (λ ys. field_among i ys c name) fields i past))
    ∙ left c name
