-- A field of a program whose name is that of a content is the content of a container.
use Rattle.std.proofs.Common.{◌≡◌, ℕ, Bool, true, false, cond, List, [], ◌∷◌, Some, map, filter, refl, sym, ◌∙◌}
use Rattle.std.proofs.Common.{All, Contains, codes, subst}
use Rattle.std.proofs.lemmas.Bool.{false≢true}
use Rattle.std.proofs.lemmas.List.{append_cancel_right}
use Rattle.std.proofs.lemmas.List.Elements.{All-append, All-cons, All-contains, All-contains_itself, All-head, All-nil}
use Rattle.std.proofs.lemmas.List.Elements.{All-tail}
use Rattle.container_cells.specs.declared.cell.Containers.{Containers}
use Rattle.container_cells.specs.declared.cell.Containers.TheVariants.{Opaque, WithCells}
use Rattle.racer_base.specs.declared.ids.FieldId.{FieldId}
use Rattle.racer_base.proofs.Tests.{bytes_same}
use Rattle.java_tree.specs.declared.unit.Unit.{Unit}
use Rattle.java_resolver.specs.declared.infos.FieldInfo.{FieldInfo}
use Rattle.java_resolver.specs.Declarations.{fields_of}
use Rattle.core_code.specs.Core.{Core}
use Rattle.core_code.specs.KindCheck.{field_at}
use Rattle.core_code.specs.Names.{content_name, same_text}
use Rattle.core_code.specs.declared.parts.FieldCore.{FieldCore}
use Rattle.core_code.proofs.FieldNames.{content-differs}
use Rattle.core_code.proofs.Members.{at_place}
use Rattle.core_lowering_rules.specs.Cells.{content_core, is_container}
use Rattle.core_lowering_rules.specs.Conditions.{are_named}
use Rattle.core_lowering_rules.specs.Contents.{IsContentOf}
use Rattle.core_lowering_rules.specs.Programs.{field_core, field_cores, IsLowered}
use Rattle.core_lowering_rules.proofs.DifferentFields.{IsNamed}
use Rattle.core_lowering_rules.proofs.FoundElements.{Each}
use Rattle.core_lowering_rules.proofs.ProgramNames.{fields-named}

-- an identifier is no name of a content
no-content : (f : FieldInfo) (name : List ℕ) → IsNamed f → f.name ≡ content_name name → ⊥
no-content f name named e =
    let same : same_text f.name (content_name name) ≡ true =
    subst (λ (text : List ℕ). same_text text (content_name name) ≡ true) (sym e) (bytes_same (content_name name)) in
    false≢true (sym (content-differs f.name name named) ∙ same)

module _ (fields : List FieldInfo) (name : List ℕ) where
  -- it is the content of a container of this name, if its name says so
  abbrev IsRight : FieldCore → Type 0
  IsRight field = field.name ≡ content_name name → IsContentOf fields name field

  declared-right : (fs : List FieldInfo) → Each IsNamed fs → All IsRight (map field_core fs)
  declared-right [] named = All-nil IsRight
  declared-right (f ∷ fs) named =
      All-cons IsRight (field_core f) (map field_core fs) (λ e. absurd (no-content f name named.0 e))
      (declared-right fs named.1)

  held-by : (f : FieldInfo) (rest : List FieldInfo) (b : Bool) → is_container f ≡ b → Contains fields f →
      All IsRight (map content_core rest) → All IsRight (map content_core (cond b (f ∷ rest) rest))
  held-by f rest true is there more =
      All-cons IsRight (content_core f) (map content_core rest)
      (λ e. record {
        info = f;
        declared = there;
        container = is;
        named = append_cancel_right f.name name (codes "[]") e;
        is = refl;
      }) more
  held-by f rest false is there more = more

  held-right : (fs : List FieldInfo) → All (Contains fields) fs →
      All IsRight (map content_core (filter is_container fs))
  held-right [] there = All-nil IsRight
  held-right (f ∷ fs) there =
      held-by f (filter is_container fs) (is_container f) refl (All-head (Contains fields) f fs there)
      (held-right fs (All-tail (Contains fields) f fs there))

  all-right : (containers : Containers) → Each IsNamed fields → All IsRight (field_cores containers fields)
  all-right Opaque named =
      All-append IsRight (map field_core fields) [] (declared-right fields named) (All-nil IsRight)
  all-right WithCells named =
      All-append IsRight (map field_core fields) (map content_core (filter is_container fields))
      (declared-right fields named) (held-right fields (All-contains_itself fields))

pub content-of-container : (containers : Containers) (files : List (List ℕ)) (units : List Unit) (core : Core)
    (f : FieldId) (field : FieldCore) (name : List ℕ) → are_named units ≡ true → IsLowered containers files units core →
    field_at core f ≡ Some field → field.name ≡ content_name name → IsContentOf (fields_of units) name field
content-of-container containers files units core f field name named lowered there e =
    let fields = fields_of units in
    All-contains (IsRight fields name) (field_cores containers fields) field
    (all-right fields name containers (fields-named units named))
    (at_place (field_cores containers fields) f.0 field
    (subst (λ (p : Core). field_at p f ≡ Some field) lowered.program there)) e
