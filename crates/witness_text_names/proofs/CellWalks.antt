-- The fields that names lead along, and the last of them, are those of the cell that they are.
use Rattle.std.proofs.Common.{◌≡◌, ℕ, Bool, true, false, cond, List, [], ◌∷◌, Option, None, Some, refl, sym}
use Rattle.std.proofs.Common.{ap, ◌∙◌}
use Rattle.std.specs.Option.{option_and_then, option_map}
use Rattle.racer_base.specs.declared.ids.FieldId.{FieldId}
use Rattle.core_code.specs.declared.parts.FieldCore.{FieldCore}
use Rattle.core_code.specs.Core.{Core, Method}
use Rattle.core_code.specs.KindCheck as kinds
use Rattle.core_semantics.specs.declared.object.StartPath.{StartPath}
use Rattle.core_semantics.specs.declared.object.StartRoot.{StartRoot}
use Rattle.core_semantics.specs.declared.object.StartRoot.TheVariants.{This, Class, Param}
use Rattle.core_semantics_kinds.specs.Reached.{Reached, Roots, has_cell, is_cell, reached_from, roots_of}
use Rattle.witness_text_names.specs.declared.cells.Cell.{Cell}
use Rattle.witness_text_names.specs.declared.walk.Ends.TheVariants.{AtCell}
use Rattle.witness_text_names.specs.Indexes.{ended, is_field_at, step_on}
use Rattle.witness_text_names.specs.Names.{field_named, names_in, root_named}
use Rattle.witness_text_names.specs.Objects.{cell_along, cell_from, cell_named, cell_of, is_shared, last_field}
use Rattle.witness_text_names.specs.Objects.{short_cell}
use Rattle.witness_text_names.proofs.Walks.{AreAlike, Ended, at, mapped_behind, one_step}

module _ (core : Core) (roots : Roots) (root : StartRoot) where
  abbrev pub cell_end : Ended → StartPath × FieldId
  cell_end e = (at core roots root e.0, e.1)

  -- whether a field is a cell of what a path reaches
  abbrev is_cell_of : FieldId → Option Reached → Bool
  is_cell_of f o =
      elim (option_and_then (λ r. option_map (λ (field : FieldCore). has_cell field r) (kinds.field_at core f)) o) [
        | None ↦ false
        | Some is ↦ is
      ]

  by_test : (fields : List FieldId) (f : FieldId) (b : Bool) →
      cond b (Some (at core roots root fields, f)) None
      ≡ option_map cell_end (option_map (λ (x : FieldId). (fields, x)) (cond b (Some f) None))
  by_test fields f true = refl
  by_test fields f false = refl

  last_by : (fields : List FieldId) (r : Reached) (o : Option FieldId) →
      reached_from core roots (at core roots root fields) ≡ Some r →
      option_and_then (λ f. cond (is_cell core roots (at core roots root fields) f)
      (Some (at core roots root fields, f)) None) o
      ≡ option_map cell_end (option_map (λ (x : FieldId). (fields, x))
      (option_and_then (λ f. cond (is_field_at core r f) (Some f) None) o))
  last_by fields r None is = refl
  last_by fields r (Some f) is =
      ap (λ (o : Option Reached). cond (is_cell_of f o) (Some (at core roots root fields, f)) None) is
      ∙ by_test fields f (is_field_at core r f)

  last_cell : (name : List ℕ) (fields : List FieldId) (r : Reached) →
      reached_from core roots (at core roots root fields) ≡ Some r →
      last_field core roots name (at core roots root fields)
      ≡ option_map cell_end (ended core AtCell (name ∷ []) (fields, r))
  last_cell name fields r is =
      ap (λ (o : Option Reached). option_and_then (λ f. cond (is_cell core roots (at core roots root fields) f)
      (Some (at core roots root fields, f)) None) (option_and_then (field_named core name) o)) is
      ∙ last_by fields r (field_named core name r) is

  -- names that lead from what was reached to a cell
  pub cells_lead : (names : List (List ℕ)) →
      AreAlike core roots root (cell_along core roots names) (λ w. option_map cell_end (ended core AtCell names w))
  cells_lead [] fields r is = refl
  cells_lead (name ∷ []) fields r is = last_cell name fields r is
  cells_lead (name ∷ next ∷ names) fields r is =
      one_step core roots root (cell_along core roots (next ∷ names))
      (λ w. option_map cell_end (ended core AtCell (next ∷ names) w)) name fields r is (cells_lead (next ∷ names))
      ∙ mapped_behind core roots root cell_end (ended core AtCell (next ∷ names)) (step_on core name (fields, r))

-- ---- texts

abbrev cell_by : Core → Method → Method → List (List ℕ) → Option StartRoot → Option Cell
cell_by core f g names o = option_and_then short_cell (option_and_then (cell_from core f g names) o)

-- where both threads have the root, the text is what its other names lead along
pub cell_walked : (core : Core) (f g : Method) (text name : List ℕ) (names : List (List ℕ)) (r : StartRoot)
    (from : Reached) (found : Option Ended) → names_in text ≡ name ∷ names →
    Some r ≡ root_named core f g name → true ≡ is_shared r → Some from ≡ roots_of f g r →
    found ≡ ended core AtCell names ([], from) →
    option_and_then short_cell (option_map (cell_end core (roots_of f g) r) found) ≡ cell_named core f g text
cell_walked core f g text name names r from found cut is shared leads_to walks =
    ap (λ (o : Option Ended). option_and_then short_cell (option_map (cell_end core (roots_of f g) r) o)) walks
    ∙ sym (ap (option_and_then short_cell) (cells_lead core (roots_of f g) r names [] from (sym leads_to)))
    ∙ ap (λ (b : Bool). option_and_then short_cell
    (cond b (cell_along core (roots_of f g) names (at core (roots_of f g) r [])) None)) shared
    ∙ ap (cell_by core f g names) is
    ∙ sym (ap (λ (ns : List (List ℕ)). cell_of core f g ns) cut)

-- a text without a dot
pub no_names : (core : Core) (f g : Method) (text : List ℕ) → names_in text ≡ text ∷ [] →
    None ≡ cell_named core f g text
no_names core f g text cut =
    by (root_named core f g text) ∙ sym (ap (λ (ns : List (List ℕ)). cell_of core f g ns) cut)
  where
    by_root : (r : StartRoot) (b : Bool) →
        None ≡ option_and_then short_cell
        (cond b (cell_along core (roots_of f g) [] (at core (roots_of f g) r [])) None)
    by_root r true = refl
    by_root r false = refl

    by : (o : Option StartRoot) → None ≡ option_and_then short_cell (option_and_then (cell_from core f g []) o)
    by None = refl
    by (Some r) = by_root r (is_shared r)

-- a text whose root is none
pub no_root : (core : Core) (f g : Method) (text name : List ℕ) (names : List (List ℕ)) → names_in text ≡ name ∷ names →
    None ≡ root_named core f g name → None ≡ cell_named core f g text
no_root core f g text name names cut is =
    ap (cell_by core f g names) is ∙ sym (ap (λ (ns : List (List ℕ)). cell_of core f g ns) cut)

-- or is that of one thread alone
pub own_root : (core : Core) (f g : Method) (text name : List ℕ) (names : List (List ℕ)) (r : StartRoot) →
    names_in text ≡ name ∷ names → Some r ≡ root_named core f g name → false ≡ is_shared r →
    None ≡ cell_named core f g text
own_root core f g text name names r cut is own =
    ap (λ (b : Bool). option_and_then short_cell
    (cond b (cell_along core (roots_of f g) names (at core (roots_of f g) r [])) None)) own
    ∙ ap (cell_by core f g names) is ∙ sym (ap (λ (ns : List (List ℕ)). cell_of core f g ns) cut)

-- a root that both threads have leads somewhere
pub shared_leads : (f g : Method) (r : StartRoot) → true ≡ is_shared r → None ≡ roots_of f g r → ⊥
shared_leads f g This shared none = absurd cc
shared_leads f g (Class c) shared none = absurd cc
shared_leads f g (Param t i) shared none = absurd cc
