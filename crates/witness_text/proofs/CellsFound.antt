-- The cell of a path is found by the path's text.
use Rattle.std.proofs.Common.{◌≡◌, ◌<◌, ◌≤◌, ◌^◌, ◌+◌, arith, ℕ, Bool, true, false, cond, not, List, [], ◌∷◌, ◌++◌}
use Rattle.std.proofs.Common.{Option, None, Some, is_some, length, map, refl, sym, ap, subst, ◌∙◌}
use Rattle.std.proofs.Common.{append_assoc, append-nil, fold}
use Rattle.std.proofs.lemmas.Bool.{lt-ltb, and_parts}
use Rattle.std.proofs.lemmas.List.Sums.{fold_push}
use Rattle.std.specs.Option.{option_and_then, option_map}
use Rattle.racer_base.specs.declared.ids.ClassId.{ClassId}
use Rattle.racer_base.specs.declared.ids.FieldId.{FieldId}
use Rattle.racer_base.specs.declared.limits.TheConstants.{MAX_PATH_FIELDS}
use Rattle.core_code.specs.declared.parts.FieldCore.{FieldCore}
use Rattle.core_code.specs.declared.program.Program.{Program}
use Rattle.core_code.specs.Core.{Core, Method}
use Rattle.core_code.specs.Kinds.{same_class}
use Rattle.core_code.specs.KindCheck.{field_at}
use Rattle.core_code.specs.Facts.{is_class}
use Rattle.core_code.specs.Program.{core as core_of}
use Rattle.core_code.proofs.Membership.{In}
use Rattle.access_paths.specs.declared.path.Path.{Path}
use Rattle.access_paths.specs.declared.path.Root.{Root}
use Rattle.access_paths.specs.declared.path.Root.TheVariants.{This, Class, Formal, Some as SomeOf}
use Rattle.access_paths.specs.Paths.{front_of, last_of}
use Rattle.access_paths.specs.Text.{fields_text, root_text}
use Rattle.core_semantics.specs.declared.object.Object.TheVariants.{Start as StartOf}
use Rattle.core_semantics.specs.declared.object.StartPath.{StartPath}
use Rattle.core_semantics.specs.declared.object.StartRoot.{StartRoot}
use Rattle.core_semantics.specs.declared.object.StartRoot.TheVariants.{Class as StartClass}
use Rattle.core_semantics.specs.Objects.{lengthened, root_path}
use Rattle.core_semantics_kinds.specs.Reached.{ObjectOf, Reached, Roots, TheClass, behind, has_cell, is_cell}
use Rattle.core_semantics_kinds.specs.Reached.{reached_from, roots_of}
use Rattle.core_ways.specs.Stable.{is_lasting_root}
use Rattle.core_ways_laws.specs.Meets.{base_path}
use Rattle.core_ways_laws.specs.Quiet.{start_path, start_root}
use Rattle.race_report_parts.specs.Marks.{start_root_text}
use Rattle.race_report_parts.specs.Texts.{class_names, field_names, path_text}
use Rattle.witness_text_names.specs.declared.cells.Cell.{Cell}
use Rattle.witness_text_names.specs.Names.{all_roots, class_in, field_named, names_in}
use Rattle.witness_text_names.specs.Objects.{cell_along, cell_from, cell_named, cell_of, is_shared, last_field}
use Rattle.witness_text_names.specs.Objects.{short_cell}
use Rattle.witness_text.proofs.Assembled.{AreThere, class-root-there, dotless, field-class, lead-there, names-same}
use Rattle.witness_text.proofs.Assembled.{root-dotless}
use Rattle.witness_text.proofs.NamedFields.{LeadAll, all-lead, name-of, name_from, named-field, one-more}
use Rattle.witness_text.proofs.NamesInTexts.{names-in}
use Rattle.witness_text.proofs.RootsFound.{all-are, root-found, root-there}

-- the cell of a path with this last field
abbrev pub cell_at : Path → FieldId → Cell
cell_at p x = record { object = StartOf (start_path (base_path p)); field = x }

-- ---- fields, and the last of them

front-short : (fs : List FieldId) (x : FieldId) → last_of fs ≡ Some x → length (front_of fs) + 1 ≡ length fs
front-short [] x is = absurd cc
front-short (f ∷ []) x is = refl
front-short (f ∷ g ∷ fs) x is =
    let rest : length (front_of (g ∷ fs)) + 1 ≡ length (g ∷ fs) = front-short (g ∷ fs) x is in omega (arith, rest)

-- a field of what was reached
pub record HasCell (core : Core) (o : Option Reached) (x : FieldId) : Type 0 where
  pub from : Reached
  pub is : o ≡ Some from
  pub field : FieldCore
  pub there : field_at core x ≡ Some field
  pub has : has_cell field from ≡ true

abbrev is_cell_of : Core → FieldId → Option Reached → Bool
is_cell_of core x o =
    elim (option_and_then (λ r. option_map (λ (field : FieldCore). has_cell field r) (field_at core x)) o)
    as (λ _. Bool) [
      | None ↦ false
      | Some is ↦ is
    ]

cell-parts : (core : Core) (o : Option Reached) (x : FieldId) → is_cell_of core x o ≡ true → HasCell core o x
cell-parts core None x h = absurd cc
cell-parts core (Some r) x h = by (field_at core x) refl h
  where
    by : (o : Option FieldCore) → field_at core x ≡ o →
        (elim (option_map (λ (field : FieldCore). has_cell field r) o) as (λ _. Bool) [
          | None ↦ false
          | Some is ↦ is
        ]) ≡ true → HasCell core (Some r) x
    by None e g = absurd cc
    by (Some field) e g = record { from = r; is = refl; field = field; there = e; has = g }

has-class : (field : FieldCore) (r : Reached) → has_cell field r ≡ true → same_class (class_in r) field.class ≡ true
has-class field (ObjectOf c) h = (and_parts (same_class c field.class) (not field.is_static) h).0
has-class field (TheClass c) h = (and_parts (same_class c field.class) field.is_static h).0

abbrev IsThere : Core → FieldId → Type 0
IsThere core x = (field : FieldCore) × (field_at core x ≡ Some field)

there-all : (core : Core) (fs : List FieldId) (x : FieldId) → last_of fs ≡ Some x → AreThere core (front_of fs) →
    IsThere core x → AreThere core fs
there-all core [] x is front last = absurd cc
there-all core (f ∷ []) x is front last =
    let same : f ≡ x = cc in
    (subst (IsThere core) (sym same) last, tt)
there-all core (f ∷ g ∷ fs) x is front last = (front.0, there-all core (g ∷ fs) x is front.1 last)

module _ (p : Program) (roots : Roots) where
  abbrev behind_of : StartPath → List FieldId → StartPath
  behind_of q fs = record { root = q.root; fields = q.fields ++ front_of fs }

  abbrev kept : StartPath → FieldId → Option (StartPath × FieldId)
  kept q y = cond (is_cell (core_of p) roots q y) (Some (q, y)) None

  last-found : (q : StartPath) (x : FieldId) → is_cell (core_of p) roots q x ≡ true →
      last_field (core_of p) roots (name_from p roots x) q ≡ Some (q, x)
  last-found q x is =
      let core : Core = core_of p in
      let h : HasCell core (reached_from core roots q) x = cell-parts core (reached_from core roots q) x is in
      let named : name_from p roots x ≡ h.field.name = ap name-of h.there in
      let found : field_named core (name_from p roots x) h.from ≡ Some x =
      ap (λ (t : List ℕ). field_named core t h.from) named
      ∙ named-field core h.from x h.field p.fields_differ h.there (has-class h.field h.from h.has) in
      ap (λ (o : Option Reached). option_and_then (kept q)
      (option_and_then (field_named core (name_from p roots x)) o)) h.is
      ∙ ap (option_and_then (kept q)) found
      ∙ ap (λ (b : Bool). cond b (Some (q, x)) None) is

  -- the names of the fields of a path lead along them to its cell
  along-cell : (fs : List FieldId) (q : StartPath) (x : FieldId) → last_of fs ≡ Some x →
      LeadAll p roots (reached_from (core_of p) roots q) (front_of fs) →
      is_cell (core_of p) roots (behind_of q fs) x ≡ true →
      cell_along (core_of p) roots (map (name_from p roots) fs) q ≡ Some (behind_of q fs, x)
  along-cell [] q x last lead cell = absurd cc
  along-cell (f ∷ []) q x last lead cell =
      let same : f ≡ x = cc in
      let here : behind_of q (f ∷ []) ≡ q =
      ap (λ (gs : List FieldId). let r : StartPath = record { root = q.root; fields = gs } in r)
      (append-nil q.fields) in
      let test : is_cell (core_of p) roots q x ≡ true =
      subst (λ (r : StartPath). is_cell (core_of p) roots r x ≡ true) here cell in
      ap (λ (g : FieldId). last_field (core_of p) roots (name_from p roots g) q) same
      ∙ last-found q x test ∙ ap (λ (r : StartPath). Some (r, x)) (sym here)
  along-cell (f ∷ g ∷ fs) q x last lead cell =
      let longer :
      reached_from (core_of p) roots (lengthened q f) ≡ behind (core_of p) (reached_from (core_of p) roots q) f =
      fold_push (behind (core_of p)) (roots q.root) q.fields f in
      let after : behind_of (lengthened q f) (g ∷ fs) ≡ behind_of q (f ∷ g ∷ fs) =
      ap (λ (gs : List FieldId). let r : StartPath = record { root = q.root; fields = gs } in r)
      (append_assoc q.fields (f ∷ []) (front_of (g ∷ fs))) in
      ap (option_and_then (cell_along (core_of p) roots (map (name_from p roots) (g ∷ fs))))
      (one-more p roots q f lead.0)
      ∙ along-cell (g ∷ fs) (lengthened q f) x last
      (subst (λ (r : Option Reached). LeadAll p roots r (front_of (g ∷ fs))) (sym longer) lead.1)
      (subst (λ (r : StartPath). is_cell (core_of p) roots r x ≡ true) (sym after) cell)
      ∙ ap (λ (r : StartPath). Some (r, x)) after

-- ---- roots that both threads have

root-told : (core : Core) (root : Root) → is_lasting_root root ≡ true →
    root_text (class_names core) root ≡ start_root_text core (start_root root)
root-told core This h = refl
root-told core (Class c) h = refl
root-told core (Formal i) h = absurd cc
root-told core (SomeOf c) h = absurd cc

root-shared : (root : Root) → is_lasting_root root ≡ true → is_shared (start_root root) ≡ true
root-shared This h = refl
root-shared (Class c) h = refl
root-shared (Formal i) h = absurd cc
root-shared (SomeOf c) h = absurd cc

root-leads : (f g : Method) (root : Root) → is_lasting_root root ≡ true →
    is_some (roots_of f g (start_root root)) ≡ true
root-leads f g This h = refl
root-leads f g (Class c) h = refl
root-leads f g (Formal i) h = absurd cc
root-leads f g (SomeOf c) h = absurd cc

-- ---- paths

module _ (p : Program) (f g : Method) (few_f : length f.parameters < 2 ^ 64) (few_g : length g.parameters < 2 ^ 64)
  where
    -- a class with a field behind it is one that there is
    class-there : (c : ClassId) (xs : List FieldId) (x : FieldId) →
        LeadAll p (roots_of f g) (Some (TheClass c)) xs →
        HasCell (core_of p) (fold (behind (core_of p)) (Some (TheClass c)) xs) x → is_class (core_of p) c ≡ true
    class-there c [] x lead h =
        let from : TheClass c ≡ h.from = let e : Some (TheClass c) ≡ Some h.from = h.is in cc in
        field-class p f g few_f few_g c x h.field h.there
        (has-class h.field (TheClass c) (subst (λ (r : Reached). has_cell h.field r ≡ true) (sym from) h.has))
    class-there c (y ∷ ys) x lead h = class-root-there p f g few_f few_g c y ys lead

    pub cell-found : (path : Path) (x : FieldId) → length path.fields ≤ MAX_PATH_FIELDS → last_of path.fields ≡ Some x →
        is_lasting_root path.root ≡ true →
        is_cell (core_of p) (roots_of f g) (start_path (base_path path)) x ≡ true →
        cell_named (core_of p) f g (path_text (core_of p) path) ≡ Some (cell_at path x)
    cell-found path x limit last lasts cell =
        let core : Core = core_of p in
        let roots : Roots = roots_of f g in
        let r : StartRoot = start_root path.root in
        let parts : HasCell core (reached_from core roots (start_path (base_path path))) x =
        cell-parts core (reached_from core roots (start_path (base_path path))) x cell in
        let lead : LeadAll p roots (roots r) (front_of path.fields) =
        all-lead p roots (roots r) (front_of path.fields) (ap is_some parts.is) in
        let there : AreThere core path.fields =
        there-all core path.fields x last (lead-there p roots (roots r) (front_of path.fields) lead)
        (parts.field, parts.there) in
        let stands : In (all_roots core f g) r =
        root-there p f g few_f few_g r
        (λ c e. class-there c (front_of path.fields) x
        (subst (λ (s : StartRoot). LeadAll p roots (roots s) (front_of path.fields)) e lead)
        (subst (λ (s : StartRoot). HasCell core (fold (behind core) (roots s) (front_of path.fields)) x) e parts))
        (root-leads f g path.root lasts) in
        let names : names_in (path_text core path) ≡ start_root_text core r ∷ map (name_from p roots) path.fields =
        ap (λ (t : List ℕ). names_in (t ++ fields_text (field_names core) path.fields)) (root-told core path.root lasts)
        ∙ names-in (field_names core) (start_root_text core r) path.fields
        (root-dotless p f g few_f few_g r (all-are p f g few_f few_g r stands)) (dotless p roots path.fields there)
        ∙ ap (λ (ns : List (List ℕ)). start_root_text core r ∷ ns) (names-same p roots path.fields there) in
        let size : length (front_of path.fields) + 1 ≡ length path.fields = front-short path.fields x last in
        let few : length (front_of path.fields) < MAX_PATH_FIELDS = omega (arith, size, limit) in
        ap (cell_of core f g) names
        ∙ ap (λ (o : Option StartRoot). option_and_then short_cell
        (option_and_then (cell_from core f g (map (name_from p roots) path.fields)) o))
        (root-found p f g few_f few_g r stands)
        ∙ ap (λ (b : Bool). option_and_then short_cell
        (cond b (cell_along core roots (map (name_from p roots) path.fields) (root_path r)) None))
        (root-shared path.root lasts)
        ∙ ap (option_and_then short_cell) (along-cell p roots path.fields (root_path r) x last lead cell)
        ∙ ap (λ (b : Bool). cond b (Some (cell_at path x)) None)
        (lt-ltb (length (front_of path.fields)) MAX_PATH_FIELDS few)
