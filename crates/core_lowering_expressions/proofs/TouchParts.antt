-- What the form of an expression says of what it is stored in, and the code of touches in its parts.
use Rattle.std.proofs.Common.{◌≡◌, ℕ, suc, true, false, [], ◌++◌, Option, Some, None, refl, sym, ap, ◌∙◌, ◌⊎◌}
use Rattle.std.proofs.Common.{inl, inr, append_assoc}
use Rattle.std.specs.Prelude.{option_and_then, option_map}
use Rattle.std.proofs.lemmas.Option.{none-some, same_Some}
use Rattle.container_cells.specs.declared.cell.Cell.{Cell}
use Rattle.container_cells.specs.declared.table.CellTouch.{CellTouch}
use Rattle.container_cells.specs.Table.{touch_of}
use Rattle.racer_base.specs.declared.ids.ClassId.{ClassId}
use Rattle.racer_base.specs.declared.ids.FieldId.{FieldId}
use Rattle.racer_base.specs.declared.ids.Kind.{Kind}
use Rattle.racer_base.specs.declared.ids.Place.{Place}
use Rattle.java_tree.specs.declared.words.Ident.{Ident}
use Rattle.java_resolver.specs.declared.scope.Meaning.{Meaning}
use Rattle.java_resolver.specs.declared.scope.Meaning.TheVariants as means
use Rattle.core_code.specs.declared.code.Op.TheVariants.{Drop, Outside}
use Rattle.core_lowering_rules.specs.Trees.{Expr, Read, Access, Named, Selected, Element, NoAccess}
use Rattle.core_lowering_rules.specs.Trees as tree
use Rattle.core_lowering_rules.specs.TreesOf.{access_of}
use Rattle.core_lowering_rules.specs.Context.{Context, Code, op, meaning_of}
use Rattle.core_lowering_rules.specs.Assignments.{Storage, InVariable, InField, Elsewhere, read, of_meaning}
use Rattle.core_lowering_rules.specs.Touches.{Container, Touched as Touch, touched_by as touched_container, touched_in}
use Rattle.core_lowering_rules.specs.Touches.{touching_call, touch, cell_at, container_in, looked_over}
use Rattle.core_lowering_rules.specs.Expressions.{class_meant, class_before, storage, stored}
use Rattle.core_lowering_touches.specs.declared.touches.Touched.{Touched}
use Rattle.core_lowering_touches.specs.Touching.{touched, touched_at, fetched}
use Rattle.core_lowering_expressions.specs.declared.storage.Storage.TheVariants as code
use Rattle.core_lowering_expressions.specs.Parts.{base_of, without_base}
use Rattle.core_lowering_expressions.specs.Containers.{is_formed, is_access, touched_by, content_of, behind_content}
use Rattle.core_lowering_expressions.specs.Containers.{then_looked_over}

-- ---- forms

-- an access, or stored nowhere and no name of a class
abbrev pub FormOf : Expr → Type 0
FormOf e =
    (e ≡ Read (access_of e))
    ⊎ ((NoAccess ≡ access_of e)
    × ((context : Context) → (Elsewhere 0 [] ≡ stored context e) × (None ≡ class_before context e)))

form-of : (e : Expr) → FormOf e
form-of (Read a) = inl refl
form-of tree.Prim = inr (refl, λ context. (refl, refl))
form-of tree.Unknown = inr (refl, λ context. (refl, refl))
form-of tree.Null = inr (refl, λ context. (refl, refl))
form-of tree.This = inr (refl, λ context. (refl, refl))
form-of (tree.ClassOf xs) = inr (refl, λ context. (refl, refl))
form-of (tree.ThisOf xs) = inr (refl, λ context. (refl, refl))
form-of (tree.Refer to) = inr (refl, λ context. (refl, refl))
form-of (tree.Unary e) = inr (refl, λ context. (refl, refl))
form-of (tree.Cast t e) = inr (refl, λ context. (refl, refl))
form-of (tree.Binary a b) = inr (refl, λ context. (refl, refl))
form-of (tree.Logical a b) = inr (refl, λ context. (refl, refl))
form-of (tree.Conditional c a b) = inr (refl, λ context. (refl, refl))
form-of (tree.Assign a e) = inr (refl, λ context. (refl, refl))
form-of (tree.Combine a e) = inr (refl, λ context. (refl, refl))
form-of (tree.Count a) = inr (refl, λ context. (refl, refl))
form-of (tree.Call x es) = inr (refl, λ context. (refl, refl))
form-of (tree.CallOn e x es) = inr (refl, λ context. (refl, refl))
form-of (tree.New place t es) = inr (refl, λ context. (refl, refl))
form-of (tree.NewBody place t es) = inr (refl, λ context. (refl, refl))
form-of (tree.NewArray place es) = inr (refl, λ context. (refl, refl))
form-of (tree.NewItems place is) = inr (refl, λ context. (refl, refl))
form-of (tree.Paren e) = inr (refl, λ context. (refl, refl))

pub is-read : (e : Expr) → is_access e ≡ true → e ≡ Read (access_of e)
is-read e h = by (form-of e)
  where
    by : FormOf e → e ≡ Read (access_of e)
    by (inl is) = is
    by (inr (none, other)) =
        let never : false ≡ true = ap is_formed none ∙ h in
        cc

unformed : (context : Context) (a : Access) → is_formed a ≡ false → Elsewhere 0 [] ≡ storage context a
unformed context NoAccess h = refl
unformed context (Named x) h = cc
unformed context (Selected e x) h = cc
unformed context (Element a i) h = cc

stored-nowhere : (context : Context) (e : Expr) → is_access e ≡ false → Elsewhere 0 [] ≡ stored context e
stored-nowhere context e h = by (form-of e)
  where
    by : FormOf e → Elsewhere 0 [] ≡ stored context e
    by (inl is) = unformed context (access_of e) h ∙ ap (stored context) (sym is)
    by (inr (none, other)) = (other context).0

-- ---- calls that touch nothing

class-meaning : (context : Context) (y x : Ident) (n : ℕ) (c : ClassId) (m : Meaning) → Some c ≡ class_meant m →
    None ≡ touched_in context (of_meaning context y m) x n
class-meaning context y x n c (means.Class d) is = refl
class-meaning context y x n c means.Opaque is = refl
class-meaning context y x n c (means.Variable v kind) is = refl
class-meaning context y x n c (means.Field f) is = absurd (none-some _ (sym is))

class-access : (context : Context) (a : Access) (x : Ident) (n : ℕ) (c : ClassId) →
    Some c ≡ class_before context (Read a) → None ≡ touched_in context (storage context a) x n
class-access context (Named y) x n c is = class-meaning context y x n c (meaning_of context y) is
class-access context (Selected e y) x n c is = absurd (none-some _ (sym is))
class-access context (Element a i) x n c is = absurd (none-some _ (sym is))
class-access context NoAccess x n c is = absurd (none-some _ (sym is))

-- what stands behind the name of a class
pub class-untouched : (context : Context) (e : Expr) (x : Ident) (n : ℕ) (c : ClassId) →
    Some c ≡ class_before context e → None ≡ touched_in context (stored context e) x n
class-untouched context e x n c is = by (form-of e)
  where
    by : FormOf e → None ≡ touched_in context (stored context e) x n
    by (inl read) =
        class-access context (access_of e) x n c (is ∙ ap (class_before context) read)
        ∙ ap (λ y. touched_in context (stored context y) x n) (sym read)
    by (inr (none, other)) = absurd (none-some _ ((other context).1 ∙ sym is))

pub unstored-untouched : (context : Context) (e : Expr) (x : Ident) (n : ℕ) → is_access e ≡ false →
    None ≡ touched_in context (stored context e) x n
unstored-untouched context e x n h = ap (λ s. touched_in context s x n) (stored-nowhere context e h)

-- a container, and a touch of it, of these parts
abbrev held : FieldId → Place → Code → Cell → Container
held f name base cell = record { field = f; name = name; base = base; cell = cell }

abbrev touch_of_it : Container → CellTouch → Touch
touch_of_it container touch = record { container = container; touch = touch }

untouched-touch : (f : FieldId) (name : Place) (base : Code) (cell : Cell) (o : Option CellTouch) →
    None ≡ option_map (touched f name cell) o → None ≡ option_map (touch_of_it (held f name base cell)) o
untouched-touch f name base cell None is = refl
untouched-touch f name base cell (Some kind) is = absurd (none-some _ is)

untouched-cell : (f : FieldId) (name : Place) (base : Code) (x : Ident) (n : ℕ) (o : Option Cell) →
    None ≡ option_and_then (touched_at f name x n) o →
    None ≡ option_and_then (touched_container x n) (option_map (held f name base) o)
untouched-cell f name base x n None is = refl
untouched-cell f name base x n (Some cell) is =
    untouched-touch f name base cell (touch_of cell.family x.text n) is

pub untouched-parts : (context : Context) (s : Storage) (x : Ident) (n : ℕ) →
    None ≡ touched_by context (without_base s) x n → None ≡ touched_in context s x n
untouched-parts context (InVariable v k) x n is = refl
untouched-parts context (InField f k name base) x n is = untouched-cell f name base x n (cell_at context f) is
untouched-parts context (Elsewhere m operands) x n is = refl

-- ---- calls that touch

-- behind the base of a container
abbrev pub behind_base : Context → Place → ℕ → Code → Touched → Code
behind_base context place n arguments t =
    fetched context t ++ (arguments ++ (op context (Outside (suc n)) ++ touch context place t.content t.touch))

-- a call, by what it touches
abbrev pub either_call : Context → Place → ℕ → (arguments other : Code) → Option Touch → Code
either_call context place n arguments other o = elim o [
  | None ↦ other
  | Some t ↦ touching_call context place t n arguments
]

module _ (context : Context) (place : Place) (n : ℕ) (arguments other : Code) where
  touching-touch : (f : FieldId) (name : Place) (base : Code) (cell : Cell) (o : Option CellTouch) (t : Touched) →
      Some t ≡ option_map (touched f name cell) o →
      either_call context place n arguments other (option_map (touch_of_it (held f name base cell)) o)
      ≡ base ++ behind_base context place n arguments t
  touching-touch f name base cell None t is = absurd (none-some _ (sym is))
  touching-touch f name base cell (Some kind) t is =
      let all : either_call context place n arguments other (Some (touch_of_it (held f name base cell) kind))
      ≡ base ++ behind_base context place n arguments (touched f name cell kind) =
      simp append_assoc in
      all ∙ ap (λ (u : Touched). base ++ behind_base context place n arguments u)
      (sym (same_Some t (touched f name cell kind) is))

  touching-cell : (f : FieldId) (name : Place) (base : Code) (x : Ident) (o : Option Cell) (t : Touched) →
      Some t ≡ option_and_then (touched_at f name x n) o →
      either_call context place n arguments other (option_and_then (touched_container x n)
      (option_map (held f name base) o))
      ≡ base ++ behind_base context place n arguments t
  touching-cell f name base x None t is = absurd (none-some _ (sym is))
  touching-cell f name base x (Some cell) t is =
      touching-touch f name base cell (touch_of cell.family x.text n) t is

  pub touching-parts : (s : Storage) (x : Ident) (t : Touched) → Some t ≡ touched_by context (without_base s) x n →
      either_call context place n arguments other (touched_in context s x n)
      ≡ base_of s ++ behind_base context place n arguments t
  touching-parts (InVariable v k) x t is = absurd (none-some _ (sym is))
  touching-parts (InField f k name base) x t is = touching-cell f name base x (cell_at context f) t is
  touching-parts (Elsewhere m operands) x t is = absurd (none-some _ (sym is))

-- ---- loops

-- what a `for` goes over, by the container that it is
abbrev pub over : Context → (other : Code) → Option Container → Code
over context other o = elim o [
  | None ↦ other
  | Some container ↦ looked_over context container ++ op context Drop
]

over-cell : (context : Context) (f : FieldId) (k : Kind) (name : Place) (base : Code) (o : Option Cell) →
    over context (read context (InField f k name base) ++ op context Drop) (option_map (held f name base) o)
    ≡ base ++ (behind_content context (code.InField f k name) (option_map (content_of name) o) ++ op context Drop)
over-cell context f k name base None = simp append_assoc
over-cell context f k name base (Some cell) = simp append_assoc

pub over-parts : (context : Context) (s : Storage) →
    over context (read context s ++ op context Drop) (container_in context s)
    ≡ base_of s ++ (then_looked_over context (without_base s) ++ op context Drop)
over-parts context (InVariable v k) = refl
over-parts context (InField f k name base) = over-cell context f k name base (cell_at context f)
over-parts context (Elsewhere n operands) = simp append_assoc
