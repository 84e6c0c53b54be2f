-- A fact of lowered code holds of what calls on containers, and loops over them, do to what these hold.
use Rattle.std.proofs.Common.{◌≡◌, ℕ, suc, true, [], ◌++◌, Option, Some, None, List, refl, subst, sym}
use Rattle.std.specs.Option.{option_and_then, option_map}
use Rattle.container_cells.specs.declared.cell.Cell.{Cell}
use Rattle.container_cells.specs.declared.table.CellTouch.{CellTouch}
use Rattle.container_cells.specs.declared.table.CellTouch.TheVariants.{Look, Change}
use Rattle.container_cells.specs.Table.{touch_of}
use Rattle.racer_base.specs.declared.ids.FieldId.{FieldId}
use Rattle.racer_base.specs.declared.ids.Place.{Place}
use Rattle.java_tree.specs.declared.words.Ident.{Ident}
use Rattle.core_code.specs.declared.code.Reason.{Reason}
use Rattle.core_code.specs.declared.code.Op.{Op as CoreOp}
use Rattle.core_code.specs.declared.code.Op.TheVariants.{Dup, Drop, Get, Put, Outside}
use Rattle.core_lowering_drafts.specs.Drafts.{Op}
use Rattle.core_lowering_rules.specs.Context.{Context, Code, op}
use Rattle.core_lowering_rules.specs.Assignments.{Storage, InVariable, InField, Elsewhere}
use Rattle.core_lowering_rules.specs.Touches.{Container, Touched, cell_at, container_in, touched_by, touched_in, touch}
use Rattle.core_lowering_rules.specs.Touches.{touching_call, looked_over}
use Rattle.core_lowering_rules.proofs.LoweredFacts.{Tests, Grounded, Fact, is_value, joined_3, joined_4}
use Rattle.core_lowering_rules.proofs.StatusesUnseen.{with_statuses}

-- ---- what is stored where

-- the code that stands before the access
abbrev pub base : Storage → Code
base (InVariable v kind) = []
base (InField f kind name b) = b
base (Elsewhere n operands) = operands

abbrev pub with_base : Code → Storage → Storage
with_base b (InVariable v kind) = InVariable v kind
with_base b (InField f kind name c) = InField f kind name b
with_base b (Elsewhere n operands) = Elsewhere n b

abbrev pub IsNamePlaced : Tests → Storage → Type 0
IsNamePlaced t (InVariable v kind) = Unit {0}
IsNamePlaced t (InField f kind name b) = t.is_place name ≡ true
IsNamePlaced t (Elsewhere n operands) = Unit {0}

-- the same but for the code of the base, of which the fact holds
pub record Stored (f : Fact) (s t : Storage) : Type 0 where
  pub own : Code
  pub same : s ≡ with_base own t
  pub holds : f.Holds own (base t)
  pub placed : IsNamePlaced f.tests t

module _ (f : Fact) (statuses : List (Option Reason)) (context : Context) (g : Grounded f.tests context) where
  abbrev other : Context
  other = with_statuses statuses context

  abbrev IsPlace : Place → Type 0
  IsPlace place = f.tests.is_place place ≡ true

  here : (o : CoreOp) → is_value f.tests.is_class f.tests.is_method o ≡ true → f.Holds (op context o) (op context o)
  here o h = f.single context.place o g.here h

  abbrev contained : FieldId → Place → Code → Cell → Container
  contained i name own cell = record { field = i; name = name; base = own; cell = cell }

  -- ---- calls

  abbrev touching_or : Context → Place → ℕ → (arguments otherwise : Code) → Option Touched → Code
  touching_or c place n arguments otherwise o = elim o [
    | Some touched ↦ touching_call c place touched n arguments
    | None ↦ otherwise
  ]

  touch-holds : (place : Place) (content : FieldId) → IsPlace place → (t : CellTouch) →
      f.Holds (touch other place content t) (touch context place content t)
  touch-holds place content h Change = f.single place (Put content) h refl
  touch-holds place content h Look =
      joined_3 f (here Drop refl) (f.single place (Get content) h refl) (here (Outside 1) refl)

  touched-in : (i : FieldId) (name : Place) (own b : Code) → IsPlace name → f.Holds own b → (x : Ident) (n : ℕ) →
      IsPlace x.place → (arguments known otherwise usual : Code) → f.Holds arguments known →
      f.Holds otherwise usual → (o : Option Cell) →
      f.Holds
      (touching_or other x.place n arguments otherwise
      (option_and_then (touched_by x n) (option_map (contained i name own) o)))
      (touching_or context x.place n known usual (option_and_then (touched_by x n) (option_map (contained i name b) o)))
  touched-in i name own b named q x n h arguments known otherwise usual p r None = r
  touched-in i name own b named q x n h arguments known otherwise usual p r (Some cell) =
      by (touch_of cell.family x.text n)
    where
      by : (o : Option CellTouch) →
          f.Holds
          (touching_or other x.place n arguments otherwise
          (option_map (λ t. record { container = contained i name own cell; touch = t }) o))
          (touching_or context x.place n known usual
          (option_map (λ t. record { container = contained i name b cell; touch = t }) o))
      by None = r
      by (Some t) =
          joined_4 f (joined_3 f q (here Dup refl) (f.single name (Get i) named refl)) p (here (Outside (suc n)) refl)
          (touch-holds x.place cell.content h t)

  -- a call that touches what a container holds, or another
  pub touched-holds : (s t : Storage) → Stored f s t → (x : Ident) (n : ℕ) → IsPlace x.place →
      {arguments known otherwise usual : Code} → f.Holds arguments known → f.Holds otherwise usual →
      f.Holds (touching_or other x.place n arguments otherwise (touched_in other s x n))
      (touching_or context x.place n known usual (touched_in context t x n))
  touched-holds s t h x n there {arguments} {known} {otherwise} {usual} p r =
      subst (λ (k : Storage).
      f.Holds (touching_or other x.place n arguments otherwise (touched_in other k x n))
      (touching_or context x.place n known usual (touched_in context t x n))) (sym h.same)
      (by t h.own h.holds h.placed)
    where
      by : (t : Storage) (b : Code) → f.Holds b (base t) → IsNamePlaced f.tests t →
          f.Holds (touching_or other x.place n arguments otherwise (touched_in other (with_base b t) x n))
          (touching_or context x.place n known usual (touched_in context t x n))
      by (InVariable i k) b q named = r
      by (InField i k name c) b q named =
          touched-in i name b c named q x n there arguments known otherwise usual p r (cell_at context i)
      by (Elsewhere m c) b q named = r

  -- ---- loops

  abbrev looked_or : Context → Code → Option Container → Code
  looked_or c otherwise o = elim o [ Some container ↦ looked_over c container ++ op c Drop | None ↦ otherwise ]

  looked-in : (i : FieldId) (name : Place) (own b : Code) → IsPlace name → f.Holds own b → (otherwise usual : Code) →
      f.Stands otherwise usual → (o : Option Cell) →
      f.Stands (looked_or other otherwise (option_map (contained i name own) o))
      (looked_or context usual (option_map (contained i name b) o))
  looked-in i name own b named q otherwise usual r None = r
  looked-in i name own b named q otherwise usual r (Some cell) =
      f.behind (looked_over other (contained i name own cell)) (looked_over context (contained i name b cell))
      (joined_3 f q (f.single name (Get cell.content) named refl) (here (Outside 1) refl)) (Op context.place Drop)
      (Op context.place Drop) [] [] (f.done context.place Drop g.here refl)

  -- what a container holds is looked at, or another value is made
  pub looked-stands : (s t : Storage) → Stored f s t → {otherwise usual : Code} → f.Stands otherwise usual →
      f.Stands (looked_or other otherwise (container_in other s)) (looked_or context usual (container_in context t))
  looked-stands s t h {otherwise} {usual} r =
      subst (λ (k : Storage).
      f.Stands (looked_or other otherwise (container_in other k)) (looked_or context usual (container_in context t)))
      (sym h.same) (by t h.own h.holds h.placed)
    where
      by : (t : Storage) (b : Code) → f.Holds b (base t) → IsNamePlaced f.tests t →
          f.Stands (looked_or other otherwise (container_in other (with_base b t)))
          (looked_or context usual (container_in context t))
      by (InVariable i k) b q named = r
      by (InField i k name c) b q named = looked-in i name b c named q otherwise usual r (cell_at context i)
      by (Elsewhere m c) b q named = r
