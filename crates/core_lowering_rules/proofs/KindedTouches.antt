-- What calls on containers, and loops over them, do to what these hold is kinded.
use Rattle.std.proofs.Common.{◌≡◌, ℕ, suc, true, List, [], ◌∷◌, ◌++◌, Option, Some, None, refl, subst, append_assoc}
use Rattle.std.specs.Option.{option_and_then, option_map}
use Rattle.container_cells.specs.declared.cell.Cell.{Cell}
use Rattle.container_cells.specs.declared.table.CellTouch.{CellTouch}
use Rattle.container_cells.specs.declared.table.CellTouch.TheVariants.{Look, Change}
use Rattle.container_cells.specs.Table.{touch_of}
use Rattle.racer_base.specs.declared.ids.FieldId.{FieldId}
use Rattle.racer_base.specs.declared.ids.Kind.{Kind}
use Rattle.racer_base.specs.declared.ids.Place.{Place}
use Rattle.java_tree.specs.declared.words.Ident.{Ident}
use Rattle.java_resolver.specs.declared.infos.MethodInfo.{MethodInfo}
use Rattle.core_code.specs.declared.code.Op.TheVariants.{Dup, Drop, Outside}
use Rattle.core_code.specs.declared.parts.FieldCore.{FieldCore}
use Rattle.core_code.specs.Core.{Core, Method}
use Rattle.core_code.specs.Kinds.{StackKind, Opaque, kind_of}
use Rattle.core_code.specs.KindCheck.{is_base_of}
use Rattle.core_lowering_rules.specs.ValueKinds.{ValueKind}
use Rattle.core_lowering_rules.specs.Context.{Context, Code, op}
use Rattle.core_lowering_rules.specs.Assignments.{Storage, InVariable, InField, Elsewhere}
use Rattle.core_lowering_rules.specs.Calls.{Callee, Missing, OfClass, OfObject, info_at, result_of, result_kind}
use Rattle.core_lowering_rules.specs.Touches.{Container, Touched, cell_at, container_in, touched_by, touched_in, touch}
use Rattle.core_lowering_rules.specs.Touches.{touching_call, looked_over}
use Rattle.core_lowering_rules.proofs.Suits.{Suits, suits-opaque}
use Rattle.core_lowering_rules.proofs.Runs.{Runs, followed, once, outside, in_turn_3, in_turn_4}
use Rattle.core_lowering_rules.proofs.Stands.{Stands}
use Rattle.core_lowering_rules.proofs.KindedAccesses.{Leaves, ContentAt, FieldBase, IsStorage, gets, puts}
use Rattle.core_lowering_rules.proofs.KindedArguments.{PassedTo, one_more, fits-opaque}

-- of what a call gives nothing may be known
result-suits : (o : Option MethodInfo) → Suits (result_of o) Opaque
result-suits None = tt
result-suits (Some info) = suits-opaque info.result

pub callee-suits : (context : Context) (callee : Callee) → Suits (result_kind context callee) Opaque
callee-suits context Missing = tt
callee-suits context (OfClass n) = result-suits (info_at context n)
callee-suits context (OfObject n) = result-suits (info_at context n)

module _ (core : Core) (m : Method) (context : Context) (stands : Stands core m context) where
  abbrev contained : FieldId → Place → Code → Cell → Container
  contained f name base cell = record { field = f; name = name; base = base; cell = cell }

  -- ---- calls

  abbrev touching_or : Place → ℕ → (arguments otherwise : Code) → Option Touched → Code
  touching_or place n arguments otherwise o = elim o [
    | Some touched ↦ touching_call context place touched n arguments
    | None ↦ otherwise
  ]

  touches : (place : Place) (content : FieldId) (field : FieldCore) (base : StackKind) (stack : List StackKind) →
      ContentAt core content field → is_base_of field base ≡ true → (t : CellTouch) →
      Runs core m (touch context place content t) (Opaque ∷ base ∷ stack) (Opaque ∷ stack)
  touches place content field base stack c h Change =
      puts core m context stands place content c.own Opaque base stack c.there (c.behind base h)
      (fits-opaque (let own = c.own in own.kind))
  touches place content field base stack c h Look =
      let own = c.own in
      in_turn_3 core m (once core m context.place Drop (Opaque ∷ []) [] (base ∷ stack) refl refl refl refl)
      (gets core m context stands place content own base stack c.there (c.behind base h))
      (outside core m context.place (kind_of own.kind ∷ []) stack 1 refl)

  touching-leaves : (f : FieldId) (kind : Kind) (name : Place) (base : Code) → (b : FieldBase core m context f kind base) →
      (cell : Cell) → cell_at context f ≡ Some cell → (place : Place) (n : ℕ) (arguments : Code) →
      PassedTo core m arguments [] n → (given : ValueKind) → Suits given Opaque → (t : CellTouch) →
      Leaves core m
      (touching_call context place (record { container = contained f name base cell; touch = t }) n arguments) given
  touching-leaves f kind name base h cell e place n arguments passing given suits t =
      record {
        leaves = λ stack.
            let b = h.behind.leaves stack in
            let field = h.field in
            let got = kind_of field.kind in
            let p = passing.passes (got ∷ b.0 ∷ stack) in
            let pops : Runs core m (op context (Outside (suc n))) (p.0 ++ got ∷ b.0 ∷ stack) (Opaque ∷ b.0 ∷ stack) =
            subst (λ before. Runs core m (op context (Outside (suc n))) before (Opaque ∷ b.0 ∷ stack))
            (append_assoc p.0 (got ∷ []) (b.0 ∷ stack))
            (outside core m context.place (p.0 ++ got ∷ []) (b.0 ∷ stack) (suc n) (one_more p.0 got n p.2)) in (
              Opaque,
              suits,
              in_turn_4 core m
                  (in_turn_3 core m b.1 (once core m context.place Dup (b.0 ∷ [])
                  (b.0 ∷ b.0 ∷ []) stack refl refl refl refl) (gets core m context stands name f field b.0
                  (b.0 ∷ stack) h.there b.2)) p.1 pops
                  (touches place cell.content field b.0 stack (h.content cell e) b.2 t),
            );
      }

  touched-in : (f : FieldId) (kind : Kind) (name : Place) (base : Code) → FieldBase core m context f kind base →
      (x : Ident) (n : ℕ) (arguments otherwise : Code) → PassedTo core m arguments [] n → (given : ValueKind) →
      Suits given Opaque → Leaves core m otherwise given → (o : Option Cell) → cell_at context f ≡ o →
      Leaves core m
      (touching_or x.place n arguments otherwise
      (option_and_then (touched_by x n) (option_map (contained f name base) o))) given
  touched-in f kind name base h x n arguments otherwise passing given suits l None e = l
  touched-in f kind name base h x n arguments otherwise passing given suits l (Some cell) e =
      by (touch_of cell.family x.text n)
    where
      by : (o : Option CellTouch) →
          Leaves core m
          (touching_or x.place n arguments otherwise
          (option_map (λ t. record { container = contained f name base cell; touch = t }) o)) given
      by None = l
      by (Some t) = touching-leaves f kind name base h cell e x.place n arguments passing given suits t

  -- a call that touches what a container holds, or another
  pub touched-leaves : (s : Storage) → IsStorage core m context s → (x : Ident) (n : ℕ) (arguments otherwise : Code) →
      PassedTo core m arguments [] n → (given : ValueKind) → Suits given Opaque → Leaves core m otherwise given →
      Leaves core m (touching_or x.place n arguments otherwise (touched_in context s x n)) given
  touched-leaves (InVariable v kind) h x n arguments otherwise passing given suits l = l
  touched-leaves (InField f kind name base) h x n arguments otherwise passing given suits l =
      touched-in f kind name base h x n arguments otherwise passing given suits l (cell_at context f) refl
  touched-leaves (Elsewhere k operands) h x n arguments otherwise passing given suits l = l

  -- ---- loops

  abbrev looked_or : Code → Option Container → Code
  looked_or otherwise o = elim o [ Some c ↦ looked_over context c ++ op context Drop | None ↦ otherwise ]

  looked-in : (f : FieldId) (kind : Kind) (name : Place) (base : Code) → FieldBase core m context f kind base →
      (otherwise : Code) → Runs core m otherwise [] [] → (o : Option Cell) → cell_at context f ≡ o →
      Runs core m (looked_or otherwise (option_map (contained f name base) o)) [] []
  looked-in f kind name base h otherwise r None e = r
  looked-in f kind name base h otherwise r (Some cell) e =
      let b = h.behind.leaves [] in
      let c = h.content cell e in
      let own = c.own in
      followed core m
      (in_turn_3 core m b.1
      (gets core m context stands name cell.content own b.0 [] c.there (c.behind b.0 b.2))
      (outside core m context.place (kind_of own.kind ∷ []) [] 1 refl))
      (once core m context.place Drop (Opaque ∷ []) [] [] refl refl refl refl)

  -- what a container holds is looked at, or another value is made
  pub looked-runs : (s : Storage) → IsStorage core m context s → (otherwise : Code) → Runs core m otherwise [] [] →
      Runs core m (looked_or otherwise (container_in context s)) [] []
  looked-runs (InVariable v kind) h otherwise r = r
  looked-runs (InField f kind name base) h otherwise r =
      looked-in f kind name base h otherwise r (cell_at context f) refl
  looked-runs (Elsewhere n operands) h otherwise r = r
