-- Steps in one frame.
use Rattle.std.proofs.Common.{◌≡◌, Ok, sym, ap, ◌∙◌}
use Rattle.core_code.specs.Core.{Core}
use Rattle.racer_base.specs.declared.ids.FieldId.{FieldId}
use Rattle.core_semantics.specs.declared.answer.StepAnswer.{StepAnswer}
use Rattle.core_semantics.specs.declared.frame.Frame.{Frame as CodeFrame}
use Rattle.core_semantics.specs.declared.object.Object.{Object}
use Rattle.core_semantics.specs.declared.object.Value.{Value}
use Rattle.core_semantics.specs.declared.store.Cells.{Cells}
use Rattle.core_semantics.specs.declared.store.Store.{Store as CodeStore}
use Rattle.core_semantics.specs.Answers.{IsAnswer}
use Rattle.core_semantics.specs.CellOrder.{cells_of}
use Rattle.core_semantics.specs.Cells.{put_in}
use Rattle.core_semantics.specs.State.{Frame, Store}
use Rattle.core_semantics.specs.Steps.{Inner, Next, Goes, base_of, on_base, got, put, put_on, read, replaced, slot_of}
use Rattle.core_semantics.specs.Steps.{top}
use Rattle.core_semantics.specs.View.{behind, behind_inner, frame_of, inner_of, store_of}
use Rattle.core_semantics.proofs.Answered.{within_whole, along}

abbrev with_frame : Store → Frame → Inner
with_frame s f = record { store = s; frame = f }

-- what is answered of a frame is answered of it and the store
pub framed : (s : CodeStore) (f g : CodeFrame) (frame : Frame) (r : StepAnswer) →
    IsAnswer (Goes frame) (frame_of f) (frame_of g) r →
    IsAnswer (Goes (with_frame (store_of s) frame)) (inner_of s f) (inner_of s g) r
framed s f g frame r h = within_whole (with_frame (store_of s)) (Goes frame) (frame_of f) (frame_of g) r h

pub got_answer : (core : Core) (s : CodeStore) (f g : CodeFrame) (x : FieldId) (o : Object) (r : StepAnswer) →
    base_of (top (frame_of f)) ≡ Ok o →
    IsAnswer (Goes (replaced (behind f) 1 (read core (store_of s) o x))) (frame_of f) (frame_of g) r →
    IsAnswer (got core (behind_inner s f) x) (inner_of s f) (inner_of s g) r
got_answer core s f g x o r base h =
    let frame : Frame = replaced (behind f) 1 (read core (store_of s) o x) in
    let next : Object → Next Inner = λ p. Goes
    (with_frame (store_of s) (replaced (behind f) 1 (read core (store_of s) p x)))
    in
    along (Goes (with_frame (store_of s) frame)) (got core (behind_inner s f) x) (inner_of s f) (inner_of s g) r
    (ap (λ b. on_base b next) base) (framed s f g frame r h)

abbrev with_cells : CodeStore → Cells → CodeStore
with_cells s cells = record { heap = s.heap; cells = cells; fresh = s.fresh }

pub put_answer : (s : CodeStore) (cells : Cells) (f g : CodeFrame) (x : FieldId) (o : Object) (v : Value) →
    base_of (slot_of (frame_of f) 1) ≡ Ok o → v ≡ top (frame_of f) →
    cells_of cells ≡ put_in (cells_of s.cells) o x v → frame_of g ≡ replaced (behind f) 2 (top (frame_of f)) →
    put_on (behind_inner s f) x ≡ Goes (inner_of (with_cells s cells) g)
put_answer s cells f g x o v base is_top stored is_frame =
    let all : cells_of cells ≡ put_in (cells_of s.cells) o x (top (frame_of f)) =
    stored ∙ ap (λ w. put_in (cells_of s.cells) o x w) is_top in
    ap (λ b. on_base b (put (behind_inner s f) x)) base
    ∙ (λ i. Goes (with_frame (record (store_of s) { cells = sym all i }) (sym is_frame i)))
