use Rattle.std.proofs.Common.{refl, sym, ap, ◌∙◌, arith, length}
use Rattle.std.specs.Prelude.{slice_get}
use Rattle.std.specs.Arc.{arc_value}
use Rattle.summary_store.specs.Kept.{pieces_of}
use Rattle.summary_store.proofs.Keeping.{agreed, callee_known, found_piece, ok_then, length-pieces_of}
use Rattle.summary_store.proofs.locked.Locked.wanted.Goals as goal

pub look-requires : goal.look-requires
look-requires g c =
    let k = c.self.invariant.0 in
    let agrees = agreed k _ _ _ _ _ (ap (λ p. p.0) c.self.view_is) refl c.requires.agrees refl in
    let known = k.places c.args.callee (callee_known k _ _ _ c.args.callee agrees c.requires.next) in
    let same = ap length c.as_slice.ensures.value in
    omega (arith, length-pieces_of arc_value c.self.inside.table.items)

pub returns-clause-some : goal.returns-clause-some
returns-clause-some g c =
    let k = c.self.invariant.0 in
    ok_then c.look.result c.look.ensures (λ o is.
    let all = found_piece k _ (ap (λ p. p.0) c.self.view_is) arc_value c.args.callee o
    (ap (λ l. slice_get (pieces_of arc_value l) c.args.callee.0) (sym c.as_slice.ensures.value) ∙ is) in
    all.0)

pub returns-clause-none : goal.returns-clause-none
returns-clause-none g c =
    let k = c.self.invariant.0 in
    ok_then c.look.result c.look.ensures (λ o is.
    let all = found_piece k _ (ap (λ p. p.0) c.self.view_is) arc_value c.args.callee o
    (ap (λ l. slice_get (pieces_of arc_value l) c.args.callee.0) (sym c.as_slice.ensures.value) ∙ is) in
    all.1)
