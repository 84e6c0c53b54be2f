use Rattle.std.proofs.Common.{refl}
use Rattle.std.specs.Prelude.{slice_index_or}
use Rattle.racer_base.specs.declared.ids.MethodId.{MethodId}
use Rattle.transfer.proofs.Every.{read_at}
use Rattle.edit_session.proofs.Gathering.{found_end, found_turn}
use Rattle.edit_session.proofs.work.finished_of.Goals as goal

pub loop-method-preserved : goal.loop-method-preserved
loop-method-preserved c =
    let table = c.args.table.now in
    let ms = c.args.methods.now in
    let i = c.loop-method.method-index in
    let m : MethodId = slice_index_or ms i (record { 0 = 0 }) in
    let at = read_at ms ms i (record { 0 = 0 }) refl c.loop-method-test.true in
    found_turn table ms i m c.in-Ok.found c.loop-method.made.items _ c.in-Some.finished at.0 at.1 c.in-Ok.ensures
    c.in-Some.is c.in-Ok-push.ensures.items c.loop-method.invariant

pub returns : goal.returns
returns c =
    found_end c.args.table.now c.args.methods.now c.loop-method.method-index c.loop-method.made.items
    c.loop-method-test.false c.loop-method.invariant
