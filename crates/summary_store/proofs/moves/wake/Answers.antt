use Rattle.std.proofs.Common.{◌∙◌, length, ap, arith}
use Rattle.row_links.proofs.Lists.{length-moved}
use Rattle.summary_store.proofs.moves.wake.Goals as goal

pub splice-requires-clause-from : goal.splice-requires-clause-from
splice-requires-clause-from c =
    let long = ap length c.move_to.ensures ∙ length-moved c.args.m.0 2 c.args.lists.now in
    omega (arith, c.waiting_for.ensures, c.requires.list)

pub splice-requires-clause-to : goal.splice-requires-clause-to
splice-requires-clause-to c =
    let long = ap length c.move_to.ensures ∙ length-moved c.args.m.0 2 c.args.lists.now in
    omega (arith, c.requires.list)
