use Rattle.std.proofs.Common.{◌≡◌, rules}
use Rattle.core_code.specs.declared.code.Code.TheFolds.{the_lemmas}
use Rattle.core_code.specs.Tree.{Op, tree_of}
use Rattle.transfer_bodies.proofs.ReachingCode.{leads-op, leads-on, leads-all}
use Rattle.transfer_bodies.proofs.reaching.+heights.Goals as goal

pub height_behind-returns-in-Op : goal.height_behind-returns-in-Op
height_behind-returns-in-Op t c =
    let code = tree_of c.args.code.now in
    let is : code ≡ Op c.in-Op.field-0 c.in-Op.field-1 c.in-Op.op = search (rules, the_lemmas) in
    leads-op c.args.height code c.in-Op.field-0 c.in-Op.field-1 c.in-Op.op c.height_behind_op.result is
    c.height_behind_op.ensures

pub height_behind_all-loop-part-preserved : goal.height_behind_all-loop-part-preserved
height_behind_all-loop-part-preserved t c =
    leads-on c.args.height c.args.parts.now c.loop-part.part-index c.part-item.result c.loop-part.behind c.in-Some.next
    c.loop-part-test.true c.part-item.is c.loop-part.invariant c.in-Some.ensures

pub height_behind_all-returns : goal.height_behind_all-returns
height_behind_all-returns t c =
    leads-all c.args.height c.args.parts.now c.loop-part.part-index c.loop-part.behind c.loop-part-test.false
    c.loop-part.invariant
