use Rattle.std.proofs.Common.{ℕ, sym, subst}
use Rattle.edit_session.specs.Work.{IsReady, IsThrough}
use Rattle.edit_session.proofs.Through.{going_begins, going_ends, going_on, list_ready}
use Rattle.edit_session.proofs.work.Work.finish_levels.Goals as goal

pub loop-level-init : goal.loop-level-init
loop-level-init c = going_begins c.args.self.now c.args.lists.now c.args.levels c.requires

pub finish_list-requires : goal.finish_list-requires
finish_list-requires c =
    subst (IsReady c.loop-level.self c.loop-level.lists) (sym c.in-Ok.ensures)
    (list_ready c.args.self.now c.args.levels c.loop-level.level c.loop-level.self c.loop-level.lists
    c.loop-level.invariant c.loop-level-test.true)

pub loop-level-preserved : goal.loop-level-preserved
loop-level-preserved c =
    going_on c.args.self.now c.args.levels c.loop-level.level c.loop-level.self c.loop-level.lists
    c.loop-level.invariant c.loop-level-test.true c.finish_list.new.self c.finish_list.new.lists
    (subst
    (λ (l : ℕ). IsThrough c.loop-level.self c.loop-level.lists l c.finish_list.new.self c.finish_list.new.lists)
    c.in-Ok.ensures c.in-Ok-finish_list.ensures)

pub returns : goal.returns
returns c =
    going_ends c.args.self.now c.args.levels c.loop-level.level c.loop-level.self c.loop-level.lists
    c.loop-level.invariant c.loop-level-test.false
