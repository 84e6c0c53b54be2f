use Rattle.std.proofs.Common.{List, ap, subst, is_none}
use Rattle.racer_base.specs.declared.ids.MethodId.{MethodId}
use Rattle.core_code.specs.Chains.{IsOnCycle}
use Rattle.core_code.specs.Program.{core}
use Rattle.core_code.proofs.NoCycles.{no_cycle}
use Rattle.core_code.proofs.row_making.ranks_of.Goals as goal

pub unreachable-requires : goal.unreachable-requires
unreachable-requires c =
    let program = c.args.program.now in
    let on = c.in_ok-ranks.ensures.none (ap is_none c.in_default.is) in
    no_cycle (core program) program.calls_right program.ranks_there on.0
    (subst (λ (rows : List (List MethodId)). IsOnCycle rows on.0) c.requires on.1)
