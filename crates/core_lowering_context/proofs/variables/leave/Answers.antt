use Rattle.std.proofs.Common.{◌<◌, length, take, ap, ◌∙◌, arith}
use Rattle.core_lowering_context.proofs.NamedVariables.{front-taken}
use Rattle.core_lowering_context.proofs.variables.leave.Goals as goal

pub loop-list-preserved : goal.loop-list-preserved
loop-list-preserved c =
    let list = c.loop-list.list.items in
    let within : c.args.at < length list = omega (arith, c.len.ensures, c.loop-list-test.true) in
    record {
      finds = c.remove.ensures.finds;
      front =
          ap (take c.args.at) c.remove.ensures.list ∙ front-taken c.args.at list within
          ∙ c.loop-list.invariant.front;
    }
