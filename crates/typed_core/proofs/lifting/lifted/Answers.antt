use Rattle.std.proofs.Common.{◌<◌, length, rules, arith}
use Rattle.core_code.specs.Tree.{tree_of}
use Rattle.transfer_bodies.specs.Reaching.{IsWithin}
use Rattle.typed_core.proofs.Above.{lifted-returns}
use Rattle.typed_core.proofs.lifting.lifted.Goals as goal

pub returns : goal.returns
returns c =
    let within : IsWithin 8 (tree_of c.args.code.now) = c.is_within.ensures (search rules) in
    let tall : 64 < length c.args.here.now.stack = omega arith in
    lifted-returns c.lift.result (tree_of c.args.code.now) c.args.here.now c.lift.new.self c.lift.ensures.under
    c.lift.ensures.rest within tall
