use Rattle.std.proofs.Common.{arith}
use Rattle.java_parser.proofs.FirstPiece.{behind_step}
use Rattle.java_parser.proofs.pieces.annotation_size.Goals as goal

pub loop-after-preserved : goal.loop-after-preserved
loop-after-preserved c =
    let step = behind_step c.loop-after.rest.now c.in-Some.after.now c.in-Some.ensures.gives in
    record {
      size = omega (arith, step, c.loop-after.invariant.size);
      within = omega (arith, c.in-Some.ensures.shorter, c.loop-after.invariant.within);
    }
