use Rattle.std.proofs.Common.{rules, arith}
use Rattle.wobbly_paths.proofs.wobbly.Wobbly.unstable_prefix.Goals as goal

pub loop-fields-init : goal.loop-fields-init
loop-fields-init c = λ k before. absurd (omega (arith, before))

pub returns : goal.returns
returns c = search rules
