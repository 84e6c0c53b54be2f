use Rattle.std.proofs.Common.{sym, ◌∙◌, arith}
use Rattle.typed_core.specs.Contexts.{flag_of}
use Rattle.typed_core.proofs.Answering.{doubt-here, doubt-later, doubt-past}
use Rattle.typed_core.proofs.typing.first_failing.Goals as goal

pub returns-in-Some : goal.returns-in-Some
returns-in-Some c =
    sym (doubt-here (flag_of c.args.is_read.now) c.args.doubts.now c.loop-doubt.doubt-index _ c.failing.result
    c.in-Some.place c.loop-doubt-test.true c.failing.ensures c.in-Some.is)
    ∙ c.loop-doubt.invariant

pub loop-doubt-preserved : goal.loop-doubt-preserved
loop-doubt-preserved c =
    sym (doubt-later (flag_of c.args.is_read.now) c.args.doubts.now c.loop-doubt.doubt-index _ c.failing.result
    c.loop-doubt-test.true c.failing.ensures c.in-None.is)
    ∙ c.loop-doubt.invariant

pub returns : goal.returns
returns c =
    sym (doubt-past (flag_of c.args.is_read.now) c.args.doubts.now c.loop-doubt.doubt-index
    (omega (arith, c.loop-doubt-test.false)))
    ∙ c.loop-doubt.invariant
