use Rattle.std.proofs.Common.{sym, ◌∙◌, arith}
use Rattle.typed_core.specs.Contexts.{flag_of}
use Rattle.typed_core.proofs.Answering.{answer-here, answer-later, answer-past}
use Rattle.typed_core.proofs.typing.answer_of.Goals as goal

pub returns-in-Some : goal.returns-in-Some
returns-in-Some c =
    sym (answer-here (flag_of c.args.is_read.now) c.args.reached.now c.args.all.now c.loop-number.number _
    c.index-all-number.result (omega (arith, c.loop-number-test.true, c.min-number-end.ensures))
    (omega (arith, c.loop-number-test.true, c.min-number-end.ensures)) c.index-all-number.is c.failing_in.result
    c.failing_in.ensures c.in-Some.place c.in-Some.is)
    ∙ c.loop-number.invariant

pub loop-number-preserved : goal.loop-number-preserved
loop-number-preserved c =
    sym (answer-later (flag_of c.args.is_read.now) c.args.reached.now c.args.all.now c.loop-number.number _
    c.index-all-number.result (omega (arith, c.loop-number-test.true, c.min-number-end.ensures))
    (omega (arith, c.loop-number-test.true, c.min-number-end.ensures)) c.index-all-number.is c.failing_in.result
    c.failing_in.ensures c.in-None.is)
    ∙ c.loop-number.invariant

pub returns : goal.returns
returns c =
    sym (answer-past (flag_of c.args.is_read.now) c.args.reached.now c.args.all.now c.loop-number.number
    (omega (arith, c.loop-number-test.false, c.min-number-end.ensures)))
    ∙ c.loop-number.invariant
