use Rattle.std.proofs.Common.{◌≡◌, length, ap, ◌∙◌, arith}
use Rattle.core_code.specs.Program.{core, classes}
use Rattle.typed_core.proofs.Answering.{typings-next, typings-end}
use Rattle.typed_core.proofs.typing.typings.Goals as goal

pub loop-number-preserved : goal.loop-number-preserved
loop-number-preserved c =
    let program = core c.args.program.now in
    let count : length c.classes-number-end.result.now ≡ length (classes c.args.program.now) =
    ap length c.classes-number-end.ensures in
    typings-next program (classes c.args.program.now) c.loop-number.number c.in-Ok.number c.loop-number.made.items
    c.push_typing.new.made.items (omega (arith, c.loop-number-test.true, count)) c.in-Ok.ensures.1
    c.in_ok-push_typing.ensures
    ∙ c.loop-number.invariant

pub returns : goal.returns
returns c =
    let count : length c.classes-number-end.result.now ≡ length (classes c.args.program.now) =
    ap length c.classes-number-end.ensures in
    typings-end (core c.args.program.now) (classes c.args.program.now) c.loop-number.number c.loop-number.made.items
    (omega (arith, c.loop-number-test.false, count))
    ∙ c.loop-number.invariant
