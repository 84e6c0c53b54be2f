use Rattle.std.proofs.Common.{map, arith}
use Rattle.core_code.specs.Core.{method_of}
use Rattle.core_code.specs.Program.{core}
use Rattle.typed_core.proofs.Found.{found-turn, found-end, even-at}
use Rattle.typed_core.proofs.findings.findings_of_all.Goals as goal

pub findings_of-requires : goal.findings_of-requires
findings_of-requires c =
    record {
      right = c.requires.right;
      even =
          even-at c.args.methods.now c.loop-method.method-index c.method-item.result c.requires.even
          c.loop-method-test.true c.method-item.is;
    }

pub loop-method-preserved : goal.loop-method-preserved
loop-method-preserved c =
    found-turn (core c.args.program.now) c.args.methods.now (map method_of c.args.methods.now)
    c.loop-method.method-index c.method-item.result c.loop-method.all.items c.push.new.self.items
    c.in_ok-findings_of.field-0 c.loop-method-test.true c.method-item.is c.loop-method.invariant
    c.in_ok-push.ensures.items c.in_ok-findings_of.ensures

pub returns : goal.returns
returns c =
    found-end (core c.args.program.now) c.args.methods.now (map method_of c.args.methods.now)
    c.loop-method.method-index c.loop-method.all.items (omega (arith, c.loop-method-test.false))
    c.loop-method.invariant
