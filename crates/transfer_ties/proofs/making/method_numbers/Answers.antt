use Rattle.core_code.specs.declared.parts.MethodCore.{MethodCore}
use Rattle.transfer_ties.specs.Names.{method_belongs}
use Rattle.transfer_ties.proofs.Numbers.{numbers_all, numbers_next, numbers_none}
use Rattle.transfer_ties.proofs.making.method_numbers.Goals as goal

pub loop-number-init : goal.loop-number-init
loop-number-init c =
    numbers_none (method_belongs c.args.classes.now) c.no_numbers-numbers.result c.no_numbers-numbers.ensures

pub loop-number-preserved : goal.loop-number-preserved
loop-number-preserved c =
    let method : MethodCore = c.index-methods-number.result in
    numbers_next (method_belongs c.args.classes.now) c.loop-number.numbers c.add_method.new.numbers
    c.args.methods.now c.loop-number.number method c.loop-number-test.true c.index-methods-number.is
    c.loop-number.invariant c.in_ok-add_method.ensures

pub returns : goal.returns
returns c =
    numbers_all (method_belongs c.args.classes.now) c.loop-number.numbers c.args.methods.now c.loop-number.number
    c.loop-number-test.false c.loop-number.invariant
