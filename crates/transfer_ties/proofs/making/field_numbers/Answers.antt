use Rattle.core_code.specs.declared.parts.FieldCore.{FieldCore}
use Rattle.transfer_ties.specs.Names.{field_belongs}
use Rattle.transfer_ties.proofs.Numbers.{adds_named, numbers_all, numbers_next, numbers_none}
use Rattle.transfer_ties.proofs.making.field_numbers.Goals as goal

pub loop-number-init : goal.loop-number-init
loop-number-init c = numbers_none field_belongs c.no_numbers-numbers.result c.no_numbers-numbers.ensures

pub loop-number-preserved : goal.loop-number-preserved
loop-number-preserved c =
    let field : FieldCore = c.index-fields-number.result in
    let old = c.loop-number.numbers in
    let new = c.add_number.new.numbers in
    numbers_next field_belongs old new c.args.fields.now c.loop-number.number field c.loop-number-test.true
    c.index-fields-number.is c.loop-number.invariant
    (adds_named old new c.loop-number.number c.as_str.result.now field.name (field.class.0, 0) c.as_str.ensures
    c.in_ok-add_number.ensures)

pub returns : goal.returns
returns c =
    numbers_all field_belongs c.loop-number.numbers c.args.fields.now c.loop-number.number c.loop-number-test.false
    c.loop-number.invariant
