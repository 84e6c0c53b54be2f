use Rattle.std.proofs.Common.{List, subst}
use Rattle.core_code.specs.declared.parts.FieldCore.{FieldCore}
use Rattle.witness_text_names.specs.Indexes.{FindsFields}
use Rattle.witness_text_names.proofs.FieldsIndexed.{fields_end, fields_next, fields_start}
use Rattle.witness_text_names.proofs.fields.field_index.Goals as goal

pub loop-index-init : goal.loop-index-init
loop-index-init c = fields_start c.no_fields-fields.result c.fields-field-items.result.now c.no_fields-fields.ensures

pub loop-index-preserved : goal.loop-index-preserved
loop-index-preserved c =
    fields_next c.loop-index.fields c.add_field.new.fields c.fields-field-items.result.now c.loop-index.index
    c.field-item.result (record { 0 = c.in_ok-number_of.field-0 }) c.loop-index-test.true c.field-item.is
    c.in_ok-number_of.ensures c.in_ok-add_field.ensures c.loop-index.invariant

pub returns : goal.returns
returns c =
    subst (λ (fields : List FieldCore). FindsFields fields c.loop-index.fields) c.fields-field-items.ensures
    (fields_end c.loop-index.fields c.fields-field-items.result.now c.loop-index.index c.loop-index-test.false
    c.loop-index.invariant)
