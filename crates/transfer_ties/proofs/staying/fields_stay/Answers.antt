use Rattle.std.proofs.Common.{sym, ◌∙◌}
use Rattle.transfer_ties.specs.Partners.{field_in}
use Rattle.transfer_ties.proofs.Given.{stays_all, stays_read}
use Rattle.transfer_ties.proofs.Kept.{field_kept}
use Rattle.transfer_ties.proofs.staying.fields_stay.Goals as goal

pub loop-field-preserved : goal.loop-field-preserved
loop-field-preserved c =
    stays_read (field_in c.args.ties.now) c.args.fields.now c.loop-field.field-index _ c.loop-field-test.true
    (field_kept c.field.result _ _ c.field.ensures (sym c.is_field.ensures ∙ c.if-not-is_field.false))
    c.loop-field.invariant

pub returns : goal.returns
returns c = λ _.
    stays_all (field_in c.args.ties.now) c.args.fields.now c.loop-field.field-index c.loop-field-test.false
    c.loop-field.invariant
