use Rattle.std.proofs.Common.{sym, ap, subst, ◌∙◌}
use Rattle.owner_domain.specs.Numbered.{read_value, IsInRange}
use Rattle.transfer_steps.proofs.FieldNumbers.{field-value, field-range, field-goes_on}
use Rattle.transfer_steps.proofs.operations.field_of.Goals as goal

pub returns-clause-value : goal.returns-clause-value
returns-clause-value c =
    let new = c.lengthened.new.self in
    ap (read_value new) c.named_or_unnamed.ensures
    ∙ field-value c.args.table.now new c.args.number c.args.f c.in_ok-longer.longer c.in_ok-longer.ensures.answer

pub returns-clause-range : goal.returns-clause-range
returns-clause-range c =
    let new = c.lengthened.new.self in
    subst (IsInRange new) (sym c.named_or_unnamed.ensures)
    (field-range c.args.table.now new c.args.number c.args.f c.in_ok-longer.longer c.in_ok-longer.ensures.answer)

pub returns-clause-table : goal.returns-clause-table
returns-clause-table c =
    field-goes_on c.args.table.now c.lengthened.new.self c.args.number c.args.f c.in_ok-longer.longer
    c.in_ok-longer.ensures.answer
