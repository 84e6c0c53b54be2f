use Rattle.std.proofs.Common.{ap, ◌∙◌}
use Rattle.std.specs.Prelude.{Option}
use Rattle.racer_base.specs.declared.ids.FieldId.{FieldId}
use Rattle.core_code.specs.Program.{core}
use Rattle.transfer_ties.specs.Names.{is_partner_field}
use Rattle.transfer_ties.proofs.Tied.{tied_field}
use Rattle.transfer_ties.proofs.codes.same_field.Goals as goal

pub returns : goal.returns
returns c =
    c.is_field.ensures
    ∙ ap (λ (o : Option FieldId). is_partner_field o c.args.new) c.field.ensures
    ∙ tied_field (core c.args.both.older.now) (core c.args.both.newer.now) c.args.both.ties.now c.requires c.args.old
    c.args.new
