use Rattle.std.proofs.Common.{ap, ◌∙◌}
use Rattle.std.specs.Prelude.{Option}
use Rattle.racer_base.specs.declared.ids.ClassId.{ClassId}
use Rattle.core_code.specs.Program.{core}
use Rattle.transfer_ties.specs.Names.{is_partner_class}
use Rattle.transfer_ties.proofs.Tied.{tied_class}
use Rattle.transfer_ties.proofs.codes.same_class.Goals as goal

pub returns : goal.returns
returns c =
    c.is_class.ensures
    ∙ ap (λ (o : Option ClassId). is_partner_class o c.args.new) c.class.ensures
    ∙ tied_class (core c.args.both.older.now) (core c.args.both.newer.now) c.args.both.ties.now c.requires c.args.old
    c.args.new
