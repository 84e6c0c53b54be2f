use Rattle.std.proofs.Common.{sym, ap, ◌∙◌}
use Rattle.std.specs.Arc.{arc_value}
use Rattle.core_code.specs.declared.program.Program.{Program}
use Rattle.core_code.specs.Program.{core}
use Rattle.access_domain.specs.Summaries.{outcome_of}
use Rattle.transfer.proofs.RenumberedOutcomes.{are_apart}
use Rattle.transfer.proofs.carrying.carried.Goals as goal

pub outcome_in-requires : goal.outcome_in-requires
outcome_in-requires c =
    are_apart (core (arc_value c.args.old.now.program)) (core (arc_value c.args.program.now)) c.args.ties.now
    c.requires.ties

pub invariant_of-result : goal.invariant_of-result
invariant_of-result c =
    let old = c.args.old.now in
    record {
      right =
          sym c.in-Ok.ensures.made
          ∙ c.it_is_the_old_one_renumbered.ensures.outcome (arc_value old.program) (arc_value c.args.program.now)
          c.args.ties.now old.method c.args.method (arc_value old.outcome) c.requires.ties c.requires.as_before
          (sym old.right)
          ∙ ap (λ (p : Program). outcome_of (core p) c.args.method) (sym c.in_ok-clone.ensures.cases);
    }
