use Rattle.std.proofs.Common.{◌≡◌, ap}
use Rattle.std.specs.Arc.{arc_value}
use Rattle.core_code.specs.declared.program.Program.{Program}
use Rattle.core_code.specs.Program.{core}
use Rattle.racer_run.specs.declared.output.RunOutput.{RunOutput}
use Rattle.racer_run.specs.Made.{made_said}
use Rattle.racer_run.proofs.Tails.{if_ok}
use Rattle.racer_run.proofs.made.counted.Goals as goal

pub returns-clause-said : goal.returns-clause-said
returns-clause-said g c =
    let number = c.args.wanted.now.number in
    if_ok c.said_of_made.result (made_said number (core c.deref.result.now))
    (λ (said : RunOutput). said ≡ made_said number (core (arc_value c.args.program.now)))
    (ap (λ (p : Program). made_said number (core p)) c.deref.ensures) c.said_of_made.ensures.said
