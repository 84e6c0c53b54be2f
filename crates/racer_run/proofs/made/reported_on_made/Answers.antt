use Rattle.std.proofs.Common.{ap}
use Rattle.std.specs.Arc.{arc_value}
use Rattle.core_code.specs.declared.program.Program.{Program}
use Rattle.core_code.specs.Program.{core}
use Rattle.racer_run.specs.Made.{SaysMade, made_said}
use Rattle.racer_words.specs.Requests.{made_of}
use Rattle.racer_run.proofs.Tails.{if_ok}
use Rattle.racer_run.proofs.made.reported_on_made.Goals as goal

pub returns-clause-said : goal.returns-clause-said
returns-clause-said g c =
    let number = c.args.wanted.now.number in
    if_ok c.counted.result (made_said number (core (arc_value c.in_ok-program-2.program)))
    (SaysMade (made_of c.args.wanted.now))
    (record {
      program = core c.in_ok-program.program;
      is = c.in_ok-program.ensures;
      said_so = ap (λ (p : Program). made_said number (core p)) c.in_ok-program-2.ensures.ok;
    })
    c.counted.ensures.said
