use Rattle.std.proofs.Common.{◌≡◌, rules, subst, sym}
use Rattle.core_code.specs.declared.program.Program.{Program}
use Rattle.core_code.specs.Program.{core}
use Rattle.racer_sources.specs.declared.programs.FoundProgram.{FoundProgram}
use Rattle.racer_sources.specs.declared.programs.FoundProgram.TheVariants as found
use Rattle.racer_sources.specs.Programs.{source_of}
use Rattle.witness_text.specs.Replaying.{DoWitnessesReplay}
use Rattle.racer_run.specs.RunOutputs.{HasReplays}
use Rattle.racer_run.proofs.reports.said_of_found.Goals as goal

replays_of : (f : FoundProgram) (program : Program) → f ≡ found.Accepted program → DoWitnessesReplay (core program)
    → HasReplays (source_of f)
replays_of f program is replays = subst (λ (g : FoundProgram). HasReplays (source_of g)) (sym is) replays

pub returns-in_ok-program-in-Accepted-clause-said : goal.returns-in_ok-program-in-Accepted-clause-said
returns-in_ok-program-in-Accepted-clause-said g c = search rules

pub returns-in_err-program-in-Accepted-clause-replays : goal.returns-in_err-program-in-Accepted-clause-replays
returns-in_err-program-in-Accepted-clause-replays g c =
    replays_of c.args.found c.in-Accepted.program c.in-Accepted.is
    (c.witnesses_in_reports_replay.ensures c.in-Accepted.program)

pub returns-in_ok-program-in-Accepted-clause-replays : goal.returns-in_ok-program-in-Accepted-clause-replays
returns-in_ok-program-in-Accepted-clause-replays g c =
    replays_of c.args.found c.in-Accepted.program c.in-Accepted.is
    (c.witnesses_in_reports_replay.ensures c.in-Accepted.program)
