use Rattle.core_code.specs.Program.{core}
use Rattle.edit_session.specs.Sessions.{program_in}
use Rattle.racer_sources.specs.Programs.{source_of}
use Rattle.racer_run_edits.specs.EditLines.{seen}
use Rattle.racer_run.proofs.EditSessions.{edit_status, headline_of, replays_of, step_said}
use Rattle.racer_run.proofs.sessions.edited.Goals as goal

pub returns-clause-status : goal.returns-clause-status
returns-clause-status g c =
    edit_status (core (program_in c.args.session.now)) (seen c.args.edit) (source_of c.in_ok-found.found)
    c.in_ok-edit_said.field-0 c.in_ok-edit_said.ensures.said

pub returns-clause-step : goal.returns-clause-step
returns-clause-step g c =
    let found = c.in_ok-found.found in
    step_said (g.F.Folder.told c.args.folder.now) c.args.edit c.args.sources.now c.replace.new.self
    c.in_ok-bytes.bytes.items found (core (program_in c.args.session.now)) (core (program_in c.edit_said.new.session))
    c.in_ok-edit_said.field-0 c.in_ok-bytes.ensures.bytes c.requires c.replace.ensures.kept c.in_ok-found.ensures
    (headline_of c.whole_warnings_race.ensures found) (replays_of c.witnesses_in_reports_replay.ensures found)
    c.in_ok-edit_said.ensures.said c.in_ok-edit_said.ensures.program
