use Rattle.std.proofs.Common.{◌≡◌, true}
use Rattle.core_code.specs.Program.{core}
use Rattle.edit_session.specs.Sessions.{program_in}
use Rattle.racer_sources.specs.Finding.{KeepsMeaning}
use Rattle.racer_run.specs.Statuses.{is_edits_status}
use Rattle.racer_run.proofs.EditSessions.{GoesFrom}
use Rattle.racer_run.proofs.sessions.session_on.Given as goal

abbrev pub invariant-loop-edit : goal.invariant-loop-edit
invariant-loop-edit g l =
    let tells = g.F.Folder.told in
    let faults = g.F.Folder.faults in
    record {
      status : is_edits_status l.said.status ≡ true;
      count : faults l.folder ≡ faults l.fn.folder;
      keeps : KeepsMeaning tells g.F.Folder.steady l.fn.folder l.folder;
      names : l.sources.names ≡ l.fn.sources.names;
      goes : GoesFrom (tells l.fn.folder) (core l.fn.program) l.edits l.edit-index l.fn.sources
          (core (program_in l.session)) l.sources l.said;
    }
