use Rattle.std.proofs.Common.{◌≡◌, ◌∙◌, ◌++◌, List, ℕ, ap, length, string_bytes}
use Rattle.core_code.specs.Program.{core}
use Rattle.edit_session.specs.Sessions.{program_in}
use Rattle.core_code.specs.declared.program.Program.{Program}
use Rattle.racer_sources.specs.Programs.{Accepted}
use Rattle.racer_run_edits.specs.EditLines.{seen}
use Rattle.transfer_ties.specs.Again.{again}
use Rattle.racer_run.specs.Sessions.{analysed_line, edit_said, said_behind}
use Rattle.racer_run.proofs.EditSessions.{accepted_said, if_ok, on_ok}
use Rattle.racer_run.proofs.sessions.accepted.Goals as goal

pub returns-clause-program : goal.returns-clause-program
returns-clause-program g c =
    on_ok _ c.said_behind.result (c.in_ok-again.ensures.program ∙ c.in_ok-new.ensures.ok)

pub returns-clause-said : goal.returns-clause-said
returns-clause-said g c =
    let last = core (program_in c.args.session.now) in
    let line = string_bytes c.put_analysed.new.text in
    let said = c.in_ok-report_of.field-0 in
    let program = c.in_ok-new.ensures.ok in
    if_ok c.said_behind.result (said_behind line said)
    (λ new. new ≡ edit_said last (seen c.args.edit) (Accepted (core c.args.program)))
    (accepted_said last (core (program_in c.next.new.self)) (seen c.args.edit) (core c.args.program) line
    c.in_ok-again.again said (ap core (c.in_ok-again.ensures.program ∙ program))
    (c.in_ok-put_analysed.ensures
    ∙ ap (λ (t : List ℕ). t ++ analysed_line c.args.edit.file.now c.in_ok-again.again) c.new-line.ensures.bytes)
    (c.in_ok-again.ensures.count ∙ ap (λ (p : Program). length (again last (core p))) program)
    c.in_ok-report_of.ensures)
    c.said_behind.ensures
