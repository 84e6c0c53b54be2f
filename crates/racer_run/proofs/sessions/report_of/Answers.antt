use Rattle.std.proofs.Common.{◌≡◌, ◌∙◌, subst}
use Rattle.std.specs.Prelude.{IfOk}
use Rattle.core_code.specs.Program.{core}
use Rattle.core_code.specs.declared.program.Program.{Program}
use Rattle.racer_sources.specs.Programs.{Accepted}
use Rattle.racer_run.specs.RunOutputs.{said_from}
use Rattle.racer_run.specs.Sessions.{plain_mode}
use Rattle.racer_run.proofs.sessions.report_of.Goals as goal

pub returns : goal.returns
returns g c =
    subst (λ (p : Program). IfOk c.said_of.result (λ said. said ≡ said_from plain_mode (Accepted (core p))))
    (c.deref.ensures ∙ c.program.ensures) c.said_of.ensures.said
