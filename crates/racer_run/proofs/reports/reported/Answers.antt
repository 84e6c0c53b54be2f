use Rattle.std.proofs.Common.{◌≡◌, ℕ, IfOk, List, ap, ◌∙◌, subst}
use Rattle.std.specs.Arc.{arc_value}
use Rattle.core_code.specs.declared.program.Program.{Program}
use Rattle.core_code.specs.Program.{core}
use Rattle.racer_sources.specs.Programs.{Accepted}
use Rattle.summary_store.specs.declared.machine.Event.{Event}
use Rattle.racer_run.specs.RunOutputs.{said_from, said_with, typings_behind, with_tail}
use Rattle.racer_run.specs.declared.output.RunOutput.{RunOutput}
use Rattle.racer_words.specs.Requests.{wanted_of}
use Rattle.racer_run.specs.Tails.{lines_of}
use Rattle.racer_run.proofs.Tails.{with_lines}
use Rattle.racer_run.proofs.reports.reported.Goals as goal

pub returns-clause-said : goal.returns-clause-said
returns-clause-said g c =
    let wanted = wanted_of c.args.wanted.now in
    let program = arc_value c.args.program.now in
    let said = c.in_ok-said.said in
    let result = c.with_history.result in
    let plain_is = c.in_ok-plain.ensures.said
    ∙ ap (λ (p : Program). said_from wanted.mode (Accepted (core p))) c.deref.ensures in
    let typed : Program → List ℕ = λ p. typings_behind wanted.typed (Accepted (core p)) in
    let is : said ≡ said_with wanted (Accepted (core program)) =
    c.in_ok-said.ensures
    ∙ ap (λ (p : Program). with_tail c.in_ok-plain.plain (typed p)) c.deref-2.ensures
    ∙ ap (λ (s : RunOutput). with_tail s (typed program)) plain_is in
    let ends : Program → List Event → Type 0 =
    λ p history. IfOk result (λ new. new ≡ with_tail said (lines_of wanted.history (core p) history)) in
    let read = subst (λ (p : Program). ends p c.as_slice.result.now) c.deref-3.ensures c.with_history.ensures in
    let ended = subst (λ (history : List Event). ends program history) c.as_slice.ensures.value read in
    with_lines result (core program) wanted said c.in_ok-history.field-0.history.items is c.in_ok-history.ensures.legal
    c.in_ok-history.ensures.complete ended
