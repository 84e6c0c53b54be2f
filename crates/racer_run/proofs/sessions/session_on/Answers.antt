use Rattle.std.proofs.Common.{◌≡◌, ◌∙◌, ap, refl, rules}
use Rattle.std.proofs.lemmas.List.{drop_all}
use Rattle.core_code.specs.Program.{core}
use Rattle.edit_session.specs.Sessions.{program_in}
use Rattle.racer_base.specs.declared.outside.FolderFault.TheVariants.{Memory}
use Rattle.racer_sources.specs.Finding.{FailsByMemory}
use Rattle.racer_run.specs.declared.output.RunOutput.{RunOutput}
use Rattle.racer_run.specs.Statuses.{is_edits_status}
use Rattle.racer_sources.proofs.Faults.{keeps_on}
use Rattle.racer_run.proofs.EditSessions.{goes_init, goes_more, goes_said, report_status_said, steady_step}
use Rattle.racer_run.proofs.EditSessions.{same_fault, still_named}
use Rattle.racer_run.proofs.sessions.session_on.Goals as goal

pub loop-edit-init : goal.loop-edit-init
loop-edit-init g c =
    let last = core (program_in c.in_ok-session.session) in
    let said = c.in_ok-said.said in
    record {
      status = report_status_said last said c.in_ok-said.ensures;
      count = refl;
      keeps = record { told = refl; stays = λ steady. steady };
      names = refl;
      goes = goes_init (g.F.Folder.told c.args.folder.now) (core c.args.program) c.args.edits.now last c.args.sources
          said (ap core (c.in_ok-session.ensures.program ∙ c.in_ok-new.ensures.ok)) c.in_ok-said.ensures;
    }

pub edited-requires : goal.edited-requires
edited-requires g c = (
  search rules,
  still_named c.args.sources c.loop-edit.sources c.args.edits.now c.loop-edit.edit-index _
      c.loop-edit.invariant.names c.loop-edit-test.true c.requires,
)

pub returns-in_err-part-clause-steady : goal.returns-in_err-part-clause-steady
returns-in_err-part-clause-steady g c = λ steady.
    let result = c.from_residual-in_err-part.result in
    let fault = c.in_err-part.field-0.0 in
    steady_step (g.F.Folder.told c.args.folder.now) (g.F.Folder.told c.loop-edit.folder) c.args.edits.now
    c.loop-edit.edit-index _ (fault ≡ Memory) (FailsByMemory result) c.loop-edit.invariant.keeps.told
    c.loop-edit-test.true (same_fault result fault c.from_residual-in_err-part.ensures.1)
    (c.in_err-part.ensures.steady (c.loop-edit.invariant.keeps.stays steady))

pub loop-edit-preserved : goal.loop-edit-preserved
loop-edit-preserved g c =
    let before = c.loop-edit.invariant in
    let last = core (program_in c.loop-edit.session) in
    let next = core (program_in c.edited.new.session) in
    let part = c.in_ok-part.part in
    record {
      status = ap (λ (s : RunOutput). is_edits_status s.status) c.in_ok-said-2.ensures
          ∙ c.in_ok-part.ensures.status;
      count = c.in_ok-part.ensures.count ∙ before.count;
      keeps = keeps_on before.keeps c.edited.ensures.keeps;
      names = c.edited.ensures.names ∙ before.names;
      goes = goes_more (g.F.Folder.told c.args.folder.now) (g.F.Folder.told c.loop-edit.folder) (core c.args.program)
          c.args.edits.now c.loop-edit.edit-index _ c.args.sources c.loop-edit.sources c.edited.new.sources last next
          c.loop-edit.said part _ before.keeps.told c.loop-edit-test.true before.goes c.in_ok-part.ensures.step
          c.in_ok-said-2.ensures;
    }

pub returns-clause-said : goal.returns-clause-said
returns-clause-said g c =
    goes_said (g.F.Folder.told c.args.folder.now) (core c.args.program) c.args.edits.now c.loop-edit.edit-index
    c.args.sources c.loop-edit.sources (core (program_in c.loop-edit.session)) c.loop-edit.said
    (drop_all c.loop-edit.edit-index c.args.edits.now c.loop-edit-test.false) c.loop-edit.invariant.goes
