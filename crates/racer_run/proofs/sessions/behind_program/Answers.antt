use Rattle.std.proofs.Common.{◌∙◌, List, Ok, ap, map, rules, sym}
use Rattle.core_code.specs.Program.{core}
use Rattle.racer_run_edits.specs.declared.edit_lines.EditLine.{EditLine}
use Rattle.racer_run_edits.specs.EditLines.{seen}
use Rattle.racer_run.proofs.EditSessions.{not_edits_status}
use Rattle.racer_run.proofs.EditRequests.{edits_said, edits_steady, no_edits_said, sources_named}
use Rattle.racer_run.proofs.sessions.behind_program.Goals as goal

pub session_on-requires : goal.session_on-requires
session_on-requires g c = (
  search rules,
  sources_named c.args.sources c.args.bytes.now c.as_slice.result.now
      (c.in-Ok.ensures ∙ ap (λ (es : List EditLine). Ok (map seen es)) (sym c.as_slice.ensures.value)),
)

pub returns-in-Ok-clause-said : goal.returns-in-Ok-clause-said
returns-in-Ok-clause-said g c =
    edits_said (g.F.Folder.told c.args.folder.now) c.session_on.result (core c.args.program) c.args.sources
    c.args.bytes.now c.as_slice.result.now
    (c.in-Ok.ensures ∙ ap (λ (es : List EditLine). Ok (map seen es)) (sym c.as_slice.ensures.value))
    c.session_on.ensures.said

pub returns-in-Ok-clause-steady : goal.returns-in-Ok-clause-steady
returns-in-Ok-clause-steady g c = λ steady.
    edits_steady (g.F.Folder.told c.args.folder.now) c.session_on.result c.args.sources c.args.bytes.now
    c.as_slice.result.now
    (c.in-Ok.ensures ∙ ap (λ (es : List EditLine). Ok (map seen es)) (sym c.as_slice.ensures.value))
    (c.session_on.ensures.steady steady)

pub returns-in_ok-not_edits-in-Err-clause-said : goal.returns-in_ok-not_edits-in-Err-clause-said
returns-in_ok-not_edits-in-Err-clause-said g c =
    no_edits_said (g.F.Folder.told c.args.folder.now) c.in-Err.fault (core c.args.program) c.args.sources
    c.args.bytes.now c.in_ok-not_edits-in-Err.field-0 c.in-Err.ensures c.in_ok-not_edits-in-Err.ensures

pub returns-in_ok-not_edits-in-Err-clause-status : goal.returns-in_ok-not_edits-in-Err-clause-status
returns-in_ok-not_edits-in-Err-clause-status g c =
    not_edits_status c.in-Err.fault c.in_ok-not_edits-in-Err.field-0 c.in_ok-not_edits-in-Err.ensures
