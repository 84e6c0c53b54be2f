use Rattle.std.proofs.Common.{◌≡◌, codes, sym, ap, subst, ◌∙◌}
use Rattle.core_code.specs.Program.{core}
use Rattle.witness_text_files.specs.Answers.{IsWitnessFault, seen}
use Rattle.witness_text.specs.Verdicts.{verdict}
use Rattle.racer_run.specs.declared.output.RunOutput.{RunOutput}
use Rattle.racer_run.specs.Replays.{json_of, json_said, not_a_witness, verdict_said}
use Rattle.racer_run.proofs.JsonBytes.{said-file, said-no_json, said-other}
use Rattle.racer_run.proofs.Tails.{if_ok}
use Rattle.racer_run.proofs.replays.read_and_judged.Goals as goal

pub returns-in-Ok : goal.returns-in-Ok
returns-in-Ok c =
    let program = core c.args.program.now in
    let bytes = c.args.bytes.now in
    let file = seen c.in-Ok.file in
    if_ok c.judged.result (verdict_said (verdict program file))
    (λ (said : RunOutput). said ≡ json_said program (json_of bytes))
    (sym (said-file program bytes file c.in-Ok.ensures.ok)) c.judged.ensures

pub returns-in-Err-NotJson : goal.returns-in-Err-NotJson
returns-in-Err-NotJson c =
    let program = core c.args.program.now in
    let bytes = c.args.bytes.now in
    if_ok c.not_a_witness.result (not_a_witness (codes "json"))
    (λ (said : RunOutput). said ≡ json_said program (json_of bytes))
    (sym (said-no_json program bytes
    (subst (IsWitnessFault bytes) c.in-Err-NotJson.field-0-is c.in-Err-NotJson.ensures.err))) c.not_a_witness.ensures

pub returns-in-Err-NotAWitness : goal.returns-in-Err-NotAWitness
returns-in-Err-NotAWitness c =
    let program = core c.args.program.now in
    let bytes = c.args.bytes.now in
    if_ok c.not_a_witness-in-Err-NotAWitness.result (not_a_witness c.field_name.result.now)
    (λ (said : RunOutput). said ≡ json_said program (json_of bytes))
    (ap not_a_witness c.field_name.ensures
    ∙ sym (said-other program bytes c.in-Err-NotAWitness.field
    (subst (IsWitnessFault bytes) c.in-Err-NotAWitness.field-0-is c.in-Err-NotAWitness.ensures.err)))
    c.not_a_witness-in-Err-NotAWitness.ensures
