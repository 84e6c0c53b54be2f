use Rattle.std.proofs.Common.{◌≡◌, true}
use Rattle.core_code.specs.Program.{core}
use Rattle.racer_run.specs.declared.output.RunOutput.{RunOutput}
use Rattle.racer_run.specs.Replays.{json_of, json_said}
use Rattle.racer_run.specs.Statuses.{is_replay_status}
use Rattle.racer_run.proofs.JsonBytes.{json-status}
use Rattle.racer_run.proofs.Tails.{if_ok}
use Rattle.racer_run.proofs.replays.replayed.Goals as goal

pub returns-clause-status : goal.returns-clause-status
returns-clause-status c =
    let program = core c.args.program.now in
    let bytes = c.args.bytes.now in
    if_ok c.read_and_judged.result (json_said program (json_of bytes))
    (λ (said : RunOutput). is_replay_status said.status ≡ true)
    (json-status program (json_of bytes)) c.read_and_judged.ensures
