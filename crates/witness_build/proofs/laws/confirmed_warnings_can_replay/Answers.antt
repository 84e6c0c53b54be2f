use Rattle.witness_build.proofs.ReplayedRuns.{can-replay}
use Rattle.witness_build.proofs.laws.confirmed_warnings_can_replay.Goals as goal

pub returns : goal.returns
returns c = can-replay
