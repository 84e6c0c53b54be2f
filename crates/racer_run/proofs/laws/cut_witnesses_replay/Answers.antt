use Rattle.racer_run.proofs.CutWitnesses.{cut-replays}
use Rattle.racer_run.proofs.laws.cut_witnesses_replay.Goals as goal

pub returns : goal.returns
returns c = cut-replays c.one_source.ensures c.other_files_are_not_seen.ensures
