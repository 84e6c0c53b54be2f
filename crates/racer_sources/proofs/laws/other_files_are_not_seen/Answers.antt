use Rattle.racer_sources.proofs.OtherFiles.{one_program}
use Rattle.racer_sources.proofs.laws.other_files_are_not_seen.Goals as goal

pub returns : goal.returns
returns c containers a b program names bytes is = one_program containers a b program names bytes is
