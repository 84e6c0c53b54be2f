use Rattle.std.proofs.Common.{take}
use Rattle.race_pairs.specs.MethodRecords.{all_records}
use Rattle.race_pairs.specs.Firsts.{FindsPartners}
use Rattle.race_pairs.proofs.partners.firsts_of.Given as goal

abbrev pub invariant-loop-added : goal.invariant-loop-added
invariant-loop-added l = FindsPartners l.firsts (all_records (take l.added-index l.records))
