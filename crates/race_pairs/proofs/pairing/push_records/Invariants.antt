use Rattle.std.proofs.Common.{◌≡◌, ◌++◌, map, drop}
use Rattle.std.specs.List.{enumerate_from}
use Rattle.race_pairs.specs.Warnings.{numbered_record, numbered_records}
use Rattle.race_pairs.specs.MethodRecords.{all_records}
use Rattle.race_pairs.proofs.pairing.push_records.Given as goal

abbrev pub invariant-loop-index : goal.invariant-loop-index
invariant-loop-index l =
    let rest = map (numbered_record l.method) (enumerate_from l.index (drop l.index l.accesses)) in
    all_records l.records.items ++ rest ≡ all_records l.fn.records.items ++ numbered_records l.method l.accesses
