use Rattle.std.proofs.Common.{◌≡◌, ◌++◌, map, drop}
use Rattle.std.specs.List.{enumerate_from, flat_map}
use Rattle.core_code.specs.Core.{method_of}
use Rattle.core_code.specs.Program.{core}
use Rattle.race_pairs.specs.Warnings.{entry_records, records_in}
use Rattle.race_pairs.specs.MethodRecords.{all_records}
use Rattle.race_pairs.proofs.pairing.records_in.Given as goal

abbrev pub invariant-loop-number : goal.invariant-loop-number
invariant-loop-number l =
    let rest = enumerate_from l.number (map method_of (drop l.number l.method-items)) in
    all_records l.records.items ++ flat_map (entry_records (core l.program) l.class) rest ≡ records_in
    (core l.program) l.class
