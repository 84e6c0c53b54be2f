use Rattle.std.proofs.Common.{◌≡◌, ◌++◌, drop}
use Rattle.std.specs.List.{filter_map}
use Rattle.race_pairs.specs.Warnings.{warning_among, warnings_among}
use Rattle.race_pairs.specs.MethodRecords.{all_records}
use Rattle.race_pairs.proofs.pairing.push_partners.Given as goal

abbrev pub invariant-loop-first : goal.invariant-loop-first
invariant-loop-first l =
    let records = all_records l.records in
    let left = all_records (drop l.first-index l.records) in
    let given = warning_among l.class records in
    l.found.items ++ filter_map given left ≡ l.fn.found.items ++ warnings_among l.class records
