use Rattle.std.proofs.Common.{◌≡◌, drop}
use Rattle.std.specs.List.{list_any}
use Rattle.access_domain.specs.Records.{same_key}
use Rattle.race_pairs.specs.Warnings.{MethodRecord}
use Rattle.race_pairs.specs.MethodRecords.{all_records}
use Rattle.race_pairs.proofs.partners.has_key.Given as goal

abbrev pub invariant-loop-first : goal.invariant-loop-first
invariant-loop-first l =
    let test = λ (first : MethodRecord). same_key first.access l.access in
    list_any test (all_records (drop l.first-index l.group)) ≡ list_any test (all_records l.group)
