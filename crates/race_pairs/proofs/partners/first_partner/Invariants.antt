use Rattle.std.proofs.Common.{◌≡◌, drop}
use Rattle.std.specs.List.{find}
use Rattle.race_pairs.specs.Warnings.{MethodRecord, conflicts}
use Rattle.race_pairs.specs.MethodRecords.{all_records}
use Rattle.race_pairs.proofs.partners.first_partner.Given as goal

abbrev pub invariant-loop-partner : goal.invariant-loop-partner
invariant-loop-partner l =
    let test = λ (partner : MethodRecord). conflicts l.first partner.access in
    find test (all_records (drop l.partner-index l.records)) ≡ find test (all_records l.records)
