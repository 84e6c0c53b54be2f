use Rattle.std.proofs.Common.{◌≡◌, ◌++◌, List, ap, sym, subst, ◌∙◌}
use Rattle.std.specs.Prelude.{OnOk}
use Rattle.race_pairs.specs.Warnings.{MethodRecord, warnings_among}
use Rattle.race_pairs.specs.MethodRecords.{all_records}
use Rattle.race_pairs.specs.Firsts.{FindsPartners}
use Rattle.race_pairs.proofs.pairing.push_warnings.Goals as goal

pub push_partners-requires : goal.push_partners-requires
push_partners-requires c =
    let same = ap all_records (c.as_slice.ensures.value ∙ sym c.as_slice-2.ensures.value) in
    subst (FindsPartners c.in_ok-firsts.firsts) same c.in_ok-firsts.ensures

pub returns : goal.returns
returns c =
    let same = ap all_records c.as_slice-2.ensures.value ∙ c.in_ok-records.ensures in
    let puts = λ (records : List MethodRecord).
    c.push_partners.new.found.items ≡ c.args.found.now.items ++ warnings_among c.args.class records in
    subst (λ records. OnOk c.push_partners.result (puts records)) same c.push_partners.ensures
