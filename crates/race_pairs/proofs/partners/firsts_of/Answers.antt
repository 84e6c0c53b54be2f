use Rattle.std.proofs.Common.{◌≡◌, ◌+◌, List, [], ◌∷◌, ◌++◌, take, sym, ap, subst, ◌∙◌, arith}
use Rattle.std.proofs.lemmas.List.{map-append, take_more}
use Rattle.race_pairs.specs.declared.method_access.MethodAccess.{MethodAccess}
use Rattle.race_pairs.specs.Warnings.{MethodRecord}
use Rattle.race_pairs.specs.MethodRecords.{record_of, all_records}
use Rattle.race_pairs.specs.Firsts.{FindsPartners}
use Rattle.race_pairs.proofs.SamePartner.{adds_a_first}
use Rattle.race_pairs.proofs.partners.firsts_of.Goals as goal

pub loop-added-preserved : goal.loop-added-preserved
loop-added-preserved c =
    let records = c.args.records.now in
    let index = c.loop-added.added-index in
    let new = c.add_record.new.firsts in
    let added : MethodAccess = c.added-item.result in
    let before : List MethodRecord = all_records (take index records) in
    let more : take (index + 1) records ≡ take index records ++ added ∷ [] =
    take_more records index added (omega arith)
    ∙ ap (λ (a : MethodAccess). take index records ++ a ∷ []) (sym c.added-item.is)
    in
    let seen : all_records (take (index + 1) records) ≡ before ++ record_of added ∷ [] =
    ap all_records more ∙ map-append record_of (take index records) (added ∷ [])
    in
    subst (FindsPartners new) (sym seen)
    (adds_a_first c.loop-added.firsts new before (record_of added) c.in_ok-add_record.ensures c.loop-added.invariant)
