use Rattle.std.proofs.Common.{List, map, refl, ◌∙◌}
use Rattle.std.specs.List.{enumerate_from}
use Rattle.access_domain.specs.declared.access.Access.{Access}
use Rattle.race_pairs.specs.Warnings.{numbered_record}
use Rattle.race_pairs.specs.MethodRecords.{all_records}
use Rattle.race_pairs.proofs.Numbered.{record_turn}
use Rattle.racer_base.proofs.Lists.{at_end}
use Rattle.race_pairs.proofs.pairing.push_records.Goals as goal

pub loop-index-preserved : goal.loop-index-preserved
loop-index-preserved c =
    record_turn _ c.args.method c.args.accesses.now c.loop-index.index c.in_ok-index.index c.index-accesses-index.result
    c.loop-index.records.items c.push.new.self.items
    c.loop-index-test.true c.index-accesses-index.is c.in_ok-index.ensures c.in_ok-push.ensures.items refl
    ∙ c.loop-index.invariant

pub returns : goal.returns
returns c =
    let made = λ (accesses : List Access).
    map (numbered_record c.args.method) (enumerate_from c.loop-index.index accesses) in
    at_end made c.args.accesses.now c.loop-index.index (all_records c.loop-index.records.items) refl
    c.loop-index-test.false
    ∙ c.loop-index.invariant
