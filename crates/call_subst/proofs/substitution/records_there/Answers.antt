use Rattle.std.proofs.Common.{◌≡◌, ◌+◌, ◌<◌, ◌≤◌, List, [], drop, length, sym, ap, subst, ◌∙◌, arith}
use Rattle.std.proofs.lemmas.List.{drop_all}
use Rattle.std.proofs.lemmas.Option.{get_or_from_slice_get}
use Rattle.access_paths.proofs.Numbers.{goes_on-same, goes_on-trans}
use Rattle.access_domain.specs.declared.access.Access.{Access}
use Rattle.access_domain.specs.declared.numbered.NumberedAccess.{NumberedAccess}
use Rattle.access_domain.specs.Additions.{keys_added}
use Rattle.access_domain.specs.Numbered.{read_accesses, AreNumbered}
use Rattle.access_domain.proofs.AdditionLemmas.{keys_added-nil}
use Rattle.call_subst.specs.Calls.{records_at}
use Rattle.call_subst.proofs.Turns.{record_turn}
use Rattle.call_subst.proofs.substitution.records_there.Goals as goal

pub loop-index-init : goal.loop-index-init
loop-index-init c =
    let call = c.args.call.now in
    let table = c.args.table.now in
    record {
      all = ap (λ (kept : List NumberedAccess). keys_added (read_accesses table kept)
          (records_at call 0 c.args.records.now)) c.new-kept.ensures;
      numbers = subst (AreNumbered table) (sym c.new-kept.ensures) tt;
      count = omega (arith, ap length c.new-kept.ensures);
      table = goes_on-same table;
      each_once = λ once. once;
    }

pub loop-index-preserved : goal.loop-index-preserved
loop-index-preserved c =
    let call = c.args.call.now in
    let records : List Access = c.args.records.now in
    let at = c.loop-index in
    let r : Access = c.get.result.now in
    let within : at.index < length records = omega (arith, c.len-index-end.ensures.count) in
    let added = c.in_ok-add_record.ensures in
    let count : length c.add_record.new.kept ≤ length at.kept + 1 = added.count in
    record {
      all =
          ap (λ (kept : List Access). keys_added kept (records_at call (at.index + 1) (drop (at.index + 1) records)))
          added.all
          ∙ record_turn call (read_accesses at.table at.kept) records at.index r within
          (sym (get_or_from_slice_get records at.index r r c.get.ensures))
          ∙ at.invariant.all;
      numbers = added.numbers;
      count = omega arith;
      table = goes_on-trans c.args.table.now at.table c.add_record.new.table at.invariant.table added.table;
      each_once = λ once. added.each_once (at.invariant.each_once once);
    }

pub returns-clause-all : goal.returns-clause-all
returns-clause-all c =
    let call = c.args.call.now in
    let records : List Access = c.args.records.now in
    let at = c.loop-index in
    let nothing : drop at.index records ≡ [] =
    drop_all at.index records (omega (arith, c.len-index-end.ensures.count)) in
    ap (read_accesses at.table) c.into_vec.ensures.records
    ∙ sym (ap (λ (left : List Access). keys_added (read_accesses at.table at.kept) (records_at call at.index left))
    nothing)
    ∙ at.invariant.all
    ∙ keys_added-nil (records_at call 0 records)

pub returns-clause-numbers : goal.returns-clause-numbers
returns-clause-numbers c =
    subst (AreNumbered c.loop-index.table) (sym c.into_vec.ensures.records) c.loop-index.invariant.numbers
