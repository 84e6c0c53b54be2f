use Rattle.std.proofs.Common.{◌≡◌, Bool, true, false, ◌&&◌, sym, ◌∙◌}
use Rattle.std.proofs.Math.Bool.{and-false}
use Rattle.std.proofs.lemmas.Result.{IfOk-weaker}
use Rattle.transfer_ties.specs.Names.{is_set, same_records, same_summary, same_value, set_in}
use Rattle.transfer_ties.proofs.SameOutcomes.{with_true}
use Rattle.transfer_ties.proofs.outcomes.same_summary.Goals as goal

pub returns-then-not-same_records : goal.returns-then-not-same_records
returns-then-not-same_records c =
    let ties = c.args.ties.now in
    let s = c.args.old.now in
    let t = c.args.new.now in
    let records : false ≡ same_records ties s.accesses t.accesses =
    sym c.if-not-same_records.true ∙ c.same_records.ensures
    ∙ (λ i. same_records ties (c.as_slice.ensures i) (c.as_slice-2.ensures i)) in
    λ i. records i && is_set (set_in ties s.wobbly) t.wobbly && same_value ties s.result t.result

pub returns-then-not-same_value : goal.returns-then-not-same_value
returns-then-not-same_value c =
    let ties = c.args.ties.now in
    let s = c.args.old.now in
    let t = c.args.new.now in
    let front = same_records ties s.accesses t.accesses && is_set (set_in ties s.wobbly) t.wobbly in
    let value : false ≡ same_value ties s.result t.result =
    sym c.if-not-same_value.true ∙ c.same_value.ensures in
    sym (and-false front) ∙ (λ i. front && value i)

pub returns : goal.returns
returns c =
    let ties = c.args.ties.now in
    let s = c.args.old.now in
    let t = c.args.new.now in
    let paths = is_set (set_in ties s.wobbly) t.wobbly in
    let records : true ≡ same_records ties s.accesses t.accesses =
    sym c.if-not-same_records.false ∙ c.same_records.ensures
    ∙ (λ i. same_records ties (c.as_slice.ensures i) (c.as_slice-2.ensures i)) in
    let value : true ≡ same_value ties s.result t.result =
    sym c.if-not-same_value.false ∙ c.same_value.ensures in
    IfOk-weaker c.same_paths.result (λ (same : Bool). same ≡ paths)
    (λ (same : Bool). same ≡ same_summary ties s t)
    (λ same is. is ∙ sym (with_true paths) ∙ (λ i. records i && paths && value i))
    c.same_paths.ensures
