use Rattle.std.proofs.Common.{◌≡◌, Bool, true, ◌&&◌, sym, ◌∙◌}
use Rattle.std.specs.FinSet as set
use Rattle.std.proofs.lemmas.Result.{IfOk-weaker}
use Rattle.transfer_ties.specs.Names.{same_sets}
use Rattle.transfer_ties.proofs.outcomes.same_sets.Goals as goal

pub returns : goal.returns
returns c =
    let some = c.args.some.now in
    let others = c.args.others.now in
    let first : true ≡ set.is_subset some others = sym c.if-not-all.false ∙ c.in_ok-all.ensures in
    IfOk-weaker c.are_among-2.result (λ (all : Bool). all ≡ set.is_subset others some)
    (λ (same : Bool). same ≡ same_sets some others)
    (λ all is. is ∙ (λ i. first i && set.is_subset others some))
    c.are_among-2.ensures
