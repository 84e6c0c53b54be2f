use Rattle.std.proofs.Common.{◌≡◌, Bool, ◌∙◌}
use Rattle.std.proofs.lemmas.Result.{IfOk-weaker}
use Rattle.core_code.specs.Core.{Core}
use Rattle.transfer_ties.specs.Names as named
use Rattle.transfer_ties.specs.Outcomes.{same_outcome}
use Rattle.transfer_ties.specs.Partners.{AreTies}
use Rattle.transfer_ties.proofs.SameOutcomes.{tied_outcome}
use Rattle.transfer_ties.proofs.outcomes.same_outcome.Goals as goal

pub returns : goal.returns
returns c =
    let ties = c.args.ties.now in
    let old = c.args.old.now in
    let new = c.args.new.now in
    IfOk-weaker c.same_by_partners.result (λ (same : Bool). same ≡ named.same_outcome ties old new)
    (λ (same : Bool). (p q : Core) → AreTies p q ties → same ≡ same_outcome p q old new)
    (λ same is p q are. is ∙ tied_outcome p q ties are old new)
    c.same_by_partners.ensures
