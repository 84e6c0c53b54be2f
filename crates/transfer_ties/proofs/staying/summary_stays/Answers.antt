use Rattle.std.proofs.Common.{◌≡◌, Bool, List, Some, subst}
use Rattle.std.specs.Prelude.{IsTrue}
use Rattle.std.proofs.lemmas.Result.{IfOk-weaker}
use Rattle.access_domain.specs.declared.access.Access.{Access}
use Rattle.transfer_ties.specs.Names.{set_in}
use Rattle.transfer_ties.specs.Partners.{accesses_in, summary_in}
use Rattle.transfer_ties.proofs.Kept.{summary_kept}
use Rattle.transfer_ties.proofs.staying.summary_stays.Goals as goal

pub returns : goal.returns
returns c =
    let ties = c.args.ties.now in
    let s = c.args.summary.now in
    IfOk-weaker c.wobbly_stay.result (λ (stay : Bool). IsTrue stay → set_in ties s.wobbly ≡ Some s.wobbly)
    (λ (stay : Bool). IsTrue stay → summary_in ties s ≡ Some s)
    (λ stay kept is. summary_kept ties s
    (subst (λ (xs : List Access). accesses_in ties xs ≡ Some xs) c.as_slice.ensures
    (c.accesses_stay.ensures c.if-not-accesses_stay.false)) (kept is)
    (c.value_stays.ensures c.if-not-value_stays.false))
    c.wobbly_stay.ensures
