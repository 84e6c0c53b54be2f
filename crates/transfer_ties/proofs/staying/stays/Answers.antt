use Rattle.std.proofs.Common.{◌≡◌, Bool, IfOk, Some, ap, subst, sym}
use Rattle.std.specs.Prelude.{IsTrue, option_map}
use Rattle.std.proofs.lemmas.Result.{IfOk-weaker}
use Rattle.access_domain.specs.declared.summary.Outcome.{Outcome}
use Rattle.access_domain.specs.declared.summary.Outcome.TheVariants as code
use Rattle.transfer_ties.specs.Partners.{renumbered, summary_in}
use Rattle.transfer_ties.proofs.staying.stays.Goals as goal

pub returns-in-Summary : goal.returns-in-Summary
returns-in-Summary c =
    let ties = c.args.ties.now in
    let s = c.in-Summary.summary in
    subst (λ (o : Outcome). IfOk c.summary_stays.result
    (λ (stay : Bool). IsTrue stay → renumbered ties o ≡ Some o)) (sym c.in-Summary.is)
    (IfOk-weaker c.summary_stays.result (λ (stay : Bool). IsTrue stay → summary_in ties s ≡ Some s)
    (λ (stay : Bool). IsTrue stay → renumbered ties (code.Summary s) ≡ Some (code.Summary s))
    (λ stay kept is. ap (option_map code.Summary) (kept is))
    c.summary_stays.ensures)
