use Rattle.std.proofs.Common.{◌≡◌, Bool, IfOk, subst, sym, ap}
use Rattle.std.specs.Prelude.{Option, Err, None}
use Rattle.access_paths.specs.Order.{PathSet}
use Rattle.transfer_ties.specs.declared.untied.Untied.{Untied}
use Rattle.transfer_ties.specs.Making.{IsGiven}
use Rattle.transfer_ties.specs.Names.{is_set, set_in}
use Rattle.transfer_ties.proofs.outcomes.same_paths.Goals as goal

pub returns-in-Ok : goal.returns-in-Ok
returns-in-Ok c =
    subst (λ (o : Option PathSet). IfOk c.same_sets.result (λ (same : Bool). same ≡ is_set o c.args.new.now))
    (sym c.in-Ok.ensures) c.same_sets.ensures

pub returns-in-Err-NoPartner : goal.returns-in-Err-NoPartner
returns-in-Err-NoPartner c =
    let none : set_in c.args.ties.now c.args.old.now ≡ None =
    subst (λ (why : Untied). IsGiven (set_in c.args.ties.now c.args.old.now) (Err why)) c.in-Err-NoPartner.field-0-is
    c.in-Err-NoPartner.ensures in
    sym (ap (λ (o : Option PathSet). is_set o c.args.new.now) none)
