use Rattle.std.proofs.Common.{◌≡◌, List, Some, subst}
use Rattle.racer_base.specs.declared.ids.FieldId.{FieldId}
use Rattle.transfer_ties.specs.Partners.{fields_in}
use Rattle.transfer_ties.proofs.Kept.{path_kept}
use Rattle.transfer_ties.proofs.staying.path_stays.Goals as goal

pub returns : goal.returns
returns c = λ stays.
    let ties = c.args.ties.now in
    path_kept ties c.args.path.now (c.root_stays.ensures c.if-not-root_stays.false)
    (subst (λ (fs : List FieldId). fields_in ties fs ≡ Some fs) c.as_slice.ensures (c.fields_stay.ensures stays))
