use Rattle.std.proofs.Common.{◌≡◌, Some, ap, subst, sym}
use Rattle.std.specs.Prelude.{option_map}
use Rattle.owner_domain.specs.declared.value.Value.{Value}
use Rattle.owner_domain.specs.declared.value.Value.TheVariants.{Named}
use Rattle.transfer_ties.specs.Partners.{value_in}
use Rattle.transfer_ties.proofs.staying.value_stays.Goals as goal

pub returns-in-Named : goal.returns-in-Named
returns-in-Named c = λ stays.
    subst (λ (v : Value). value_in c.args.ties.now v ≡ Some v) (sym c.in-Named.is)
    (ap (option_map Named) (c.path_stays.ensures stays))
