use Rattle.std.proofs.Common.{sym, ap, ◌∙◌}
use Rattle.owner_domain.specs.declared.value.Value.{Value}
use Rattle.owner_domain.specs.Values.{along}
use Rattle.owner_domain.proofs.Along.{along-owned, along-unnamed}
use Rattle.owner_domain.proofs.value.Value.along.Goals as goal

pub returns-in-Owned : goal.returns-in-Owned
returns-in-Owned c =
    sym (ap (λ (v : Value). along v c.args.fields.now) c.in-Owned.is ∙ along-owned c.args.fields.now)

pub returns-in-Unnamed : goal.returns-in-Unnamed
returns-in-Unnamed c =
    sym (ap (λ (v : Value). along v c.args.fields.now) c.in-Unnamed.is ∙ along-unnamed c.args.fields.now)
