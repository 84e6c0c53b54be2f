use Rattle.std.proofs.Common.{sym, ap, subst, ◌∙◌}
use Rattle.owner_domain.specs.declared.value.Value.TheVariants.{Named}
use Rattle.owner_domain.specs.Values.{has_known_root}
use Rattle.call_subst.specs.Numbered.{read_values, AreKnown}
use Rattle.call_subst.proofs.KnownRoots.{value-known, number-known}
use Rattle.call_subst.proofs.substitution.substitute_value.Goals as goal

pub returns-in_ok-value_named-in-Named-clause-known : goal.returns-in_ok-value_named-in-Named-clause-known
returns-in_ok-value_named-in-Named-clause-known c =
    let value = c.in_ok-value_named-in-Named in
    number-known c.number_value.result c.number_value.new.table value.field-0
    (AreKnown (read_values c.args.table.now c.args.actuals.now)) c.number_value.ensures.value
    (λ known.
    ap has_known_root value.ensures
    ∙ value-known c.is_static.result c.as_slice.result.now
    (subst AreKnown (sym (c.as_slice.ensures.value ∙ c.in_ok-values-in-Named.ensures)) known)
    (Named c.in-Named.path))
