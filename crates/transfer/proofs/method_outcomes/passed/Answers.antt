use Rattle.std.proofs.Common.{List, ◌+◌, ◌++◌, drop, sym, ap, subst, ◌∙◌}
use Rattle.access_paths.proofs.Numbers.{goes_on-trans}
use Rattle.racer_base.specs.declared.ids.Kind.{Kind}
use Rattle.racer_base.specs.declared.ids.Kind.TheVariants.{Plain}
use Rattle.owner_domain.specs.Numbered.{read_value, AllInRange}
use Rattle.core_code.specs.Core.{method_of}
use Rattle.access_domain.specs.Summaries.{parameter_values, passed_values}
use Rattle.call_subst.specs.Numbered.{read_values}
use Rattle.transfer.proofs.Beginnings.{values-more, values-more-in}
use Rattle.transfer.proofs.Parameters.{one_parameter, all_parameters}
use Rattle.transfer.proofs.method_outcomes.passed.Goals as goal

pub loop-number-preserved : goal.loop-number-preserved
loop-number-preserved c =
    let at = c.loop-number in
    let i = at.number in
    let items = at.values.items in
    let made = read_values at.table items in
    let new = c.parameter.new.table in
    let one = c.in_ok-parameter in
    let v = one.field-0 in
    let more = read_values new c.push-in-loop-number.new.self.items in
    let is = c.as_slice-kind-items.ensures in
    let put = c.in_ok-push-2.ensures.items in
    record {
      values =
          ap (λ (kinds : List Kind). more ++ parameter_values (i + 1) (drop (i + 1) kinds)) (sym is)
          ∙ one_parameter i c.as_slice-kind-items.result.now made more (passed_values (method_of c.args.method.now))
          Plain
          (read_value new v) c.loop-number-test.true one.ensures.value
          (ap (read_values new) put ∙ values-more at.table new one.ensures.table items v at.invariant.range)
          (ap (λ (kinds : List Kind). made ++ parameter_values i (drop i kinds)) is ∙ at.invariant.values);
      range =
          subst (AllInRange new) (sym put)
          (values-more-in at.table new one.ensures.table items v at.invariant.range one.ensures.range);
      once = one.ensures.once;
      on = goes_on-trans c.args.table.now at.table new at.invariant.on one.ensures.table;
    }

pub returns-clause-values : goal.returns-clause-values
returns-clause-values c =
    let i = c.loop-number.number in
    let made = read_values c.loop-number.table c.loop-number.values.items in
    all_parameters i c.as_slice-kind-items.result.now made (passed_values (method_of c.args.method.now))
    c.loop-number-test.false
    (ap (λ (kinds : List Kind). made ++ parameter_values i (drop i kinds)) c.as_slice-kind-items.ensures
    ∙ c.loop-number.invariant.values)
