use Rattle.std.proofs.Common.{List, sym, ap, subst, ◌∙◌}
use Rattle.owner_domain.specs.declared.value.Value.{Value}
use Rattle.owner_domain.specs.declared.numbered.NumberedState.{NumberedState}
use Rattle.owner_domain.specs.Numbered.{read_state, AllInRange, AreInRange}
use Rattle.access_domain.specs.Operations.{replaced}
use Rattle.access_domain.specs.Substitution.{actuals_from, substituted_value}
use Rattle.call_subst.specs.Numbered.{read_values}
use Rattle.transfer_steps.specs.Contexts.{given}
use Rattle.owner_domain.specs.Slots.{pushed_number}
use Rattle.transfer_steps.proofs.CallNotes.{replaced-longer, replaced-still}
use Rattle.transfer_steps.proofs.Longer.{passed-in, passed-read}
use Rattle.transfer_steps.proofs.calls.pass.Goals as goal

pub substitute_value-requires : goal.substitute_value-requires
substitute_value-requires c =
    subst (AllInRange c.args.table.now) (sym (c.as_slice.ensures.value ∙ c.in_ok-actuals.ensures.values))
    (passed-in c.args.table.now c.args.state.now c.args.count c.requires.numbers)

pub returns-clause-next : goal.returns-clause-next
returns-clause-next c =
    let table = c.args.table.now in
    let start = c.args.state.now in
    let made = c.in_ok-value in
    let value : List Value → Value =
    λ vs. substituted_value (actuals_from ((given c.args.context.now).is_static c.args.method) vs)
    c.args.summary.now.result in
    ap (read_state c.substitute_value.new.table)
    (c.in_ok-push.ensures ∙ ap (λ (s : NumberedState). pushed_number s made.value) c.in_ok-actuals.ensures.rest)
    ∙ replaced-longer table c.substitute_value.new.table made.ensures.table start c.args.count made.value
    c.requires.numbers
    (value (read_values table c.as_slice.result.now)) made.ensures.value
    ∙ ap (λ (vs : List Value). replaced (read_state table start) c.args.count (value vs))
    (ap (read_values table) (c.as_slice.ensures.value ∙ c.in_ok-actuals.ensures.values)
    ∙ passed-read table start c.args.count)

pub returns-clause-numbers : goal.returns-clause-numbers
returns-clause-numbers c =
    let made = c.in_ok-value in
    subst (AreInRange c.substitute_value.new.table)
    (sym (c.in_ok-push.ensures
    ∙ ap (λ (s : NumberedState). pushed_number s made.value) c.in_ok-actuals.ensures.rest))
    (replaced-still c.args.table.now c.substitute_value.new.table made.ensures.table c.args.state.now c.args.count
    made.value c.requires.numbers made.ensures.range)
