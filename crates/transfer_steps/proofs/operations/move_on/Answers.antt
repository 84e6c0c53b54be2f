use Rattle.std.proofs.Common.{rules, ◌≡◌, Some, sym, ap, subst, ◌∙◌}
use Rattle.std.specs.Prelude.{OnOk, slice_index_or}
use Rattle.core_code.specs.declared.code.Op.{Op as CoreOp}
use Rattle.owner_domain.specs.declared.numbered.NumberedValue.TheVariants.{Unnamed}
use Rattle.owner_domain.specs.declared.value.State.{State}
use Rattle.owner_domain.specs.declared.value.Value.TheVariants.{Unnamed as NoName}
use Rattle.access_domain.specs.Operations.{replaced}
use Rattle.owner_domain.specs.Numbered.{read_state}
use Rattle.owner_domain.specs.Slots.{pushed_number, replaced_numbers}
use Rattle.transfer_steps.specs.Walks.{moved}
use Rattle.transfer_steps.proofs.SlotsRead.{slot-in, pushed-in, replaced-in}
use Rattle.transfer_steps.proofs.NumberedSteps.{moved-in, replaced-to, root-pushed, root-in, set-state, set-state-in}
use Rattle.transfer_steps.proofs.operations.move_on.Goals as goal

pub returns-in-Push-clause-numbers : goal.returns-in-Push-clause-numbers
returns-in-Push-clause-numbers c =
    let table = c.args.table.now in
    let here = c.args.state.now in
    let variable = slice_index_or here.vars c.in-Push.variable.0 Unnamed in
    moved-in c.push_variable.result table c.args.op here (pushed_number here variable) c.push_variable.new.self
    (pushed-in table here variable c.requires.numbers
    (slot-in table here.vars c.in-Push.variable.0 c.requires.numbers.0)) c.push_variable.ensures

pub returns-in_ok-number-in-PushClass-clause-next : goal.returns-in_ok-number-in-PushClass-clause-next
returns-in_ok-number-in-PushClass-clause-next c =
    let older = c.args.table.now in
    let newer = c.number_of.new.self in
    let here = c.args.state.now in
    let given = c.in_ok-number-in-PushClass in
    subst (λ (s : State). OnOk c.push.result (read_state newer c.push.new.self ≡ s))
    (sym (ap (λ (op : CoreOp). moved op (read_state older here)) c.in-PushClass.is))
    (root-pushed c.push.result older newer c.number_of.ensures.goes_on here c.push.new.self c.requires.numbers
    given.number
    c.push.ensures _ (given.ensures.number ∙ ap Some c.alone.ensures))

pub returns-in_ok-number-in-PushClass-clause-numbers : goal.returns-in_ok-number-in-PushClass-clause-numbers
returns-in_ok-number-in-PushClass-clause-numbers c =
    let given = c.in_ok-number-in-PushClass in
    root-in c.push.result c.args.table.now c.number_of.new.self c.number_of.ensures.goes_on c.args.state.now
    c.push.new.self c.requires.numbers given.number c.push.ensures c.alone.result given.ensures.number

pub returns-in-Set-clause-next : goal.returns-in-Set-clause-next
returns-in-Set-clause-next c =
    let table = c.args.table.now in
    let here = c.args.state.now in
    set-state table here c.top-value.result c.top-value.ensures c.in-Set.variable c.set.new.self c.set.ensures
    ∙ ap (λ (op : CoreOp). moved op (read_state table here)) (sym c.in-Set.is)

pub returns-in-Set-clause-numbers : goal.returns-in-Set-clause-numbers
returns-in-Set-clause-numbers c =
    set-state-in c.args.table.now c.args.state.now c.top-value.result c.top-value.ensures c.in-Set.variable
    c.set.new.self c.set.ensures c.requires.numbers

pub returns-in-Prim-clause-next : goal.returns-in-Prim-clause-next
returns-in-Prim-clause-next c =
    let table = c.args.table.now in
    let here = c.args.state.now in
    let start = read_state table here in
    let same : replaced start c.in-Prim.count NoName ≡ moved c.args.op start = search rules in
    subst (λ (s : State). OnOk c.replace.result (read_state table c.replace.new.self ≡ s)) same
    (replaced-to c.replace.result table here c.replace.new.self c.in-Prim.count Unnamed c.replace.ensures)

pub returns-in-Prim-clause-numbers : goal.returns-in-Prim-clause-numbers
returns-in-Prim-clause-numbers c =
    let table = c.args.table.now in
    let here = c.args.state.now in
    moved-in c.replace.result table c.args.op here (replaced_numbers here c.in-Prim.count Unnamed) c.replace.new.self
    (replaced-in table here c.in-Prim.count Unnamed c.requires.numbers tt) c.replace.ensures
