use Rattle.std.proofs.Common.{Some, sym, ap, ◌∙◌}
use Rattle.access_paths.proofs.Numbers.{goes_on-same}
use Rattle.core_code.specs.declared.code.Op.{Op as CoreOp}
use Rattle.owner_domain.specs.Numbered.{read_state}
use Rattle.access_domain.specs.Operations.{op_effects}
use Rattle.transfer_steps.specs.Contexts.{given}
use Rattle.owner_domain.specs.Slots.{pushed_number}
use Rattle.transfer_steps.proofs.NumberedSteps.{get-state, get-in}
use Rattle.transfer_steps.proofs.operations.move_any.Goals as goal

pub returns-in_ok-move_call-in-Call-clause-next : goal.returns-in_ok-move_call-in-Call-clause-next
returns-in_ok-move_call-in-Call-clause-next c = λ locked site. ap
    (λ (op : CoreOp). (op_effects (given c.args.context.now) locked site op
    (read_state c.args.table.now c.args.state.now)).next) c.in-Call.is
    ∙ c.in_ok-move_call-in-Call.ensures.next locked site

pub returns-in_ok-push-in-Get-clause-next : goal.returns-in_ok-push-in-Get-clause-next
returns-in_ok-push-in-Get-clause-next c = λ locked site.
    let older = c.args.table.now in
    let newer = c.pop_field.new.table in
    let value = c.in_ok-value-in-Get in
    ap (λ (op : CoreOp). (op_effects (given c.args.context.now) locked site op
    (read_state older c.args.state.now)).next)
    c.in-Get.is
    ∙ ap Some (sym
    (get-state c.args.context.now c.in-Get.f older newer newer value.ensures.table (goes_on-same newer) c.args.state.now
    c.requires.numbers value.value value.ensures.range value.ensures.value c.touched_field-plain.result.plain
    c.touched_field-plain.ensures.plain c.push.new.self
    (c.in_ok-push-in-Get.ensures
    ∙ (λ i. pushed_number (c.pop_field.ensures.rest i) (c.value_read.ensures i)))))

pub returns-in_ok-push-in-Get-clause-numbers : goal.returns-in_ok-push-in-Get-clause-numbers
returns-in_ok-push-in-Get-clause-numbers c =
    let newer = c.pop_field.new.table in
    let value = c.in_ok-value-in-Get in
    get-in c.args.context.now c.in-Get.f c.args.table.now newer newer value.ensures.table
    (goes_on-same newer) c.args.state.now
    c.requires.numbers value.value value.ensures.range value.ensures.value c.touched_field-plain.result.plain
    c.touched_field-plain.ensures.plain c.push.new.self
    (c.in_ok-push-in-Get.ensures
    ∙ (λ i. pushed_number (c.pop_field.ensures.rest i) (c.value_read.ensures i)))
