use Rattle.std.proofs.Common.{◌≡◌, Some, None, sym, ap, subst, ◌∙◌}
use Rattle.owner_domain.specs.Numbered.{read_state, AreInRange}
use Rattle.access_domain.specs.declared.summary.Outcome.TheVariants as code
use Rattle.transfer_steps.specs.Contexts.{given}
use Rattle.transfer_steps.specs.Known.{findings_in}
use Rattle.owner_domain.specs.Slots.{replaced_numbers}
use Rattle.owner_domain.specs.declared.numbered.NumberedValue.TheVariants.{Unnamed}
use Rattle.transfer_steps.proofs.CallSteps.{known-of, unread-next, large-next, whole-next}
use Rattle.transfer_steps.proofs.Longer.{on_ok_then}
use Rattle.transfer_steps.proofs.SlotsRead.{replaced-in}
use Rattle.transfer_steps.proofs.calls.move_call.Goals as goal

pub returns-in_ok-pass-in-Some-Summary-clause-next : goal.returns-in_ok-pass-in-Some-Summary-clause-next
returns-in_ok-pass-in-Some-Summary-clause-next c =
    let g = given c.args.context.now in
    let summary = c.in-Some-Summary.summary in
    let known =
    known-of c.args.context.now.callees.now c.args.method (Some (code.Summary summary))
    (sym (ap Some c.in-Some-Summary.field-0-is) ∙ c.in-Some-Summary.ensures) in (λ locked site.
    whole-next g c.args.method (findings_in summary) locked site c.args.count
    (read_state c.args.table.now c.args.state.now) (read_state c.pass.new.table c.pass.new.state) known
    c.in_ok-pass-in-Some-Summary.ensures.next)

pub returns-in-None-clause-next : goal.returns-in-None-clause-next
returns-in-None-clause-next c =
    let g = given c.args.context.now in
    let table = c.args.table.now in
    let start = c.args.state.now in
    on_ok_then c.replace.result (c.replace.new.self ≡ replaced_numbers start c.args.count Unnamed) _ c.replace.ensures
    (λ is locked site. unread-next g locked site c.args.method c.args.count table start c.replace.new.self is
    (known-of c.args.context.now.callees.now c.args.method None c.in-None.ensures))

pub returns-in-None-clause-numbers : goal.returns-in-None-clause-numbers
returns-in-None-clause-numbers c =
    let table = c.args.table.now in
    let start = c.args.state.now in
    on_ok_then c.replace.result (c.replace.new.self ≡ replaced_numbers start c.args.count Unnamed)
    (AreInRange table c.replace.new.self) c.replace.ensures
    (λ is. subst (AreInRange table) (sym is) (replaced-in table start c.args.count Unnamed c.requires.numbers tt))

pub returns-in-Some-Large-clause-next : goal.returns-in-Some-Large-clause-next
returns-in-Some-Large-clause-next c =
    let g = given c.args.context.now in
    let table = c.args.table.now in
    let start = c.args.state.now in
    let new = c.replace-in-Some-Large.new.self in
    on_ok_then c.replace-in-Some-Large.result (new ≡ replaced_numbers start c.args.count Unnamed) _
    c.replace-in-Some-Large.ensures
    (λ is locked site. large-next g locked site c.args.method c.args.count table start new is
    (known-of c.args.context.now.callees.now c.args.method (Some code.Large)
    (sym (ap Some c.in-Some-Large.field-0-is) ∙ c.in-Some-Large.ensures)))

pub returns-in-Some-Large-clause-numbers : goal.returns-in-Some-Large-clause-numbers
returns-in-Some-Large-clause-numbers c =
    let table = c.args.table.now in
    let start = c.args.state.now in
    let new = c.replace-in-Some-Large.new.self in
    on_ok_then c.replace-in-Some-Large.result (new ≡ replaced_numbers start c.args.count Unnamed)
    (AreInRange table new) c.replace-in-Some-Large.ensures
    (λ is. subst (AreInRange table) (sym is) (replaced-in table start c.args.count Unnamed c.requires.numbers tt))
