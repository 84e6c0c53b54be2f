use Rattle.std.proofs.Common.{◌+◌, List, ap, ◌∙◌, sym, drop, get_or, arith}
use Rattle.std.specs.Arc.{arc_value}
use Rattle.std.specs.Option.{option_or}
use Rattle.std.proofs.lemmas.List.{at_drop_more, at_drop_all}
use Rattle.transfer_steps.specs.declared.calls.Callee.{Callee}
use Rattle.transfer.specs.declared.finished.Finished.{Finished}
use Rattle.transfer.specs.Callees.{SharedFinished, outcome_in}
use Rattle.transfer_steps.specs.Known.{callee_outcome}
use Rattle.transfer.proofs.Handed.{one-more}
use Rattle.racer_base.proofs.Lists.{option_or-none}
use Rattle.transfer.proofs.analysis.known.Goals as goal

pub loop-one-preserved : goal.loop-one-preserved
loop-one-preserved c = λ m.
    let finished = c.args.finished.now in
    let made = c.loop-one.callees.items in
    let i = c.loop-one.one-index in
    let one = c.one-item.result in
    let left = drop (i + 1) finished in
    let callee : Callee =
    record { method = c.deref-in-loop-one.result.now.method; outcome = c.in-Ok.outcome } in
    ap (λ (cs : List Callee). option_or (callee_outcome cs m) (outcome_in left m)) c.in-Ok-push.ensures.items
    ∙ one-more made callee (get_or finished i one) left m (ap (λ (f : Finished). f.method) c.deref-in-loop-one.ensures
    ∙ ap (λ (f : SharedFinished). (arc_value f).method) c.one-item.is)
    (c.in-Ok.ensures.cases ∙ ap (λ (f : Finished). arc_value f.outcome) c.deref.ensures
    ∙ ap (λ (f : SharedFinished). arc_value (arc_value f).outcome) c.one-item.is)
    ∙ ap (option_or (callee_outcome made m))
    (sym (at_drop_more (λ fs. outcome_in fs m) finished i one c.loop-one-test.true))
    ∙ c.loop-one.invariant m

pub loop-one-init : goal.loop-one-init
loop-one-init c = λ m.
    ap (λ (cs : List Callee). option_or (callee_outcome cs m) (outcome_in c.args.finished.now m))
    c.new-callees.ensures.items

pub returns : goal.returns
returns c = λ m.
    let made = callee_outcome c.loop-one.callees.items m in
    let over = at_drop_all (λ (fs : List SharedFinished). outcome_in fs m) c.args.finished.now c.loop-one.one-index
    (omega (arith, c.loop-one-test.false)) in
    sym (option_or-none made) ∙ ap (option_or made) (sym over) ∙ c.loop-one.invariant m
