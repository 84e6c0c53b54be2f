use Rattle.std.proofs.Common.{List, ◌∷◌, map, reverse, ap, ◌∙◌}
use Rattle.core_code.specs.Core.{method_of}
use Rattle.core_semantics.specs.declared.frame.Frame.{Frame}
use Rattle.core_semantics.specs.Steps.{entered, popped}
use Rattle.core_semantics.specs.View.{behind, frame_of}
use Rattle.core_semantics.proofs.EnteredFrames.{entered_frames}
use Rattle.core_semantics.proofs.calls.enter.Goals as goal

pub returns-clause-ok : goal.returns-clause-ok
returns-clause-ok c =
    entered_frames c.put_back.new.running.frame c.in-Ok-entered.callee c.replace-caller.result
    (entered (method_of c.args.method.now) c.args.passed.items)
    (popped (behind c.args.running.now.frame) c.args.count) c.args.running.now.callers.items
    c.reserve.new.self.items c.put_back.new.running.callers.items
    (c.put_back.ensures.frame ∙ c.replace-caller.ensures.after) c.in-Ok-entered.ensures
    (ap frame_of c.replace-caller.ensures.value ∙ c.cut.ensures) c.put_back.ensures.callers c.in-Ok.ensures.items

pub returns-in_default-entered-clause-err : goal.returns-in_default-entered-clause-err
returns-in_default-entered-clause-err c =
    ap (λ (callers : List Frame). frame_of c.args.running.now.frame ∷ map frame_of (reverse callers))
    c.in-Ok.ensures.items

pub returns-in_default-clause-err : goal.returns-in_default-clause-err
returns-in_default-clause-err c =
    ap (λ (callers : List Frame). frame_of c.args.running.now.frame ∷ map frame_of (reverse callers))
    c.in_default.ensures.items
