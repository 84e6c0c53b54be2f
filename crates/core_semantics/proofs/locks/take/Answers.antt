use Rattle.std.proofs.Common.{List, drop, refl, ap, ◌∙◌}
use Rattle.core_code.specs.Tree.{tree_of}
use Rattle.core_semantics.specs.declared.answer.Holder.{Holder}
use Rattle.core_semantics.specs.Steps.{after}
use Rattle.core_semantics.specs.View.{behind_at, spot_at}
use Rattle.core_semantics.proofs.Held.{held_waits}
use Rattle.core_semantics.proofs.locks.take.Goals as goal

pub returns-then-has : goal.returns-then-has
returns-then-has c = λ store callers.
    let s = behind_at store c.args.frame.now callers c.args.locks.now in
    (held_waits c.args.others.now s (tree_of c.args.body.now) c.args.monitor c.if-has.ensures, refl)

pub returns-in_default-replace_by_two : goal.returns-in_default-replace_by_two
returns-in_default-replace_by_two c = λ store callers.
    let frame = c.args.frame.now in
    let locks = c.pop.ensures ∙ ap (λ (held : List Holder). drop 1 held) c.in-Ok.ensures.ok in
    (λ i. after (spot_at store (record {
      vars = frame.vars;
      stack = frame.stack;
      pending = c.in_default-replace_by_two.ensures.err i;
      locked = frame.locked;
    }) callers (locks i)))

pub returns-in_default-push : goal.returns-in_default-push
returns-in_default-push c = λ store callers.
    ap (λ (locks : List Holder). after (spot_at store c.args.frame.now callers locks)) c.in_default-push.ensures.err
