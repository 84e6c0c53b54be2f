use Rattle.std.proofs.Common.{ap, sym, ◌∙◌, ◌||◌, List, ℕ}
use Rattle.core_lowering_drafts.proofs.EndSets.{at, one-more, or-nothing}
use Rattle.core_lowering_drafts.proofs.ends.add_exits.Goals as goal

pub loop-exit-preserved : goal.loop-exit-preserved
loop-exit-preserved c = λ k.
    one-more k c.in-Some.exit.now (at k c.loop-exit.exits.keys) (at k c.insert.new.self.keys) (at k c.next.new.self)
    (c.in_ok-insert.ensures.updates.0 k)
    ∙ ap (λ (ys : List ℕ). at k c.loop-exit.exits.keys || at k ys) (sym c.in-Some.ensures.steps)
    ∙ c.loop-exit.invariant k

pub returns : goal.returns
returns c = λ k.
    or-nothing (at k c.loop-exit.exits.keys)
    ∙ ap (λ (ys : List ℕ). at k c.loop-exit.exits.keys || at k ys) (sym c.in-None.ensures.steps.0)
    ∙ c.loop-exit.invariant k
