use Rattle.std.proofs.Common.{ap, sym, ◌∙◌, ◌&&◌, not, List, ℕ}
use Rattle.core_lowering_drafts.proofs.EndSets.{at, none-fewer, one-fewer}
use Rattle.core_lowering_drafts.proofs.ends.remove_exits.Goals as goal

pub loop-exit-preserved : goal.loop-exit-preserved
loop-exit-preserved c = λ k.
    one-fewer k c.in-Some.exit.now (at k c.loop-exit.exits.keys) (at k c.remove.new.self.keys) (at k c.next.new.self)
    (c.remove.ensures.updates.0 k)
    ∙ ap (λ (ys : List ℕ). at k c.loop-exit.exits.keys && not (at k ys)) (sym c.in-Some.ensures.steps)
    ∙ c.loop-exit.invariant k

pub returns : goal.returns
returns c = λ k.
    none-fewer (at k c.loop-exit.exits.keys)
    ∙ ap (λ (ys : List ℕ). at k c.loop-exit.exits.keys && not (at k ys)) (sym c.in-None.ensures.steps.0)
    ∙ c.loop-exit.invariant k
