use Rattle.std.proofs.Common.{Bool, ◌||◌, ◌&&◌, ap, ◌∙◌, nat_eq, nat_lt}
use Rattle.core_lowering_rules.specs.Programs.{in_order}
use Rattle.core_lowering.proofs.Ordered.{sorted-in_order, less-first, less-last}
use Rattle.core_lowering.proofs.skipped.skipped_of.Goals as goal

pub returns : goal.returns
returns c =
    c.from.ensures
    ∙ sorted-in_order _
    (λ p q.
    less-first p.file.0 q.file.0 _
    ∙ ap (λ (b : Bool). nat_lt p.file.0 q.file.0 || nat_eq p.file.0 q.file.0 && b)
    (less-first p.line q.line _
    ∙ ap (λ (b : Bool). nat_lt p.line q.line || nat_eq p.line q.line && b) (less-last p.column q.column)))
    c.in_ok-places.places.items _ c.in_ok-sort.ensures.sorted c.sort.ensures.permutation
    ∙ ap in_order c.in_ok-places.ensures
