use Rattle.std.proofs.Common.{None, ◌∙◌}
use Rattle.core_semantics.proofs.machine.begin.Goals as goal

pub returns : goal.returns
returns c =
    c.machine_of.ensures
    ∙ (λ i. record {
      store = record { heap = c.in-Ok.ensures i; cells = λ o f. None; fresh = 0 };
      first = c.in-Ok-threads_at.ensures.first i;
      second = c.in-Ok-threads_at.ensures.second i;
    })
