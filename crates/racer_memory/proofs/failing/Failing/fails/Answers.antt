use Rattle.std.proofs.Common.{◌≤◌, ◌∙◌, ap, arith}
use Rattle.racer_memory.specs.Failing.{is_failing}
use Rattle.racer_memory.proofs.FailingLemmas.{is_quiet-later, is_quiet-passes}
use Rattle.racer_memory.proofs.failing.Failing.fails.Goals as goal

pub returns-clause-quiet : goal.returns-clause-quiet
returns-clause-quiet c =
    let later : c.args.self.now.next ≤ c.saturating_add-self.result = omega arith in is_quiet-later _ _ _ later

pub returns-clause-passes : goal.returns-clause-passes
returns-clause-passes c =
    let failing = c.args.self.now in
    λ quiet.
    c.is_among.ensures
    ∙ ap (λ calls. is_failing calls failing.next) c.deref.ensures.value
    ∙ is_quiet-passes failing.calls.items failing.next quiet
