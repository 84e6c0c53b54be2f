use Rattle.std.proofs.Common.{rules, sym, ap, subst, ◌∙◌}
use Rattle.owner_domain.specs.Numbered.{read_state, AreInRange}
use Rattle.owner_domain.proofs.Reading.{met-read, met-in}
use Rattle.owner_domain.proofs.flow_state.FlowState.meet.Goals as goal

pub returns-clause-state : goal.returns-clause-state
returns-clause-state c = search rules

pub returns-clause-joined : goal.returns-clause-joined
returns-clause-joined c = λ table once low other.
    ap (read_state table) (returns-clause-state c) ∙ met-read table once c.args.self.now c.args.other low other

pub returns-clause-range : goal.returns-clause-range
returns-clause-range c = λ table low.
    subst (AreInRange table) (sym (returns-clause-state c)) (met-in table c.args.self.now c.args.other low)
