use Rattle.std.proofs.Common.{rules, map, ap, ◌∙◌}
use Rattle.access_paths.specs.Table.{path_at}
use Rattle.owner_domain.specs.Numbered.{read_state}
use Rattle.owner_domain.proofs.MetValues.{met-itself, unchanged-itself, lost-by_itself}
use Rattle.owner_domain.proofs.Reading.{met-read, met-lost}
use Rattle.owner_domain.proofs.flow_state.FlowState.meet_losing.Goals as goal

pub returns-then-is_same-clause-state : goal.returns-then-is_same-clause-state
returns-then-is_same-clause-state c =
    met-itself c.args.self.now c.args.other (c.is_same.ensures c.if-is_same.true)

pub returns-then-is_same-clause-changed : goal.returns-then-is_same-clause-changed
returns-then-is_same-clause-changed c = unchanged-itself c.args.self.now

pub returns-then-is_same-clause-lost : goal.returns-then-is_same-clause-lost
returns-then-is_same-clause-lost c =
    lost-by_itself c.args.self.now c.args.other c.new-lost.result.items (c.is_same.ensures c.if-is_same.true)
    c.new-lost.ensures.items

pub returns-then-is_same-clause-joined : goal.returns-then-is_same-clause-joined
returns-then-is_same-clause-joined c = λ table once low other.
    ap (read_state table) (returns-then-is_same-clause-state c)
    ∙ met-read table once c.args.self.now c.args.other low other

pub returns-then-is_same-clause-lost_paths : goal.returns-then-is_same-clause-lost_paths
returns-then-is_same-clause-lost_paths c = λ table once low other.
    ap (map (path_at table)) (returns-then-is_same-clause-lost c)
    ∙ met-lost table once c.args.self.now c.args.other low other

pub returns-clause-lost : goal.returns-clause-lost
returns-clause-lost c = search rules

pub returns-clause-lost_paths : goal.returns-clause-lost_paths
returns-clause-lost_paths c = λ table once low other.
    ap (map (path_at table)) (returns-clause-lost c) ∙ met-lost table once c.args.self.now c.args.other low other
