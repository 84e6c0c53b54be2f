use Rattle.std.proofs.Common.{Some, subst}
use Rattle.core_code.specs.Walks.{IsTurn}
use Rattle.core_code.proofs.WalkParts.{closed_kept}
use Rattle.core_code.proofs.walk.Walk.step.Goals as goal

pub returns-in-Close-clause-kept : goal.returns-in-Close-clause-kept
returns-in-Close-clause-kept c =
    let self = c.args.self.now in
    closed_kept c.args.rows.now self c.close.new.self c.in-Close.group c.requires.kept
    (subst (λ turn. IsTurn self.todo.items self.groups.items (Some turn)) c.in-Close.is c.requires.next) c.close.ensures
