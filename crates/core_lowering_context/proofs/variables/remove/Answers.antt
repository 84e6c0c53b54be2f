use Rattle.std.proofs.Common.{subst}
use Rattle.core_lowering_context.specs.Seen.{FindsAll, ChangesAt, seen_at, front_of}
use Rattle.core_lowering_context.proofs.NamedVariables.{finds-removed}
use Rattle.core_lowering_context.proofs.variables.remove.Goals as goal

pub returns-clause-finds : goal.returns-clause-finds
returns-clause-finds c =
    let old = c.args.by_name.now in
    let new = c.remove_last.new.index in
    let v = c.in-Some.variable in
    finds-removed old new c.pop.new.self.items v (subst (FindsAll old) c.in-Some.ensures.items c.requires)
    (subst (λ name. ChangesAt old new name (front_of (seen_at old name))) c.as_str.ensures c.remove_last.ensures)
