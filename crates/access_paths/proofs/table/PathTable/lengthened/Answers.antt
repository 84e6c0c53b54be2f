use Rattle.std.proofs.Common.{List, sym, subst}
use Rattle.access_paths.specs.declared.path.Path.{Path}
use Rattle.access_paths.specs.Table.{IsLengthened}
use Rattle.access_paths.proofs.table.PathTable.lengthened.Goals as goal

pub returns-in-Some-clause-answer : goal.returns-in-Some-clause-answer
returns-in-Some-clause-answer c =
    let number = c.args.number in
    let answer = c.in-Some.answer.now in
    subst (λ (ps : List Path). IsLengthened ps number c.args.f answer ps) c.self.view_is
    (c.self.invariant.1 (record { front = number; field = c.args.f }) answer (sym c.in-Some.ensures.value))
