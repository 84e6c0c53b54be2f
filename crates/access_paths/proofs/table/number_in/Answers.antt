use Rattle.std.proofs.Common.{Some, sym, ap, subst, ◌∙◌, arith}
use Rattle.access_paths.specs.Same.{equal_of_same}
use Rattle.access_paths.specs.Table.{IsTable}
use Rattle.access_paths.proofs.Numbers.{interned-table}
use Rattle.access_paths.proofs.table.number_in.Goals as goal

pub returns-clause-number : goal.returns-clause-number
returns-clause-number c =
    let stored = c.in-Ok.ensures.stored in
    stored.1 ∙ ap Some (sym (equal_of_same c.args.path stored.0 stored.2))

pub returns-clause-each_once : goal.returns-clause-each_once
returns-clause-each_once c =
    subst IsTable (sym c.in-Ok.ensures.keys)
    (interned-table c.args.paths.now.keys c.args.path c.requires
    (omega (arith, c.if-len.false, c.len.ensures.len)))
