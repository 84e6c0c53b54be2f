use Rattle.std.proofs.Common.{List, subst}
use Rattle.access_paths.specs.declared.path.Path.{Path}
use Rattle.access_paths.specs.Table.{GoesOn}
use Rattle.access_paths.proofs.Numbers.{interned_or_same}
use Rattle.access_paths.proofs.AnsweredExtensions.{extensions-stay}
use Rattle.access_paths.proofs.table.PathTable.number_of.Goals as goal

pub invariant_of-self : goal.invariant_of-self
invariant_of-self c =
    let old = c.self.inside.paths.keys in
    let new = c.number_in.new.paths.keys in (
      c.number_in.ensures.each_once,
      extensions-stay old new c.self.inside.extensions.entries
          (interned_or_same c.number_in.result old new c.args.path c.number_in.ensures.table c.number_in.ensures.err)
          c.self.invariant.1,
    )

pub returns-clause-goes_on : goal.returns-clause-goes_on
returns-clause-goes_on c =
    let new = c.number_in.new.paths.keys in
    subst (λ (ps : List Path). GoesOn ps new) c.self.view_is
    (interned_or_same c.number_in.result c.self.inside.paths.keys new c.args.path c.number_in.ensures.table
    c.number_in.ensures.err)
