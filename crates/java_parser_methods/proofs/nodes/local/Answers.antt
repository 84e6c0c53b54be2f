use Rattle.std.proofs.Common.{rules, ◌≡◌, ap, ◌∙◌}
use Rattle.java_parser_methods.proofs.PassedOn.{puts_same}
use Rattle.java_tree.specs.KeptPlaces.{Puts, stmt_places, locals_places}
use Rattle.java_tree.specs.declared.statements.LocalsTree.{LocalsTree}
use Rattle.java_tree.specs.declared.statements.Statement.TheFolds.{the_lemmas}
use Rattle.java_tree.specs.declared.statements.Statement.TheVariants as statement
use Rattle.java_parser_methods.proofs.nodes.local.Goals as goal

local_form : (l : LocalsTree) → stmt_places (statement.Local l) ≡ locals_places l
local_form l = search (rules, the_lemmas)

pub returns-clause-places : goal.returns-clause-places
returns-clause-places c =
    puts_same c.boxed.result (λ x. stmt_places x.0.value) (stmt_places (statement.Local c.from.result)) (locals_places
    c.args.locals.value) (λ ms. ap (λ (p : Puts). p ms) (local_form c.from.result) ∙ ap (λ l. locals_places l ms)
    c.from.ensures) c.boxed.ensures.places
