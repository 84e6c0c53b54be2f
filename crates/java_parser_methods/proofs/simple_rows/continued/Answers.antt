use Rattle.std.proofs.Common.{rules, ◌≡◌, Option, option_map, ap}
use Rattle.java_tree.specs.KeptPlaces.{Puts, kept, stmt_places, name_places, maybe_puts}
use Rattle.java_tree.specs.declared.statements.Statement.TheFolds.{the_lemmas}
use Rattle.java_tree.specs.declared.statements.Statement.TheVariants as statement
use Rattle.java_tree.specs.declared.words.Ident.{Ident}
use Rattle.java_parser_types.proofs.LedMarks.{led_made, to_equal}
use Rattle.java_parser_methods.proofs.PassedOn.{puts_same}
use Rattle.java_parser_methods.proofs.simple_rows.continued.Goals as goal

continue_form : (x : Option Ident) → stmt_places (statement.Continue x) ≡ maybe_puts (option_map name_places x)
continue_form x = search (rules, the_lemmas)

pub returns-clause-places : goal.returns-clause-places
returns-clause-places c =
    let puts : Puts = maybe_puts (option_map name_places c.in_ok-target.target) in
    led_made c.boxed.result (λ x. stmt_places x.0.value) (λ x. kept x.1.now) puts (kept c.args.tokens.now)
    (kept c.in_ok-rest.rest.now) (to_equal puts (kept c.args.tokens.now) (kept c.in_ok-target.rest.now)
    (kept c.in_ok-rest.rest.now) c.in_ok-rest.ensures.places c.in_ok-target.ensures.places)
    (puts_same c.boxed.result (λ x. stmt_places x.0.value) (stmt_places (statement.Continue c.in_ok-target.target)) puts
    (λ ms. ap (λ (p : Puts). p ms) (continue_form c.in_ok-target.target)) c.boxed.ensures.places) c.boxed.ensures.behind
