use Rattle.std.proofs.Common.{◌≡◌, ◌∙◌, true, false, ◌||◌, is_some, List, map, option_map, refl, sym, ap}
use Rattle.java_tree.specs.declared.statements.CatchTree.{CatchTree}
use Rattle.java_tree.specs.Trees.{pack_stmts}
use Rattle.java_tree.specs.View.{stmt_of, resources_of, catch_of, Finally, pack_rows}
use Rattle.java_parser_types.specs.Tokens.{spelled}
use Rattle.java_parser_types.proofs.ReadLoops.{ends_give}
use Rattle.java_parser_parts.specs.Parts.{has_row}
use Rattle.java_parser_methods.specs.RowReading.{try_with}
use Rattle.java_parser_methods.specs.TryView.{block_of}
use Rattle.java_parser_methods.proofs.SeenOptions.{some_seen, seen_twice}
use Rattle.java_parser_methods.proofs.try_parts.tried.Goals as goal

pub returns-then-not-stands-clause-gives : goal.returns-then-not-stands-clause-gives
returns-then-not-stands-clause-gives c =
    let none : (is_some c.args.resources || (has_row (pack_rows (map catch_of c.args.parts.clauses.items))
    || is_some c.args.parts.last)) ≡ false =
    ap (λ (xs : List CatchTree). is_some c.args.resources || (has_row (pack_rows (map catch_of xs)) || is_some
    c.args.parts.last)) (sym c.as_slice.ensures.value) ∙ (sym c.stands.ensures ∙ c.if-not-stands.true) in
    rw (some_seen resources_of c.args.resources, some_seen block_of c.args.parts.last, none) refl

pub returns-clause-gives : goal.returns-clause-gives
returns-clause-gives c =
    let some : (is_some c.args.resources || (has_row (pack_rows (map catch_of c.args.parts.clauses.items))
    || is_some c.args.parts.last)) ≡ true =
    ap (λ (xs : List CatchTree). is_some c.args.resources || (has_row (pack_rows (map catch_of xs)) || is_some
    c.args.parts.last)) (sym c.as_slice.ensures.value) ∙ (sym c.stands.ensures ∙ c.if-not-stands.false) in
    ends_give _ c.trying.result (try_with (option_map resources_of c.args.resources) (pack_stmts (map stmt_of
    c.args.body.items)) (pack_rows (map catch_of c.args.parts.clauses.items)) (option_map block_of c.args.parts.last)
    (map spelled c.args.tokens.now)) _ (rw (
      some_seen resources_of c.args.resources,
      some_seen block_of c.args.parts.last,
      some,
      seen_twice Finally block_of c.args.parts.last,
    ) refl) c.trying.ensures.gives
