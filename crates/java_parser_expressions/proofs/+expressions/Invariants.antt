use Rattle.std.proofs.Common.{◌≡◌, suc, [], ◌∷◌, ◌+◌, ◌*◌, ◌-◌, ◌≤◌, length, map}
use Rattle.java_tree.specs.KeptPlaces.{kept, each_puts, expr_places, init_places}
use Rattle.java_tree.specs.Operators.{assignment_level}
use Rattle.java_tree.specs.Nesting.{exprs_nesting, inits_nesting}
use Rattle.java_tree.specs.Trees.{pack_exprs, pack_inits}
use Rattle.java_tree.specs.View.{base_of, expr_of, init_of}
use Rattle.java_parser_grammar.specs.Taking.{commas}
use Rattle.java_parser_grammar.specs.ExpressionReading.{read_at, init_at, climb_with, lengths_with, items_with}
use Rattle.java_parser_types.specs.LedPlaces.{LeadsOn}
use Rattle.java_parser_types.specs.Tokens.{spelled}
use Rattle.java_parser_types.specs.Finishing.{finished}
use Rattle.java_parser_types.specs.Endings.{call_end, lengths_end, items_end}
use Rattle.java_parser_expressions.proofs.+expressions.Given as goal

abbrev pub invariant-expressions::climb-loop : goal.invariant-expressions::climb-loop
invariant-expressions::climb-loop l = record {
  gives : climb_with (read_at l.limit) l.limit l.level (suc l.limit - l.counter) (expr_of l.tree.tree.value)
      (map spelled l.rest) ≡ climb_with (read_at l.limit) l.limit l.level (suc l.limit) (expr_of l.fn.first.tree.value)
      (map spelled l.tokens);
  places : LeadsOn (expr_places l.fn.first.tree.value) (expr_places l.tree.tree.value) (kept l.tokens) (kept l.rest);
  small : l.tree.nesting ≤ suc l.limit;
  shorter : length l.rest ≤ length l.tokens;
}

abbrev pub invariant-arguments::arguments-loop : goal.invariant-arguments::arguments-loop
invariant-arguments::arguments-loop l = record {
  gives : finished call_end (map expr_of l.trees.items) (commas (read_at l.limit assignment_level)
      (length (map spelled l.tokens) - l.counter) (map spelled l.rest)) ≡ finished call_end
      (expr_of l.fn.first.tree.value
      ∷ []) (commas (read_at l.limit assignment_level) (length (map spelled l.tokens)) (map spelled l.tokens));
  places : LeadsOn (expr_places l.fn.first.tree.value) (each_puts (map expr_places l.trees.items)) (kept l.tokens)
      (kept l.rest);
  small : l.nesting ≤ l.limit;
  measured : l.nesting ≡ exprs_nesting (pack_exprs (map expr_of l.trees.items));
  shorter : length l.rest ≤ length l.tokens;
}

abbrev pub invariant-creations::lengths-loop : goal.invariant-creations::lengths-loop
invariant-creations::lengths-loop l = record {
  gives : finished (lengths_end (base_of l.base.value.tree)) (map expr_of l.trees.items)
      (lengths_with (read_at l.limit assignment_level) (length (map spelled l.tokens) - l.counter)
      (map spelled l.rest)) ≡ finished (lengths_end (base_of l.base.value.tree)) (expr_of l.fn.first.tree.value ∷ [])
      (lengths_with (read_at l.limit assignment_level) (length (map spelled l.tokens)) (map spelled l.tokens));
  places : LeadsOn (expr_places l.fn.first.tree.value) (each_puts (map expr_places l.trees.items)) (kept l.tokens)
      (kept l.rest);
  small : l.nesting ≤ l.limit;
  measured : l.nesting ≡ exprs_nesting (pack_exprs (map expr_of l.trees.items));
  shorter : length l.rest ≤ length l.tokens;
}

abbrev pub invariant-initialisers::items-loop : goal.invariant-initialisers::items-loop
invariant-initialisers::items-loop l = record {
  gives : items_end (map init_of l.items.items) (items_with (init_at l.limit) (length (map spelled l.tokens)
      - l.counter) (map spelled l.rest)) ≡ items_end (init_of l.fn.first.tree.value ∷ []) (items_with (init_at l.limit)
      (length (map spelled l.tokens)) (map spelled l.tokens));
  places : LeadsOn (init_places l.fn.first.tree.value) (each_puts (map init_places l.items.items)) (kept l.tokens)
      (kept l.rest);
  small : l.nesting ≤ l.limit;
  measured : l.nesting ≡ inits_nesting (pack_inits (map init_of l.items.items));
  shorter : length l.rest ≤ length l.tokens;
}

abbrev pub decreases-expressions::read_expression : goal.decreases-expressions::read_expression
decreases-expressions::read_expression l = 20 * l.limit + 1

abbrev pub decreases-expressions::read_part : goal.decreases-expressions::read_part
decreases-expressions::read_part l = 20 * l.limit

abbrev pub decreases-expressions::nested_part : goal.decreases-expressions::nested_part
decreases-expressions::nested_part l = 20 * l.limit + 17

abbrev pub decreases-expressions::climb : goal.decreases-expressions::climb
decreases-expressions::climb l = 20 * l.limit + 16

abbrev pub decreases-expressions::turn : goal.decreases-expressions::turn
decreases-expressions::turn l = 20 * l.limit + 15

abbrev pub decreases-expressions::assign : goal.decreases-expressions::assign
decreases-expressions::assign l = 20 * l.limit + 2

abbrev pub decreases-expressions::conditional : goal.decreases-expressions::conditional
decreases-expressions::conditional l = 20 * l.limit + 2

abbrev pub decreases-expressions::binary : goal.decreases-expressions::binary
decreases-expressions::binary l = 20 * l.limit + 2

abbrev pub decreases-expressions::select : goal.decreases-expressions::select
decreases-expressions::select l = 20 * l.limit + 5

abbrev pub decreases-expressions::index : goal.decreases-expressions::index
decreases-expressions::index l = 20 * l.limit + 2

abbrev pub decreases-first_operand::operand : goal.decreases-first_operand::operand
decreases-first_operand::operand l = 20 * l.limit + 16

abbrev pub decreases-first_operand::word : goal.decreases-first_operand::word
decreases-first_operand::word l = 20 * l.limit + 15

abbrev pub decreases-first_operand::name_operand : goal.decreases-first_operand::name_operand
decreases-first_operand::name_operand l = 20 * l.limit + 15

abbrev pub decreases-first_operand::sign_operand : goal.decreases-first_operand::sign_operand
decreases-first_operand::sign_operand l = 20 * l.limit + 15

abbrev pub decreases-first_operand::prefix : goal.decreases-first_operand::prefix
decreases-first_operand::prefix l = 20 * l.limit + 2

abbrev pub decreases-first_operand::cast : goal.decreases-first_operand::cast
decreases-first_operand::cast l = 20 * l.limit + 2

abbrev pub decreases-first_operand::parens : goal.decreases-first_operand::parens
decreases-first_operand::parens l = 20 * l.limit + 2

abbrev pub decreases-first_operand::nested_parens : goal.decreases-first_operand::nested_parens
decreases-first_operand::nested_parens l = 20 * l.limit + 3

abbrev pub decreases-lambdas::lambda_part : goal.decreases-lambdas::lambda_part
decreases-lambdas::lambda_part l = 20 * l.limit + 3

abbrev pub decreases-lambdas::lambda : goal.decreases-lambdas::lambda
decreases-lambdas::lambda l = 20 * l.limit + 2

abbrev pub decreases-arguments::call_arguments : goal.decreases-arguments::call_arguments
decreases-arguments::call_arguments l = 20 * l.limit + 4

abbrev pub decreases-arguments::arguments : goal.decreases-arguments::arguments
decreases-arguments::arguments l = 20 * l.limit + 3

abbrev pub decreases-creations::creation : goal.decreases-creations::creation
decreases-creations::creation l = 20 * l.limit + 14

abbrev pub decreases-creations::new_object : goal.decreases-creations::new_object
decreases-creations::new_object l = 20 * l.limit + 13

abbrev pub decreases-creations::new_array : goal.decreases-creations::new_array
decreases-creations::new_array l = 20 * l.limit + 13

abbrev pub decreases-creations::lengths : goal.decreases-creations::lengths
decreases-creations::lengths l = 20 * l.limit + 3

abbrev pub decreases-creations::new_items : goal.decreases-creations::new_items
decreases-creations::new_items l = 20 * l.limit + 13

abbrev pub decreases-initialisers::read_array : goal.decreases-initialisers::read_array
decreases-initialisers::read_array l = 20 * l.limit + 1

abbrev pub decreases-initialisers::items : goal.decreases-initialisers::items
decreases-initialisers::items l = 20 * l.limit + 14

abbrev pub decreases-initialisers::braces : goal.decreases-initialisers::braces
decreases-initialisers::braces l = 20 * l.limit + 15

abbrev pub decreases-initialisers::read_initialiser : goal.decreases-initialisers::read_initialiser
decreases-initialisers::read_initialiser l = 20 * l.limit + 13
