use Rattle.std.proofs.Common.{◌≡◌, ◌+◌, ◌*◌, ◌-◌, ◌≤◌, suc, length, map, option_map}
use Rattle.java_tree.specs.KeptPlaces.{kept, each_puts, stmt_places, group_places}
use Rattle.java_tree.specs.Rows.{catch_row}
use Rattle.java_tree.specs.View.{stmt_of, group_of, catch_of}
use Rattle.java_parser_grammar.specs.StatementReading.{stmts_at, braces_at, stmt_at, block_at, group_stmts_at}
use Rattle.java_parser_grammar.specs.StatementReading.{groups_at, pieces_at}
use Rattle.java_parser_grammar.specs.JavaReaders.{method_readers}
use Rattle.java_parser_methods.specs.TryView.{block_of, parts_places}
use Rattle.java_parser_methods.specs.RowReading.{groups_finished, parts_at, parts_finished, parts_left}
use Rattle.java_parser_types.specs.LedPlaces.{Leads}
use Rattle.java_parser_types.specs.Tokens.{spelled}
use Rattle.java_parser_types.specs.Finishing.{finished}
use Rattle.java_parser_types.specs.Endings.{as_they_are, block_end}
use Rattle.java_parser_methods.proofs.+statements.Given as goal

abbrev pub invariant-statements::braces-loop : goal.invariant-statements::braces-loop
invariant-statements::braces-loop l = record {
  gives : finished block_end (map stmt_of l.items.items) (stmts_at method_readers (stmt_at method_readers l.limit)
      (length (map spelled l.tokens) - l.counter) (map spelled l.rest)) ≡ braces_at method_readers
      (stmt_at method_readers l.limit) (map spelled l.tokens);
  places : Leads (each_puts (map stmt_places l.items.items)) (kept l.tokens) (kept l.rest);
  shorter : length l.rest ≤ length l.tokens;
}

abbrev pub invariant-switches::group_statements-loop : goal.invariant-switches::group_statements-loop
invariant-switches::group_statements-loop l = record {
  gives : finished as_they_are (map stmt_of l.items.items) (group_stmts_at method_readers
      (stmt_at method_readers l.limit) (suc (length (map spelled l.tokens)) - l.counter) (map spelled l.rest))
      ≡ group_stmts_at method_readers (stmt_at method_readers l.limit) (suc (length (map spelled l.tokens)))
      (map spelled l.tokens);
  places : Leads (each_puts (map stmt_places l.items.items)) (kept l.tokens) (kept l.rest);
  few : l.counter ≤ length l.tokens;
  shorter : length l.rest ≤ length l.tokens;
}

abbrev pub invariant-switches::groups-loop : goal.invariant-switches::groups-loop
invariant-switches::groups-loop l = record {
  gives : groups_finished (map group_of l.items.items) (groups_at method_readers (stmt_at method_readers l.limit)
      l.limit (length (map spelled l.tokens) - l.counter) (map spelled l.rest)) ≡ groups_at method_readers
      (stmt_at method_readers l.limit) l.limit (length (map spelled l.tokens)) (map spelled l.tokens);
  places : Leads (each_puts (map group_places l.items.items)) (kept l.tokens) (kept l.rest);
  shorter : length l.rest ≤ length l.tokens;
}

abbrev pub invariant-tries::parts-loop : goal.invariant-tries::parts-loop
invariant-tries::parts-loop l = record {
  gives : parts_finished (map catch_of l.parts.clauses.items) (parts_left method_readers (pieces_at method_readers
      (stmt_at method_readers l.limit) (block_at method_readers l.limit) l.limit catch_row)
      (block_at method_readers l.limit) (suc (length (map spelled l.tokens)) - l.counter)
      (option_map block_of l.parts.last) (map spelled l.rest)) ≡ parts_at method_readers
      (stmt_at method_readers l.limit) (block_at method_readers l.limit) l.limit (map spelled l.tokens);
  places : Leads (parts_places l.parts) (kept l.tokens) (kept l.rest);
  few : l.counter + length l.rest ≤ length l.tokens;
}

abbrev pub decreases-statements::read_statement : goal.decreases-statements::read_statement
decreases-statements::read_statement l = 8 * l.limit

abbrev pub decreases-statements::by_lead : goal.decreases-statements::by_lead
decreases-statements::by_lead l = 8 * l.limit + 7

abbrev pub decreases-statements::body : goal.decreases-statements::body
decreases-statements::body l = 8 * l.limit + 1

abbrev pub decreases-statements::braces : goal.decreases-statements::braces
decreases-statements::braces l = 8 * l.limit + 1

abbrev pub decreases-statements::read_block : goal.decreases-statements::read_block
decreases-statements::read_block l = 8 * l.limit + 1

abbrev pub decreases-statements::if_statement : goal.decreases-statements::if_statement
decreases-statements::if_statement l = 8 * l.limit + 3

abbrev pub decreases-statements::while_statement : goal.decreases-statements::while_statement
decreases-statements::while_statement l = 8 * l.limit + 2

abbrev pub decreases-statements::for_statement : goal.decreases-statements::for_statement
decreases-statements::for_statement l = 8 * l.limit + 2

abbrev pub decreases-statements::synchronized : goal.decreases-statements::synchronized
decreases-statements::synchronized l = 8 * l.limit + 2

abbrev pub decreases-statements::otherwise : goal.decreases-statements::otherwise
decreases-statements::otherwise l = 8 * l.limit + 2

abbrev pub decreases-statements::row : goal.decreases-statements::row
decreases-statements::row l = 8 * l.limit + 6

abbrev pub decreases-statements::do_statement : goal.decreases-statements::do_statement
decreases-statements::do_statement l = 8 * l.limit + 2

abbrev pub decreases-statements::label_statement : goal.decreases-statements::label_statement
decreases-statements::label_statement l = 8 * l.limit + 2

abbrev pub decreases-switches::switch_statement : goal.decreases-switches::switch_statement
decreases-switches::switch_statement l = 8 * l.limit + 4

abbrev pub decreases-switches::groups : goal.decreases-switches::groups
decreases-switches::groups l = 8 * l.limit + 3

abbrev pub decreases-switches::group : goal.decreases-switches::group
decreases-switches::group l = 8 * l.limit + 2

abbrev pub decreases-switches::group_statements : goal.decreases-switches::group_statements
decreases-switches::group_statements l = 8 * l.limit + 1

abbrev pub decreases-tries::try_statement : goal.decreases-tries::try_statement
decreases-tries::try_statement l = 8 * l.limit + 5

abbrev pub decreases-tries::clause : goal.decreases-tries::clause
decreases-tries::clause l = 8 * l.limit + 2

abbrev pub decreases-tries::parts : goal.decreases-tries::parts
decreases-tries::parts l = 8 * l.limit + 3
