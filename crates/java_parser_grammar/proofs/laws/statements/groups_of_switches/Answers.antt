use Rattle.std.proofs.Common.{refl}
use Rattle.java_parser_grammar.specs.Taking.{commas}
use Rattle.java_parser_grammar.specs.TypeReading.{ty_at, base_with, part_with, points, brackets_at, behind_each}
use Rattle.java_parser_grammar.specs.BalancedReading.{variable_modifiers_at}
use Rattle.java_parser_grammar.specs.Leads.{lead, behind, casts, begins_lambda}
use Rattle.java_parser_grammar.specs.ExpressionReading.{read_at, climb_with, turn_with, operand_with, name_with}
use Rattle.java_parser_grammar.specs.ExpressionReading.{call_arguments_with, conditional_with, assign_with, class_at}
use Rattle.java_parser_grammar.specs.StatementReading.{stmt_at, condition_at, stmts_at, if_at, local_at, run_line_at}
use Rattle.java_parser_grammar.specs.StatementReading.{variable_at, variables_at, locals_at, resource_at}
use Rattle.java_parser_grammar.specs.StatementReading.{more_resources_at, catch_parameter_at, label_at}
use Rattle.java_parser_grammar.specs.StatementReading.{labels_at, group_stmts_at, groups_at, again_at, pieces_at}
use Rattle.java_parser_grammar.proofs.laws.statements.groups_of_switches.Goals as goal

pub returns : goal.returns
unfolding stmt_at condition_at stmts_at if_at local_at run_line_at variable_at variables_at locals_at
    resource_at more_resources_at catch_parameter_at label_at labels_at group_stmts_at groups_at
    again_at pieces_at read_at climb_with turn_with operand_with name_with call_arguments_with conditional_with
    assign_with class_at ty_at base_with part_with points brackets_at behind_each lead behind casts begins_lambda
    variable_modifiers_at commas
returns c = (refl, (refl, (refl, (refl, (refl, tt)))))
