use Rattle.std.proofs.Common.{refl}
use Rattle.java_parser_grammar.specs.Taking.{commas}
use Rattle.java_parser_grammar.specs.TypeReading.{ty_at, base_with, part_with, points, brackets_at, angled_with}
use Rattle.java_parser_grammar.specs.TypeReading.{tested_part_with, tested_ty_at, types_at, behind_each, made_base_at}
use Rattle.java_parser_grammar.specs.TypeReading.{made_base_with, made_parts_with, made_part_with}
use Rattle.java_parser_grammar.specs.Leads.{lead, behind, casts, begins_lambda}
use Rattle.java_parser_grammar.specs.BalancedReading.{closed_at, names_at, annotation_at, annotations_at}
use Rattle.java_parser_grammar.specs.BalancedReading.{variable_modifiers_at}
use Rattle.java_parser_grammar.specs.ExpressionReading.{read_at, climb_with, turn_with, operand_with, name_with}
use Rattle.java_parser_grammar.specs.ExpressionReading.{call_arguments_with, assign_with, conditional_with}
use Rattle.java_parser_grammar.specs.ExpressionReading.{binary_with, instance_with, select_with, refer_with, class_at}
use Rattle.java_parser_grammar.specs.ExpressionReading.{cast_with, prefix_with, new_with, new_object_with}
use Rattle.java_parser_grammar.specs.ExpressionReading.{referred_at, typed_name_with, plain_word_with}
use Rattle.java_parser_grammar.specs.ExpressionReading.{lambda_parameters_at, lambda_with, index_with, array_at}
use Rattle.java_parser_grammar.specs.StatementReading.{stmt_at, condition_at, stmts_at, if_at, local_at, run_line_at}
use Rattle.java_parser_grammar.specs.StatementReading.{variable_at, variables_at, locals_at, for_at, for_typed}
use Rattle.java_parser_grammar.specs.StatementReading.{for_from, each_from, local_class_at, class_from}
use Rattle.java_parser_grammar.specs.MethodReading.{modifiers_at, method_from, named_at, parameter_at}
use Rattle.java_parser_grammar.specs.MethodReading.{type_parameter_at, type_parameters_at, result_at, throws_at}
use Rattle.java_parser_grammar.proofs.laws.forms.heads_of_methods.Goals as goal

pub returns : goal.returns
unfolding stmt_at condition_at stmts_at if_at local_at run_line_at variable_at variables_at locals_at for_at for_typed
    for_from each_from local_class_at class_from modifiers_at method_from named_at parameter_at type_parameter_at
    type_parameters_at result_at throws_at read_at climb_with turn_with operand_with name_with call_arguments_with
    assign_with conditional_with binary_with instance_with select_with refer_with class_at cast_with prefix_with
    new_with new_object_with referred_at typed_name_with plain_word_with lambda_parameters_at lambda_with index_with
    array_at ty_at base_with part_with points brackets_at angled_with tested_part_with tested_ty_at types_at
    behind_each made_base_at made_base_with made_parts_with made_part_with lead behind casts begins_lambda closed_at
    names_at annotation_at annotations_at variable_modifiers_at commas
returns c = (refl, (refl, (refl, (refl, tt))))
