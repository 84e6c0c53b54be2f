mod Arguments
mod Creations
mod Expressions
mod FirstOperand
mod Initialisers
mod Lambdas
mod Turns
use Rattle.java_parser_expressions.proofs.+expressions.Goals as goal
use Rattle.java_parser_expressions.proofs.+expressions.Answers.Arguments as arguments
use Rattle.java_parser_expressions.proofs.+expressions.Answers.Creations as creations
use Rattle.java_parser_expressions.proofs.+expressions.Answers.Expressions as expressions
use Rattle.java_parser_expressions.proofs.+expressions.Answers.FirstOperand as first_operand
use Rattle.java_parser_expressions.proofs.+expressions.Answers.Initialisers as initialisers
use Rattle.java_parser_expressions.proofs.+expressions.Answers.Lambdas as lambdas
use Rattle.java_parser_expressions.proofs.+expressions.Answers.Turns as turns

pub arguments::arguments-returns-in_err-next-clause-gives :
    goal.arguments::arguments-returns-in_err-next-clause-gives
arguments::arguments-returns-in_err-next-clause-gives =
    arguments.arguments::arguments-returns-in_err-next-clause-gives

pub arguments::arguments-loop-preserved : goal.arguments::arguments-loop-preserved
arguments::arguments-loop-preserved = arguments.arguments::arguments-loop-preserved

pub arguments::arguments-returns : goal.arguments::arguments-returns
arguments::arguments-returns = arguments.arguments::arguments-returns

pub arguments::arguments-loop-init : goal.arguments::arguments-loop-init
arguments::arguments-loop-init = arguments.arguments::arguments-loop-init

pub arguments::call_arguments-returns-in-Some-clause-gives :
    goal.arguments::call_arguments-returns-in-Some-clause-gives
arguments::call_arguments-returns-in-Some-clause-gives =
    arguments.arguments::call_arguments-returns-in-Some-clause-gives

pub arguments::call_arguments-returns-in_err-first-clause-gives :
    goal.arguments::call_arguments-returns-in_err-first-clause-gives
arguments::call_arguments-returns-in_err-first-clause-gives =
    arguments.arguments::call_arguments-returns-in_err-first-clause-gives

pub arguments::call_arguments-returns-clause-gives : goal.arguments::call_arguments-returns-clause-gives
arguments::call_arguments-returns-clause-gives = arguments.arguments::call_arguments-returns-clause-gives

pub creations::creation-returns-in-None : goal.creations::creation-returns-in-None
creations::creation-returns-in-None = creations.creations::creation-returns-in-None

pub creations::creation-returns-in-Some : goal.creations::creation-returns-in-Some
creations::creation-returns-in-Some = creations.creations::creation-returns-in-Some

pub creations::new_object-returns : goal.creations::new_object-returns
creations::new_object-returns = creations.creations::new_object-returns

pub creations::new_object-returns-then-not-begins_with : goal.creations::new_object-returns-then-not-begins_with
creations::new_object-returns-then-not-begins_with = creations.creations::new_object-returns-then-not-begins_with

pub creations::new_array-returns : goal.creations::new_array-returns
creations::new_array-returns = creations.creations::new_array-returns

pub creations::new_items-returns-clause-places : goal.creations::new_items-returns-clause-places
creations::new_items-returns-clause-places = creations.creations::new_items-returns-clause-places

pub creations::creation-returns-in-Some-after_brackets : goal.creations::creation-returns-in-Some-after_brackets
creations::creation-returns-in-Some-after_brackets = creations.creations::creation-returns-in-Some-after_brackets

pub creations::new_object-object-requires-clause-all : goal.creations::new_object-object-requires-clause-all
creations::new_object-object-requires-clause-all = creations.creations::new_object-object-requires-clause-all

pub creations::new_object-object_with_body-requires-clause-all :
    goal.creations::new_object-object_with_body-requires-clause-all
creations::new_object-object_with_body-requires-clause-all =
    creations.creations::new_object-object_with_body-requires-clause-all

pub creations::lengths-returns-in_err-next-clause-gives : goal.creations::lengths-returns-in_err-next-clause-gives
creations::lengths-returns-in_err-next-clause-gives = creations.creations::lengths-returns-in_err-next-clause-gives

pub creations::lengths-returns-in_err-behind-clause-gives :
    goal.creations::lengths-returns-in_err-behind-clause-gives
creations::lengths-returns-in_err-behind-clause-gives =
    creations.creations::lengths-returns-in_err-behind-clause-gives

pub creations::lengths-loop-preserved : goal.creations::lengths-loop-preserved
creations::lengths-loop-preserved = creations.creations::lengths-loop-preserved

pub creations::lengths-returns : goal.creations::lengths-returns
creations::lengths-returns = creations.creations::lengths-returns

pub creations::lengths-loop-init : goal.creations::lengths-loop-init
creations::lengths-loop-init = creations.creations::lengths-loop-init

pub creations::new_array-returns-in_err-inside-clause-gives :
    goal.creations::new_array-returns-in_err-inside-clause-gives
creations::new_array-returns-in_err-inside-clause-gives =
    creations.creations::new_array-returns-in_err-inside-clause-gives

pub creations::new_array-returns-in_err-first-clause-gives :
    goal.creations::new_array-returns-in_err-first-clause-gives
creations::new_array-returns-in_err-first-clause-gives =
    creations.creations::new_array-returns-in_err-first-clause-gives

pub creations::new_array-returns-in_err-rest-clause-gives :
    goal.creations::new_array-returns-in_err-rest-clause-gives
creations::new_array-returns-in_err-rest-clause-gives =
    creations.creations::new_array-returns-in_err-rest-clause-gives

pub creations::creation-returns-in_err-base-clause-gives : goal.creations::creation-returns-in_err-base-clause-gives
creations::creation-returns-in_err-base-clause-gives = creations.creations::creation-returns-in_err-base-clause-gives

pub creations::creation-returns-then-has_diamond-clause-gives :
    goal.creations::creation-returns-then-has_diamond-clause-gives
creations::creation-returns-then-has_diamond-clause-gives =
    creations.creations::creation-returns-then-has_diamond-clause-gives

pub creations::new_object-returns-then-not-is_named-clause-gives :
    goal.creations::new_object-returns-then-not-is_named-clause-gives
creations::new_object-returns-then-not-is_named-clause-gives =
    creations.creations::new_object-returns-then-not-is_named-clause-gives

pub creations::new_object-returns-in_err-all-clause-gives :
    goal.creations::new_object-returns-in_err-all-clause-gives
creations::new_object-returns-in_err-all-clause-gives =
    creations.creations::new_object-returns-in_err-all-clause-gives

pub creations::new_object-returns-in_err-body-clause-gives :
    goal.creations::new_object-returns-in_err-body-clause-gives
creations::new_object-returns-in_err-body-clause-gives =
    creations.creations::new_object-returns-in_err-body-clause-gives

pub expressions::assign-returns : goal.expressions::assign-returns
expressions::assign-returns = expressions.expressions::assign-returns

pub expressions::binary-returns : goal.expressions::binary-returns
expressions::binary-returns = expressions.expressions::binary-returns

pub expressions::conditional-returns : goal.expressions::conditional-returns
expressions::conditional-returns = expressions.expressions::conditional-returns

pub expressions::select-returns : goal.expressions::select-returns
expressions::select-returns = expressions.expressions::select-returns

pub expressions::select-returns-in_default : goal.expressions::select-returns-in_default
expressions::select-returns-in_default = expressions.expressions::select-returns-in_default

pub expressions::index-returns : goal.expressions::index-returns
expressions::index-returns = expressions.expressions::index-returns

pub expressions::conditional-chosen-requires-clause-then : goal.expressions::conditional-chosen-requires-clause-then
expressions::conditional-chosen-requires-clause-then =
    expressions.expressions::conditional-chosen-requires-clause-then

pub expressions::conditional-chosen-requires-clause-other :
    goal.expressions::conditional-chosen-requires-clause-other
expressions::conditional-chosen-requires-clause-other =
    expressions.expressions::conditional-chosen-requires-clause-other

pub expressions::select-called-requires-clause-all : goal.expressions::select-called-requires-clause-all
expressions::select-called-requires-clause-all = expressions.expressions::select-called-requires-clause-all

pub expressions::binary-joined-requires-clause-right : goal.expressions::binary-joined-requires-clause-right
expressions::binary-joined-requires-clause-right = expressions.expressions::binary-joined-requires-clause-right

pub expressions::assign-assigned-requires-clause-right : goal.expressions::assign-assigned-requires-clause-right
expressions::assign-assigned-requires-clause-right = expressions.expressions::assign-assigned-requires-clause-right

pub expressions::index-indexed-requires-clause-index : goal.expressions::index-indexed-requires-clause-index
expressions::index-indexed-requires-clause-index = expressions.expressions::index-indexed-requires-clause-index

pub expressions::read_part-returns-in-Some-true-clause-gives :
    goal.expressions::read_part-returns-in-Some-true-clause-gives
expressions::read_part-returns-in-Some-true-clause-gives =
    expressions.expressions::read_part-returns-in-Some-true-clause-gives

pub expressions::read_part-returns-in-None-clause-gives : goal.expressions::read_part-returns-in-None-clause-gives
expressions::read_part-returns-in-None-clause-gives = expressions.expressions::read_part-returns-in-None-clause-gives

pub expressions::nested_part-returns-else-begins_with-clause-gives :
    goal.expressions::nested_part-returns-else-begins_with-clause-gives
expressions::nested_part-returns-else-begins_with-clause-gives =
    expressions.expressions::nested_part-returns-else-begins_with-clause-gives

pub expressions::nested_part-lambda_part-requires : goal.expressions::nested_part-lambda_part-requires
expressions::nested_part-lambda_part-requires = expressions.expressions::nested_part-lambda_part-requires

pub expressions::nested_part-returns-then-not-begins_lambda-clause-gives :
    goal.expressions::nested_part-returns-then-not-begins_lambda-clause-gives
expressions::nested_part-returns-then-not-begins_lambda-clause-gives =
    expressions.expressions::nested_part-returns-then-not-begins_lambda-clause-gives

pub expressions::assign-returns-in_err-right-clause-gives :
    goal.expressions::assign-returns-in_err-right-clause-gives
expressions::assign-returns-in_err-right-clause-gives =
    expressions.expressions::assign-returns-in_err-right-clause-gives

pub expressions::conditional-returns-in_err-then-clause-gives :
    goal.expressions::conditional-returns-in_err-then-clause-gives
expressions::conditional-returns-in_err-then-clause-gives =
    expressions.expressions::conditional-returns-in_err-then-clause-gives

pub expressions::conditional-returns-in_err-rest-clause-gives :
    goal.expressions::conditional-returns-in_err-rest-clause-gives
expressions::conditional-returns-in_err-rest-clause-gives =
    expressions.expressions::conditional-returns-in_err-rest-clause-gives

pub expressions::conditional-returns-in_err-other-clause-gives :
    goal.expressions::conditional-returns-in_err-other-clause-gives
expressions::conditional-returns-in_err-other-clause-gives =
    expressions.expressions::conditional-returns-in_err-other-clause-gives

pub expressions::select-returns-in_err-types-clause-gives :
    goal.expressions::select-returns-in_err-types-clause-gives
expressions::select-returns-in_err-types-clause-gives =
    expressions.expressions::select-returns-in_err-types-clause-gives

pub expressions::select-returns-in_err-name-clause-gives : goal.expressions::select-returns-in_err-name-clause-gives
expressions::select-returns-in_err-name-clause-gives =
    expressions.expressions::select-returns-in_err-name-clause-gives

pub expressions::select-returns-then-not-is_empty-clause-gives :
    goal.expressions::select-returns-then-not-is_empty-clause-gives
expressions::select-returns-then-not-is_empty-clause-gives =
    expressions.expressions::select-returns-then-not-is_empty-clause-gives

pub expressions::select-returns-in_err-all-clause-gives : goal.expressions::select-returns-in_err-all-clause-gives
expressions::select-returns-in_err-all-clause-gives = expressions.expressions::select-returns-in_err-all-clause-gives

pub expressions::index-returns-in_err-index-clause-gives : goal.expressions::index-returns-in_err-index-clause-gives
expressions::index-returns-in_err-index-clause-gives =
    expressions.expressions::index-returns-in_err-index-clause-gives

pub first_operand::cast-returns : goal.first_operand::cast-returns
first_operand::cast-returns = first_operand.first_operand::cast-returns

pub first_operand::name_operand-returns : goal.first_operand::name_operand-returns
first_operand::name_operand-returns = first_operand.first_operand::name_operand-returns

pub first_operand::cast-cast_to-requires-clause-types : goal.first_operand::cast-cast_to-requires-clause-types
first_operand::cast-cast_to-requires-clause-types = first_operand.first_operand::cast-cast_to-requires-clause-types

pub first_operand::cast-cast_to-requires-clause-part : goal.first_operand::cast-cast_to-requires-clause-part
first_operand::cast-cast_to-requires-clause-part = first_operand.first_operand::cast-cast_to-requires-clause-part

pub first_operand::operand-returns-in-Keyword : goal.first_operand::operand-returns-in-Keyword
first_operand::operand-returns-in-Keyword = first_operand.first_operand::operand-returns-in-Keyword

pub first_operand::operand-returns-in-Name : goal.first_operand::operand-returns-in-Name
first_operand::operand-returns-in-Name = first_operand.first_operand::operand-returns-in-Name

pub first_operand::operand-returns-in-Sign : goal.first_operand::operand-returns-in-Sign
first_operand::operand-returns-in-Sign = first_operand.first_operand::operand-returns-in-Sign

pub first_operand::name_operand-returns-then-goes_typed : goal.first_operand::name_operand-returns-then-goes_typed
first_operand::name_operand-returns-then-goes_typed =
    first_operand.first_operand::name_operand-returns-then-goes_typed

pub first_operand::prefix-returns-in_err-part-clause-gives :
    goal.first_operand::prefix-returns-in_err-part-clause-gives
first_operand::prefix-returns-in_err-part-clause-gives =
    first_operand.first_operand::prefix-returns-in_err-part-clause-gives

pub first_operand::prefix-returns-clause-gives : goal.first_operand::prefix-returns-clause-gives
first_operand::prefix-returns-clause-gives = first_operand.first_operand::prefix-returns-clause-gives

pub first_operand::cast-returns-in_err-types-clause-gives :
    goal.first_operand::cast-returns-in_err-types-clause-gives
first_operand::cast-returns-in_err-types-clause-gives =
    first_operand.first_operand::cast-returns-in_err-types-clause-gives

pub first_operand::cast-returns-in_err-rest-clause-gives : goal.first_operand::cast-returns-in_err-rest-clause-gives
first_operand::cast-returns-in_err-rest-clause-gives =
    first_operand.first_operand::cast-returns-in_err-rest-clause-gives

pub first_operand::cast-returns-in_err-part-clause-gives : goal.first_operand::cast-returns-in_err-part-clause-gives
first_operand::cast-returns-in_err-part-clause-gives =
    first_operand.first_operand::cast-returns-in_err-part-clause-gives

pub first_operand::parens-returns-in_err-part-clause-gives :
    goal.first_operand::parens-returns-in_err-part-clause-gives
first_operand::parens-returns-in_err-part-clause-gives =
    first_operand.first_operand::parens-returns-in_err-part-clause-gives

pub first_operand::parens-returns-clause-gives : goal.first_operand::parens-returns-clause-gives
first_operand::parens-returns-clause-gives = first_operand.first_operand::parens-returns-clause-gives

pub first_operand::name_operand-returns-then-class_follows-clause-gives :
    goal.first_operand::name_operand-returns-then-class_follows-clause-gives
first_operand::name_operand-returns-then-class_follows-clause-gives =
    first_operand.first_operand::name_operand-returns-then-class_follows-clause-gives

pub first_operand::name_operand-returns-in_default-clause-gives :
    goal.first_operand::name_operand-returns-in_default-clause-gives
first_operand::name_operand-returns-in_default-clause-gives =
    first_operand.first_operand::name_operand-returns-in_default-clause-gives

pub first_operand::name_operand-returns-in_err-all-clause-gives :
    goal.first_operand::name_operand-returns-in_err-all-clause-gives
first_operand::name_operand-returns-in_err-all-clause-gives =
    first_operand.first_operand::name_operand-returns-in_err-all-clause-gives

pub first_operand::sign_operand-returns-in-None-clause-gives :
    goal.first_operand::sign_operand-returns-in-None-clause-gives
first_operand::sign_operand-returns-in-None-clause-gives =
    first_operand.first_operand::sign_operand-returns-in-None-clause-gives

pub first_operand::sign_operand-returns-in-Some-true-clause-gives :
    goal.first_operand::sign_operand-returns-in-Some-true-clause-gives
first_operand::sign_operand-returns-in-Some-true-clause-gives =
    first_operand.first_operand::sign_operand-returns-in-Some-true-clause-gives

pub first_operand::sign_operand-returns-in-Some-false-clause-gives :
    goal.first_operand::sign_operand-returns-in-Some-false-clause-gives
first_operand::sign_operand-returns-in-Some-false-clause-gives =
    first_operand.first_operand::sign_operand-returns-in-Some-false-clause-gives

pub first_operand::sign_operand-returns-then-not-is_text-clause-gives :
    goal.first_operand::sign_operand-returns-then-not-is_text-clause-gives
first_operand::sign_operand-returns-then-not-is_text-clause-gives =
    first_operand.first_operand::sign_operand-returns-then-not-is_text-clause-gives

pub first_operand::word-returns-clause-gives : goal.first_operand::word-returns-clause-gives
first_operand::word-returns-clause-gives = first_operand.first_operand::word-returns-clause-gives

pub initialisers::read_initialiser-returns : goal.initialisers::read_initialiser-returns
initialisers::read_initialiser-returns = initialisers.initialisers::read_initialiser-returns

pub initialisers::read_initialiser-returns-then-is_some : goal.initialisers::read_initialiser-returns-then-is_some
initialisers::read_initialiser-returns-then-is_some = initialisers.initialisers::read_initialiser-returns-then-is_some

pub initialisers::braces-returns : goal.initialisers::braces-returns
initialisers::braces-returns = initialisers.initialisers::braces-returns

pub initialisers::items-returns-in_default : goal.initialisers::items-returns-in_default
initialisers::items-returns-in_default = initialisers.initialisers::items-returns-in_default

pub initialisers::items-returns-in_err-next-clause-gives : goal.initialisers::items-returns-in_err-next-clause-gives
initialisers::items-returns-in_err-next-clause-gives =
    initialisers.initialisers::items-returns-in_err-next-clause-gives

pub initialisers::items-loop-preserved : goal.initialisers::items-loop-preserved
initialisers::items-loop-preserved = initialisers.initialisers::items-loop-preserved

pub initialisers::items-returns-clause-gives : goal.initialisers::items-returns-clause-gives
initialisers::items-returns-clause-gives = initialisers.initialisers::items-returns-clause-gives

pub initialisers::items-loop-init : goal.initialisers::items-loop-init
initialisers::items-loop-init = initialisers.initialisers::items-loop-init

pub initialisers::braces-returns-in_err-rest-clause-gives :
    goal.initialisers::braces-returns-in_err-rest-clause-gives
initialisers::braces-returns-in_err-rest-clause-gives =
    initialisers.initialisers::braces-returns-in_err-rest-clause-gives

pub initialisers::braces-returns-in_err-first-clause-gives :
    goal.initialisers::braces-returns-in_err-first-clause-gives
initialisers::braces-returns-in_err-first-clause-gives =
    initialisers.initialisers::braces-returns-in_err-first-clause-gives

pub initialisers::braces-returns-in-Some-clause-gives : goal.initialisers::braces-returns-in-Some-clause-gives
initialisers::braces-returns-in-Some-clause-gives = initialisers.initialisers::braces-returns-in-Some-clause-gives

pub lambdas::lambda_part-returns-clause-gives : goal.lambdas::lambda_part-returns-clause-gives
lambdas::lambda_part-returns-clause-gives = lambdas.lambdas::lambda_part-returns-clause-gives

pub lambdas::lambda_part-returns-then-not-may_stand-clause-gives :
    goal.lambdas::lambda_part-returns-then-not-may_stand-clause-gives
lambdas::lambda_part-returns-then-not-may_stand-clause-gives =
    lambdas.lambdas::lambda_part-returns-then-not-may_stand-clause-gives

pub lambdas::lambda-returns-in_err-parameters-clause-gives :
    goal.lambdas::lambda-returns-in_err-parameters-clause-gives
lambdas::lambda-returns-in_err-parameters-clause-gives =
    lambdas.lambdas::lambda-returns-in_err-parameters-clause-gives

pub lambdas::lambda-returns-in_err-rest-clause-gives : goal.lambdas::lambda-returns-in_err-rest-clause-gives
lambdas::lambda-returns-in_err-rest-clause-gives = lambdas.lambdas::lambda-returns-in_err-rest-clause-gives

pub lambdas::lambda-returns-in_err-block-clause-gives : goal.lambdas::lambda-returns-in_err-block-clause-gives
lambdas::lambda-returns-in_err-block-clause-gives = lambdas.lambdas::lambda-returns-in_err-block-clause-gives

pub lambdas::lambda-returns-then-begins_with : goal.lambdas::lambda-returns-then-begins_with
lambdas::lambda-returns-then-begins_with = lambdas.lambdas::lambda-returns-then-begins_with

pub lambdas::lambda-returns-in_err-value-clause-gives : goal.lambdas::lambda-returns-in_err-value-clause-gives
lambdas::lambda-returns-in_err-value-clause-gives = lambdas.lambdas::lambda-returns-in_err-value-clause-gives

pub lambdas::lambda-returns : goal.lambdas::lambda-returns
lambdas::lambda-returns = lambdas.lambdas::lambda-returns

pub expressions::turn-returns-in-Assigns : goal.expressions::turn-returns-in-Assigns
expressions::turn-returns-in-Assigns = turns.expressions::turn-returns-in-Assigns

pub expressions::turn-returns-in-Asks : goal.expressions::turn-returns-in-Asks
expressions::turn-returns-in-Asks = turns.expressions::turn-returns-in-Asks

pub expressions::turn-returns-in-Joins : goal.expressions::turn-returns-in-Joins
expressions::turn-returns-in-Joins = turns.expressions::turn-returns-in-Joins

pub expressions::turn-returns-in-Tests : goal.expressions::turn-returns-in-Tests
expressions::turn-returns-in-Tests = turns.expressions::turn-returns-in-Tests

pub expressions::turn-returns-in-Steps : goal.expressions::turn-returns-in-Steps
expressions::turn-returns-in-Steps = turns.expressions::turn-returns-in-Steps

pub expressions::turn-returns-in-Selects : goal.expressions::turn-returns-in-Selects
expressions::turn-returns-in-Selects = turns.expressions::turn-returns-in-Selects

pub expressions::turn-returns-in-Indexes : goal.expressions::turn-returns-in-Indexes
expressions::turn-returns-in-Indexes = turns.expressions::turn-returns-in-Indexes

pub expressions::turn-returns-in-Refers : goal.expressions::turn-returns-in-Refers
expressions::turn-returns-in-Refers = turns.expressions::turn-returns-in-Refers

pub expressions::turn-tested-requires-clause-few : goal.expressions::turn-tested-requires-clause-few
expressions::turn-tested-requires-clause-few = turns.expressions::turn-tested-requires-clause-few

pub expressions::climb-loop-preserved : goal.expressions::climb-loop-preserved
expressions::climb-loop-preserved = turns.expressions::climb-loop-preserved

pub expressions::climb-returns-in-Stop : goal.expressions::climb-returns-in-Stop
expressions::climb-returns-in-Stop = turns.expressions::climb-returns-in-Stop

pub expressions::climb-returns-clause-gives : goal.expressions::climb-returns-clause-gives
expressions::climb-returns-clause-gives = turns.expressions::climb-returns-clause-gives

pub expressions::climb-loop-init : goal.expressions::climb-loop-init
expressions::climb-loop-init = turns.expressions::climb-loop-init

pub expressions::turn-returns-then-not-goes_on-clause-gives :
    goal.expressions::turn-returns-then-not-goes_on-clause-gives
expressions::turn-returns-then-not-goes_on-clause-gives =
    turns.expressions::turn-returns-then-not-goes_on-clause-gives
