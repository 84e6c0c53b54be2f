use Rattle.std.proofs.Common.{sym, ◌∙◌}
use Rattle.java_parser_types.specs.declared.error.ReadError.TheVariants.{Unformed}
use Rattle.java_parser.proofs.Refusals.{same_error}
use Rattle.java_parser.proofs.VariableSteps.{no_value, sized_value}
use Rattle.java_parser.proofs.divisions.variable_size.Goals as goal

pub returns-in-Ok-clause-sized : goal.returns-in-Ok-clause-sized
returns-in-Ok-clause-sized c =
    sized_value c.args.tokens.now c.in-Some.behind.now c.in-Some-split_first.value.now c.in-Ok.rest.now
    c.in-Some.name.now c.in-Some-split_first.equals.now c.in-Some.ensures.cases.0
    c.in-Some-split_first.ensures.cases.0 (sym c.is_name.ensures ∙ c.if-not-is_name.false)
    (sym c.is_sign.ensures ∙ c.if-not-is_sign.false) c.in-Ok.ensures.shorter c.in-Ok.ensures.value

pub returns-in-Err-clause-none : goal.returns-in-Err-clause-none
returns-in-Err-clause-none c = λ e.
    no_value c.args.tokens.now c.in-Some.behind.now c.in-Some-split_first.value.now c.in-Some.name.now
    c.in-Some-split_first.equals.now c.in-Some.ensures.cases.0 c.in-Some-split_first.ensures.cases.0
    (sym c.is_sign.ensures ∙ c.if-not-is_sign.false)
    (c.in-Err.ensures.none (same_error c.in-Err.error Unformed e))
