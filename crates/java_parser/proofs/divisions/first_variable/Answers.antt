use Rattle.std.specs.Prelude.{option_map}
use Rattle.java_parser_types.specs.declared.error.ReadError.TheVariants.{Unformed}
use Rattle.java_parser.proofs.Refusals.{same_error}
use Rattle.java_parser.proofs.DivisionSteps.{no_division, no_comma_behind, is_first}
use Rattle.java_parser.proofs.divisions.first_variable.Goals as goal

pub returns-in-Err-clause-none : goal.returns-in-Err-clause-none
returns-in-Err-clause-none c = λ e. no_division c.args.tokens.now (c.in-Err.ensures.none
    (same_error c.in-Err.error Unformed e))

pub returns-in-Ok-behind_comma-clause-first : goal.returns-in-Ok-behind_comma-clause-first
returns-in-Ok-behind_comma-clause-first c =
    is_first c.args.tokens.now c.split_at.result.0.now c.split_at.result.1.now c.in-Ok.size
    (option_map (λ r. r.now) c.in-Ok-behind_comma.behind) c.in-Ok.ensures.sized c.split_at.ensures.front
    c.split_at.ensures.back c.split_at.ensures.front_len c.in-Ok-behind_comma.ensures.behind

pub returns-in-Err-behind_comma-clause-none : goal.returns-in-Err-behind_comma-clause-none
returns-in-Err-behind_comma-clause-none c = λ e.
    no_comma_behind c.args.tokens.now c.split_at.result.0.now c.split_at.result.1.now c.in-Ok.size
    c.in-Ok.ensures.sized c.split_at.ensures.front c.split_at.ensures.back c.split_at.ensures.front_len
    (c.in-Err-behind_comma.ensures.none (same_error c.in-Err-behind_comma.error Unformed e))
