-- Lambdas.
use Rattle.std.proofs.Common.{◌≡◌, ◌∙◌, map, refl, arith, true, false, codes, rules}
use Rattle.std.proofs.lemmas.Result.{err_from_is_err_and}
use Rattle.java_tree.specs.KeptPlaces.{kept, no_places, expr_places}
use Rattle.java_tree.specs.Operators.{assignment_level}
use Rattle.java_parser_grammar.specs.BalancedReading.{braces_tokens_at}
use Rattle.java_parser_grammar.specs.ExpressionReading.{read_at, lambda_parameters_at, lambda_with}
use Rattle.java_parser_grammar.specs.Leads.{begins_with}
use Rattle.java_parser_grammar.specs.Taking.{after_sign}
use Rattle.java_parser_types.proofs.LastCalls.{exactly, fewer}
use Rattle.java_parser_types.proofs.LedMarks.{both_led, from_equal, led_made}
use Rattle.java_parser_types.proofs.ReadLoops.{ends_give}
use Rattle.java_parser_types.proofs.ReadParts.{part_fails}
use Rattle.java_parser_types.specs.Tokens.{spelled}
use Rattle.java_parser_expressions.proofs.PartReading.{lambda_on, lambda_off}
use Rattle.java_parser_expressions.proofs.+expressions.Goals as goal

pub lambdas::lambda_part-returns-clause-gives : goal.lambdas::lambda_part-returns-clause-gives
lambdas::lambda_part-returns-clause-gives t c =
    let ts = map spelled c.args.tokens.now in
    ends_give _ c.lambda.result _ _ (lambda_on c.args.limit c.args.level ts c.args.lambdas c.requires.begins
    (c.may_stand.ensures ts c.requires.begins ∙ c.if-not-may_stand.false)) c.lambda.ensures.gives

pub lambdas::lambda_part-returns-then-not-may_stand-clause-gives :
    goal.lambdas::lambda_part-returns-then-not-may_stand-clause-gives
lambdas::lambda_part-returns-then-not-may_stand-clause-gives t c =
    let ts = map spelled c.args.tokens.now in
    lambda_off c.args.limit c.args.level ts c.args.lambdas c.requires.begins
    (c.may_stand.ensures ts c.requires.begins ∙ c.if-not-may_stand.true)

pub lambdas::lambda-returns-in_err-parameters-clause-gives :
    goal.lambdas::lambda-returns-in_err-parameters-clause-gives
unfolding lambda_with
lambdas::lambda-returns-in_err-parameters-clause-gives t c =
    let p = err_from_is_err_and c.from_residual.result c.from_residual.ensures.1 in
    rw (p.1, p.2) (part_fails c.in_err-parameters.field-0.0 (lambda_parameters_at (map spelled c.args.tokens.now)) _
    (λ n. rw n refl) c.in_err-parameters.ensures.gives)

pub lambdas::lambda-returns-in_err-rest-clause-gives : goal.lambdas::lambda-returns-in_err-rest-clause-gives
unfolding lambda_with
lambdas::lambda-returns-in_err-rest-clause-gives t c =
    let p = err_from_is_err_and c.from_residual-in_err-rest.result c.from_residual-in_err-rest.ensures.1 in
    rw (p.1, p.2) (part_fails c.in_err-rest.field-0.0 (after_sign (codes "->")
    (map spelled c.in_ok-parameters.rest.now)) _ (λ n. rw (c.in_ok-parameters.ensures.gives, n) refl)
    c.in_err-rest.ensures.gives)

pub lambdas::lambda-returns-in_err-block-clause-gives : goal.lambdas::lambda-returns-in_err-block-clause-gives
unfolding lambda_with
lambdas::lambda-returns-in_err-block-clause-gives t c =
    let p = err_from_is_err_and c.from_residual-in_err-block.result c.from_residual-in_err-block.ensures.1 in
    let braces : begins_with (codes "{") (map spelled c.in_ok-rest.rest.now) ≡ true = search rules in
    rw (p.1, p.2) (part_fails c.in_err-block.field-0.0 (braces_tokens_at (map spelled c.in_ok-rest.rest.now)) _
    (λ n. rw (c.in_ok-parameters.ensures.gives, c.in_ok-rest.ensures.gives, n, braces) refl)
    c.in_err-block.ensures.gives)

pub lambdas::lambda-returns-then-begins_with : goal.lambdas::lambda-returns-then-begins_with
unfolding lambda_with
lambdas::lambda-returns-then-begins_with t c =
    record {
      gives =
          let braces : begins_with (codes "{") (map spelled c.in_ok-rest.rest.now) ≡ true = search rules in
          rw (c.in_ok-parameters.ensures.gives, c.in_ok-rest.ensures.gives, c.in_ok-block.ensures.gives, braces)
          c.with_block.ensures.gives;
      places =
          let before = no_places c.in_ok-parameters.parameters.items in
          let block = no_places c.in_ok-block.block.items in
          let here = kept c.args.tokens.now in
          let at = kept c.in_ok-parameters.rest.now in
          let end = kept c.in_ok-block.rest.now in
          led_made c.with_block.result _ _ _ here end (both_led before block here at end
          c.in_ok-parameters.ensures.places
          (from_equal block at (kept c.in_ok-rest.rest.now) end c.in_ok-rest.ensures.places
          c.in_ok-block.ensures.places))
          c.with_block.ensures.places c.with_block.ensures.behind;
      small = search rules;
      shorter =
          fewer _ c.with_block.result _ _ c.with_block.ensures.shorter (omega (
            arith,
            c.in_ok-parameters.ensures.shorter,
            c.in_ok-rest.ensures.shorter,
            c.in_ok-block.ensures.shorter,
          ));
    }

pub lambdas::lambda-returns-in_err-value-clause-gives : goal.lambdas::lambda-returns-in_err-value-clause-gives
unfolding lambda_with
lambdas::lambda-returns-in_err-value-clause-gives t c =
    let p = err_from_is_err_and c.from_residual-in_err-value.result c.from_residual-in_err-value.ensures.1 in
    let no_braces : begins_with (codes "{") (map spelled c.in_ok-rest.rest.now) ≡ false = search rules in
    rw (p.1, p.2) (part_fails c.in_err-value.field-0.0 (read_at c.args.limit assignment_level
    (map spelled c.in_ok-rest.rest.now)) _
    (λ n. rw (c.in_ok-parameters.ensures.gives, c.in_ok-rest.ensures.gives, no_braces, n) refl)
    c.in_err-value.ensures.gives)

pub lambdas::lambda-returns : goal.lambdas::lambda-returns
unfolding lambda_with
lambdas::lambda-returns t c =
    record {
      gives =
          let no_braces : begins_with (codes "{") (map spelled c.in_ok-rest.rest.now) ≡ false = search rules in
          rw (
            c.in_ok-parameters.ensures.gives,
            c.in_ok-rest.ensures.gives,
            no_braces,
            c.in_ok-value.ensures.gives,
          ) c.with_value.ensures.gives;
      places =
          let before = no_places c.in_ok-parameters.parameters.items in
          let value = expr_places c.in_ok-value.value.tree.value in
          let here = kept c.args.tokens.now in
          let at = kept c.in_ok-parameters.rest.now in
          let end = kept c.in_ok-value.rest.now in
          led_made c.with_value.result _ _ _ here end (both_led before value here at end
          c.in_ok-parameters.ensures.places
          (from_equal value at (kept c.in_ok-rest.rest.now) end c.in_ok-rest.ensures.places
          c.in_ok-value.ensures.places))
          c.with_value.ensures.places c.with_value.ensures.behind;
      small = exactly _ c.with_value.result _ _ c.with_value.ensures.small (omega
          (arith, c.in_ok-value.ensures.small));
      shorter =
          fewer _ c.with_value.result _ _ c.with_value.ensures.shorter (omega (
            arith,
            c.in_ok-parameters.ensures.shorter,
            c.in_ok-rest.ensures.shorter,
            c.in_ok-value.ensures.shorter,
          ));
    }
