-- An expression with no expression at its left.
use Rattle.std.proofs.Common.{◌≡◌, [], ◌∷◌, ◌∙◌, Some, map, refl, ap, arith, sym, subst, suc, length, IfOk}
use Rattle.std.proofs.Common.{true, false, codes, rules, if◌then◌else◌, ◌||◌}
use Rattle.std.proofs.lemmas.Result.{err_from_is_err_and}
use Rattle.std.specs.Prelude.{bytes_eq}
use Rattle.java_lexer.specs.declared.token.TokenKind.TheVariants as kind
use Rattle.java_tree.specs.Formed.{are_plain, is_plain_word}
use Rattle.java_tree.specs.KeptPlaces.{kept, each_puts, types_places, expr_places}
use Rattle.java_tree.specs.Operators.{assignment_level, unary_level, is_prefix}
use Rattle.java_tree.specs.View.{expr_of, ty_of}
use Rattle.java_tree.specs.Words.{identifier}
use Rattle.java_parser_grammar.specs.ExpressionReading.{read_at, lambda_level, prefix_with, call_arguments_with}
use Rattle.java_parser_grammar.specs.ExpressionReading.{operand_of, array_at, name_with, goes_typed}
use Rattle.java_parser_grammar.specs.ExpressionReading.{typed_name_with, operand_with}
use Rattle.java_parser_grammar.specs.Leads.{casts}
use Rattle.java_parser_grammar.specs.Taking.{after_sign}
use Rattle.java_parser_grammar.specs.TypeReading.{between_each, ty_at, made_base_at}
use Rattle.java_parser_types.proofs.LastCalls.{exactly, fewer}
use Rattle.java_parser_types.proofs.LedMarks.{both_led, from_equal, some_led, led_made}
use Rattle.java_parser_types.proofs.ReadLoops.{ends_give}
use Rattle.java_parser_types.proofs.ReadParts.{part_fails}
use Rattle.java_parser_types.specs.LedPlaces.{Leads}
use Rattle.java_parser_types.specs.ReadAnswer.{Gives}
use Rattle.java_parser_types.specs.Tokens.{spelled}
use Rattle.java_parser_expressions.proofs.CastChoice.{parens_alone}
use Rattle.java_parser_expressions.proofs.ClassFacts.{follows_none}
use Rattle.java_parser_expressions.proofs.LastCalls.{first_and_rest, sooner}
use Rattle.java_parser_lookahead.specs.LambdaPlaces.{part_level}
use Rattle.java_parser_expressions.proofs.+expressions.Goals as goal

pub first_operand::cast-returns : goal.first_operand::cast-returns
first_operand::cast-returns t c =
    record {
      gives =
          let types = c.in_ok-types.types.value.trees.items in
          let ts = map spelled c.in_ok-rest.rest.now in
          let level : part_level c.lambdas_behind-lambdas.result unary_level ts ≡ (if are_plain (map ty_of types) then
          unary_level else lambda_level unary_level ts) = search rules in
          rw (c.in_ok-types.ensures.gives, c.in_ok-rest.ensures.gives, ← level, c.in_ok-part.ensures.gives)
          c.cast_to.ensures.gives;
      places =
          let types = types_places c.in_ok-types.types.value.trees.items in
          let part = expr_places c.in_ok-part.part.tree.value in
          let here = kept c.args.tokens.now in
          let at = kept c.in_ok-types.rest.now in
          let end = kept c.in_ok-part.rest.now in
          led_made c.cast_to.result _ _ _ here end (both_led types part here at end (some_led _ at here
          c.in_ok-types.ensures.places) (from_equal part at (kept c.in_ok-rest.rest.now) end
          c.in_ok-rest.ensures.places
          c.in_ok-part.ensures.places)) c.cast_to.ensures.places c.cast_to.ensures.behind;
      small =
          exactly _ c.cast_to.result _ _ c.cast_to.ensures.small
          (omega (arith, c.in_ok-part.ensures.small, c.in_ok-types.ensures.small));
      shorter =
          fewer _ c.cast_to.result _ _ c.cast_to.ensures.shorter (omega (
            arith,
            c.in_ok-part.ensures.shorter,
            c.in_ok-rest.ensures.shorter,
            c.in_ok-types.ensures.shorter,
          ));
    }

pub first_operand::name_operand-returns : goal.first_operand::name_operand-returns
unfolding name_with
first_operand::name_operand-returns t c =
    record {
      gives =
          let ts = map spelled c.args.tokens.now in
          let no_class = follows_none ts (sym c.class_follows.ensures ∙ c.if-class_follows.false) in
          let bare : goes_typed c.args.limit ts ≡ false = sym c.goes_typed.ensures ∙ c.if-goes_typed.false in
          rw (no_class, bare, c.in-Some.ensures.gives, c.in_ok-all.ensures.gives) c.call.ensures.gives;
      places =
          let all = each_puts (map expr_places c.in_ok-all.all.trees.items) in
          let here = kept c.args.tokens.now in
          let end = kept c.in_ok-all.rest.now in
          led_made c.call.result _ _ _ _ end (both_led (λ rest. Some c.args.token.now.place ∷ rest) all
          (c.args.token.now.place ∷ here) here end (some_led (c.args.token.now.place ∷ []) here _ refl)
          (from_equal all here (kept c.in-Some.inside.now) end c.in-Some.ensures.places c.in_ok-all.ensures.places))
          c.call.ensures.places c.call.ensures.behind;
      small = exactly _ c.call.result _ _ c.call.ensures.small (omega (arith, c.in_ok-all.ensures.small));
      shorter =
          fewer _ c.call.result _ _ c.call.ensures.shorter (omega (
            arith,
            c.in_ok-all.ensures.shorter,
            c.in-Some.ensures.shorter,
          ));
    }

pub first_operand::cast-cast_to-requires-clause-types : goal.first_operand::cast-cast_to-requires-clause-types
first_operand::cast-cast_to-requires-clause-types t c =
    omega (arith, c.in_ok-types.ensures.small, c.requires.room)

pub first_operand::cast-cast_to-requires-clause-part : goal.first_operand::cast-cast_to-requires-clause-part
first_operand::cast-cast_to-requires-clause-part t c =
    omega (arith, c.in_ok-part.ensures.small, c.requires.room)

pub first_operand::operand-returns-in-Keyword : goal.first_operand::operand-returns-in-Keyword
unfolding operand_with
first_operand::operand-returns-in-Keyword t c =
    record {
      gives =
          let n = c.args.limit in
          let ts = c.args.tokens.now in
          subst (λ us. Gives (λ x. (expr_of x.0.tree.value, map spelled x.1.now)) c.word.result
          (operand_with (read_at n) n (made_base_at n) (array_at n) (map spelled us)))
          (sym (first_and_rest ts c.token-item.result c.in-len1-up.len_at_least c.token-item.is))
          (rw (c.if-token.false, c.in-Keyword.is) c.word.ensures.gives);
      places =
          let ts = c.args.tokens.now in
          subst (λ us. IfOk c.word.result (λ x. Leads (expr_places x.0.tree.value) (kept us) (kept x.1.now)))
          (sym (first_and_rest ts c.token-item.result c.in-len1-up.len_at_least c.token-item.is))
          (rw c.in-Keyword.is c.word.ensures.places);
      small = search rules;
      shorter = search rules;
    }

pub first_operand::operand-returns-in-Name : goal.first_operand::operand-returns-in-Name
unfolding operand_with
first_operand::operand-returns-in-Name t c =
    record {
      gives =
          let n = c.args.limit in
          let ts = c.args.tokens.now in
          subst (λ us. Gives (λ x. (expr_of x.0.tree.value, map spelled x.1.now)) c.name_operand.result
          (operand_with (read_at n) n (made_base_at n) (array_at n) (map spelled us)))
          (sym (first_and_rest ts c.token-item.result c.in-len1-up.len_at_least c.token-item.is))
          (rw (c.if-token.false, c.in-Name.is) c.name_operand.ensures.gives);
      places =
          let ts = c.args.tokens.now in
          subst (λ us. IfOk c.name_operand.result (λ x. Leads (expr_places x.0.tree.value) (kept us) (kept x.1.now)))
          (sym (first_and_rest ts c.token-item.result c.in-len1-up.len_at_least c.token-item.is))
          (rw c.in-Name.is c.name_operand.ensures.places);
      small = search rules;
      shorter = search rules;
    }

pub first_operand::operand-returns-in-Sign : goal.first_operand::operand-returns-in-Sign
unfolding operand_with
first_operand::operand-returns-in-Sign t c =
    record {
      gives =
          let n = c.args.limit in
          let ts = c.args.tokens.now in
          subst (λ us. Gives (λ x. (expr_of x.0.tree.value, map spelled x.1.now)) c.sign_operand.result
          (operand_with (read_at n) n (made_base_at n) (array_at n) (map spelled us)))
          (sym (first_and_rest ts c.token-item.result c.in-len1-up.len_at_least c.token-item.is))
          (rw (c.if-token.false, c.in-Sign.is) c.sign_operand.ensures.gives);
      places =
          let ts = c.args.tokens.now in
          subst (λ us. IfOk c.sign_operand.result (λ x. Leads (expr_places x.0.tree.value) (kept us) (kept x.1.now)))
          (sym (first_and_rest ts c.token-item.result c.in-len1-up.len_at_least c.token-item.is))
          (rw c.in-Sign.is c.sign_operand.ensures.places);
      small = search rules;
      shorter = search rules;
    }

pub first_operand::name_operand-returns-then-goes_typed : goal.first_operand::name_operand-returns-then-goes_typed
unfolding name_with typed_name_with
first_operand::name_operand-returns-then-goes_typed t c =
    record {
      gives =
          let ts = map spelled c.args.tokens.now in
          let no_class = follows_none ts (sym c.class_follows.ensures ∙ c.if-class_follows.false) in
          let typed : goes_typed c.args.limit ts ≡ true = sym c.goes_typed.ensures ∙ c.if-goes_typed.true in
          let front : map spelled c.args.whole.now ≡ identifier c.args.token.now.text ∷ ts =
          rw (c.requires.whole, c.requires.name) refl in
          rw (no_class, typed) (rw front at c.typed_name.ensures.gives);
      places = search rules;
      small = search rules;
      shorter =
          let one : length c.args.whole.now ≡ suc (length c.args.tokens.now) = ap length c.requires.whole in
          sooner _ c.typed_name.result _ _ c.typed_name.ensures.shorter (omega (arith, one));
    }

pub first_operand::prefix-returns-in_err-part-clause-gives :
    goal.first_operand::prefix-returns-in_err-part-clause-gives
unfolding prefix_with
first_operand::prefix-returns-in_err-part-clause-gives t c =
    let p = err_from_is_err_and c.from_residual.result c.from_residual.ensures.1 in
    rw (p.1, p.2) (part_fails c.in_err-part.field-0.0 (read_at c.args.limit unary_level
    (map spelled c.args.tokens.now)) _ (λ n. rw n refl) c.in_err-part.ensures.gives)

pub first_operand::prefix-returns-clause-gives : goal.first_operand::prefix-returns-clause-gives
unfolding prefix_with
first_operand::prefix-returns-clause-gives t c =
    rw c.in_ok-part.ensures.gives c.prefixed.ensures.gives

pub first_operand::cast-returns-in_err-types-clause-gives : goal.first_operand::cast-returns-in_err-types-clause-gives
first_operand::cast-returns-in_err-types-clause-gives t c =
    let p = err_from_is_err_and c.from_residual.result c.from_residual.ensures.1 in
    rw (p.1, p.2) (part_fails c.in_err-types.field-0.0 (between_each (codes "&") (ty_at c.args.limit)
    (map spelled c.args.tokens.now)) _ (λ n. rw n refl) c.in_err-types.ensures.gives)

pub first_operand::cast-returns-in_err-rest-clause-gives : goal.first_operand::cast-returns-in_err-rest-clause-gives
first_operand::cast-returns-in_err-rest-clause-gives t c =
    let p = err_from_is_err_and c.from_residual-in_err-rest.result c.from_residual-in_err-rest.ensures.1 in
    rw (p.1, p.2) (part_fails c.in_err-rest.field-0.0 (after_sign (codes ")") (map spelled c.in_ok-types.rest.now)) _
    (λ n. rw (c.in_ok-types.ensures.gives, n) refl) c.in_err-rest.ensures.gives)

pub first_operand::cast-returns-in_err-part-clause-gives : goal.first_operand::cast-returns-in_err-part-clause-gives
first_operand::cast-returns-in_err-part-clause-gives t c =
    let p = err_from_is_err_and c.from_residual-in_err-part.result c.from_residual-in_err-part.ensures.1 in
    let types = c.in_ok-types.types.value.trees.items in
    let ts = map spelled c.in_ok-rest.rest.now in
    let level : part_level c.lambdas_behind-lambdas.result unary_level ts ≡ (if are_plain (map ty_of types) then
    unary_level else lambda_level unary_level ts) = search rules in
    rw (p.1, p.2) (part_fails c.in_err-part.field-0.0 (read_at c.args.limit (part_level
    c.lambdas_behind-lambdas.result unary_level ts) ts) _
    (λ n. rw (c.in_ok-types.ensures.gives, c.in_ok-rest.ensures.gives, ← level, n) refl) c.in_err-part.ensures.gives)

pub first_operand::parens-returns-in_err-part-clause-gives :
    goal.first_operand::parens-returns-in_err-part-clause-gives
first_operand::parens-returns-in_err-part-clause-gives t c =
    let p = err_from_is_err_and c.from_residual.result c.from_residual.ensures.1 in
    rw (p.1, p.2) (part_fails c.in_err-part.field-0.0 (read_at c.args.limit assignment_level
    (map spelled c.args.tokens.now)) _ (λ n. rw n refl) c.in_err-part.ensures.gives)

pub first_operand::parens-returns-clause-gives : goal.first_operand::parens-returns-clause-gives
first_operand::parens-returns-clause-gives t c =
    rw c.in_ok-part.ensures.gives c.paren.ensures.gives

pub first_operand::name_operand-returns-then-class_follows-clause-gives :
    goal.first_operand::name_operand-returns-then-class_follows-clause-gives
first_operand::name_operand-returns-then-class_follows-clause-gives t c =
    c.class.ensures.gives (read_at c.args.limit) c.args.limit

pub first_operand::name_operand-returns-in_default-clause-gives :
    goal.first_operand::name_operand-returns-in_default-clause-gives
unfolding name_with
first_operand::name_operand-returns-in_default-clause-gives t c =
    let ts = map spelled c.args.tokens.now in
    let no_class = follows_none ts (sym c.class_follows.ensures ∙ c.if-class_follows.false) in
    let bare : goes_typed c.args.limit ts ≡ false = sym c.goes_typed.ensures ∙ c.if-goes_typed.false in
    rw (no_class, bare, c.in_default.ensures.gives) c.variable.ensures.gives

pub first_operand::name_operand-returns-in_err-all-clause-gives :
    goal.first_operand::name_operand-returns-in_err-all-clause-gives
unfolding name_with
first_operand::name_operand-returns-in_err-all-clause-gives t c =
    let p = err_from_is_err_and c.from_residual.result c.from_residual.ensures.1 in
    let ts = map spelled c.args.tokens.now in
    let no_class = follows_none ts (sym c.class_follows.ensures ∙ c.if-class_follows.false) in
    let bare : goes_typed c.args.limit ts ≡ false = sym c.goes_typed.ensures ∙ c.if-goes_typed.false in
    rw (p.1, p.2) (part_fails c.in_err-all.field-0.0 (call_arguments_with (read_at c.args.limit)
    (map spelled c.in-Some.inside.now)) _ (λ n. rw (no_class, bare, c.in-Some.ensures.gives, n) refl)
    c.in_err-all.ensures.gives)

pub first_operand::sign_operand-returns-in-None-clause-gives :
    goal.first_operand::sign_operand-returns-in-None-clause-gives
first_operand::sign_operand-returns-in-None-clause-gives t c =
    let n = c.args.limit in
    let ts = map spelled c.args.tokens.now in
    let text = c.args.token.now.text in
    let no_prefix : is_prefix text ≡ false = search rules in
    let round : bytes_eq text (codes "(") ≡ true = search rules in
    ends_give _ c.nested_parens.result (operand_of (read_at n) n (made_base_at n) (array_at n) kind.Sign text ts) _
    (parens_alone n text ts no_prefix round c.in-None.ensures) c.nested_parens.ensures.gives

pub first_operand::sign_operand-returns-in-Some-true-clause-gives :
    goal.first_operand::sign_operand-returns-in-Some-true-clause-gives
first_operand::sign_operand-returns-in-Some-true-clause-gives t c =
    let text = c.args.token.now.text in
    let no_prefix : is_prefix text ≡ false = search rules in
    let round : bytes_eq text (codes "(") ≡ true = search rules in
    let chosen : casts (map spelled c.args.tokens.now) ≡ true = search rules in
    rw (no_prefix, round, chosen) c.cast.ensures.gives

pub first_operand::sign_operand-returns-in-Some-false-clause-gives :
    goal.first_operand::sign_operand-returns-in-Some-false-clause-gives
first_operand::sign_operand-returns-in-Some-false-clause-gives t c =
    let text = c.args.token.now.text in
    let no_prefix : is_prefix text ≡ false = search rules in
    let round : bytes_eq text (codes "(") ≡ true = search rules in
    let chosen : casts (map spelled c.args.tokens.now) ≡ false = search rules in
    rw (no_prefix, round, chosen) c.parens.ensures.gives

pub first_operand::sign_operand-returns-then-not-is_text-clause-gives :
    goal.first_operand::sign_operand-returns-then-not-is_text-clause-gives
first_operand::sign_operand-returns-then-not-is_text-clause-gives t c =
    let text = c.args.token.now.text in
    let no_prefix : is_prefix text ≡ false = search rules in
    let other : bytes_eq text (codes "(") ≡ false = search rules in
    rw (no_prefix, other) refl

pub first_operand::word-returns-clause-gives : goal.first_operand::word-returns-clause-gives
first_operand::word-returns-clause-gives t c =
    let text = c.args.token.now.text in
    let no_this : bytes_eq text (codes "this") ≡ false = search rules in
    let no_new : bytes_eq text (codes "new") ≡ false = search rules in
    let no_super : bytes_eq text (codes "super") ≡ false = search rules in
    let no_plain : (is_plain_word text || bytes_eq text (codes "void")) ≡ false = search rules in
    rw (no_this, no_new, no_super, no_plain) refl
