use Rattle.std.proofs.Common.{◌∷◌, [], Some, map, refl}
use Rattle.std.proofs.lemmas.Result.{err_from_is_err_and}
use Rattle.java_parser_grammar.specs.JavaReaders.{method_readers}
use Rattle.java_parser_types.proofs.ReadParts.{part_fails}
use Rattle.java_parser_types.specs.Tokens.{spelled}
use Rattle.java_parser_methods.specs.LocalReading.{declared_name_at}
use Rattle.java_parser_methods.proofs.ParameterParts.{variable_is_named}
use Rattle.java_tree.specs.KeptPlaces.{kept, variable_places, init_places}
use Rattle.java_parser_types.proofs.LedMarks.{led_made, some_led, both_led, from_equal}
use Rattle.java_parser_methods.proofs.locals.variable.Goals as goal

pub returns-in_err-declared-clause-gives : goal.returns-in_err-declared-clause-gives
returns-in_err-declared-clause-gives c =
    let ts = map spelled c.args.tokens.now in
    let p = err_from_is_err_and c.from_residual.result c.from_residual.ensures.1 in
    rw (p.1, p.2) (part_fails c.in_err-declared.field-0.0 (declared_name_at ts) _
    (λ none. rw (variable_is_named c.args.limit ts, none) refl) c.in_err-declared.ensures.gives)

pub returns-in_err-value-clause-gives : goal.returns-in_err-value-clause-gives
returns-in_err-value-clause-gives c =
    let ts = map spelled c.args.tokens.now in
    let p = err_from_is_err_and c.from_residual-in_err-value.result c.from_residual-in_err-value.ensures.1 in
    rw (p.1, p.2) (part_fails c.in_err-value.field-0.0 (method_readers.init c.args.limit
    (map spelled c.in-Some.after.now)) _ (λ none. rw (
      variable_is_named c.args.limit ts,
      c.in_ok-declared.ensures.gives,
      c.in-Some.ensures.gives,
      none,
    ) refl) c.in_err-value.ensures.gives)

pub returns-in_default-clause-gives : goal.returns-in_default-clause-gives
returns-in_default-clause-gives c =
    rw (
      variable_is_named c.args.limit (map spelled c.args.tokens.now),
      c.in_ok-declared.ensures.gives,
      c.in_default.ensures.gives,
    ) c.bare.ensures.gives

pub returns-clause-gives : goal.returns-clause-gives
returns-clause-gives c =
    rw (
      variable_is_named c.args.limit (map spelled c.args.tokens.now),
      c.in_ok-declared.ensures.gives,
      c.in-Some.ensures.gives,
      c.in_ok-value.ensures.gives,
    ) c.begun.ensures.gives

pub returns-clause-places : goal.returns-clause-places
returns-clause-places c =
    led_made c.begun.result (λ x. variable_places x.0.value) (λ x. kept x.1.now) (λ marks. Some
    c.in_ok-declared.declared.name.place ∷ (init_places c.in_ok-value.value.tree.value) marks) (kept c.args.tokens.now)
    (kept c.in_ok-value.rest.now) (both_led (λ marks. Some c.in_ok-declared.declared.name.place ∷ marks) (init_places
    c.in_ok-value.value.tree.value) (kept c.args.tokens.now) (kept c.in_ok-declared.rest.now) (kept
    c.in_ok-value.rest.now) (some_led (c.in_ok-declared.declared.name.place ∷ []) (kept c.in_ok-declared.rest.now)
    (kept c.args.tokens.now) c.in_ok-declared.ensures.places) (from_equal (init_places c.in_ok-value.value.tree.value)
    (kept c.in_ok-declared.rest.now) (kept c.in-Some.after.now) (kept c.in_ok-value.rest.now) c.in-Some.ensures.places
    c.in_ok-value.ensures.places)) c.begun.ensures.places c.begun.ensures.behind

pub returns-in_default-clause-places : goal.returns-in_default-clause-places
returns-in_default-clause-places c =
    led_made c.bare.result (λ x. variable_places x.0.value) (λ x. kept x.1.now) (λ marks. Some
    c.in_ok-declared.declared.name.place ∷ marks) (kept c.args.tokens.now) (kept c.in_ok-declared.rest.now) (some_led
    (c.in_ok-declared.declared.name.place ∷ []) (kept c.in_ok-declared.rest.now) (kept c.args.tokens.now)
    c.in_ok-declared.ensures.places) c.bare.ensures.places c.bare.ensures.behind
