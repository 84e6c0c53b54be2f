use Rattle.std.proofs.Common.{codes, map, refl, ◌∙◌}
use Rattle.std.proofs.lemmas.Result.{err_from_is_err_and}
use Rattle.java_parser_grammar.specs.Taking.{after_angle}
use Rattle.java_parser_grammar.specs.TypeReading.{between_each, ty_at}
use Rattle.java_parser_types.specs.Tokens.{spelled}
use Rattle.java_parser_types.proofs.ExactTypes.{types_are_exact, types_read}
use Rattle.java_parser_types.proofs.ReadParts.{part_fails}
use Rattle.java_parser_types.proofs.type_lists.types.Goals as goal

pub returns-in_err-types-clause-gives : goal.returns-in_err-types-clause-gives
returns-in_err-types-clause-gives c =
    let p = err_from_is_err_and c.from_residual.result c.from_residual.ensures.1 in
    rw (p.1, p.2) (part_fails c.in_err-types.field-0.0 (between_each (codes ",") (ty_at c.args.limit)
    (map spelled c.in-Some.inside.now)) _ (λ n. types_are_exact c.args.limit (map spelled c.args.tokens.now)
    ∙ rw (c.in-Some.ensures.gives, n) refl) c.in_err-types.ensures.gives)

pub returns-in_err-glued-clause-gives : goal.returns-in_err-glued-clause-gives
returns-in_err-glued-clause-gives c =
    let p = err_from_is_err_and c.from_residual-in_err-glued.result c.from_residual-in_err-glued.ensures.1 in
    rw (p.1, p.2) (part_fails c.in_err-glued.field-0.0 (after_angle (map spelled c.in_ok-types.rest.now)) _
    (λ n. types_are_exact c.args.limit (map spelled c.args.tokens.now) ∙ rw (
      c.in-Some.ensures.gives,
      c.in_ok-types.ensures.gives,
      n,
    ) refl) c.in_err-glued.ensures.gives)

pub returns-clause-gives : goal.returns-clause-gives
returns-clause-gives c =
    let read = types_read c.args.limit (map spelled c.in-Some.inside.now) (map spelled c.in_ok-types.rest.now)
    (map spelled c.in_ok-glued.rest.now) c.in_ok-types.types.trees.items c.in_ok-glued.glued
    c.in_ok-types.ensures.gives c.in_ok-glued.ensures.gives in
    types_are_exact c.args.limit (map spelled c.args.tokens.now)
    ∙ rw (c.in-Some.ensures.gives, c.in_angles.ensures.gives, c.in_angles.ensures.glued) read
