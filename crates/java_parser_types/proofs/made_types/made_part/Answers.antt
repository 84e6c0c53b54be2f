use Rattle.std.proofs.Common.{map, refl, rules}
use Rattle.std.proofs.lemmas.Result.{err_from_is_err_and}
use Rattle.java_tree.specs.declared.types.BaseType.TheFolds.{the_lemmas}
use Rattle.java_parser_grammar.specs.Taking.{after_name}
use Rattle.java_parser_grammar.specs.TypeReading.{made_part_with, angled_with, ty_at}
use Rattle.java_parser_types.specs.Tokens.{spelled}
use Rattle.java_parser_types.proofs.ReadParts.{part_fails}
use Rattle.java_parser_types.proofs.made_types.made_part.Goals as goal

pub returns-in_err-name-clause-gives : goal.returns-in_err-name-clause-gives
unfolding made_part_with
returns-in_err-name-clause-gives c =
    let p = err_from_is_err_and c.from_residual.result c.from_residual.ensures.1 in
    rw (p.1, p.2) (part_fails c.in_err-name.field-0.0 (after_name (map spelled c.args.tokens.now)) _
    (λ n. rw n refl) c.in_err-name.ensures.gives)

pub returns-in_default-clause-gives : goal.returns-in_default-clause-gives
unfolding made_part_with
returns-in_default-clause-gives c =
    rw (c.in_ok-name.ensures.gives, c.in_default.ensures.gives, c.bare.ensures.gives) refl

pub returns-in-Some-after_angle-clause-gives : goal.returns-in-Some-after_angle-clause-gives
unfolding made_part_with
returns-in-Some-after_angle-clause-gives c = rw (
  c.in_ok-name.ensures.gives,
  c.in-Some.ensures.gives,
  c.in-Some-after_angle.ensures.gives,
  c.diamond.ensures.gives,
) refl

pub returns-in_err-angled-clause-gives : goal.returns-in_err-angled-clause-gives
unfolding made_part_with
returns-in_err-angled-clause-gives c =
    let p = err_from_is_err_and c.from_residual-in_err-angled.result c.from_residual-in_err-angled.ensures.1 in
    rw (p.1, p.2) (part_fails c.in_err-angled.field-0.0
    (angled_with (ty_at c.args.limit) (map spelled c.in-Some.inside.now)) _ (λ n. rw (
      c.in_ok-name.ensures.gives,
      c.in-Some.ensures.gives,
      c.in_default-after_angle.ensures.gives,
      n,
    ) refl) c.in_err-angled.ensures.gives)

pub returns-clause-gives : goal.returns-clause-gives
unfolding made_part_with
returns-clause-gives c = rw (
  c.in_ok-name.ensures.gives,
  c.in-Some.ensures.gives,
  c.in_default-after_angle.ensures.gives,
  c.in_ok-angled.ensures.gives,
) (search (rules, the_lemmas))
