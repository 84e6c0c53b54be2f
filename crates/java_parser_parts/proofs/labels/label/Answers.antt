-- Its wrong body falls here sooner than where `auto` searches.
use Rattle.std.proofs.Common.{map, refl}
use Rattle.std.proofs.lemmas.Result.{err_from_is_err_and}
use Rattle.java_tree.specs.KeptPlaces.{kept, expr_places}
use Rattle.java_tree.specs.Operators.{conditional_level}
use Rattle.java_parser_grammar.specs.StatementReading.{label_at}
use Rattle.java_parser_grammar.specs.JavaReaders.{method_readers}
use Rattle.java_parser_types.specs.Tokens.{spelled}
use Rattle.java_parser_types.proofs.LedMarks.{from_equal, to_equal}
use Rattle.java_parser_types.proofs.ReadParts.{part_fails}
use Rattle.java_parser_parts.proofs.labels.label.Goals as goal

pub returns-in_err-value-clause-gives : goal.returns-in_err-value-clause-gives
unfolding label_at
returns-in_err-value-clause-gives c =
    let p = err_from_is_err_and c.from_residual.result c.from_residual.ensures.1 in
    rw (p.1, p.2) (part_fails c.in_err-value.field-0.0 (method_readers.expr c.args.limit conditional_level
    (map spelled c.in-Some.after.now)) _ (λ n. rw (c.in-Some.ensures.gives, n) refl) c.in_err-value.ensures.gives)

pub returns-clause-gives : goal.returns-clause-gives
unfolding label_at
returns-clause-gives c = rw (
  c.in-Some.ensures.gives,
  c.in_ok-value.ensures.gives,
  c.in_ok-rest.ensures.gives,
  c.into_inner.ensures,
) refl

pub returns-clause-places : goal.returns-clause-places
returns-clause-places c =
    let puts = expr_places c.in_ok-value.value.tree.value in
    rw c.into_inner.ensures (to_equal puts (kept c.args.tokens.now) (kept c.in_ok-value.rest.now)
    (kept c.in_ok-rest.rest.now) c.in_ok-rest.ensures.places (from_equal puts (kept c.args.tokens.now)
    (kept c.in-Some.after.now) (kept c.in_ok-value.rest.now) c.in-Some.ensures.places c.in_ok-value.ensures.places))
