use Rattle.std.proofs.Common.{map, ap, sym, subst, ◌∙◌}
use Rattle.std.specs.List.{AllZip}
use Rattle.java_parser_grammar.specs.FieldDivisions.{IsVariable}
use Rattle.java_parser.specs.Divisions.{are_declarators}
use Rattle.java_parser.proofs.VariableSteps.{are_variables, no_variables}
use Rattle.java_parser.proofs.variables.variables.Goals as goal

pub returns-then-not-are_declarators-clause-none : goal.returns-then-not-are_declarators-clause-none
returns-then-not-are_declarators-clause-none c = λ e vs v.
    no_variables c.args.tokens.now (map (λ p. p.now) c.in_ok-pieces.pieces.items) c.in_ok-pieces.ensures
    (sym (ap (λ l. are_declarators (map (λ p. p.now) l)) c.as_slice.ensures.value) ∙ sym c.are_declarators.ensures
    ∙ c.if-not-are_declarators.true) vs v

pub returns-clause-read : goal.returns-clause-read
returns-clause-read c =
    are_variables c.args.tokens.now (map (λ p. p.now) c.in_ok-pieces.pieces.items) c.in_ok-variables_of.field-0.items
    c.in_ok-pieces.ensures (subst (λ l. AllZip IsVariable (map (λ p. p.now) l) c.in_ok-variables_of.field-0.items)
    c.as_slice-2.ensures.value c.in_ok-variables_of.ensures)
