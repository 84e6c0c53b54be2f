use Rattle.std.proofs.Common.{◌∙◌, arith, length, map}
use Rattle.java_parser_grammar.specs.TypeReading.{brackets_at}
use Rattle.java_parser_types.specs.Tokens.{spelled}
use Rattle.java_parser_types.proofs.ReadLoops.{bracket_goes_on, bracket_ends}
use Rattle.java_parser_types.proofs.look.brackets.Goals as goal

pub returns-in_default-clause-gives : goal.returns-in_default-clause-gives
returns-in_default-clause-gives c =
    bracket_ends (brackets_at (length (map spelled c.args.tokens.now)) (map spelled c.args.tokens.now))
    c.args.tokens.now c.loop.count c.loop.counter (map spelled c.loop.rest.now) c.loop-test.true
    c.in_default.ensures.gives c.loop.invariant.gives

pub loop-preserved : goal.loop-preserved
loop-preserved c = record {
  gives = bracket_goes_on (brackets_at (length (map spelled c.args.tokens.now)) (map spelled c.args.tokens.now))
      c.args.tokens.now c.loop.count c.loop.counter (map spelled c.loop.rest.now) (map spelled c.in-Some.after.now)
      c.loop-test.true c.in-Some.ensures.gives c.loop.invariant.gives;
  places = c.in-Some.ensures.places ∙ c.loop.invariant.places;
  within = omega (arith, c.in-Some.ensures.shorter);
}
