use Rattle.std.proofs.Common.{map, sym, ◌∙◌}
use Rattle.java_parser_types.specs.Tokens.{spelled}
use Rattle.java_parser_lookahead.proofs.FirstClosing.{first_decides}
use Rattle.java_parser_lookahead.proofs.leads.casts.Goals as goal

pub returns-in-Some : goal.returns-in-Some
returns-in-Some c =
    first_decides (map spelled c.args.tokens.now) (map spelled c.in-Some.rest.now) c.in-Some.ensures
    ∙ sym c.casts_before.ensures
