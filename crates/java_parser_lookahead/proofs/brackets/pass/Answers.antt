use Rattle.std.proofs.Common.{[], sym}
use Rattle.java_parser_lookahead.specs.AwaitedBrackets.{awaited_onto}
use Rattle.java_parser_lookahead.proofs.BracketLoops.{awaited_push, awaited_push_two}
use Rattle.java_parser_lookahead.proofs.brackets.pass.Goals as goal

pub returns-in_ok-push-in-Opens-2 : goal.returns-in_ok-push-in-Opens-2
returns-in_ok-push-in-Opens-2 c =
    let old = c.args.outer.now.items in
    rw (
      c.in_ok-push-in-Opens-2.ensures.items,
      c.in_ok-push-in-Opens.ensures.items,
      awaited_push_two old c.args.inner
          c.in-Opens.bracket,
    ) (sym (c.in-Opens.ensures (awaited_onto old [])))

pub returns-in_ok-push-in-Stays : goal.returns-in_ok-push-in-Stays
returns-in_ok-push-in-Stays c =
    let old = c.args.outer.now.items in
    rw (c.in_ok-push-in-Stays.ensures.items, awaited_push old c.args.inner [])
    (sym (c.in-Stays.ensures (awaited_onto old [])))
