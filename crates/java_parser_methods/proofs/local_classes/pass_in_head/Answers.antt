use Rattle.std.proofs.Common.{◌≡◌, [], ◌∷◌}
use Rattle.java_parser_lookahead.specs.AwaitedBrackets.{closing, awaited_onto}
use Rattle.java_parser_lookahead.proofs.BracketLoops.{awaited_push}
use Rattle.java_parser_methods.proofs.local_classes.pass_in_head.Goals as goal

pub returns-in-Some : goal.returns-in-Some
returns-in-Some c =
    let left = c.pop.new.self.items in
    let w : awaited_onto c.args.open.now.items [] ≡ closing c.in-Some.inner ∷ awaited_onto left [] =
    rw c.in-Some.ensures.items (awaited_push left c.in-Some.inner []) in
    rw w c.pass.ensures
