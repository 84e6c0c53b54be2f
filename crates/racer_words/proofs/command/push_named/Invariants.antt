use Rattle.std.proofs.Common.{◌≡◌, ◌++◌, map, drop}
use Rattle.racer_words.specs.Command.{local, named_rule, rules_of}
use Rattle.racer_words.proofs.command.push_named.Given as goal

abbrev pub invariant-loop-name : goal.invariant-loop-name
invariant-loop-name l =
    let rules = map (λ name. local (named_rule name.now l.action)) in
    rules_of l.arguments.items ++ rules (drop l.name-index l.names) ≡ rules_of l.fn.arguments.items ++ rules l.names
