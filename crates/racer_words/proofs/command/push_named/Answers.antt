use Rattle.std.proofs.Common.{sym, ap, append-nil, ◌++◌, ◌∙◌}
use Rattle.std.proofs.lemmas.List.{at_drop_all}
use Rattle.racer_words.specs.Command.{rules_of}
use Rattle.racer_words.proofs.AddedRules.{named_rules, named_is, named_turn}
use Rattle.racer_words.proofs.command.push_named.Goals as goal

pub loop-name-preserved : goal.loop-name-preserved
loop-name-preserved c =
    named_turn c.args.action c.args.names.now c.loop-name.name-index _ c.loop-name.arguments.items c.push.new.self.items
    c.action.result c.loop-name-test.true
    (named_is c.new.result c.long.result c.action.result _ c.args.action c.new.ensures.rule c.new.ensures.optional.1
    c.long.ensures c.action.ensures)
    c.in_ok-push.ensures.items
    ∙ c.loop-name.invariant

pub returns : goal.returns
returns c =
    let made = rules_of c.loop-name.arguments.items in
    let left = at_drop_all (named_rules c.args.action) c.args.names.now c.loop-name.name-index c.loop-name-test.false in
    sym (append-nil made) ∙ ap (λ rules. made ++ rules) (sym left) ∙ c.loop-name.invariant
