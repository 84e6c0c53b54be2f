use Rattle.std.proofs.Common.{◌≡◌, ◌∙◌, rules}
use Rattle.core_lowering_context.specs.Exits.{guards_seen}
use Rattle.core_lowering_context.proofs.Innermost.{sent-first, returned-kinds}
use Rattle.core_lowering_context.proofs.context.Context.send_back.Goals as goal

pub returns-clause-sent : goal.returns-clause-sent
returns-clause-sent c =
    let seen : c.args.self.now.guards ≡ guards_seen c.self.inside.guards.items = search rules in
    sent-first c.args.self.now c.self.inside.guards.items c.pop.new.self.items c.in-Some.guard
    c.in_ok-variable.variable seen c.in-Some.ensures.items
    (c.in_ok-variable.ensures.variable ∙ returned-kinds _ c.args.self.now c.in-Some.guard.variable (search rules))
