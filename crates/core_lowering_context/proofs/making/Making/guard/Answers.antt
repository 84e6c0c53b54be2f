use Rattle.std.proofs.Common.{◌≡◌, false, true, rules}
use Rattle.std.proofs.lemmas.Result.{on_ok_weaker}
use Rattle.core_lowering_drafts.specs.EndSets.{seen}
use Rattle.core_lowering_context.specs.Drafts.{code_of}
use Rattle.core_lowering_context.proofs.FallsThrough.{guarded-ends, guarded-through}
use Rattle.core_lowering_context.proofs.making.Making.guard.Goals as goal

pub returns-then-not-falls_through : goal.returns-then-not-falls_through
returns-then-not-falls_through c =
    let other : c.falls_through.result ≡ false = search rules in
    on_ok_weaker c.guard_ends.result
    (guarded-ends (code_of c.args.self.now) (code_of c.guard_ends.new.self) c.args.body c.args.finally c.args.last
    c.args.exit.0 (seen c.ends.result.now) c.falls_through.result c.falls_through.ensures c.ends.ensures other)
    c.guard_ends.ensures

pub returns : goal.returns
returns c =
    let through : c.falls_through.result ≡ true = search rules in
    on_ok_weaker c.put-2.result
    (guarded-through (code_of c.args.self.now) (code_of c.put.new.self) (code_of c.put-2.new.self) c.args.body
    c.args.finally c.args.last c.args.exit.0 (seen c.ends.result.now) c.falls_through.result c.falls_through.ensures
    c.ends.ensures through c.in_ok-put.ensures) c.put-2.ensures
