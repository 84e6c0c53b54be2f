use Rattle.std.proofs.Common.{◌≡◌, ◌+◌, ◌-◌, ◌++◌, suc, List, Option, ap, subst, ◌∙◌, arith}
use Rattle.std.specs.Borrow.{Bor}
use Rattle.core_code.specs.Program.{core}
use Rattle.core_semantics.specs.declared.answer.Turn.{Turn}
use Rattle.witness_build_walks.specs.Walks.{IsOnward}
use Rattle.witness_build_walks.proofs.WalkTurns.{halted-there, walked-all}
use Rattle.witness_build_walks.proofs.along.walk_on.Goals as goal

pub returns-in_default-clause-gone : goal.returns-in_default-clause-gone
returns-in_default-clause-gone c =
    let at = c.loop-walk in
    let leg = c.args.leg.now in
    let new = c.step_on.new.walk in
    let stops =
    subst (λ (left : Option (Bor (List Turn))). IsOnward (core c.args.program.now) at.walk at.rest.now new left)
    c.in_default.is c.in_ok-left.ensures.onward in
    let count : new.steps + suc (leg.steps - (at.walk.steps + 1)) ≡ leg.steps =
    omega (arith, stops.steps, c.loop-walk-test.true) in
    halted-there (core c.args.program.now) new leg.steps (leg.steps - (at.walk.steps + 1)) leg.turns at.rest.now
    c.in_ok-left.ensures.walk count (ap (λ (us : List Turn). us ++ at.rest.now) stops.turns ∙ at.invariant.turns)
    stops.none stops.looks

pub returns-clause-gone : goal.returns-clause-gone
returns-clause-gone c =
    let at = c.loop-walk in
    let leg = c.args.leg.now in
    let all : at.walk.steps ≡ leg.steps = omega (arith, c.loop-walk-test.false, at.invariant.steps) in (
      at.rest.now,
      walked-all (core c.args.program.now) at.walk leg.steps leg.turns at.rest.now at.invariant.walk all
          at.invariant.turns,
    )
