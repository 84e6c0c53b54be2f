use Rattle.std.proofs.Common.{Bool, subst}
use Rattle.core_code.specs.Program.{core}
use Rattle.witness_build_walks.specs.Told.{IsGoneIn}
use Rattle.witness_build_walks.proofs.walks.walk_both.Goals as goal

pub returns-then-not-branch-clause-told : goal.returns-then-not-branch-clause-told
returns-then-not-branch-clause-told c = λ m1 m2 of_first of_second.
    let program = core c.args.program.now in
    let first = c.args.first in
    c.told_of_stopped.ensures program first.method m1 m2 first.leg.now c.args.second.leg.now c.args.objects.now of_first
    (subst (λ (all : Bool). IsGoneIn program first.method first.leg.now all c.walk_along.new.slot) c.if-not-branch.true
    c.in_ok-walk_along.ensures.gone)

pub returns-clause-told : goal.returns-clause-told
returns-clause-told c = λ m1 m2 of_first of_second.
    let program = core c.args.program.now in
    let first = c.args.first in
    let second = c.args.second in
    c.told_of.ensures first.method m1 m2 first.leg.now c.requires.threads of_first of_second
    (subst (λ (all : Bool). IsGoneIn program first.method first.leg.now all c.walk_along.new.slot)
    c.if-not-branch.false c.in_ok-walk_along.ensures.gone) c.in_ok-all.ensures.gone
