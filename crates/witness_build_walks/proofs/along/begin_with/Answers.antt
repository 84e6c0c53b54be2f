use Rattle.std.proofs.Common.{sym, ◌∙◌}
use Rattle.witness_build_walks.proofs.Fronts.{is-front-of, more-same, none-same}
use Rattle.witness_build_walks.proofs.along.begin_with.Goals as goal

pub loop-number-init : goal.loop-number-init
loop-number-init c = none-same c.args.front.now c.args.turns.now

pub loop-number-preserved : goal.loop-number-preserved
loop-number-preserved c =
    more-same c.args.front.now c.args.turns.now c.loop-number.number c.loop-number.invariant
    (sym c.turn_at.ensures ∙ c.are_same.ensures c.if-not-are_same.false ∙ c.turn_at-in-loop-number.ensures)

pub returns : goal.returns
returns c =
    λ e. is-front-of c.args.front.now c.args.turns.now c.loop-number.number c.loop-number.invariant
    c.loop-number-test.false
