use Rattle.std.proofs.Common.{refl, sym, ◌∙◌}
use Rattle.std.proofs.lemmas.Bool.{false≢true}
use Rattle.core_ways_sites.proofs.KnownWays.{goes-in, none-entered}
use Rattle.core_ways_sites.proofs.table.enter.Goals as goal

pub returns-then-is_some : goal.returns-then-is_some
returns-then-is_some c = λ core m i r whole ranks at below is leads.
    goes-in core m i r c.args.reached.now c.args.below ranks at below is c.entered_by-next.result c.args.gone.now.count
    c.add.new.gone.count c.step-gone.result c.args.gone.now.turns.items c.add.new.gone.turns.items whole
    c.entered_by-next.ensures c.in_ok-add.ensures
    (λ none. absurd (false≢true
    (sym (none-entered c.entered_by-next.result none) ∙ sym c.is_some.ensures ∙ c.if-is_some.true)))
    (λ some. c.step-gone.ensures) leads

pub returns-else-is_some : goal.returns-else-is_some
returns-else-is_some c = λ core m i r whole ranks at below is leads.
    goes-in core m i r c.args.reached.now c.args.below ranks at below is c.entered_by-next.result c.args.gone.now.count
    c.add.new.gone.count c.add.new.gone.count c.args.gone.now.turns.items c.add.new.gone.turns.items whole
    c.entered_by-next.ensures c.in_ok-add.ensures
    (λ none. refl) (λ some. absurd (false≢true (sym c.if-is_some.false ∙ c.is_some.ensures ∙ some))) leads
