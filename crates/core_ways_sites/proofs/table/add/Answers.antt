use Rattle.std.proofs.Common.{◌++◌, List, ap, sym, ◌∙◌}
use Rattle.std.proofs.lemmas.Bool.{false≢true}
use Rattle.core_semantics.specs.declared.answer.Turn.{Turn}
use Rattle.core_ways_sites.proofs.LeadsOn.{adds}
use Rattle.core_ways_sites.proofs.table.add.Goals as goal

pub returns-in_ok-extend_from_slice : goal.returns-in_ok-extend_from_slice
returns-in_ok-extend_from_slice c = λ here rest whole is leads.
    let gone = c.args.gone.now in
    let reached = c.args.reached.now in
    adds gone.count reached.count c.and-gone.result gone.turns.items reached.turns.items
    c.extend_from_slice.new.self.items here rest whole c.and-gone.ensures
    (λ o. c.in_ok-extend_from_slice.ensures.items
    ∙ ap (λ (ts : List Turn). gone.turns.items ++ ts) c.as_slice.ensures.value)
    is leads

pub returns-else-is_open : goal.returns-else-is_open
returns-else-is_open c = λ here rest whole is leads.
    let gone = c.args.gone.now in
    let reached = c.args.reached.now in
    adds gone.count reached.count c.and-gone.result gone.turns.items reached.turns.items gone.turns.items
    here rest whole c.and-gone.ensures
    (λ o. absurd (false≢true (sym c.if-is_open.false ∙ c.is_open.ensures.if_open o))) is leads
