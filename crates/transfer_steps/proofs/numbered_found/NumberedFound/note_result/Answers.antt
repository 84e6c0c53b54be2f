use Rattle.std.proofs.Common.{◌≡◌, ℕ, List, ◌++◌, Some, sym, ap, ◌∙◌}
use Rattle.owner_domain.specs.declared.numbered.NumberedValue.TheVariants.{Unnamed}
use Rattle.owner_domain.specs.Numbered.{lost_number}
use Rattle.transfer_steps.specs.Numbered.{read_found}
use Rattle.transfer_steps.proofs.FoundNumbers.{returned-again, returned-other, returned-below, with-result, earlier-in}
use Rattle.transfer_steps.proofs.numbered_found.NumberedFound.note_result.Goals as goal

pub returns-then-eq-clause-found : goal.returns-then-eq-clause-found
returns-then-eq-clause-found c = λ table once numbers low.
    let old = c.args.self.now in
    let earlier = c.in-Some.earlier in
    returned-again table once earlier c.args.value (earlier-in table old earlier numbers c.in-Some.is) low old
    c.in-Some.is (sym c.eq.ensures ∙ c.if-eq.true)

pub returns-clause-found : goal.returns-clause-found
returns-clause-found c = λ table once numbers low.
    let old = c.args.self.now in
    let earlier = c.in-Some.earlier in
    let value = c.args.value in
    let earlier_low = earlier-in table old earlier numbers c.in-Some.is in
    let lost : c.as_slice.result.now ≡ lost_number earlier value =
    c.as_slice.ensures.value ∙ c.in-Ok.ensures.lost
    ∙ ap (λ (ns : List ℕ). ns ++ lost_number earlier value) c.new-lost.ensures.items in
    returned-other table once earlier value earlier_low low old c.in-Some.is c.as_slice.result.now
    (sym c.eq.ensures ∙ c.if-eq.false) lost (read_found table c.note_numbers.new.self) c.note_numbers.result
    (c.note_numbers.ensures.found table once (with-result table old (Some Unnamed) numbers tt)
    (returned-below table once earlier value earlier_low low old c.in-Some.is c.as_slice.result.now lost))
