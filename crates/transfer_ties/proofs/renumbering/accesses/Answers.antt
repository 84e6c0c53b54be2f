use Rattle.std.proofs.Common.{◌≡◌, Some, arith, length, sym, ap, ◌∙◌}
use Rattle.std.proofs.lemmas.Result.{err_from_is_err_and}
use Rattle.access_domain.specs.declared.access.Access.{Access}
use Rattle.access_domain.specs.Records.{first_of_keys}
use Rattle.transfer_ties.specs.Partners.{access_in, accesses_in}
use Rattle.transfer_ties.proofs.Given.{given_all, given_next, none_given, not_given}
use Rattle.transfer_ties.proofs.Records.{within}
use Rattle.transfer_ties.proofs.renumbering.accesses.Goals as goal

pub loop-one-preserved : goal.loop-one-preserved
loop-one-preserved c =
    let one : Access = c.one-item.result in
    given_next (access_in c.args.ties.now) c.as_slice-one-items.result.now c.loop-one.one-index one
    c.in_ok-access.field-0 c.loop-one.made.items c.loop-one-test.true c.one-item.is c.in_ok-access.ensures
    c.loop-one.invariant
    ∙ ap Some (sym c.in_ok-push.ensures.items)

pub returns-in_err-access : goal.returns-in_err-access
returns-in_err-access c =
    let ties = c.args.ties.now in
    let one : Access = c.one-item.result in
    let items = c.as_slice-one-items.result.now in
    let p = err_from_is_err_and c.from_residual-in_err-access.result c.from_residual-in_err-access.ensures.1 in
    rw (p.1, p.2)
    (not_given (access_in ties one) (accesses_in ties c.args.accesses.now) c.in_err-access.field-0.0
    (λ none. ap (accesses_in ties) (sym c.as_slice-one-items.ensures)
    ∙ none_given (access_in ties) items c.loop-one.one-index one c.loop-one-test.true c.one-item.is none)
    c.in_err-access.ensures)

pub from_vec-requires : goal.from_vec-requires
from_vec-requires c =
    let ties = c.args.ties.now in
    let items = c.as_slice-one-items.result.now in
    let made = c.loop-one.made.items in
    let same = c.as_slice-one-items.ensures in
    let count : length items ≡ length c.args.accesses.now = ap length same in
    within ties c.requires items made
    (given_all (access_in ties) items c.loop-one.one-index made c.loop-one-test.false c.loop-one.invariant)
    (ap first_of_keys same ∙ c.len.ensures.firsts ∙ sym same)
    (omega (arith, c.len.ensures.count, c.len.ensures.limit))

pub returns : goal.returns
returns c =
    let ties = c.args.ties.now in
    let items = c.as_slice-one-items.result.now in
    ap (accesses_in ties) (sym c.as_slice-one-items.ensures)
    ∙ given_all (access_in ties) items c.loop-one.one-index c.loop-one.made.items c.loop-one-test.false
    c.loop-one.invariant
    ∙ ap Some (sym c.from_vec.ensures)
