use Rattle.std.proofs.Common.{◌≡◌, Some, arith, length, map, sym, ap, ◌∙◌}
use Rattle.transfer_ties.specs.Partners.{all_given, field_in, fields_in}
use Rattle.transfer_ties.proofs.Given.{given_all, given_read, images, images_long, none_read}
use Rattle.transfer_ties.proofs.renumbering.fields.Goals as goal

pub loop-field-preserved : goal.loop-field-preserved
loop-field-preserved c =
    given_read (field_in c.args.ties.now) c.as_slice-field-items.result.now c.loop-field.field-index _
    c.in-Some.partner c.loop-field.made.items c.push.new.self.items c.loop-field-test.true c.in-Some.ensures
    c.in_ok-push.ensures.items c.loop-field.invariant

pub returns-in_default : goal.returns-in_default
returns-in_default c =
    ap (fields_in c.args.ties.now) (sym c.as_slice-field-items.ensures)
    ∙ none_read (field_in c.args.ties.now) c.as_slice-field-items.result.now c.loop-field.field-index _
    c.loop-field-test.true c.in_default.ensures

pub from_vec-requires : goal.from_vec-requires
from_vec-requires c =
    let f = field_in c.args.ties.now in
    let items = c.as_slice-field-items.result.now in
    let made = c.loop-field.made.items in
    let given : all_given (map f items) ≡ Some made =
    given_all f items c.loop-field.field-index made c.loop-field-test.false c.loop-field.invariant in
    let long : length made ≡ length items = images_long f items made (images f items made given) in
    let same : length items ≡ length c.args.fields.now = ap length c.as_slice-field-items.ensures in
    omega (arith, c.len.ensures.limit)

pub returns : goal.returns
returns c =
    let f = field_in c.args.ties.now in
    let items = c.as_slice-field-items.result.now in
    ap (fields_in c.args.ties.now) (sym c.as_slice-field-items.ensures)
    ∙ given_all f items c.loop-field.field-index c.loop-field.made.items c.loop-field-test.false c.loop-field.invariant
    ∙ ap Some (sym c.from_vec.ensures)
