use Rattle.std.proofs.Common.{◌≡◌, ◌++◌, drop, map}
use Rattle.transfer_ties.specs.Names.{field_partner}
use Rattle.transfer_ties.proofs.making.field_partners.Given as goal

abbrev pub invariant-loop-field : goal.invariant-loop-field
invariant-loop-field l =
    l.partners.items ++ map (field_partner l.news l.numbers l.classes) (drop l.field-index l.olds) ≡
    map (field_partner l.news l.numbers l.classes) l.olds
