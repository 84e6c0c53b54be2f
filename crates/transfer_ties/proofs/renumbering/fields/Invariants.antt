use Rattle.std.proofs.Common.{◌≡◌, Some, map, take}
use Rattle.transfer_ties.specs.Partners.{all_given, field_in}
use Rattle.transfer_ties.proofs.renumbering.fields.Given as goal

abbrev pub invariant-loop-field : goal.invariant-loop-field
invariant-loop-field l = all_given (map (field_in l.ties) (take l.field-index l.field-items)) ≡ Some l.made.items
