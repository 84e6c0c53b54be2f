use Rattle.std.proofs.Common.{◌≡◌, Some, take}
use Rattle.transfer_ties.specs.Partners.{fields_in}
use Rattle.transfer_ties.proofs.staying.fields_stay.Given as goal

abbrev pub invariant-loop-field : goal.invariant-loop-field
invariant-loop-field l = fields_in l.ties (take l.field-index l.fields) ≡ Some (take l.field-index l.fields)
