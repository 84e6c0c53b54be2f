use Rattle.witness_text_names.proofs.FieldsIndexed.{FieldsLeft}
use Rattle.witness_text_names.proofs.fields.field_index.Given as goal

abbrev pub invariant-loop-index : goal.invariant-loop-index
invariant-loop-index l = FieldsLeft l.fields l.index l.field-items
