use Rattle.std.proofs.Common.{◌≡◌, ◌++◌, drop}
use Rattle.owner_domain.specs.Numbered.{AllInRange}
use Rattle.call_subst.specs.Numbered.{read_values}
use Rattle.call_subst.proofs.numbering.values_of.Given as goal

abbrev pub invariant-loop-value : goal.invariant-loop-value
invariant-loop-value l = record {
  made : l.made.items ++ read_values l.table (drop l.value-index l.values) ≡ read_values l.table l.values;
  range : AllInRange l.table (drop l.value-index l.values);
}
