use Rattle.std.proofs.Common.{true, take}
use Rattle.java_resolver.specs.Indexes.{FindsFirsts, field_at}
use Rattle.java_resolver.proofs.fields.static_numbers.Given as goal

abbrev pub invariant-loop-index : goal.invariant-loop-index
invariant-loop-index l = FindsFirsts (field_at true) l.numbers (take l.index l.fields)
