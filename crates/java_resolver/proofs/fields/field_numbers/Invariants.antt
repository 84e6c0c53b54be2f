use Rattle.std.proofs.Common.{◌≡◌, false, take, drop}
use Rattle.java_resolver.specs.Refusals.{repeated, repeated_after, same_field}
use Rattle.java_resolver.specs.Indexes.{FindsFirsts, field_at}
use Rattle.java_resolver.proofs.fields.field_numbers.Given as goal

-- the numbers of the fields so far, and no two of these are of one class and name
abbrev pub invariant-loop-index : goal.invariant-loop-index
invariant-loop-index l =
    record {
      finds : FindsFirsts (field_at false) l.numbers (take l.index l.fields);
      goes_on : repeated_after same_field (take l.index l.fields) (drop l.index l.fields) ≡
          repeated same_field l.fields;
    }
