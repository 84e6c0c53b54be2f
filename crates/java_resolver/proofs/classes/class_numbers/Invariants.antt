use Rattle.std.proofs.Common.{◌≡◌, take, drop}
use Rattle.java_resolver.specs.Refusals.{repeated, repeated_after, same_class}
use Rattle.java_resolver.specs.Indexes.{FindsFirsts, class_at}
use Rattle.java_resolver.proofs.classes.class_numbers.Given as goal

-- the numbers of the classes so far, and no two of these have one name
abbrev pub invariant-loop-index : goal.invariant-loop-index
invariant-loop-index l =
    record {
      finds : FindsFirsts class_at l.numbers (take l.index l.classes);
      goes_on : repeated_after same_class (take l.index l.classes) (drop l.index l.classes) ≡
          repeated same_class l.classes;
    }
