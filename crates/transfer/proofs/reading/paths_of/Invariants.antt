use Rattle.std.proofs.Common.{◌≡◌, drop, length}
use Rattle.access_domain.specs.Additions.{paths_added}
use Rattle.call_subst.specs.Numbered.{read_set, read_paths, AreBelow}
use Rattle.transfer.proofs.reading.paths_of.Given as goal

abbrev pub invariant-loop-number : goal.invariant-loop-number
invariant-loop-number l =
    record {
      made : paths_added l.made (read_paths l.table (drop l.number-index l.numbers)) ≡ read_set l.table l.numbers;
      numbers : AreBelow (length l.table) (drop l.number-index l.numbers);
    }
