use Rattle.std.proofs.Common.{◌≡◌, drop}
use Rattle.std.specs.FinSet as set
use Rattle.access_paths.specs.Table.{GoesOn, IsTable}
use Rattle.access_domain.specs.Additions.{paths_added}
use Rattle.call_subst.specs.Calls.{paths_at}
use Rattle.call_subst.specs.Numbered.{read_set, AreWobbly}
use Rattle.call_subst.proofs.substitution.paths_there.Given as goal

abbrev pub invariant-loop-path : goal.invariant-loop-path
invariant-loop-path l = record {
  all : paths_added (read_set l.table l.numbers.keys) (paths_at l.call (drop l.path-index l.paths)) ≡
      paths_added set.empty (paths_at l.call l.paths);
  numbers : AreWobbly l.table l.numbers.keys;
  table : GoesOn l.initial.table l.table;
  each_once : IsTable l.initial.table → IsTable l.table;
}
