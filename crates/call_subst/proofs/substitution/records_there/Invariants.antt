use Rattle.std.proofs.Common.{◌≡◌, ◌≤◌, [], length, drop}
use Rattle.access_paths.specs.Table.{GoesOn, IsTable}
use Rattle.access_domain.specs.Additions.{keys_added}
use Rattle.access_domain.specs.Numbered.{read_accesses, AreNumbered}
use Rattle.call_subst.specs.Calls.{records_at}
use Rattle.call_subst.proofs.substitution.records_there.Given as goal

abbrev pub invariant-loop-index : goal.invariant-loop-index
invariant-loop-index l = record {
  all : keys_added (read_accesses l.table l.kept) (records_at l.call l.index (drop l.index l.records)) ≡
      keys_added [] (records_at l.call 0 l.records);
  numbers : AreNumbered l.table l.kept;
  count : length l.kept ≤ l.index;
  table : GoesOn l.initial.table l.table;
  each_once : IsTable l.initial.table → IsTable l.table;
}
