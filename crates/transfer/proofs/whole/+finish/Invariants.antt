use Rattle.std.proofs.Common.{◌≡◌, ◌||◌, true, drop, is_some, All}
use Rattle.std.specs.List.{list_any}
use Rattle.std.specs.Arc.{arc_value}
use Rattle.racer_base.specs.declared.ids.MethodId.{MethodId}
use Rattle.core_code.specs.Chains.{row_of}
use Rattle.core_code.specs.Falling.{number_of}
use Rattle.core_code.specs.Program.{core}
use Rattle.core_code.specs.CalleeRows.{rows_in, ranks_in}
use Rattle.core_code.proofs.RowCallees.{is_method}
use Rattle.transfer.specs.Callees.{SharedFinished, outcome_in}
use Rattle.transfer.specs.Tables.{IsTable}
use Rattle.transfer.proofs.whole.+finish.Given as goal

abbrev pub decreases-finish : goal.decreases-finish
decreases-finish l = number_of (ranks_in l.rows.now) l.method

-- each method of the row is finished, or is one of those that are left
abbrev pub invariant-loop-callee : goal.invariant-loop-callee
invariant-loop-callee l =
    let program = core (arc_value l.program) in
    let row = row_of (rows_in l.rows) l.method in
    record {
      table : IsTable program l.table.items;
      same_program : All (λ (f : SharedFinished). core (arc_value (arc_value f).program) ≡ program) l.callees.items;
      there : (n : MethodId) → list_any (is_method n) row ≡ true →
          (is_some (outcome_in l.callees.items n) || list_any (is_method n) (drop l.callee-index row)) ≡ true;
    }
