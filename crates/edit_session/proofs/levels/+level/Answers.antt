use Rattle.std.proofs.Common.{◌≡◌, ℕ, ◌+◌, ◌<◌, ◌≤◌, true, List, Option, Some, length, sym, ap, subst, ◌∙◌, arith}
use Rattle.std.specs.Option.{IfSome}
use Rattle.std.specs.Prelude.{slice_index_or}
use Rattle.racer_base.specs.declared.ids.MethodId.{MethodId}
use Rattle.core_code.specs.Chains.{row_of}
use Rattle.core_code.specs.Falling.{number_of}
use Rattle.core_code.specs.Calls.{is_analysed}
use Rattle.core_code.specs.Program.{core}
use Rattle.core_code.specs.CalleeRows.{rows_in, rows_of, ranks_in}
use Rattle.core_code.proofs.RowCallees.{read_any, row_analysed, row_there}
use Rattle.transfer.proofs.Every.{read_at}
use Rattle.transfer_ties.specs.Again.{level_of}
use Rattle.edit_session.specs.Levels.{AreLevels, known_at, level_above}
use Rattle.edit_session.proofs.LevelSteps.{level_step}
use Rattle.edit_session.proofs.LevelTables.{above_end, above_turn, kept_levels}
use Rattle.edit_session.proofs.levels.+level.Goals as goal

pub level-requires : goal.level-requires
level-requires t c =
    let program = core c.args.program.now in
    let m = c.args.method in
    let row = c.row-callee-items.result.now in
    let i = c.loop-callee.callee-index in
    let n : MethodId = slice_index_or row i (record { 0 = 0 }) in
    let same : row ≡ row_of (rows_of program) m =
    c.row-callee-items.ensures ∙ ap (λ (rows : List (List MethodId)). row_of rows m) c.requires.rows.rows_are in
    let at = read_at row (row_of (rows_of program) m) i (record { 0 = 0 }) same c.loop-callee-test.true in
    let falls : number_of (ranks_in c.args.rows.now) n < number_of (ranks_in c.args.rows.now) m =
    c.requires.rows.ranks_fall m n (i, at.0, sym at.1) in
    let analysed : is_analysed program n ≡ true =
    row_analysed program m n c.args.program.now.calls_right c.requires.analysed
    (read_any (row_of (rows_of program) m) i n at.0 at.1) in
    (omega (arith, falls, c.decreases), (c.requires.rows, (analysed, c.loop-callee.invariant.table)))

pub loop-callee-init : goal.loop-callee-init
loop-callee-init t c = record { table = c.requires.table; highest = omega arith }

pub loop-callee-preserved : goal.loop-callee-preserved
loop-callee-preserved t c =
    let program = core c.args.program.now in
    let m = c.args.method in
    let row = row_of (rows_in c.args.rows.now) m in
    let i = c.loop-callee.callee-index in
    let n : MethodId = slice_index_or c.row-callee-items.result.now i (record { 0 = 0 }) in
    let at = read_at c.row-callee-items.result.now row i (record { 0 = 0 }) c.row-callee-items.ensures
    c.loop-callee-test.true in
    record {
      table = c.in-Ok.ensures.table;
      highest = above_turn program row i c.loop-callee.highest c.in-Ok.level c.in-Ok-raised.raised n at.0 at.1
          c.in-Ok.ensures.level c.in-Ok-raised.ensures c.loop-callee.invariant.highest;
    }

pub returns-in-Some-clause-level : goal.returns-in-Some-clause-level
returns-in-Some-clause-level t c =
    let program = core c.args.program.now in
    let m = c.args.method in
    let found : known_at c.args.levels.now.items m ≡ Some c.in-Some.level =
    sym (ap (λ (ls : List (Option ℕ)). known_at ls m) c.as_slice.ensures.value) ∙ sym c.known.ensures ∙ c.in-Some.is in
    subst (λ (o : Option ℕ). IfSome o (λ l. l ≡ level_of program m)) found (c.requires.table m)

pub returns-in-Some-clause-table : goal.returns-in-Some-clause-table
returns-in-Some-clause-table t c = c.requires.table

pub returns-clause-level : goal.returns-clause-level
returns-clause-level t c =
    let program = core c.args.program.now in
    let m = c.args.method in
    let row = row_of (rows_in c.args.rows.now) m in
    let i = c.loop-callee.callee-index in
    let past : length row ≤ i =
    subst (λ (ms : List MethodId). length ms ≤ i) c.row-callee-items.ensures c.loop-callee-test.false in
    above_end program row i c.loop-callee.highest past c.loop-callee.invariant.highest
    ∙ ap (λ (rows : List (List MethodId)). level_above program (row_of rows m)) c.requires.rows.rows_are
    ∙ sym (level_step program c.args.program.now.calls_right c.args.program.now.ranks_there m c.requires.analysed)

pub returns-clause-table : goal.returns-clause-table
returns-clause-table t c =
    let program = core c.args.program.now in
    let m = c.args.method in
    let row = row_of (rows_in c.args.rows.now) m in
    let i = c.loop-callee.callee-index in
    let past : length row ≤ i =
    subst (λ (ms : List MethodId). length ms ≤ i) c.row-callee-items.ensures c.loop-callee-test.false in
    let level : c.loop-callee.highest ≡ level_of program m =
    above_end program row i c.loop-callee.highest past c.loop-callee.invariant.highest
    ∙ ap (λ (rows : List (List MethodId)). level_above program (row_of rows m)) c.requires.rows.rows_are
    ∙ sym (level_step program c.args.program.now.calls_right c.args.program.now.ranks_there m c.requires.analysed) in
    subst (AreLevels program) (sym c.keep.ensures)
    (kept_levels program c.loop-callee.levels.items m c.loop-callee.highest c.loop-callee.invariant.table level)

pub row-callee-items-requires : goal.row-callee-items-requires
row-callee-items-requires t c =
    row_there (core c.args.program.now) (rows_in c.args.rows.now) c.args.method c.requires.analysed
    c.requires.rows.rows_are
