use Rattle.std.proofs.Common.{◌≡◌, ◌+◌, ◌≤◌, ◌<◌, ◌||◌, true, List, [], ◌∷◌, ◌++◌, All, Option, Some}
use Rattle.std.proofs.Common.{drop, is_some, length, option_map, sym, ap, subst}
use Rattle.std.proofs.Common.{◌∙◌, arith}
use Rattle.std.proofs.lemmas.List.Elements.{All-nil, All-push}
use Rattle.std.specs.Arc.{arc_value}
use Rattle.std.specs.List.{list_any}
use Rattle.std.specs.Option.{IfSome}
use Rattle.std.specs.Prelude.{slice_index_or}
use Rattle.std.proofs.lemmas.Bool.{or_right}
use Rattle.racer_base.specs.declared.ids.MethodId.{MethodId}
use Rattle.core_code.specs.Chains.{row_of}
use Rattle.core_code.specs.Falling.{number_of}
use Rattle.core_code.specs.Calls.{is_analysed}
use Rattle.core_code.specs.Program.{core}
use Rattle.core_code.specs.CalleeRows.{rows_in, rows_of, ranks_in}
use Rattle.core_code.proofs.RowCallees.{is_method, read_any, row_analysed, row_there}
use Rattle.transfer.specs.Callees.{SharedFinished, AreCallees, outcome_in}
use Rattle.transfer.specs.declared.finished.Finished.{Finished}
use Rattle.transfer.specs.Tables.{IsFinished, finished_at}
use Rattle.transfer.proofs.Every.{read_at, one-fewer, row-done}
use Rattle.transfer.proofs.whole.+finish.Goals as goal

pub finish-requires : goal.finish-requires
finish-requires t c =
    let program = core (arc_value c.args.program.now) in
    let m = c.args.method in
    let row = c.row-callee-items.result.now in
    let i = c.loop-callee.callee-index in
    let n : MethodId = slice_index_or row i (record { 0 = 0 }) in
    let same : row ≡ row_of (rows_of program) m =
    c.row-callee-items.ensures ∙ ap (λ (rows : List (List MethodId)). row_of rows m) c.requires.rows.rows_are in
    let at = read_at row (row_of (rows_of program) m) i (record { 0 = 0 }) same c.loop-callee-test.true in
    let falls : number_of (ranks_in c.args.rows.now) n < number_of (ranks_in c.args.rows.now) m =
    c.requires.rows.ranks_fall m n (i, at.0, sym at.1) in
    let analysed : is_analysed program n ≡ true =
    row_analysed program m n (arc_value c.args.program.now).calls_right c.requires.analysed
    (read_any (row_of (rows_of program) m) i n at.0 at.1) in
    (omega (arith, falls, c.decreases), (c.requires.rows, (analysed, c.loop-callee.invariant.table)))

pub loop-callee-preserved : goal.loop-callee-preserved
loop-callee-preserved t c =
    let program = core (arc_value c.args.program.now) in
    let m = c.args.method in
    let row = row_of (rows_in c.args.rows.now) m in
    let inv = c.loop-callee.invariant in
    let i = c.loop-callee.callee-index in
    let n : MethodId = slice_index_or c.row-callee-items.result.now i (record { 0 = 0 }) in
    let at = read_at c.row-callee-items.result.now row i (record { 0 = 0 }) c.row-callee-items.ensures
    c.loop-callee-test.true in
    let callees = c.loop-callee.callees.items in
    let made = c.in-Ok.finished in
    let IsFor : SharedFinished → Type 0 = λ f. core (arc_value (arc_value f).program) ≡ program in
    record {
      table = c.in-Ok.ensures.table;
      same_program =
          subst (λ (fs : List SharedFinished). All IsFor fs)
          (sym {A = List SharedFinished} {b = callees ++ made ∷ []} c.in-Ok-push.ensures.items)
          (All-push IsFor callees made inv.same_program c.in-Ok.ensures.made.program_is);
      there = λ k e.
          subst (λ (fs : List SharedFinished). (is_some (outcome_in fs k) || list_any (is_method k)
          (drop (i + 1) row)) ≡ true)
          (sym {A = List SharedFinished} {b = callees ++ made ∷ []} c.in-Ok-push.ensures.items)
          (one-fewer callees made row i n k at.0 at.1 c.in-Ok.ensures.made.method (inv.there k e));
    }

pub finish_itself-requires-clause-callees : goal.finish_itself-requires-clause-callees
finish_itself-requires-clause-callees t c =
    let program = core (arc_value c.args.program.now) in
    let m = c.args.method in
    let row = row_of (rows_in c.args.rows.now) m in
    let inv = c.loop-callee.invariant in
    let i = c.loop-callee.callee-index in
    let over : length row ≤ i =
    subst (λ (ms : List MethodId). length ms ≤ i) c.row-callee-items.ensures c.loop-callee-test.false in
    subst (AreCallees program m) (sym c.as_slice-2.ensures.value)
    (row-done program m c.loop-callee.callees.items row i c.requires.analysed
    (ap (λ (rows : List (List MethodId)). row_of rows m) c.requires.rows.rows_are) over inv.same_program inv.there)

pub returns-in-Some-clause-made : goal.returns-in-Some-clause-made
returns-in-Some-clause-made t c =
    let program = core (arc_value c.args.program.now) in
    let m = c.args.method in
    let found : Some (arc_value c.in-Some.finished) ≡ finished_at c.args.table.now.items m =
    sym (ap (option_map arc_value) c.in-Some.is)
    ∙ c.in_ok-finished.ensures
    ∙ ap (λ (table : List (Option SharedFinished)). finished_at table m) c.as_slice.ensures.value in
    subst (λ (o : Option Finished). IfSome o (λ f. IsFinished program m f)) (sym found) (c.requires.table m)

pub returns-in-Some-clause-table : goal.returns-in-Some-clause-table
returns-in-Some-clause-table t c = c.requires.table

pub loop-callee-init : goal.loop-callee-init
loop-callee-init t c =
    let program = core (arc_value c.args.program.now) in
    let IsFor : SharedFinished → Type 0 = λ f. core (arc_value (arc_value f).program) ≡ program in
    let made = c.new-callees.result.items in
    let row = row_of (rows_in c.args.rows.now) c.args.method in
    record {
      table = c.requires.table;
      same_program = subst (λ (fs : List SharedFinished). All IsFor fs) (sym c.new-callees.ensures.items)
          (All-nil IsFor);
      there = λ n e. or_right (is_some (outcome_in made n)) (list_any (is_method n) row) e;
    }

pub returns-clause-made : goal.returns-clause-made
returns-clause-made t c = c.finish_itself.ensures.made

pub finish_itself-requires-clause-table : goal.finish_itself-requires-clause-table
finish_itself-requires-clause-table t c = c.loop-callee.invariant.table

pub finish_itself-requires-clause-analysed : goal.finish_itself-requires-clause-analysed
finish_itself-requires-clause-analysed t c = c.requires.analysed

pub row-callee-items-requires : goal.row-callee-items-requires
row-callee-items-requires t c =
    row_there (core (arc_value c.args.program.now)) (rows_in c.args.rows.now) c.args.method c.requires.analysed
    c.requires.rows.rows_are
