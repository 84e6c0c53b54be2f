use Rattle.std.proofs.Common.{ℕ, ◌<◌, sym, ap, ◌∙◌, subst, arith, length, replicate, None, false, rules, ◌≡◌}
use Rattle.std.specs.Prelude.{All}
use Rattle.racer_base.specs.declared.ids.MethodId.{MethodId}
use Rattle.core_code.specs.declared.program.Program.{Program}
use Rattle.core_code.specs.Program.{core}
use Rattle.core_code.specs.CalleeRows.{rows_in}
use Rattle.core_code.specs.declared.rows.CallRows.{CallRows}
use Rattle.core_code.specs.Counting.{analysed_methods, flags_of}
use Rattle.summary_store.proofs.Opening.{kept_start, first_of_program, rows_fit, room_same}
use Rattle.summary_store.proofs.locked.Locked.start.Goals as goal

pub room_for-requires : goal.room_for-requires
room_for-requires g c =
    let idle = c.as_slice.ensures.value ∙ c.in_ok-idle.ensures
    ∙ ap (λ (p : Program). analysed_methods (core p)) c.requires.program in
    let P : CallRows → Type 0 = λ r. All (λ (m : MethodId). m.0 < length (rows_in r)) c.as_slice.result.now in
    subst P (sym c.deref.ensures) (rows_fit (core g.L.StoreRun.program) _ c.as_slice.result.now c.requires.rows idle)

pub invariant_of-result : goal.invariant_of-result
invariant_of-result g c =
    let p = core g.L.StoreRun.program in
    let w = g.L.Ledger.parts in
    let idle = c.in_ok-idle.ensures ∙ ap (λ (q : Program). analysed_methods (core q)) c.requires.program in
    let places = c.count.ensures ∙ ap (λ (q : Program). length (flags_of (core q))) c.requires.program in
    let some : 0 < w = omega (arith, c.requires.workers.0, c.requires.workers.1) in
    let same = room_same _ _ _ _ (ap rows_in c.deref.ensures ∙ c.requires.rows.rows_are) (c.as_slice.ensures.value
    ∙ idle) in
    let few = ap length idle in
    let first = first_of_program c.in_ok-lists.lists (ap (λ (q : Program). flags_of (core q)) c.requires.program)
    c.requires.workers.1 c.in_ok-lists.ensures in
    let made : c.in_ok-left.left.items ≡ replicate c.args.workers false = search rules in
    let left = made ∙ ap (λ (n : ℕ). replicate n false) c.requires.workers.1 in (
      kept_start _ p _ w g.L.StoreRun.program.calls_right c.requires.rows some _ c.in_ok-history.ensures.items _ first _
          left _ (c.in_ok-table.ensures ∙ ap (λ (n : ℕ). replicate n None) places) _ c.requires.book,
      record { events = omega (arith, c.in-Some.ensures, c.in_ok-history.ensures.capacity, c.requires.workers.1) },
      c.requires.rows,
      c.requires.workers.1,
    )
