use Rattle.std.proofs.Common.{refl, sym, ap, ◌∙◌, arith, length}
use Rattle.std.specs.Prelude.{slice_get}
use Rattle.std.specs.List.{list_all}
use Rattle.std.specs.Arc.{arc_value}
use Rattle.racer_base.specs.declared.ids.MethodId.{MethodId}
use Rattle.core_code.specs.Program.{core}
use Rattle.core_code.specs.CalleeRows.{rows_in, rows_of}
use Rattle.summary_store.specs.Setups.{state_after}
use Rattle.summary_store.specs.Kept.{pieces_of, has_piece}
use Rattle.summary_store.proofs.Keeping.{agreed, held_method, no_row_done, row_done_or_not}
use Rattle.summary_store.proofs.locked.Locked.is_row_done.Goals as goal

pub row-requires : goal.row-requires
row-requires g c =
    let k = c.self.invariant.0 in
    let agrees = agreed k _ _ _ _ _ (ap (λ p. p.0) c.self.view_is) refl c.requires (sym c.hand.ensures
    ∙ c.in-Holds.is) in
    let rows = ap length (ap rows_in c.deref.ensures ∙ c.self.invariant.2.rows_are) in
    omega (arith, k.lines c.in-Holds.m (held_method k _ c.in-Holds.m agrees))

pub returns-in_default : goal.returns-in_default
returns-in_default g c =
    no_row_done (rows_of (core g.L.StoreRun.program))
    (state_after g.L.StoreRun.program g.L.Ledger.parts c.args.self.now.0) c.args.pass.now.hand
    (λ m is. c.in_default.not-Holds m (c.hand.ensures ∙ is))

pub returns : goal.returns
returns g c =
    let k = c.self.invariant.0 in
    let rows = ap rows_in c.deref.ensures ∙ c.self.invariant.2.rows_are in
    let found = c.all_there.ensures
    ∙ ap (λ t. list_all (λ (x : MethodId). has_piece (slice_get (pieces_of arc_value t) x.0)) c.row.result.now)
    c.as_slice.ensures.value in
    let test = row_done_or_not k _ (ap (λ p. p.0) c.self.view_is) (rows_in c.deref.result.now) rows _ c.in-Holds.m
    (sym c.hand.ensures ∙ c.in-Holds.is) c.row.result.now c.row.ensures in
    ((λ there. test.0 (sym found ∙ there)), (λ done. found ∙ test.1 done))
