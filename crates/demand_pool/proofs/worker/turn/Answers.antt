use denote.Param.Send.{sendable}
use Rattle.std.proofs.Common.{◌≡◌, ◌+◌, true, map, IfSome, get_or, refl, sym, ap, ◌∙◌, subst, arith}
use Rattle.std.specs.Arc.{arc_value}
use Rattle.racer_base.specs.declared.ids.MethodId.{MethodId}
use Rattle.core_code.specs.Calls.{is_analysed}
use Rattle.core_code.specs.Core.{Core}
use Rattle.core_code.specs.Program.{core}
use Rattle.core_code.proofs.Analysed.{analysed_of}
use Rattle.transfer.proofs.Movable.{finished_send, finished_sync}
use Rattle.summary_store.specs.Passes.{PassView, pass_view}
use Rattle.demand_pool.specs.RowPieces.{IsPieceFor, shared_in}
use Rattle.demand_pool.specs.declared.row_pieces.FoundPiece.{FoundPiece}
use Rattle.demand_pool.proofs.FoundRow.{found_copies, shared_pushed}
use Rattle.demand_pool.proofs.Turns.{row_here, wants, found_more, found_none, all_found, pass_more}
use Rattle.demand_pool.proofs.worker.turn.Goals as goal

pub row-row-requires : goal.row-row-requires
row-row-requires g c =
    row_here (core g.L.StoreRun.program) c.args.given.now.rows.now c.args.m c.requires.rows c.requires.analysed

pub next_piece-requires : goal.next_piece-requires
next_piece-requires g c =
    let inv = c.loop-i.invariant in
    record {
      next =
          wants (core g.L.StoreRun.program) c.args.given.now.rows.now c.args.m c.requires.rows c.row-row.result.now
          c.row-row.ensures c.loop-i.i c.loop-i.pass.hand c.loop-i.pass.found (record { 0 = 0 }) inv.hand inv.found
          c.loop-i-test.true;
    }

pub loop-i-init : goal.loop-i-init
loop-i-init g c =
    record {
      number = refl;
      hand = c.requires.holds.0;
      found = c.requires.holds.1;
      made = refl;
      pieces =
          found_none (core g.L.StoreRun.program) c.row-row.result.now _
          (ap (map shared_in) c.in_ok-found.ensures.items);
      room = omega (arith, c.in_ok-found.ensures.capacity);
    }

pub loop-i-preserved : goal.loop-i-preserved
loop-i-preserved g c =
    let d : MethodId = record { 0 = 0 } in
    let program = core g.L.StoreRun.program in
    let inv = c.loop-i.invariant in
    let row = c.row-row.result.now in
    let before = c.loop-i.pass in
    let behind = pass_view before.number before.hand (before.found + 1) before.made in
    let IsFound : FoundPiece → Type 0 = λ f.
    IsPieceFor g.L.StoreRun.program (get_or row c.loop-i.i d) (arc_value (shared_in f)) in
    let IsMore : FoundPiece → Type 0 = λ f. c.next_piece.new.pass ≡ behind in
    let found = subst (λ o. IfSome o IsFound) c.in-Some.is c.in_ok-piece.ensures.found in
    let told = subst (λ o. IfSome o IsMore) c.in-Some.is c.in_ok-piece.ensures.found_pass in
    let pass = pass_more before _ _ _ _ told inv.number inv.hand inv.found in
    let old = c.loop-i.found.items in
    let new = c.push_reserved.new.self.items in
    let more = shared_pushed old new c.in-Some.piece c.push_reserved.ensures.items in
    record {
      number = pass.0;
      hand = pass.1;
      found = pass.2;
      made = ap (λ (p : PassView). p.made) told ∙ inv.made;
      pieces =
          found_more program row c.loop-i.i d (map shared_in old) (map shared_in new)
          (shared_in c.in-Some.piece) c.loop-i-test.true more found.0 (ap core found.1) inv.pieces;
      room = omega (arith, c.push_reserved.ensures.capacity, inv.room);
    }

pub analyse-requires-clause-callees : goal.analyse-requires-clause-callees
analyse-requires-clause-callees g c =
    let found = c.loop-i.found.items in
    let copies = c.in_ok-callees.callees.items in
    let alike = c.in_ok-callees.ensures ∙ ap (λ l. map arc_value (map shared_in l)) c.as_slice.ensures.value in
    let pieces =
    found_copies (core g.L.StoreRun.program) c.row-row.result.now c.loop-i.i (map shared_in found) copies alike
    c.loop-i.invariant.pieces in
    all_found (core g.L.StoreRun.program) c.args.given.now.rows.now c.args.m c.requires.rows c.row-row.result.now
    c.row-row.ensures c.loop-i.i _ copies _ (ap core c.requires.program) c.as_slice-2.ensures.value
    c.loop-i-test.false c.requires.analysed pieces

pub analyse-requires-clause-analysed : goal.analyse-requires-clause-analysed
analyse-requires-clause-analysed g c =
    subst (λ (p : Core). is_analysed p c.args.m ≡ true) (sym (ap core c.requires.program))
    (analysed_of (core g.L.StoreRun.program) c.args.m c.requires.analysed)

pub publish-requires-send-P : goal.publish-requires-send-P
publish-requires-send-P g c κs within = search (sendable, finished_send)

pub publish-requires-sync-P : goal.publish-requires-sync-P
publish-requires-sync-P g c κs within = search (sendable, finished_sync)
