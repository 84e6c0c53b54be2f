use Rattle.std.proofs.Common.{◌≡◌, ◌+◌, ◌<◌, ◌≤◌, map, drop, reverse, Bool, IfOk, refl, sym, subst}
use Rattle.std.proofs.Common.{arith, rules}
use Rattle.std.proofs.lemmas.List.{at_drop_all}
use Rattle.std.specs.Prelude.{option_to_list}
use Rattle.core_code.specs.declared.code.Code.TheFolds.{the_lemmas}
use Rattle.core_code.proofs.code.Code.TheLaws.{the_size}
use borrow.Author.Sizes.{sizes}
use Rattle.core_code.proofs.PartsLeft.{parts-turn}
use Rattle.core_code.specs.Tree.{LockAt, Tree, Op, Choice, Loop, Sync, in_sequence, tree_of}
use Rattle.typed_core.specs.Check.{next_of, rounds_of}
use Rattle.typed_core.specs.declared.states.KindState.{KindState}
use Rattle.typed_core.specs.Walks.{found_in, heads_of, round_in, IsWalked}
use Rattle.typed_core.proofs.Walking.{if_ok, way-begins, way-turn, way-ends, choice-walked, passed-walked, sync-walked}
use Rattle.typed_core.proofs.Rounding.{rounds-begin, rounds-turn, rounds-settled, rounds-done, back-room, settled-ended}
use Rattle.typed_core.proofs.Rounding.{loop-kept, loop-left}
use Rattle.typed_core.proofs.check.+codes.Goals as goal

-- ---- parts

pub check_all-loop-part-init : goal.check_all-loop-part-init
check_all-loop-part-init t c =
    way-begins c.args.context.now (in_sequence (map tree_of c.args.parts.now)) (next_of c.args.reached c.args.here.now)
    c.args.walk.now c.requires.room

pub check_all-check_code-requires : goal.check_all-check_code-requires
check_all-check_code-requires t c =
    (search (rules, sizes, the_size, the_lemmas), (c.requires.right, c.loop-part.invariant.room))

pub check_all-loop-part-preserved : goal.check_all-loop-part-preserved
check_all-loop-part-preserved t c =
    let at = c.loop-part in
    let i = at.part-index in
    let parts = c.args.parts.now in
    way-turn c.args.context.now (tree_of c.part-item.result) (in_sequence (map tree_of (drop (i + 1) parts)))
    (in_sequence (map tree_of (drop i parts))) (in_sequence (map tree_of parts))
    (next_of c.args.reached c.args.here.now) (next_of at.goes_on at.here)
    (next_of c.in-Ok.ended c.check_code.new.here) c.args.walk.now at.walk c.check_code.new.walk
    (parts-turn parts i c.part-item.result c.loop-part-test.true c.part-item.is) at.invariant c.in-Ok.ensures

pub check_all-returns : goal.check_all-returns
check_all-returns t c =
    let at = c.loop-part in
    let parts = c.args.parts.now in
    way-ends c.args.context.now (in_sequence (map tree_of (drop at.part-index parts))) (in_sequence (map tree_of parts))
    (next_of c.args.reached c.args.here.now) (next_of at.goes_on at.here) c.args.walk.now at.walk
    (at_drop_all (λ ps. in_sequence (map tree_of ps)) parts at.part-index (omega (arith, c.loop-part-test.false)))
    at.invariant

-- ---- a piece of code

pub check_code-returns-in-Op : goal.check_code-returns-in-Op
check_code-returns-in-Op t c =
    let context = c.args.context.now in
    let old = c.args.walk.now in
    let new = c.operate.new in
    let is : tree_of c.args.code.now ≡ Op c.in-Op.field-0 c.in-Op.place c.in-Op.op = search (rules, the_lemmas) in
    subst (λ (code : Tree). IfOk c.operate.result (λ goes_on. IsWalked code
    (found_in context code old.next (heads_of old) (next_of c.args.reached c.args.here.now)) (next_of goes_on new.here)
    old new.walk)) (sym is)
    (if_ok c.operate.result _ _ (λ goes_on all. all c.in-Op.field-0) c.operate.ensures)

pub check_code-returns-in-Ok-lower : goal.check_code-returns-in-Ok-lower
check_code-returns-in-Ok-lower t c =
    let code = tree_of c.args.code.now in
    let left = tree_of c.deref.result.now in
    let right = tree_of c.deref-in-Choice.result.now in
    let sides : code ≡ Choice left right = search (rules, the_lemmas) in
    choice-walked c.args.context.now code left right (reverse c.in-Ok.under.items) c.args.reached
    c.in-Ok-check_code.one c.in-Ok-check_code-2.two c.meet_end-goes_on.result c.args.here.now c.lifted.new.here
    c.in-Ok-copied.other c.check_code.new.here c.check_code-in-Choice.new.here c.meet_end-goes_on.new.self
    c.lower.new.self c.args.walk.now c.check_code.new.walk c.check_code-in-Choice.new.walk sides c.in-Ok.ensures
    c.in-Ok-copied.ensures c.in-Ok-check_code.ensures c.in-Ok-check_code-2.ensures c.meet_end-goes_on.ensures
    c.in-Ok-lower.ensures

pub check_code-returns-in-Ok-pass : goal.check_code-returns-in-Ok-pass
check_code-returns-in-Ok-pass t c =
    let context = c.args.context.now in
    let old = c.args.walk.now in
    let code = tree_of c.args.code.now in
    let body = tree_of c.deref-in-Loop-2.result.now in
    let done = c.check_code-in-Loop-2 in
    let is : code ≡ Loop body = search (rules, the_lemmas) in
    subst (λ (reached : Bool). IfOk done.result (λ goes_on. IsWalked code
    (found_in context code old.next (heads_of old) (next_of reached c.args.here.now)) (next_of goes_on done.new.here)
    old done.new.walk)) (sym c.if-reached.false)
    (if_ok done.result _ _
    (λ goes_on one. passed-walked context code body (next_of goes_on done.new.here) c.in-Ok-pass.field-0 old
    c.pass.new.self done.new.walk is c.in-Ok-pass.ensures one) done.ensures)

pub check_code-returns-in-Ok-note : goal.check_code-returns-in-Ok-note
check_code-returns-in-Ok-note t c =
    let code = tree_of c.args.code.now in
    let body = tree_of c.deref-in-Sync.result.now in
    let lock : LockAt = record { place = c.in-Sync.place; kind = c.in-Sync.field-1 } in
    let done = c.check_code-in-Sync in
    let is : code ≡ Sync lock body = search (rules, the_lemmas) in
    if_ok done.result _ _
    (λ goes_on one. sync-walked c.args.context.now code body lock c.in-Sync.place
    (option_to_list c.lock_doubt-doubt.result) c.args.reached c.args.here.now c.pop.new.self
    (next_of goes_on done.new.here) c.args.walk.now c.note.new.self done.new.walk is refl c.lock_doubt-doubt.ensures
    c.in-Ok-note.ensures.doubts c.in-Ok-note.ensures.heads c.in-Ok-note.ensures.number c.pop.ensures.rest one)
    done.ensures

-- ---- a loop

pub check_loop-returns-then-not-changed : goal.check_loop-returns-then-not-changed
check_loop-returns-then-not-changed t c =
    loop-kept c.args.context.now (tree_of c.args.body.now) c.in-Ok.number c.args.here.now c.enter.new.here
    c.check_rounds.new.here c.in-Ok-check_rounds.changed c.args.walk.now c.enter.new.self c.check_rounds.new.walk
    c.in-Ok.ensures c.in-Ok-check_rounds.ensures
    c.if-not-changed.true

pub check_loop-returns : goal.check_loop-returns
check_loop-returns t c =
    loop-left c.args.context.now (tree_of c.args.body.now) c.in-Ok.number c.args.here.now c.enter.new.here
    c.check_rounds.new.here c.in-Ok-check_rounds.changed c.args.walk.now c.enter.new.self c.check_rounds.new.walk
    c.in-Ok.ensures c.in-Ok-check_rounds.ensures
    c.if-not-changed.false c.leave.new.self c.in-Ok-leave.ensures

pub check_round-returns-then-not-goes_on-clause-changed :
    goal.check_round-returns-then-not-goes_on-clause-changed
check_round-returns-then-not-goes_on-clause-changed t c =
    let old = c.args.walk.now in
    settled-ended c.args.here.now c.in-Ok.end c.in-Ok-check_code.goes_on c.check_code.new.here
    (λ (x : KindState). (round_in c.args.context.now (tree_of c.args.body.now) old.next (heads_of old) x).next)
    c.in-Ok.ensures c.if-not-goes_on.true c.in-Ok-check_code.ensures.next

-- ---- its rounds

pub check_rounds-loop-round-init : goal.check_rounds-loop-round-init
check_rounds-loop-round-init t c =
    rounds-begin c.args.context.now (tree_of c.args.body.now) (rounds_of c.args.here.now) c.args.here.now
    c.args.walk.now c.requires.room

pub check_rounds-check_round-requires : goal.check_rounds-check_round-requires
check_rounds-check_round-requires t c =
    let at = c.loop-round in (
      search rules,
      (
        c.requires.right,
        back-room c.mark-mark.result c.args.walk.now at.walk c.back_to.new.self c.back_to.ensures
            c.mark-mark.ensures.number at.invariant.room,
      ),
    )

pub check_rounds-returns-then-not-changed : goal.check_rounds-returns-then-not-changed
check_rounds-returns-then-not-changed t c =
    let at = c.loop-round in
    let count = rounds_of c.args.here.now in
    let low : at.round < count = omega (arith, c.loop-round-test.true, c.in-Ok.ensures) in
    let m = c.in-Ok-check_round.ensures in
    rounds-settled c.args.context.now (tree_of c.args.body.now) count at.round c.args.here.now at.here
    c.check_round.new.here c.args.walk.now at.walk c.back_to.new.self c.check_round.new.walk c.mark-mark.result
    c.in-Ok-check_round.changed low at.invariant c.mark-mark.ensures.number c.mark-mark.ensures.doubts
    c.back_to.ensures m.walked m.changed m.here c.if-not-changed.true _ refl

pub check_rounds-loop-round-preserved : goal.check_rounds-loop-round-preserved
check_rounds-loop-round-preserved t c =
    let at = c.loop-round in
    let count = rounds_of c.args.here.now in
    let low : at.round < count = omega (arith, c.loop-round-test.true, c.in-Ok.ensures) in
    let m = c.in-Ok-check_round.ensures in
    rounds-turn c.args.context.now (tree_of c.args.body.now) count at.round c.args.here.now at.here
    c.check_round.new.here c.args.walk.now at.walk c.back_to.new.self c.check_round.new.walk c.mark-mark.result
    c.in-Ok-check_round.changed low at.invariant c.mark-mark.ensures.number c.mark-mark.ensures.doubts
    c.back_to.ensures m.walked m.changed m.here c.if-not-changed.false

pub check_rounds-returns : goal.check_rounds-returns
check_rounds-returns t c =
    let at = c.loop-round in
    let count = rounds_of c.args.here.now in
    let past : count ≤ at.round = omega (arith, c.loop-round-test.false, c.in-Ok.ensures) in
    rounds-done c.args.context.now (tree_of c.args.body.now) count at.round c.args.here.now at.here c.args.walk.now
    at.walk c.forget.new.self c.mark-mark.result past (omega arith) at.invariant c.mark-mark.ensures.doubts
    c.forget.ensures.doubts c.forget.ensures.heads c.forget.ensures.number
