use Rattle.std.proofs.Common.{◌≡◌, ◌+◌, ◌-◌, suc, ℕ, ◌≤◌, ◌<◌, List, Option, Some, length, map, drop, reverse}
use Rattle.std.proofs.Common.{true, Ok, refl, sym, ap, subst, ◌∙◌, arith, rules}
use Rattle.std.proofs.lemmas.List.{at_drop_all, take_all, length-drop}
use Rattle.std.specs.Prelude.{slice_set}
use Rattle.std.proofs.lemmas.Bool.{not-false, not-true}
use Rattle.access_paths.specs.Table.{GoesOn}
use Rattle.access_paths.proofs.Numbers.{goes_on-same, goes_on-trans}
use Rattle.owner_domain.specs.declared.value.State.{State}
use Rattle.owner_domain.specs.declared.numbered.NumberedState.{NumberedState}
use Rattle.owner_domain.specs.Numbered.{read_state, AreInRange}
use Rattle.core_code.specs.declared.code.Code.{Code}
use Rattle.core_code.specs.declared.code.Code.TheFolds.{the_lemmas}
use Rattle.core_code.proofs.code.Code.TheLaws.{the_size}
use borrow.Author.Sizes.{sizes}
use Rattle.core_code.specs.Tree.{LockAt, Tree, Op, Seq, Choice, Loop, Sync, tree_of, in_sequence}
use Rattle.core_code.proofs.PartsLeft.{parts-turn}
use Rattle.transfer_loops.specs.Resuming.{Heads, resumed, loops, entered, iterated}
use Rattle.transfer.specs.declared.resuming.Passed.{Passed}
use Rattle.transfer_steps.specs.declared.operations.MethodContext.{MethodContext}
use Rattle.transfer_steps.specs.Contexts.{given}
use Rattle.transfer_steps.specs.Numbered.{read_heads, AreHeadsInRange, IsResumedIn}
use Rattle.transfer.specs.Resumes.{heads_in, IsResumed, IsRound, AreResumedRounds}
use Rattle.transfer_steps.proofs.HeadsRead.{long-back, long-read, heads-long, heads-still, rounds-read}
use Rattle.transfer.proofs.NumberedRounds.{round-kept, round-met, loop-put, loop-in}
use Rattle.transfer_steps.proofs.Readings.{state-still}
use Rattle.transfer.proofs.ResumedRounds.{round_goes_on, round_ends, loop_kept, loop_left}
use Rattle.transfer.proofs.Resumptions.{op-resumed, choice-resumed, sync-resumed}
use Rattle.transfer.proofs.Resumptions.{through-more, through-number}
use Rattle.transfer.proofs.ResumedParts.{passed-behind, through-done, through-passed, room-right}
use Rattle.owner_domain.proofs.Reading.{met-in}
use Rattle.transfer.proofs.WalkedNumbers.{copied-in}
use Rattle.transfer_steps.proofs.Longer.{always}
use Rattle.transfer.proofs.Lowered.{lifted-in, lowered-in, lowered-resumed}
use Rattle.transfer.proofs.resuming.+resumes.Goals as goal

-- ---- one round

pub resume_round-returns-then-not-passed : goal.resume_round-returns-then-not-passed
resume_round-returns-then-not-passed t c =
    let older = c.args.table.now in
    let new = c.resume.new in
    let m = c.in-Ok-resume.ensures in
    let ends = not-true c.in-Ok-resume.passed.goes_on c.if-not-passed.true in
    record {
      resumed =
          round-kept (given c.args.context.now)
          (tree_of c.args.body.now) c.args.context.now.locked c.args.first older new.table m.table
          c.args.state.now c.in-Ok.end new.state c.args.heads.now.items new.heads.items c.in-Ok-resume.passed
          c.in-Ok.ensures c.requires.numbers.state m.resumed ends;
      numbers =
          record {
            once = m.numbers.once;
            state = state-still older new.table m.table c.args.state.now c.requires.numbers.state;
            left = m.numbers.left;
          };
      table = m.table;
    }

-- ---- rounds

pub resume_rounds-loop-round-init : goal.resume_rounds-loop-round-init
resume_rounds-loop-round-init t c =
    let go = resumed (given c.args.context.now) (tree_of c.args.body.now) c.args.context.now.locked c.args.first in
    let table = c.args.table.now in
    let all : c.args.rounds - 0 ≡ c.args.rounds = omega arith in
    record {
      same =
          ap (λ (n : ℕ). iterated go n (heads_in (read_heads table c.args.heads.now.items))
          (read_state table c.args.state.now)) all;
      long = refl;
      numbers = c.requires.numbers;
      on = goes_on-same table;
    }

pub resume_rounds-returns-then-not-changed : goal.resume_rounds-returns-then-not-changed
resume_rounds-returns-then-not-changed t c =
    let go = resumed (given c.args.context.now) (tree_of c.args.body.now) c.args.context.now.locked c.args.first in
    let older = c.args.table.now in
    let at = c.loop-round in
    let new = c.resume_round.new in
    let left : c.args.rounds - at.round ≡ suc (c.args.rounds - (at.round + 1)) =
    omega (arith, c.loop-round-test.true) in
    let k = c.in-Ok.ensures in
    let m = k.resumed in
    let hs = read_heads at.table at.heads.items in
    let later = read_heads new.table new.heads.items in
    let ends =
    round_ends go (c.args.rounds - (at.round + 1)) (c.args.rounds - at.round) (heads_in hs) (heads_in later)
    (read_state at.table at.state) (read_state new.table new.state) c.in-Ok.changed left m.0 m.1 m.3.0
    c.if-not-changed.true in
    record {
      resumed = (
        ends.0 ∙ (λ i. (at.invariant.same i).0),
        (
          ends.1 ∙ (λ i. (at.invariant.same i).1),
          m.3.1 ∙ long-read older at.table c.args.heads.now.items at.heads.items at.invariant.long,
        ),
      );
      numbers = k.numbers;
      table = goes_on-trans older at.table new.table at.invariant.on k.table;
    }

pub resume_rounds-loop-round-preserved : goal.resume_rounds-loop-round-preserved
resume_rounds-loop-round-preserved t c =
    let go = resumed (given c.args.context.now) (tree_of c.args.body.now) c.args.context.now.locked c.args.first in
    let older = c.args.table.now in
    let at = c.loop-round in
    let new = c.resume_round.new in
    let left : c.args.rounds - at.round ≡ suc (c.args.rounds - (at.round + 1)) =
    omega (arith, c.loop-round-test.true) in
    let k = c.in-Ok.ensures in
    let m = k.resumed in
    let hs = read_heads at.table at.heads.items in
    let later = read_heads new.table new.heads.items in
    record {
      same =
          round_goes_on go (c.args.rounds - (at.round + 1)) (c.args.rounds - at.round) (heads_in hs) (heads_in later)
          (read_state at.table at.state) (read_state new.table new.state) c.in-Ok.changed left m.0 m.1 m.3.0
          c.if-not-changed.false
          ∙ at.invariant.same;
      long = long-back at.table new.table at.heads.items new.heads.items m.3.1 ∙ at.invariant.long;
      numbers = k.numbers;
      on = goes_on-trans older at.table new.table at.invariant.on k.table;
    }

pub resume_rounds-returns : goal.resume_rounds-returns
resume_rounds-returns t c =
    let go = resumed (given c.args.context.now) (tree_of c.args.body.now) c.args.context.now.locked c.args.first in
    let at = c.loop-round in
    let none : c.args.rounds - at.round ≡ 0 = omega (arith, c.loop-round-test.false) in
    let hs = heads_in (read_heads at.table at.heads.items) in
    let here = read_state at.table at.state in
    let all = sym (ap (λ (n : ℕ). iterated go n hs here) none) ∙ at.invariant.same in
    record {
      resumed = (
        ap (λ (e : State × Heads). e.0) all,
        (
          ap (λ (e : State × Heads). e.1) all,
          long-read c.args.table.now at.table c.args.heads.now.items at.heads.items at.invariant.long,
        ),
      );
      numbers = at.invariant.numbers;
      table = at.invariant.on;
    }

-- ---- a loop

pub resume_loop-enter-requires : goal.resume_loop-enter-requires
resume_loop-enter-requires t c =
    let body = tree_of c.args.body.now in
    let room : c.args.first + suc (loops body) ≤ length c.args.heads.now.items = c.requires.room in
    omega (arith, ap length c.as_slice.ensures.value)

pub resume_loop-resume_round-requires : goal.resume_loop-resume_round-requires
resume_loop-resume_round-requires t c =
    let table = c.args.table.now in
    let old = c.args.heads.now.items in
    let body = tree_of c.args.body.now in
    let first = c.args.first in
    let room : first + suc (loops body) ≤ length old = c.requires.room in
    let behind : c.in-Ok.inner + loops body ≤ length old = omega (arith, c.in-Ok.ensures) in
    let ready = c.requires.numbers in
    let kept = subst (AreHeadsInRange table) (sym c.as_slice.ensures.value) ready.left in (
      search rules,
      (
        behind,
        record {
          once = ready.once;
          state = c.in-Ok-enter.ensures.numbers table ready.once ready.state kept;
          left = ready.left;
        },
      ),
    )

pub resume_loop-returns-then-not-changed : goal.resume_loop-returns-then-not-changed
resume_loop-returns-then-not-changed t c =
    let g = given c.args.context.now in
    let body = tree_of c.args.body.now in
    let older = c.args.table.now in
    let old = c.args.heads.now.items in
    let start = c.args.state.now in
    let first = c.args.first in
    let ready = c.requires.numbers in
    let begun =
    c.in-Ok-enter.ensures.next older ready.once ready.state
    (subst (AreHeadsInRange older) (sym c.as_slice.ensures.value) ready.left)
    ∙ ap (λ (hs : List (Option NumberedState)). entered (heads_in (read_heads older hs) first) (read_state older start))
    c.as_slice.ensures.value in
    let new = c.resume_round.new in
    let k = c.in-Ok-resume_round.ensures in
    let round =
    subst (λ (n : ℕ). IsRound g body c.args.context.now.locked n (read_state older c.enter.new.state)
    (read_state new.table new.state) (read_heads older old) (read_heads new.table new.heads.items)
    (Ok (c.in-Ok-resume_round.next, c.in-Ok-resume_round.changed))) c.in-Ok.ensures k.resumed in
    record {
      resumed =
          loop_kept g body c.args.context.now.locked first c.in-Ok-resume_round.next c.rounds-rounds.result
          (read_state older start)
          (read_state older c.enter.new.state) (read_state new.table new.state) (read_heads older old)
          (read_heads new.table new.heads.items) c.in-Ok-resume_round.changed
          (rounds-read older start c.rounds-rounds.result c.rounds-rounds.ensures)
          begun round c.if-not-changed.true;
      numbers = k.numbers;
      table = k.table;
    }

pub resume_loop-returns : goal.resume_loop-returns
resume_loop-returns t c =
    let g = given c.args.context.now in
    let body = tree_of c.args.body.now in
    let older = c.args.table.now in
    let old = c.args.heads.now.items in
    let start = c.args.state.now in
    let first = c.args.first in
    let low : first < length old =
    let room : first + suc (loops body) ≤ length old = c.requires.room in omega arith in
    let ready = c.requires.numbers in
    let begun =
    c.in-Ok-enter.ensures.next older ready.once ready.state
    (subst (AreHeadsInRange older) (sym c.as_slice.ensures.value) ready.left)
    ∙ ap (λ (hs : List (Option NumberedState)). entered (heads_in (read_heads older hs) first) (read_state older start))
    c.as_slice.ensures.value in
    let mid = c.resume_round.new in
    let now = c.resume_rounds.new in
    let end = c.in-Ok-copied.left in
    let k = c.in-Ok-resume_round.ensures in
    let m = c.in-Ok-resume_rounds.ensures in
    let within : first < length (read_heads older old) = omega (arith, heads-long older old) in
    let round =
    subst (λ (n : ℕ). IsRound g body c.args.context.now.locked n (read_state older c.enter.new.state)
    (read_state mid.table mid.state) (read_heads older old) (read_heads mid.table mid.heads.items)
    (Ok (c.in-Ok-resume_round.next, c.in-Ok-resume_round.changed))) c.in-Ok.ensures k.resumed in
    let rounds =
    subst (λ (n : ℕ). AreResumedRounds g body c.args.context.now.locked n (c.rounds-rounds.result - 1)
    (read_state mid.table mid.state) (read_state now.table now.state)
    (read_heads mid.table mid.heads.items) (read_heads now.table now.heads.items) (Ok tt)) c.in-Ok.ensures m.resumed in
    record {
      resumed =
          loop_left g body c.args.context.now.locked first c.in-Ok-resume_round.next c.rounds-rounds.result
          (read_state older start)
          (read_state older c.enter.new.state) (read_state mid.table mid.state) (read_state now.table now.state)
          (read_heads older old) (read_heads mid.table mid.heads.items) (read_heads now.table now.heads.items)
          (read_heads now.table (slice_set now.heads.items first (Some end))) c.in-Ok-resume_round.changed
          (rounds-read older start c.rounds-rounds.result c.rounds-rounds.ensures) within
          begun round c.if-not-changed.false rounds
          (loop-put now.table now.heads.items first m.numbers.left now.state end c.in-Ok-copied.ensures);
      numbers =
          loop-in now.table now.heads.items first m.numbers.left now.state end m.numbers.once m.numbers.state
          c.in-Ok-copied.ensures;
      table = goes_on-trans older mid.table now.table k.table m.table;
    }

pub resume_round-returns : goal.resume_round-returns
resume_round-returns t c =
    let older = c.args.table.now in
    let new = c.resume.new in
    let m = c.in-Ok-resume.ensures in
    let goes = not-false c.in-Ok-resume.passed.goes_on c.if-not-passed.false in
    let met = c.meet-changed in
    let start = c.args.state.now in
    let still = state-still older new.table m.table start c.requires.numbers.state in
    record {
      resumed =
          round-met (given c.args.context.now) (tree_of c.args.body.now) c.args.context.now.locked c.args.first older
          new.table
          m.table
          start c.in-Ok.end new.state c.args.heads.now.items new.heads.items c.in-Ok-resume.passed
          c.in-Ok.ensures c.requires.numbers.state m.resumed m.numbers.once m.numbers.state met.new.self met.result goes
          met.ensures.state met.ensures.changed;
      numbers =
          record {
            once = m.numbers.once;
            state =
                subst (AreInRange new.table) (sym met.ensures.state) (met-in new.table start new.state still);
            left = m.numbers.left;
          };
      table = m.table;
    }

-- ---- parts

pub resume_through-loop-index-init : goal.resume_through-loop-index-init
resume_through-loop-index-init t c =
    record {
      same = refl;
      number = refl;
      long = refl;
      numbers = c.requires.numbers;
      on = goes_on-same c.args.table.now;
    }

pub resume_through-loop-index-preserved : goal.resume_through-loop-index-preserved
resume_through-loop-index-preserved t c =
    let g = given c.args.context.now in
    let at = c.loop-index in
    let i = at.index in
    let parts = c.args.parts.now in
    let part : Code = c.index-parts-index.result in
    let rest = in_sequence (map tree_of (drop (i + 1) parts)) in
    let all = in_sequence (map tree_of parts) in
    let older = c.args.table.now in
    let new = c.resume.new in
    let begin = read_heads older c.args.heads.now.items in
    let start = read_state older c.args.state.now in
    let k = c.in-Ok.ensures in
    let p = c.in-Ok.passed in
    let hs = read_heads at.table at.heads.items in
    let later = read_heads new.table new.heads.items in
    let whole = in_sequence (map tree_of (drop i parts)) in
    let same : whole ≡ Seq (tree_of part) rest = parts-turn parts i part c.loop-index-test.true c.index-parts-index.is
    in
    record {
      same =
          through-more g (tree_of part) rest whole c.args.context.now.locked at.number c.args.first
          (read_state at.table at.state)
          (read_state new.table new.state) start hs later begin p same k.resumed all
          (not-false p.goes_on c.if-not-passed.false) at.invariant.same;
      number =
          through-number g (tree_of part) rest whole c.args.context.now.locked at.number c.args.first
          (read_state at.table at.state)
          (read_state new.table new.state) start hs later begin p same k.resumed all at.invariant.number;
      long =
          long-back at.table new.table at.heads.items new.heads.items k.resumed.2.1 ∙ at.invariant.long;
      numbers = k.numbers;
      on = goes_on-trans older at.table new.table at.invariant.on k.table;
    }

pub resume_through-returns-then-not-passed : goal.resume_through-returns-then-not-passed
resume_through-returns-then-not-passed t c =
    let g = given c.args.context.now in
    let at = c.loop-index in
    let i = at.index in
    let parts = c.args.parts.now in
    let part : Code = c.index-parts-index.result in
    let rest = in_sequence (map tree_of (drop (i + 1) parts)) in
    let all = in_sequence (map tree_of parts) in
    let whole = in_sequence (map tree_of (drop i parts)) in
    let older = c.args.table.now in
    let new = c.resume.new in
    let k = c.in-Ok.ensures in
    let p = c.in-Ok.passed in
    let same : whole ≡ Seq (tree_of part) rest = parts-turn parts i part c.loop-index-test.true c.index-parts-index.is
    in
    record {
      resumed =
          through-passed g all c.args.context.now.locked at.number c.args.first (read_state at.table at.state)
          (read_state older c.args.state.now) (read_heads at.table at.heads.items)
          (read_heads older c.args.heads.now.items)
          (tree_of part) rest whole (read_state new.table new.state) (read_heads new.table new.heads.items) p
          c.pass_over.result same k.resumed (not-true p.goes_on c.if-not-passed.true) at.invariant.number
          (long-read older at.table c.args.heads.now.items at.heads.items at.invariant.long) at.invariant.same
          (passed-behind _ (drop (i + 1) parts) p.next c.pass_over.result c.pass_over.ensures
          (take_all (length parts - (i + 1)) (drop (i + 1) parts) (omega (arith, length-drop (i + 1) parts))));
      numbers = always c.pass_over.result (IsResumedIn new.table new.state new.heads.items) k.numbers;
      table =
          always c.pass_over.result (GoesOn older new.table)
          (goes_on-trans older at.table new.table at.invariant.on k.table);
    }

pub resume_through-returns : goal.resume_through-returns
resume_through-returns t c =
    let at = c.loop-index in
    let parts = c.args.parts.now in
    let all = in_sequence (map tree_of parts) in
    let older = c.args.table.now in
    let rest = in_sequence (map tree_of (drop at.index parts)) in
    record {
      resumed =
          through-done (given c.args.context.now) all c.args.context.now.locked at.number c.args.first
          (read_state at.table at.state)
          (read_state older c.args.state.now) (read_heads at.table at.heads.items)
          (read_heads older c.args.heads.now.items)
          rest (at_drop_all (λ ps. in_sequence (map tree_of ps)) parts at.index (omega arith)) at.invariant.same
          at.invariant.number
          (long-read older at.table c.args.heads.now.items at.heads.items at.invariant.long);
      numbers = at.invariant.numbers;
      table = at.invariant.on;
    }

-- ---- a piece of code

pub resume-returns-in-Ok : goal.resume-returns-in-Ok
resume-returns-in-Ok t c =
    let older = c.args.table.now in
    let new = c.move_any.new in
    let hs = c.args.heads.now.items in
    let k = c.in-Ok.ensures in
    let is : tree_of c.args.code.now ≡ Op c.in-Op.field-0 c.in-Op.field-1 c.in-Op.op = search (rules, the_lemmas) in
    let ready = c.requires.numbers in
    record {
      resumed =
          subst (λ (code : Tree). IsResumed (given c.args.context.now) code c.args.context.now.locked c.args.first
          (read_state older c.args.state.now) (read_state new.table new.state) (read_heads older hs)
          (read_heads new.table hs)
          (Ok (record { next = c.args.first; goes_on = c.in-Ok.goes_on }))) (sym is)
          (op-resumed (given c.args.context.now) c.in-Op.field-0 c.in-Op.field-1 c.in-Op.op c.args.context.now.locked
          c.args.first older
          new.table c.args.state.now new.state hs c.in-Ok.goes_on k.table ready.left k.next);
      numbers = record { once = k.once; state = k.numbers; left = heads-still older new.table k.table hs ready.left };
      table = k.table;
    }

pub resume-resume-requires : goal.resume-resume-requires
resume-resume-requires t c =
    let code = tree_of c.args.code.now in
    let left = tree_of c.deref.result.now in
    let right = tree_of c.in-Choice.right.value in
    let older = c.args.table.now in
    let hs = c.args.heads.now.items in
    let ready = c.requires.numbers in
    let sides : code ≡ Choice left right = search (rules, the_lemmas) in
    let room : c.args.first + (loops left + loops right) ≤ length hs =
    subst (λ (part : Tree). c.args.first + loops part ≤ length hs) sides c.requires.room in
    let enough : c.args.first + loops left ≤ length hs = omega arith in (
      search (rules, sizes, the_size, the_lemmas, c.in-Choice.is, c.deref.ensures, c.decreases),
      (
        enough,
        record {
          once = ready.once;
          state = lifted-in code (reverse c.in-Ok-lifted.under.items) c.args.state.now c.lifted.new.state
              c.in-Ok-lifted.ensures older ready.state;
          left = ready.left;
        },
      ),
    )

pub resume-resume-requires-in-Choice : goal.resume-resume-requires-in-Choice
resume-resume-requires-in-Choice t c =
    let code = tree_of c.args.code.now in
    let left = tree_of c.deref.result.now in
    let right = tree_of c.deref-in-Choice.result.now in
    let older = c.args.table.now in
    let low = c.lifted.new.state in
    let in_low =
    lifted-in code (reverse c.in-Ok-lifted.under.items) c.args.state.now low c.in-Ok-lifted.ensures older
    c.requires.numbers.state in
    let hs = c.args.heads.now.items in
    let one = c.resume.new in
    let l = c.in-Ok-resume.ensures in
    let p = c.in-Ok-resume.one in
    let sides : code ≡ Choice left right = search (rules, the_lemmas) in
    let room : c.args.first + (loops left + loops right) ≤ length hs =
    subst (λ (part : Tree). c.args.first + loops part ≤ length hs) sides c.requires.room in (
      search (rules, sizes, the_size, the_lemmas, c.in-Choice.is, c.deref-in-Choice.ensures, c.decreases),
      (
        room-right c.args.first (loops left) (loops right) (length hs) p.next (length one.heads.items) room l.resumed.1
            (long-back older one.table hs one.heads.items l.resumed.2.1),
        record {
          once = l.numbers.once;
          state = copied-in older one.table l.table low c.in-Ok-copied.other c.in-Ok-copied.ensures in_low;
          left = l.numbers.left;
        },
      ),
    )

pub resume-returns-in-Ok-lower : goal.resume-returns-in-Ok-lower
resume-returns-in-Ok-lower t c =
    let g = given c.args.context.now in
    let code = tree_of c.args.code.now in
    let left = tree_of c.deref.result.now in
    let right = tree_of c.deref-in-Choice.result.now in
    let older = c.args.table.now in
    let start = c.args.state.now in
    let low = c.lifted.new.state in
    let under = reverse c.in-Ok-lifted.under.items in
    let ready = c.requires.numbers.state in
    let in_low = lifted-in code under start low c.in-Ok-lifted.ensures older ready in
    let hs = c.args.heads.now.items in
    let one = c.resume.new in
    let two = c.resume-in-Choice.new in
    let end = c.meet_ends-goes_on in
    let last = c.lower.new.self in
    let l = c.in-Ok-resume.ensures in
    let r = c.in-Ok-resume-2.ensures in
    let p = c.in-Ok-resume.one in
    let q = c.in-Ok-resume-2.two in
    let made : Passed = record { next = q.next; goes_on = end.result } in
    let still = state-still one.table two.table r.table one.state l.numbers.state in
    let on = goes_on-trans older one.table two.table l.table r.table in
    let sides : code ≡ Choice left right = search (rules, the_lemmas) in
    record {
      resumed =
          lowered-resumed code under start low c.in-Ok-lifted.ensures older ready two.table on end.new.state last g
          c.args.context.now.locked c.args.first (read_heads older hs) (read_heads two.table two.heads.items) made
          (subst (λ (part : Tree). IsResumed g part c.args.context.now.locked c.args.first (read_state older low)
          (read_state two.table end.new.state) (read_heads older hs) (read_heads two.table two.heads.items) (Ok made))
          (sym sides)
          (choice-resumed g left right c.args.context.now.locked c.args.first older one.table two.table l.table r.table
          low
          c.in-Ok-copied.other one.state two.state end.new.state hs one.heads.items two.heads.items p q end.result
          c.in-Ok-copied.ensures in_low l.numbers.state l.resumed r.resumed
          (end.ensures.next two.table r.numbers.once still r.numbers.state)))
          c.in-Ok-lower.ensures;
      numbers =
          record {
            once = r.numbers.once;
            state =
                lowered-in code under start low c.in-Ok-lifted.ensures older ready two.table on end.new.state last
                (end.ensures.numbers two.table r.numbers.once still r.numbers.state) c.in-Ok-lower.ensures;
            left = r.numbers.left;
          };
      table = on;
    }

pub resume-returns-in-Sync : goal.resume-returns-in-Sync
resume-returns-in-Sync t c =
    let g = given c.args.context.now in
    let table = c.args.table.now in
    let start = c.args.state.now in
    let lock : LockAt = record { place = c.in-Sync.field-0; kind = c.in-Sync.field-1 } in
    let body = tree_of c.deref-in-Sync.result.now in
    let is : tree_of c.args.code.now ≡ Sync lock body = search (rules, the_lemmas) in
    let done = c.resume-in-Sync in
    let here = read_state done.new.table done.new.state in
    let hs = read_heads table c.args.heads.now.items in
    let later = read_heads done.new.table done.new.heads.items in
    let m = done.ensures in
    record {
      resumed =
          subst (λ (code : Tree). IsResumed g code c.args.context.now.locked c.args.first (read_state table start) here
          hs later
          done.result) (sym is)
          (sync-resumed g lock body c.args.context.now.locked c.args.first table start here hs later done.result
          (subst (λ (s : NumberedState). IsResumed g body true c.args.first (read_state table s) here hs later
          done.result) c.pop.ensures.rest
          (subst (λ (x : MethodContext). IsResumed (given x) body x.locked c.args.first
          (read_state table c.pop.new.self)
          here hs later done.result) c.under_lock-within.ensures m.resumed)));
      numbers = m.numbers;
      table = m.table;
    }

pub resume-returns-in-Seq : goal.resume-returns-in-Seq
resume-returns-in-Seq t c =
    let older = c.args.table.now in
    let new = c.resume_through.new in
    let m = c.resume_through.ensures in
    let is : tree_of c.args.code.now ≡ in_sequence (map tree_of c.as_slice.result.now) =
    search (rules, the_lemmas) in
    record {
      resumed =
          subst (λ (code : Tree). IsResumed (given c.args.context.now) code c.args.context.now.locked c.args.first
          (read_state older c.args.state.now) (read_state new.table new.state) (read_heads older c.args.heads.now.items)
          (read_heads new.table new.heads.items) c.resume_through.result) (sym is) m.resumed;
      numbers = m.numbers;
      table = m.table;
    }

pub resume-returns-in-Loop : goal.resume-returns-in-Loop
resume-returns-in-Loop t c =
    let older = c.args.table.now in
    let new = c.resume_loop.new in
    let m = c.resume_loop.ensures in
    let is : tree_of c.args.code.now ≡ Loop (tree_of c.deref-in-Loop.result.now) = search (rules, the_lemmas) in
    record {
      resumed =
          subst (λ (code : Tree). IsResumed (given c.args.context.now) code c.args.context.now.locked c.args.first
          (read_state older c.args.state.now) (read_state new.table new.state) (read_heads older c.args.heads.now.items)
          (read_heads new.table new.heads.items) c.resume_loop.result) (sym is) m.resumed;
      numbers = m.numbers;
      table = m.table;
    }
