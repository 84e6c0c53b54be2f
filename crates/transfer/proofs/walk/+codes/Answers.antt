use Rattle.std.proofs.Common.{◌≡◌, ◌+◌, map, drop, reverse, Bool}
use Rattle.std.proofs.Common.{true, false, Ok, Err, refl, sym, ap}
use Rattle.std.proofs.Common.{subst, ◌∙◌, arith, rules}
use Rattle.std.proofs.lemmas.List.{at_drop_all}
use Rattle.access_paths.specs.Table.{GoesOn}
use Rattle.access_paths.proofs.Numbers.{goes_on-same, goes_on-trans}
use Rattle.owner_domain.specs.declared.numbered.NumberedState.{NumberedState}
use Rattle.owner_domain.specs.Numbered.{read_state}
use Rattle.core_code.specs.declared.code.Code.TheFolds.{the_lemmas}
use Rattle.core_code.proofs.code.Code.TheLaws.{the_size}
use borrow.Author.Sizes.{sizes}
use Rattle.core_code.specs.Tree.{LockAt, Tree, Op, Seq, Choice, Loop, Sync, tree_of, in_sequence}
use Rattle.core_code.proofs.PartsLeft.{parts-turn}
use Rattle.access_domain.specs.Flow.{flow}
use Rattle.transfer_steps.specs.declared.operations.MethodContext.{MethodContext}
use Rattle.transfer_steps.specs.Contexts.{given, flow_in}
use Rattle.transfer_steps.specs.Marks.{IsStopped}
use Rattle.transfer_steps.specs.NotedCalls.{AreFound}
use Rattle.transfer_steps.specs.Noting.{IsWalked}
use Rattle.transfer_steps.specs.Numbered.{read_found, read_calls, AreCallNumbers}
use Rattle.transfer_steps.specs.Walks.{IsFlow, next_of}
use Rattle.transfer.proofs.Ways.{flow-then, flow-ended, stopped-after, stopped-left, stopped_lost}
use Rattle.transfer.specs.Heights.{IsHighEnough}
use Rattle.transfer.proofs.HighEnough.{high_rest, high_left, high_right}
use Rattle.transfer_steps.proofs.Marking.{noted-nothing}
use Rattle.transfer_steps.proofs.CallsRead.{calls-still}
use Rattle.transfer_steps.proofs.Noting.{walk-ready}
use Rattle.transfer.proofs.WalkedNumbers.{copied-high, copied-ready, held-flow}
use Rattle.transfer.proofs.WalkedNumbers.{right-stopped, ways-met, ways-numbers, ways-called}
use Rattle.transfer_steps.proofs.Longer.{always}
use Rattle.transfer.proofs.WalkedNumbers.{body-high, body-ready, body-found, loop-done, loop-stopped, loop-numbers}
use Rattle.transfer.proofs.Lowered.{lifted-in, lifted-ready, lifted-stopped}
use Rattle.transfer.proofs.Lowered.{lowered-flow, lowered-numbers, lowered-same}
use Rattle.transfer.proofs.walk.+codes.Goals as goal

pub walk_code-returns-in-Err : goal.walk_code-returns-in-Err
walk_code-returns-in-Err t c =
    let g = given c.args.context.now in
    let left = tree_of c.deref.result.now in
    let right = tree_of c.in-Choice.right.value in
    let older = c.args.walk.now.notes.table in
    let low = c.lifted.new.state in
    let found = read_found older c.args.walk.now.notes.found in
    let sides : tree_of c.args.code.now ≡ Choice left right = search (rules, the_lemmas) in
    record {
      flow =
          lifted-stopped (tree_of c.args.code.now)
          (reverse c.in-Ok.under.items) c.args.state.now low c.in-Ok.ensures older
          c.requires.ready.numbers.state g c.args.context.now.locked found c.in-Err.stop
          (subst (λ (code : Tree). IsStopped found (flow g code c.args.context.now.locked (read_state older low))
          c.in-Err.stop)
          (sym sides)
          (stopped-left (flow g left c.args.context.now.locked (read_state older low))
          (flow g right c.args.context.now.locked (read_state older low))
          found c.in-Err.stop c.in-Err.ensures.flow));
      ready = tt;
      table = tt;
    }

pub walk_code-returns-in-Err-walk_code : goal.walk_code-returns-in-Err-walk_code
walk_code-returns-in-Err-walk_code t c =
    let g = given c.args.context.now in
    let code = tree_of c.args.code.now in
    let left = tree_of c.deref.result.now in
    let right = tree_of c.deref-in-Choice.result.now in
    let older = c.args.walk.now.notes.table in
    let start = c.args.state.now in
    let low = c.lifted.new.state in
    let under = reverse c.in-Ok.under.items in
    let ready = c.requires.ready.numbers.state in
    let found = read_found older c.args.walk.now.notes.found in
    let one = c.walk_code.new.walk.notes in
    let stop = c.in-Err-walk_code.stop in
    let sides : code ≡ Choice left right = search (rules, the_lemmas) in
    record {
      flow =
          lifted-stopped code under start low c.in-Ok.ensures older ready g c.args.context.now.locked found stop
          (subst (λ (part : Tree). IsStopped found (flow g part c.args.context.now.locked (read_state older low)) stop)
          (sym sides)
          (right-stopped g left right c.args.context.now.locked older one.table c.in-Ok-walk_code.ensures.table low
          c.in-Ok-copied.other c.args.walk.now.notes.found one.found c.in-Ok-copied.ensures
          (lifted-in code under start low c.in-Ok.ensures older ready) stop c.in-Ok-walk_code.ensures.flow.1
          c.in-Err-walk_code.ensures.flow));
      ready = tt;
      table = tt;
    }

pub walk_code-returns-in-Ok-walk_code-2 : goal.walk_code-returns-in-Ok-walk_code-2
walk_code-returns-in-Ok-walk_code-2 t c =
    let g = given c.args.context.now in
    let code = tree_of c.args.code.now in
    let left = tree_of c.deref.result.now in
    let right = tree_of c.deref-in-Choice.result.now in
    let locked = c.args.context.now.locked in
    let older = c.args.walk.now.notes.table in
    let start = c.args.state.now in
    let low = c.lifted.new.state in
    let under = reverse c.in-Ok.under.items in
    let f0 = c.args.walk.now.notes.found in
    let one = c.walk_code.new.walk.notes in
    let two = c.walk_code-in-Choice.new.walk.notes in
    let calls = c.walk_code-in-Choice.new.walk.calls in
    let end = c.join_ends-joined in
    let l = c.in-Ok-walk_code.ensures in
    let r = c.in-Ok-walk_code-2.ensures in
    let ready = c.requires.ready.numbers.state in
    let in_low = lifted-in code under start low c.in-Ok.ensures older ready in
    let other = c.in-Ok-copied.other in
    let same = c.in-Ok-copied.ensures in
    let on : GoesOn older two.table = goes_on-trans older one.table two.table l.table r.table in
    let last = c.lowered.new.state in
    let sides : code ≡ Choice left right = search (rules, the_lemmas) in
    record {
      flow =
          lowered-flow code under start low c.in-Ok.ensures older ready two.table on end.new.state last end.result
          c.lowered.result c.lowered.ensures g locked (read_found older f0) (read_found two.table end.new.found)
          (subst (λ (part : Tree). IsFlow (flow g part locked (read_state older low))
          (read_state two.table end.new.state) (read_found older f0) (read_found two.table end.new.found) end.result)
          (sym sides)
          (ways-met g left right locked older one.table l.table low other f0 one.found same in_low two.table r.table
          c.walk_code.new.state c.walk_code-in-Choice.new.state end.new.state two.found end.new.found
          c.in-Ok-walk_code.goes_on
          c.in-Ok-walk_code-2.goes_on end.result l.ready.numbers r.ready.numbers l.flow r.flow end.ensures.state
          end.ensures.found));
      ready =
          walk-ready c.lowered.result g (record {
            notes = record { table = two.table; found = end.new.found };
            calls =
                calls;
          })
          last
          (lowered-numbers code under start low c.in-Ok.ensures older ready two.table on end.new.state last end.result
          c.lowered.result c.lowered.ensures end.new.found
          (ways-numbers g left right locked older one.table l.table low other f0 one.found same in_low two.table r.table
          c.walk_code.new.state c.walk_code-in-Choice.new.state end.new.state two.found end.new.found
          c.in-Ok-walk_code.goes_on c.in-Ok-walk_code-2.goes_on end.result l.ready.numbers r.ready.numbers
          end.ensures.numbers))
          (always c.lowered.result (AreCallNumbers two.table calls.keys) r.ready.calls.called)
          (lowered-same code under start low c.in-Ok.ensures older ready two.table on end.new.state last end.result
          c.lowered.result c.lowered.ensures
          (AreFound g (read_calls two.table calls.keys) (read_found two.table end.new.found))
          (ways-called g left right locked older one.table l.table low other f0 one.found same in_low two.table r.table
          c.walk_code.new.state c.walk_code-in-Choice.new.state end.new.state two.found end.new.found
          c.in-Ok-walk_code.goes_on c.in-Ok-walk_code-2.goes_on end.result l.ready.numbers r.ready.numbers calls.keys
          r.ready.calls.found end.ensures.found));
      table = always c.lowered.result (GoesOn older two.table) on;
    }

pub walk_code-returns-in-Loop : goal.walk_code-returns-in-Loop
walk_code-returns-in-Loop t c =
    let context = c.args.context.now in
    let new = c.repeat.new in
    let is : tree_of c.args.code.now ≡ Loop (tree_of c.deref-in-Loop.result.now) = search (rules, the_lemmas) in
    subst (λ (code : Tree). IsWalked (given context) (flow_in context code) c.args.walk.now c.args.state.now new.walk
    new.state c.repeat.result) (sym is) c.repeat.ensures

pub walk_code-returns-in-Op : goal.walk_code-returns-in-Op
walk_code-returns-in-Op t c =
    let context = c.args.context.now in
    let new = c.operate.new in
    let is : tree_of c.args.code.now ≡ Op c.in-Op.site c.in-Op.field-1 c.in-Op.op = search (rules, the_lemmas) in
    subst (λ (code : Tree). IsWalked (given context) (flow_in context code) c.args.walk.now c.args.state.now new.self
    new.state c.operate.result) (sym is) c.operate.ensures

pub walk_code-returns-in-Seq : goal.walk_code-returns-in-Seq
walk_code-returns-in-Seq t c =
    let context = c.args.context.now in
    let new = c.go_through.new in
    let is : tree_of c.args.code.now ≡ in_sequence (map tree_of c.as_slice.result.now) = search (rules, the_lemmas) in
    subst (λ (code : Tree). IsWalked (given context) (flow_in context code) c.args.walk.now c.args.state.now new.walk
    new.state c.go_through.result) (sym is) c.go_through.ensures

pub go_through-loop-part-init : goal.go_through-loop-part-init
go_through-loop-part-init t c =
    record {
      high = c.requires.high;
      leads = λ here new r flows. flows;
      ready = c.requires.ready;
      on = goes_on-same c.args.walk.now.notes.table;
    }

pub go_through-returns-in-Ok-false : goal.go_through-returns-in-Ok-false
go_through-returns-in-Ok-false t c =
    let g = given c.args.context.now in
    let at = c.loop-part in
    let now = at.walk.notes in
    let i = at.part-index in
    let parts = c.args.parts.now in
    let last = c.walk_code.new.walk.notes in
    let here = read_state now.table at.state in
    let found = read_found now.table now.found in
    let end = read_state last.table c.walk_code.new.state in
    let new = read_found last.table last.found in
    let m = c.in-Ok-false.ensures in
    record {
      flow =
          at.invariant.leads end new (Ok false)
          (subst (λ (code : Tree). IsFlow (flow g code c.args.context.now.locked here) end found new (Ok false))
          (sym (parts-turn parts i c.part-item.result c.loop-part-test.true c.part-item.is))
          (flow-ended (flow g (tree_of c.part-item.result) c.args.context.now.locked here)
          (flow g (in_sequence (map tree_of (drop (i + 1) parts))) c.args.context.now.locked) end found new
          (m.flow.0 ∙ ap (λ (b : Bool). next_of b end) c.in-Ok-false.field-0-test) m.flow.1));
      ready = m.ready;
      table = goes_on-trans c.args.walk.now.notes.table now.table last.table at.invariant.on m.table;
    }

pub go_through-returns-in-Err : goal.go_through-returns-in-Err
go_through-returns-in-Err t c =
    let g = given c.args.context.now in
    let at = c.loop-part in
    let now = at.walk.notes in
    let i = at.part-index in
    let parts = c.args.parts.now in
    let here = read_state now.table at.state in
    let found = read_found now.table now.found in
    record {
      flow =
          at.invariant.leads here (read_found c.walk_code.new.walk.notes.table c.walk_code.new.walk.notes.found)
          (Err c.in-Err.stop)
          (subst (λ (code : Tree). IsStopped found (flow g code c.args.context.now.locked here) c.in-Err.stop)
          (sym (parts-turn parts i c.part-item.result c.loop-part-test.true c.part-item.is))
          (stopped-after (flow g (tree_of c.part-item.result) c.args.context.now.locked here)
          (flow g (in_sequence (map tree_of (drop (i + 1) parts))) c.args.context.now.locked) found c.in-Err.stop
          c.in-Err.ensures.flow));
      ready = tt;
      table = tt;
    }

pub go_through-loop-part-preserved : goal.go_through-loop-part-preserved
go_through-loop-part-preserved t c =
    let g = given c.args.context.now in
    let at = c.loop-part in
    let now = at.walk.notes in
    let i = at.part-index in
    let parts = c.args.parts.now in
    let last = c.walk_code.new.walk.notes in
    let here = read_state now.table at.state in
    let found = read_found now.table now.found in
    let next_here = read_state last.table c.walk_code.new.state in
    let next_found = read_found last.table last.found in
    let first = tree_of c.part-item.result in
    let rest = in_sequence (map tree_of (drop (i + 1) parts)) in
    let same : in_sequence (map tree_of (drop i parts)) ≡ Seq first rest =
    parts-turn parts i c.part-item.result c.loop-part-test.true c.part-item.is in
    let m = c.in-Ok-true.ensures in
    let next = m.flow.0 ∙ ap (λ (b : Bool). next_of b next_here) c.in-Ok-true.field-0-test in
    record {
      high =
          high_rest g first rest c.args.context.now.locked here next_here
          (subst (λ (code : Tree). IsHighEnough code here) same at.invariant.high) next;
      leads = λ end new r k.
          at.invariant.leads end new r
          (subst (λ (code : Tree). IsFlow (flow g code c.args.context.now.locked here) end found new r) (sym same)
          (flow-then (flow g first c.args.context.now.locked here) (flow g rest c.args.context.now.locked) next_here end
          found next_found new r
          next m.flow.1 k));
      ready = m.ready;
      on = goes_on-trans c.args.walk.now.notes.table now.table last.table at.invariant.on m.table;
    }

pub go_through-returns : goal.go_through-returns
go_through-returns t c =
    let g = given c.args.context.now in
    let at = c.loop-part in
    let now = at.walk.notes in
    let parts = c.args.parts.now in
    let here = read_state now.table at.state in
    let found = read_found now.table now.found in
    record {
      flow =
          at.invariant.leads here found (Ok true)
          (subst (λ (code : Tree). IsFlow (flow g code c.args.context.now.locked here) here found found (Ok true))
          (sym (at_drop_all (λ ps. in_sequence (map tree_of ps)) parts at.part-index (omega arith)))
          (refl, noted-nothing found here));
      ready = at.invariant.ready;
      table = at.invariant.on;
    }

pub repeat-returns-in-Err : goal.repeat-returns-in-Err
repeat-returns-in-Err t c =
    let table = c.args.walk.now.notes.table in
    record {
      flow =
          stopped_lost (flow (given c.args.context.now) (tree_of c.args.body.now) c.args.context.now.locked)
          (read_state table c.args.state.now) (read_found table c.args.walk.now.notes.found) c.in-Err.stop
          c.in-Err.ensures.done.rounds.1;
      ready = tt;
      table = tt;
    }

pub repeat-walk_code-ended-requires : goal.repeat-walk_code-ended-requires
repeat-walk_code-ended-requires t c =
    let g = given c.args.context.now in
    let body = tree_of c.args.body.now in
    let older = c.args.walk.now.notes.table in
    let now = c.go_rounds.new.notes in
    let m = c.in-Ok.ensures in
    let end = c.in-Ok-copied.end in (
      search rules,
      (
        body-high g body c.args.context.now.locked older now.table m.done.table c.args.state.now c.go_rounds.new.state
            end c.args.walk.now.notes.found now.found
            c.in-Ok-copied.ensures m.done.rounds m.done.numbers m.high,
        record {
          numbers =
              body-ready g body c.args.context.now.locked older now.table m.done.table c.args.state.now
              c.go_rounds.new.state end c.args.walk.now.notes.found now.found c.in-Ok-copied.ensures m.done.rounds
              m.done.numbers;
          calls =
              record {
                called =
                    calls-still older now.table m.done.table c.args.walk.now.calls.keys
                    c.requires.ready.calls.called;
                found =
                    body-found g body c.args.context.now.locked older now.table m.done.table c.args.state.now
                    c.go_rounds.new.state end c.args.walk.now.notes.found now.found c.in-Ok-copied.ensures
                    m.done.rounds m.done.numbers c.args.walk.now.calls.keys c.requires.ready.calls.called
                    c.requires.ready.calls.found;
              };
        },
      ),
    )

pub repeat-returns-in-Ok-ended : goal.repeat-returns-in-Ok-ended
repeat-returns-in-Ok-ended t c =
    let g = given c.args.context.now in
    let body = tree_of c.args.body.now in
    let older = c.args.walk.now.notes.table in
    let now = c.go_rounds.new.notes in
    let m = c.in-Ok.ensures in
    let k = c.in-Ok-ended.ensures in
    let last = c.walk_code-ended.new.walk.notes in
    record {
      flow =
          loop-done g body c.args.context.now.locked older now.table m.done.table c.args.state.now c.go_rounds.new.state
          c.in-Ok-copied.end
          c.args.walk.now.notes.found now.found c.in-Ok-copied.ensures m.done.rounds m.done.numbers last.table k.table
          last.found k.flow.1;
      ready =
          record {
            numbers =
                loop-numbers g body c.args.context.now.locked older now.table m.done.table c.args.state.now
                c.go_rounds.new.state c.in-Ok-copied.end c.args.walk.now.notes.found now.found c.in-Ok-copied.ensures
                m.done.rounds m.done.numbers last.table k.table last.found c.walk_code-ended.new.state k.ready.numbers;
            calls = k.ready.calls;
          };
      table = goes_on-trans older now.table last.table m.done.table k.table;
    }

pub repeat-returns-in-Err-ended : goal.repeat-returns-in-Err-ended
repeat-returns-in-Err-ended t c =
    let g = given c.args.context.now in
    let body = tree_of c.args.body.now in
    let older = c.args.walk.now.notes.table in
    let now = c.go_rounds.new.notes in
    let m = c.in-Ok.ensures in
    record {
      flow =
          loop-stopped g body c.args.context.now.locked older now.table m.done.table c.args.state.now
          c.go_rounds.new.state c.in-Ok-copied.end
          c.args.walk.now.notes.found now.found c.in-Ok-copied.ensures m.done.rounds m.done.numbers c.in-Err-ended.stop
          c.in-Err-ended.ensures.flow;
      ready = tt;
      table = tt;
    }

pub walk_code-walk_code-requires : goal.walk_code-walk_code-requires
walk_code-walk_code-requires t c =
    let code = tree_of c.args.code.now in
    let left = tree_of c.deref.result.now in
    let right = tree_of c.in-Choice.right.value in
    let older = c.args.walk.now.notes.table in
    let low = c.lifted.new.state in
    let sides : code ≡ Choice left right = search (rules, the_lemmas) in (
      search (rules, sizes, the_size, the_lemmas, c.in-Choice.is, c.deref.ensures, c.decreases),
      (
        high_left left right (read_state older low)
            (subst (λ (part : Tree). IsHighEnough part (read_state older low)) sides
            (c.in-Ok.ensures.high older c.requires.high)),
        record {
          numbers =
              lifted-ready code (reverse c.in-Ok.under.items) c.args.state.now low c.in-Ok.ensures older
              c.requires.ready.numbers.state c.args.walk.now.notes.found c.requires.ready.numbers;
          calls = c.requires.ready.calls;
        },
      ),
    )

pub walk_code-walk_code-requires-in-Choice : goal.walk_code-walk_code-requires-in-Choice
walk_code-walk_code-requires-in-Choice t c =
    let code = tree_of c.args.code.now in
    let left = tree_of c.deref.result.now in
    let right = tree_of c.deref-in-Choice.result.now in
    let older = c.args.walk.now.notes.table in
    let low = c.lifted.new.state in
    let one = c.walk_code.new.walk.notes in
    let l = c.in-Ok-walk_code.ensures in
    let in_low =
    lifted-in code (reverse c.in-Ok.under.items) c.args.state.now low c.in-Ok.ensures older
    c.requires.ready.numbers.state in
    let other = c.in-Ok-copied.other in
    let same = c.in-Ok-copied.ensures in
    let sides : code ≡ Choice left right = search (rules, the_lemmas) in (
      search (rules, sizes, the_size, the_lemmas, c.in-Choice.is, c.deref-in-Choice.ensures, c.decreases),
      (
        copied-high older one.table l.table low other same in_low right
            (high_right left right (read_state older low)
            (subst (λ (part : Tree). IsHighEnough part (read_state older low)) sides
            (c.in-Ok.ensures.high older c.requires.high))),
        record {
          numbers =
              copied-ready older one.table l.table low other same in_low c.walk_code.new.state one.found
              l.ready.numbers;
          calls = l.ready.calls;
        },
      ),
    )

pub walk_code-returns-in-Sync : goal.walk_code-returns-in-Sync
walk_code-returns-in-Sync t c =
    let g = given c.args.context.now in
    let table = c.args.walk.now.notes.table in
    let start = c.args.state.now in
    let found = c.args.walk.now.notes.found in
    let lock : LockAt = record { place = c.in-Sync.field-0; kind = c.in-Sync.field-1 } in
    let body = tree_of c.deref-in-Sync.result.now in
    let is : tree_of c.args.code.now ≡ Sync lock body = search (rules, the_lemmas) in
    let walked = c.walk_code-in-Sync in
    let new = walked.new.walk.notes in
    let end = read_state new.table walked.new.state in
    let later = read_found new.table new.found in
    let m =
    subst (λ (x : MethodContext). IsWalked (given x) (flow_in x body) c.args.walk.now c.pop.new.self walked.new.walk
    walked.new.state walked.result) c.under_lock-within.ensures walked.ensures in
    record {
      flow =
          subst (λ (code : Tree). IsFlow (flow g code c.args.context.now.locked (read_state table start)) end
          (read_found table found) later walked.result) (sym is)
          (held-flow table start found c.requires.ready.numbers g lock body c.args.context.now.locked end later
          walked.result
          (subst (λ (s : NumberedState). IsFlow (flow g body true (read_state table s)) end (read_found table found)
          later walked.result) c.pop.ensures.rest m.flow));
      ready = m.ready;
      table = m.table;
    }
