use Rattle.std.proofs.Common.{◌≡◌, ◌+◌, ◌-◌, suc, ℕ, replicate, None, Option, List, sym, ap, ◌∙◌, subst, arith}
use Rattle.access_paths.proofs.Numbers.{goes_on-same, goes_on-trans}
use Rattle.owner_domain.specs.declared.numbered.NumberedState.{NumberedState}
use Rattle.owner_domain.specs.Numbered.{read_state}
use Rattle.core_code.specs.Tree.{tree_of}
use Rattle.access_domain.specs.Flow.{flow}
use Rattle.transfer_loops.specs.Rounds.{rounds_of}
use Rattle.transfer_steps.specs.Contexts.{given}
use Rattle.transfer_steps.specs.Numbered.{read_found, read_heads, AreHeadsInRange}
use Rattle.transfer.proofs.Ways.{AreRounds, rounds-begin, rounds-step}
use Rattle.transfer_steps.proofs.HeadsRead.{none-read, none-in, rounds-read}
use Rattle.transfer.proofs.Rounding.{rounds-settled, rounds-done, rounds-stopped}
use Rattle.transfer.proofs.HighEnough.{first_heads}
use Rattle.transfer.proofs.walk.go_through_rounds.Goals as goal

pub loop-round-init : goal.loop-round-init
loop-round-init c =
    let table = c.args.notes.now.table in
    let start = read_state table c.args.state.now in
    let found = read_found table c.args.notes.now.found in
    let body = flow (given c.args.context.now) (tree_of c.args.body.now) c.args.context.now.locked in
    let total = rounds_of start in
    let all : total ≡ total - 0 = omega arith in
    let heads : List (Option NumberedState) = c.in-Ok-no_heads.heads.items in
    let none : heads ≡ replicate c.in-Ok.count None = c.in-Ok-no_heads.ensures in
    record {
      rounds = subst (λ (left : ℕ). AreRounds body total left start start found found) all
          (rounds-begin body total start found);
      high = c.requires.high;
      sound = first_heads (given c.args.context.now) (tree_of c.args.body.now) c.args.context.now.locked
          (read_heads table heads) start
          (ap (read_heads table) none ∙ none-read table c.in-Ok.count ∙ ap (λ n. replicate n None) c.in-Ok.ensures);
      numbers = c.requires.numbers;
      heads = subst (AreHeadsInRange table) (sym none) (none-in table c.in-Ok.count);
      on = goes_on-same table;
    }

pub loop-round-preserved : goal.loop-round-preserved
loop-round-preserved c =
    let start = read_state c.args.notes.now.table c.args.state.now in
    let body = flow (given c.args.context.now) (tree_of c.args.body.now) c.args.context.now.locked in
    let total = rounds_of start in
    let at = c.loop-round in
    let now = at.notes in
    let new = c.go_round.new.notes in
    let same = rounds-read c.args.notes.now.table c.args.state.now c.rounds-round-end.result c.rounds-round-end.ensures
    in
    let one : total - at.round ≡ suc (total - (at.round + 1)) = omega (arith, c.loop-round-test.true, same) in
    record {
      rounds =
          rounds-step body total (total - at.round) (total - (at.round + 1)) start (read_state now.table at.state)
          (read_state new.table c.go_round.new.state) (read_found c.args.notes.now.table c.args.notes.now.found)
          (read_found now.table now.found)
          (read_found new.table new.found) one at.invariant.rounds c.in-Ok-true.ensures.state
          c.in-Ok-true.ensures.found;
      high = c.in-Ok-true.ensures.high;
      sound = c.in-Ok-true.ensures.sound;
      numbers = c.in-Ok-true.ensures.numbers;
      heads = c.in-Ok-true.ensures.heads;
      on = goes_on-trans c.args.notes.now.table now.table new.table at.invariant.on c.in-Ok-true.ensures.table;
    }

pub returns-in-Err : goal.returns-in-Err
returns-in-Err c =
    let start = read_state c.args.notes.now.table c.args.state.now in
    let body = flow (given c.args.context.now) (tree_of c.args.body.now) c.args.context.now.locked in
    let total = rounds_of start in
    let at = c.loop-round in
    let now = at.notes in
    let new = c.go_round.new.notes in
    let same = rounds-read c.args.notes.now.table c.args.state.now c.rounds-round-end.result c.rounds-round-end.ensures
    in
    let one : total - at.round ≡ suc (total - (at.round + 1)) = omega (arith, c.loop-round-test.true, same) in
    record {
      rounds =
          rounds-stopped body (total - at.round) (total - (at.round + 1)) start (read_state now.table at.state)
          (read_state new.table c.go_round.new.state) (read_found c.args.notes.now.table c.args.notes.now.found)
          (read_found now.table now.found)
          (read_found new.table new.found) c.in-Err.stop one at.invariant.rounds c.in-Err.ensures.found;
      numbers = tt;
      table = tt;
    }

pub returns-in-Ok-false : goal.returns-in-Ok-false
returns-in-Ok-false c =
    let start = read_state c.args.notes.now.table c.args.state.now in
    let body = flow (given c.args.context.now) (tree_of c.args.body.now) c.args.context.now.locked in
    let total = rounds_of start in
    let at = c.loop-round in
    let now = at.notes in
    let new = c.go_round.new.notes in
    let same = rounds-read c.args.notes.now.table c.args.state.now c.rounds-round-end.result c.rounds-round-end.ensures
    in
    let one : total - at.round ≡ suc (total - (at.round + 1)) = omega (arith, c.loop-round-test.true, same) in
    record {
      rounds =
          rounds-settled body (total - at.round) (total - (at.round + 1)) start (read_state now.table at.state)
          (read_state new.table c.go_round.new.state) (read_found c.args.notes.now.table c.args.notes.now.found)
          (read_found now.table now.found)
          (read_found new.table new.found) one at.invariant.rounds c.in-Ok-false.ensures.state
          (c.in-Ok-false.ensures.unchanged c.in-Ok-false.field-0-test) c.in-Ok-false.ensures.found;
      numbers = c.in-Ok-false.ensures.numbers;
      table = goes_on-trans c.args.notes.now.table now.table new.table at.invariant.on c.in-Ok-false.ensures.table;
    }

pub returns : goal.returns
returns c =
    let start = read_state c.args.notes.now.table c.args.state.now in
    let body = flow (given c.args.context.now) (tree_of c.args.body.now) c.args.context.now.locked in
    let total = rounds_of start in
    let at = c.loop-round in
    let now = at.notes in
    let same = rounds-read c.args.notes.now.table c.args.state.now c.rounds-round-end.result c.rounds-round-end.ensures
    in
    let none : total - at.round ≡ 0 = omega (arith, c.loop-round-test.false, same) in
    record {
      rounds =
          rounds-done body (total - at.round) start (read_state now.table at.state)
          (read_found c.args.notes.now.table c.args.notes.now.found) (read_found now.table now.found) none
          at.invariant.rounds;
      numbers = at.invariant.numbers;
      table = at.invariant.on;
    }
