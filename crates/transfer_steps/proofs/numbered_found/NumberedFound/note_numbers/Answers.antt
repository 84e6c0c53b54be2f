use Rattle.std.proofs.Common.{◌<◌, List, ℕ, [], length, get_or}
use Rattle.call_subst.specs.Numbered.{read_paths}
use Rattle.transfer_steps.specs.Marks.{marks}
use Rattle.transfer_steps.specs.Numbered.{read_found}
use Rattle.transfer_steps.proofs.FoundNumbers.{below-at, numbers-led, numbers-ended, numbers-done}
use Rattle.transfer_steps.proofs.numbered_found.NumberedFound.note_numbers.Goals as goal

pub loop-number-init : goal.loop-number-init
loop-number-init c = λ table once found low. (λ new r m. m, found)

pub loop-number-preserved : goal.loop-number-preserved
loop-number-preserved c = λ table once found low.
    let numbers : List ℕ = c.args.numbers.now in
    let at = c.loop-number in
    let before = at.invariant table once found low in
    let below : get_or numbers at.number-index 0 < length table =
    below-at (length table) numbers at.number-index 0 c.loop-number-test.true low in (
      numbers-led table numbers at.number-index 0 c.loop-number-test.true (read_found table c.args.self.now)
          (read_found table at.self) (read_found table c.note_number.new.self)
          (marks [] (read_paths table numbers)) before.0 (c.in-Ok.ensures.found table once before.1 below),
      c.in-Ok.ensures.numbers table once before.1 below,
    )

pub returns-in-Err-clause-found : goal.returns-in-Err-clause-found
returns-in-Err-clause-found c = λ table once found low.
    let numbers : List ℕ = c.args.numbers.now in
    let at = c.loop-number in
    let before = at.invariant table once found low in
    numbers-ended table numbers at.number-index 0 c.loop-number-test.true (read_found table c.args.self.now)
    (read_found table at.self) (read_found table c.note_number.new.self) (marks [] (read_paths table numbers))
    c.in-Err.stop before.0
    (c.in-Err.ensures.found table once before.1
    (below-at (length table) numbers at.number-index 0 c.loop-number-test.true low))

pub returns-clause-found : goal.returns-clause-found
returns-clause-found c = λ table once found low.
    let numbers : List ℕ = c.args.numbers.now in
    let at = c.loop-number in
    numbers-done table numbers at.number-index c.loop-number-test.false (read_found table c.args.self.now)
    (read_found table at.self) (marks [] (read_paths table numbers)) (at.invariant table once found low).0
