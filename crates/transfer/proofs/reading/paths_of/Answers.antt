use Rattle.std.proofs.Common.{length, get_or, sym, ap, ◌∙◌}
use Rattle.access_paths.specs.Order.{PathSet}
use Rattle.access_paths.proofs.Numbers.{number-at}
use Rattle.access_domain.specs.Additions.{paths_added}
use Rattle.access_domain.proofs.AdditionLemmas.{paths_added-empty}
use Rattle.call_subst.specs.Numbered.{read_paths, read_set}
use Rattle.transfer.proofs.ReadPaths.{number-in, numbers-in, numbers-turn, numbers-done}
use Rattle.transfer.proofs.reading.paths_of.Goals as goal

pub loop-number-init : goal.loop-number-init
loop-number-init c =
    let all = read_paths c.args.table.now c.args.numbers.now in
    record {
      made = ap (λ (made : PathSet). paths_added made all) c.new-made.ensures ∙ paths_added-empty all;
      numbers = c.requires;
    }

pub loop-number-preserved : goal.loop-number-preserved
loop-number-preserved c =
    let table = c.args.table.now in
    let numbers = c.args.numbers.now in
    let at = c.loop-number in
    let i = at.number-index in
    record {
      made =
          numbers-turn table numbers i 0 c.loop-number-test.true at.made c.add.new.self (read_set table numbers)
          c.in_ok-copied.field-0 c.add.result c.add.ensures.cases c.in-Added.is
          (c.in_ok-copied.ensures
          ∙ sym (number-at table (get_or numbers i 0) c.path_of.result.now c.path_of.ensures)) at.invariant.made;
      numbers = numbers-in (length table) numbers i at.invariant.numbers;
    }

pub path_of-requires : goal.path_of-requires
path_of-requires c =
    number-in c.args.table.now c.args.numbers.now c.loop-number.number-index 0 c.loop-number-test.true
    c.loop-number.invariant.numbers

pub returns : goal.returns
returns c =
    let table = c.args.table.now in
    let numbers = c.args.numbers.now in
    let at = c.loop-number in
    numbers-done table numbers at.number-index at.made (read_set table numbers) c.loop-number-test.false
    at.invariant.made
