use Rattle.std.proofs.Common.{sym, ◌∙◌}
use Rattle.std.proofs.lemmas.List.{length-map}
use Rattle.owner_domain.specs.Numbered.{read_value, read_state}
use Rattle.core_code.specs.Tree.{tree_of}
use Rattle.transfer_steps.specs.Contexts.{given}
use Rattle.transfer_steps.specs.Numbered.{read_found}
use Rattle.transfer.proofs.ShorterBodies.{rounds_whole, high_behind}
use Rattle.transfer.proofs.walk.go_rounds.Goals as goal

pub returns-clause-done : goal.returns-clause-done
returns-clause-done c =
    let old = c.args.notes.now in
    let done = c.go_through_rounds-done in
    let new = done.new.notes in
    record {
      rounds =
          rounds_whole (given c.args.context.now) c.args.context.now.locked c.height.result (tree_of c.in-Ok.short)
          (tree_of c.args.body.now) (read_state old.table c.args.state.now) (read_state new.table done.new.state)
          (read_found old.table old.found) (read_found new.table new.found) done.result
          (c.height.ensures ∙ sym (length-map c.args.state.now.stack (read_value old.table)))
          (record { next = c.in-Ok.ensures.next; height = c.in-Ok.ensures.height }) c.requires.high
          done.ensures.rounds;
      numbers = done.ensures.numbers;
      table = done.ensures.table;
    }

pub returns-clause-high : goal.returns-clause-high
returns-clause-high c =
    let old = c.args.notes.now in
    let done = c.go_through_rounds-done in
    let new = done.new.notes in
    high_behind (given c.args.context.now) c.args.context.now.locked (tree_of c.args.body.now)
    (read_state old.table c.args.state.now) (read_state new.table done.new.state) (read_found old.table old.found)
    (read_found new.table new.found) done.result c.requires.high (returns-clause-done c).rounds
