use Rattle.std.proofs.Common.{true, Ok, sym, ◌∙◌}
use Rattle.owner_domain.specs.Numbered.{read_state}
use Rattle.access_domain.specs.Operations.{op_effects}
use Rattle.transfer_steps.specs.Contexts.{given}
use Rattle.transfer_steps.specs.Numbered.{read_found}
use Rattle.transfer_steps.proofs.Flows.{flow-quiet}
use Rattle.transfer_steps.proofs.Readings.{found-still}
use Rattle.transfer_steps.proofs.NumberedSteps.{flow-longer}
use Rattle.transfer_steps.proofs.notes.Notes.step.Goals as goal

pub returns : goal.returns
returns c =
    let g = given c.args.context.now in
    let locked = c.args.context.now.locked in
    let old = c.args.self.now in
    let new = c.move_on.new.table in
    let start = read_state old.table c.args.state.now in
    let here = read_state new c.move_on.new.state in
    let found = read_found new old.found in
    record {
      flow =
          flow-longer old.table new c.in-Ok.ensures.table old.found c.requires.numbers.noted
          (op_effects g locked c.args.site c.args.op start) here found (Ok true)
          (flow-quiet g locked c.args.site c.args.op start here found
          (sym c.is_quiet.ensures ∙ c.if-not-is_quiet.false) c.in-Ok.ensures.next);
      numbers =
          record {
            once = c.in-Ok.ensures.once;
            state = c.in-Ok.ensures.numbers;
            noted = found-still old.table new c.in-Ok.ensures.table old.found c.requires.numbers.noted;
          };
      table = c.in-Ok.ensures.table;
    }
