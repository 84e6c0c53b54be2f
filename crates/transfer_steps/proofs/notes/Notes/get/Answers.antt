use Rattle.std.proofs.Common.{Some, Ok, Err, sym, ap, ◌∙◌}
use Rattle.racer_base.specs.declared.ids.Touch.TheVariants.{Read}
use Rattle.access_paths.proofs.Numbers.{goes_on-trans}
use Rattle.owner_domain.specs.Numbered.{read_state}
use Rattle.access_domain.specs.Operations.{top}
use Rattle.transfer_steps.specs.Numbered.{read_found}
use Rattle.owner_domain.specs.Slots.{pushed_number}
use Rattle.transfer_steps.proofs.Readings.{found-still}
use Rattle.transfer_steps.proofs.NumberedSteps.{access-marked, get-state, get-in}
use Rattle.transfer_steps.proofs.notes.Notes.get.Goals as goal

pub note_access-requires-clause-ready : goal.note_access-requires-clause-ready
note_access-requires-clause-ready c =
    let old = c.args.self.now in
    record {
      once = c.in-Ok.ensures.once;
      noted =
          found-still old.table c.pop_field.new.table c.in-Ok.ensures.table old.found c.requires.numbers.noted;
    }

pub returns-in-Err : goal.returns-in-Err
returns-in-Err c =
    let context = c.args.context.now in
    let old = c.args.self.now in
    let new = c.note_access.new.self in
    record {
      flow =
          access-marked context Read context.locked c.args.site c.args.f old.table c.pop_field.new.table
          c.in-Ok.ensures.table old.found c.requires.numbers.noted c.in-Ok.value
          (top (read_state old.table c.args.state.now)) c.in-Ok.ensures.value
          {X = Unit {0}} (read_found new.table new.found) (Err c.in-Err.stop) c.in-Err.ensures.found;
      numbers = tt;
      table = tt;
    }

pub returns : goal.returns
returns c =
    let context = c.args.context.now in
    let old = c.args.self.now in
    let newer = c.pop_field.new.table in
    let new = c.note_access.new.self in
    let here = c.args.state.now in
    let read = c.in-Ok.ensures in
    let noted = c.in-Ok-note_access.ensures in
    let pushed =
    c.in-Ok-push.ensures ∙ (λ i. pushed_number (c.pop_field.ensures.rest i) (c.value_read.ensures i)) in
    record {
      flow = (
        ap Some (sym
            (get-state context c.args.f old.table newer new.table read.table noted.table here c.requires.numbers.state
            c.in-Ok.value read.range read.value c.touched_field-plain.result.plain c.touched_field-plain.ensures.plain
            c.push.new.self pushed)),
        access-marked context Read context.locked c.args.site c.args.f old.table newer read.table old.found
            c.requires.numbers.noted c.in-Ok.value (top (read_state old.table here)) read.value
            (read_found new.table new.found) (Ok c.in-Ok-note_access.field-0) noted.found,
      );
      numbers =
          record {
            once = noted.ready.once;
            state =
                get-in context c.args.f old.table newer new.table read.table noted.table here c.requires.numbers.state
                c.in-Ok.value read.range read.value c.touched_field-plain.result.plain
                c.touched_field-plain.ensures.plain c.push.new.self pushed;
            noted = noted.ready.noted;
          };
      table = goes_on-trans old.table newer new.table read.table noted.table;
    }
