use Rattle.std.proofs.Common.{sym, ap, subst, ◌∙◌}
use Rattle.access_paths.proofs.Numbers.{goes_on-trans}
use Rattle.owner_domain.specs.declared.numbered.NumberedState.{NumberedState}
use Rattle.owner_domain.specs.Numbered.{read_state, AreInRange}
use Rattle.owner_domain.specs.Values.{field_value}
use Rattle.access_domain.specs.Operations.{top}
use Rattle.transfer_steps.specs.Numbered.{read_found}
use Rattle.owner_domain.specs.Slots.{pushed_number, popped_numbers}
use Rattle.transfer_steps.proofs.Readings.{found-still, range-longer}
use Rattle.transfer_steps.proofs.SlotsRead.{popped-in}
use Rattle.transfer_steps.proofs.NumberedSteps.{store-stopped, names-stopped, store-flows, put-in, top-range}
use Rattle.transfer_steps.proofs.notes.Notes.put.Goals as goal

pub pop_field-requires-clause-numbers : goal.pop_field-requires-clause-numbers
pop_field-requires-clause-numbers c =
    subst (AreInRange c.args.self.now.table) (sym c.pop-value.ensures.rest)
    (popped-in c.args.self.now.table c.args.state.now 1 c.requires.numbers.state)

pub note_access-requires-clause-ready : goal.note_access-requires-clause-ready
note_access-requires-clause-ready c =
    let old = c.args.self.now in
    record {
      once = c.in-Ok.ensures.once;
      noted =
          found-still old.table c.pop_field.new.table c.in-Ok.ensures.table old.found c.requires.numbers.noted;
    }

pub returns-in-Err : goal.returns-in-Err
returns-in-Err c =
    let context = c.args.context.now in
    let old = c.args.self.now in
    record {
      flow =
          store-stopped context context.locked c.args.site c.args.f old.table c.pop_field.new.table
          c.in-Ok.ensures.table c.args.state.now old.found c.requires.numbers c.in-Ok.field
          (c.in-Ok.ensures.value
          ∙ ap (λ (s : NumberedState). field_value (top (read_state old.table s)) c.args.f) c.pop-value.ensures.rest)
          (read_found old.table old.found) c.in-Err.stop c.in-Err.ensures.found;
      numbers = tt;
      table = tt;
    }

pub returns-in-Err-note_store : goal.returns-in-Err-note_store
returns-in-Err-note_store c =
    let context = c.args.context.now in
    let old = c.args.self.now in
    let older = old.table in
    let newer = c.pop_field.new.table in
    let new = c.note_access.new.self in
    let newest = new.table in
    let here = c.args.state.now in
    let value = c.pop-value.result in
    let accessed = c.in-Ok-note_access.ensures in
    record {
      flow =
          names-stopped context context.locked c.args.site c.args.f older newer
          c.in-Ok.ensures.table here old.found c.requires.numbers c.in-Ok.field
          (c.in-Ok.ensures.value
          ∙ ap (λ (s : NumberedState). field_value (top (read_state older s)) c.args.f) c.pop-value.ensures.rest)
          newest accessed.table value c.pop-value.ensures.value c.in-Ok.ensures.range new.found accessed.found
          c.in-Err-note_store.stop
          (c.in-Err-note_store.ensures.found newest accessed.ready.once accessed.ready.noted
          (range-longer newer newest accessed.table c.in-Ok.field c.in-Ok.ensures.range)
          (range-longer older newest (goes_on-trans older newer newest c.in-Ok.ensures.table accessed.table) value
          (top-range older here value c.pop-value.ensures.value c.requires.numbers.state)));
      numbers = tt;
      table = tt;
    }

pub returns : goal.returns
returns c =
    let context = c.args.context.now in
    let old = c.args.self.now in
    let older = old.table in
    let newer = c.pop_field.new.table in
    let new = c.note_access.new.self in
    let newest = new.table in
    let here = c.args.state.now in
    let value = c.pop-value.result in
    let accessed = c.in-Ok-note_access.ensures in
    let on = goes_on-trans older newer newest c.in-Ok.ensures.table accessed.table in
    let pushed =
    c.in-Ok-push.ensures
    ∙ ap (λ (s : NumberedState). pushed_number s value)
    (c.pop_field.ensures.rest ∙ ap (λ (s : NumberedState). popped_numbers s 1) c.pop-value.ensures.rest) in
    let field_low = range-longer newer newest accessed.table c.in-Ok.field c.in-Ok.ensures.range in
    let value_low =
    range-longer older newest on value (top-range older here value c.pop-value.ensures.value c.requires.numbers.state)
    in
    record {
      flow =
          store-flows context context.locked c.args.site c.args.f older newer c.in-Ok.ensures.table here old.found
          c.requires.numbers c.in-Ok.field
          (c.in-Ok.ensures.value
          ∙ ap (λ (s : NumberedState). field_value (top (read_state older s)) c.args.f) c.pop-value.ensures.rest)
          newest accessed.table value c.pop-value.ensures.value c.in-Ok.ensures.range new.found accessed.found
          c.push.new.self pushed (read_found newest c.note_store.new.found)
          (c.in-Ok-note_store.ensures.found newest accessed.ready.once accessed.ready.noted field_low value_low);
      numbers =
          record {
            once = accessed.ready.once;
            state =
                put-in older newer newest c.in-Ok.ensures.table accessed.table here c.requires.numbers.state value
                c.pop-value.ensures.value c.push.new.self pushed;
            noted =
                c.in-Ok-note_store.ensures.numbers newest accessed.ready.once accessed.ready.noted field_low
                value_low;
          };
      table = on;
    }
