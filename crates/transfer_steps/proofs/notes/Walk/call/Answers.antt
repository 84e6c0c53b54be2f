use Rattle.std.proofs.Common.{Some, None, sym, ap, ◌∙◌}
use Rattle.access_paths.proofs.Numbers.{goes_on-same, goes_on-trans}
use Rattle.owner_domain.specs.Numbered.{read_state}
use Rattle.access_domain.specs.declared.summary.Outcome.TheVariants as code
use Rattle.transfer_steps.specs.Contexts.{given}
use Rattle.transfer_steps.specs.Known.{findings_in}
use Rattle.transfer_steps.specs.Numbered.{read_found}
use Rattle.transfer_steps.proofs.CallsRead.{calls-still, calls-ready}
use Rattle.transfer_steps.proofs.CallSteps.{known-of, unread-flow, unread-numbers, large-call, made-in, call-ended, call-done}
use Rattle.transfer_steps.proofs.Readings.{found-still, state-still}
use Rattle.transfer_steps.proofs.notes.Walk.call.Goals as goal

pub note_call-requires-clause-actuals : goal.note_call-requires-clause-actuals
note_call-requires-clause-actuals c =
    let summary = c.in-Some-Summary.summary in
    made-in (given c.args.context.now) c.args.method (findings_in summary)
    (known-of c.args.context.now.callees.now c.args.method (Some (code.Summary summary))
    (sym (ap Some c.in-Some-Summary.field-0-is) ∙ c.in-Some-Summary.ensures))
    c.args.context.now.locked c.args.count c.args.self.now.notes.table c.pass.new.table c.in-Ok-pass.ensures.table
    c.args.state.now c.in-Ok-pass.made c.requires.ready.numbers.state c.in-Ok-pass.ensures.call

pub note_call-requires-clause-ready : goal.note_call-requires-clause-ready
note_call-requires-clause-ready c =
    let old = c.args.self.now.notes in
    record {
      once = c.in-Ok-pass.ensures.once;
      noted =
          found-still old.table c.pass.new.table c.in-Ok-pass.ensures.table old.found c.requires.ready.numbers.noted;
    }

pub note_call-requires-clause-calls : goal.note_call-requires-clause-calls
note_call-requires-clause-calls c =
    let old = c.args.self.now.notes in
    let keys = c.args.self.now.calls.keys in
    let new = c.pass.new.table in
    let on = c.in-Ok-pass.ensures.table in
    record {
      called = calls-still old.table new on keys c.requires.ready.calls.called;
      found =
          calls-ready old.table new on (given c.args.context.now) keys old.found c.requires.ready.calls.called
          c.requires.ready.numbers.noted c.requires.ready.calls.found;
    }

pub returns-in-Ok : goal.returns-in-Ok
returns-in-Ok c =
    let g = given c.args.context.now in
    let locked = c.args.context.now.locked in
    let old = c.args.self.now.notes in
    let new = c.replace.new.self in
    record {
      flow =
          unread-flow g locked c.args.site c.args.method c.args.count old.table c.args.state.now new c.in-Ok.ensures
          old.found (known-of c.args.context.now.callees.now c.args.method None c.in-None.ensures);
      ready =
          record {
            numbers =
                unread-numbers g locked c.args.site c.args.method c.args.count old.table c.args.state.now new
                c.in-Ok.ensures old.found c.requires.ready.numbers;
            calls = c.requires.ready.calls;
          };
      table = goes_on-same old.table;
    }

pub returns-in-Some-Large : goal.returns-in-Some-Large
returns-in-Some-Large c =
    let old = c.args.self.now.notes in
    record {
      flow =
          large-call (given c.args.context.now) c.args.context.now.locked c.args.site c.args.method c.args.count
          (read_state old.table c.args.state.now) (read_found old.table old.found)
          (known-of c.args.context.now.callees.now c.args.method (Some code.Large)
          (sym (ap Some c.in-Some-Large.field-0-is) ∙ c.in-Some-Large.ensures));
      ready = tt;
      table = tt;
    }

pub returns-in-Ok-note_call : goal.returns-in-Ok-note_call
returns-in-Ok-note_call c =
    let summary = c.in-Some-Summary.summary in
    let old = c.args.self.now.notes in
    let newer = c.pass.new.table in
    let new = c.note_call.new.self.notes in
    let passed = c.in-Ok-pass.ensures in
    let m = c.in-Ok-note_call.ensures in
    record {
      flow =
          call-done (given c.args.context.now) c.args.method (findings_in summary)
          (known-of c.args.context.now.callees.now c.args.method (Some (code.Summary summary))
          (sym (ap Some c.in-Some-Summary.field-0-is) ∙ c.in-Some-Summary.ensures))
          c.args.context.now.locked c.args.count old.table newer passed.table c.args.state.now c.in-Ok-pass.made
          c.requires.ready.numbers.state passed.call new.table m.noted.table c.pass.new.state old.found new.found
          c.args.site
          c.requires.ready.numbers passed.numbers passed.next m.noted.found;
      ready =
          record {
            numbers =
                record {
                  once = m.noted.ready.once;
                  state = state-still newer new.table m.noted.table c.pass.new.state passed.numbers;
                  noted = m.noted.ready.noted;
                };
            calls = m.calls;
          };
      table = goes_on-trans old.table newer new.table passed.table m.noted.table;
    }

pub returns-in-Err : goal.returns-in-Err
returns-in-Err c =
    let summary = c.in-Some-Summary.summary in
    let old = c.args.self.now.notes in
    record {
      flow =
          call-ended (given c.args.context.now) c.args.method (findings_in summary)
          (known-of c.args.context.now.callees.now c.args.method (Some (code.Summary summary))
          (sym (ap Some c.in-Some-Summary.field-0-is) ∙ c.in-Some-Summary.ensures))
          c.args.context.now.locked c.args.count old.table c.pass.new.table c.in-Ok-pass.ensures.table
          c.args.state.now c.in-Ok-pass.made c.requires.ready.numbers.state c.in-Ok-pass.ensures.call old.found
          c.args.site
          c.in-Err.stop c.requires.ready.numbers c.in-Err.ensures.noted.found;
      ready = tt;
      table = tt;
    }
