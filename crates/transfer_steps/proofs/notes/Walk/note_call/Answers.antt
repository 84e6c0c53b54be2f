use Rattle.std.proofs.Common.{List, sym, subst, ◌∙◌}
use Rattle.access_paths.proofs.Numbers.{goes_on-same}
use Rattle.transfer_steps.specs.declared.noted_calls.NotedCall.{NotedCall}
use Rattle.transfer_steps.specs.Contexts.{given}
use Rattle.transfer_steps.specs.Known.{findings_in}
use Rattle.transfer_steps.specs.NotedCalls.{AreFound, IsFound, PassingCall}
use Rattle.transfer_steps.specs.Numbered.{read_call, read_calls, read_found, AreCallNumbers}
use Rattle.transfer_steps.specs.Walks.{call_marks}
use Rattle.transfer_steps.proofs.Callees.{found-among, found-put, found-then, noted-before, noted-found}
use Rattle.transfer_steps.proofs.CallsRead.{all-found-longer, call-longer, calls-still, called-put}
use Rattle.transfer_steps.proofs.Readings.{all-longer}
use Rattle.transfer_steps.proofs.notes.Walk.note_call.Goals as goal

pub returns-then-contains-clause-noted : goal.returns-then-contains-clause-noted
returns-then-contains-clause-noted c =
    let g = given c.args.context.now in
    let old = c.args.self.now.notes in
    let calls = c.args.self.now.calls.keys in
    let found = read_found old.table old.found in
    record {
      found =
          noted-before g (read_call old.table c.args.made) (findings_in c.args.summary.now) c.args.site found
          (found-among g old.table calls c.args.made found (sym c.contains.ensures ∙ c.if-contains.true)
          c.requires.calls.found) c.requires.known;
      ready = c.requires.ready;
      table = goes_on-same old.table;
    }

pub returns-clause-calls : goal.returns-clause-calls
returns-clause-calls c =
    let g = given c.args.context.now in
    let old = c.args.self.now.notes in
    let new = c.note_callee.new.self in
    let m = c.in-Ok.ensures in
    let calls = c.args.self.now.calls.keys in
    let made = c.args.made in
    let f = findings_in c.args.summary.now in
    let found = read_found old.table old.found in
    let later = read_found new.table new.found in
    let one = read_call old.table made in
    record {
      called =
          subst (AreCallNumbers new.table) (sym c.in-Ok-insert.ensures.keys)
          (called-put new.table calls made (calls-still old.table new.table m.table calls c.requires.calls.called)
          (all-longer old.table new.table m.table made.actuals c.requires.actuals));
      found =
          subst (λ (keys : List NotedCall). AreFound g (read_calls new.table keys) later)
          (sym c.in-Ok-insert.ensures.keys)
          (found-put g new.table calls made later
          (all-found-longer old.table new.table m.table g calls later c.requires.calls.called
          (noted-found g (read_calls old.table calls) found later (call_marks g one f c.args.site) m.found
          c.requires.calls.found))
          (subst (λ (x : PassingCall). IsFound g x later)
          (sym (call-longer old.table new.table m.table made c.requires.actuals))
          (found-then g one f c.args.site found later c.requires.known m.found)));
    }
