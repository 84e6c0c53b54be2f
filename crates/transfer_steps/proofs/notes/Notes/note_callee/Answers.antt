use Rattle.std.proofs.Common.{List, ℕ, length, sym, ap, subst, ◌∙◌}
use Rattle.std.specs.Prelude.{Ok, Err}
use Rattle.std.specs.FinSet as set
use Rattle.access_paths.specs.declared.path.Path.{Path}
use Rattle.access_paths.specs.Order.{path_cmp}
use Rattle.access_paths.specs.Table.{IsTable, GoesOn}
use Rattle.owner_domain.specs.declared.numbered.NumberedValue.{NumberedValue}
use Rattle.access_domain.specs.Findings.{Findings}
use Rattle.access_domain.specs.Numbered.{read_accesses, AreNumbered}
use Rattle.access_domain.specs.Substitution.{actuals_from, substituted}
use Rattle.call_subst.specs.Numbered.{read_paths, read_set, read_values, AreBelow}
use Rattle.call_subst.specs.Substitutes.{AreFindings}
use Rattle.transfer_steps.specs.Contexts.{given}
use Rattle.transfer_steps.specs.Known.{findings_in}
use Rattle.transfer_steps.specs.NotedCalls.{passed_by}
use Rattle.transfer_steps.specs.Numbered.{read_call, read_found, AreFoundNumbers}
use Rattle.transfer_steps.proofs.CallNotes.{records-marked}
use Rattle.transfer_steps.proofs.Callees.{call-noted, call-stopped, held}
use Rattle.transfer_steps.proofs.Longer.{on_ok_then}
use Rattle.transfer_steps.proofs.Noting.{notes-ready}
use Rattle.transfer_steps.proofs.Readings.{found-still}
use Rattle.transfer_steps.proofs.Longer.{always}
use Rattle.transfer_steps.proofs.notes.Notes.note_callee.Goals as goal

pub returns-in-Err : goal.returns-in-Err
returns-in-Err c =
    let g = given c.args.context.now in
    let old = c.args.self.now.table in
    let first = c.args.self.now.found in
    let new = c.substitute.new.table in
    let made = c.args.made.now in
    let f : Findings = findings_in c.args.summary.now in
    let there = c.in-Ok.there in
    let is = c.in-Ok.ensures in
    let once : IsTable new = is.each_once c.requires.ready.once in
    let records = c.as_slice-2.result.now in
    let are : AreFindings (substituted g (passed_by g (read_call old made)) f made.locked c.args.site)
    (read_accesses new there.accesses.items) (read_set new there.wobbly.items) =
    subst (λ (vs : List NumberedValue). AreFindings
    (substituted g (actuals_from (g.is_static made.callee) (read_values old vs)) f made.locked c.args.site)
    (read_accesses new there.accesses.items) (read_set new there.wobbly.items)) c.as_slice.ensures
    (is.answer f (held c.args.summary.now)) in
    record {
      found =
          call-stopped g (read_call old made) f c.args.site (read_accesses new records)
          (read_paths new there.wobbly.items) (ap (read_accesses new) c.as_slice-2.ensures.value ∙ are.0) are.1
          (read_found old first) c.in-Err.stop
          (records-marked old new is.table once first c.requires.ready.noted c.note_records.new.self
          {X = Unit {0}} (Err c.in-Err.stop) records
          (subst (AreNumbered new) (sym c.as_slice-2.ensures.value) is.numbers.accesses) c.in-Err.ensures.found);
      ready = tt;
      table = tt;
    }

pub returns : goal.returns
returns c =
    let g = given c.args.context.now in
    let old = c.args.self.now.table in
    let first = c.args.self.now.found in
    let new = c.substitute.new.table in
    let made = c.args.made.now in
    let f : Findings = findings_in c.args.summary.now in
    let there = c.in-Ok.there in
    let is = c.in-Ok.ensures in
    let once : IsTable new = is.each_once c.requires.ready.once in
    let records = c.as_slice-2.result.now in
    let numbers : List ℕ = c.as_slice-3.result.now in
    let within : AreNumbered new records =
    subst (AreNumbered new) (sym c.as_slice-2.ensures.value) is.numbers.accesses in
    let below : AreBelow (length new) numbers =
    subst (AreBelow (length new)) (sym c.as_slice-3.ensures.value) is.numbers.wobbly.range in
    let mid = c.note_records.new.self in
    let last = c.note_numbers.new.self in
    let low : AreFoundNumbers new mid =
    c.in-Ok-note_records.ensures.numbers new once (found-still old new is.table first c.requires.ready.noted) within in
    let are : AreFindings (substituted g (passed_by g (read_call old made)) f made.locked c.args.site)
    (read_accesses new there.accesses.items) (read_set new there.wobbly.items) =
    subst (λ (vs : List NumberedValue). AreFindings
    (substituted g (actuals_from (g.is_static made.callee) (read_values old vs)) f made.locked c.args.site)
    (read_accesses new there.accesses.items) (read_set new there.wobbly.items)) c.as_slice.ensures
    (is.answer f (held c.args.summary.now)) in
    record {
      found =
          call-noted g (read_call old made) f c.args.site (read_accesses new records) (read_paths new numbers)
          (ap (read_accesses new) c.as_slice-2.ensures.value ∙ are.0)
          (ap (λ (ns : List ℕ). set.from_list {R = path_cmp} (read_paths new ns)) c.as_slice-3.ensures.value ∙ are.1)
          (read_found old first) (read_found new mid) (read_found new last) c.note_numbers.result
          (records-marked old new is.table once first c.requires.ready.noted mid {X = Unit {0}} (Ok (tt {0})) records
          within c.in-Ok-note_records.ensures.found)
          (c.note_numbers.ensures.found new once low below);
      ready =
          notes-ready c.note_numbers.result new last once
          (on_ok_then c.note_numbers.result
          ((table : List Path) → IsTable table → AreFoundNumbers table mid → AreBelow (length table) numbers →
          AreFoundNumbers table last)
          (AreFoundNumbers new last) c.note_numbers.ensures.numbers (λ note. note new once low below));
      table = always c.note_numbers.result (GoesOn old new) is.table;
    }
