use Rattle.std.proofs.Common.{option_map, length, sym, ap, subst, ◌∙◌}
use Rattle.std.proofs.lemmas.Bool.{not-false, not-true}
use Rattle.access_paths.specs.Table.{GoesOn, path_at}
use Rattle.access_paths.proofs.Numbers.{goes_on-same}
use Rattle.owner_domain.specs.Numbered.{read_value}
use Rattle.transfer_steps.specs.Numbered.{read_found, IsBelow}
use Rattle.transfer_steps.proofs.Noting.{notes-ready}
use Rattle.transfer_steps.proofs.Readings.{found-still}
use Rattle.transfer_steps.proofs.NumberedSteps.{none-noted, not-noted, access-noted, at-table}
use Rattle.transfer_steps.proofs.Longer.{always}
use Rattle.transfer_steps.proofs.notes.Notes.note_access.Goals as goal

pub returns-then-not-touched_field : goal.returns-then-not-touched_field
returns-then-not-touched_field c =
    let context = c.args.context.now in
    let old = c.args.self.now in
    record {
      found =
          not-noted context c.args.kind context.locked c.args.site c.args.f (read_found old.table old.found)
          (read_value old.table c.args.value)
          (sym c.touched_field.ensures.recorded ∙ not-true c.touched_field.result.recorded c.if-not-touched_field.true);
      ready = c.requires.ready;
      table = goes_on-same old.table;
    }

pub returns-in_default-reached : goal.returns-in_default-reached
returns-in_default-reached c =
    let context = c.args.context.now in
    let old = c.args.self.now in
    let newer = c.number_reached.new.table in
    let m = c.in-Ok.ensures in
    record {
      found =
          none-noted context c.args.kind context.locked c.args.site c.args.f old.table newer m.table old.found
          c.requires.ready.noted (read_value old.table c.args.value)
          (sym m.path ∙ ap (option_map (path_at newer)) c.in_default-reached.is);
      ready =
          record {
            once = m.once;
            noted = found-still old.table newer m.table old.found c.requires.ready.noted;
          };
      table = m.table;
    }

pub returns : goal.returns
returns c =
    let context = c.args.context.now in
    let old = c.args.self.now in
    let newer = c.number_reached.new.table in
    let m = c.in-Ok.ensures in
    let new = c.note_record.new.self in
    let still = found-still old.table newer m.table old.found c.requires.ready.noted in
    let below = subst (IsBelow (length newer)) c.in-Some.is m.number in
    record {
      found =
          access-noted context c.args.kind context.locked c.args.site c.args.f old.table newer m.table old.found
          c.requires.ready.noted (read_value old.table c.args.value) c.in-Some.path (read_found newer new)
          c.note_record.result
          (sym c.touched_field.ensures.recorded
          ∙ not-false c.touched_field.result.recorded c.if-not-touched_field.false)
          (sym m.path ∙ ap (option_map (path_at newer)) c.in-Some.is)
          (c.note_record.ensures.found newer m.once still below);
      ready =
          notes-ready c.note_record.result newer new m.once
          (at-table c.note_record.result newer old.found new c.in-Some.path c.note_record.ensures.numbers m.once still
          below);
      table = always c.note_record.result (GoesOn old.table newer) m.table;
    }
