use Rattle.std.proofs.Common.{[], drop, arith}
use Rattle.std.proofs.lemmas.List.{drop_more, at_drop_all}
use Rattle.std.specs.List.{flat_map}
use Rattle.core_code.specs.Program.{core}
use Rattle.race_report_parts.specs.Json.{warning_values}
use Rattle.race_report_parts.proofs.JsonTurns.{begins, more_items, ends}
use Rattle.race_report_parts.proofs.MarkedWarnings.{as_long, mark_read}
use Rattle.race_report_parts.proofs.json.push_found_warnings.Goals as goal

pub push_warning-later-requires-clause-mark : goal.push_warning-later-requires-clause-mark
push_warning-later-requires-clause-mark c =
    mark_read (core c.args.program.now) c.args.found.now c.args.marks.now c.loop-number.number _
    c.mark_at-mark.result.now c.requires.marks c.loop-number-test.true c.mark_at-mark.ensures

pub mark_at-mark-requires : goal.mark_at-mark-requires
mark_at-mark-requires c =
    let long = as_long (core c.args.program.now) c.args.found.now c.args.marks.now c.requires.marks in
    omega (arith, long, c.loop-number-test.true)

pub loop-number-init : goal.loop-number-init
loop-number-init c =
    record {
      lasts = c.push_text.ensures.lasts;
      leaves = begins _ c.args.text.now c.push_text.new.text c.push_text.ensures;
    }

pub loop-number-preserved : goal.loop-number-preserved
loop-number-preserved c =
    record {
      lasts = λ h. c.loop-number.invariant.lasts (c.push_warning-later.ensures.lasts h);
      leaves = more_items (warning_values (core c.args.program.now)) _ (drop c.loop-number.number c.args.found.now) _ _
          c.loop-number.later c.push_warning-later.result c.args.text.now c.loop-number.text
          c.push_warning-later.new.text (drop_more c.args.found.now c.loop-number.number _ c.loop-number-test.true)
          c.loop-number.invariant.leaves c.push_warning-later.ensures;
    }

pub returns : goal.returns
returns c =
    ends [] _ _ c.loop-number.later c.args.text.now c.loop-number.text c.push_text-2.new.text (at_drop_all (flat_map
    (warning_values (core c.args.program.now))) c.args.found.now c.loop-number.number c.loop-number-test.false)
    c.loop-number.invariant.lasts c.loop-number.invariant.leaves c.push_text-2.ensures
