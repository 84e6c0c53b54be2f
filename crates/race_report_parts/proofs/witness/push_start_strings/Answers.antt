use Rattle.std.proofs.Common.{List, map}
use Rattle.std.proofs.lemmas.List.{at_drop_all}
use Rattle.serde_json.specs.Data.{string}
use Rattle.core_code.specs.Program.{core}
use Rattle.core_semantics.specs.declared.object.StartPath.{StartPath}
use Rattle.race_report_parts.specs.Marks.{start_text}
use Rattle.race_report_parts.proofs.JsonTurns.{begins_behind, more_texts, ends}
use Rattle.race_pairs.proofs.Turns.{rest_of}
use Rattle.race_report_parts.proofs.witness.push_start_strings.Goals as goal

pub loop-start-init : goal.loop-start-init
loop-start-init c =
    record {
      lasts = λ h. c.push_text.ensures.lasts (c.push_text-2.ensures.lasts h);
      leaves = begins_behind c.args.before.now _ c.args.text.now c.push_text.new.text c.push_text-2.new.text
          c.push_text.ensures c.push_text-2.ensures;
    }

pub loop-start-preserved : goal.loop-start-preserved
loop-start-preserved c =
    record {
      lasts = λ h. c.loop-start.invariant.lasts (c.push_start_string.ensures.lasts h);
      leaves = more_texts (start_text (core c.args.program.now)) c.args.before.now
          _ _ _ _ c.loop-start.later c.comma.result.now
          c.args.text.now c.loop-start.text c.push_start_string.new.text
          (rest_of _ c.loop-start.start-index c.start-item.result c.loop-start-test.true c.start-item.is)
          c.comma.ensures c.loop-start.invariant.leaves c.push_start_string.ensures;
    }

pub returns : goal.returns
returns c =
    ends c.args.before.now _ _ c.loop-start.later c.args.text.now c.loop-start.text c.push_text-3.new.text (at_drop_all
    (λ (left : List StartPath). map string (map (start_text (core c.args.program.now)) left)) _ c.loop-start.start-index
    c.loop-start-test.false) c.loop-start.invariant.lasts c.loop-start.invariant.leaves c.push_text-3.ensures
