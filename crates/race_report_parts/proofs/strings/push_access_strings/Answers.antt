use Rattle.std.proofs.Common.{List, map}
use Rattle.std.proofs.lemmas.List.{at_drop_all}
use Rattle.serde_json.specs.Data.{string}
use Rattle.core_code.specs.Program.{core}
use Rattle.access_domain.specs.declared.access.Access.{Access}
use Rattle.race_report_parts.specs.Told.{access_text}
use Rattle.race_report_parts.proofs.JsonTurns.{begins_behind, more_texts, ends}
use Rattle.race_pairs.proofs.Turns.{rest_of}
use Rattle.race_report_parts.proofs.strings.push_access_strings.Goals as goal

pub loop-access-init : goal.loop-access-init
loop-access-init c =
    record {
      lasts = λ h. c.push_text.ensures.lasts (c.push_text-2.ensures.lasts h);
      leaves = begins_behind c.args.before.now _ c.args.text.now c.push_text.new.text c.push_text-2.new.text
          c.push_text.ensures c.push_text-2.ensures;
    }

pub loop-access-preserved : goal.loop-access-preserved
loop-access-preserved c =
    record {
      lasts = λ h. c.loop-access.invariant.lasts (c.push_access_string.ensures.lasts h);
      leaves = more_texts (access_text (core c.args.program.now) (record { 0 = c.args.number })) c.args.before.now
          _ _ _ _ c.loop-access.later c.comma.result.now
          c.args.text.now c.loop-access.text c.push_access_string.new.text
          (rest_of _ c.loop-access.access-index c.access-item.result c.loop-access-test.true c.access-item.is)
          c.comma.ensures c.loop-access.invariant.leaves c.push_access_string.ensures;
    }

pub returns : goal.returns
returns c =
    ends c.args.before.now _ _ c.loop-access.later c.args.text.now c.loop-access.text c.push_text-3.new.text
    (at_drop_all (λ (left : List Access).
    map string (map (access_text (core c.args.program.now) (record { 0 = c.args.number })) left)) _
    c.loop-access.access-index c.loop-access-test.false)
    c.loop-access.invariant.lasts c.loop-access.invariant.leaves c.push_text-3.ensures
