use Rattle.std.proofs.Common.{◌++◌, List, String, ap, map, string_bytes}
use Rattle.std.proofs.lemmas.List.{at_drop_all}
use Rattle.serde_json.specs.Data.{string}
use Rattle.std.specs.Global.{Global}
use Rattle.serde_json.specs.Written.{compact_text}
use Rattle.race_report_parts.proofs.PutChains.{same_piece}
use Rattle.race_report_parts.proofs.JsonTurns.{begins_behind, more_texts, ends}
use Rattle.race_pairs.proofs.Turns.{rest_of}
use Rattle.race_report_parts.proofs.strings.push_strings.Goals as goal

pub loop-string-init : goal.loop-string-init
loop-string-init c =
    record {
      lasts = λ h. c.push_text.ensures.lasts (c.push_text-2.ensures.lasts h);
      leaves = begins_behind c.args.before.now _ c.args.text.now c.push_text.new.text c.push_text-2.new.text
          c.push_text.ensures c.push_text-2.ensures;
    }

pub loop-string-preserved : goal.loop-string-preserved
loop-string-preserved c =
    record {
      lasts = λ h. c.loop-string.invariant.lasts (c.push_string.ensures.lasts h);
      leaves = more_texts string_bytes c.args.before.now
          _ _ _ _ c.loop-string.later c.comma.result.now
          c.args.text.now c.loop-string.text c.push_string.new.text
          (rest_of _ c.loop-string.string-index c.string-item.result c.loop-string-test.true c.string-item.is)
          c.comma.ensures c.loop-string.invariant.leaves (same_piece c.push_string.ensures
          (ap (λ t. c.comma.result.now ++ compact_text (string t)) c.as_str.ensures.value));
    }

pub returns : goal.returns
returns c =
    ends c.args.before.now _ _ c.loop-string.later c.args.text.now c.loop-string.text c.push_text-3.new.text
    (at_drop_all (λ (left : List (String Global)). map string (map string_bytes left)) _ c.loop-string.string-index
    c.loop-string-test.false) c.loop-string.invariant.lasts c.loop-string.invariant.leaves c.push_text-3.ensures
