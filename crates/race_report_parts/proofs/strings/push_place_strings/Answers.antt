use Rattle.std.proofs.Common.{List, map}
use Rattle.std.proofs.lemmas.List.{drop_more, at_drop_all}
use Rattle.serde_json.specs.Data.{string}
use Rattle.racer_base.specs.declared.ids.Place.{Place}
use Rattle.core_code.specs.Program.{core}
use Rattle.race_report_parts.specs.Texts.{place_text}
use Rattle.race_report_parts.proofs.JsonTurns.{begins_behind, more_texts, ends}
use Rattle.race_report_parts.proofs.strings.push_place_strings.Goals as goal

pub loop-place-init : goal.loop-place-init
loop-place-init c =
    record {
      lasts = λ h. c.push_text.ensures.lasts (c.push_text-2.ensures.lasts h);
      leaves = begins_behind c.args.before.now _ c.args.text.now c.push_text.new.text c.push_text-2.new.text
          c.push_text.ensures c.push_text-2.ensures;
    }

pub loop-place-preserved : goal.loop-place-preserved
loop-place-preserved c =
    record {
      lasts = λ h. c.loop-place.invariant.lasts (c.push_place_string.ensures.lasts h);
      leaves = more_texts (place_text (core c.args.program.now)) c.args.before.now
          _ _ _ _ c.loop-place.later c.comma.result.now
          c.args.text.now c.loop-place.text c.push_place_string.new.text
          (drop_more _ c.loop-place.place-index _ c.loop-place-test.true)
          c.comma.ensures c.loop-place.invariant.leaves c.push_place_string.ensures;
    }

pub returns : goal.returns
returns c =
    ends c.args.before.now _ _ c.loop-place.later c.args.text.now c.loop-place.text c.push_text-3.new.text (at_drop_all
    (λ (left : List Place). map string (map (place_text (core c.args.program.now)) left)) _ c.loop-place.place-index
    c.loop-place-test.false) c.loop-place.invariant.lasts c.loop-place.invariant.leaves c.push_text-3.ensures
