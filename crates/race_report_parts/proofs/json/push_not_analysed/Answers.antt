use Rattle.std.proofs.Common.{List, [], ap, map}
use Rattle.std.proofs.lemmas.List.{at_drop_all}
use Rattle.std.specs.List.{flat_map, enumerate_from}
use Rattle.core_code.specs.Core.{method_of}
use Rattle.core_code.specs.Program.{core}
use Rattle.core_code.specs.declared.parts.MethodCore.{MethodCore}
use Rattle.race_report_parts.specs.Json.{not_analysed_values}
use Rattle.race_report_parts.proofs.JsonTurns.{more_items, ends}
use Rattle.race_pairs.proofs.Turns.{rest_of}
use Rattle.race_report_parts.proofs.json.push_not_analysed.Goals as goal

pub loop-number-preserved : goal.loop-number-preserved
loop-number-preserved c =
    record {
      lasts = λ h. c.loop-number.invariant.lasts (c.push_not_analysed_item-later.ensures.lasts h);
      leaves = more_items (not_analysed_values (core c.args.program.now)) _ _ _
          (c.loop-number.number, method_of c.index-methods-number.result) c.loop-number.later
          c.push_not_analysed_item-later.result c.args.text.now c.loop-number.text
          c.push_not_analysed_item-later.new.text
          (ap (λ (left : List MethodCore). enumerate_from c.loop-number.number (map method_of left))
          (rest_of _ c.loop-number.number c.index-methods-number.result c.loop-number-test.true
          c.index-methods-number.is))
          c.loop-number.invariant.leaves c.push_not_analysed_item-later.ensures;
    }

pub returns : goal.returns
returns c =
    ends [] _ _ c.loop-number.later c.args.text.now c.loop-number.text c.push_text-2.new.text (at_drop_all (λ (left :
    List MethodCore). flat_map (not_analysed_values (core c.args.program.now)) (enumerate_from c.loop-number.number (map
    method_of left))) _ c.loop-number.number c.loop-number-test.false) c.loop-number.invariant.lasts
    c.loop-number.invariant.leaves c.push_text-2.ensures
