use Rattle.std.proofs.Common.{◌≡◌, map, string_bytes, length, sym, ap, ◌∙◌}
use Rattle.core_code.specs.Program.{core}
use Rattle.race_report_parts.specs.ByteOrder.{in_byte_order}
use Rattle.race_report_parts.specs.Texts.{path_text}
use Rattle.race_report_parts.proofs.WobblyTexts.{wobbly_told, sorted_texts}
use Rattle.race_report_parts.proofs.wobbly.wobbly_texts.Goals as goal

pub returns : goal.returns
returns c =
    let program = core c.args.program.now in
    let paths = c.in_ok-paths.paths.items in
    let texts = c.in_ok-texts.texts.items in
    let sorted = c.sort.new.self.items in
    let made : map string_bytes texts ≡ map (path_text program) paths =
    c.in_ok-texts.ensures ∙ ap (map (path_text program)) c.as_slice.ensures.value in
    let long = sym (ap length c.as_slice.ensures.value) ∙ c.as_slice.ensures.len in
    wobbly_told program (record { 0 = c.args.number }) c.args.summary.now paths (map string_bytes sorted) c.requires
    c.in_ok-paths.ensures.all (long ∙ c.in_ok-paths.ensures.each_once)
    (sorted_texts texts sorted c.in_ok-sort.ensures.permutation c.in_ok-sort.ensures.sorted ∙ ap in_byte_order made)
