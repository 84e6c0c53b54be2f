use Rattle.std.proofs.Common.{map, refl, string_bytes, ◌∙◌}
use Rattle.core_code.specs.Program.{core}
use Rattle.race_report_parts.specs.Texts.{path_text}
use Rattle.race_report_parts.proofs.LookUps.{more_mapped}
use Rattle.racer_base.proofs.Lists.{at_end}
use Rattle.race_report_parts.proofs.wobbly.path_texts.Goals as goal

pub loop-path-preserved : goal.loop-path-preserved
loop-path-preserved c =
    let text = path_text (core c.args.program.now) in
    more_mapped (map text) text string_bytes c.loop-path.texts.items c.push.new.self.items c.in_ok-path_text.field-0
    c.args.paths.now c.loop-path.path-index c.path-item.result (λ y ys. refl) c.loop-path-test.true c.path-item.is
    c.in_ok-push.ensures.items c.in_ok-path_text.ensures
    ∙ c.loop-path.invariant

pub returns : goal.returns
returns c =
    at_end (map (path_text (core c.args.program.now))) c.args.paths.now c.loop-path.path-index
    (map string_bytes c.loop-path.texts.items) refl c.loop-path-test.false
    ∙ c.loop-path.invariant
