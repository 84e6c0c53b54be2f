use Rattle.std.proofs.Common.{map, refl, ◌∙◌}
use Rattle.racer_base.specs.declared.ids.FieldId.{FieldId}
use Rattle.racer_base.proofs.Lists.{at_end}
use Rattle.race_pairs.proofs.Turns.{map_turn}
use Rattle.race_pairs.proofs.partners.path_key.Goals as goal

pub loop-field-preserved : goal.loop-field-preserved
loop-field-preserved c =
    let fields = c.as_slice-field-items.result.now in
    map_turn (λ (f : FieldId). f.0) fields c.loop-field.field-index _ c.loop-field.key.items c.push.new.self.items
    c.loop-field-test.true c.in_ok-push.ensures.items
    ∙ c.loop-field.invariant

pub returns : goal.returns
returns c =
    let fields = c.as_slice-field-items.result.now in
    at_end (map (λ (f : FieldId). f.0)) fields c.loop-field.field-index c.loop-field.key.items refl
    c.loop-field-test.false
    ∙ c.loop-field.invariant
