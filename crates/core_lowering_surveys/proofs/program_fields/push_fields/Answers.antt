use Rattle.std.proofs.Common.{[], ◌∷◌, ◌++◌, map, refl, ap, ◌∙◌}
use Rattle.core_code.specs.declared.parts.FieldCore.{FieldCore}
use Rattle.java_resolver.specs.declared.infos.FieldInfo.{FieldInfo}
use Rattle.core_lowering_rules.specs.Programs.{field_core}
use Rattle.racer_base.proofs.Lists.{ended, turn}
use Rattle.core_lowering_surveys.proofs.program_fields.push_fields.Goals as goal

pub loop-info-preserved : goal.loop-info-preserved
loop-info-preserved c =
    turn (map field_core) (λ (info : FieldInfo). field_core info ∷ []) c.args.infos.now c.loop-info.info-index _
    c.loop-info.fields _ _ (λ x xs. refl) c.loop-info-test.true c.info-item.is
    (c.in_ok-push.ensures.ok ∙ ap (λ (f : FieldCore). c.loop-info.fields ++ f ∷ []) c.in_ok-field.ensures)
    c.loop-info.invariant

pub returns : goal.returns
returns c =
    ended (map field_core) c.args.infos.now c.loop-info.info-index c.loop-info.fields _ refl
    c.loop-info-test.false c.loop-info.invariant
