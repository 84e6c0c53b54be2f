use Rattle.std.proofs.Common.{refl}
use Rattle.std.specs.List.{flat_map}
use Rattle.java_tree.specs.declared.methods.FieldVariable.{FieldVariable}
use Rattle.core_lowering_rules.specs.Context.{Context, Code}
use Rattle.core_lowering_rules.specs.Methods.{field_begun}
use Rattle.core_lowering_context.specs.Drafts.{code_of}
use Rattle.racer_base.proofs.Lists.{ended, turn}
use Rattle.core_lowering_expressions.proofs.fields.begin_variables.Goals as goal

abbrev begun : Context → FieldVariable → Code
begun context v = field_begun context v.name v.initialiser

pub loop-field-preserved : goal.loop-field-preserved
loop-field-preserved c =
    let one = begun c.args.context.now in
    turn (flat_map one) one c.args.fields.now c.loop-field.field-index _ (code_of c.loop-field.draft) _ _
    (λ v vs. refl) c.loop-field-test.true c.field-item.is c.in_ok-begin_field.ensures c.loop-field.invariant

pub returns : goal.returns
returns c =
    ended (flat_map (begun c.args.context.now)) c.args.fields.now c.loop-field.field-index
    (code_of c.loop-field.draft) _
    refl c.loop-field-test.false c.loop-field.invariant
