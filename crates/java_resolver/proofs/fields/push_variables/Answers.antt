use Rattle.std.proofs.Common.{◌≡◌, ◌<◌, List, [], ◌∷◌, ◌++◌, map, length, get_or, refl, ap, subst, ◌∙◌, arith}
use Rattle.java_tree.specs.declared.methods.FieldVariable.{FieldVariable}
use Rattle.java_resolver.specs.declared.infos.FieldInfo.{FieldInfo}
use Rattle.java_resolver.specs.Declarations.{class_names, field_info}
use Rattle.racer_base.proofs.Lists.{at_end, one_turn}
use Rattle.java_resolver.proofs.fields.push_variables.Goals as goal

pub loop-variable-preserved : goal.loop-variable-preserved
loop-variable-preserved c =
    let made = field_info (class_names c.args.classes.now) c.args.class c.args.field.now in
    let fields = c.loop-variable.fields.items in
    let i = c.loop-variable.variable-index in
    let v : FieldVariable = c.variable-item.result in
    let same = c.as_slice-variable-items.ensures in
    let grown : c.push.new.self.items ≡ fields ++ made v ∷ [] =
    c.in_ok-push.ensures.items ∙ ap (λ (info : FieldInfo). fields ++ info ∷ []) c.in_ok-field_info.ensures in
    one_turn (map made) (λ (w : FieldVariable). made w ∷ []) c.args.field.now.variables i v fields
    c.push.new.self.items (λ w ws. refl)
    (subst (λ (vs : List FieldVariable). i < length vs) same c.loop-variable-test.true)
    (subst (λ (vs : List FieldVariable). v ≡ get_or vs i v) same c.variable-item.is)
    grown
    ∙ c.loop-variable.invariant

pub returns : goal.returns
returns c =
    let all = c.args.field.now.variables in
    let size : length c.as_slice-variable-items.result.now ≡ length all =
    ap (λ (vs : List FieldVariable). length vs) c.as_slice-variable-items.ensures in
    at_end (map (field_info (class_names c.args.classes.now) c.args.class c.args.field.now)) all
    c.loop-variable.variable-index c.loop-variable.fields.items refl (omega (arith, size, c.loop-variable-test.false))
    ∙ c.loop-variable.invariant
