use Rattle.std.proofs.Common.{◌≡◌, List, sym, ap, subst, ◌∙◌}
use Rattle.std.specs.Prelude.{IfOk, slice_index_or}
use Rattle.racer_base.specs.declared.ids.FieldId.{FieldId}
use Rattle.access_paths.specs.declared.path.Root.{Root}
use Rattle.owner_domain.specs.declared.value.Value.{Value}
use Rattle.owner_domain.specs.declared.value.Value.TheVariants.{Unnamed}
use Rattle.owner_domain.specs.Values.{along}
use Rattle.owner_domain.proofs.Along.{along-unnamed}
use Rattle.access_domain.specs.Substitution.{root_value, value_named}
use Rattle.call_subst.specs.Calls.{actuals}
use Rattle.call_subst.proofs.naming.value_named.Goals as goal

pub returns-in-Some : goal.returns-in-Some
returns-in-Some c =
    let fields = c.args.path.now.fields in
    sym (along-unnamed fields)
    ∙ sym (ap (λ (root : Root). along (root_value (actuals c.args.call.now) root) fields) c.in-Some.is)

pub returns-in-This : goal.returns-in-This
returns-in-This c =
    let fields = c.args.path.now.fields in
    let this : Value = slice_index_or c.args.call.now.actuals.now 0 Unnamed in
    let is : along this c.as_slice-fields.result.now ≡ value_named (actuals c.args.call.now) c.args.path.now =
    ap (λ (fs : List FieldId). along this fs) c.as_slice-fields.ensures
    ∙ sym (ap (λ (root : Root). along (root_value (actuals c.args.call.now) root) fields) c.in-This.is) in
    subst (λ (v : Value). IfOk c.along_passed.result (λ value. value ≡ v)) is c.along_passed.ensures
