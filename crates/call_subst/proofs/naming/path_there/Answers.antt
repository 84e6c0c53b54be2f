use Rattle.std.proofs.Common.{◌≡◌, ◌-◌, List, Option, None, Some, length, slice_get, sym, ap, subst, ◌∙◌}
use Rattle.std.specs.Prelude.{IfOk}
use Rattle.racer_base.specs.declared.ids.FieldId.{FieldId}
use Rattle.access_paths.specs.declared.path.Path.{Path}
use Rattle.access_paths.specs.Paths.{last_of}
use Rattle.owner_domain.specs.declared.value.Value.{Value}
use Rattle.core_code.specs.Program.{core}
use Rattle.access_domain.specs.Reached.{reached_path}
use Rattle.access_domain.specs.Substitution.{substituted_path}
use Rattle.call_subst.specs.Calls.{given, actuals}
use Rattle.call_subst.proofs.NamedValues.{last_at, none_substituted, reached-substituted}
use Rattle.call_subst.proofs.naming.path_there.Goals as goal

pub returns-in_ok-value-in-Some : goal.returns-in_ok-value-in-Some
returns-in_ok-value-in-Some c =
    let call = c.args.call.now in
    let path : Path = c.args.path.now in
    let f : FieldId = c.in-Some.field.now in
    let at_end : Some f ≡ slice_get path.fields (length path.fields - 1) =
    c.in-Some.ensures.value ∙ ap (λ (fs : List FieldId). slice_get fs (length fs - 1)) c.as_slice.ensures in
    let last : last_of path.fields ≡ Some f = last_at path.fields f at_end in
    let same : reached_path (core call.program.now) c.in_ok-value-in-Some.value f ≡
    substituted_path (given call) (actuals call) path =
    ap (λ (v : Value). reached_path (core call.program.now) v f) c.in_ok-value-in-Some.ensures
    ∙ reached-substituted (core call.program.now) call.main (actuals call) path f (sym c.if-is_some.ensures) last in
    subst (λ (o : Option Path). IfOk c.path_reached.result (λ found. found ≡ o)) same c.path_reached.ensures

pub returns-in-None : goal.returns-in-None
returns-in-None c =
    let path : Path = c.args.path.now in
    let at_end : None ≡ slice_get path.fields (length path.fields - 1) =
    c.in-None.ensures.value ∙ ap (λ (fs : List FieldId). slice_get fs (length fs - 1)) c.as_slice.ensures in
    none_substituted (given c.args.call.now) (actuals c.args.call.now) path (sym c.if-is_some.ensures) at_end
