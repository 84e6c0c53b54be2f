-- The path of a record in the caller is that which the value of the whole path tells.
use Rattle.std.proofs.Common.{◌≡◌, suc, ◌-◌, Bool, false, cond, List, [], ◌∷◌, Option, None, Some, length, slice_get}
use Rattle.std.proofs.Common.{refl, sym, ap, ◌∙◌, arith}
use Rattle.racer_base.specs.declared.ids.FieldId.{FieldId}
use Rattle.access_paths.specs.declared.path.Path.{Path}
use Rattle.access_paths.specs.Paths.{is_some_root, front_of, last_of}
use Rattle.core_code.specs.Core.{Core}
use Rattle.owner_domain.specs.Values.{along}
use Rattle.access_domain.specs.FlowContext.{FlowContext}
use Rattle.access_domain.specs.Reached.{reached_path}
use Rattle.access_domain.specs.Substitution.{Actuals, touched, root_value, value_named, substituted_path}
use Rattle.access_domain.proofs.ReachedPaths.{touched-along}
use Rattle.call_subst.specs.Substitutes.{given_at}

pub last_at : (fields : List FieldId) (f : FieldId) → Some f ≡ slice_get fields (length fields - 1) →
    last_of fields ≡ Some f
last_at [] f e = cc
last_at (g ∷ []) f e = sym e
last_at (g ∷ h ∷ fields) f e =
    let index : length (g ∷ h ∷ fields) - 1 ≡ suc (length (h ∷ fields) - 1) = omega arith in
    last_at (h ∷ fields) f (e ∙ ap (slice_get (g ∷ h ∷ fields)) index)

pub reached-substituted : (core : Core) (main : Bool) (actuals : Actuals) (p : Path) (f : FieldId) →
    is_some_root p.root ≡ false → last_of p.fields ≡ Some f →
    reached_path core (value_named actuals p) f ≡ substituted_path (given_at core main) actuals p
reached-substituted core main actuals p f known last =
    let base = root_value actuals p.root in
    let by_last : Option FieldId → Option Path = λ o. elim o [
      | None ↦ None
      | Some g ↦ touched (given_at core main) (along base (front_of p.fields)) g
    ] in
    sym (touched-along core (λ m. None) main base p.fields f last)
    ∙ sym (ap by_last last)
    ∙ sym (ap (λ (b : Bool). cond b (Some p) (by_last (last_of p.fields))) known)

last_none : (fields : List FieldId) → None ≡ slice_get fields (length fields - 1) → last_of fields ≡ None
last_none [] e = refl
last_none (g ∷ []) e = sym e
last_none (g ∷ h ∷ fields) e =
    let index : length (g ∷ h ∷ fields) - 1 ≡ suc (length (h ∷ fields) - 1) = omega arith in
    last_none (h ∷ fields) (e ∙ ap (slice_get (g ∷ h ∷ fields)) index)

-- a path without fields has no path in the caller
pub none_substituted : (given : FlowContext) (actuals : Actuals) (p : Path) → is_some_root p.root ≡ false →
    None ≡ slice_get p.fields (length p.fields - 1) → None ≡ substituted_path given actuals p
none_substituted given actuals p known none =
    let by_last : Option FieldId → Option Path = λ o. elim o [
      | None ↦ None
      | Some g ↦ touched given (along (root_value actuals p.root) (front_of p.fields)) g
    ] in
    sym (ap by_last (last_none p.fields none))
    ∙ sym (ap (λ (b : Bool). cond b (Some p) (by_last (last_of p.fields))) known)
