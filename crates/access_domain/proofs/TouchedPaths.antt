-- The path of a field of a value, and of a callee's record in its caller's values, by cases.
use Rattle.std.proofs.Common.{◌≡◌, true, false, cond, ◌⊎◌, inl, inr, ⊎_elim, List, [], ◌∷◌, ◌++◌, Option, None, Some}
use Rattle.std.proofs.Common.{refl, sym, ap, ◌∙◌}
use Rattle.racer_base.specs.declared.ids.FieldId.{FieldId}
use Rattle.access_paths.specs.declared.path.Path.{Path}
use Rattle.access_paths.specs.Paths.{extended, front_of, is_some_root, last_of, some_path}
use Rattle.owner_domain.specs.declared.value.Value.{Value}
use Rattle.owner_domain.specs.declared.value.Value.TheVariants.{Owned, Named, Unnamed}
use Rattle.owner_domain.specs.Values.{along}
use Rattle.access_domain.specs.FlowContext.{FlowContext}
use Rattle.access_domain.specs.Longer.{IsLonger, longer}
use Rattle.access_domain.specs.Substitution.{Actuals, root_value, substituted_path, touched}

-- ---- fields with one more

pub front_added : (fs : List FieldId) (f : FieldId) → front_of (fs ++ f ∷ []) ≡ fs
front_added [] f = refl
front_added (g ∷ []) f = refl
front_added (g ∷ h ∷ fs) f = ap (λ (gs : List FieldId). g ∷ gs) (front_added (h ∷ fs) f)

pub last_added : (fs : List FieldId) (f : FieldId) → last_of (fs ++ f ∷ []) ≡ Some f
last_added [] f = refl
last_added (g ∷ []) f = refl
last_added (g ∷ h ∷ fs) f = last_added (h ∷ fs) f

-- ---- a field of a value

-- field f of some object, or the path of a value with f at its end
abbrev pub IsTouched : FlowContext → Value → FieldId → Path → Type 0
IsTouched g base f p = (some_path (g.class_of f) f ≡ p) ⊎ ((q : Path) × (base ≡ Named q) × IsLonger q f p)

pub touched_cases : (g : FlowContext) (base : Value) (f : FieldId) (p : Path) → touched g base f ≡ Some p →
    IsTouched g base f p
touched_cases g Owned f p e = absurd cc
touched_cases g Unnamed f p e = inl cc
touched_cases g (Named q) f p e =
    elim (extended q f) as (λ o. extended q f ≡ o →
    (elim o as (λ _. Option Path) [ None ↦ Some (some_path (g.class_of f) f) | Some r ↦ Some r ]) ≡ Some p →
    IsTouched g (Named q) f p) [
      | None ↦ λ is t. inl cc
      | Some r ↦ λ is t. inr (q, refl, longer q f p (is ∙ t))
    ] refl e

-- its last field is f
pub touched_last : (g : FlowContext) (base : Value) (f : FieldId) (p : Path) → touched g base f ≡ Some p →
    last_of p.fields ≡ Some f
touched_last g base f p e =
    ⊎_elim
    (λ some. ap (λ (x : Path). last_of x.fields) (sym some))
    (λ of. ap (λ (x : Path). last_of x.fields) of.2.is ∙ last_added of.0.fields f)
    (touched_cases g base f p e)

-- ---- a record of a callee

-- the path of a callee's record stays, where it begins at some object, or is that of its last field of what the fields
-- before name in the caller
pub record IsPutIn (g : FlowContext) (actuals : Actuals) (p q : Path) : Type 0 where
  pub root : is_some_root p.root ≡ false
  pub field : FieldId
  pub last : last_of p.fields ≡ Some field
  pub path : touched g (along (root_value actuals p.root) (front_of p.fields)) field ≡ Some q

abbrev pub IsSubstituted : FlowContext → Actuals → Path → Path → Type 0
IsSubstituted g actuals p q = ((is_some_root p.root ≡ true) × (p ≡ q)) ⊎ IsPutIn g actuals p q

pub substituted_cases : (g : FlowContext) (actuals : Actuals) (p q : Path) → substituted_path g actuals p ≡ Some q →
    IsSubstituted g actuals p q
substituted_cases g actuals p q e =
    elim (is_some_root p.root) as (λ b. is_some_root p.root ≡ b →
    cond b (Some p) (named (last_of p.fields)) ≡ Some q → IsSubstituted g actuals p q) [
      | true ↦ λ is t. inl (is, cc)
      | false ↦ λ is t. at is (last_of p.fields) refl t
    ] refl e
  where
    named : Option FieldId → Option Path
    named o = elim o [
      | None ↦ None
      | Some f ↦ touched g (along (root_value actuals p.root) (front_of p.fields)) f
    ]

    at : is_some_root p.root ≡ false → (o : Option FieldId) → last_of p.fields ≡ o → named o ≡ Some q →
        IsSubstituted g actuals p q
    at root None last t = absurd cc
    at root (Some f) last t = inr (record { root = root; field = f; last = last; path = t })

-- its last field stays
pub substituted_last : (g : FlowContext) (actuals : Actuals) (p q : Path) → substituted_path g actuals p ≡ Some q →
    last_of q.fields ≡ last_of p.fields
substituted_last g actuals p q e =
    ⊎_elim
    (λ kept. ap (λ (x : Path). last_of x.fields) (sym kept.1))
    (λ (put : IsPutIn g actuals p q).
    touched_last g (along (root_value actuals p.root) (front_of p.fields)) put.field q put.path ∙ sym put.last)
    (substituted_cases g actuals p q e)
