-- The path of a record, by the value of the whole path.
use Rattle.std.proofs.Common.{◌≡◌, Bool, List, [], ◌∷◌, ◌++◌, Option, None, Some, refl, sym, ap, ◌∙◌}
use Rattle.racer_base.specs.declared.ids.FieldId.{FieldId}
use Rattle.access_paths.specs.declared.path.Path.{Path}
use Rattle.access_paths.specs.Paths.{some_path, extended, front_of, last_of}
use Rattle.owner_domain.specs.declared.value.Value.{Value}
use Rattle.owner_domain.specs.declared.value.Value.TheVariants.{Owned, Named, Unnamed}
use Rattle.owner_domain.specs.Values.{named_or_unnamed, field_value, along}
use Rattle.owner_domain.proofs.Joins.{along-append}
use Rattle.core_code.specs.Core.{Core}
use Rattle.access_domain.specs.Findings.{Table}
use Rattle.access_domain.specs.FlowContext.{given_of, field_at}
use Rattle.access_domain.specs.Reached.{reached_path}
use Rattle.access_domain.specs.Substitution.{touched}

touched_named : (core : Core) (f : FieldId) (o : Option Path) →
    (elim o as (λ _. Option Path) [ None ↦ Some (some_path (field_at core f).class f) | Some q ↦ Some q ]) ≡
    reached_path core (named_or_unnamed o) f
touched_named core f None = refl
touched_named core f (Some q) = refl

-- the path of an access is that which the field's value tells
pub touched-reached : (core : Core) (table : Table) (main : Bool) (base : Value) (f : FieldId) →
    touched (given_of core table main) base f ≡ reached_path core (field_value base f) f
touched-reached core table main Owned f = refl
touched-reached core table main Unnamed f = refl
touched-reached core table main (Named p) f = touched_named core f (extended p f)

-- a list of fields is its front and its last
pub front_and_last : (fields : List FieldId) (f : FieldId) → last_of fields ≡ Some f →
    front_of fields ++ f ∷ [] ≡ fields
front_and_last [] f e = cc
front_and_last (g ∷ []) f e = let same : g ≡ f = cc in ap (λ (h : FieldId). h ∷ []) (sym same)
front_and_last (g ∷ h ∷ fields) f e = ap (λ (rest : List FieldId). g ∷ rest) (front_and_last (h ∷ fields) f e)

-- the last field of a value that is reached along the front
pub touched-along : (core : Core) (table : Table) (main : Bool) (base : Value) (fields : List FieldId) (f : FieldId) →
    last_of fields ≡ Some f →
    touched (given_of core table main) (along base (front_of fields)) f ≡ reached_path core (along base fields) f
touched-along core table main base fields f e =
    touched-reached core table main (along base (front_of fields)) f
    ∙ ap (λ (v : Value). reached_path core v f) (sym (along-append base (front_of fields) (f ∷ [])))
    ∙ ap (λ (fs : List FieldId). reached_path core (along base fs) f) (front_and_last fields f e)
