-- What is reached from a named value by fields in turn: its path and the fields, or nothing that has a name.
use Rattle.std.specs.Prelude.{◌==◌}
use Rattle.std.proofs.Common.{◌≡◌, ℕ, zero, suc, ◌+◌, ◌<◌, ◌≤◌, Bool, true, false, cond, List, [], ◌∷◌, ◌++◌, length}
use Rattle.std.proofs.Common.{refl}
use Rattle.std.proofs.Common.{None, Some, nat_lt, sym, ap, ◌∙◌, arith, append_assoc, length-append}
use borrow.Author.Tests.{eqb-true}
use Rattle.std.proofs.lemmas.Bool.{le-ltb, lt-ltb}
use Rattle.std.proofs.lemmas.List.{append-nil}
use Rattle.racer_base.specs.declared.ids.FieldId.{FieldId}
use Rattle.racer_base.specs.declared.limits.TheConstants.{MAX_PATH_FIELDS}
use Rattle.access_paths.specs.declared.path.Root.{Root}
use Rattle.access_paths.specs.declared.path.Path.{Path}
use Rattle.owner_domain.specs.declared.value.Value.{Value}
use Rattle.owner_domain.specs.declared.value.Value.TheVariants.{Owned, Named, Unnamed}
use Rattle.owner_domain.specs.Values.{named_or_unnamed, field_value, along}

pub along-owned : (fields : List FieldId) → along Owned fields ≡ Owned
along-owned [] = refl
along-owned (f ∷ fields) = along-owned fields

pub along-unnamed : (fields : List FieldId) → along Unnamed fields ≡ Unnamed
along-unnamed [] = refl
along-unnamed (f ∷ fields) = along-unnamed fields

abbrev pub path_of : Root → List FieldId → Path
path_of root fields = record { root = root; fields = fields }

one_field : (root : Root) (own : List FieldId) (f : FieldId) → length own < MAX_PATH_FIELDS →
    field_value (Named (path_of root own)) f ≡ Named (path_of root (own ++ f ∷ []))
one_field root own f room =
    ap (λ (b : Bool). named_or_unnamed (cond b (Some (path_of root (own ++ f ∷ []))) None))
    (lt-ltb (length own) MAX_PATH_FIELDS room)

no_field : (root : Root) (own : List FieldId) (f : FieldId) → MAX_PATH_FIELDS ≤ length own →
    field_value (Named (path_of root own)) f ≡ Unnamed
no_field root own f full =
    ap (λ (b : Bool). named_or_unnamed (cond b (Some (path_of root (own ++ f ∷ []))) None))
    (le-ltb (length own) MAX_PATH_FIELDS full)

-- a path with all fields, which are no more than the limit together
pub along-short : (root : Root) (own fields : List FieldId) → length own + length fields ≤ MAX_PATH_FIELDS →
    along (Named (path_of root own)) fields ≡ Named (path_of root (own ++ fields))
along-short root own [] room = ap (λ fs. Named (path_of root fs)) (sym (append-nil own))
along-short root own (f ∷ fields) room =
    let long : length (own ++ f ∷ []) ≡ length own + 1 = length-append own (f ∷ []) in
    ap (λ v. along v fields) (one_field root own f (omega arith))
    ∙ along-short root (own ++ f ∷ []) fields (omega arith)
    ∙ ap (λ fs. Named (path_of root fs)) (append_assoc own (f ∷ []) fields)

-- nothing that has a name, where there is a field and they are more than the limit together
pub along-long : (root : Root) (own fields : List FieldId) (f : FieldId) →
    MAX_PATH_FIELDS < length own + suc (length fields) → along (Named (path_of root own)) (f ∷ fields) ≡ Unnamed
along-long root own [] f many = no_field root own f (omega arith)
along-long root own (g ∷ fields) f many =
    let long : length (own ++ f ∷ []) ≡ length own + 1 = length-append own (f ∷ []) in
    elim (nat_lt (length own) MAX_PATH_FIELDS) as (λ b.
    along (named_or_unnamed (cond b (Some (path_of root (own ++ f ∷ []))) None)) (g ∷ fields) ≡ Unnamed) [
      | true ↦ along-long root (own ++ f ∷ []) fields g (omega arith)
      | false ↦ along-unnamed (g ∷ fields)
    ]

-- the same of any fields, of which there are some
pub along-many : (root : Root) (own fields : List FieldId) → 0 < length fields →
    MAX_PATH_FIELDS < length own + length fields → along (Named (path_of root own)) fields ≡ Unnamed
along-many root own [] some many = absurd (omega arith)
along-many root own (f ∷ fields) some many = along-long root own fields f many

pub not_none : (n : ℕ) → false ≡ (n == 0) → 0 < n
not_none zero e = cc
not_none (suc n) e = omega arith

pub along-none : (v : Value) (fields : List FieldId) → true ≡ (length fields == 0) → v ≡ along v fields
along-none v [] e = refl
along-none v (f ∷ fields) e =
    let none : length (f ∷ fields) ≡ 0 = eqb-true (length (f ∷ fields)) 0 (sym e) in absurd (omega arith)
