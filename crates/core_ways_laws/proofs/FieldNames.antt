-- Names with one field more, and the kinds of fields.
use Rattle.std.proofs.Common.{◌≡◌, Bool, true, ◌&&◌, [], ◌∷◌, ◌++◌}
use Rattle.std.proofs.Common.{Option, None, Some, IsTrue}
use Rattle.std.proofs.Common.{refl, sym, ap, ◌∙◌}
use Rattle.std.proofs.lemmas.List.Folds.{list_all-append}
use Rattle.std.proofs.lemmas.Option.{get_or_from_slice_get}
use Rattle.std.proofs.lemmas.Bool.{and_from, and_parts}
use Rattle.racer_base.specs.declared.ids.ClassId.{ClassId}
use Rattle.racer_base.specs.declared.ids.FieldId.{FieldId}
use Rattle.racer_base.specs.declared.ids.Kind.{Kind}
use Rattle.racer_base.specs.declared.ids.Kind.TheVariants.{Plain, Declared, Other}
use Rattle.access_paths.specs.declared.path.Path.{Path}
use Rattle.access_paths.specs.Paths.{extended}
use Rattle.access_domain.specs.Findings.{Table}
use Rattle.access_domain.specs.FlowContext.{given_of, is_plain}
use Rattle.access_domain.specs.Longer.{longer, path_of}
use Rattle.core_code.specs.declared.parts.FieldCore.{FieldCore}
use Rattle.core_code.specs.Core.{Core}
use Rattle.core_code.specs.KindCheck.{field_at}
use Rattle.core_semantics.specs.Steps.{kind_of as field_kind}
use Rattle.core_ways_laws.specs.Names.{longer_name}
use Rattle.core_ways_laws.specs.Quiet.{are_declared, is_declared}

-- ---- paths with one field more

pub longer-some : (name : Option Path) (f : FieldId) (r : Path) → longer_name name f ≡ Some r →
    (q : Path) × (name ≡ Some q) × (extended q f ≡ Some r)
longer-some None f r e = absurd cc
longer-some (Some q) f r e = (q, refl, e)

-- ---- declared fields

pub last-declared : (core : Core) (q : Path) (f : FieldId) (r : Path) → extended q f ≡ Some r →
    IsTrue (are_declared core r) → is_declared (field_kind core f) ≡ true
last-declared core q f r e all =
    let test : FieldId → Bool = λ g. is_declared (field_kind core g) in
    let whole : are_declared core (path_of q.root (q.fields ++ f ∷ [])) ≡ true =
    ap (are_declared core) (sym (longer q f r e).is) ∙ all in
    (and_parts (test f) true
    (and_parts (are_declared core q) (test f && true) (sym (list_all-append test q.fields (f ∷ [])) ∙ whole)).1).0

pub declared-longer : (core : Core) (q : Path) (f : FieldId) (r : Path) → extended q f ≡ Some r →
    IsTrue (are_declared core q) → is_declared (field_kind core f) ≡ true → IsTrue (are_declared core r)
declared-longer core q f r e all last =
    let test : FieldId → Bool = λ g. is_declared (field_kind core g) in
    ap (are_declared core) (longer q f r e).is
    ∙ list_all-append test q.fields (f ∷ [])
    ∙ and_from (are_declared core q) (test f && true) all (and_from (test f) true last refl)

pub declared-kind : (k : Kind) → is_declared k ≡ true → (c : ClassId) × (k ≡ Declared c)
declared-kind Plain e = absurd cc
declared-kind (Declared c) e = (c, refl)
declared-kind Other e = absurd cc

-- ---- a field that there is

pub plain-there : (core : Core) (table : Table) (main : Bool) (f : FieldId) (field : FieldCore) →
    field_at core f ≡ Some field → (given_of core table main).is_plain_field f ≡ is_plain field.kind
plain-there core table main f field there =
    ap (λ (x : FieldCore). is_plain x.kind) (get_or_from_slice_get core.fields f.0 field _ there)
