-- Fields are found by their names in the class reached.
use Rattle.std.proofs.Common.{◌≡◌, ℕ, ◌+◌, Bool, true, false, cond, ◌&&◌, not, List, [], ◌∷◌, ◌++◌, Option, None, Some}
use Rattle.std.proofs.Common.{is_some, map, nat_eq, refl, sym, ap, subst, ◌∙◌, arith, append_assoc, append-nil, fold}
use borrow.Author.Tests.{eqb-true}
use Rattle.std.proofs.lemmas.Bool.{eq-eqb, and_from, and_parts}
use Rattle.std.proofs.lemmas.List.Sums.{fold_push}
use Rattle.std.specs.Option.{option_and_then, option_map}
use Rattle.racer_base.specs.declared.ids.FieldId.{FieldId}
use Rattle.core_code.specs.declared.parts.FieldCore.{FieldCore}
use Rattle.core_code.specs.declared.program.Program.{Program}
use Rattle.core_code.specs.Core.{Core}
use Rattle.core_code.specs.Kinds.{same_class}
use Rattle.core_code.specs.KindCheck.{field_at}
use Rattle.core_code.specs.Names.{do_fields_differ, same_field, same_text}
use Rattle.core_code.specs.Program.{core as core_of}
use Rattle.core_semantics.specs.declared.object.StartPath.{StartPath}
use Rattle.core_semantics.specs.Objects.{lengthened, root_path}
use Rattle.core_semantics_kinds.specs.Reached.{ObjectOf, Reached, Roots, TheClass, behind, behind_field, object_of}
use Rattle.core_semantics_kinds.specs.Reached.{reached_from}
use Rattle.witness_text_names.specs.Names.{class_in, field_named, is_field_named}
use Rattle.witness_text_names.specs.Objects.{one_field, path_along}
use Rattle.witness_text.proofs.FirstFound.{found-first}

-- ---- texts

pub text-refl : (t : List ℕ) → same_text t t ≡ true
text-refl [] = refl
text-refl (b ∷ bs) = and_from (nat_eq b b) (same_text bs bs) (eq-eqb b b refl) (text-refl bs)

pub text-equal : (s t : List ℕ) → same_text s t ≡ true → s ≡ t
text-equal [] [] h = refl
text-equal [] (b ∷ bs) h = absurd cc
text-equal (a ∷ cs) [] h = absurd cc
text-equal (a ∷ cs) (b ∷ bs) h =
    let head : a ≡ b = eqb-true a b (and_parts (nat_eq a b) (same_text cs bs) h).0 in
    let rest : cs ≡ bs = text-equal cs bs (and_parts (nat_eq a b) (same_text cs bs) h).1 in
    (λ i. head i ∷ rest i)

-- ---- the field of a name

-- where something stands behind a field, the field is of the class reached
pub behind-class : (field : FieldCore) (r : Reached) → is_some (behind_field field r) ≡ true →
    same_class (class_in r) field.class ≡ true
behind-class field (ObjectOf c) h = by (same_class c field.class) refl h
  where
    by : (b : Bool) → same_class c field.class ≡ b →
        is_some (cond (b && not field.is_static) (object_of field.kind) None) ≡ true → same_class c field.class ≡ true
    by true e g = e
    by false e g = absurd cc
behind-class field (TheClass c) h = by (same_class c field.class) refl h
  where
    by : (b : Bool) → same_class c field.class ≡ b →
        is_some (cond (b && field.is_static) (object_of field.kind) None) ≡ true → same_class c field.class ≡ true
    by true e g = e
    by false e g = absurd cc

abbrev pub name-of : Option FieldCore → List ℕ
name-of o = elim o [ None ↦ [] | Some field ↦ field.name ]

pub named-field : (core : Core) (r : Reached) (f : FieldId) (field : FieldCore) → do_fields_differ core ≡ true →
    field_at core f ≡ Some field → same_class (class_in r) field.class ≡ true →
    field_named core field.name r ≡ Some f
named-field core r f field differ there of_class =
    ap (option_map (λ (e : ℕ × FieldCore). let g : FieldId = record { 0 = e.0 } in g))
    (found-first same_field (is_field_named (class_in r) field.name) 0 core.fields f.0 field differ there
    (and_from (same_class (class_in r) field.class) (same_text field.name field.name) of_class
    (text-refl field.name)) one)
    ∙ (let zero_on : 0 + f.0 ≡ f.0 = omega arith in
    ap (λ (n : ℕ). let g : FieldId = record { 0 = n } in Some g) zero_on)
  where
    one : (y : FieldCore) → is_field_named (class_in r) field.name y ≡ true → same_field y field ≡ true
    one y h =
        let class : (class_in r).0 ≡ y.class.0 =
        eqb-true (class_in r).0 y.class.0
        (and_parts (same_class (class_in r) y.class) (same_text y.name field.name) h).0 in
        let wanted : (class_in r).0 ≡ field.class.0 =
        eqb-true (class_in r).0 field.class.0 of_class in
        and_from (nat_eq y.class.0 field.class.0) (same_text y.name field.name)
        (eq-eqb y.class.0 field.class.0 (sym class ∙ wanted))
        (and_parts (same_class (class_in r) y.class) (same_text y.name field.name) h).1

-- ---- along the fields of a path

-- the class that a field is behind
pub record GoesOn (core : Core) (o : Option Reached) (f : FieldId) : Type 0 where
  pub from : Reached
  pub is : o ≡ Some from
  pub field : FieldCore
  pub there : field_at core f ≡ Some field
  pub leads : is_some (behind_field field from) ≡ true

pub field-there : (core : Core) (o : Option Reached) (f : FieldId) → is_some (behind core o f) ≡ true → GoesOn core o f
field-there core None f h = absurd cc
field-there core (Some r) f h = by (field_at core f) refl h
  where
    by : (o : Option FieldCore) → field_at core f ≡ o →
        is_some (option_and_then (λ (field : FieldCore). behind_field field r) o) ≡ true → GoesOn core (Some r) f
    by None e g = absurd cc
    by (Some field) e g = record { from = r; is = refl; field = field; there = e; leads = g }

module _ (p : Program) (roots : Roots) where
  abbrev pub name_from : FieldId → List ℕ
  name_from f = name-of (field_at (core_of p) f)

  -- a path that goes on is found by the name of its next field
  pub one-more : (q : StartPath) (f : FieldId) →
      is_some (behind (core_of p) (reached_from (core_of p) roots q) f) ≡ true →
      one_field (core_of p) roots (name_from f) q ≡ Some (lengthened q f)
  one-more q f leads =
      let core : Core = core_of p in
      let parts : GoesOn core (reached_from core roots q) f = field-there core (reached_from core roots q) f leads in
      let longer : reached_from core roots (lengthened q f) ≡ behind core (reached_from core roots q) f =
      fold_push (behind core) (roots q.root) q.fields f in
      let named : name_from f ≡ parts.field.name = ap name-of parts.there in
      let found : field_named core (name_from f) parts.from ≡ Some f =
      ap (λ (t : List ℕ). field_named core t parts.from) named
      ∙ named-field core parts.from f parts.field p.fields_differ parts.there
      (behind-class parts.field parts.from parts.leads) in
      ap (λ (o : Option Reached). option_and_then
      (λ g. cond (is_some (reached_from core roots (lengthened q g))) (Some (lengthened q g)) None)
      (option_and_then (field_named core (name_from f)) o)) parts.is
      ∙ ap (option_and_then (λ g. cond (is_some (reached_from core roots (lengthened q g))) (Some (lengthened q g))
      None))
      found
      ∙ ap (λ (b : Bool). cond b (Some (lengthened q f)) None) (ap is_some longer ∙ leads)

  -- ---- all of them

  fields-after : (q : StartPath) (f : FieldId) (fs : List FieldId) →
      (let x : StartPath = record { root = q.root; fields = (q.fields ++ f ∷ []) ++ fs } in x)
      ≡ record { root = q.root; fields = q.fields ++ f ∷ fs }
  fields-after q f fs =
      ap (λ (gs : List FieldId). let x : StartPath = record { root = q.root; fields = gs } in x)
      (append_assoc q.fields (f ∷ []) fs)

  -- each front of the fields leads on
  abbrev pub LeadAll : Option Reached → List FieldId → Type 0
  LeadAll r [] = Unit {0}
  LeadAll r (f ∷ fs) = (is_some (behind (core_of p) r f) ≡ true) × LeadAll (behind (core_of p) r f) fs

  none-on : (fs : List FieldId) → fold (behind (core_of p)) None fs ≡ None
  none-on [] = refl
  none-on (f ∷ fs) = none-on fs

  leads-first : (r : Option Reached) (fs : List FieldId) → is_some (fold (behind (core_of p)) r fs) ≡ true →
      is_some r ≡ true
  leads-first None fs h = let wrong : false ≡ true = ap is_some (sym (none-on fs)) ∙ h in absurd cc
  leads-first (Some r) fs h = refl

  pub all-lead : (r : Option Reached) (fs : List FieldId) → is_some (fold (behind (core_of p)) r fs) ≡ true →
      LeadAll r fs
  all-lead r [] h = tt
  all-lead r (f ∷ fs) h = (leads-first (behind (core_of p) r f) fs h, all-lead (behind (core_of p) r f) fs h)

  along : (fs : List FieldId) (q : StartPath) → LeadAll (reached_from (core_of p) roots q) fs →
      path_along (core_of p) roots (map name_from fs) q ≡ Some (record { root = q.root; fields = q.fields ++ fs })
  along [] q h =
      ap (λ (gs : List FieldId). let x : StartPath = record { root = q.root; fields = gs } in Some x)
      (sym (append-nil q.fields))
  along (f ∷ fs) q h =
      let longer :
      reached_from (core_of p) roots (lengthened q f) ≡ behind (core_of p) (reached_from (core_of p) roots q) f =
      fold_push (behind (core_of p)) (roots q.root) q.fields f in
      ap (option_and_then (path_along (core_of p) roots (map name_from fs))) (one-more q f h.0)
      ∙ along fs (lengthened q f) (subst (λ (r : Option Reached). LeadAll r fs) (sym longer) h.1)
      ∙ ap Some (fields-after q f fs)

  -- the names of a right start path lead to it, from its root
  pub path-found : (q : StartPath) → is_some (reached_from (core_of p) roots q) ≡ true →
      path_along (core_of p) roots (map name_from q.fields) (root_path q.root) ≡ Some q
  path-found q h = along q.fields (root_path q.root) (all-lead (roots q.root) q.fields h)
