-- What is the same by partners is the same by names.
use Rattle.std.proofs.Common.{◌≡◌, Bool, true, false, ◌&&◌, List, [], ◌∷◌, Some, None, nat_eq, refl, sym, ap, ◌∙◌}
use Rattle.std.specs.Prelude.{Option, MatchOption, length, option_map}
use Rattle.std.specs.Bool.{Decides}
use Rattle.std.specs.Option.{option_and_then}
use Rattle.std.specs.Cmp.Lexicographic.{pointwise}
use Rattle.std.proofs.Math.Bool.{and-false}
use Rattle.std.proofs.lemmas.Bool.{eq-eqb, eqb-true}
use Rattle.std.proofs.lemmas.Option.{MatchOption-at_some}
use Rattle.racer_base.specs.declared.ids.ClassId.{ClassId}
use Rattle.racer_base.specs.declared.ids.FieldId.{FieldId}
use Rattle.racer_base.specs.declared.ids.Kind.{Kind}
use Rattle.racer_base.specs.declared.ids.Kind.TheVariants.{Declared}
use Rattle.racer_base.proofs.Tests.{same_truth}
use Rattle.access_paths.specs.declared.path.Root.{Root}
use Rattle.access_paths.specs.declared.path.Root.TheVariants.{This, Class, Formal, Some as SomeOf}
use Rattle.access_paths.specs.declared.path.Path.{Path}
use Rattle.access_paths.specs.Paths.{same_fields, same_path, same_root}
use Rattle.owner_domain.specs.declared.value.Value.{Value}
use Rattle.owner_domain.specs.declared.value.Value.TheVariants.{Named}
use Rattle.core_code.specs.Core.{Core, Method}
use Rattle.core_code.specs.Names.{same_text}
use Rattle.access_domain.specs.declared.access.Access.{Access}
use Rattle.access_domain.specs.Records.{same_flag, same_touch}
use Rattle.transfer_ties.specs.declared.partners.Ties.{Ties}
use Rattle.transfer_ties.specs.Ties.{ties_classes, ties_fields, ties_kinds}
use Rattle.transfer_ties.specs.Ties as spec
use Rattle.transfer_ties.specs.Forms.{same_kinds}
use Rattle.transfer_ties.specs.Outcomes.{same_index, same_record, ties_paths, ties_roots, ties_values}
use Rattle.transfer_ties.specs.Names.{TellClasses, class_at, is_partner, is_partner_class, is_partner_field}
use Rattle.transfer_ties.specs.Names as named
use Rattle.transfer_ties.specs.Partners.{AreApart, AreOneToOne, AreTies, class_in, field_in, fields_in, path_in}
use Rattle.transfer_ties.specs.Partners.{path_of, root_in}
use Rattle.transfer_ties.proofs.OneToOne.{class_id, field_id}
use Rattle.transfer_ties.proofs.Walks.{pointwise_same}

-- the only partner there is
partner_tells : {X : Type 0} (same : X → X → Bool) → ((x y : X) → Decides (same x y) (x ≡ y)) → (tie : X → Bool) →
    ((x y : X) → tie x ≡ true → tie y ≡ true → x ≡ y) → (o : Option X) (y : X) →
    MatchOption o ((z : X) → tie z ≡ false) (λ x. tie x ≡ true) → is_partner same o y ≡ tie y
partner_tells same equal tie one None y none = sym (none y)
partner_tells same equal tie one (Some x) y there =
    same_truth (same x y) (tie y) (λ h. sym (ap tie ((equal x y).0 h)) ∙ there) (λ h. (equal x y).1 (one x y there h))

abbrev equal_class : ClassId → ClassId → Bool
equal_class c d = nat_eq c.0 d.0

class_equal : (c d : ClassId) → Decides (equal_class c d) (c ≡ d)
class_equal c d =
    (λ h. ap class_id (eqb-true c.0 d.0 h), λ e. eq-eqb c.0 d.0 (ap (λ (x : ClassId). x.0) e))

abbrev equal_field : FieldId → FieldId → Bool
equal_field f g = nat_eq f.0 g.0

field_equal : (f g : FieldId) → Decides (equal_field f g) (f ≡ g)
field_equal f g =
    (λ h. ap field_id (eqb-true f.0 g.0 h), λ e. eq-eqb f.0 g.0 (ap (λ (x : FieldId). x.0) e))

-- ---- by a list of the partners of classes

module _ (p q : Core) (one : AreOneToOne p q) (classes : List (Option ClassId)) (told : TellClasses p q classes) where
  pub told_class : (c d : ClassId) → is_partner_class (class_at classes c) d ≡ ties_classes p q c d
  told_class c d =
      partner_tells equal_class class_equal (ties_classes p q c) (one.classes c) (class_at classes c) d (told c)

  pub told_kind : (k l : Kind) → named.same_kind classes k l ≡ ties_kinds p q k l
  told_kind (Declared c) (Declared d) = told_class c d
  told_kind _ _ = refl

  pub told_kinds : (ks ls : List Kind) → named.same_kinds classes ks ls ≡ same_kinds p q ks ls
  told_kinds = pointwise_same (named.same_kind classes) (ties_kinds p q) told_kind

-- ---- by ties

module _ (p q : Core) (ties : Ties) (are : AreTies p q ties) where
  pub tied_class : (c d : ClassId) → is_partner_class (class_in ties c) d ≡ ties_classes p q c d
  tied_class = told_class p q are.one_to_one ties.classes.items are.classes

  pub tied_field : (f g : FieldId) → is_partner_field (field_in ties f) g ≡ ties_fields p q f g
  tied_field f g =
      partner_tells equal_field field_equal (ties_fields p q f) (are.one_to_one.fields f) (field_in ties f) g
      (are.fields f)

  pub tied_kind : (k l : Kind) → named.same_kind ties.classes.items k l ≡ ties_kinds p q k l
  tied_kind = told_kind p q are.one_to_one ties.classes.items are.classes

  pub tied_kinds : (ks ls : List Kind) → named.same_kinds ties.classes.items ks ls ≡ same_kinds p q ks ls
  tied_kinds = told_kinds p q are.one_to_one ties.classes.items are.classes

  pub tied_signature : (a b : Method) → named.same_signature ties a b ≡ spec.same_signature p q a b
  tied_signature a b = λ i.
      tied_class a.class b.class i && same_text a.name b.name && nat_eq (length a.parameters) (length b.parameters)

  pub tied_called : (a b : Method) → named.same_called ties a b ≡ spec.same_callee p q a b
  tied_called a b = λ i. tied_signature a b i && same_flag a.is_static b.is_static

  pub tied_head : (a b : Method) → named.same_head ties a b ≡
      (spec.same_signature p q a b && same_kinds p q a.parameters b.parameters && ties_kinds p q a.result b.result
      && same_kinds p q a.variables b.variables && same_flag a.is_static b.is_static && same_flag a.main b.main)
  tied_head a b = λ i.
      tied_signature a b i && tied_kinds a.parameters b.parameters i && tied_kind a.result b.result i
      && tied_kinds a.variables b.variables i && same_flag a.is_static b.is_static && same_flag a.main b.main

  tied_root : (r s : Root) → named.same_root ties r s ≡ ties_roots p q r s
  tied_root (Class c) (Class d) = tied_class c d
  tied_root (SomeOf c) (SomeOf d) = tied_class c d
  tied_root _ _ = refl

  pub tied_path : (a b : Path) → named.same_path ties a b ≡ ties_paths p q a b
  tied_path a b = λ i.
      tied_root a.root b.root i
      && pointwise_same (λ f g. is_partner_field (field_in ties f) g) (ties_fields p q) tied_field a.fields b.fields i

  pub tied_value : (v w : Value) → named.same_value ties v w ≡ ties_values p q v w
  tied_value (Named a) (Named b) = tied_path a b
  tied_value _ _ = refl

  tied_record : (a b : Access) → named.same_record ties a b ≡ same_record p q a b
  tied_record a b = λ i.
      tied_path a.path b.path i && same_touch a.kind b.kind && same_flag a.locked b.locked
      && same_flag a.main b.main && nat_eq a.site.0 b.site.0 && same_index a.below b.below

  pub tied_records : (xs ys : List Access) → named.same_records ties xs ys ≡ pointwise (same_record p q) xs ys
  tied_records = pointwise_same (named.same_record ties) (same_record p q) tied_record

  -- ---- what is given

  tied_to : (c d : ClassId) → class_in ties c ≡ Some d → ties_classes p q c d ≡ true
  tied_to c d at =
      MatchOption-at_some ((e : ClassId) → ties_classes p q c e ≡ false) (λ e. ties_classes p q c e ≡ true) d at
      (are.classes c)

  field_tied_to : (f g : FieldId) → field_in ties f ≡ Some g → ties_fields p q f g ≡ true
  field_tied_to f g at =
      MatchOption-at_some ((h : FieldId) → ties_fields p q f h ≡ false) (λ h. ties_fields p q f h ≡ true) g at
      (are.fields f)

  -- no two have one partner
  pub apart : AreApart ties
  apart =
      record {
        classes = λ c d e at_c at_d. are.one_to_one.olds c d e (tied_to c e at_c) (tied_to d e at_d);
        fields = λ f g h at_f at_g. are.one_to_one.old_fields f g h (field_tied_to f h at_f) (field_tied_to g h at_g);
      }

  other_root : (made : ClassId → Root) (o : Option ClassId) (s : Root) →
      ((c : ClassId) → same_root (made c) s ≡ false) → is_partner same_root (option_map made o) s ≡ false
  other_root made None s other = refl
  other_root made (Some c) s other = other c

  one_root : (made : ClassId → Root) (o : Option ClassId) (d : ClassId) →
      ((c : ClassId) → same_root (made c) (made d) ≡ equal_class c d) →
      is_partner same_root (option_map made o) (made d) ≡ is_partner_class o d
  one_root made None d is = refl
  one_root made (Some c) d is = is c

  root_tells : (r s : Root) → is_partner same_root (root_in ties r) s ≡ ties_roots p q r s
  root_tells (Class c) (Class d) = one_root Class (class_in ties c) d (λ e. refl) ∙ tied_class c d
  root_tells (Class c) This = other_root Class (class_in ties c) This (λ e. refl)
  root_tells (Class c) (Formal j) = other_root Class (class_in ties c) (Formal j) (λ e. refl)
  root_tells (Class c) (SomeOf d) = other_root Class (class_in ties c) (SomeOf d) (λ e. refl)
  root_tells (SomeOf c) (SomeOf d) = one_root SomeOf (class_in ties c) d (λ e. refl) ∙ tied_class c d
  root_tells (SomeOf c) This = other_root SomeOf (class_in ties c) This (λ e. refl)
  root_tells (SomeOf c) (Formal j) = other_root SomeOf (class_in ties c) (Formal j) (λ e. refl)
  root_tells (SomeOf c) (Class d) = other_root SomeOf (class_in ties c) (Class d) (λ e. refl)
  root_tells _ _ = refl

  no_fields : (o : Option FieldId) (os : Option (List FieldId)) →
      is_partner same_fields (option_and_then (λ (f : FieldId). option_map (λ (fs : List FieldId). f ∷ fs) os) o) []
      ≡ false
  no_fields None os = refl
  no_fields (Some f) None = refl
  no_fields (Some f) (Some fs) = refl

  more_fields : (o : Option FieldId) (os : Option (List FieldId)) (g : FieldId) (gs : List FieldId) →
      is_partner same_fields (option_and_then (λ (f : FieldId). option_map (λ (fs : List FieldId). f ∷ fs) os) o)
      (g ∷ gs) ≡ (is_partner_field o g && is_partner same_fields os gs)
  more_fields None os g gs = refl
  more_fields (Some f) None g gs = sym (and-false (nat_eq f.0 g.0))
  more_fields (Some f) (Some fs) g gs = refl

  fields_tell : (fs gs : List FieldId) →
      is_partner same_fields (fields_in ties fs) gs ≡ pointwise (ties_fields p q) fs gs
  fields_tell [] [] = refl
  fields_tell [] (g ∷ gs) = refl
  fields_tell (f ∷ fs) [] = no_fields (field_in ties f) (fields_in ties fs)
  fields_tell (f ∷ fs) (g ∷ gs) =
      more_fields (field_in ties f) (fields_in ties fs) g gs ∙ (λ i. tied_field f g i && fields_tell fs gs i)

  parts_tell : (r : Option Root) (fs : Option (List FieldId)) (b : Path) →
      is_partner same_path (option_and_then (λ (root : Root). option_map (path_of root) fs) r) b ≡
      (is_partner same_root r b.root && is_partner same_fields fs b.fields)
  parts_tell None fs b = refl
  parts_tell (Some r) None b = sym (and-false (same_root r b.root))
  parts_tell (Some r) (Some fs) b = refl

  -- the path that is given is the one that is the same
  pub path_tells : (a b : Path) → is_partner same_path (path_in ties a) b ≡ ties_paths p q a b
  path_tells a b =
      parts_tell (root_in ties a.root) (fields_in ties a.fields) b
      ∙ (λ i. root_tells a.root b.root i && fields_tell a.fields b.fields i)
