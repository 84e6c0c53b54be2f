-- Paths and records with the numbers of a newer program.
use Rattle.std.proofs.Common.{◌≡◌, ◌≤◌, ◌&&◌, List, [], ◌∷◌, Some, None, length, refl}
use Rattle.std.proofs.Common.{sym, ap, ◌∙◌, arith}
use Rattle.std.specs.Prelude.{Option, option_map}
use Rattle.std.specs.FinSet as set
use Rattle.std.specs.Option.{option_and_then}
use Rattle.std.proofs.lemmas.Option.{none-some, same_Some}
use Rattle.racer_base.specs.declared.ids.ClassId.{ClassId}
use Rattle.racer_base.specs.declared.ids.FieldId.{FieldId}
use Rattle.racer_base.specs.declared.limits.TheConstants.{MAX_SUMMARY_KEYS}
use Rattle.racer_base.proofs.Tests.{same_truth}
use Rattle.access_paths.specs.declared.path.Root.{Root}
use Rattle.access_paths.specs.declared.path.Root.TheVariants.{This, Class, Formal, Some as SomeOf}
use Rattle.access_paths.specs.declared.path.Path.{Path}
use Rattle.access_paths.specs.Order.{PathSet, root_form}
use Rattle.access_paths.specs.Paths.{same_path}
use Rattle.access_paths.specs.Same.{equal_of_same, same_of_equal}
use Rattle.owner_domain.specs.declared.value.Value.{Value}
use Rattle.access_domain.specs.declared.access.Access.{Access}
use Rattle.access_domain.specs.declared.summary.Summary.{Summary}
use Rattle.access_domain.specs.Records.{IsWithin, first_of_keys, same_flag, same_key, same_touch}
use Rattle.transfer_ties.specs.declared.partners.Ties.{Ties}
use Rattle.transfer_ties.specs.Names.{set_in}
use Rattle.transfer_ties.specs.Partners.{AreApart, access_in, accesses_in, class_in, field_in, fields_in, path_in}
use Rattle.transfer_ties.specs.Partners.{path_of, paths_in, root_in, summary_in, summary_of, value_in}
use Rattle.transfer_ties.proofs.Given.{AreImages, firsts_kept, given_with, images, images_long, none_behind, none_with}

record IsMapped {X Y : Type 0} (made : X → Y) (o : Option X) (y : Y) : Type 0 where
  x : X
  at : o ≡ Some x
  is : made x ≡ y

mapped : {X Y : Type 0} (made : X → Y) (o : Option X) (y : Y) → option_map made o ≡ Some y → IsMapped made o y
mapped made None y e = absurd (none-some y e)
mapped made (Some x) y e = record { x = x; at = refl; is = same_Some (made x) y e }

abbrev set_from : List Path → PathSet
set_from ps = set.from_list ps

unmapped : {X Y : Type 0} (made : X → Y) (o : Option X) → option_map made o ≡ None → o ≡ None
unmapped made None e = refl
unmapped made (Some x) e = absurd (none-some (made x) (sym e))

module _ (ties : Ties) where
  abbrev with_root : Path → Root → Option Path
  with_root a root = option_map (path_of root) (fields_in ties a.fields)

  pub path_given : (a : Path) (r : Root) (fs : List FieldId) → root_in ties a.root ≡ Some r →
      fields_in ties a.fields ≡ Some fs → path_in ties a ≡ Some (path_of r fs)
  path_given a r fs root fields =
      given_with (with_root a) (root_in ties a.root) r (path_of r fs) root (ap (option_map (path_of r)) fields)

  pub no_root : (a : Path) → root_in ties a.root ≡ None → path_in ties a ≡ None
  no_root a none = none_with (with_root a) (root_in ties a.root) none

  pub no_fields : (a : Path) → fields_in ties a.fields ≡ None → path_in ties a ≡ None
  no_fields a none = none_behind (with_root a) (root_in ties a.root) (λ r. ap (option_map (path_of r)) none)

  abbrev with_wobbly : Summary → List Access → List Path → Option Summary
  with_wobbly s accesses wobbly = option_map (summary_of accesses wobbly) (value_in ties s.result)

  abbrev with_accesses : Summary → List Access → Option Summary
  with_accesses s accesses = option_and_then (with_wobbly s accesses) (paths_in ties (set.items s.wobbly))

  abbrev pub summary_with : List Access → PathSet → Value → Summary
  summary_with accesses wobbly result = record { accesses = accesses; wobbly = wobbly; result = result }

  with_paths : (s : Summary) (accesses : List Access) (wobbly : PathSet) (result : Value) →
      value_in ties s.result ≡ Some result → (o : Option (List Path)) → option_map set_from o ≡ Some wobbly →
      option_and_then (with_wobbly s accesses) o ≡ Some (summary_with accesses wobbly result)
  with_paths s accesses wobbly result value None e = absurd (none-some wobbly e)
  with_paths s accesses wobbly result value (Some ws) e =
      ap (option_map (summary_of accesses ws)) value
      ∙ ap (λ (w : PathSet). Some (summary_with accesses w result)) (same_Some (set_from ws) wobbly e)

  pub summary_given : (s : Summary) (accesses : List Access) (wobbly : PathSet) (result : Value) →
      accesses_in ties s.accesses ≡ Some accesses → set_in ties s.wobbly ≡ Some wobbly →
      value_in ties s.result ≡ Some result → summary_in ties s ≡ Some (summary_with accesses wobbly result)
  summary_given s accesses wobbly result here there value =
      given_with (with_accesses s) (accesses_in ties s.accesses) accesses (summary_with accesses wobbly result) here
      (with_paths s accesses wobbly result value (paths_in ties (set.items s.wobbly)) there)

  pub no_accesses : (s : Summary) → accesses_in ties s.accesses ≡ None → summary_in ties s ≡ None
  no_accesses s none = none_with (with_accesses s) (accesses_in ties s.accesses) none

  pub no_wobbly : (s : Summary) → set_in ties s.wobbly ≡ None → summary_in ties s ≡ None
  no_wobbly s none =
      none_behind (with_accesses s) (accesses_in ties s.accesses)
      (λ accesses. none_with (with_wobbly s accesses) (paths_in ties (set.items s.wobbly))
      (unmapped set_from (paths_in ties (set.items s.wobbly)) none))

  pub no_value : (s : Summary) → value_in ties s.result ≡ None → summary_in ties s ≡ None
  no_value s none =
      none_behind (with_accesses s) (accesses_in ties s.accesses)
      (λ accesses. none_behind (with_wobbly s accesses) (paths_in ties (set.items s.wobbly))
      (λ wobbly. ap (option_map (summary_of accesses wobbly)) none))

  -- ---- what has one partner is one

  root_form_kept : (a r : Root) → root_in ties a ≡ Some r → root_form a ≡ root_form r
  root_form_kept This r e = ap root_form (same_Some This r e)
  root_form_kept (Class c) r e = ap root_form (mapped Class (class_in ties c) r e).is
  root_form_kept (Formal i) r e = ap root_form (same_Some (Formal i) r e)
  root_form_kept (SomeOf c) r e = ap root_form (mapped SomeOf (class_in ties c) r e).is

  parts : (a p : Path) (r : Option Root) (fs : Option (List FieldId)) →
      option_and_then (λ (root : Root). option_map (path_of root) fs) r ≡ Some p →
      (r ≡ Some p.root) × (fs ≡ Some p.fields)
  parts a p None fs e = absurd (none-some p e)
  parts a p (Some r) None e = absurd (none-some p e)
  parts a p (Some r) (Some fs) e =
      let is : path_of r fs ≡ p = same_Some (path_of r fs) p e in
      (ap (λ (x : Path). Some x.root) is, ap (λ (x : Path). Some x.fields) is)

  module _ (apart : AreApart ties) where
    one_class : (c d : ClassId) (m n : ClassId) → class_in ties c ≡ Some m → class_in ties d ≡ Some n → m ≡ n → c ≡ d
    one_class c d m n at_c at_d same = apart.classes c d n (at_c ∙ ap Some same) at_d

    one_root : (a b r : Root) → root_in ties a ≡ Some r → root_in ties b ≡ Some r → a ≡ b
    one_root This This r e g = refl
    one_root (Class c) (Class d) r e g =
        let m = mapped Class (class_in ties c) r e in
        let n = mapped Class (class_in ties d) r g in
        let same : Class m.x ≡ Class n.x = m.is ∙ sym n.is in
        let classes : m.x ≡ n.x = cc in
        ap Class (one_class c d m.x n.x m.at n.at classes)
    one_root (Formal i) (Formal j) r e g =
        let same : Formal i ≡ Formal j = same_Some (Formal i) r e ∙ sym (same_Some (Formal j) r g) in
        same
    one_root (SomeOf c) (SomeOf d) r e g =
        let m = mapped SomeOf (class_in ties c) r e in
        let n = mapped SomeOf (class_in ties d) r g in
        let same : SomeOf m.x ≡ SomeOf n.x = m.is ∙ sym n.is in
        let classes : m.x ≡ n.x = cc in
        ap SomeOf (one_class c d m.x n.x m.at n.at classes)
    one_root a b r e g =
        let forms : root_form a ≡ root_form b = root_form_kept a r e ∙ sym (root_form_kept b r g) in
        absurd (omega arith)

    one_list : (fs gs hs : List FieldId) → AreImages (field_in ties) fs hs → AreImages (field_in ties) gs hs → fs ≡ gs
    one_list [] [] hs i j = refl
    one_list [] (g ∷ gs) [] i j = absurd j
    one_list [] (g ∷ gs) (h ∷ hs) i j = absurd i
    one_list (f ∷ fs) [] [] i j = absurd i
    one_list (f ∷ fs) [] (h ∷ hs) i j = absurd j
    one_list (f ∷ fs) (g ∷ gs) [] i j = absurd i
    one_list (f ∷ fs) (g ∷ gs) (h ∷ hs) i j =
        λ k. apart.fields f g h i.0 j.0 k ∷ one_list fs gs hs i.1 j.1 k

    pub one_path : (a b p : Path) → path_in ties a ≡ Some p → path_in ties b ≡ Some p → a ≡ b
    one_path a b p e g =
        let m = parts a p (root_in ties a.root) (fields_in ties a.fields) e in
        let n = parts b p (root_in ties b.root) (fields_in ties b.fields) g in
        let root : a.root ≡ b.root = one_root a.root b.root p.root m.0 n.0 in
        let fields : a.fields ≡ b.fields =
        one_list a.fields b.fields p.fields (images (field_in ties) a.fields p.fields m.1)
        (images (field_in ties) b.fields p.fields n.1) in
        (λ i. path_of (root i) (fields i))

    paths_kept : (a b x y : Path) → path_in ties a ≡ Some x → path_in ties b ≡ Some y → same_path a b ≡ same_path x y
    paths_kept a b x y e g =
        same_truth (same_path a b) (same_path x y)
        (λ h. same_of_equal x y
        (same_Some x y (sym e ∙ ap (path_in ties) (equal_of_same a b h) ∙ g)))
        (λ h. same_of_equal a b (one_path a b x e (g ∙ ap Some (sym (equal_of_same x y h)))))

    abbrev with_path : Access → Path → Access
    with_path a path = record a { path = path }

    keys_kept : (a b x y : Access) → access_in ties a ≡ Some x → access_in ties b ≡ Some y →
        same_key a b ≡ same_key x y
    keys_kept a b x y e g =
        let m = mapped (with_path a) (path_in ties a.path) x e in
        let n = mapped (with_path b) (path_in ties b.path) y g in
        (λ i. paths_kept a.path b.path m.x n.x m.at n.at i && same_touch a.kind b.kind
        && same_flag a.locked b.locked && same_flag a.main b.main)
        ∙ (λ i. same_key (m.is i) (n.is i))

    -- no two records come to have one key
    pub within : (xs ys : List Access) → accesses_in ties xs ≡ Some ys → first_of_keys xs ≡ xs →
        length xs ≤ MAX_SUMMARY_KEYS → IsWithin ys
    within xs ys given different few =
        let long : length ys ≡ length xs = images_long (access_in ties) xs ys (images (access_in ties) xs ys given) in
        record {
          firsts = firsts_kept (access_in ties) same_key same_key keys_kept xs ys given different;
          limit = omega arith;
        }
