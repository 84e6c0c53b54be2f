-- No two classes or fields of one program are the same as one of another.
use Rattle.std.proofs.Common.{◌≡◌, ℕ, zero, suc, Bool, true, false, not, ◌&&◌, List, [], ◌∷◌, Some, None, nat_eq, refl}
use Rattle.std.proofs.Common.{sym, ap, ◌∙◌}
use Rattle.std.specs.Prelude.{Option, slice_get}
use Rattle.std.specs.List.{list_all}
use Rattle.std.proofs.lemmas.Bool.{and_from, and_parts, both_ways, eq-eqb, false≢true, not-true}
use Rattle.std.proofs.lemmas.Option.{none-some, same_Some}
use Rattle.std.proofs.lemmas.Slice.Eq.{bytes_eq-Decides}
use Rattle.racer_base.specs.declared.ids.ClassId.{ClassId}
use Rattle.racer_base.specs.declared.ids.FieldId.{FieldId}
use Rattle.racer_base.proofs.Lists.{same_given}
use Rattle.core_code.specs.declared.parts.ClassCore.{ClassCore}
use Rattle.core_code.specs.declared.parts.FieldCore.{FieldCore}
use Rattle.core_code.specs.Core.{Core}
use Rattle.core_code.specs.Names.{all_differ, do_classes_differ, do_fields_differ, same_text}
use Rattle.core_code.specs.Names as core_names
use Rattle.core_code.proofs.Members.{each, at_place}
use Rattle.access_domain.specs.Records.{same_flag}
use Rattle.transfer_ties.specs.Ties.{both, same_field, ties_classes, ties_fields, ties_kinds}
use Rattle.transfer_ties.specs.Partners.{AreOneToOne}

-- both are there, and are the same
pub record AreBoth {X Y : Type 0} (same : X → Y → Bool) (o : Option X) (u : Option Y) : Type 0 where
  pub x : X
  pub y : Y
  pub left : o ≡ Some x
  pub right : u ≡ Some y
  pub holds : same x y ≡ true

pub both_there : {X Y : Type 0} (same : X → Y → Bool) (o : Option X) (u : Option Y) → both same o u ≡ true →
    AreBoth same o u
both_there same (Some x) (Some y) h = record { x = x; y = y; left = refl; right = refl; holds = h }
both_there same _ _ h = absurd (false≢true h)

pub both_none : {X Y : Type 0} (same : X → Y → Bool) (u : Option Y) → both same None u ≡ false
both_none same None = refl
both_none same (Some y) = refl

pub left_past : {X Y : Type 0} (same : X → Y → Bool) (o : Option X) (u : Option Y) → o ≡ None → false ≡ both same o u
left_past {X} same o u e = sym (ap (λ (x : Option X). both same x u) e ∙ both_none same u)

pub right_past : {X Y : Type 0} (same : X → Y → Bool) (o : Option X) (u : Option Y) → u ≡ None →
    false ≡ both same o u
right_past {X} {Y} same None u e = sym (both_none same u)
right_past {X} {Y} same (Some x) u e = sym (ap (λ (y : Option Y). both same (Some x) y) e)

pub both_found : {X Y : Type 0} (same : X → Y → Bool) (o : Option X) (u : Option Y) (x : X) (y : Y) (r : Bool) →
    o ≡ Some x → u ≡ Some y → r ≡ same x y → r ≡ both same o u
both_found same o u x y r f g e = e ∙ sym (λ i. both same (f i) (g i))

pub text_is : (xs ys : List ℕ) → same_text xs ys ≡ true → xs ≡ ys
text_is xs ys = (bytes_eq-Decides xs ys).0

pub is_text : (xs ys : List ℕ) → xs ≡ ys → same_text xs ys ≡ true
is_text xs ys = (bytes_eq-Decides xs ys).1

module _ {X : Type 0} (same : X → X → Bool) where
  unlike : (z : X) (zs : List X) (j : ℕ) (y : X) → list_all (λ w. not (same z w)) zs ≡ true →
      slice_get zs j ≡ Some y → same z y ≡ false
  unlike z zs j y all there = not-true (same z y) (each (λ w. not (same z w)) zs y all (at_place zs j y there))

  -- of different elements, two that are the same stand at one place
  pub differ_at : (xs : List X) → all_differ same xs ≡ true → (i j : ℕ) (x y : X) → slice_get xs i ≡ Some x →
      slice_get xs j ≡ Some y → same x y ≡ true → same y x ≡ true → i ≡ j
  differ_at [] h i j x y e f s t = absurd (none-some x e)
  differ_at (z ∷ zs) h zero zero x y e f s t = refl
  differ_at (z ∷ zs) h zero (suc j) x y e f s t =
      let apart = and_parts (list_all (λ w. not (same z w)) zs) (all_differ same zs) h in
      absurd (both_ways (same z y) (unlike z zs j y apart.0 f) (ap (λ w. same w y) (same_Some z x e) ∙ s))
  differ_at (z ∷ zs) h (suc i) zero x y e f s t =
      let apart = and_parts (list_all (λ w. not (same z w)) zs) (all_differ same zs) h in
      absurd (both_ways (same z x) (unlike z zs i x apart.0 e) (ap (λ w. same w x) (same_Some z y f) ∙ t))
  differ_at (z ∷ zs) h (suc i) (suc j) x y e f s t =
      let apart = and_parts (list_all (λ w. not (same z w)) zs) (all_differ same zs) h in
      ap suc (differ_at zs apart.1 i j x y e f s t)

abbrev pub class_id : ℕ → ClassId
class_id n = record { 0 = n }

abbrev pub field_id : ℕ → FieldId
field_id n = record { 0 = n }

-- ---- classes

abbrev alike : ClassCore → ClassCore → Bool
alike a b = same_text a.name b.name

one_class : (q : Core) → do_classes_differ q ≡ true → (d e : ClassId) (x y : ClassCore) →
    slice_get q.classes d.0 ≡ Some x → slice_get q.classes e.0 ≡ Some y → x.name ≡ y.name → d ≡ e
one_class q differ d e x y at_d at_e same =
    ap class_id (differ_at alike q.classes differ d.0 e.0 x y at_d at_e (is_text x.name y.name same)
    (is_text y.name x.name (sym same)))

class_right : (p q : Core) → do_classes_differ q ≡ true → (c d e : ClassId) → ties_classes p q c d ≡ true →
    ties_classes p q c e ≡ true → d ≡ e
class_right p q differ c d e one other =
    let f = both_there alike (slice_get p.classes c.0) (slice_get q.classes d.0) one in
    let g = both_there alike (slice_get p.classes c.0) (slice_get q.classes e.0) other in
    let same : f.x ≡ g.x = same_given f.x g.x (slice_get p.classes c.0) f.left g.left in
    one_class q differ d e f.y g.y f.right g.right
    (sym (text_is f.x.name f.y.name f.holds) ∙ ap (λ (a : ClassCore). a.name) same
    ∙ text_is g.x.name g.y.name g.holds)

class_left : (p q : Core) → do_classes_differ p ≡ true → (c d e : ClassId) → ties_classes p q c e ≡ true →
    ties_classes p q d e ≡ true → c ≡ d
class_left p q differ c d e one other =
    let f = both_there alike (slice_get p.classes c.0) (slice_get q.classes e.0) one in
    let g = both_there alike (slice_get p.classes d.0) (slice_get q.classes e.0) other in
    let same : f.y ≡ g.y = same_given f.y g.y (slice_get q.classes e.0) f.right g.right in
    one_class p differ c d f.x g.x f.left g.left
    (text_is f.x.name f.y.name f.holds ∙ ap (λ (a : ClassCore). a.name) same
    ∙ sym (text_is g.x.name g.y.name g.holds))

-- ---- fields

-- what is the same of two fields that are the same, by names
pub record AreAlike (p q : Core) (a b : FieldCore) : Type 0 where
  pub class : ties_classes p q a.class b.class ≡ true
  pub name : a.name ≡ b.name

pub alike_fields : (p q : Core) (a b : FieldCore) → same_field p q a b ≡ true → AreAlike p q a b
alike_fields p q a b h =
    let class = ties_classes p q a.class b.class in
    let name = same_text a.name b.name in
    let kind = ties_kinds p q a.kind b.kind in
    let static = same_flag a.is_static b.is_static in
    let four = and_parts (class && name && kind && static) (same_flag a.recorded b.recorded) h in
    let three = and_parts (class && name && kind) static four.0 in
    let two = and_parts (class && name) kind three.0 in
    let one = and_parts class name two.0 in
    record { class = one.0; name = text_is a.name b.name one.1 }

one_field : (q : Core) → do_fields_differ q ≡ true → (g h : FieldId) (x y : FieldCore) →
    slice_get q.fields g.0 ≡ Some x → slice_get q.fields h.0 ≡ Some y → x.class ≡ y.class → x.name ≡ y.name → g ≡ h
one_field q differ g h x y at_g at_h class name =
    let numbers : x.class.0 ≡ y.class.0 = ap (λ (c : ClassId). c.0) class in
    ap field_id (differ_at core_names.same_field q.fields differ g.0 h.0 x y at_g at_h
    (and_from (nat_eq x.class.0 y.class.0) (same_text x.name y.name) (eq-eqb x.class.0 y.class.0 numbers)
    (is_text x.name y.name name))
    (and_from (nat_eq y.class.0 x.class.0) (same_text y.name x.name) (eq-eqb y.class.0 x.class.0 (sym numbers))
    (is_text y.name x.name (sym name))))

module _ (p q : Core) (olds : do_classes_differ p ≡ true) (news : do_classes_differ q ≡ true) where
  field_right : do_fields_differ q ≡ true → (f g h : FieldId) → ties_fields p q f g ≡ true →
      ties_fields p q f h ≡ true → g ≡ h
  field_right differ f g h one other =
      let s = both_there (same_field p q) (slice_get p.fields f.0) (slice_get q.fields g.0) one in
      let t = both_there (same_field p q) (slice_get p.fields f.0) (slice_get q.fields h.0) other in
      let same : s.x ≡ t.x = same_given s.x t.x (slice_get p.fields f.0) s.left t.left in
      let a = alike_fields p q s.x s.y s.holds in
      let b = alike_fields p q t.x t.y t.holds in
      one_field q differ g h s.y t.y s.right t.right
      (class_right p q news s.x.class s.y.class t.y.class a.class
      (ap (λ (x : FieldCore). ties_classes p q x.class t.y.class) same ∙ b.class))
      (sym a.name ∙ ap (λ (x : FieldCore). x.name) same ∙ b.name)

  field_left : do_fields_differ p ≡ true → (f g h : FieldId) → ties_fields p q f h ≡ true →
      ties_fields p q g h ≡ true → f ≡ g
  field_left differ f g h one other =
      let s = both_there (same_field p q) (slice_get p.fields f.0) (slice_get q.fields h.0) one in
      let t = both_there (same_field p q) (slice_get p.fields g.0) (slice_get q.fields h.0) other in
      let same : s.y ≡ t.y = same_given s.y t.y (slice_get q.fields h.0) s.right t.right in
      let a = alike_fields p q s.x s.y s.holds in
      let b = alike_fields p q t.x t.y t.holds in
      one_field p differ f g s.x t.x s.left t.left
      (class_left p q olds s.x.class t.x.class s.y.class a.class
      (ap (λ (y : FieldCore). ties_classes p q t.x.class y.class) same ∙ b.class))
      (a.name ∙ ap (λ (y : FieldCore). y.name) same ∙ sym b.name)

  pub one_to_one : do_fields_differ p ≡ true → do_fields_differ q ≡ true → AreOneToOne p q
  one_to_one old_fields new_fields =
      record {
        classes = class_right p q news;
        olds = class_left p q olds;
        fields = field_right new_fields;
        old_fields = field_left old_fields;
      }
