-- No two classes and no two fields of one program are the same by their names as one of another program.
use Rattle.std.proofs.Common.{◌≡◌, ℕ, zero, suc, ◌<◌, Bool, true, ◌&&◌, not, List, [], ◌∷◌, Option, Some}
use Rattle.std.proofs.Common.{length, nat_eq, slice_get, refl, sym, ap, ◌∙◌}
use Rattle.std.proofs.lemmas.Bool.{and_from, and_parts, eq-eqb, false≢true, not-true}
use Rattle.std.proofs.lemmas.Option.{slice_get_within}
use Rattle.std.specs.Cmp.Lexicographic.{bytes_decides}
use Rattle.std.specs.List.{list_all}
use Rattle.racer_base.proofs.Lists.{same_given}
use Rattle.racer_base.specs.declared.ids.ClassId.{ClassId}
use Rattle.racer_base.specs.declared.ids.FieldId.{FieldId}
use Rattle.core_code.specs.declared.parts.ClassCore.{ClassCore}
use Rattle.core_code.specs.declared.parts.FieldCore.{FieldCore}
use Rattle.core_code.specs.Core.{Core}
use Rattle.core_code.specs.Names.{all_differ, do_classes_differ, do_fields_differ, same_text}
use Rattle.core_code.specs.Names as names
use Rattle.core_code.proofs.Members.{at_place, each}
use Rattle.access_domain.specs.Records.{same_flag}
use Rattle.transfer_ties.specs.Partners.{AreOneToOne}
use Rattle.transfer_ties.specs.Ties.{both, same_field, ties_classes, ties_fields, ties_kinds}

-- both are there, and pass
pub record AreBoth {X Y : Type 0} (test : X → Y → Bool) (o : Option X) (u : Option Y) : Type 0 where
  pub old : X
  pub new : Y
  pub is_old : o ≡ Some old
  pub is_new : u ≡ Some new
  pub same : test old new ≡ true

pub both_given : {X Y : Type 0} (same : X → Y → Bool) (o : Option X) (u : Option Y) → both same o u ≡ true →
    AreBoth same o u
both_given same (Some x) (Some y) e = record { old = x; new = y; is_old = refl; is_new = refl; same = e }
both_given same _ _ e = absurd (false≢true e)

-- two elements of a list that are the same stand at one place
pub at_one_place : {X : Type 0} (same : X → X → Bool) (xs : List X) (i j : ℕ) (x y : X) →
    all_differ same xs ≡ true → slice_get xs i ≡ Some x → slice_get xs j ≡ Some y → same x y ≡ true →
    same y x ≡ true → i ≡ j
at_one_place same [] i j x y differ e h there back = absurd cc
at_one_place same (z ∷ zs) zero zero x y differ e h there back = refl
at_one_place same (z ∷ zs) zero (suc j) x y differ e h there back =
    let others = (and_parts (list_all (λ w. not (same z w)) zs) (all_differ same zs) differ).0 in
    let no : not (same z y) ≡ true = each (λ w. not (same z w)) zs y others (at_place zs j y h) in
    let first : z ≡ x = same_given z x (Some z) refl e in
    absurd (false≢true (sym (not-true (same z y) no) ∙ ap (λ w. same w y) first ∙ there))
at_one_place same (z ∷ zs) (suc i) zero x y differ e h there back =
    let others = (and_parts (list_all (λ w. not (same z w)) zs) (all_differ same zs) differ).0 in
    let no : not (same z x) ≡ true = each (λ w. not (same z w)) zs x others (at_place zs i x e) in
    let first : z ≡ y = same_given z y (Some z) refl h in
    absurd (false≢true (sym (not-true (same z x) no) ∙ ap (λ w. same w x) first ∙ back))
at_one_place same (z ∷ zs) (suc i) (suc j) x y differ e h there back =
    ap suc
    (at_one_place same zs i j x y (and_parts (list_all (λ w. not (same z w)) zs) (all_differ same zs) differ).1 e h
    there back)

-- ---- classes

pub text_same : (text other : List ℕ) → same_text text other ≡ true → text ≡ other
text_same text other e = (bytes_decides text other).0 e

same_as_text : (text other : List ℕ) → text ≡ other → same_text text other ≡ true
same_as_text text other e = (bytes_decides text other).1 e

pub class_tie : (p q : Core) (c d : ClassId) → ties_classes p q c d ≡ true →
    AreBoth (λ (a b : ClassCore). same_text a.name b.name) (slice_get p.classes c.0) (slice_get q.classes d.0)
class_tie p q c d e =
    both_given (λ (a b : ClassCore). same_text a.name b.name) (slice_get p.classes c.0) (slice_get q.classes d.0) e

abbrev class_of : ℕ → ClassId
class_of n = record { 0 = n }

abbrev field_of : ℕ → FieldId
field_of n = record { 0 = n }

-- two classes of a program that have one name are one
one_class : (core : Core) (c d : ClassId) (a b : ClassCore) → do_classes_differ core ≡ true →
    slice_get core.classes c.0 ≡ Some a → slice_get core.classes d.0 ≡ Some b → a.name ≡ b.name → c ≡ d
one_class core c d a b differ e h named =
    ap class_of
    (at_one_place (λ (x y : ClassCore). same_text x.name y.name) core.classes c.0 d.0 a b differ e h
    (same_as_text a.name b.name named) (same_as_text b.name a.name (sym named)))

one_right_class : (p q : Core) → do_classes_differ q ≡ true → (c d e : ClassId) → ties_classes p q c d ≡ true →
    ties_classes p q c e ≡ true → d ≡ e
one_right_class p q differ c d e h k =
    let one = class_tie p q c d h in
    let other = class_tie p q c e k in
    let same : one.old ≡ other.old =
    same_given one.old other.old (slice_get p.classes c.0) one.is_old other.is_old in
    one_class q d e one.new other.new differ one.is_new other.is_new
    (sym (text_same one.old.name one.new.name one.same) ∙ ap (λ (x : ClassCore). x.name) same
    ∙ text_same other.old.name other.new.name other.same)

one_left_class : (p q : Core) → do_classes_differ p ≡ true → (c d e : ClassId) → ties_classes p q c e ≡ true →
    ties_classes p q d e ≡ true → c ≡ d
one_left_class p q differ c d e h k =
    let one = class_tie p q c e h in
    let other = class_tie p q d e k in
    let same : one.new ≡ other.new =
    same_given one.new other.new (slice_get q.classes e.0) one.is_new other.is_new in
    one_class p c d one.old other.old differ one.is_old other.is_old
    (text_same one.old.name one.new.name one.same ∙ ap (λ (x : ClassCore). x.name) same
    ∙ sym (text_same other.old.name other.new.name other.same))

-- ---- fields

-- what is the same of two fields
pub record AreSameFields (p q : Core) (a b : FieldCore) : Type 0 where
  pub class : ties_classes p q a.class b.class ≡ true
  pub name : same_text a.name b.name ≡ true
  pub kind : ties_kinds p q a.kind b.kind ≡ true
  pub static : same_flag a.is_static b.is_static ≡ true
  pub recorded : same_flag a.recorded b.recorded ≡ true

pub same_fields_parts : (p q : Core) (a b : FieldCore) → same_field p q a b ≡ true → AreSameFields p q a b
same_fields_parts p q a b e =
    let class = ties_classes p q a.class b.class in
    let name = same_text a.name b.name in
    let kind = ties_kinds p q a.kind b.kind in
    let static = same_flag a.is_static b.is_static in
    let last = and_parts (class && name && kind && static) (same_flag a.recorded b.recorded) e in
    let fourth = and_parts (class && name && kind) static last.0 in
    let third = and_parts (class && name) kind fourth.0 in
    let second = and_parts class name third.0 in
    record { class = second.0; name = second.1; kind = third.1; static = fourth.1; recorded = last.1 }

pub field_tie : (p q : Core) (f g : FieldId) → ties_fields p q f g ≡ true →
    AreBoth (same_field p q) (slice_get p.fields f.0) (slice_get q.fields g.0)
field_tie p q f g e = both_given (same_field p q) (slice_get p.fields f.0) (slice_get q.fields g.0) e

-- two fields of a program that have one class and one name are one
one_field : (core : Core) (f g : FieldId) (a b : FieldCore) → do_fields_differ core ≡ true →
    slice_get core.fields f.0 ≡ Some a → slice_get core.fields g.0 ≡ Some b → a.class ≡ b.class → a.name ≡ b.name →
    f ≡ g
one_field core f g a b differ e h class named =
    let number : a.class.0 ≡ b.class.0 = ap (λ (c : ClassId). c.0) class in
    ap field_of
    (at_one_place names.same_field core.fields f.0 g.0 a b differ e h
    (and_from (nat_eq a.class.0 b.class.0) (same_text a.name b.name) (eq-eqb a.class.0 b.class.0 number)
    (same_as_text a.name b.name named))
    (and_from (nat_eq b.class.0 a.class.0) (same_text b.name a.name) (eq-eqb b.class.0 a.class.0 (sym number))
    (same_as_text b.name a.name (sym named))))

one_right_field : (p q : Core) → do_classes_differ q ≡ true → do_fields_differ q ≡ true → (f g h : FieldId) →
    ties_fields p q f g ≡ true → ties_fields p q f h ≡ true → g ≡ h
one_right_field p q classes differ f g h e k =
    let one = field_tie p q f g e in
    let other = field_tie p q f h k in
    let same : one.old ≡ other.old = same_given one.old other.old (slice_get p.fields f.0) one.is_old other.is_old in
    let first : AreSameFields p q one.old one.new = same_fields_parts p q one.old one.new one.same in
    let second : AreSameFields p q other.old other.new = same_fields_parts p q other.old other.new other.same in
    one_field q g h one.new other.new differ one.is_new other.is_new
    (one_right_class p q classes one.old.class one.new.class other.new.class first.class
    (ap (λ (x : FieldCore). ties_classes p q x.class other.new.class) same ∙ second.class))
    (sym (text_same one.old.name one.new.name first.name) ∙ ap (λ (x : FieldCore). x.name) same
    ∙ text_same other.old.name other.new.name second.name)

one_left_field : (p q : Core) → do_classes_differ p ≡ true → do_fields_differ p ≡ true → (f g h : FieldId) →
    ties_fields p q f h ≡ true → ties_fields p q g h ≡ true → f ≡ g
one_left_field p q classes differ f g h e k =
    let one = field_tie p q f h e in
    let other = field_tie p q g h k in
    let same : one.new ≡ other.new = same_given one.new other.new (slice_get q.fields h.0) one.is_new other.is_new in
    let first : AreSameFields p q one.old one.new = same_fields_parts p q one.old one.new one.same in
    let second : AreSameFields p q other.old other.new = same_fields_parts p q other.old other.new other.same in
    one_field p f g one.old other.old differ one.is_old other.is_old
    (one_left_class p q classes one.old.class other.old.class one.new.class first.class
    (ap (λ (x : FieldCore). ties_classes p q other.old.class x.class) same ∙ second.class))
    (text_same one.old.name one.new.name first.name ∙ ap (λ (x : FieldCore). x.name) same
    ∙ sym (text_same other.old.name other.new.name second.name))

pub one_to_one : (p q : Core) → do_classes_differ p ≡ true → do_fields_differ p ≡ true → do_classes_differ q ≡ true →
    do_fields_differ q ≡ true → AreOneToOne p q
one_to_one p q classes fields others more =
    record {
      classes = one_right_class p q others;
      olds = one_left_class p q classes;
      fields = one_right_field p q others more;
      old_fields = one_left_field p q classes fields;
    }

-- what is tied is there
pub class_there : (p q : Core) (c d : ClassId) → ties_classes p q c d ≡ true → d.0 < length q.classes
class_there p q c d e =
    let tie = class_tie p q c d e in slice_get_within q.classes d.0 tie.new tie.is_new

pub field_there : (p q : Core) (f g : FieldId) → ties_fields p q f g ≡ true → g.0 < length q.fields
field_there p q f g e =
    let tie = field_tie p q f g e in slice_get_within q.fields g.0 tie.new tie.is_new
