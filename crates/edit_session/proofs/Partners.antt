-- Methods of one class, one name and as many parameters: no two of one program are so.
use Rattle.std.proofs.Common.{◌≡◌, ℕ, ◌&&◌, Bool, true, List, [], ◌∷◌, Option, None, Some, is_none, length, nat_eq}
use Rattle.std.proofs.Common.{refl, sym, ap, ◌∙◌}
use Rattle.std.proofs.lemmas.Bool.{and_from, and_parts, eq-eqb, eqb-true}
use Rattle.std.specs.Cmp.Lexicographic as lists
use Rattle.racer_base.specs.declared.ids.ClassId.{ClassId}
use Rattle.racer_base.specs.declared.ids.MethodId.{MethodId}
use Rattle.racer_base.proofs.Lists.{same_given}
use Rattle.core_code.specs.Calls.{is_analysed, method_at}
use Rattle.core_code.specs.Core.{Core, Method}
use Rattle.core_code.specs.Names.{do_methods_differ, same_text}
use Rattle.core_code.specs.Names as own
use Rattle.core_code.proofs.KindLemmas.{same_method}
use Rattle.core_code.proofs.RowCallees.{analysed_at}
use Rattle.transfer_ties.specs.Partners.{AreOneToOne, are_partners}
use Rattle.transfer_ties.specs.Ties.{both, same_signature, ties_classes}
use Rattle.edit_session.proofs.Among.{one_place}

-- what is there on both sides
pub record AreBoth {X Y : Type 0} (same : X → Y → Bool) (o : Option X) (r : Option Y) : Type 0 where
  pub old : X
  pub new : Y
  pub old_is : o ≡ Some old
  pub new_is : r ≡ Some new
  pub are_same : same old new ≡ true

pub both_there : {X Y : Type 0} (same : X → Y → Bool) (o : Option X) (r : Option Y) → both same o r ≡ true →
    AreBoth same o r
both_there same (Some x) (Some y) h = record { old = x; new = y; old_is = refl; new_is = refl; are_same = h }
both_there same None r h = absurd cc
both_there same (Some x) None h = absurd cc

pub both_weaker : {X Y : Type 0} (same other : X → Y → Bool) (o : Option X) (r : Option Y) →
    ((x : X) (y : Y) → same x y ≡ true → other x y ≡ true) → both same o r ≡ true → both other o r ≡ true
both_weaker same other (Some x) (Some y) weaker h = weaker x y h
both_weaker same other None r weaker h = absurd cc
both_weaker same other (Some x) None weaker h = absurd cc

pub three_parts : (a b c : Bool) → (a && b && c) ≡ true → (a ≡ true) × (b ≡ true) × (c ≡ true)
three_parts a b c h =
    let first = and_parts (a && b) c h in
    let two = and_parts a b first.0 in
    (two.0, two.1, first.1)

text_itself : (text : List ℕ) → same_text text text ≡ true
text_itself [] = refl
text_itself (x ∷ text) = and_from (nat_eq x x) (same_text text text) (eq-eqb x x refl) (text_itself text)

texts_same : (a b : List ℕ) → a ≡ b → same_text a b ≡ true
texts_same a b e = ap (same_text a) (sym e) ∙ text_itself a

-- what a method is told from others by
record SameNames (a b : Method) : Type 0 where
  class : a.class ≡ b.class
  name : a.name ≡ b.name
  count : length a.parameters ≡ length b.parameters

same_names : (a b : Method) → SameNames a b → own.same_signature a b ≡ true
same_names a b same =
    and_from (nat_eq a.class.0 b.class.0 && same_text a.name b.name)
    (nat_eq (length a.parameters) (length b.parameters))
    (and_from (nat_eq a.class.0 b.class.0) (same_text a.name b.name)
    (eq-eqb a.class.0 b.class.0 (ap (λ (c : ClassId). c.0) same.class)) (texts_same a.name b.name same.name))
    (eq-eqb (length a.parameters) (length b.parameters) same.count)

module _ (p q : Core) (differ : do_methods_differ p ≡ true) (one : AreOneToOne p q) where
  names_from : (a b c : Method) → same_signature p q a c ≡ true → same_signature p q b c ≡ true → SameNames a b
  names_from a b c ac bc =
      let first = three_parts (ties_classes p q a.class c.class) (same_text a.name c.name)
      (nat_eq (length a.parameters) (length c.parameters)) ac in
      let other = three_parts (ties_classes p q b.class c.class) (same_text b.name c.name)
      (nat_eq (length b.parameters) (length c.parameters)) bc in
      record {
        class = one.olds a.class b.class c.class first.0 other.0;
        name = lists.same_text a.name c.name (sym first.1) ∙ sym (lists.same_text b.name c.name (sym other.1));
        count = eqb-true (length a.parameters) (length c.parameters) first.2
            ∙ sym (eqb-true (length b.parameters) (length c.parameters) other.2);
      }

  pub same_partner : (m k n : MethodId) → are_partners p q m n ≡ true → are_partners p q k n ≡ true → m ≡ k
  same_partner m k n mn kn =
      let first = three_parts (is_analysed p m) (is_analysed q n) (both (same_signature p q) (method_at p m)
      (method_at q n)) mn in
      let other = three_parts (is_analysed p k) (is_analysed q n) (both (same_signature p q) (method_at p k)
      (method_at q n)) kn in
      let a = both_there (same_signature p q) (method_at p m) (method_at q n) first.2 in
      let b = both_there (same_signature p q) (method_at p k) (method_at q n) other.2 in
      let new : b.new ≡ a.new = same_given b.new a.new (method_at q n) b.new_is a.new_is in
      let names : SameNames a.old b.old =
      names_from a.old b.old a.new a.are_same (ap (λ (x : Method). same_signature p q b.old x) (sym new) ∙ b.are_same) in
      let back : SameNames b.old a.old =
      record { class = sym names.class; name = sym names.name; count = sym names.count } in
      same_method m k
      (one_place own.same_signature (λ (x : Method). is_none x.status) p.methods m.0 k.0 a.old b.old differ a.old_is
      b.old_is (ap analysed_at (sym a.old_is) ∙ first.0) (ap analysed_at (sym b.old_is) ∙ other.0)
      (same_names a.old b.old names) (same_names b.old a.old back))
