-- Kinds that are the same, stacks that are joined, and what the kind check took.
use Rattle.std.proofs.Common.{◌≡◌, ℕ, suc, Bool, true, false, List, [], ◌∷◌, Option, None, Some, length, is_none}
use Rattle.std.proofs.Common.{is_some, ◌||◌, refl, ap, ◌∙◌}
use Rattle.std.proofs.lemmas.Bool.{eqb-true, eq-eqb, and_parts}
use Rattle.racer_base.specs.declared.ids.ClassId.{ClassId}
use Rattle.racer_base.specs.declared.ids.MethodId.{MethodId}
use Rattle.core_code.specs.declared.code.Reason.{Reason}
use Rattle.core_code.specs.KindCheck.{Kinds, and_then, same_stack, where_true}
use Rattle.core_code.specs.Kinds.{StackKind, Plain, Declared, Class, Null, Opaque, Other, same_class, same_kind}
use Rattle.core_code.specs.Kinds.{joined_kind, joined_stack}

-- ---- numbers

pub class_same : (c : ClassId) → same_class c c ≡ true
class_same c = eq-eqb c.0 c.0 refl

pub same_method : (m n : MethodId) → m.0 ≡ n.0 → m ≡ n
same_method m n e = ap (λ (i : ℕ). let k : MethodId = record { 0 = i } in k) e

-- where a method has no reason, the other test held
pub where_analysed : (o : Option Reason) (b : Bool) → is_none o ≡ true → (is_some o || b) ≡ true → b ≡ true
where_analysed None b none h = h
where_analysed (Some r) b none h = cc

-- ---- kinds

pub equal_kinds : (k l : StackKind) → same_kind k l ≡ true → k ≡ l
equal_kinds Plain Plain h = refl
equal_kinds (Declared c) (Declared d) h =
    ap (λ (i : ℕ). let class : ClassId = record { 0 = i } in Declared class) (eqb-true c.0 d.0 h)
equal_kinds (Class c) (Class d) h =
    ap (λ (i : ℕ). let class : ClassId = record { 0 = i } in Class class) (eqb-true c.0 d.0 h)
equal_kinds Null Null h = refl
equal_kinds Opaque Opaque h = refl
equal_kinds Other Other h = refl
equal_kinds _ _ h = cc

pub equal_stacks : (ks ls : List StackKind) → same_stack ks ls ≡ true → ks ≡ ls
equal_stacks [] [] h = refl
equal_stacks [] (l ∷ ls) h = cc
equal_stacks (k ∷ ks) [] h = cc
equal_stacks (k ∷ ks) (l ∷ ls) h =
    let parts = and_parts (same_kind k l) (same_stack ks ls) h in
    let head : k ≡ l = equal_kinds k l parts.0 in
    let rest : ks ≡ ls = equal_stacks ks ls parts.1 in
    (λ i. head i ∷ rest i)

-- ---- stacks that are joined

-- the parts of two joined stacks that are not empty
pub record AreJoined (a b : StackKind) (left right joined : List StackKind) : Type 0 where
  pub rest : List StackKind
  pub below : joined_stack left right ≡ Some rest
  pub is : joined_kind a b ∷ rest ≡ joined

pub joined_more : (a b : StackKind) (left right joined : List StackKind) →
    joined_stack (a ∷ left) (b ∷ right) ≡ Some joined → AreJoined a b left right joined
joined_more a b left right joined h =
    elim (joined_stack left right) as (λ o. joined_stack left right ≡ o → elim o as (λ _. Option (List StackKind)) [
      | None ↦ None
      | Some rest ↦ Some (joined_kind a b ∷ rest)
    ] ≡ Some joined → AreJoined a b left right joined) [
      | None ↦ λ is e. cc
      | Some rest ↦ λ is e. record { rest = rest; below = is; is = cc }
    ] refl h

pub same_heights : (left right joined : List StackKind) → joined_stack left right ≡ Some joined →
    (length left ≡ length joined) × (length right ≡ length joined)
same_heights [] [] joined h = let is : [] ≡ joined = cc in (ap length is, ap length is)
same_heights [] (b ∷ right) joined h = cc
same_heights (a ∷ left) [] joined h = cc
same_heights (a ∷ left) (b ∷ right) joined h =
    let more : AreJoined a b left right joined = joined_more a b left right joined h in
    let rest = same_heights left right more.rest more.below in
    (ap suc rest.0 ∙ ap length more.is, ap suc rest.1 ∙ ap length more.is)

-- ---- the kind check

pub went_on : (o : Kinds) (check : List StackKind → Kinds) (ends : List StackKind) → and_then o check ≡ Some ends →
    (between : List StackKind) × (o ≡ Some between) × (check between ≡ Some ends)
went_on None check ends h = cc
went_on (Some between) check ends h = (between, refl, h)

-- a test that held, and the kinds that are left as they are
pub record IsWhere (test : Bool) (ks ends : List StackKind) : Type 0 where
  pub holds : test ≡ true
  pub same : ks ≡ ends

pub where-is : (test : Bool) (ks ends : List StackKind) → where_true test ks ≡ Some ends → IsWhere test ks ends
where-is true ks ends h = record { holds = refl; same = cc }
where-is false ks ends h = absurd cc
