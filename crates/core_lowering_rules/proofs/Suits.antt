-- The kinds of expressions and the kinds of their values on the stack.
use Rattle.std.proofs.Common.{◌≡◌, ℕ, Bool, true, false, cond, List, [], ◌∷◌, Some, None, refl, sym, ap, ◌∙◌}
use Rattle.std.proofs.Common.{subst}
use borrow.Author.Tests.{eqb-true}
use Rattle.racer_base.specs.declared.ids.ClassId.{ClassId}
use Rattle.racer_base.specs.declared.ids.Kind.{Kind}
use Rattle.racer_base.specs.declared.ids.Kind.TheVariants as types
use Rattle.core_code.specs.Kinds.{StackKind, Plain, Declared, Class, Null, Opaque, Other, kind_of, same_class}
use Rattle.core_code.specs.Kinds.{joined_kind, joined_stack, fits_class, fits}
use Rattle.core_code.specs.KindCheck.{Kinds}
use Rattle.core_code.proofs.KindLemmas.{class_same}
use Rattle.core_lowering_rules.specs.ValueKinds.{ValueKind, Of, common_kind}
use Rattle.core_lowering_rules.specs.ValueKinds as value

-- ---- classes

pub class_equal : (c d : ClassId) → same_class c d ≡ true → c ≡ d
class_equal c d e = ap (λ (n : ℕ). let made : ClassId = record { 0 = n } in made) (eqb-true c.0 d.0 e)

-- ---- where two ways meet

pub joined-same : (a : StackKind) → joined_kind a a ≡ a
joined-same Plain = refl
joined-same (Declared c) = ap (λ b. cond b (Declared c) Other) (class_same c)
joined-same (Class c) = ap (λ b. cond b (Class c) Other) (class_same c)
joined-same Null = refl
joined-same Opaque = refl
joined-same Other = refl

abbrev with_first : StackKind → Kinds → Kinds
with_first kind rest = elim rest as (λ (o : Kinds). Kinds) [ None ↦ None | Some stack ↦ Some (kind ∷ stack) ]

pub joined_stack-same : (stack : List StackKind) → joined_stack stack stack ≡ Some stack
joined_stack-same [] = refl
joined_stack-same (a ∷ stack) =
    ap (with_first (joined_kind a a)) (joined_stack-same stack) ∙ ap (λ (k : StackKind). Some (k ∷ stack))
    (joined-same a)

pub joined_stack-top : (a b : StackKind) (stack : List StackKind) →
    joined_stack (a ∷ stack) (b ∷ stack) ≡ Some (joined_kind a b ∷ stack)
joined_stack-top a b stack = ap (with_first (joined_kind a b)) (joined_stack-same stack)

-- ---- what a value of a kind may be on the stack

abbrev pub Suits : ValueKind → StackKind → Type 0
Suits value.Null s = s ≡ Null
Suits (Of (types.Declared c)) s = fits_class c s ≡ true
Suits (Of types.Plain) s = Unit {0}
Suits (Of types.Other) s = Unit {0}

pub fits-suits : (k : Kind) (s : StackKind) → fits k s ≡ true → Suits (Of k) s
fits-suits types.Plain s h = tt
fits-suits (types.Declared c) s h = h
fits-suits types.Other s h = tt

pub suits-own : (k : Kind) → Suits (Of k) (kind_of k)
suits-own types.Plain = tt
suits-own (types.Declared c) = class_same c
suits-own types.Other = tt

pub suits-opaque : (k : Kind) → Suits (Of k) Opaque
suits-opaque types.Plain = tt
suits-opaque (types.Declared c) = refl
suits-opaque types.Other = tt

-- an object and null, in this order and in the other
fits-null : (c : ClassId) (s : StackKind) → fits_class c s ≡ true → fits_class c (joined_kind s Null) ≡ true
fits-null c (Declared d) h = h
fits-null c Null h = refl
fits-null c Opaque h = refl
fits-null c Plain h = h
fits-null c (Class d) h = h
fits-null c Other h = h

null-fits : (c : ClassId) (s : StackKind) → fits_class c s ≡ true → fits_class c (joined_kind Null s) ≡ true
null-fits c (Declared d) h = h
null-fits c Null h = refl
null-fits c Opaque h = refl
null-fits c Plain h = h
null-fits c (Class d) h = h
null-fits c Other h = h

both-declared : (c d e : ClassId) → same_class c d ≡ true → same_class c e ≡ true →
    fits_class c (joined_kind (Declared d) (Declared e)) ≡ true
both-declared c d e p q =
    let same : same_class d e ≡ true = subst (λ x. same_class x e ≡ true) (class_equal c d p) q in
    ap (λ b. fits_class c (cond b (Declared d) Other)) same ∙ p

both-fit : (c : ClassId) (s t : StackKind) → fits_class c s ≡ true → fits_class c t ≡ true →
    fits_class c (joined_kind s t) ≡ true
both-fit c (Declared d) (Declared e) p q = both-declared c d e p q
both-fit c (Declared d) Null p q = p
both-fit c (Declared d) Opaque p q = p
both-fit c (Declared d) Plain p q = cc
both-fit c (Declared d) (Class e) p q = cc
both-fit c (Declared d) Other p q = cc
both-fit c Null t p q = null-fits c t q
both-fit c Opaque (Declared e) p q = q
both-fit c Opaque Null p q = refl
both-fit c Opaque Opaque p q = refl
both-fit c Opaque Plain p q = cc
both-fit c Opaque (Class e) p q = cc
both-fit c Opaque Other p q = cc
both-fit c Plain t p q = cc
both-fit c (Class d) t p q = cc
both-fit c Other t p q = cc

-- of objects of two classes
of-objects : (c d : ClassId) (s t : StackKind) (b : Bool) → same_class c d ≡ b → fits_class c s ≡ true →
    fits_class d t ≡ true → Suits (cond b (Of (types.Declared c)) (Of types.Other)) (joined_kind s t)
of-objects c d s t true e p q =
    both-fit c s t p (subst (λ x. fits_class x t ≡ true) (sym (class_equal c d e)) q)
of-objects c d s t false e p q = tt

pub suits-common : (a b : ValueKind) (s t : StackKind) → Suits a s → Suits b t →
    Suits (common_kind a b) (joined_kind s t)
suits-common value.Null value.Null s t p q = ap (joined_kind s) q ∙ ap (λ x. joined_kind x Null) p
suits-common value.Null (Of (types.Declared c)) s t p q =
    subst (λ x. fits_class c (joined_kind x t) ≡ true) (sym p) (null-fits c t q)
suits-common value.Null (Of types.Plain) s t p q = tt
suits-common value.Null (Of types.Other) s t p q = tt
suits-common (Of (types.Declared c)) value.Null s t p q =
    subst (λ x. fits_class c (joined_kind s x) ≡ true) (sym q) (fits-null c s p)
suits-common (Of (types.Declared c)) (Of (types.Declared d)) s t p q = of-objects c d s t (same_class c d) refl p q
suits-common (Of (types.Declared c)) (Of types.Plain) s t p q = tt
suits-common (Of (types.Declared c)) (Of types.Other) s t p q = tt
suits-common (Of types.Plain) value.Null s t p q = tt
suits-common (Of types.Plain) (Of (types.Declared d)) s t p q = tt
suits-common (Of types.Plain) (Of types.Plain) s t p q = tt
suits-common (Of types.Plain) (Of types.Other) s t p q = tt
suits-common (Of types.Other) value.Null s t p q = tt
suits-common (Of types.Other) (Of k) s t p q = tt
