-- Kinds that say less, and their joins.
use Rattle.std.proofs.Common.{◌≡◌, ℕ, zero, suc, inl, inr, true, false, cond, ◌&&◌, List, [], ◌∷◌, Option}
use Rattle.std.proofs.Common.{None, Some, length, drop, refl, sym, ap, subst, ◌∙◌, arith}
use Rattle.std.specs.Prelude.{slice_index_or, slice_set}
use Rattle.std.proofs.lemmas.Bool.{and_parts, eqb-true, eq-eqb}
use Rattle.core_code.specs.Kinds.{same_class}
use Rattle.racer_base.specs.declared.ids.ClassId.{ClassId}
use Rattle.typed_core.specs.declared.kinds.TypedKind.{TypedKind}
use Rattle.typed_core.specs.declared.kinds.TypedKind.TheVariants.{Plain, Object, Class, Other, Unset}
use Rattle.typed_core.specs.declared.states.KindState.{KindState}
use Rattle.typed_core.specs.Kinds.{is_reference, joined_kind, same_kind}
use Rattle.typed_core.specs.States.{joined_kinds, joined_state, joined_next, popped, pushed, replaced, same_kinds}
use Rattle.typed_core.specs.States.{same_state, top}
use Rattle.typed_core.specs.Resuming.{Below, BelowAll, BelowState, BelowNext}

-- ---- kinds that are the same are equal
class-equal : (c d : ClassId) → same_class c d ≡ true → c ≡ d
class-equal c d e = ap (λ (n : ℕ). (let made : ClassId = record { 0 = n } in made)) (eqb-true c.0 d.0 e)

class-itself : (c : ClassId) → same_class c c ≡ true
class-itself c = eq-eqb c.0 c.0 refl

pub same_kind-itself : (a : TypedKind) → same_kind a a ≡ true
same_kind-itself Plain = refl
same_kind-itself (Object c) = class-itself c
same_kind-itself (Class c) = class-itself c
same_kind-itself Other = refl
same_kind-itself Unset = refl

pub equal_of_same_kind : (a b : TypedKind) → same_kind a b ≡ true → a ≡ b
equal_of_same_kind Plain Plain e = refl
equal_of_same_kind (Object c) (Object d) e = ap Object (class-equal c d e)
equal_of_same_kind (Class c) (Class d) e = ap Class (class-equal c d e)
equal_of_same_kind Other Other e = refl
equal_of_same_kind Unset Unset e = refl
equal_of_same_kind _ _ e = cc

pub same_kinds-equal : (xs ys : List TypedKind) → same_kinds xs ys ≡ true → xs ≡ ys
same_kinds-equal [] [] e = refl
same_kinds-equal [] (y ∷ ys) e = cc
same_kinds-equal (x ∷ xs) [] e = cc
same_kinds-equal (x ∷ xs) (y ∷ ys) e =
    let same = and_parts (same_kind x y) (same_kinds xs ys) e in
    (λ i. equal_of_same_kind x y same.0 i ∷ same_kinds-equal xs ys same.1 i)

pub same_state-equal : (s t : KindState) → same_state s t ≡ true → s ≡ t
same_state-equal s t e =
    let same = and_parts (same_kinds s.vars t.vars) (same_kinds s.stack t.stack) e in
    (λ i. record {
      vars = same_kinds-equal s.vars t.vars same.0 i;
      stack = same_kinds-equal s.stack t.stack same.1 i;
    })

pub same_kinds-itself : (xs : List TypedKind) → same_kinds xs xs ≡ true
same_kinds-itself [] = refl
same_kinds-itself (x ∷ xs) = (λ i. same_kind-itself x i && same_kinds-itself xs i)

pub same_state-itself : (s : KindState) → same_state s s ≡ true
same_state-itself s = (λ i. same_kinds-itself s.vars i && same_kinds-itself s.stack i)

-- ---- kinds
pub itself : (a : TypedKind) → Below a a
itself a = inl refl

-- nothing that may be null is a reference
unset-no : (b : TypedKind) → is_reference b ≡ true → b ≡ Unset → ⊥
unset-no b r e = absurd (let no : false ≡ true = sym (ap is_reference e) ∙ r in cc)

pub below-trans : (a b c : TypedKind) → Below a b → Below b c → Below a c
below-trans a b c (inl e) h = subst (λ (v : TypedKind). Below v c) (sym e) h
below-trans a b c (inr (inl r)) (inl f) = inr (inl (r.0, sym f ∙ r.1))
below-trans a b c (inr (inl r)) (inr (inl q)) = inr (inl (r.0, q.1))
below-trans a b c (inr (inl r)) (inr (inr u)) = inr (inr u)
below-trans a b c (inr (inr u)) (inl f) = inr (inr (sym f ∙ u))
below-trans a b c (inr (inr u)) (inr (inl q)) = absurd (unset-no b q.0 u)
below-trans a b c (inr (inr u)) (inr (inr w)) = inr (inr w)

pub below-both : (a b : TypedKind) → Below a b → Below b a → a ≡ b
below-both a b (inl e) k = e
below-both a b (inr (inl r)) (inl f) = sym f
below-both a b (inr (inl r)) (inr (inl q)) = q.1 ∙ sym r.1
below-both a b (inr (inl r)) (inr (inr u)) = absurd (unset-no a r.0 u)
below-both a b (inr (inr u)) (inl f) = sym f
below-both a b (inr (inr u)) (inr (inl q)) = absurd (unset-no b q.0 u)
below-both a b (inr (inr u)) (inr (inr w)) = w ∙ sym u

pub joined-itself : (a : TypedKind) → joined_kind a a ≡ a
joined-itself a = ap (λ b. cond b a (cond (is_reference a && is_reference a) Other Unset)) (same_kind-itself a)

-- the join is the least kind above both
other-or-unset : (a b : TypedKind) → Below a (cond (is_reference a && is_reference b) Other Unset)
other-or-unset a b =
    elim (is_reference a && is_reference b)
    as (λ u. (is_reference a && is_reference b) ≡ u → Below a (cond u Other Unset)) [
      | true ↦ λ e. inr (inl ((and_parts (is_reference a) (is_reference b) e).0, refl))
      | false ↦ λ e. inr (inr refl)
    ] refl

other-or-unset-too : (a b : TypedKind) → Below b (cond (is_reference a && is_reference b) Other Unset)
other-or-unset-too a b =
    elim (is_reference a && is_reference b)
    as (λ u. (is_reference a && is_reference b) ≡ u → Below b (cond u Other Unset)) [
      | true ↦ λ e. inr (inl ((and_parts (is_reference a) (is_reference b) e).1, refl))
      | false ↦ λ e. inr (inr refl)
    ] refl

pub joined-above : (a b : TypedKind) → Below a (joined_kind a b)
joined-above a b =
    elim (same_kind a b) as (λ t. Below a (cond t a (cond (is_reference a && is_reference b) Other Unset)))
    [ true ↦ inl refl | false ↦ other-or-unset a b ]

pub joined-above-other : (a b : TypedKind) → Below b (joined_kind a b)
joined-above-other a b =
    elim (same_kind a b)
    as (λ t. same_kind a b ≡ t → Below b (cond t a (cond (is_reference a && is_reference b) Other Unset))) [
      | true ↦ λ e. inl (sym (equal_of_same_kind a b e))
      | false ↦ λ e. other-or-unset-too a b
    ] refl

-- of two references it is one of them, or `Other`
joined-other : (a b : TypedKind) → is_reference a ≡ true → is_reference b ≡ true → Below (joined_kind a b) Other
joined-other a b r q =
    elim (same_kind a b) as (λ t. Below (cond t a (cond (is_reference a && is_reference b) Other Unset)) Other) [
      | true ↦ inr (inl (r, refl))
      | false ↦ inl (λ i. cond (r i && q i) Other Unset)
    ]

is-other : (a c : TypedKind) → a ≡ c → c ≡ Other → is_reference a ≡ true
is-other a c e o = ap is_reference (e ∙ o)

pub joined-least : (a b c : TypedKind) → Below a c → Below b c → Below (joined_kind a b) c
joined-least a b c (inr (inr u)) h = inr (inr u)
joined-least a b c (inl e) (inl f) = inl (ap (joined_kind a) (f ∙ sym e) ∙ joined-itself a ∙ e)
joined-least a b c (inl e) (inr (inl q)) =
    subst (Below (joined_kind a b)) (sym q.1) (joined-other a b (is-other a c e q.1) q.0)
joined-least a b c (inl e) (inr (inr w)) = inr (inr w)
joined-least a b c (inr (inl r)) (inl f) =
    subst (Below (joined_kind a b)) (sym r.1) (joined-other a b r.0 (is-other b c f r.1))
joined-least a b c (inr (inl r)) (inr (inl q)) =
    subst (Below (joined_kind a b)) (sym r.1) (joined-other a b r.0 q.0)
joined-least a b c (inr (inl r)) (inr (inr w)) = inr (inr w)

pub joined-keeps : (a b c d : TypedKind) → Below a c → Below b d → Below (joined_kind a b) (joined_kind c d)
joined-keeps a b c d h k = joined-least a b (joined_kind c d) (below-trans a c (joined_kind c d) h (joined-above c d))
    (below-trans b d (joined_kind c d) k (joined-above-other c d))

-- ---- lists
pub all-itself : (xs : List TypedKind) → BelowAll xs xs
all-itself [] = tt
all-itself (x ∷ xs) = (itself x, all-itself xs)

pub all-trans : (xs ys zs : List TypedKind) → BelowAll xs ys → BelowAll ys zs → BelowAll xs zs
all-trans [] [] [] h k = tt
all-trans [] [] (z ∷ zs) h k = absurd k
all-trans [] (y ∷ ys) zs h k = absurd h
all-trans (x ∷ xs) [] zs h k = absurd h
all-trans (x ∷ xs) (y ∷ ys) [] h k = absurd k
all-trans (x ∷ xs) (y ∷ ys) (z ∷ zs) h k = (below-trans x y z h.0 k.0, all-trans xs ys zs h.1 k.1)

pub all-both : (xs ys : List TypedKind) → BelowAll xs ys → BelowAll ys xs → xs ≡ ys
all-both [] [] h k = refl
all-both [] (y ∷ ys) h k = absurd h
all-both (x ∷ xs) [] h k = absurd h
all-both (x ∷ xs) (y ∷ ys) h k = (λ i. below-both x y h.0 k.0 i ∷ all-both xs ys h.1 k.1 i)

pub all-long : (xs ys : List TypedKind) → BelowAll xs ys → length xs ≡ length ys
all-long [] [] h = refl
all-long [] (y ∷ ys) h = absurd h
all-long (x ∷ xs) [] h = absurd h
all-long (x ∷ xs) (y ∷ ys) h = ap (λ n. suc n) (all-long xs ys h.1)

pub all-get : (xs ys : List TypedKind) (i : ℕ) → BelowAll xs ys →
    Below (slice_index_or xs i Unset) (slice_index_or ys i Unset)
all-get [] [] i h = inl refl
all-get [] (y ∷ ys) i h = absurd h
all-get (x ∷ xs) [] i h = absurd h
all-get (x ∷ xs) (y ∷ ys) zero h = h.0
all-get (x ∷ xs) (y ∷ ys) (suc i) h = all-get xs ys i h.1

pub all-set : (xs ys : List TypedKind) (i : ℕ) (a b : TypedKind) → BelowAll xs ys → Below a b →
    BelowAll (slice_set xs i a) (slice_set ys i b)
all-set [] [] i a b h k = tt
all-set [] (y ∷ ys) i a b h k = absurd h
all-set (x ∷ xs) [] i a b h k = absurd h
all-set (x ∷ xs) (y ∷ ys) zero a b h k = (k, h.1)
all-set (x ∷ xs) (y ∷ ys) (suc i) a b h k = (h.0, all-set xs ys i a b h.1 k)

pub all-drop : (n : ℕ) (xs ys : List TypedKind) → BelowAll xs ys → BelowAll (drop n xs) (drop n ys)
all-drop zero xs ys h = h
all-drop (suc n) [] [] h = tt
all-drop (suc n) [] (y ∷ ys) h = absurd h
all-drop (suc n) (x ∷ xs) [] h = absurd h
all-drop (suc n) (x ∷ xs) (y ∷ ys) h = all-drop n xs ys h.1

all-joined : (xs ys zs us : List TypedKind) → BelowAll xs zs → BelowAll ys us →
    BelowAll (joined_kinds xs ys) (joined_kinds zs us)
all-joined [] ys [] us h k = tt
all-joined [] ys (z ∷ zs) us h k = absurd h
all-joined (x ∷ xs) ys [] us h k = absurd h
all-joined (x ∷ xs) [] (z ∷ zs) [] h k = tt
all-joined (x ∷ xs) [] (z ∷ zs) (u ∷ us) h k = absurd k
all-joined (x ∷ xs) (y ∷ ys) (z ∷ zs) [] h k = absurd k
all-joined (x ∷ xs) (y ∷ ys) (z ∷ zs) (u ∷ us) h k = (joined-keeps x y z u h.0 k.0, all-joined xs ys zs us h.1 k.1)

pub all-above : (xs ys : List TypedKind) → length xs ≡ length ys → BelowAll xs (joined_kinds xs ys)
all-above [] ys e = tt
all-above (x ∷ xs) [] e = absurd (let z : suc (length xs) ≡ 0 = e in omega arith)
all-above (x ∷ xs) (y ∷ ys) e = let l : suc (length xs) ≡ suc (length ys) = e in
    (joined-above x y, all-above xs ys (omega arith))

pub all-above-other : (xs ys : List TypedKind) → length xs ≡ length ys → BelowAll ys (joined_kinds xs ys)
all-above-other [] [] e = tt
all-above-other [] (y ∷ ys) e = absurd (let z : 0 ≡ suc (length ys) = e in omega arith)
all-above-other (x ∷ xs) [] e = absurd (let z : suc (length xs) ≡ 0 = e in omega arith)
all-above-other (x ∷ xs) (y ∷ ys) e = let l : suc (length xs) ≡ suc (length ys) = e in
    (joined-above-other x y, all-above-other xs ys (omega arith))

pub all-least : (xs ys zs : List TypedKind) → BelowAll xs zs → BelowAll ys zs → BelowAll (joined_kinds xs ys) zs
all-least [] ys [] h k = tt
all-least [] ys (z ∷ zs) h k = absurd h
all-least (x ∷ xs) ys [] h k = absurd h
all-least (x ∷ xs) [] (z ∷ zs) h k = absurd k
all-least (x ∷ xs) (y ∷ ys) (z ∷ zs) h k = (joined-least x y z h.0 k.0, all-least xs ys zs h.1 k.1)

pub length-joined : (xs ys : List TypedKind) → length xs ≡ length ys → length (joined_kinds xs ys) ≡ length xs
length-joined [] [] e = refl
length-joined [] (y ∷ ys) e = refl
length-joined (x ∷ xs) [] e = absurd (let z : suc (length xs) ≡ 0 = e in omega arith)
length-joined (x ∷ xs) (y ∷ ys) e =
    let l : suc (length xs) ≡ suc (length ys) = e in
    ap (λ n. suc n) (length-joined xs ys (omega arith))

-- ---- states
pub state-itself : (s : KindState) → BelowState s s
state-itself s = (all-itself s.vars, all-itself s.stack)

pub state-trans : (s t u : KindState) → BelowState s t → BelowState t u → BelowState s u
state-trans s t u h k = (all-trans s.vars t.vars u.vars h.0 k.0, all-trans s.stack t.stack u.stack h.1 k.1)

pub state-both : (s t : KindState) → BelowState s t → BelowState t s → s ≡ t
state-both s t h k = (λ i. record {
  vars = all-both s.vars t.vars h.0 k.0 i;
  stack = all-both s.stack t.stack h.1 k.1 i;
})

pub state-joined : (s t u v : KindState) → BelowState s u → BelowState t v →
    BelowState (joined_state s t) (joined_state u v)
state-joined s t u v h k = (
  all-joined s.vars t.vars u.vars v.vars h.0 k.0,
  all-joined s.stack t.stack u.stack v.stack h.1 k.1,
)

pub state-least : (s t u : KindState) → BelowState s u → BelowState t u → BelowState (joined_state s t) u
state-least s t u h k = (all-least s.vars t.vars u.vars h.0 k.0, all-least s.stack t.stack u.stack h.1 k.1)

pub top-keeps : (s t : KindState) → BelowState s t → Below (top s) (top t)
top-keeps s t h = all-get s.stack t.stack 0 h.1

pub push-keeps : (s t : KindState) (a b : TypedKind) → BelowState s t → Below a b → BelowState (pushed s a) (pushed t b)
push-keeps s t a b h k = (h.0, (k, h.1))

pub pop-keeps : (s t : KindState) (n : ℕ) → BelowState s t → BelowState (popped s n) (popped t n)
pop-keeps s t n h = (h.0, all-drop n s.stack t.stack h.1)

pub replace-keeps : (s t : KindState) (n : ℕ) (a b : TypedKind) → BelowState s t → Below a b →
    BelowState (replaced s n a) (replaced t n b)
replace-keeps s t n a b h k = push-keeps (popped s n) (popped t n) a b (pop-keeps s t n h) k

-- ---- ends
pub next-joined : (a b c d : Option KindState) → BelowNext a c → BelowNext b d →
    BelowNext (joined_next a b) (joined_next c d)
next-joined None b None d h k = k
next-joined None b (Some c) d h k = absurd h
next-joined (Some a) b None d h k = absurd h
next-joined (Some a) None (Some c) None h k = h
next-joined (Some a) None (Some c) (Some d) h k = absurd k
next-joined (Some a) (Some b) (Some c) None h k = absurd k
next-joined (Some a) (Some b) (Some c) (Some d) h k = state-joined a b c d h k

pub next-both : (a b : Option KindState) → BelowNext a b → BelowNext b a → a ≡ b
next-both None None h k = refl
next-both None (Some b) h k = absurd h
next-both (Some a) None h k = absurd h
next-both (Some a) (Some b) h k = ap Some (state-both a b h k)

pub next-trans : (a b c : Option KindState) → BelowNext a b → BelowNext b c → BelowNext a c
next-trans None None c h k = k
next-trans None (Some b) c h k = absurd h
next-trans (Some a) None c h k = absurd h
next-trans (Some a) (Some b) None h k = absurd k
next-trans (Some a) (Some b) (Some c) h k = state-trans a b c h k

pub next-itself : (a : Option KindState) → BelowNext a a
next-itself None = tt
next-itself (Some a) = state-itself a
