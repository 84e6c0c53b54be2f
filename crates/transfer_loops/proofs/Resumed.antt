-- Loops in a loop that go on from where they were left end in the state in which the stated rounds end.
use Rattle.std.proofs.Common.{◌≡◌, ℕ, zero, suc, ◌+◌, ◌-◌, ◌≤◌, ◌<◌, ◌⊎◌, inl, inr, Bool, true, false, cond, ◌&&◌, List}
use Rattle.std.proofs.Common.{[], ◌∷◌, Option, None, Some, length, nat_eq, refl, sym, ap, subst, ◌∙◌, arith}
use Rattle.std.proofs.lemmas.Bool.{eqb-true, eq-eqb}
use Rattle.owner_domain.specs.declared.value.Value.{Value}
use Rattle.owner_domain.specs.declared.value.Value.TheVariants.{Owned, Named, Unnamed}
use Rattle.owner_domain.specs.declared.value.State.{State}
use Rattle.owner_domain.specs.Values.{joined, joined_values, joined_state, same_value}
use Rattle.owner_domain.specs.SameValue.{same_value-itself}
use Rattle.core_code.specs.Tree.{Tree, Op, Skip, Seq, Choice, Loop, Sync}
use Rattle.core_code.specs.Facts.{height_after}
use Rattle.access_domain.specs.FlowContext.{FlowContext}
use Rattle.access_domain.specs.Operations.{popped}
use Rattle.access_domain.specs.Flow.{flow, rounds}
use Rattle.transfer_loops.specs.Rounds.{round_next, same_values, same_state, rounds_of}
use Rattle.transfer_loops.specs.Order.{Below, BelowAll, BelowState, BelowNext, IsMonotone, IsClosed, rounded}
use Rattle.transfer_loops.specs.Resuming.{loops, Heads, no_heads, put_head, kept_head, entered, is_settled, iterated}
use Rattle.transfer_loops.specs.Resuming.{resumed, OnNext, IsSound}
use Rattle.transfer_loops.proofs.Settled.{same_state-equal}
use Rattle.transfer_loops.proofs.Monotone.{joined-above, joined-above-other, joined-least, all-long, state-itself}
use Rattle.transfer_loops.proofs.Monotone.{state-trans, round-keeps, rounded-keeps, rounds-state, flow-monotone}
use Rattle.transfer_loops.proofs.Monotone.{after_next, next-after, next-joined, pop-keeps}
use Rattle.transfer_loops.proofs.Heights.{IsSized, then_heights, either_heights, loop_heights, held_heights}
use Rattle.transfer_loops.proofs.Heights.{sized_round, sized_pop, flow-sized}

-- ---- the order
below-both : (a b : Value) → Below a b → Below b a → a ≡ b
below-both a b (inl e) k = e
below-both a b (inr e) (inl f) = sym f
below-both a b (inr e) (inr f) = f ∙ sym e

all-both : (xs ys : List Value) → BelowAll xs ys → BelowAll ys xs → xs ≡ ys
all-both [] [] h k = refl
all-both [] (y ∷ ys) h k = absurd h
all-both (x ∷ xs) [] h k = absurd h
all-both (x ∷ xs) (y ∷ ys) h k = (λ i. below-both x y h.0 k.0 i ∷ all-both xs ys h.1 k.1 i)

state-both : (s t : State) → BelowState s t → BelowState t s → s ≡ t
state-both s t h k = (λ i. record {
  vars = all-both s.vars t.vars h.0 k.0 i;
  stack =
      all-both s.stack t.stack h.1 k.1 i;
})

next-both : (a b : Option State) → BelowNext a b → BelowNext b a → a ≡ b
next-both None None h k = refl
next-both None (Some b) h k = absurd h
next-both (Some a) None h k = absurd h
next-both (Some a) (Some b) h k = ap Some (state-both a b h k)

next-trans : (a b c : Option State) → BelowNext a b → BelowNext b c → BelowNext a c
next-trans None None c h k = k
next-trans None (Some b) c h k = absurd h
next-trans (Some a) None c h k = absurd h
next-trans (Some a) (Some b) None h k = absurd k
next-trans (Some a) (Some b) (Some c) h k = state-trans a b c h k

next-itself : (a : Option State) → BelowNext a a
next-itself None = tt
next-itself (Some a) = state-itself a

sized-above : (v h : ℕ) (s t : State) → IsSized v h s → BelowState s t → IsSized v h t
sized-above v h s t p b = record {
  vars = sym (all-long s.vars t.vars b.0) ∙ p.vars;
  stack =
      sym (all-long s.stack t.stack b.1) ∙ p.stack;
}

sized-below : (v h : ℕ) (s t : State) → IsSized v h t → BelowState s t → IsSized v h s
sized-below v h s t p b = record {
  vars = all-long s.vars t.vars b.0 ∙ p.vars;
  stack =
      all-long s.stack t.stack b.1 ∙ p.stack;
}

all-above : (xs ys : List Value) → length xs ≡ length ys → BelowAll xs (joined_values xs ys)
all-above [] ys e = tt
all-above (x ∷ xs) [] e = absurd (let z : suc (length xs) ≡ 0 = e in omega arith)
all-above (x ∷ xs) (y ∷ ys) e = let l : suc (length xs) ≡ suc (length ys) = e in
    (joined-above x y, all-above xs ys (omega arith))

all-above-other : (xs ys : List Value) → length xs ≡ length ys → BelowAll ys (joined_values xs ys)
all-above-other [] [] e = tt
all-above-other [] (y ∷ ys) e = absurd (let z : 0 ≡ suc (length ys) = e in omega arith)
all-above-other (x ∷ xs) [] e = absurd (let z : suc (length xs) ≡ 0 = e in omega arith)
all-above-other (x ∷ xs) (y ∷ ys) e = let l : suc (length xs) ≡ suc (length ys) = e in
    (joined-above-other x y, all-above-other xs ys (omega arith))

all-least : (xs ys zs : List Value) → BelowAll xs zs → BelowAll ys zs → BelowAll (joined_values xs ys) zs
all-least [] ys [] h k = tt
all-least [] ys (z ∷ zs) h k = absurd h
all-least (x ∷ xs) ys [] h k = absurd h
all-least (x ∷ xs) [] (z ∷ zs) h k = absurd k
all-least (x ∷ xs) (y ∷ ys) (z ∷ zs) h k = (joined-least x y z h.0 k.0, all-least xs ys zs h.1 k.1)

state-above : (v h : ℕ) (s t : State) → IsSized v h s → IsSized v h t → BelowState s (joined_state s t)
state-above v h s t p q = (
  all-above s.vars t.vars (p.vars ∙ sym q.vars),
  all-above s.stack t.stack
      (p.stack ∙ sym q.stack),
)

state-above-other : (v h : ℕ) (s t : State) → IsSized v h s → IsSized v h t → BelowState t (joined_state s t)
state-above-other v h s t p q = (
  all-above-other s.vars t.vars (p.vars ∙ sym q.vars),
  all-above-other s.stack t.stack (p.stack ∙ sym q.stack),
)

state-least : (s t u : State) → BelowState s u → BelowState t u → BelowState (joined_state s t) u
state-least s t u h k = (all-least s.vars t.vars u.vars h.0 k.0, all-least s.stack t.stack u.stack h.1 k.1)

pub round-above : (v h : ℕ) (s : State) (o : Option State) → IsSized v h s →
    ((t : State) → o ≡ Some t → IsSized v h t) → BelowState s (round_next s o)
round-above v h s None p keep = state-itself s
round-above v h s (Some t) p keep = state-above v h s t p (keep t refl)

-- ---- a round that changes something leaves fewer slots of which something is said
abbrev weight : Value → ℕ
weight Unnamed = 0
weight Owned = 1
weight (Named p) = 1

abbrev weights : List Value → ℕ
weights [] = 0
weights (x ∷ xs) = weight x + weights xs

weight-joined : (a b : Value) → (joined a b ≡ a) ⊎ (weight (joined a b) + 1 ≤ weight a)
weight-joined a b = elim (same_value a b)
    as (λ t. (cond t a Unnamed ≡ a) ⊎ (weight (cond t a Unnamed) + 1 ≤ weight a))
    [ true ↦ inl refl | false ↦ other a ]
  where
    other : (a : Value) → (Unnamed ≡ a) ⊎ (weight Unnamed + 1 ≤ weight a)
    other Unnamed = inl refl
    other Owned = inr (omega arith)
    other (Named p) = inr (omega arith)

weights-joined : (xs ys : List Value) → length xs ≡ length ys → (joined_values xs ys ≡ xs)
    ⊎ (weights (joined_values xs ys) + 1 ≤ weights xs)
weights-joined [] ys e = inl refl
weights-joined (x ∷ xs) [] e = absurd (let z : suc (length xs) ≡ 0 = e in omega arith)
weights-joined (x ∷ xs) (y ∷ ys) e = let l : suc (length xs) ≡ suc (length ys) = e in
    let rest = weights-joined xs ys (omega arith) in elim (weight-joined x y) [
      | inl same ↦ elim rest [
        | inl others ↦ inl (λ i. same i ∷ others i)
        | inr fewer ↦
            inr (let w : weight (joined x y) ≡ weight x = ap weight same in omega arith)
      ]
      | inr less ↦ elim rest [
        | inl others ↦ inr (let w : weights (joined_values xs ys) ≡ weights xs = ap weights others in omega arith)
        | inr fewer ↦ inr (omega arith)
      ]
    ]

abbrev state_weight : State → ℕ
state_weight s = weights s.vars + weights s.stack

weights-few : (xs : List Value) → weights xs ≤ length xs
weights-few [] = omega arith
weights-few (x ∷ xs) = let one : weight x ≤ 1 = small x in let rest : weights xs ≤ length xs = weights-few xs in
    let long : length (x ∷ xs) ≡ suc (length xs) = refl in omega arith
  where
    small : (x : Value) → weight x ≤ 1
    small Unnamed = omega arith
    small Owned = omega arith
    small (Named p) = omega arith

weight-few : (s : State) → state_weight s < rounds_of s
weight-few s = let v : weights s.vars ≤ length s.vars = weights-few s.vars in
    let k : weights s.stack ≤ length s.stack = weights-few s.stack in omega arith

join-weight : (v h : ℕ) (s t : State) → IsSized v h s → IsSized v h t → (joined_state s t ≡ s)
    ⊎ (state_weight (joined_state s t) + 1 ≤ state_weight s)
join-weight v h s t p q = elim (weights-joined s.vars t.vars (p.vars ∙ sym q.vars)) [
  | inl vars ↦ elim (weights-joined s.stack t.stack (p.stack ∙ sym q.stack)) [
    | inl stack ↦ inl (λ i. record { vars = vars i; stack = stack i })
    | inr less ↦ inr (let w : weights (joined_values s.vars t.vars) ≡ weights s.vars = ap weights vars in omega arith)
  ]
  | inr less ↦ elim (weights-joined s.stack t.stack (p.stack ∙ sym q.stack)) [
    | inl stack ↦ inr (let w : weights (joined_values s.stack t.stack) ≡ weights s.stack = ap weights stack in
        omega arith)
    | inr fewer ↦ inr (omega arith)
  ]
]

round-weight : (v h : ℕ) (s : State) (o : Option State) → IsSized v h s →
    ((t : State) → o ≡ Some t → IsSized v h t) → (round_next s o ≡ s)
    ⊎ (state_weight (round_next s o) + 1 ≤ state_weight s)
round-weight v h s None p keep = inl refl
round-weight v h s (Some t) p keep = join-weight v h s t p (keep t refl)

-- ---- the stated rounds end in the least state above the first that a round leaves unchanged
abbrev Keeps : (State → Option State) → ℕ → ℕ → Type 0
Keeps f v h = (x y : State) → IsSized v h x → f x ≡ Some y → IsSized v h y

stays : (f : State → Option State) (n : ℕ) (s : State) → IsClosed f s → rounded f n s ≡ s
stays f zero s e = refl
stays f (suc n) s e = ap (rounded f n) e ∙ stays f n s e

rounded-closed : (f : State → Option State) (v h : ℕ) → Keeps f v h → (n : ℕ) (s : State) → IsSized v h s →
    state_weight s < n → IsClosed f (rounded f n s)
rounded-closed f v h keep zero s p few = absurd (omega arith)
rounded-closed f v h keep (suc n) s p few =
    elim (round-weight v h s (f s) p (λ t e. keep s t p e)) [
      | inl same ↦ subst (IsClosed f) (sym (stays f (suc n) s same)) same
      | inr less ↦
          rounded-closed f v h keep n (round_next s (f s)) (sized_round v h s (f s) p (λ t e. keep s t p e))
          (omega arith)
    ]

rounded-above : (f : State → Option State) (v h : ℕ) → Keeps f v h → (n : ℕ) (s : State) → IsSized v h s →
    BelowState s (rounded f n s)
rounded-above f v h keep zero s p = state-itself s
rounded-above f v h keep (suc n) s p = let next = round_next s (f s) in
    state-trans s next (rounded f n next) (round-above v h s (f s) p (λ t e. keep s t p e))
    (rounded-above f v h keep n next (sized_round v h s (f s) p (λ t e. keep s t p e)))

rounded-least : (f : State → Option State) → IsMonotone f → (n : ℕ) (s t : State) → BelowState s t → IsClosed f t →
    BelowState (rounded f n s) t
rounded-least f up n s t h e = subst (BelowState (rounded f n s)) (stays f n t e) (rounded-keeps f up n s t h)

-- ---- heads
same_number : (i k : ℕ) → (nat_eq i k ≡ true → ⊥) → nat_eq i k ≡ false
same_number i k different = elim (nat_eq i k) as (λ b. (b ≡ true → ⊥) → b ≡ false) [
  | true ↦ λ f. absurd (f refl)
  | false ↦ λ f. refl
] different

put-other : (h : Heads) (k : ℕ) (x : State) (i : ℕ) → (i ≡ k → ⊥) → put_head h k x i ≡ h i
put-other h k x i different = ap (λ b. cond b (Some x) (h i)) (same_number i k (λ e. different (eqb-true i k e)))

put-here : (h : Heads) (k : ℕ) (x : State) → put_head h k x k ≡ Some x
put-here h k x = ap (λ b. cond b (Some x) (h k)) (eq-eqb k k refl)

kept-other : (b : Bool) (h : Heads) (k : ℕ) (x : State) (i : ℕ) → (i ≡ k → ⊥) → kept_head b h k x i ≡ h i
kept-other true h k x i other = refl
kept-other false h k x i other = put-other h k x i other

-- the head of a loop is not above the state in which all its rounds end, whether it was put down or is the old one
kept_sound : (b : Bool) (old h : Heads) (k : ℕ) (x last : State) → h k ≡ old k →
    OnNext (old k) (λ y. BelowState y last) → BelowState x last → OnNext (kept_head b h k x k) (λ y. BelowState y last)
kept_sound true old h k x last same before high =
    subst (λ (o : Option State). OnNext o (λ y. BelowState y last)) (sym same) before
kept_sound false old h k x last same before high =
    subst (λ (o : Option State). OnNext o (λ y. BelowState y last)) (sym (put-here h k x)) high

-- the same heads for the loops of this code
abbrev SameFor : Tree → ℕ → Heads → Heads → Type 0
SameFor code k h j = (i : ℕ) → k ≤ i → i < k + loops code → h i ≡ j i

-- ---- what is sound stays so
next-on : (o : Option State) (P Q : State → Type 0) → ((t : State) → P t → Q t) → OnNext o P → OnNext o Q
next-on None P Q f p = tt
next-on (Some t) P Q f p = f t p

sound-same : (g : FlowContext) (code : Tree) (locked : Bool) (k : ℕ) (h j : Heads) (s : State) → SameFor code k h j →
    IsSound g code locked k h s → IsSound g code locked k j s
sound-same g (Op site place op) locked k h j s same p = tt
sound-same g Skip locked k h j s same p = tt
sound-same g (Seq first rest) locked k h j s same p = (
  sound-same g first locked k h j s (λ i low high. same i low (omega arith)) p.0,
  next-on (flow g first locked s).next _ _
      (λ t q. sound-same g rest locked (k + loops first) h j t (λ i low high. same i (omega arith) (omega arith)) q)
      p.1,
)
sound-same g (Choice left right) locked k h j s same p = (
  sound-same g left locked k h j s (λ i low high. same i low (omega arith)) p.0,
  sound-same g right locked (k + loops left) h j s (λ i low high. same i (omega arith) (omega arith)) p.1,
)
sound-same g (Loop body) locked k h j s same p = (
  subst (λ (o : Option State). OnNext o (λ x. BelowState x (rounds (flow g body locked) (rounds_of s) s).0))
      (same k (omega arith) (omega arith)) p.0,
  sound-same g body locked (suc k) h j (rounds (flow g body locked) (rounds_of s) s).0
      (λ i low high. same i (omega arith) (omega arith)) p.1,
)
sound-same g (Sync place body) locked k h j s same p = sound-same g body true k h j (popped s 1) same p

loop-below : (g : FlowContext) (body : Tree) (locked : Bool) (s t : State) → BelowState s t →
    BelowState (rounds (flow g body locked) (rounds_of s) s).0 (rounds (flow g body locked) (rounds_of t) t).0
loop-below g body locked s t h = flow-monotone g (Loop body) locked s t h

on-above : (o p : Option State) (P Q : State → Type 0) → BelowNext o p →
    ((s t : State) → BelowState s t → P s → Q t) → OnNext o P → OnNext p Q
on-above None None P Q b f h = tt
on-above None (Some t) P Q b f h = absurd b
on-above (Some s) None P Q b f h = absurd b
on-above (Some s) (Some t) P Q b f h = f s t b h

pub sound-above : (g : FlowContext) (code : Tree) (locked : Bool) (k : ℕ) (h : Heads) (s t : State) → BelowState s t →
    IsSound g code locked k h s → IsSound g code locked k h t
sound-above g (Op site place op) locked k h s t b p = tt
sound-above g Skip locked k h s t b p = tt
sound-above g (Seq first rest) locked k h s t b p = (
  sound-above g first locked k h s t b p.0,
  on-above (flow g first locked s).next (flow g first locked t).next _ _ (flow-monotone g first locked s t b)
      (λ u v c q. sound-above g rest locked (k + loops first) h u v c q) p.1,
)
sound-above g (Choice left right) locked k h s t b p = (
  sound-above g left locked k h s t b p.0,
  sound-above g right locked (k + loops left) h s t b p.1,
)
sound-above g (Loop body) locked k h s t b p = (
  next-on (h k) _ _ (λ x q. state-trans x (rounds (flow g body locked) (rounds_of s) s).0
      (rounds (flow g body locked) (rounds_of t) t).0 q (loop-below g body locked s t b)) p.0,
  sound-above g body locked (suc k) h (rounds (flow g body locked) (rounds_of s) s).0
      (rounds (flow g body locked) (rounds_of t) t).0 (loop-below g body locked s t b) p.1,
)
sound-above g (Sync place body) locked k h s t b p =
    sound-above g body true k h (popped s 1) (popped t 1) (pop-keeps s t 1 b) p

on-any : (o : Option State) (P : State → Type 0) → ((t : State) → P t) → OnNext o P
on-any None P f = tt
on-any (Some t) P f = f t

pub sound-first : (g : FlowContext) (code : Tree) (locked : Bool) (k : ℕ) (s : State) →
    IsSound g code locked k no_heads s
sound-first g (Op site place op) locked k s = tt
sound-first g Skip locked k s = tt
sound-first g (Seq first rest) locked k s = (
  sound-first g first locked k s,
  on-any (flow g first locked s).next _ (λ t. sound-first g rest locked (k + loops first) t),
)
sound-first g (Choice left right) locked k s =
    (sound-first g left locked k s, sound-first g right locked (k + loops left) s)
sound-first g (Loop body) locked k s = (tt, sound-first g body locked (suc k) _)
sound-first g (Sync place body) locked k s = sound-first g body true k (popped s 1)

-- ---- climbing
-- What is said of the end and the heads behind code that begins in s, where this state is not above the one in which it
-- begins in the end
pub record Resumes (g : FlowContext) (code : Tree) (locked : Bool) (k : ℕ) (h : Heads) (s top : State)
    (o : Option State)
    (j : Heads) : Type 0 where
  pub low : BelowNext (flow g code locked s).next o
  pub high : BelowNext o (flow g code locked top).next
  pub sound : IsSound g code locked k j top
  pub others : (i : ℕ) → (i < k) ⊎ (k + loops code ≤ i) → j i ≡ h i

abbrev Go : Type 0
Go = Heads → State → Option State × Heads

-- what rounds of a loop give whose body does this
record Iterates (g : FlowContext) (body : Tree) (locked : Bool) (k : ℕ) (h : Heads) (s top x : State)
    (j : Heads) : Type 0 where
  closed : IsClosed (λ u. (flow g body locked u).next) x
  low : BelowState s x
  high : BelowState x top
  sound : IsSound g body locked k j top
  others : (i : ℕ) → (i < k) ⊎ (k + loops body ≤ i) → j i ≡ h i

closed-end : (f : State → Option State) (v h : ℕ) → Keeps f v h → (x : State) (o : Option State) → IsSized v h x →
    BelowNext (f x) o → round_next x o ≡ x → IsClosed f x
closed-end f v h keep x o p low same = let above : BelowState x (round_next x (f x)) =
    round-above v h x (f x) p (λ t e. keep x t p e) in
    let below : BelowState (round_next x (f x)) x =
    subst (BelowState (round_next x (f x))) same (round-keeps x x (f x) o (state-itself x) low) in
    state-both (round_next x (f x)) x below above

next-sized : (v h : ℕ) (a b : Option State) → BelowNext a b → ((t : State) → a ≡ Some t → IsSized v h t) →
    (t : State) → b ≡ Some t → IsSized v h t
next-sized v h None None b keep t e = cc
next-sized v h None (Some y) b keep t e = absurd b
next-sized v h (Some x) None b keep t e = absurd b
next-sized v h (Some x) (Some y) b keep t e = let same : y ≡ t = cc in
    subst (IsSized v h) same (sized-above v h x y (keep x refl) b)

iterates : (g : FlowContext) (body : Tree) (locked : Bool) (k : ℕ) (v n : ℕ) (s top : State) →
    height_after body n ≡ Some n → IsClosed (λ u. (flow g body locked u).next) top →
    ((h : Heads) (x : State) → IsSized v n x → BelowState x top → IsSound g body locked k h top →
    Resumes g body locked k h x top (resumed g body locked k h x).0 (resumed g body locked k h x).1) →
    (count : ℕ) (h : Heads) (x : State) → IsSized v n x → state_weight x < count → BelowState s x →
    BelowState x top → IsSound g body locked k h top →
    Iterates g body locked k h s top (iterated (resumed g body locked k) count h x).0
    (iterated (resumed g body locked k) count h x).1
iterates g body locked k v n s top even done go zero h x p few low high sound = absurd (omega arith)
iterates g body locked k v n s top even done go (suc count) h x p few low high sound =
    let f : State → Option State = λ u. (flow g body locked u).next in
    let keep : Keeps f v n = λ a b q e. flow-sized g body locked v n n a b even q e in
    let r = resumed g body locked k h x in let one : Resumes g body locked k h x top r.0 r.1 = go h x p high sound in
    let next = round_next x r.0 in
    let sizes : (t : State) → r.0 ≡ Some t → IsSized v n t =
    next-sized v n (f x) r.0 one.low (λ t e. keep x t p e) in
    elim (same_state next x) as (λ b. same_state next x ≡ b →
    Iterates g body locked k h s top (cond {A = State × Heads} b (x, r.1)
    (iterated (resumed g body locked k) count r.1 next)).0
    (cond {A = State × Heads} b (x, r.1) (iterated (resumed g body locked k) count r.1 next)).1) [
      | true ↦ λ e. record {
        closed = closed-end f v n keep x r.0 p one.low (same_state-equal next x e);
        low = low;
        high = high;
        sound = one.sound;
        others = one.others;
      }
      | false ↦ λ e. let up : BelowState x next = round-above v n x r.0 p sizes in
          let under : BelowState next top = subst (BelowState next) done
          (round-keeps x top r.0 (f top) high one.high) in
          let rest = iterates g body locked k v n s top even done go count r.1 next
          (sized_round v n x r.0 p sizes) (fewer next e (round-weight v n x r.0 p sizes))
          (state-trans s x next low up) under one.sound in record {
            closed = rest.closed;
            low = rest.low;
            high = rest.high;
            sound = rest.sound;
            others = λ i away. rest.others i away ∙ one.others i away;
          }
    ] refl
  where
    same-itself : (xs : List Value) → same_values xs xs ≡ true
    same-itself [] = refl
    same-itself (a ∷ xs) = ap (λ b. b && same_values xs xs) (same_value-itself a) ∙ same-itself xs

    state-same : (y : State) → same_state y y ≡ true
    state-same y = ap (λ b. b && same_values y.stack y.stack) (same-itself y.vars) ∙ same-itself y.stack

    fewer : (next : State) → same_state next x ≡ false → (next ≡ x) ⊎ (state_weight next + 1 ≤ state_weight x) →
        state_weight next < count
    fewer next e (inl same) = absurd (let yes : same_state next x ≡ true =
        ap (same_state next) (sym same) ∙ state-same next in cc)
    fewer next e (inr less) = omega arith

entered-low : (v n : ℕ) (o : Option State) (s top : State) → IsSized v n s → BelowState s top →
    OnNext o (λ x. BelowState x top) → BelowState s (entered o s)
entered-low v n None s top p b q = state-itself s
entered-low v n (Some x) s top p b q = state-above v n s x p (sized-below v n x top (sized-above v n s top p b) q)

entered-high : (v n : ℕ) (o : Option State) (s top : State) → IsSized v n s → BelowState s top →
    OnNext o (λ x. BelowState x top) → BelowState (entered o s) top
entered-high v n None s top p b q = b
entered-high v n (Some x) s top p b q = state-least s x top b q

entered-sized : (v n : ℕ) (o : Option State) (s top : State) → IsSized v n s → BelowState s top →
    OnNext o (λ x. BelowState x top) → IsSized v n (entered o s)
entered-sized v n o s top p b q = sized-above v n s (entered o s) p (entered-low v n o s top p b q)

record ThenClimbs (g : FlowContext) (first rest : Tree) (locked : Bool) (k : ℕ) (h : Heads) (s top : State)
    (o : Option State) (j : Heads) : Type 0 where
  low : BelowNext (after_next (flow g first locked s).next (λ x. (flow g rest locked x).next)) o
  high : BelowNext o (after_next (flow g first locked top).next (λ x. (flow g rest locked x).next))
  sound : IsSound g (Seq first rest) locked k j top
  others : (i : ℕ) → (i < k) ⊎ (k + (loops first + loops rest) ≤ i) → j i ≡ h i

nearer : (k a b i : ℕ) → (i < k) ⊎ (k + (a + b) ≤ i) → (i < k) ⊎ (k + a ≤ i)
nearer k a b i (inl e) = inl e
nearer k a b i (inr e) = inr (omega arith)

further : (k a b i : ℕ) → (i < k) ⊎ (k + (a + b) ≤ i) → (i < k + a) ⊎ (k + a + b ≤ i)
further k a b i (inl e) = inl (omega arith)
further k a b i (inr e) = inr (omega arith)

-- the ends of the first part agree whether there is one
then_climbs : (g : FlowContext) (first rest : Tree) (locked : Bool) (k v n m : ℕ) (h : Heads) (s top : State)
    (o : Option State) (j : Heads) (a d : Option State) → (flow g first locked s).next ≡ a →
    (flow g first locked top).next ≡ d → BelowNext a o → BelowNext o d →
    ((t : State) → (flow g first locked s).next ≡ Some t → IsSized v n t) →
    IsSound g first locked k j top → ((i : ℕ) → (i < k) ⊎ (k + loops first ≤ i) → j i ≡ h i) →
    ((j : Heads) (t u : State) → IsSized v n t → BelowState t u → IsSound g rest locked (k + loops first) j u →
    Resumes g rest locked (k + loops first) j t u (resumed g rest locked (k + loops first) j t).0
    (resumed g rest locked (k + loops first) j t).1) →
    OnNext d (λ u. IsSound g rest locked (k + loops first) h u) →
    ThenClimbs g first rest locked k h s top
    (elim o as (λ _. Option State × Heads) [
      | None ↦ (None, j)
      | Some t ↦
          resumed g rest locked (k + loops first) j t
    ]).0
    (elim o as (λ _. Option State × Heads) [
      | None ↦ (None, j)
      | Some t ↦
          resumed g rest locked (k + loops first) j t
    ]).1
then_climbs g first rest locked k v n m h s top None j None None is_a is_d low high sizes sound others go later =
    record {
      low = subst (λ (x : Option State). BelowNext (after_next x (λ x. (flow g rest locked x).next)) None)
          (sym is_a) tt;
      high = subst (λ (x : Option State). BelowNext None (after_next x (λ x. (flow g rest locked x).next)))
          (sym is_d) tt;
      sound = (
        sound,
        subst (λ (x : Option State). OnNext x (λ t. IsSound g rest locked (k + loops first) j t))
            (sym is_d) tt,
      );
      others = λ i away. others i (nearer k (loops first) (loops rest) i away);
    }
then_climbs g first rest locked k v n m h s top None j None
    (Some u) is_a is_d low high sizes sound others go later = absurd high
then_climbs g first rest locked k v n m h s top None j (Some w) d is_a is_d low high sizes sound others go later =
    absurd low
then_climbs g first rest locked k v n m h s top (Some t) j None d is_a is_d low high sizes sound others go later =
    absurd low
then_climbs g first rest locked k v n m h s top (Some t) j
    (Some w) None is_a is_d low high sizes sound others go later = absurd high
then_climbs g first rest locked k v n m h s top (Some t) j (Some w)
    (Some u) is_a is_d low high sizes sound others go later = let f : State → Option State =
    λ x. (flow g rest locked x).next in let q = resumed g rest locked (k + loops first) j t in
    let size : IsSized v n t = sized-above v n w t (sizes w is_a) low in
    let before : IsSound g rest locked (k + loops first) j u =
    sound-same g rest locked (k + loops first) h j u (λ i a b. sym (others i (inr a))) later in
    let two = go j t u size high before in record {
      low = subst (λ (x : Option State). BelowNext (after_next x f) q.0) (sym is_a)
          (next-trans (f w) (f t) q.0 (flow-monotone g rest locked w t low) two.low);
      high = subst (λ (x : Option State). BelowNext q.0 (after_next x f)) (sym is_d) two.high;
      sound = (
        sound-same g first locked k j q.1 top (λ i a b. sym (two.others i (inl b))) sound,
        subst (λ (x : Option State). OnNext x (λ t. IsSound g rest locked (k + loops first) q.1 t))
            (sym is_d) two.sound,
      );
      others = λ i away. two.others i (further k (loops first) (loops rest) i away)
          ∙ others i (nearer k (loops first) (loops rest) i away);
    }

pub resumes : (g : FlowContext) (code : Tree) (locked : Bool) (k v n m : ℕ) (h : Heads) (s top : State) →
    height_after code n ≡ Some m → IsSized v n s → BelowState s top → IsSound g code locked k h top →
    Resumes g code locked k h s top (resumed g code locked k h s).0 (resumed g code locked k h s).1
resumes g (Op site place op) locked k v n m h s top even p below sound =
    record {
      low = next-itself _;
      high = flow-monotone g (Op site place op) locked s top below;
      sound = tt;
      others =
          λ i away. refl;
    }
resumes g Skip locked k v n m h s top even p below sound =
    record { low = state-itself s; high = below; sound = tt; others = λ i away. refl }
resumes g (Seq first rest) locked k v n m h s top even p below sound = let at = then_heights first rest n m even in
    let one = resumes g first locked k v n at.0 h s top at.1 p below sound.0 in
    let r = resumed g first locked k h s in let all : ThenClimbs g first rest locked k h s top
    (elim r.0 as (λ _. Option State × Heads)
    [ None ↦ (None, r.1) | Some t ↦ resumed g rest locked (k + loops first) r.1 t ]).0
    (elim r.0 as (λ _. Option State × Heads)
    [ None ↦ (None, r.1) | Some t ↦ resumed g rest locked (k + loops first) r.1 t ]).1 =
    then_climbs g first rest locked k v at.0 m h s top r.0 r.1 (flow g first locked s).next
    (flow g first locked top).next refl refl one.low one.high
    (λ t e. flow-sized g first locked v n at.0 s t at.1 p e) one.sound one.others
    (λ j t u q c d. resumes g rest locked (k + loops first) v at.0 m j t u at.2 q c d) sound.1 in record {
      low = subst (λ (o : Option State). BelowNext o (resumed g (Seq first rest) locked k h s).0)
          (sym (next-after (flow g first locked s) (flow g rest locked) (flow g first locked s).next refl)) all.low;
      high = subst (BelowNext (resumed g (Seq first rest) locked k h s).0)
          (sym (next-after (flow g first locked top) (flow g rest locked) (flow g first locked top).next refl))
          all.high;
      sound = all.sound;
      others = all.others;
    }
resumes g (Choice left right) locked k v n m h s top even p below sound = let at =
    either_heights left right n m even in let one = resumes g left locked k v n m h s top at.0 p below sound.0 in
    let r = resumed g left locked k h s in let before : IsSound g right locked (k + loops left) r.1 top =
    sound-same g right locked (k + loops left) h r.1 top (λ i low high. sym (one.others i (inr low))) sound.1 in
    let two = resumes g right locked (k + loops left) v n m r.1 s top at.1 p below before in
    let q = resumed g right locked (k + loops left) r.1 s in record {
      low = next-joined (flow g left locked s).next (flow g right locked s).next r.0 q.0 one.low two.low;
      high = next-joined r.0 q.0 (flow g left locked top).next (flow g right locked top).next one.high two.high;
      sound = (
        sound-same g left locked k r.1 q.1 top (λ i low high. sym (two.others i (inl high))) one.sound,
        two.sound,
      );
      others = λ i away. two.others i (beyond_right i away) ∙ one.others i (beyond_left i away);
    }
  where
    beyond_right : (i : ℕ) → (i < k) ⊎ (k + (loops left + loops right) ≤ i) →
        (i < k + loops left) ⊎ (k + loops left + loops right ≤ i)
    beyond_right i (inl e) = inl (omega arith)
    beyond_right i (inr e) = inr (omega arith)

    beyond_left : (i : ℕ) → (i < k) ⊎ (k + (loops left + loops right) ≤ i) → (i < k) ⊎ (k + loops left ≤ i)
    beyond_left i (inl e) = inl e
    beyond_left i (inr e) = inr (omega arith)
resumes g (Loop body) locked k v n m h s top even p below sound = let at = loop_heights body n m even in
    let f : State → Option State = λ u. (flow g body locked u).next in
    let up : IsMonotone f = flow-monotone g body locked in
    let keep : Keeps f v n = λ a b q e. flow-sized g body locked v n n a b at.1 q e in
    let sized_top : IsSized v n top = sized-above v n s top p below in
    let last = (rounds (flow g body locked) (rounds_of top) top).0 in
    let is : last ≡ rounded f (rounds_of top) top = rounds-state (flow g body locked) (rounds_of top) top in
    let done : IsClosed f last =
    subst (IsClosed f) (sym is) (rounded-closed f v n keep (rounds_of top) top sized_top (weight-few top)) in
    let under : BelowState s last = state-trans s top last below
    (subst (BelowState top) (sym is) (rounded-above f v n keep (rounds_of top) top sized_top)) in
    let sized_met : IsSized v n (entered (h k) s) = entered-sized v n (h k) s last p under sound.0 in
    let e = iterated (resumed g body locked (suc k)) (rounds_of s) h (entered (h k) s) in
    let few : state_weight (entered (h k) s) < rounds_of s = let all : rounds_of (entered (h k) s) ≡ rounds_of s =
    same_slots (entered (h k) s) s sized_met p in
    let w : state_weight (entered (h k) s) < rounds_of (entered (h k) s) = weight-few (entered (h k) s) in
    omega arith in let runs : Iterates g body locked (suc k) h s last e.0 e.1 =
    iterates g body locked (suc k) v n s last at.1 done
    (λ j x q b t. resumes g body locked (suc k) v n n j x last at.1 q b t) (rounds_of s) h
    (entered (h k) s) sized_met few (entered-low v n (h k) s last p under sound.0)
    (entered-high v n (h k) s last p under sound.0) sound.1 in record {
      low = subst (λ (x : State). BelowState x e.0) (sym (rounds-state (flow g body locked) (rounds_of s) s))
          (rounded-least f up (rounds_of s) s e.0 runs.low runs.closed);
      high = runs.high;
      sound = (
        kept_sound (is_settled (resumed g body locked (suc k)) h (entered (h k) s)) h e.1 k e.0 last
            (runs.others k (inl (omega arith))) sound.0 runs.high,
        sound-same g body locked (suc k) e.1
            (kept_head (is_settled (resumed g body locked (suc k)) h (entered (h k) s)) e.1 k e.0) last
            (λ i low high. sym (kept-other (is_settled (resumed g body locked (suc k)) h (entered (h k) s)) e.1 k e.0 i
            (λ same. omega arith))) runs.sound,
      );
      others = λ i away.
          kept-other (is_settled (resumed g body locked (suc k)) h (entered (h k) s)) e.1 k e.0 i (apart i away)
          ∙ runs.others i (beyond i away);
    }
  where
    same_slots : (x y : State) → IsSized v n x → IsSized v n y → rounds_of x ≡ rounds_of y
    same_slots x y q r = (λ i. (q.vars ∙ sym r.vars) i + (q.stack ∙ sym r.stack) i + 1)

    apart : (i : ℕ) → (i < k) ⊎ (k + suc (loops body) ≤ i) → i ≡ k → ⊥
    apart i (inl e) same = absurd (omega arith)
    apart i (inr e) same = absurd (omega arith)

    beyond : (i : ℕ) → (i < k) ⊎ (k + suc (loops body) ≤ i) → (i < suc k) ⊎ (suc k + loops body ≤ i)
    beyond i (inl e) = inl (omega arith)
    beyond i (inr e) = inr (omega arith)
resumes g (Sync place body) locked k v n m h s top even p below sound = let one =
    resumes g body true k v (n - 1) m h (popped s 1) (popped top 1) (held_heights place body n m even)
    (sized_pop v n (n - 1) 1 s (popped s 1) p refl refl) (pop-keeps s top 1 below) sound in
    record { low = one.low; high = one.high; sound = one.sound; others = one.others }

-- from heads that are sound for this state the end is exact
pub resumed-exact : (g : FlowContext) (code : Tree) (locked : Bool) (k m : ℕ) (h : Heads) (s : State) →
    height_after code (length s.stack) ≡ Some m → IsSound g code locked k h s →
    ((resumed g code locked k h s).0 ≡ (flow g code locked s).next)
    × IsSound g code locked k (resumed g code locked k h s).1 s
resumed-exact g code locked k m h s even sound = let all =
    resumes g code locked k (length s.vars) (length s.stack) m h s s even (record { vars = refl; stack = refl })
    (state-itself s) sound in (
      next-both (resumed g code locked k h s).0
          (flow g code locked s).next all.high all.low,
      all.sound,
    )
