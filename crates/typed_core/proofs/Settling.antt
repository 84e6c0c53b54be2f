-- The rounds of a loop end in the least kinds above the first that a round leaves unchanged.
use Rattle.std.proofs.Common.{◌≡◌, ℕ, zero, suc, ◌+◌, ◌≤◌, ◌<◌, ◌⊎◌, inl, inr, true, false, cond, ◌&&◌, List, [], ◌∷◌}
use Rattle.std.proofs.Common.{Option, None, Some, length, refl, sym, ap, subst, ◌∙◌, arith}
use Rattle.std.proofs.lemmas.Bool.{and_parts}
use Rattle.core_code.specs.Tree.{Tree}
use Rattle.core_code.specs.Core.{Core, Method}
use Rattle.core_code.specs.Facts.{height_after}
use Rattle.typed_core.specs.declared.kinds.TypedKind.{TypedKind}
use Rattle.typed_core.specs.declared.kinds.TypedKind.TheVariants.{Plain, Object, Class, Other, Unset}
use Rattle.typed_core.specs.declared.states.KindState.{KindState}
use Rattle.typed_core.specs.Kinds.{is_reference, joined_kind, same_kind}
use Rattle.typed_core.specs.States.{joined_kinds, joined_state}
use Rattle.typed_core.specs.Check.{round_next, rounds, rounds_of, settled}
use Rattle.typed_core.specs.Resuming.{BelowState, IsMonotone, last_of}
use Rattle.typed_core.proofs.Order.{all-above, all-above-other, all-long, state-itself, state-trans}
use Rattle.typed_core.proofs.Ends.{end, rounds-keep}
use Rattle.typed_core.proofs.Sizes.{IsSized, Keeps, check-sized, sized_round}

pub sized-above : (v h : ℕ) (s t : KindState) → IsSized v h s → BelowState s t → IsSized v h t
sized-above v h s t p b = record {
  vars = sym (all-long s.vars t.vars b.0) ∙ p.vars;
  stack = sym (all-long s.stack t.stack b.1) ∙ p.stack;
}

pub sized-below : (v h : ℕ) (s t : KindState) → IsSized v h t → BelowState s t → IsSized v h s
sized-below v h s t p b = record {
  vars = all-long s.vars t.vars b.0 ∙ p.vars;
  stack = all-long s.stack t.stack b.1 ∙ p.stack;
}

pub state-above : (v h : ℕ) (s t : KindState) → IsSized v h s → IsSized v h t → BelowState s (joined_state s t)
state-above v h s t p q = (
  all-above s.vars t.vars (p.vars ∙ sym q.vars),
  all-above s.stack t.stack (p.stack ∙ sym q.stack),
)

pub state-above-other : (v h : ℕ) (s t : KindState) → IsSized v h s → IsSized v h t → BelowState t (joined_state s t)
state-above-other v h s t p q = (
  all-above-other s.vars t.vars (p.vars ∙ sym q.vars),
  all-above-other s.stack t.stack (p.stack ∙ sym q.stack),
)

pub round-above : (v h : ℕ) (s : KindState) (o : Option KindState) → IsSized v h s →
    ((t : KindState) → o ≡ Some t → IsSized v h t) → BelowState s (round_next s o)
round-above v h s None p keep = state-itself s
round-above v h s (Some t) p keep = state-above v h s t p (keep t refl)

-- ---- how often a kind can change yet
abbrev weight : TypedKind → ℕ
weight Unset = 0
weight Plain = 1
weight Other = 1
weight (Object c) = 2
weight (Class c) = 2

abbrev weights : List TypedKind → ℕ
weights [] = 0
weights (x ∷ xs) = weight x + weights xs

to-unset : (a : TypedKind) → (Unset ≡ a) ⊎ (weight Unset + 1 ≤ weight a)
to-unset Unset = inl refl
to-unset Plain = inr (omega arith)
to-unset Other = inr (omega arith)
to-unset (Object c) = inr (omega arith)
to-unset (Class c) = inr (omega arith)

to-other : (a : TypedKind) → is_reference a ≡ true → (Other ≡ a) ⊎ (weight Other + 1 ≤ weight a)
to-other Unset r = cc
to-other Plain r = cc
to-other Other r = inl refl
to-other (Object c) r = inr (omega arith)
to-other (Class c) r = inr (omega arith)

weight-joined : (a b : TypedKind) → (joined_kind a b ≡ a) ⊎ (weight (joined_kind a b) + 1 ≤ weight a)
weight-joined a b =
    elim (same_kind a b)
    as (λ t. (cond t a (cond (is_reference a && is_reference b) Other Unset) ≡ a)
    ⊎ (weight (cond t a (cond (is_reference a && is_reference b) Other Unset)) + 1 ≤ weight a)) [
      | true ↦ inl refl
      | false ↦
          elim (is_reference a && is_reference b)
          as (λ u. (is_reference a && is_reference b) ≡ u →
          (cond u Other Unset ≡ a) ⊎ (weight (cond u Other Unset) + 1 ≤ weight a)) [
            | true ↦ λ e. to-other a (and_parts (is_reference a) (is_reference b) e).0
            | false ↦ λ e. to-unset a
          ] refl
    ]

weights-joined : (xs ys : List TypedKind) → length xs ≡ length ys → (joined_kinds xs ys ≡ xs)
    ⊎ (weights (joined_kinds xs ys) + 1 ≤ weights xs)
weights-joined [] ys e = inl refl
weights-joined (x ∷ xs) [] e = absurd (let z : suc (length xs) ≡ 0 = e in omega arith)
weights-joined (x ∷ xs) (y ∷ ys) e = let l : suc (length xs) ≡ suc (length ys) = e in
    let rest = weights-joined xs ys (omega arith) in elim (weight-joined x y) [
      | inl same ↦ elim rest [
        | inl others ↦ inl (λ i. same i ∷ others i)
        | inr fewer ↦
            inr (let w : weight (joined_kind x y) ≡ weight x = ap weight same in omega arith)
      ]
      | inr less ↦ elim rest [
        | inl others ↦ inr (let w : weights (joined_kinds xs ys) ≡ weights xs = ap weights others in omega arith)
        | inr fewer ↦ inr (omega arith)
      ]
    ]

abbrev pub state_weight : KindState → ℕ
state_weight s = weights s.vars + weights s.stack

weights-few : (xs : List TypedKind) → weights xs ≤ length xs + length xs
weights-few [] = omega arith
weights-few (x ∷ xs) = let one : weight x ≤ 2 = small x in
    let rest : weights xs ≤ length xs + length xs = weights-few xs in
    let long : length (x ∷ xs) ≡ suc (length xs) = refl in omega arith
  where
    small : (x : TypedKind) → weight x ≤ 2
    small Unset = omega arith
    small Plain = omega arith
    small Other = omega arith
    small (Object c) = omega arith
    small (Class c) = omega arith

pub weight-few : (s : KindState) → state_weight s < rounds_of s
weight-few s = let v : weights s.vars ≤ length s.vars + length s.vars = weights-few s.vars in
    let k : weights s.stack ≤ length s.stack + length s.stack = weights-few s.stack in omega arith

join-weight : (v h : ℕ) (s t : KindState) → IsSized v h s → IsSized v h t → (joined_state s t ≡ s)
    ⊎ (state_weight (joined_state s t) + 1 ≤ state_weight s)
join-weight v h s t p q = elim (weights-joined s.vars t.vars (p.vars ∙ sym q.vars)) [
  | inl vars ↦ elim (weights-joined s.stack t.stack (p.stack ∙ sym q.stack)) [
    | inl stack ↦ inl (λ i. record { vars = vars i; stack = stack i })
    | inr less ↦ inr (let w : weights (joined_kinds s.vars t.vars) ≡ weights s.vars = ap weights vars in omega arith)
  ]
  | inr less ↦ elim (weights-joined s.stack t.stack (p.stack ∙ sym q.stack)) [
    | inl stack ↦ inr (let w : weights (joined_kinds s.stack t.stack) ≡ weights s.stack = ap weights stack in
        omega arith)
    | inr fewer ↦ inr (omega arith)
  ]
]

pub round-weight : (v h : ℕ) (s : KindState) (o : Option KindState) → IsSized v h s →
    ((t : KindState) → o ≡ Some t → IsSized v h t) → (round_next s o ≡ s)
    ⊎ (state_weight (round_next s o) + 1 ≤ state_weight s)
round-weight v h s None p keep = inl refl
round-weight v h s (Some t) p keep = join-weight v h s t p (keep t refl)

-- one more round leaves the kinds as they are
abbrev pub IsClosed : (KindState → Option KindState) → KindState → Type 0
IsClosed f s = round_next s (f s) ≡ s

pub stays : (f : KindState → Option KindState) (n : ℕ) (s : KindState) → IsClosed f s → rounds f n s ≡ s
stays f zero s e = refl
stays f (suc n) s e = ap (rounds f n) e ∙ stays f n s e

pub rounds-closed : (f : KindState → Option KindState) (v h : ℕ) → Keeps f v h → (n : ℕ) (s : KindState) →
    IsSized v h s → state_weight s < n → IsClosed f (rounds f n s)
rounds-closed f v h keep zero s p few = absurd (omega arith)
rounds-closed f v h keep (suc n) s p few =
    elim (round-weight v h s (f s) p (λ t e. keep s t p e)) [
      | inl same ↦ subst (IsClosed f) (sym (stays f (suc n) s same)) same
      | inr less ↦
          rounds-closed f v h keep n (round_next s (f s)) (sized_round v h s (f s) p (λ t e. keep s t p e))
          (omega arith)
    ]

pub settled-closed : (f : KindState → Option KindState) (v h : ℕ) → Keeps f v h → (s : KindState) → IsSized v h s →
    IsClosed f (settled f s)
settled-closed f v h keep s p = rounds-closed f v h keep (rounds_of s) s p (weight-few s)

pub rounds-above : (f : KindState → Option KindState) (v h : ℕ) → Keeps f v h → (n : ℕ) (s : KindState) →
    IsSized v h s → BelowState s (rounds f n s)
rounds-above f v h keep zero s p = state-itself s
rounds-above f v h keep (suc n) s p = let next = round_next s (f s) in
    state-trans s next (rounds f n next) (round-above v h s (f s) p (λ t e. keep s t p e))
    (rounds-above f v h keep n next (sized_round v h s (f s) p (λ t e. keep s t p e)))

pub rounds-least : (f : KindState → Option KindState) → IsMonotone f → (n : ℕ) (s t : KindState) → BelowState s t →
    IsClosed f t → BelowState (rounds f n s) t
rounds-least f up n s t h e = subst (BelowState (rounds f n s)) (stays f n t e) (rounds-keep f up n s t h)

-- the last kinds of a loop are settled
pub loops-settle : (core : Core) (m : Method) (body : Tree) (s : KindState) →
    height_after body (length s.stack) ≡ Some (length s.stack) →
    IsClosed (end core m body) (last_of core m body s)
loops-settle core m body s even =
    settled-closed (end core m body) (length s.vars) (length s.stack)
    (λ x y p e. check-sized core m body (length s.vars) (length s.stack) (length s.stack) x y even p e) s
    (record { vars = refl; stack = refl })
