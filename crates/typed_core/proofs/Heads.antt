-- The kinds in which loops were left: what is sound of them stays so.
use Rattle.std.proofs.Common.{◌≡◌, ℕ, suc, ◌+◌, ◌≤◌, ◌<◌, Bool, true, false, cond, Option, None, Some, nat_eq, refl, sym}
use Rattle.std.proofs.Common.{ap, subst, arith}
use Rattle.std.proofs.lemmas.Bool.{eqb-true, eq-eqb}
use Rattle.core_code.specs.Tree.{Tree, Op, Skip, Seq, Choice, Loop, Sync}
use Rattle.core_code.specs.Core.{Core, Method}
use Rattle.transfer_loops.specs.Resuming.{loops}
use Rattle.typed_core.specs.declared.states.KindState.{KindState}
use Rattle.typed_core.specs.States.{popped}
use Rattle.typed_core.specs.Resuming.{BelowState, BelowNext, Heads, no_heads, put_head, kept_head, OnNext, IsSound}
use Rattle.typed_core.specs.Resuming.{last_of}
use Rattle.typed_core.proofs.Order.{state-trans, pop-keeps}
use Rattle.typed_core.proofs.Ends.{end, check-monotone}

same_number : (i k : ℕ) → (nat_eq i k ≡ true → ⊥) → nat_eq i k ≡ false
same_number i k different = elim (nat_eq i k) as (λ b. (b ≡ true → ⊥) → b ≡ false) [
  | true ↦ λ f. absurd (f refl)
  | false ↦ λ f. refl
] different

put-other : (h : Heads) (k : ℕ) (x : KindState) (i : ℕ) → (i ≡ k → ⊥) → put_head h k x i ≡ h i
put-other h k x i different = ap (λ b. cond b (Some x) (h i)) (same_number i k (λ e. different (eqb-true i k e)))

put-here : (h : Heads) (k : ℕ) (x : KindState) → put_head h k x k ≡ Some x
put-here h k x = ap (λ b. cond b (Some x) (h k)) (eq-eqb k k refl)

pub kept-other : (b : Bool) (h : Heads) (k : ℕ) (x : KindState) (i : ℕ) → (i ≡ k → ⊥) → kept_head b h k x i ≡ h i
kept-other false h k x i other = refl
kept-other true h k x i other = put-other h k x i other

-- the head of a loop is not above the kinds in which all its rounds end, whether it was put down or is the old one
pub kept_sound : (b : Bool) (old h : Heads) (k : ℕ) (x last : KindState) → h k ≡ old k →
    OnNext (old k) (λ y. BelowState y last) → BelowState x last → OnNext (kept_head b h k x k) (λ y. BelowState y last)
kept_sound false old h k x last same before high =
    subst (λ (o : Option KindState). OnNext o (λ y. BelowState y last)) (sym same) before
kept_sound true old h k x last same before high =
    subst (λ (o : Option KindState). OnNext o (λ y. BelowState y last)) (sym (put-here h k x)) high

-- the same heads for the loops of this code
abbrev pub SameFor : Tree → ℕ → Heads → Heads → Type 0
SameFor code k h j = (i : ℕ) → k ≤ i → i < k + loops code → h i ≡ j i

next-on : (o : Option KindState) (P Q : KindState → Type 0) → ((t : KindState) → P t → Q t) → OnNext o P → OnNext o Q
next-on None P Q f p = tt
next-on (Some t) P Q f p = f t p

pub sound-same : (core : Core) (m : Method) (code : Tree) (k : ℕ) (h j : Heads) (s : KindState) → SameFor code k h j →
    IsSound core m code k h s → IsSound core m code k j s
sound-same core m (Op site place op) k h j s same p = tt
sound-same core m Skip k h j s same p = tt
sound-same core m (Seq first rest) k h j s same p = (
  sound-same core m first k h j s (λ i low high. same i low (omega arith)) p.0,
  next-on (end core m first s) _ _
      (λ t q. sound-same core m rest (k + loops first) h j t (λ i low high. same i (omega arith) (omega arith)) q)
      p.1,
)
sound-same core m (Choice left right) k h j s same p = (
  sound-same core m left k h j s (λ i low high. same i low (omega arith)) p.0,
  sound-same core m right (k + loops left) h j s (λ i low high. same i (omega arith) (omega arith)) p.1,
)
sound-same core m (Loop body) k h j s same p = (
  subst (λ (o : Option KindState). OnNext o (λ x. BelowState x (last_of core m body s)))
      (same k (omega arith) (omega arith)) p.0,
  sound-same core m body (suc k) h j (last_of core m body s) (λ i low high. same i (omega arith) (omega arith)) p.1,
)
sound-same core m (Sync lock body) k h j s same p = sound-same core m body k h j (popped s 1) same p

loop-below : (core : Core) (m : Method) (body : Tree) (s t : KindState) → BelowState s t →
    BelowState (last_of core m body s) (last_of core m body t)
loop-below core m body s t h = check-monotone core m (Loop body) s t h

on-above : (o p : Option KindState) (P Q : KindState → Type 0) → BelowNext o p →
    ((s t : KindState) → BelowState s t → P s → Q t) → OnNext o P → OnNext p Q
on-above None None P Q b f h = tt
on-above None (Some t) P Q b f h = absurd b
on-above (Some s) None P Q b f h = absurd b
on-above (Some s) (Some t) P Q b f h = f s t b h

pub sound-above : (core : Core) (m : Method) (code : Tree) (k : ℕ) (h : Heads) (s t : KindState) → BelowState s t →
    IsSound core m code k h s → IsSound core m code k h t
sound-above core m (Op site place op) k h s t b p = tt
sound-above core m Skip k h s t b p = tt
sound-above core m (Seq first rest) k h s t b p = (
  sound-above core m first k h s t b p.0,
  on-above (end core m first s) (end core m first t) _ _ (check-monotone core m first s t b)
      (λ u v c q. sound-above core m rest (k + loops first) h u v c q) p.1,
)
sound-above core m (Choice left right) k h s t b p = (
  sound-above core m left k h s t b p.0,
  sound-above core m right (k + loops left) h s t b p.1,
)
sound-above core m (Loop body) k h s t b p = (
  next-on (h k) _ _
      (λ x q. state-trans x (last_of core m body s) (last_of core m body t) q (loop-below core m body s t b)) p.0,
  sound-above core m body (suc k) h (last_of core m body s) (last_of core m body t) (loop-below core m body s t b) p.1,
)
sound-above core m (Sync lock body) k h s t b p =
    sound-above core m body k h (popped s 1) (popped t 1) (pop-keeps s t 1 b) p

on-any : (o : Option KindState) (P : KindState → Type 0) → ((t : KindState) → P t) → OnNext o P
on-any None P f = tt
on-any (Some t) P f = f t

pub sound-first : (core : Core) (m : Method) (code : Tree) (k : ℕ) (s : KindState) → IsSound core m code k no_heads s
sound-first core m (Op site place op) k s = tt
sound-first core m Skip k s = tt
sound-first core m (Seq first rest) k s = (
  sound-first core m first k s,
  on-any (end core m first s) _ (λ t. sound-first core m rest (k + loops first) t),
)
sound-first core m (Choice left right) k s =
    (sound-first core m left k s, sound-first core m right (k + loops left) s)
sound-first core m (Loop body) k s = (tt, sound-first core m body (suc k) _)
sound-first core m (Sync lock body) k s = sound-first core m body k (popped s 1)
