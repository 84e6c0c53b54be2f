-- The check keeps the number of variables, and ends with the stack that the code's height tells.
use Rattle.std.proofs.Common.{◌≡◌, ℕ, zero, suc, ◌+◌, ◌-◌, ◌≤◌, cond, List, Option, None, Some}
use Rattle.std.proofs.Common.{length, nat_le, refl, sym, ap, subst, ◌∙◌, arith}
use Rattle.std.proofs.lemmas.List.{length-drop, length-set}
use Rattle.std.proofs.lemmas.Bool.{leb-true}
use Rattle.std.proofs.lemmas.Option.{same_Some, cond_some}
use Rattle.core_code.specs.Tree.{Tree, Op, Skip, Seq, Choice, Loop, Sync}
use Rattle.core_code.specs.Core.{Core, Method}
use Rattle.core_code.specs.Facts.{pops, pushes, height_after}
use Rattle.core_code.specs.declared.code.Op.{Op as CoreOp}
use Rattle.core_code.specs.declared.code.Op.TheVariants.{Push, PushClass, PushPrim, PushNull, New, Dup, Drop, Get, Put}
use Rattle.core_code.specs.declared.code.Op.TheVariants.{Set, Prim as PrimOp, Outside, Call, Unread, Ret, Throw}
use Rattle.transfer_loops.proofs.Heights.{then_heights, either_heights, loop_heights, held_heights}
use Rattle.typed_core.specs.declared.kinds.TypedKind.{TypedKind}
use Rattle.typed_core.specs.declared.states.KindState.{KindState}
use Rattle.typed_core.specs.States.{joined_state, joined_next, popped, pushed, replaced}
use Rattle.typed_core.specs.Needs.{kinds_behind}
use Rattle.typed_core.specs.Check.{round_next, rounds, rounds_of, settled}
use Rattle.typed_core.proofs.Order.{length-joined}
use Rattle.typed_core.proofs.Ends.{end, after_next, end-after}

-- a state with so many variables and so many places on the stack
pub record IsSized (v h : ℕ) (s : KindState) : Type 0 where
  pub vars : length s.vars ≡ v
  pub stack : length s.stack ≡ h

sized_push : (v h k : ℕ) (s t : KindState) (a : TypedKind) → IsSized v h s → h + 1 ≡ k → Some (pushed s a) ≡ Some t →
    IsSized v k t
sized_push v h k s t a p e is = let same : pushed s a ≡ t = cc in
    let more : suc (length s.stack) ≡ k = let l : length s.stack ≡ h = p.stack in omega arith in
    subst (IsSized v k) same (record { vars = p.vars; stack = more })

pub sized_pop : (v h k n : ℕ) (s t : KindState) → IsSized v h s → h - n ≡ k → Some (popped s n) ≡ Some t →
    IsSized v k t
sized_pop v h k n s t p e is = let same : popped s n ≡ t = cc in
    subst (IsSized v k) same (record {
      vars = p.vars;
      stack = length-drop n s.stack ∙ ap (λ (i : ℕ). i - n) p.stack ∙ e;
    })

sized_replace : (v h k n : ℕ) (s t : KindState) (a : TypedKind) → IsSized v h s → h - n + 1 ≡ k →
    Some (replaced s n a) ≡ Some t → IsSized v k t
sized_replace v h k n s t a p e is = let less : IsSized v (h - n) (popped s n) =
    sized_pop v h (h - n) n s (popped s n) p refl refl in sized_push v (h - n) k (popped s n) t a less e is

sized_set : (v h k : ℕ) (s t : KindState) (vars : List TypedKind) → length vars ≡ length s.vars → IsSized v h s → h ≡ k →
    Some (let made : KindState = record { vars = vars; stack = s.stack } in made) ≡ Some t → IsSized v k t
sized_set v h k s t vars long p e is = let same : (let made : KindState = record { vars = vars; stack = s.stack } in
    made) ≡ t = cc in subst (IsSized v k) same (record { vars = long ∙ p.vars; stack = p.stack ∙ e })

sized_op : (core : Core) (op : CoreOp) (v h k : ℕ) (s t : KindState) → IsSized v h s →
    cond (nat_le (pops op) h) (Some (h - pops op + pushes op)) None ≡ Some k →
    kinds_behind core op s ≡ Some t → IsSized v k t
sized_op core (Push x) v h k s t p e is = let r = cond_some (nat_le 0 h) (h - 0 + 1) k e in
    sized_push v h k s t _ p (let i : h - 0 + 1 ≡ k = r.1 in omega arith) is
sized_op core (PushClass c) v h k s t p e is = let r = cond_some (nat_le 0 h) (h - 0 + 1) k e in
    sized_push v h k s t _ p (let i : h - 0 + 1 ≡ k = r.1 in omega arith) is
sized_op core PushPrim v h k s t p e is = let r = cond_some (nat_le 0 h) (h - 0 + 1) k e in
    sized_push v h k s t _ p (let i : h - 0 + 1 ≡ k = r.1 in omega arith) is
sized_op core PushNull v h k s t p e is = let r = cond_some (nat_le 0 h) (h - 0 + 1) k e in
    sized_push v h k s t _ p (let i : h - 0 + 1 ≡ k = r.1 in omega arith) is
sized_op core (New c) v h k s t p e is = let r = cond_some (nat_le 0 h) (h - 0 + 1) k e in
    sized_push v h k s t _ p (let i : h - 0 + 1 ≡ k = r.1 in omega arith) is
sized_op core Dup v h k s t p e is = let r = cond_some (nat_le 1 h) (h - 1 + 2) k e in
    let some : 1 ≤ h = leb-true 1 h r.0 in sized_push v h k s t _ p (let i : h - 1 + 2 ≡ k = r.1 in omega arith) is
sized_op core Drop v h k s t p e is = let r = cond_some (nat_le 1 h) (h - 1 + 0) k e in
    sized_pop v h k 1 s t p (let i : h - 1 + 0 ≡ k = r.1 in omega arith) is
sized_op core (Get f) v h k s t p e is = let r = cond_some (nat_le 1 h) (h - 1 + 1) k e in
    sized_replace v h k 1 s t _ p r.1 is
sized_op core (Put f) v h k s t p e is = let r = cond_some (nat_le 2 h) (h - 2 + 1) k e in
    sized_replace v h k 2 s t _ p r.1 is
sized_op core (Set x) v h k s t p e is = let r = cond_some (nat_le 1 h) (h - 1 + 1) k e in
    let some : 1 ≤ h = leb-true 1 h r.0 in sized_set v h k s t _ (length-set s.vars x.0 _) p
    (let i : h - 1 + 1 ≡ k = r.1 in omega arith) is
sized_op core (PrimOp n) v h k s t p e is =
    sized_replace v h k n s t _ p (cond_some (nat_le n h) (h - n + 1) k e).1 is
sized_op core (Outside n) v h k s t p e is =
    sized_replace v h k n s t _ p (cond_some (nat_le n h) (h - n + 1) k e).1 is
sized_op core (Call m n) v h k s t p e is =
    sized_replace v h k n s t _ p (cond_some (nat_le n h) (h - n + 1) k e).1 is
sized_op core (Unread m n) v h k s t p e is =
    sized_replace v h k n s t _ p (cond_some (nat_le n h) (h - n + 1) k e).1 is
sized_op core Ret v h k s t p e is = cc
sized_op core Throw v h k s t p e is = cc

-- ---- joins and rounds
pub sized_join : (v h : ℕ) (s t : KindState) → IsSized v h s → IsSized v h t → IsSized v h (joined_state s t)
sized_join v h s t p q = record {
  vars = length-joined s.vars t.vars (p.vars ∙ sym q.vars) ∙ p.vars;
  stack = length-joined s.stack t.stack (p.stack ∙ sym q.stack) ∙ p.stack;
}

pub sized_round : (v h : ℕ) (s : KindState) (o : Option KindState) → IsSized v h s →
    ((t : KindState) → o ≡ Some t → IsSized v h t) → IsSized v h (round_next s o)
sized_round v h s None p keep = p
sized_round v h s (Some t) p keep = sized_join v h s t p (keep t refl)

abbrev pub Keeps : (KindState → Option KindState) → ℕ → ℕ → Type 0
Keeps f v h = (x y : KindState) → IsSized v h x → f x ≡ Some y → IsSized v h y

pub sized_rounds : (f : KindState → Option KindState) (v h : ℕ) → Keeps f v h → (n : ℕ) (s : KindState) →
    IsSized v h s → IsSized v h (rounds f n s)
sized_rounds f v h keep zero s p = p
sized_rounds f v h keep (suc n) s p = sized_rounds f v h keep n (round_next s (f s))
    (sized_round v h s (f s) p (λ t e. keep s t p e))

sized_beside : (v k : ℕ) (l r : Option KindState) (t : KindState) → ((a : KindState) → l ≡ Some a → IsSized v k a) →
    ((b : KindState) → r ≡ Some b → IsSized v k b) → joined_next l r ≡ Some t → IsSized v k t
sized_beside v k None r t on_left on_right is = on_right t is
sized_beside v k (Some a) None t on_left on_right is = on_left t is
sized_beside v k (Some a) (Some b) t on_left on_right is = let same : joined_state a b ≡ t = cc in
    subst (IsSized v k) same (sized_join v k a b (on_left a refl) (on_right b refl))

sized_then : (v k : ℕ) (o : Option KindState) (f : KindState → Option KindState) (t : KindState)
    (P : KindState → Type 0) → ((u : KindState) → o ≡ Some u → P u) →
    ((u : KindState) → P u → f u ≡ Some t → IsSized v k t) → after_next o f ≡ Some t → IsSized v k t
sized_then v k None f t P first rest is = cc
sized_then v k (Some u) f t P first rest is = rest u (first u refl) is

pub check-sized : (core : Core) (m : Method) (code : Tree) (v h k : ℕ) (s t : KindState) →
    height_after code h ≡ Some k → IsSized v h s → end core m code s ≡ Some t → IsSized v k t
check-sized core m (Op site place op) v h k s t e p is = sized_op core op v h k s t p e is
check-sized core m Skip v h k s t e p is = let same : s ≡ t = cc in let high : h ≡ k = same_Some h k e in
    subst (IsSized v k) same (subst (λ (n : ℕ). IsSized v n s) high p)
check-sized core m (Seq first rest) v h k s t e p is = let at = then_heights first rest h k e in
    sized_then v k (end core m first s) (end core m rest) t (IsSized v at.0)
    (λ u f. check-sized core m first v h at.0 s u at.1 p f) (λ u q f. check-sized core m rest v at.0 k u t at.2 q f)
    (sym (end-after core m rest (end core m first s)) ∙ is)
check-sized core m (Choice left right) v h k s t e p is = let at = either_heights left right h k e in
    sized_beside v k (end core m left s) (end core m right s) t
    (λ a f. check-sized core m left v h k s a at.0 p f) (λ b f. check-sized core m right v h k s b at.1 p f) is
check-sized core m (Loop body) v h k s t e p is = let at = loop_heights body h k e in
    let f : KindState → Option KindState = end core m body in
    let all : IsSized v h (settled f s) =
    sized_rounds f v h (λ x y q i. check-sized core m body v h h x y at.1 q i) (rounds_of s) s p in
    let same : settled f s ≡ t = cc in
    subst (IsSized v k) same (subst (λ (n : ℕ). IsSized v n (settled f s)) at.0 all)
check-sized core m (Sync lock body) v h k s t e p is =
    check-sized core m body v (h - 1) k (popped s 1) t (held_heights lock body h k e)
    (sized_pop v h (h - 1) 1 s (popped s 1) p refl refl) is
