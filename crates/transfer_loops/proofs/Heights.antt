-- The flow keeps the number of variables, and ends with the stack that the code's height tells.
use Rattle.std.proofs.Common.{◌≡◌, ℕ, zero, suc, ◌+◌, ◌-◌, ◌≤◌, Bool, true, false, cond, List, Option, None, Some}
use Rattle.std.proofs.Common.{length, nat_eq, nat_le, refl, sym, ap, subst, ◌∙◌, arith}
use Rattle.std.proofs.lemmas.List.{length-drop, length-set}
use Rattle.std.proofs.lemmas.Bool.{leb-true, eqb-true}
use Rattle.std.proofs.lemmas.Option.{same_Some, cond_some}
use Rattle.racer_base.specs.declared.ids.SiteId.{SiteId}
use Rattle.racer_base.specs.declared.ids.MethodId.{MethodId}
use Rattle.owner_domain.specs.declared.value.Value.{Value}
use Rattle.owner_domain.specs.declared.value.State.{State}
use Rattle.owner_domain.specs.Values.{joined_values, joined_state}
use Rattle.owner_domain.proofs.Joins.{length-joined_values}
use Rattle.core_code.specs.Tree.{LockAt, Tree, Op, Skip, Seq, Choice, Loop, Sync}
use Rattle.core_code.specs.Facts.{pops, pushes, same_height, height_after}
use Rattle.core_code.specs.declared.code.Op.{Op as CoreOp}
use Rattle.core_code.specs.declared.code.Op.TheVariants.{Push, PushClass, PushPrim, PushNull, New, Dup, Drop, Get, Put}
use Rattle.core_code.specs.declared.code.Op.TheVariants.{Set, Prim as PrimOp, Outside, Call, Unread, Ret, Throw}
use Rattle.access_domain.specs.FlowContext.{FlowContext}
use Rattle.access_domain.specs.Findings.{Known, Large, Whole}
use Rattle.access_domain.specs.Operations.{pushed, popped, replaced, op_effects, call_effects}
use Rattle.access_domain.specs.Flow.{flow, rounds, joined_next}
use Rattle.transfer_loops.specs.Rounds.{round_next, rounds_of}
use Rattle.transfer_loops.specs.Order.{rounded}
use Rattle.transfer_loops.proofs.Monotone.{rounds-state, after_next, next-after}

-- a state with so many variables and so many places on the stack
pub record IsSized (v h : ℕ) (s : State) : Type 0 where
  pub vars : length s.vars ≡ v
  pub stack : length s.stack ≡ h

sized_push : (v h k : ℕ) (s t : State) (a : Value) → IsSized v h s → h + 1 ≡ k → Some (pushed s a) ≡ Some t →
    IsSized v k t
sized_push v h k s t a p e is = let same : pushed s a ≡ t = cc in
    let more : suc (length s.stack) ≡ k = let l : length s.stack ≡ h = p.stack in omega arith in
    subst (IsSized v k) same (record { vars = p.vars; stack = more })

pub sized_pop : (v h k n : ℕ) (s t : State) → IsSized v h s → h - n ≡ k → Some (popped s n) ≡ Some t → IsSized v k t
sized_pop v h k n s t p e is = let same : popped s n ≡ t = cc in
    subst (IsSized v k) same (record {
      vars = p.vars;
      stack =
          length-drop n s.stack ∙ ap (λ (i : ℕ). i - n) p.stack ∙ e;
    })

sized_replace : (v h k n : ℕ) (s t : State) (a : Value) → IsSized v h s → h - n + 1 ≡ k →
    Some (replaced s n a) ≡ Some t → IsSized v k t
sized_replace v h k n s t a p e is = let less : IsSized v (h - n) (popped s n) =
    sized_pop v h (h - n) n s (popped s n) p refl refl in sized_push v (h - n) k (popped s n) t a less e is

sized_call : (g : FlowContext) (locked : Bool) (site : SiteId) (m : MethodId) (n : ℕ) (o : Option Known) (v h k : ℕ)
    (s t : State) → IsSized v h s → h - n + 1 ≡ k → (call_effects g locked site m n s o).next ≡ Some t → IsSized v k t
sized_call g locked site m n None v h k s t p e is = sized_replace v h k n s t _ p e is
sized_call g locked site m n (Some Large) v h k s t p e is = sized_replace v h k n s t _ p e is
sized_call g locked site m n (Some (Whole found)) v h k s t p e is = sized_replace v h k n s t _ p e is

sized_set : (v h k : ℕ) (s t : State) (vars : List Value) → length vars ≡ length s.vars → IsSized v h s → h ≡ k →
    Some (let made : State = record { vars = vars; stack = s.stack } in made) ≡ Some t → IsSized v k t
sized_set v h k s t vars long p e is = let same : (let made : State = record { vars = vars; stack = s.stack } in
    made) ≡ t = cc in subst (IsSized v k) same (record { vars = long ∙ p.vars; stack = p.stack ∙ e })

sized_op : (g : FlowContext) (locked : Bool) (site : SiteId) (op : CoreOp) (v h k : ℕ) (s t : State) → IsSized v h s →
    cond (nat_le (pops op) h) (Some (h - pops op + pushes op)) None ≡ Some k →
    (op_effects g locked site op s).next ≡ Some t → IsSized v k t
sized_op g locked site (Push x) v h k s t p e is = let r = cond_some (nat_le 0 h) (h - 0 + 1) k e in
    sized_push v h k s t _ p (let i : h - 0 + 1 ≡ k = r.1 in omega arith) is
sized_op g locked site (PushClass c) v h k s t p e is = let r = cond_some (nat_le 0 h) (h - 0 + 1) k e in
    sized_push v h k s t _ p (let i : h - 0 + 1 ≡ k = r.1 in omega arith) is
sized_op g locked site PushPrim v h k s t p e is = let r = cond_some (nat_le 0 h) (h - 0 + 1) k e in
    sized_push v h k s t _ p (let i : h - 0 + 1 ≡ k = r.1 in omega arith) is
sized_op g locked site PushNull v h k s t p e is = let r = cond_some (nat_le 0 h) (h - 0 + 1) k e in
    sized_push v h k s t _ p (let i : h - 0 + 1 ≡ k = r.1 in omega arith) is
sized_op g locked site (New c) v h k s t p e is = let r = cond_some (nat_le 0 h) (h - 0 + 1) k e in
    sized_push v h k s t _ p (let i : h - 0 + 1 ≡ k = r.1 in omega arith) is
sized_op g locked site Dup v h k s t p e is = let r = cond_some (nat_le 1 h) (h - 1 + 2) k e in
    let some : 1 ≤ h = leb-true 1 h r.0 in sized_push v h k s t _ p (let i : h - 1 + 2 ≡ k = r.1 in omega arith) is
sized_op g locked site Drop v h k s t p e is = let r = cond_some (nat_le 1 h) (h - 1 + 0) k e in
    sized_pop v h k 1 s t p (let i : h - 1 + 0 ≡ k = r.1 in omega arith) is
sized_op g locked site (Get f) v h k s t p e is = let r = cond_some (nat_le 1 h) (h - 1 + 1) k e in
    sized_replace v h k 1 s t _ p r.1 is
sized_op g locked site (Put f) v h k s t p e is = let r = cond_some (nat_le 2 h) (h - 2 + 1) k e in
    sized_replace v h k 2 s t _ p r.1 is
sized_op g locked site (Set x) v h k s t p e is = let r = cond_some (nat_le 1 h) (h - 1 + 1) k e in
    let some : 1 ≤ h = leb-true 1 h r.0 in sized_set v h k s t _ (length-set s.vars x.0 _) p
    (let i : h - 1 + 1 ≡ k = r.1 in omega arith) is
sized_op g locked site (PrimOp n) v h k s t p e is =
    sized_replace v h k n s t _ p (cond_some (nat_le n h) (h - n + 1) k e).1 is
sized_op g locked site (Outside n) v h k s t p e is =
    sized_replace v h k n s t _ p (cond_some (nat_le n h) (h - n + 1) k e).1 is
sized_op g locked site (Call m n) v h k s t p e is =
    sized_call g locked site m n (g.known_of m) v h k s t p (cond_some (nat_le n h) (h - n + 1) k e).1 is
sized_op g locked site (Unread m n) v h k s t p e is =
    sized_replace v h k n s t _ p (cond_some (nat_le n h) (h - n + 1) k e).1 is
sized_op g locked site Ret v h k s t p e is = cc
sized_op g locked site Throw v h k s t p e is = cc

-- ---- heights of parts
pub then_heights : (first rest : Tree) (h k : ℕ) → height_after (Seq first rest) h ≡ Some k → (m : ℕ)
    × (height_after first h ≡ Some m) × (height_after rest m ≡ Some k)
then_heights first rest h k e = elim (height_after first h)
    as (λ o. height_after first h ≡ o → (elim o as (λ _. Option ℕ) [ None ↦ None | Some m ↦ height_after rest m ])
    ≡ Some k → (m : ℕ) × (height_after first h ≡ Some m) × (height_after rest m ≡ Some k))
    [ None ↦ λ is f. cc | Some m ↦ λ is f. (m, is, f) ] refl e

same_heights : (a b : Option ℕ) (k : ℕ) → same_height a b ≡ Some k → (a ≡ Some k) × (b ≡ Some k)
same_heights None b k e = cc
same_heights (Some a) None k e = cc
same_heights (Some a) (Some b) k e = let r = cond_some (nat_eq a b) a k e in
    (ap Some r.1, ap Some (sym (eqb-true a b r.0) ∙ r.1))

pub either_heights : (left right : Tree) (h k : ℕ) → height_after (Choice left right) h ≡ Some k →
    (height_after left h ≡ Some k) × (height_after right h ≡ Some k)
either_heights left right h k e = same_heights (height_after left h) (height_after right h) k e

pub loop_heights : (body : Tree) (h k : ℕ) → height_after (Loop body) h ≡ Some k → (h ≡ k)
    × (height_after body h ≡ Some h)
loop_heights body h k e = let r = same_heights (Some h) (height_after body h) k e in
    let same : h ≡ k = same_Some h k r.0 in (same, r.1 ∙ ap Some (sym same))

pub held_heights : (lock : LockAt) (body : Tree) (h k : ℕ) → height_after (Sync lock body) h ≡ Some k →
    height_after body (h - 1) ≡ Some k
held_heights lock body h k e = elim (nat_le 1 h)
    as (λ b. cond b (height_after body (h - 1)) None ≡ Some k → height_after body (h - 1) ≡ Some k)
    [ true ↦ λ f. f | false ↦ λ f. cc ] e

-- ---- joins and rounds

pub sized_join : (v h : ℕ) (s t : State) → IsSized v h s → IsSized v h t → IsSized v h (joined_state s t)
sized_join v h s t p q = record {
  vars = length-joined_values s.vars t.vars (p.vars ∙ sym q.vars) ∙ p.vars;
  stack =
      length-joined_values s.stack t.stack (p.stack ∙ sym q.stack) ∙ p.stack;
}

pub sized_round : (v h : ℕ) (s : State) (o : Option State) → IsSized v h s →
    ((t : State) → o ≡ Some t → IsSized v h t) → IsSized v h (round_next s o)
sized_round v h s None p keep = p
sized_round v h s (Some t) p keep = sized_join v h s t p (keep t refl)

pub sized_rounds : (f : State → Option State) (v h : ℕ) →
    ((x y : State) → IsSized v h x → f x ≡ Some y → IsSized v h y) → (n : ℕ) (s : State) → IsSized v h s →
    IsSized v h (rounded f n s)
sized_rounds f v h keep zero s p = p
sized_rounds f v h keep (suc n) s p = sized_rounds f v h keep n (round_next s (f s))
    (sized_round v h s (f s) p (λ t e. keep s t p e))

sized_beside : (v k : ℕ) (l r : Option State) (t : State) → ((a : State) → l ≡ Some a → IsSized v k a) →
    ((b : State) → r ≡ Some b → IsSized v k b) → joined_next l r ≡ Some t → IsSized v k t
sized_beside v k None r t on_left on_right is = on_right t is
sized_beside v k (Some a) None t on_left on_right is = on_left t is
sized_beside v k (Some a) (Some b) t on_left on_right is = let same : joined_state a b ≡ t = cc in
    subst (IsSized v k) same (sized_join v k a b (on_left a refl) (on_right b refl))

sized_then : (v k : ℕ) (o : Option State) (f : State → Option State) (t : State) (P : State → Type 0) →
    ((u : State) → o ≡ Some u → P u) → ((u : State) → P u → f u ≡ Some t → IsSized v k t) → after_next o f ≡ Some t →
    IsSized v k t
sized_then v k None f t P first rest is = cc
sized_then v k (Some u) f t P first rest is = rest u (first u refl) is

pub flow-sized : (g : FlowContext) (code : Tree) (locked : Bool) (v h k : ℕ) (s t : State) →
    height_after code h ≡ Some k → IsSized v h s → (flow g code locked s).next ≡ Some t → IsSized v k t
flow-sized g (Op site place op) locked v h k s t e p is = sized_op g locked site op v h k s t p e is
flow-sized g Skip locked v h k s t e p is = let same : s ≡ t = cc in let high : h ≡ k = same_Some h k e in
    subst (IsSized v k) same (subst (λ (n : ℕ). IsSized v n s) high p)
flow-sized g (Seq first rest) locked v h k s t e p is = let m = then_heights first rest h k e in
    sized_then v k (flow g first locked s).next (λ x. (flow g rest locked x).next) t (IsSized v m.0)
    (λ u f. flow-sized g first locked v h m.0 s u m.1 p f) (λ u q f. flow-sized g rest locked v m.0 k u t m.2 q f)
    (sym (next-after (flow g first locked s) (flow g rest locked) (flow g first locked s).next refl) ∙ is)
flow-sized g (Choice left right) locked v h k s t e p is = let m = either_heights left right h k e in
    sized_beside v k (flow g left locked s).next (flow g right locked s).next t
    (λ a f. flow-sized g left locked v h k s a m.0 p f) (λ b f. flow-sized g right locked v h k s b m.1 p f) is
flow-sized g (Loop body) locked v h k s t e p is = let m = loop_heights body h k e in
    let f : State → Option State = λ x. (flow g body locked x).next in
    let all : IsSized v h (rounded f (rounds_of s) s) =
    sized_rounds f v h (λ x y q i. flow-sized g body locked v h h x y m.1 q i) (rounds_of s) s p in
    let same : (rounds (flow g body locked) (rounds_of s) s).0 ≡ t = cc in
    subst (IsSized v k) (sym (rounds-state (flow g body locked) (rounds_of s) s) ∙ same)
    (subst (λ (n : ℕ). IsSized v n (rounded f (rounds_of s) s)) m.0 all)
flow-sized g (Sync place body) locked v h k s t e p is =
    flow-sized g body true v (h - 1) k (popped s 1) t (held_heights place body h k e)
    (sized_pop v h (h - 1) 1 s (popped s 1) p refl refl) is
