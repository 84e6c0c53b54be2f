-- Code that sets no variable and does not return goes on with the variables as they were.
use Rattle.std.proofs.Common.{◌≡◌, ℕ, zero, suc, Bool, true, List, Option, None, Some}
use Rattle.std.proofs.Common.{length, refl, sym, ap, subst, ◌∙◌}
use Rattle.std.proofs.lemmas.Bool.{and_parts}
use Rattle.racer_base.specs.declared.ids.SiteId.{SiteId}
use Rattle.racer_base.specs.declared.ids.MethodId.{MethodId}
use Rattle.racer_base.proofs.Lists.{no_items}
use Rattle.owner_domain.specs.declared.value.Value.{Value}
use Rattle.owner_domain.specs.declared.value.State.{State}
use Rattle.owner_domain.specs.Values.{joined_values}
use Rattle.owner_domain.proofs.Joins.{joined_values-itself}
use Rattle.core_code.specs.Tree.{Tree, Op, Skip, Seq, Choice, Loop, Sync}
use Rattle.core_code.specs.Facts.{height_after}
use Rattle.core_code.specs.declared.code.Op.{Op as CoreOp}
use Rattle.core_code.specs.declared.code.Op.TheVariants.{Push, PushClass, PushPrim, PushNull, New, Dup, Drop, Get, Put}
use Rattle.core_code.specs.declared.code.Op.TheVariants.{Set, Prim as PrimOp, Outside, Call, Unread, Ret, Throw}
use Rattle.access_domain.specs.FlowContext.{FlowContext}
use Rattle.access_domain.specs.Findings.{Known, Large, Whole}
use Rattle.access_domain.specs.Operations.{op_effects, call_effects, popped}
use Rattle.access_domain.specs.Flow.{flow, joined_next}
use Rattle.transfer_loops.specs.Rounds.{round_next, rounds_of}
use Rattle.transfer_loops.specs.Order.{rounded}
use Rattle.transfer_loops.proofs.Monotone.{rounds-state, after_next, next-after}
use Rattle.transfer_loops.proofs.Heights.{IsSized, flow-sized}
use Rattle.transfer_bodies.specs.Still.{is_still, is_still_op}

-- there is a state, with these variables
abbrev EndsWith : List Value → Option State → Type 0
EndsWith vars None = ⊥
EndsWith vars (Some t) = t.vars ≡ vars

still-call : (g : FlowContext) (locked : Bool) (site : SiteId) (m : MethodId) (n : ℕ) (o : Option Known) (s : State) →
    EndsWith s.vars (call_effects g locked site m n s o).next
still-call g locked site m n None s = refl
still-call g locked site m n (Some Large) s = refl
still-call g locked site m n (Some (Whole found)) s = refl

still-op : (g : FlowContext) (locked : Bool) (site : SiteId) (op : CoreOp) (s : State) → is_still_op op ≡ true →
    EndsWith s.vars (op_effects g locked site op s).next
still-op g locked site (Push v) s e = refl
still-op g locked site (PushClass c) s e = refl
still-op g locked site PushPrim s e = refl
still-op g locked site PushNull s e = refl
still-op g locked site (New c) s e = refl
still-op g locked site Dup s e = refl
still-op g locked site Drop s e = refl
still-op g locked site (Get f) s e = refl
still-op g locked site (Put f) s e = refl
still-op g locked site (Set v) s e = cc
still-op g locked site (PrimOp n) s e = refl
still-op g locked site (Outside n) s e = refl
still-op g locked site (Call m n) s e = still-call g locked site m n (g.known_of m) s
still-op g locked site (Unread m n) s e = refl
still-op g locked site Ret s e = cc
still-op g locked site Throw s e = cc

still-joined : (vars : List Value) (a b : Option State) → EndsWith vars a → EndsWith vars b →
    EndsWith vars (joined_next a b)
still-joined vars None b p q = absurd p
still-joined vars (Some a) None p q = absurd q
still-joined vars (Some a) (Some b) p q = (λ i. joined_values (p i) (q i)) ∙ joined_values-itself vars

still-then : (vars : List Value) (o : Option State) (f : State → Option State) → EndsWith vars o →
    ((t : State) → t.vars ≡ vars → EndsWith vars (f t)) → EndsWith vars (after_next o f)
still-then vars None f p rest = p
still-then vars (Some t) f p rest = rest t p

still-round : (vars : List Value) (s : State) (o : Option State) → s.vars ≡ vars → EndsWith vars o →
    (round_next s o).vars ≡ vars
still-round vars s None same p = same
still-round vars s (Some t) same p = (λ i. joined_values (same i) (p i)) ∙ joined_values-itself vars

still-rounds : (vars : List Value) (f : State → Option State) →
    ((t : State) → t.vars ≡ vars → EndsWith vars (f t)) → (n : ℕ) (s : State) → s.vars ≡ vars →
    (rounded f n s).vars ≡ vars
still-rounds vars f keep zero s same = same
still-rounds vars f keep (suc n) s same =
    still-rounds vars f keep n (round_next s (f s)) (still-round vars s (f s) same (keep s same))

still-flow : (g : FlowContext) (code : Tree) (locked : Bool) (vars : List Value) (s : State) → is_still code ≡ true →
    s.vars ≡ vars → EndsWith vars (flow g code locked s).next
still-flow g (Op site place op) locked vars s e same =
    subst (λ (vs : List Value). EndsWith vs (op_effects g locked site op s).next) same (still-op g locked site op s e)
still-flow g Skip locked vars s e same = same
still-flow g (Seq first rest) locked vars s e same =
    let both = and_parts (is_still first) (is_still rest) e in
    let o = (flow g first locked s).next in
    subst (EndsWith vars) (sym (next-after (flow g first locked s) (flow g rest locked) o refl))
    (still-then vars o (λ t. (flow g rest locked t).next) (still-flow g first locked vars s both.0 same)
    (λ t is. still-flow g rest locked vars t both.1 is))
still-flow g (Choice left right) locked vars s e same =
    let both = and_parts (is_still left) (is_still right) e in
    still-joined vars (flow g left locked s).next (flow g right locked s).next
    (still-flow g left locked vars s both.0 same) (still-flow g right locked vars s both.1 same)
still-flow g (Loop body) locked vars s e same =
    let f : State → Option State = λ t. (flow g body locked t).next in
    ap (λ (t : State). t.vars) (rounds-state (flow g body locked) (rounds_of s) s)
    ∙ still-rounds vars f (λ t is. still-flow g body locked vars t e is) (rounds_of s) s same
still-flow g (Sync place body) locked vars s e same = still-flow g body true vars (popped s 1) e same

same_ends : (s t : State) → t.vars ≡ s.vars → length s.stack ≡ 0 → length t.stack ≡ 0 → t ≡ s
same_ends s t vars none no_more =
    (λ i. record { vars = vars i; stack = (no_items t.stack no_more ∙ sym (no_items s.stack none)) i })

-- still code from an empty stack to an empty one
pub still-end : (g : FlowContext) (code : Tree) (locked : Bool) (s : State) → is_still code ≡ true →
    height_after code 0 ≡ Some 0 → length s.stack ≡ 0 → (flow g code locked s).next ≡ Some s
still-end g code locked s e height none =
    elim (flow g code locked s).next as (λ o. (flow g code locked s).next ≡ o → EndsWith s.vars o → o ≡ Some s) [
      | None ↦ λ is p. absurd p
      | Some t ↦ λ is p.
          let size : IsSized (length s.vars) 0 t =
          flow-sized g code locked (length s.vars) 0 0 s t height (record { vars = refl; stack = none }) is in
          ap Some (same_ends s t p none size.stack)
    ] refl (still-flow g code locked s.vars s e refl)
