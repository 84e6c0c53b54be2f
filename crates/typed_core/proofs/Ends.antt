-- The check keeps the order of kinds.
use Rattle.std.proofs.Common.{◌≡◌, ℕ, zero, suc, ◌+◌, inl, Option, None, Some, refl, sym, ap, subst, ◌∙◌}
use Rattle.core_code.specs.Tree.{Tree, Op, Skip, Seq, Choice, Loop, Sync}
use Rattle.core_code.specs.Core.{Core, Method}
use Rattle.core_code.specs.declared.code.Op.{Op as CoreOp}
use Rattle.core_code.specs.declared.code.Op.TheVariants.{Push, PushClass, PushPrim, PushNull, New, Dup, Drop, Get, Put}
use Rattle.core_code.specs.declared.code.Op.TheVariants.{Set, Prim as PrimOp, Outside, Call, Unread, Ret, Throw}
use Rattle.typed_core.specs.declared.states.KindState.{KindState}
use Rattle.typed_core.specs.States.{joined_next, popped, top, variable_of}
use Rattle.typed_core.specs.Needs.{kinds_behind, field_kind, result_kind}
use Rattle.typed_core.specs.declared.kinds.TypedKind.TheVariants as kind
use Rattle.typed_core.specs.Check.{check, round_next, rounds, rounds_of, settled}
use Rattle.typed_core.specs.Resuming.{BelowState, BelowNext, IsMonotone}
use Rattle.typed_core.proofs.Order.{all-get, all-set, all-long, top-keeps, push-keeps, pop-keeps, replace-keeps}
use Rattle.typed_core.proofs.Order.{next-joined, state-joined}

-- the kinds at the end of code that begins with these, or none
abbrev pub end : Core → Method → Tree → KindState → Option KindState
end core m code s = (check core m code (Some s)).next

abbrev pub after_next : Option KindState → (KindState → Option KindState) → Option KindState
after_next None f = None
after_next (Some s) f = f s

-- where there are no kinds there are none behind
pub none-end : (core : Core) (m : Method) (code : Tree) → (check core m code None).next ≡ None
none-end core m (Op site place op) = refl
none-end core m Skip = refl
none-end core m (Seq first rest) =
    ap (λ (o : Option KindState). (check core m rest o).next) (none-end core m first) ∙ none-end core m rest
none-end core m (Choice left right) = (λ i. joined_next (none-end core m left i) (none-end core m right i))
none-end core m (Loop body) = none-end core m body
none-end core m (Sync lock body) = none-end core m body

pub end-after : (core : Core) (m : Method) (rest : Tree) (o : Option KindState) →
    (check core m rest o).next ≡ after_next o (end core m rest)
end-after core m rest None = none-end core m rest
end-after core m rest (Some s) = refl

op-keeps : (core : Core) (op : CoreOp) (s t : KindState) → BelowState s t →
    BelowNext (kinds_behind core op s) (kinds_behind core op t)
op-keeps core (Push v) s t h = push-keeps s t (variable_of s v.0) (variable_of t v.0) h (all-get s.vars t.vars v.0 h.0)
op-keeps core (PushClass c) s t h = (h.0, (inl refl, h.1))
op-keeps core PushPrim s t h = (h.0, (inl refl, h.1))
op-keeps core PushNull s t h = (h.0, (inl refl, h.1))
op-keeps core (New c) s t h = (h.0, (inl refl, h.1))
op-keeps core Dup s t h = push-keeps s t (top s) (top t) h (top-keeps s t h)
op-keeps core Drop s t h = pop-keeps s t 1 h
op-keeps core (Get f) s t h = replace-keeps s t 1 (field_kind core f) (field_kind core f) h (inl refl)
op-keeps core (Put f) s t h = replace-keeps s t 2 (top s) (top t) h (top-keeps s t h)
op-keeps core (Set v) s t h = (all-set s.vars t.vars v.0 (top s) (top t) h.0 (top-keeps s t h), h.1)
op-keeps core (PrimOp n) s t h = replace-keeps s t n kind.Plain kind.Plain h (inl refl)
op-keeps core (Outside n) s t h = replace-keeps s t n kind.Other kind.Other h (inl refl)
op-keeps core (Call m n) s t h = replace-keeps s t n (result_kind core m) (result_kind core m) h (inl refl)
op-keeps core (Unread m n) s t h = replace-keeps s t n kind.Other kind.Other h (inl refl)
op-keeps core Ret s t h = tt
op-keeps core Throw s t h = tt

-- ---- rounds
pub round-keeps : (s t : KindState) (a b : Option KindState) → BelowState s t → BelowNext a b →
    BelowState (round_next s a) (round_next t b)
round-keeps s t None None h k = h
round-keeps s t None (Some b) h k = absurd k
round-keeps s t (Some a) None h k = absurd k
round-keeps s t (Some a) (Some b) h k = state-joined s a t b h k

pub rounds-keep : (f : KindState → Option KindState) → IsMonotone f → (n : ℕ) (s t : KindState) → BelowState s t →
    BelowState (rounds f n s) (rounds f n t)
rounds-keep f up zero s t h = h
rounds-keep f up (suc n) s t h = rounds-keep f up n (round_next s (f s)) (round_next t (f t))
    (round-keeps s t (f s) (f t) h (up s t h))

pub rounds_of-same : (s t : KindState) → BelowState s t → rounds_of s ≡ rounds_of t
rounds_of-same s t h =
    (λ i. suc (all-long s.vars t.vars h.0 i + all-long s.stack t.stack h.1 i
    + (all-long s.vars t.vars h.0 i + all-long s.stack t.stack h.1 i)))

pub settled-keeps : (f : KindState → Option KindState) → IsMonotone f → (s t : KindState) → BelowState s t →
    BelowState (settled f s) (settled f t)
settled-keeps f up s t h =
    subst (λ (n : ℕ). BelowState (settled f s) (rounds f n t)) (rounds_of-same s t h)
    (rounds-keep f up (rounds_of s) s t h)

then-keeps : (a b : Option KindState) (f : KindState → Option KindState) → IsMonotone f → BelowNext a b →
    BelowNext (after_next a f) (after_next b f)
then-keeps None None f up h = tt
then-keeps None (Some b) f up h = absurd h
then-keeps (Some a) None f up h = absurd h
then-keeps (Some a) (Some b) f up h = up a b h

-- the end of code from kinds that say less says less
pub check-monotone : (core : Core) (m : Method) (code : Tree) → IsMonotone (end core m code)
check-monotone core m (Op site place op) s t h = op-keeps core op s t h
check-monotone core m Skip s t h = h
check-monotone core m (Seq first rest) s t h =
    let one = check-monotone core m first s t h in
    let two : IsMonotone (end core m rest) = check-monotone core m rest in
    subst (λ (o : Option KindState). BelowNext o (end core m (Seq first rest) t))
    (sym (end-after core m rest (end core m first s)))
    (subst (BelowNext (after_next (end core m first s) (end core m rest)))
    (sym (end-after core m rest (end core m first t)))
    (then-keeps (end core m first s) (end core m first t) (end core m rest) two one))
check-monotone core m (Choice left right) s t h =
    next-joined (end core m left s) (end core m right s) (end core m left t) (end core m right t)
    (check-monotone core m left s t h) (check-monotone core m right s t h)
check-monotone core m (Loop body) s t h = settled-keeps (end core m body) (check-monotone core m body) s t h
check-monotone core m (Sync lock body) s t h =
    check-monotone core m body (popped s 1) (popped t 1) (pop-keeps s t 1 h)
