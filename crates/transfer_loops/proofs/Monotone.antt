-- The flow keeps the order of states.
use Rattle.std.proofs.Common.{◌≡◌, ℕ, zero, suc, ◌+◌, inl, inr, Bool, true, false, cond, List, [], ◌∷◌, ◌++◌, Option}
use Rattle.std.proofs.Common.{None, Some, length, drop, take, refl, sym, ap, subst, ◌∙◌}
use Rattle.std.specs.Prelude.{slice_index_or, slice_set}
use mathlib.Core.List.{reverse_aux}
use Rattle.racer_base.specs.declared.ids.FieldId.{FieldId}
use Rattle.racer_base.specs.declared.ids.SiteId.{SiteId}
use Rattle.racer_base.specs.declared.ids.MethodId.{MethodId}
use Rattle.access_paths.specs.declared.path.Path.{Path}
use Rattle.access_paths.specs.declared.path.Root.{Root}
use Rattle.access_paths.specs.declared.path.Root.TheVariants.{This, Class, Formal, Some as SomeOf}
use Rattle.owner_domain.specs.declared.value.Value.{Value}
use Rattle.owner_domain.specs.declared.value.Value.TheVariants.{Owned, Named, Unnamed}
use Rattle.owner_domain.specs.declared.value.State.{State}
use Rattle.owner_domain.specs.Values.{joined, joined_values, joined_state, lost_state, same_value, field_value, along}
use Rattle.owner_domain.specs.SameValue.{equal_of_same_value}
use Rattle.owner_domain.proofs.Along.{along-unnamed}
use Rattle.owner_domain.proofs.Joins.{joined-itself}
use Rattle.core_code.specs.Tree.{Tree, Op, Skip, Seq, Choice, Loop, Sync}
use Rattle.core_code.specs.declared.code.Op.{Op as CoreOp}
use Rattle.core_code.specs.declared.code.Op.TheVariants.{Push, PushClass, PushPrim, PushNull, New, Dup, Drop, Get, Put}
use Rattle.core_code.specs.declared.code.Op.TheVariants.{Set, Prim as PrimOp, Outside, Call, Unread, Ret, Throw}
use Rattle.access_domain.specs.FlowContext.{FlowContext}
use Rattle.access_domain.specs.Findings.{Known, Large, Whole}
use Rattle.access_domain.specs.Substitution.{root_value, substituted_value, actuals_from}
use Rattle.access_domain.specs.Operations.{Effects, top, pushed, popped, replaced, read_value, op_effects, call_effects}
use Rattle.access_domain.specs.Operations.{passed_from}
use Rattle.access_domain.specs.Flow.{flow, rounds, joined_next, after, both}
use Rattle.transfer_loops.specs.Rounds.{round_next, rounds_of}
use Rattle.transfer_loops.specs.Order.{Below, BelowAll, BelowState, BelowNext, IsMonotone, rounded}

-- ---- values
pub itself : (a : Value) → Below a a
itself a = inl refl

pub nothing : (a : Value) → Below a Unnamed
nothing a = inr refl

pub below-trans : (a b c : Value) → Below a b → Below b c → Below a c
below-trans a b c (inl e) h = subst (λ (v : Value). Below v c) (sym e) h
below-trans a b c (inr e) (inl f) = inr (sym f ∙ e)
below-trans a b c (inr e) (inr f) = inr f

pub joined-unnamed : (a : Value) → joined a Unnamed ≡ Unnamed
joined-unnamed Owned = refl
joined-unnamed Unnamed = refl
joined-unnamed (Named p) = refl

pub unnamed-joined : (a : Value) → joined Unnamed a ≡ Unnamed
unnamed-joined Owned = refl
unnamed-joined Unnamed = refl
unnamed-joined (Named p) = refl

-- the join is the least value above both
pub joined-above : (a b : Value) → Below a (joined a b)
joined-above a b = elim (same_value a b) as (λ t. Below a (cond t a Unnamed)) [ true ↦ inl refl | false ↦ inr refl ]

pub joined-above-other : (a b : Value) → Below b (joined a b)
joined-above-other a b = elim (same_value a b) as (λ t. same_value a b ≡ t → Below b (cond t a Unnamed))
    [ true ↦ λ e. inl (sym (equal_of_same_value a b e)) | false ↦ λ e. inr refl ] refl

pub joined-least : (a b c : Value) → Below a c → Below b c → Below (joined a b) c
joined-least a b c (inr e) h = inr e
joined-least a b c (inl e) (inr f) = inr f
joined-least a b c (inl e) (inl f) = inl (ap (λ v. joined a v) (f ∙ sym e) ∙ joined-itself a ∙ e)

pub joined-keeps : (a b c d : Value) → Below a c → Below b d → Below (joined a b) (joined c d)
joined-keeps a b c d h k = joined-least a b (joined c d) (below-trans a c (joined c d) h (joined-above c d))
    (below-trans b d (joined c d) k (joined-above-other c d))

-- a function that gives nothing for nothing keeps the order
keeps : (f : Value → Value) → f Unnamed ≡ Unnamed → (a b : Value) → Below a b → Below (f a) (f b)
keeps f none a b (inl e) = inl (ap f e)
keeps f none a b (inr e) = inr (ap f e ∙ none)

-- ---- lists
pub all-itself : (xs : List Value) → BelowAll xs xs
all-itself [] = tt
all-itself (x ∷ xs) = (itself x, all-itself xs)

pub all-trans : (xs ys zs : List Value) → BelowAll xs ys → BelowAll ys zs → BelowAll xs zs
all-trans [] [] [] h k = tt
all-trans [] [] (z ∷ zs) h k = absurd k
all-trans [] (y ∷ ys) zs h k = absurd h
all-trans (x ∷ xs) [] zs h k = absurd h
all-trans (x ∷ xs) (y ∷ ys) [] h k = absurd k
all-trans (x ∷ xs) (y ∷ ys) (z ∷ zs) h k = (below-trans x y z h.0 k.0, all-trans xs ys zs h.1 k.1)

pub all-long : (xs ys : List Value) → BelowAll xs ys → length xs ≡ length ys
all-long [] [] h = refl
all-long [] (y ∷ ys) h = absurd h
all-long (x ∷ xs) [] h = absurd h
all-long (x ∷ xs) (y ∷ ys) h = ap (λ n. suc n) (all-long xs ys h.1)

all-get : (xs ys : List Value) (i : ℕ) → BelowAll xs ys →
    Below (slice_index_or xs i Unnamed) (slice_index_or ys i Unnamed)
all-get [] [] i h = inl refl
all-get [] (y ∷ ys) i h = absurd h
all-get (x ∷ xs) [] i h = absurd h
all-get (x ∷ xs) (y ∷ ys) zero h = h.0
all-get (x ∷ xs) (y ∷ ys) (suc i) h = all-get xs ys i h.1

all-set : (xs ys : List Value) (i : ℕ) (a b : Value) → BelowAll xs ys → Below a b →
    BelowAll (slice_set xs i a) (slice_set ys i b)
all-set [] [] i a b h k = tt
all-set [] (y ∷ ys) i a b h k = absurd h
all-set (x ∷ xs) [] i a b h k = absurd h
all-set (x ∷ xs) (y ∷ ys) zero a b h k = (k, h.1)
all-set (x ∷ xs) (y ∷ ys) (suc i) a b h k = (h.0, all-set xs ys i a b h.1 k)

all-drop : (n : ℕ) (xs ys : List Value) → BelowAll xs ys → BelowAll (drop n xs) (drop n ys)
all-drop zero xs ys h = h
all-drop (suc n) [] [] h = tt
all-drop (suc n) [] (y ∷ ys) h = absurd h
all-drop (suc n) (x ∷ xs) [] h = absurd h
all-drop (suc n) (x ∷ xs) (y ∷ ys) h = all-drop n xs ys h.1

all-take : (n : ℕ) (xs ys : List Value) → BelowAll xs ys → BelowAll (take n xs) (take n ys)
all-take zero xs ys h = tt
all-take (suc n) [] [] h = tt
all-take (suc n) [] (y ∷ ys) h = absurd h
all-take (suc n) (x ∷ xs) [] h = absurd h
all-take (suc n) (x ∷ xs) (y ∷ ys) h = (h.0, all-take n xs ys h.1)

all-reverse : (xs ys us vs : List Value) → BelowAll xs ys → BelowAll us vs →
    BelowAll (reverse_aux xs us) (reverse_aux ys vs)
all-reverse [] [] us vs h k = k
all-reverse [] (y ∷ ys) us vs h k = absurd h
all-reverse (x ∷ xs) [] us vs h k = absurd h
all-reverse (x ∷ xs) (y ∷ ys) us vs h k = all-reverse xs ys (x ∷ us) (y ∷ vs) h.1 (h.0, k)

all-joined : (xs ys zs us : List Value) → BelowAll xs zs → BelowAll ys us →
    BelowAll (joined_values xs ys) (joined_values zs us)
all-joined [] ys [] us h k = tt
all-joined [] ys (z ∷ zs) us h k = absurd h
all-joined (x ∷ xs) ys [] us h k = absurd h
all-joined (x ∷ xs) [] (z ∷ zs) [] h k = tt
all-joined (x ∷ xs) [] (z ∷ zs) (u ∷ us) h k = absurd k
all-joined (x ∷ xs) (y ∷ ys) (z ∷ zs) [] h k = absurd k
all-joined (x ∷ xs) (y ∷ ys) (z ∷ zs) (u ∷ us) h k = (joined-keeps x y z u h.0 k.0, all-joined xs ys zs us h.1 k.1)

-- ---- states
pub state-itself : (s : State) → BelowState s s
state-itself s = (all-itself s.vars, all-itself s.stack)

pub state-trans : (s t u : State) → BelowState s t → BelowState t u → BelowState s u
state-trans s t u h k = (all-trans s.vars t.vars u.vars h.0 k.0, all-trans s.stack t.stack u.stack h.1 k.1)

pub state-joined : (s t u v : State) → BelowState s u → BelowState t v →
    BelowState (joined_state s t) (joined_state u v)
state-joined s t u v h k = (
  all-joined s.vars t.vars u.vars v.vars h.0 k.0,
  all-joined s.stack t.stack u.stack
      v.stack h.1 k.1,
)

top-keeps : (s t : State) → BelowState s t → Below (top s) (top t)
top-keeps s t h = all-get s.stack t.stack 0 h.1

push-keeps : (s t : State) (a b : Value) → BelowState s t → Below a b → BelowState (pushed s a) (pushed t b)
push-keeps s t a b h k = (h.0, (k, h.1))

pub pop-keeps : (s t : State) (n : ℕ) → BelowState s t → BelowState (popped s n) (popped t n)
pop-keeps s t n h = (h.0, all-drop n s.stack t.stack h.1)

replace-keeps : (s t : State) (n : ℕ) (a b : Value) → BelowState s t → Below a b →
    BelowState (replaced s n a) (replaced t n b)
replace-keeps s t n a b h k = push-keeps (popped s n) (popped t n) a b (pop-keeps s t n h) k

-- ---- calls
passed-keeps : (s t : State) (n : ℕ) → BelowState s t → BelowAll (passed_from s n) (passed_from t n)
passed-keeps s t n h = all-reverse (take n s.stack) (take n t.stack) [] [] (all-take n s.stack t.stack h.1) tt

formals-keep : (is_static : Bool) (xs ys : List Value) (i : ℕ) → BelowAll xs ys →
    Below (slice_index_or (cond is_static xs (drop 1 xs)) i Unnamed)
    (slice_index_or (cond is_static ys (drop 1 ys)) i Unnamed)
formals-keep true xs ys i h = all-get xs ys i h
formals-keep false xs ys i h = all-get (drop 1 xs) (drop 1 ys) i (all-drop 1 xs ys h)

root-keeps : (is_static : Bool) (xs ys : List Value) (r : Root) → BelowAll xs ys →
    Below (root_value (actuals_from is_static xs) r) (root_value (actuals_from is_static ys) r)
root-keeps is_static xs ys This h = all-get xs ys 0 h
root-keeps is_static xs ys (Formal i) h = formals-keep is_static xs ys i h
root-keeps is_static xs ys (Class c) h = inl refl
root-keeps is_static xs ys (SomeOf c) h = inl refl

result-keeps : (is_static : Bool) (xs ys : List Value) (v : Value) → BelowAll xs ys →
    Below (substituted_value (actuals_from is_static xs) v) (substituted_value (actuals_from is_static ys) v)
result-keeps is_static xs ys Owned h = inl refl
result-keeps is_static xs ys Unnamed h = inl refl
result-keeps is_static xs ys (Named p) h =
    keeps (λ v. along v p.fields) (along-unnamed p.fields) (root_value (actuals_from is_static xs) p.root)
    (root_value (actuals_from is_static ys) p.root) (root-keeps is_static xs ys p.root h)

call-keeps : (g : FlowContext) (locked : Bool) (site : SiteId) (m : MethodId) (n : ℕ) (k : Option Known) (s t : State) →
    BelowState s t → BelowNext (call_effects g locked site m n s k).next (call_effects g locked site m n t k).next
call-keeps g locked site m n None s t h = replace-keeps s t n Unnamed Unnamed h (inl refl)
call-keeps g locked site m n (Some Large) s t h = replace-keeps s t n Unnamed Unnamed h (inl refl)
call-keeps g locked site m n (Some (Whole found)) s t h =
    replace-keeps s t n (substituted_value (actuals_from (g.is_static m) (passed_from s n)) found.result)
    (substituted_value (actuals_from (g.is_static m) (passed_from t n)) found.result) h
    (result-keeps (g.is_static m) (passed_from s n) (passed_from t n) found.result (passed-keeps s t n h))

-- ---- operations
read-keeps : (plain : Bool) (a b : Value) (f : FieldId) → Below a b →
    Below (cond plain Unnamed (field_value a f)) (cond plain Unnamed (field_value b f))
read-keeps true a b f h = inl refl
read-keeps false a b f h = keeps (λ v. field_value v f) refl a b h

op-keeps : (g : FlowContext) (locked : Bool) (site : SiteId) (op : CoreOp) (s t : State) → BelowState s t →
    BelowNext (op_effects g locked site op s).next (op_effects g locked site op t).next
op-keeps g locked site (Push v) s t h = push-keeps s t (slice_index_or s.vars v.0 Unnamed)
    (slice_index_or t.vars v.0 Unnamed) h (all-get s.vars t.vars v.0 h.0)
op-keeps g locked site (PushClass c) s t h = (h.0, (inl refl, h.1))
op-keeps g locked site PushPrim s t h = (h.0, (inl refl, h.1))
op-keeps g locked site PushNull s t h = (h.0, (inl refl, h.1))
op-keeps g locked site (New c) s t h = (h.0, (inl refl, h.1))
op-keeps g locked site Dup s t h = push-keeps s t (top s) (top t) h (top-keeps s t h)
op-keeps g locked site Drop s t h = pop-keeps s t 1 h
op-keeps g locked site (Get f) s t h = replace-keeps s t 1 (read_value g (top s) f) (read_value g (top t) f) h
    (read-keeps (g.is_plain_field f) (top s) (top t) f (top-keeps s t h))
op-keeps g locked site (Put f) s t h = replace-keeps s t 2 (top s) (top t) h (top-keeps s t h)
op-keeps g locked site (Set v) s t h = (all-set s.vars t.vars v.0 (top s) (top t) h.0 (top-keeps s t h), h.1)
op-keeps g locked site (PrimOp n) s t h = replace-keeps s t n Unnamed Unnamed h (inl refl)
op-keeps g locked site (Outside n) s t h = replace-keeps s t n Unnamed Unnamed h (inl refl)
op-keeps g locked site (Call m n) s t h = call-keeps g locked site m n (g.known_of m) s t h
op-keeps g locked site (Unread m n) s t h = replace-keeps s t n Unnamed Unnamed h (inl refl)
op-keeps g locked site Ret s t h = tt
op-keeps g locked site Throw s t h = tt

-- ---- ends
pub next-joined : (a b c d : Option State) → BelowNext a c → BelowNext b d →
    BelowNext (joined_next a b) (joined_next c d)
next-joined None b None d h k = k
next-joined None b (Some c) d h k = absurd h
next-joined (Some a) b None d h k = absurd h
next-joined (Some a) None (Some c) None h k = h
next-joined (Some a) None (Some c) (Some d) h k = absurd k
next-joined (Some a) (Some b) (Some c) None h k = absurd k
next-joined (Some a) (Some b) (Some c) (Some d) h k = state-joined a b c d h k

pub round-keeps : (s t : State) (a b : Option State) → BelowState s t → BelowNext a b →
    BelowState (round_next s a) (round_next t b)
round-keeps s t None None h k = h
round-keeps s t None (Some b) h k = absurd k
round-keeps s t (Some a) None h k = absurd k
round-keeps s t (Some a) (Some b) h k = state-joined s a t b h k

pub rounded-keeps : (f : State → Option State) → IsMonotone f → (n : ℕ) (s t : State) → BelowState s t →
    BelowState (rounded f n s) (rounded f n t)
rounded-keeps f up zero s t h = h
rounded-keeps f up (suc n) s t h = rounded-keeps f up n (round_next s (f s)) (round_next t (f t))
    (round-keeps s t (f s) (f t) h (up s t h))

turn_state : (o : Option State) (body : State → Effects) (n : ℕ) (s : State) →
    (elim o as (λ _. State × List Path) [
      | None ↦ rounds body n s
      | Some end ↦
          ((rounds body n (joined_state s end)).0, lost_state s end ++ (rounds body n (joined_state s end)).1)
    ]).0
    ≡ (rounds body n (round_next s o)).0
turn_state None body n s = refl
turn_state (Some end) body n s = refl

-- the state behind the stated rounds
pub rounds-state : (body : State → Effects) (n : ℕ) (s : State) → (rounds body n s).0 ≡ rounded (λ t. (body t).next) n s
rounds-state body zero s = refl
rounds-state body (suc n) s = turn_state (body s).next body n s ∙ rounds-state body n (round_next s (body s).next)

rounds_of-same : (s t : State) → BelowState s t → rounds_of s ≡ rounds_of t
rounds_of-same s t h = (λ i. all-long s.vars t.vars h.0 i + all-long s.stack t.stack h.1 i + 1)

abbrev pub after_next : Option State → (State → Option State) → Option State
after_next None f = None
after_next (Some s) f = f s

pub next-after : (e : Effects) (rest : State → Effects) → (o : Option State) → e.next ≡ o →
    (after e rest).next ≡ after_next o (λ s. (rest s).next)
next-after e rest None h = ap (λ (o : Option State).
    (elim o as (λ _. Effects) [ None ↦ e | Some s ↦ both e (rest s) ]).next) h ∙ h
next-after e rest (Some s) h = ap (λ (o : Option State).
    (elim o as (λ _. Effects) [ None ↦ e | Some s ↦ both e (rest s) ]).next) h

then-keeps : (a b : Option State) (f : State → Option State) → IsMonotone f → BelowNext a b →
    BelowNext (after_next a f) (after_next b f)
then-keeps None None f up h = tt
then-keeps None (Some b) f up h = absurd h
then-keeps (Some a) None f up h = absurd h
then-keeps (Some a) (Some b) f up h = up a b h

-- the end of code from a state that says less says less
pub flow-monotone : (g : FlowContext) (code : Tree) (locked : Bool) → IsMonotone (λ s. (flow g code locked s).next)
flow-monotone g (Op site place op) locked s t h = op-keeps g locked site op s t h
flow-monotone g Skip locked s t h = h
flow-monotone g (Seq first rest) locked s t h = let one = flow-monotone g first locked s t h in
    let two : IsMonotone (λ s. (flow g rest locked s).next) = flow-monotone g rest locked in
    let is_s = next-after (flow g first locked s) (flow g rest locked) (flow g first locked s).next refl in
    let is_t = next-after (flow g first locked t) (flow g rest locked) (flow g first locked t).next refl in
    subst (λ (o : Option State). BelowNext o (flow g (Seq first rest) locked t).next) (sym is_s)
    (subst (λ (o : Option State). BelowNext
    (after_next (flow g first locked s).next (λ s. (flow g rest locked s).next)) o) (sym is_t)
    (then-keeps (flow g first locked s).next (flow g first locked t).next
    (λ s. (flow g rest locked s).next) two one))
flow-monotone g (Choice left right) locked s t h =
    next-joined (flow g left locked s).next (flow g right locked s).next (flow g left locked t).next
    (flow g right locked t).next (flow-monotone g left locked s t h) (flow-monotone g right locked s t h)
flow-monotone g (Loop body) locked s t h = let f : State → Option State = λ s. (flow g body locked s).next in
    let up : IsMonotone f = flow-monotone g body locked in
    let below : BelowState (rounded f (rounds_of s) s) (rounded f (rounds_of s) t) =
    rounded-keeps f up (rounds_of s) s t h in
    let is_s : (rounds (flow g body locked) (rounds_of s) s).0 ≡ rounded f (rounds_of s) s =
    rounds-state (flow g body locked) (rounds_of s) s in
    let is_t : (rounds (flow g body locked) (rounds_of t) t).0 ≡ rounded f (rounds_of s) t =
    rounds-state (flow g body locked) (rounds_of t) t ∙ ap (λ n. rounded f n t) (sym (rounds_of-same s t h)) in
    subst (λ (u : State). BelowState u (rounds (flow g body locked) (rounds_of t) t).0) (sym is_s)
    (subst (λ (u : State). BelowState (rounded f (rounds_of s) s) u) (sym is_t) below)
flow-monotone g (Sync place body) locked s t h = flow-monotone g body true (popped s 1) (popped t 1) (pop-keeps s t 1 h)
