-- Where the stack is high enough for code it is so for its parts, and heads that are sound stay so from round to round.
use Rattle.std.proofs.Common.{◌≡◌, ℕ, zero, suc, ◌+◌, ◌-◌, ◌≤◌, Bool, true, slice_get, List, [], ◌∷◌, ◌++◌}
use Rattle.std.proofs.Common.{Option, None, Some, length, is_some, replicate, refl, sym, ap, subst, ◌∙◌, arith}
use Rattle.owner_domain.specs.declared.value.State.{State}
use Rattle.core_code.specs.Tree.{LockAt, Tree, Seq, Choice, Loop, Sync}
use Rattle.std.specs.List.{list_all}
use Rattle.core_code.specs.Core.{Method}
use Rattle.core_code.specs.Facts.{height_after, is_stack_enough}
use Rattle.access_domain.specs.FlowContext.{FlowContext}
use Rattle.access_domain.specs.Operations.{popped}
use Rattle.access_domain.specs.Flow.{flow, rounds}
use Rattle.transfer_loops.specs.Resuming.{Heads, resumed, loops, IsSound}
use Rattle.transfer_loops.proofs.Resumed.{resumed-exact, sound-above, sound-first, round-above}
use Rattle.transfer_loops.proofs.Heights.{IsSized, then_heights, either_heights, loop_heights, held_heights}
use Rattle.transfer_loops.proofs.Heights.{flow-sized, sized_pop, sized_round, sized_rounds}
use Rattle.transfer_loops.proofs.Monotone.{rounds-state}
use Rattle.transfer_loops.specs.Order.{rounded}
use Rattle.std.specs.Prelude.{Ok}
use Rattle.std.proofs.lemmas.Bool.{and_parts}
use Rattle.transfer.specs.declared.resuming.Passed.{Passed}
use Rattle.transfer.specs.Resumes.{heads_in, AreLeft, IsResumed}
use Rattle.transfer_steps.specs.Walks.{next_of}
use Rattle.transfer.specs.Heights.{IsHighEnough, AreSound}
use Rattle.transfer_loops.specs.Rounds.{round_next, rounds_of}
use Rattle.racer_base.proofs.Lists.{given_some}

is_high : (code : Tree) (s : State) (m : ℕ) → height_after code (length s.stack) ≡ Some m → IsHighEnough code s
is_high code s m e = ap is_some e

sized : (s : State) → IsSized (length s.vars) (length s.stack) s
sized s = record { vars = refl; stack = refl }

pub high_first : (first rest : Tree) (s : State) → IsHighEnough (Seq first rest) s → IsHighEnough first s
high_first first rest s e = let m = given_some (height_after (Seq first rest) (length s.stack)) e in
    let at = then_heights first rest (length s.stack) m.0 m.1 in is_high first s at.0 at.1

pub high_rest : (g : FlowContext) (first rest : Tree) (locked : Bool) (s t : State) → IsHighEnough (Seq first rest) s →
    (flow g first locked s).next ≡ Some t → IsHighEnough rest t
high_rest g first rest locked s t e is = let m = given_some (height_after (Seq first rest) (length s.stack)) e in
    let at = then_heights first rest (length s.stack) m.0 m.1 in
    let size = flow-sized g first locked (length s.vars) (length s.stack) at.0 s t at.1 (sized s) is in
    is_high rest t m.0 (ap (height_after rest) size.stack ∙ at.2)

pub high_left : (left right : Tree) (s : State) → IsHighEnough (Choice left right) s → IsHighEnough left s
high_left left right s e = let m = given_some (height_after (Choice left right) (length s.stack)) e in
    is_high left s m.0 (either_heights left right (length s.stack) m.0 m.1).0

pub high_right : (left right : Tree) (s : State) → IsHighEnough (Choice left right) s → IsHighEnough right s
high_right left right s e = let m = given_some (height_after (Choice left right) (length s.stack)) e in
    is_high right s m.0 (either_heights left right (length s.stack) m.0 m.1).1

pub high_held : (lock : LockAt) (body : Tree) (s : State) → IsHighEnough (Sync lock body) s →
    IsHighEnough body (popped s 1)
high_held lock body s e = let m = given_some (height_after (Sync lock body) (length s.stack)) e in
    let less = sized_pop (length s.vars) (length s.stack) (length s.stack - 1) 1 s (popped s 1) (sized s) refl refl in
    is_high body (popped s 1) m.0 (ap (height_after body) less.stack
    ∙ held_heights lock body (length s.stack) m.0 m.1)

pub high_body : (body : Tree) (s : State) → IsHighEnough (Loop body) s → IsHighEnough body s
high_body body s e = let m = given_some (height_after (Loop body) (length s.stack)) e in
    is_high body s (length s.stack) (loop_heights body (length s.stack) m.0 m.1).1

-- a state behind a round is as high as before
pub high_round : (g : FlowContext) (body : Tree) (locked : Bool) (s : State) → IsHighEnough (Loop body) s →
    IsHighEnough (Loop body) (round_next s (flow g body locked s).next)
high_round g body locked s e = let n = length s.stack in let m = given_some (height_after (Loop body) n) e in
    let at = loop_heights body n m.0 m.1 in let o = (flow g body locked s).next in
    let size : IsSized (length s.vars) n (round_next s o) =
    sized_round (length s.vars) n s o (sized s)
    (λ t is. flow-sized g body locked (length s.vars) n n s t at.1 (sized s) is) in
    is_high (Loop body) (round_next s o) m.0 (ap (height_after (Loop body)) size.stack ∙ m.1)

-- a state behind all rounds is as high as before
pub high_rounds : (g : FlowContext) (body : Tree) (locked : Bool) (s t : State) → IsHighEnough (Loop body) s →
    t ≡ (rounds (flow g body locked) (rounds_of s) s).0 → IsHighEnough (Loop body) t
high_rounds g body locked s t e is =
    let n = length s.stack in
    let v = length s.vars in
    let m = given_some (height_after (Loop body) n) e in
    let at = loop_heights body n m.0 m.1 in
    let f : State → Option State = λ x. (flow g body locked x).next in
    let size : IsSized v n (rounded f (rounds_of s) s) =
    sized_rounds f v n (λ x y p i. flow-sized g body locked v n n x y at.1 p i) (rounds_of s) s (sized s) in
    let same : t ≡ rounded f (rounds_of s) s = is ∙ rounds-state (flow g body locked) (rounds_of s) s in
    is_high (Loop body) t m.0
    (ap (height_after (Loop body)) (ap (λ (x : State). length x.stack) same ∙ size.stack) ∙ m.1)

-- what is resumed ends as the flow does, and the heads are sound for the state behind the round
pub resumed_flow : (g : FlowContext) (body : Tree) (locked : Bool) (old new : List (Option State)) (s : State) →
    IsHighEnough (Loop body) s → AreSound g body locked old s →
    AreLeft old new (resumed g body locked 0 (heads_in old) s).1 →
    ((resumed g body locked 0 (heads_in old) s).0 ≡ (flow g body locked s).next)
    × AreSound g body locked new (round_next s (flow g body locked s).next)
resumed_flow g body locked old new s e sound left = let n = length s.stack in
    let m = given_some (height_after (Loop body) n) e in let at = loop_heights body n m.0 m.1 in
    let o = (flow g body locked s).next in let exact =
    resumed-exact g body locked 0 n (heads_in old) s at.1 sound.0 in
    let here : IsSound g body locked 0 (heads_in new) s =
    subst (λ (h : Heads). IsSound g body locked 0 h s) (sym left.0) exact.1 in
    let above = round-above (length s.vars) n s o (sized s)
    (λ t is. flow-sized g body locked (length s.vars) n n s t at.1 (sized s) is) in
    let long : length new ≡ length old = left.1 in let room : loops body ≤ length old = sound.1 in
    (exact.0, (sound-above g body locked 0 (heads_in new) s (round_next s o) above here, omega arith))

all_none : (n i : ℕ) → heads_in (replicate n None) i ≡ None
all_none zero i = refl
all_none (suc n) zero = refl
all_none (suc n) (suc i) = all_none n i

none_long : (n : ℕ) → length (replicate n (let o : Option State = None in o)) ≡ n
none_long zero = refl
none_long (suc n) = ap (λ k. suc k) (none_long n)

pub first_heads : (g : FlowContext) (body : Tree) (locked : Bool) (heads : List (Option State)) (s : State) →
    heads ≡ replicate (loops body) None → AreSound g body locked heads s
first_heads g body locked heads s e = (
  subst (λ (h : Heads). IsSound g body locked 0 h s) (sym (ap heads_in e ∙ (λ j i. all_none (loops body) i j)))
      (sound-first g body locked 0 s),
  (let long : length heads ≡ loops body = ap length e ∙ none_long (loops body) in omega arith),
)

-- what the resuming of a loop's body says of a round
pub round_resumed : (g : FlowContext) (body : Tree) (locked : Bool) (s x end : State) (old new : List (Option State))
    (passed : Passed) → x ≡ s → IsResumed g body locked 0 x end old new (Ok passed) → IsHighEnough (Loop body) s →
    AreSound g body locked old s →
    ((flow g body locked s).next ≡ next_of passed.goes_on end)
    × AreSound g body locked new (round_next s (flow g body locked s).next)
round_resumed g body locked s x end old new passed same m high sound =
    let at : IsResumed g body locked 0 s end old new (Ok passed) =
    subst (λ (y : State). IsResumed g body locked 0 y end old new (Ok passed)) same m in
    let all = resumed_flow g body locked old new s high sound at.2 in (sym all.0 ∙ at.0, all.1)

pub one_more_none : (n : ℕ) → (replicate n (let o : Option State = None in o) ++ None ∷ []) ≡ replicate (n + 1)
    (let o : Option State = None in o)
one_more_none n = more n ∙ ap (λ k. replicate k (let o : Option State = None in o))
    (let e : suc n ≡ n + 1 = omega arith in e)
  where
    more : (n : ℕ) →
        (replicate n (let o : Option State = None in o) ++ None ∷ []) ≡ replicate (suc n)
        (let o : Option State = None in o)
    more zero = refl
    more (suc n) = ap (λ xs. None ∷ xs) (more n)

-- code whose stacks are enough is so where it begins with nothing on the stack
pub high_start : (code : Tree) (s : State) → s.stack ≡ [] → is_some (height_after code 0) ≡ true → IsHighEnough code s
high_start code s none e = ap (λ xs. is_some (height_after code (length xs))) none ∙ e

-- of methods whose stacks are all enough, one that stands among them
pub enough_at : (methods : List Method) (i : ℕ) (m : Method) → list_all is_stack_enough methods ≡ true →
    slice_get methods i ≡ Some m → is_stack_enough m ≡ true
enough_at [] i m all at = cc
enough_at (x ∷ methods) zero m all at = let same : x ≡ m = cc in
    ap is_stack_enough (sym same) ∙ (and_parts (is_stack_enough x) (list_all is_stack_enough methods) all).0
enough_at (x ∷ methods) (suc i) m all at =
    enough_at methods i m (and_parts (is_stack_enough x) (list_all is_stack_enough methods) all).1 at
