-- Shorter code in place of parts of code makes the whole shorter.
use Rattle.std.proofs.Common.{◌≡◌, ℕ, zero, suc, ◌-◌, Bool, true, cond, List, [], ◌∷◌, ◌++◌, Option, None, Some}
use Rattle.std.proofs.Common.{length, nat_le, refl, sym, ap, subst, ◌∙◌}
use Rattle.std.proofs.lemmas.List.{length-drop, append-nil}
use Rattle.std.proofs.lemmas.Bool.{eq-eqb}
use Rattle.access_paths.specs.declared.path.Path.{Path}
use Rattle.owner_domain.specs.declared.value.State.{State}
use Rattle.owner_domain.specs.Values.{joined_state, lost_state}
use Rattle.core_code.specs.Tree.{LockAt, Tree, Skip, Seq, Choice, Loop, Sync, in_sequence}
use Rattle.core_code.specs.Facts.{same_height, height_after}
use Rattle.access_domain.specs.FlowContext.{FlowContext}
use Rattle.access_domain.specs.Operations.{Effects, popped}
use Rattle.access_domain.specs.Flow.{flow, rounds, joined_next}
use Rattle.transfer_loops.specs.Rounds.{round_next, round_lost, rounds_of}
use Rattle.transfer_loops.proofs.Monotone.{after_next, next-after}
use Rattle.transfer_loops.proofs.Heights.{IsSized, flow-sized, sized_round}
use Rattle.transfer_bodies.specs.Shortening.{IsShorter}
use Rattle.transfer_bodies.specs.Still.{is_still}
use Rattle.transfer_bodies.proofs.StillCode.{still-end}

pub shorter-itself : (h k : ℕ) (code : Tree) → height_after code h ≡ Some k → IsShorter h k code code
shorter-itself h k code e = record { height = e; next = λ g locked s long. refl }

pub shorter-trans : (h k : ℕ) (a b c : Tree) → IsShorter h k a b → IsShorter h k b c → IsShorter h k a c
shorter-trans h k a b c p q =
    record { height = p.height; next = λ g locked s long. p.next g locked s long ∙ q.next g locked s long }

same_rest : (o : Option State) (f f' : State → Option State) → ((t : State) → o ≡ Some t → f t ≡ f' t) →
    after_next o f ≡ after_next o f'
same_rest None f f' same = refl
same_rest (Some t) f f' same = same t refl

-- the height behind one part and then another
abbrev height_then : Option ℕ → Tree → Option ℕ
height_then o rest = elim o as (λ _. Option ℕ) [ None ↦ None | Some k ↦ height_after rest k ]

next_then : (g : FlowContext) (a b : Tree) (locked : Bool) (s : State) →
    (flow g (Seq a b) locked s).next ≡ after_next (flow g a locked s).next (λ t. (flow g b locked t).next)
next_then g a b locked s = next-after (flow g a locked s) (flow g b locked) (flow g a locked s).next refl

high : (g : FlowContext) (a : Tree) (locked : Bool) (h k : ℕ) (s t : State) → height_after a h ≡ Some k →
    length s.stack ≡ h → (flow g a locked s).next ≡ Some t → length t.stack ≡ k
high g a locked h k s t e long is =
    (flow-sized g a locked (length s.vars) h k s t e (record { vars = refl; stack = long }) is).stack

pub shorter-then : (h k m : ℕ) (a b c d : Tree) → IsShorter h k a c → IsShorter k m b d →
    IsShorter h m (Seq a b) (Seq c d)
shorter-then h k m a b c d p q =
    record {
      height = ap (λ o. height_then o b) p.height ∙ q.height;
      next = λ g locked s long.
          let rest : State → Option State = λ t. (flow g d locked t).next in
          next_then g a b locked s
          ∙ same_rest (flow g a locked s).next (λ t. (flow g b locked t).next) rest
          (λ t is. q.next g locked t (high g a locked h k s t p.height long is))
          ∙ ap (λ (o : Option State). after_next o rest) (p.next g locked s long)
          ∙ sym (next_then g c d locked s);
    }

same_itself : (k : ℕ) → same_height (Some k) (Some k) ≡ Some k
same_itself k = ap (λ b. cond b (Some k) None) (eq-eqb k k refl)

pub shorter-either : (h k : ℕ) (a b c d : Tree) → IsShorter h k a c → IsShorter h k b d →
    IsShorter h k (Choice a b) (Choice c d)
shorter-either h k a b c d p q =
    record {
      height = (λ i. same_height (p.height i) (q.height i)) ∙ same_itself k;
      next = λ g locked s long. (λ i. joined_next (p.next g locked s long i) (q.next g locked s long i));
    }

pub shorter-held : (h k : ℕ) (lock : LockAt) (a c : Tree) → nat_le 1 h ≡ true → IsShorter (h - 1) k a c →
    IsShorter h k (Sync lock a) (Sync lock c)
shorter-held h k lock a c e p =
    record {
      height = ap (λ b. cond b (height_after a (h - 1)) None) e ∙ p.height;
      next = λ g locked s long.
          p.next g true (popped s 1) (length-drop 1 s.stack ∙ ap (λ (i : ℕ). i - 1) long);
    }

-- one round, and those behind it
pub rounds_turn : (body : State → Effects) (n : ℕ) (s : State) → rounds body (suc n) s ≡ (
  (rounds body n (round_next s (body s).next)).0,
  round_lost s (body s).next ++ (rounds body n (round_next s (body s).next)).1,
)
rounds_turn body n s = turn (body s).next
  where
    turn : (o : Option State) → (elim o as (λ _. State × List Path) [
      | None ↦ rounds body n s
      | Some end ↦
          ((rounds body n (joined_state s end)).0, lost_state s end ++ (rounds body n (joined_state s end)).1)
    ]) ≡ ((rounds body n (round_next s o)).0, round_lost s o ++ (rounds body n (round_next s o)).1)
    turn None = refl
    turn (Some end) = refl

-- rounds over a shorter body are those over the body
pub same_rounds : (g : FlowContext) (locked : Bool) (h : ℕ) (a c : Tree) → IsShorter h h a c → (n : ℕ) (s : State) →
    length s.stack ≡ h → rounds (flow g a locked) n s ≡ rounds (flow g c locked) n s
same_rounds g locked h a c p zero s long = refl
same_rounds g locked h a c p (suc n) s long =
    let body = flow g a locked in
    let end = (body s).next in
    let behind = round_next s end in
    let lost = round_lost s end in
    let size : IsSized (length s.vars) h behind =
    sized_round (length s.vars) h s end (record { vars = refl; stack = long })
    (λ t is. flow-sized g a locked (length s.vars) h h s t p.height (record { vars = refl; stack = long }) is) in
    let whole = flow g c locked in
    rounds_turn body n s
    ∙ ap (λ (r : State × List Path). (r.0, lost ++ r.1)) (same_rounds g locked h a c p n behind size.stack)
    ∙ ap (λ (o : Option State).
    ((rounds whole n (round_next s o)).0, round_lost s o ++ (rounds whole n (round_next s o)).1))
    (p.next g locked s long)
    ∙ sym (rounds_turn whole n s)

pub shorter-again : (h : ℕ) (a c : Tree) → IsShorter h h a c → IsShorter h h (Loop a) (Loop c)
shorter-again h a c p =
    record {
      height = ap (same_height (Some h)) p.height ∙ same_itself h;
      next = λ g locked s long.
          ap (λ (r : State × List Path). Some r.0) (same_rounds g locked h a c p (rounds_of s) s long);
    }

-- ---- sequences
height_apart_from : (xs ys : List Tree) (o : Option ℕ) →
    ((k : ℕ) → height_after (in_sequence (xs ++ ys)) k
    ≡ height_then (height_after (in_sequence xs) k) (in_sequence ys)) →
    height_then o (in_sequence (xs ++ ys)) ≡ height_then (height_then o (in_sequence xs)) (in_sequence ys)
height_apart_from xs ys None each = refl
height_apart_from xs ys (Some k) each = each k

height_apart : (xs ys : List Tree) (h : ℕ) →
    height_after (in_sequence (xs ++ ys)) h ≡ height_then (height_after (in_sequence xs) h) (in_sequence ys)
height_apart [] ys h = refl
height_apart (x ∷ xs) ys h = height_apart_from xs ys (height_after x h) (height_apart xs ys)

after_twice : (o : Option State) (f f' rest : State → Option State) →
    ((t : State) → f t ≡ after_next (f' t) rest) → after_next o f ≡ after_next (after_next o f') rest
after_twice None f f' rest each = refl
after_twice (Some t) f f' rest each = each t

next_apart : (g : FlowContext) (xs ys : List Tree) (locked : Bool) (s : State) →
    (flow g (in_sequence (xs ++ ys)) locked s).next
    ≡ after_next (flow g (in_sequence xs) locked s).next (λ t. (flow g (in_sequence ys) locked t).next)
next_apart g [] ys locked s = refl
next_apart g (x ∷ xs) ys locked s =
    let rest : State → Option State = λ t. (flow g (in_sequence ys) locked t).next in
    let front : State → Option State = λ t. (flow g (in_sequence xs) locked t).next in
    let whole : State → Option State = λ t. (flow g (in_sequence (xs ++ ys)) locked t).next in
    next_then g x (in_sequence (xs ++ ys)) locked s
    ∙ after_twice (flow g x locked s).next whole front rest (next_apart g xs ys locked)
    ∙ ap (λ (o : Option State). after_next o rest) (sym (next_then g x (in_sequence xs) locked s))

-- one sequence and then another
pub shorter-apart : (h k m : ℕ) (xs ys us vs : List Tree) → IsShorter h k (in_sequence xs) (in_sequence us) →
    IsShorter k m (in_sequence ys) (in_sequence vs) → IsShorter h m (in_sequence (xs ++ ys)) (in_sequence (us ++ vs))
shorter-apart h k m xs ys us vs p q =
    let both = shorter-then h k m (in_sequence xs) (in_sequence ys) (in_sequence us) (in_sequence vs) p q in
    record {
      height = height_apart xs ys h ∙ both.height;
      next = λ g locked s long.
          next_apart g xs ys locked s
          ∙ sym (next_then g (in_sequence xs) (in_sequence ys) locked s)
          ∙ both.next g locked s long
          ∙ next_then g (in_sequence us) (in_sequence vs) locked s
          ∙ sym (next_apart g us vs locked s);
    }

shorter-alone : (k m : ℕ) (a c : Tree) → IsShorter k m a c →
    IsShorter k m (in_sequence (a ∷ [])) (in_sequence (c ∷ []))
shorter-alone k m a c p = shorter-then k m m a Skip c Skip p (shorter-itself m m Skip refl)

-- one part more
pub shorter-more : (h k m : ℕ) (xs us : List Tree) (a c : Tree) → IsShorter h k (in_sequence xs) (in_sequence us) →
    IsShorter k m a c → IsShorter h m (in_sequence (xs ++ a ∷ [])) (in_sequence (us ++ c ∷ []))
shorter-more h k m xs us a c p q = shorter-apart h k m xs (a ∷ []) us (c ∷ []) p (shorter-alone k m a c q)

-- a still run from an empty stack to an empty one may be left out
pub shorter-without : (h : ℕ) (front run : List Tree) → height_after (in_sequence front) h ≡ Some 0 →
    height_after (in_sequence (front ++ run)) h ≡ Some 0 → is_still (in_sequence run) ≡ true →
    IsShorter h 0 (in_sequence front) (in_sequence (front ++ run))
shorter-without h front run before all still =
    let run_height : height_after (in_sequence run) 0 ≡ Some 0 =
    ap (λ o. height_then o (in_sequence run)) (sym before) ∙ sym (height_apart front run h) ∙ all in
    let none : IsShorter 0 0 (in_sequence []) (in_sequence run) =
    record {
      height = refl;
      next = λ g locked s long. sym (still-end g (in_sequence run) locked s still run_height long);
    } in
    subst (λ (xs : List Tree). IsShorter h 0 (in_sequence xs) (in_sequence (front ++ run))) (append-nil front)
    (shorter-apart h 0 0 front [] front run (shorter-itself h 0 (in_sequence front) before) none)
