-- A fact of core code that goes through sequences, choices, loops and locks, and holds of operations, is a fact of all
-- that is lowered: that of drafts is that of their code, for each set of ends that is asked for. With it goes whether
-- code can end, since a method that can gets a return.
use Rattle.std.proofs.Common.{◌≡◌, ℕ, Bool, true, false, cond, ◌&&◌, ◌||◌, not, List, [], ◌∷◌, ◌++◌, refl, sym, ap, ◌∙◌}
use Rattle.std.specs.List.{flat_map}
use Rattle.std.proofs.Math.Bool.{and_assoc}
use Rattle.std.proofs.lemmas.Bool.{and_parts, and_from}
use Rattle.racer_base.specs.declared.ids.MethodId.{MethodId}
use Rattle.racer_base.specs.declared.ids.Place.{Place}
use Rattle.racer_base.specs.declared.ids.VarId.{VarId}
use Rattle.core_code.specs.declared.code.LockKind.{LockKind}
use Rattle.core_code.specs.declared.code.Op.{Op as CoreOp}
use Rattle.core_code.specs.declared.code.Op.TheVariants.{PushNull, Set, Drop, Call, Unread, Ret, Throw}
use Rattle.core_code.specs.Recursion.{named_by}
use Rattle.core_code.specs.Tree.{Tree, LockAt, can_end, stops, in_sequence}
use Rattle.core_code.specs.Tree as tree
use Rattle.core_lowering_drafts.specs.Drafts.{Op, Choice, Loop, Sync, Leave, Within, Never, Ending, Behind, in_order}
use Rattle.core_lowering_drafts.specs.Drafts.{Normal, is_same, op_end}
use Rattle.core_lowering_drafts.specs.Only.{Code, one, fork, loop_of, cleared, all_ends}
use Rattle.core_lowering_drafts.proofs.Related.{CodeFact, Values, no-value, values-joined, value-choices, value-ops}
use Rattle.core_lowering_drafts.proofs.Related.{value-missing, value-added, value-then, RelatedLists, related-code}
use Rattle.core_lowering_drafts.proofs.Related.{no-parts, part-alone, lists-joined, of-ops, of-leave, of-never}
use Rattle.core_lowering_drafts.proofs.Related.{of-choices}
use Rattle.core_lowering_drafts.proofs.Related.{of-loops, of-locks, of-within, of-endings, of-finally}
use Rattle.core_lowering_drafts.specs.Sites.{lock_at}
use Rattle.core_lowering_rules.proofs.LoweredFacts.{Tests, Fact, is_named, is_value}

-- ---- whether code can end

pub can_end-append : (a b : Code) →
    can_end (in_sequence (a ++ b)) ≡ (can_end (in_sequence a) && can_end (in_sequence b))
can_end-append [] b = refl
can_end-append (part ∷ a) b =
    ap (λ x. can_end part && x) (can_end-append a b)
    ∙ sym (and_assoc (can_end part) (can_end (in_sequence a)) (can_end (in_sequence b)))

goes-on : (o : CoreOp) → is_same Normal (op_end o) ≡ true → not (stops o) ≡ true
goes-on Ret h = absurd cc
goes-on Throw h = absurd cc
goes-on _ h = refl

pub call-goes_on : (place : Place) (m : MethodId) (n : ℕ) (b : Bool) →
    can_end (in_sequence (one place (cond b (Call m n) (Unread m n)))) ≡ true
call-goes_on place m n true = refl
call-goes_on place m n false = refl

pub call-normal : (m : MethodId) (n : ℕ) (b : Bool) → is_same Normal (op_end (cond b (Call m n) (Unread m n))) ≡ true
call-normal m n true = refl
call-normal m n false = refl

-- ---- with it

-- of core code
pub record CoreFact : Type 1 where
  pub tests : Tests
  pub code : CodeFact
  pub locked : (k : LockKind) (p : Place) (a c : Code) → tests.is_place p ≡ true → code.Holds a c →
      code.Holds (tree.Sync (lock_at k p) (in_sequence a) ∷ []) (tree.Sync (lock_at k p) (in_sequence c) ∷ [])
  pub single : (p : Place) (o : CoreOp) → tests.is_place p ≡ true →
      is_named tests.is_class tests.is_method o ≡ true → code.Holds (one p o) (one p o)
  pub called : (p : Place) (m : MethodId) (j k : ℕ) (a b : Bool) → tests.is_place p ≡ true →
      tests.is_method m ≡ true →
      code.Holds (one p (cond a (Call m j) (Unread m j))) (one p (cond b (Call m k) (Unread m k)))
  pub missing : (p : Place) (o : CoreOp) → tests.is_place p ≡ true →
      is_named tests.is_class tests.is_method o ≡ true → named_by o ≡ [] → code.Holds [] (one p o)
  pub added : (p : Place) (o : CoreOp) → tests.is_place p ≡ true →
      is_named tests.is_class tests.is_method o ≡ true → named_by o ≡ [] → code.Holds (one p o) []

pub record Ended (f : CodeFact) (a c : Code) : Type 0 where
  pub fact : f.Holds a c
  pub same_end : can_end (in_sequence a) ≡ can_end (in_sequence c)

module _ (f : CodeFact) where
  pub no-code : Ended f [] []
  no-code = record { fact = f.nothing; same_end = refl }

  pub code-followed : (a b c d : Code) → Ended f a c → Ended f b d → Ended f (a ++ b) (c ++ d)
  code-followed a b c d p q =
      record {
        fact = f.followed a b c d p.fact q.fact;
        same_end = can_end-append a b ∙ ap (λ x. x && can_end (in_sequence b)) p.same_end
            ∙ ap (λ x. can_end (in_sequence c) && x) q.same_end ∙ sym (can_end-append c d);
      }

  pub code-chosen : (a b c d : Code) → Ended f a c → Ended f b d → Ended f (fork a b) (fork c d)
  code-chosen a b c d p q =
      record {
        fact = f.chosen a b c d p.fact q.fact;
        same_end = ap (λ x. (x || can_end (in_sequence b)) && true) p.same_end
            ∙ ap (λ x. (can_end (in_sequence c) || x) && true) q.same_end;
      }

  pub code-looped : (a c : Code) → Ended f a c → Ended f (loop_of a) (loop_of c)
  code-looped a c p = record { fact = f.looped a c p.fact; same_end = refl }

  abbrev pub ended : CodeFact
  ended =
      record {
        Holds = λ a c. Ended f a c;
        nothing = no-code;
        followed = code-followed;
        chosen = code-chosen;
        looped = code-looped;
      }

module _ (f : CoreFact) where
  abbrev pub whole : CodeFact
  whole = ended f.code

  abbrev pub IsPlace : Place → Type 0
  IsPlace p = f.tests.is_place p ≡ true

  pub op-ended : (p : Place) (o : CoreOp) → IsPlace p → is_named f.tests.is_class f.tests.is_method o ≡ true →
      Ended f.code (one p o) (one p o)
  op-ended p o there h = record { fact = f.single p o there h; same_end = refl }

  pub lock-ended : (k : LockKind) (p : Place) → IsPlace p → (a c : Code) → Ended f.code a c →
      Ended f.code (tree.Sync (lock_at k p) (in_sequence a) ∷ []) (tree.Sync (lock_at k p) (in_sequence c) ∷ [])
  lock-ended k p there a c h =
      record { fact = f.locked k p a c there h.fact; same_end = ap (λ b. b && true) h.same_end }

  pub cleared-ended : (p : Place) → IsPlace p → (vs : List VarId) →
      Ended f.code (flat_map (cleared p) vs) (flat_map (cleared p) vs)
  cleared-ended p there [] = no-code f.code
  cleared-ended p there (v ∷ vs) =
      let first = code-followed f.code (one p PushNull) (one p (Set v)) (one p PushNull) (one p (Set v))
      (op-ended p PushNull there refl) (op-ended p (Set v) there refl) in
      code-followed f.code (cleared p v) (flat_map (cleared p) vs) (cleared p v) (flat_map (cleared p) vs)
      (code-followed f.code (one p PushNull ++ one p (Set v)) (one p Drop) (one p PushNull ++ one p (Set v))
      (one p Drop)
      first (op-ended p Drop there refl)) (cleared-ended p there vs)

  abbrev pub IsValue : CoreOp → Type 0
  IsValue o = is_value f.tests.is_class f.tests.is_method o ≡ true

  abbrev pub IsNamed : CoreOp → Type 0
  IsNamed o = is_named f.tests.is_class f.tests.is_method o ≡ true

  pub normal : (o : CoreOp) → IsValue o → is_same Normal (op_end o) ≡ true
  normal o h = (and_parts (is_same Normal (op_end o)) (is_named f.tests.is_class f.tests.is_method o) h).0

  pub named : (o : CoreOp) → IsValue o → IsNamed o
  named o h = (and_parts (is_same Normal (op_end o)) (is_named f.tests.is_class f.tests.is_method o) h).1

  pub ends-one : (p : Place) (o : CoreOp) → IsValue o → true ≡ can_end (in_sequence (one p o))
  ends-one p o h = sym (and_from (not (stops o)) true (goes-on o (normal o h)) refl)

  abbrev pub fact_of : Fact
  fact_of =
      record {
        tests = f.tests;
        Holds = λ a c. Values whole a c;
        nothing = no-value whole;
        followed = λ a b c d p q. values-joined whole a b c d p q;
        chosen = λ a b c d p q. value-choices whole a b c d p q;
        single = λ p o there h.
            value-ops whole p o o (normal o h) (normal o h) (op-ended p o there (named o h));
        called = λ p m j k a b there h.
            value-ops whole p (cond a (Call m j) (Unread m j)) (cond b (Call m k) (Unread m k)) (call-normal m j a)
            (call-normal m k b) (record {
              fact = f.called p m j k a b there h;
              same_end = call-goes_on p m j a ∙ sym (call-goes_on p m k b);
            });
        missing = λ p o there h quiet.
            value-missing whole p o (normal o h)
            (record { fact = f.missing p o there (named o h) quiet; same_end = ends-one p o h });
        added = λ p o there h quiet.
            value-added whole p o (normal o h)
            (record { fact = f.added p o there (named o h) quiet; same_end = sym (ends-one p o h) });
        Stands = λ a c. RelatedLists whole a c;
        same_ends = λ a c r. r.same_ends;
        none = no-parts whole;
        in_turn = λ a b c d r s. lists-joined whole a b c d r s;
        done = λ p o there h.
            part-alone whole (Op p o) (Op p o) (of-ops whole p o o refl (op-ended p o there h));
        behind = λ a c v p q b d r. value-then whole a c v p q b d r;
        forked = λ a b c d r s.
            part-alone whole (Choice (in_order a) (in_order b)) (Choice (in_order c) (in_order d))
            (of-choices whole (in_order a) (in_order b) (in_order c) (in_order d) r s);
        looped = λ a c r.
            part-alone whole (Loop (in_order a)) (Loop (in_order c)) (of-loops whole (in_order a) (in_order c) r);
        locked = λ k p a c there r.
            part-alone whole (Sync (lock_at k p) (in_order a)) (Sync (lock_at k p) (in_order c))
            (of-locks whole (lock_at k p) (lock-ended k p there) (in_order a) (in_order c) r);
        left = λ k. part-alone whole (Leave k) (Leave k) (of-leave whole k);
        never = part-alone whole Never Never (of-never whole);
        inside = λ k a c r.
            part-alone whole (Within k (in_order a)) (Within k (in_order c))
            (of-within whole k (in_order a) (in_order c) r);
        cleared = λ p vs a c there r.
            part-alone whole (Ending (in_order a) p vs) (Ending (in_order c) p vs)
            (of-endings whole p vs (cleared-ended p there vs) (in_order a) (in_order c) r);
        finally = λ k a b c d e g r s t.
            part-alone whole (Behind (in_order a) (in_order b) k (in_order c))
            (Behind (in_order d) (in_order e) k (in_order g))
            (of-finally whole k (in_order a) (in_order b) (in_order c) (in_order d) (in_order e) (in_order g) r s t);
        Made = λ a c. Ended f.code a c;
        made_nothing = no-code f.code;
        made_in_turn = λ a b c d p q. code-followed f.code a b c d p q;
        making = λ a c r. related-code whole (in_order a) (in_order c) r all_ends;
        made_locked = λ k p a c there h. lock-ended k p there a c h;
        same_end = λ a c h. h.same_end;
      }
