-- What does not depend on sites is the same of numbered code: one induction.
use Rattle.std.proofs.Common.{◌≡◌, ℕ, ◌+◌, List, ◌++◌, map, length, refl, sym, ap, ◌∙◌}
use Rattle.std.proofs.lemmas.List.{map-append}
use Rattle.racer_base.specs.declared.ids.SiteId.{SiteId}
use Rattle.racer_base.specs.declared.ids.Place.{Place}
use Rattle.core_code.specs.declared.code.Op.{Op as CoreOp}
use Rattle.core_code.specs.Tree.{Tree, Op, Skip, Seq, Choice, Loop, Sync, LockAt, Operation, steps_of}
use Rattle.core_lowering_drafts.specs.Sites.{numbered}

pub record SiteFact : Type 1 where
  pub Same : Tree → Tree → Type 0
  pub of_op : (site other : SiteId) (place : Place) (o : CoreOp) → Same (Op site place o) (Op other place o)
  pub of_skip : Same Skip Skip
  pub of_seq : (a b c d : Tree) → Same a c → Same b d → Same (Seq a b) (Seq c d)
  pub of_choice : (a b c d : Tree) → Same a c → Same b d → Same (Choice a b) (Choice c d)
  pub of_loop : (a c : Tree) → Same a c → Same (Loop a) (Loop c)
  pub of_sync : (lock : LockAt) (a c : Tree) → Same a c → Same (Sync lock a) (Sync lock c)

pub same-numbered : (f : SiteFact) (t : Tree) (n : ℕ) → f.Same (numbered n t) t
same-numbered f (Op site place o) n = f.of_op (record { 0 = n }) site place o
same-numbered f Skip n = f.of_skip
same-numbered f (Seq first rest) n =
    let k = n + length (steps_of first) in
    f.of_seq (numbered n first) (numbered k rest) first rest (same-numbered f first n) (same-numbered f rest k)
same-numbered f (Choice left right) n =
    let k = n + length (steps_of left) in
    f.of_choice (numbered n left) (numbered k right) left right (same-numbered f left n) (same-numbered f right k)
same-numbered f (Loop body) n = f.of_loop (numbered n body) body (same-numbered f body n)
same-numbered f (Sync lock body) n = f.of_sync lock (numbered n body) body (same-numbered f body n)

-- ---- operations in reading order

abbrev pub ops_of : Tree → List CoreOp
ops_of t = map (λ (o : Operation). o.op) (steps_of t)

two-ops : (a b c d : Tree) → ops_of a ≡ ops_of c → ops_of b ≡ ops_of d →
    map (λ (o : Operation). o.op) (steps_of a ++ steps_of b) ≡ map (λ (o : Operation). o.op) (steps_of c ++ steps_of d)
two-ops a b c d p q =
    map-append (λ (o : Operation). o.op) (steps_of a) (steps_of b) ∙ ap (λ xs. xs ++ ops_of b) p
    ∙ ap (λ ys. ops_of c ++ ys) q ∙ sym (map-append (λ (o : Operation). o.op) (steps_of c) (steps_of d))

abbrev same_ops : SiteFact
same_ops =
    record {
      Same = λ a c. ops_of a ≡ ops_of c;
      of_op = λ site other place o. refl;
      of_skip = refl;
      of_seq = two-ops;
      of_choice = two-ops;
      of_loop = λ a c p. p;
      of_sync = λ lock a c p. p;
    }

pub ops-numbered : (t : Tree) (n : ℕ) → ops_of (numbered n t) ≡ ops_of t
ops-numbered t n = same-numbered same_ops t n
