-- What is made of code is shorter than it.
use Rattle.std.proofs.Common.{◌≡◌, ℕ, ◌+◌, ◌-◌, ◌<◌, ◌≤◌, Bool, true, false, cond, ◌&&◌, List, [], ◌∷◌, ◌++◌}
use Rattle.std.proofs.Common.{None, Some, length, map, take, drop, get_or, nat_le, is_some, refl, sym, ap}
use Rattle.std.proofs.Common.{subst, ◌∙◌}
use Rattle.std.proofs.lemmas.List.{at_drop_more, at_drop_all, take_more, take_all, map-append}
use Rattle.std.specs.Prelude.{Result, Ok, Err, IfOk}
use Rattle.std.proofs.lemmas.Bool.{and_from, and_parts}
use Rattle.std.proofs.lemmas.Option.{same_Some}
use Rattle.racer_base.specs.declared.Memory.{Memory}
use Rattle.racer_base.proofs.Lists.{given_some}
use Rattle.owner_domain.specs.declared.value.State.{State}
use Rattle.core_code.specs.declared.code.Code.{Code}
use Rattle.core_code.specs.Tree.{LockAt, Tree, Skip, Seq, Choice, Loop, Sync, tree_of, in_sequence}
use Rattle.core_code.specs.Facts.{height_after}
use Rattle.access_domain.specs.FlowContext.{FlowContext}
use Rattle.access_domain.specs.Flow.{flow}
use Rattle.transfer_loops.proofs.Heights.{then_heights, either_heights, loop_heights, held_heights}
use Rattle.transfer_bodies.specs.declared.kept.Kept.{Kept}
use Rattle.transfer_bodies.specs.declared.kept.Short.{Short}
use Rattle.transfer_bodies.specs.Shortening.{IsShorter, IsShort, IsShortened, IsKept}
use Rattle.transfer_bodies.specs.Still.{is_still}
use Rattle.transfer_bodies.proofs.ShorterCode.{shorter-either, shorter-again, shorter-held}

-- what is made, by what its parts are made of
short-made : (from to : ℕ) (code made : Tree) (height : ℕ) (still : Bool) (short : Short) → tree_of short.code ≡ made →
    short.height ≡ height → short.is_still ≡ still → height ≡ to → IsShorter from to made code →
    (still ≡ true → is_still made ≡ true) → IsShort from to code short
short-made from to code made height still short is high same e p keep =
    record {
      height = high ∙ e;
      shorter = subst (λ (t : Tree). IsShorter from to t code) (sym is) p;
      still = λ f. ap is_still is ∙ keep (sym same ∙ f);
    }

pub shortened-choice : (from : ℕ) (left right : Tree) (a b : Short) (r : Result Short Memory) →
    IsShortened from left a → IsShortened from right b →
    IfOk r (λ short. tree_of short.code ≡ Choice (tree_of a.code) (tree_of b.code)) →
    IfOk r (λ short. short.height ≡ a.height) → IfOk r (λ short. short.is_still ≡ (a.is_still && b.is_still)) →
    IfOk r (λ short. IsShortened from (Choice left right) short)
shortened-choice from left right a b (Err error) p q is high same = tt
shortened-choice from left right a b (Ok short) p q is high same = λ to e.
    let parts = either_heights left right from to e in
    let one = p to parts.0 in
    let two = q to parts.1 in
    short-made from to (Choice left right) (Choice (tree_of a.code) (tree_of b.code)) a.height
    (a.is_still && b.is_still) short is high same one.height
    (shorter-either from to (tree_of a.code) (tree_of b.code) left right one.shorter two.shorter)
    (λ f.
    let both = and_parts a.is_still b.is_still f in
    and_from (is_still (tree_of a.code)) (is_still (tree_of b.code)) (one.still both.0) (two.still both.1))

pub shortened-loop : (from : ℕ) (body : Tree) (a : Short) (r : Result Short Memory) → IsShortened from body a →
    IfOk r (λ short. tree_of short.code ≡ Loop (tree_of a.code)) → IfOk r (λ short. short.height ≡ a.height) →
    IfOk r (λ short. short.is_still ≡ a.is_still) → IfOk r (λ short. IsShortened from (Loop body) short)
shortened-loop from body a (Err error) p is high same = tt
shortened-loop from body a (Ok short) p is high same = λ to e.
    let parts = loop_heights body from to e in
    let one = p from parts.1 in
    subst (λ (n : ℕ). IsShort from n (Loop body) short) parts.0
    (short-made from from (Loop body) (Loop (tree_of a.code)) a.height a.is_still short is high same one.height
    (shorter-again from (tree_of a.code) body one.shorter) one.still)

held_some : (lock : LockAt) (body : Tree) (h k : ℕ) → height_after (Sync lock body) h ≡ Some k → nat_le 1 h ≡ true
held_some lock body h k e =
    elim (nat_le 1 h) as (λ b. cond b (height_after body (h - 1)) None ≡ Some k → b ≡ true) [
      | true ↦ λ f. refl
      | false ↦ λ f. cc
    ] e

pub shortened-held : (from : ℕ) (lock : LockAt) (body : Tree) (a : Short) (r : Result Short Memory) →
    IsShortened (from - 1) body a → IfOk r (λ short. tree_of short.code ≡ Sync lock (tree_of a.code)) →
    IfOk r (λ short. short.height ≡ a.height) → IfOk r (λ short. short.is_still ≡ a.is_still) →
    IfOk r (λ short. IsShortened from (Sync lock body) short)
shortened-held from lock body a (Err error) p is high same = tt
shortened-held from lock body a (Ok short) p is high same = λ to e.
    let one = p to (held_heights lock body from to e) in
    short-made from to (Sync lock body) (Sync lock (tree_of a.code)) a.height a.is_still short is high same one.height
    (shorter-held from to lock (tree_of a.code) body (held_some lock body from to e) one.shorter) one.still

-- ---- the parts of a sequence in turn
-- so many parts were gone through
pub record IsWalked (from to : ℕ) (parts : List Code) (count : ℕ) (kept : Kept) : Type 0 where
  pub before : IsKept from (map tree_of (take count parts)) kept
  pub left : height_after (in_sequence (map tree_of (drop count parts))) kept.height ≡ Some to

abbrev pub Walks : ℕ → List Code → ℕ → Kept → Type 0
Walks from parts count kept =
    (to : ℕ) → height_after (in_sequence (map tree_of parts)) from ≡ Some to → IsWalked from to parts count kept

pub walks-first : (from : ℕ) (parts : List Code) (kept : Kept) → IsKept from [] kept → kept.height ≡ from →
    Walks from parts 0 kept
walks-first from parts kept k high to e =
    record { before = k; left = ap (height_after (in_sequence (map tree_of parts))) high ∙ e }

taken_more : (xs : List Code) (i : ℕ) (x : Code) → i < length xs → x ≡ get_or xs i x →
    map tree_of (take (i + 1) xs) ≡ map tree_of (take i xs) ++ tree_of x ∷ []
taken_more xs i x within is =
    ap (map tree_of) (take_more xs i x within)
    ∙ map-append tree_of (take i xs) (get_or xs i x ∷ [])
    ∙ ap (λ (c : Code). map tree_of (take i xs) ++ tree_of c ∷ []) (sym is)

pub walks-on : (from : ℕ) (parts : List Code) (i : ℕ) (part : Code) (old new : Kept) (short : Short) →
    i < length parts → part ≡ get_or parts i part → Walks from parts i old →
    IsShortened old.height (tree_of part) short →
    ((begin end : ℕ) (done : List Tree) (code : Tree) → IsKept begin done old → IsShort old.height end code short →
    IsKept begin (done ++ code ∷ []) new) → new.height ≡ short.height → Walks from parts (i + 1) new
walks-on from parts i part old new short within is w p keep high to e =
    let at = w to e in
    let rest = in_sequence (map tree_of (drop (i + 1) parts)) in
    let turn : in_sequence (map tree_of (drop i parts)) ≡ Seq (tree_of part) rest =
    at_drop_more (λ ps. in_sequence (map tree_of ps)) parts i part within
    ∙ ap (λ (c : Code). Seq (tree_of c) rest) (sym is) in
    let heights = then_heights (tree_of part) rest old.height to
    (ap (λ (t : Tree). height_after t old.height) (sym turn) ∙ at.left) in
    let one = p heights.0 heights.1 in
    record {
      before = subst (λ (ts : List Tree). IsKept from ts new) (sym (taken_more parts i part within is))
          (keep from heights.0 (map tree_of (take i parts)) (tree_of part) at.before one);
      left = ap (height_after rest) (high ∙ one.height) ∙ heights.2;
    }

pub walks-all : (from : ℕ) (parts : List Code) (i : ℕ) (kept : Kept) (short : Short) → length parts ≤ i →
    Walks from parts i kept →
    ((begin end : ℕ) (done : List Tree) → IsKept begin done kept → kept.height ≡ end →
    IsShort begin end (in_sequence done) short) → IsShortened from (in_sequence (map tree_of parts)) short
walks-all from parts i kept short all w join to e =
    let at = w to e in
    let none : in_sequence (map tree_of (drop i parts)) ≡ Skip =
    at_drop_all (λ ps. in_sequence (map tree_of ps)) parts i all in
    let end : kept.height ≡ to =
    same_Some kept.height to (ap (λ (t : Tree). height_after t kept.height) (sym none) ∙ at.left) in
    subst (λ (ps : List Code). IsShort from to (in_sequence (map tree_of ps)) short) (take_all i parts all)
    (join from to (map tree_of (take i parts)) at.before end)

-- ---- what callers are told

pub shortened-height : (from : ℕ) (code : Tree) (short : Short) → IsShortened from code short →
    is_some (height_after code from) ≡ true → height_after (tree_of short.code) from ≡ height_after code from
shortened-height from code short p e =
    let m = given_some (height_after code from) e in
    (p m.0 m.1).shorter.height ∙ sym m.1

pub shortened-next : (from : ℕ) (code : Tree) (short : Short) → IsShortened from code short → (g : FlowContext)
    (locked : Bool) (s : State) → length s.stack ≡ from → is_some (height_after code from) ≡ true →
    (flow g (tree_of short.code) locked s).next ≡ (flow g code locked s).next
shortened-next from code short p g locked s long e =
    let m = given_some (height_after code from) e in
    (p m.0 m.1).shorter.next g locked s long
