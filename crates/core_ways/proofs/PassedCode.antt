-- Code that is passed or gone into piece by piece.
use Rattle.std.proofs.Common.{◌≡◌, ℕ, suc, ◌+◌, Bool, true, false, cond, ◌||◌, List, [], ◌∷◌, ◌++◌, length}
use Rattle.std.proofs.Common.{take, refl, sym, ap, ◌∙◌, append_assoc}
use Rattle.std.proofs.Math.Seq.{take-append_seam}
use Rattle.std.proofs.lemmas.List.{append-nil}
use Rattle.core_code.specs.Tree.{LockAt, Tree, Seq, Choice, Sync, can_end}
use Rattle.core_code.proofs.PartsLeft.{parts-turn}
use Rattle.core_semantics.specs.declared.answer.Turn.TheVariants.{Left, Right}
use Rattle.core_ways.specs.declared.part.WayPart.{WayPart}
use Rattle.core_ways.specs.declared.part.WayPart.TheVariants.{Step, Branched}
use Rattle.core_ways.specs.Ways.{passed}
use Rattle.std.proofs.lemmas.Bool.{or_right}
use Rattle.std.proofs.Math.Bool.{or-false}

-- a first part behind which the rest is done, and one behind which it is not
pub passed-on : (locks : ℕ) (first rest : Tree) → can_end first ≡ true →
    passed locks (Seq first rest) ≡ passed locks first ++ passed locks rest
passed-on locks first rest ends =
    ap (λ (b : Bool). passed locks first ++ cond b (passed locks rest) []) ends

pub passed-ended : (locks : ℕ) (first rest : Tree) → can_end first ≡ false →
    passed locks (Seq first rest) ≡ passed locks first
passed-ended locks first rest ends =
    ap (λ (b : Bool). passed locks first ++ cond b (passed locks rest) []) ends ∙ append-nil (passed locks first)

-- one more piece of what is left
pub more : (new old first rest left whole : List WayPart) → new ≡ old ++ first → left ≡ first ++ rest →
    old ++ left ≡ whole → new ++ rest ≡ whole
more new old first rest left whole grown is so_far =
    ap (λ (ps : List WayPart). ps ++ rest) grown
    ∙ append_assoc old first rest
    ∙ ap (λ (ps : List WayPart). old ++ ps) (sym is)
    ∙ so_far

-- ---- a choice

-- it ends where its right side does, else where its left side does
pub right-ends : (left right : Tree) → can_end right ≡ true → true ≡ can_end (Choice left right)
right-ends left right ends = sym (ap (λ (b : Bool). can_end left || b) ends ∙ or_right (can_end left) true refl)

pub left-ends : (left right : Tree) → can_end right ≡ false → can_end left ≡ can_end (Choice left right)
left-ends left right ends = sym (ap (λ (b : Bool). can_end left || b) ends ∙ or-false (can_end left))

abbrev side-passed : (locks : ℕ) (left right : Tree) → Bool → List WayPart
side-passed locks left right b = cond b (Branched Right ∷ passed locks right) (Branched Left ∷ passed locks left)

pub right-passed : (locks : ℕ) (left right : Tree) (old pushed new : List WayPart) → can_end right ≡ true →
    pushed ≡ old ++ Branched Right ∷ [] → new ≡ pushed ++ passed locks right →
    new ≡ old ++ passed locks (Choice left right)
right-passed locks left right old pushed new ends parts-turn grown =
    grown
    ∙ ap (λ (ps : List WayPart). ps ++ passed locks right) parts-turn
    ∙ append_assoc old (Branched Right ∷ []) (passed locks right)
    ∙ ap (λ (b : Bool). old ++ side-passed locks left right b) (sym ends)

-- the right side is tried, and what was put there is cut back
pub left-passed : (locks : ℕ) (left right : Tree) (old pushed tried turned : List WayPart) (n : ℕ) →
    can_end right ≡ false → n ≡ length old → pushed ≡ old ++ Branched Right ∷ [] →
    tried ≡ pushed ++ passed locks right → turned ≡ take n tried ++ Branched Left ∷ [] →
    turned ++ passed locks left ≡ old ++ passed locks (Choice left right)
left-passed locks left right old pushed tried turned n ends count parts-turn grown back =
    let kept : take n tried ≡ old =
    (λ i. take (count i) (grown i))
    ∙ ap (λ (ps : List WayPart). take (length old) (ps ++ passed locks right)) parts-turn
    ∙ ap (take (length old)) (append_assoc old (Branched Right ∷ []) (passed locks right))
    ∙ take-append_seam old (Branched Right ∷ passed locks right) in
    ap (λ (ps : List WayPart). ps ++ passed locks left)
    (back ∙ ap (λ (ps : List WayPart). ps ++ Branched Left ∷ []) kept)
    ∙ append_assoc old (Branched Left ∷ []) (passed locks left)
    ∙ ap (λ (b : Bool). old ++ side-passed locks left right b) (sym ends)

-- ---- a lock

held-grown : (locks within : ℕ) (body : Tree) (old pushed new : List WayPart) → within ≡ suc locks →
    pushed ≡ old ++ Step ∷ [] → new ≡ pushed ++ passed within body → new ≡ old ++ Step ∷ passed (suc locks) body
held-grown locks within body old pushed new more step grown =
    grown
    ∙ (λ i. step i ++ passed (more i) body)
    ∙ append_assoc old (Step ∷ []) (passed (suc locks) body)

pub held-stays : (locks within : ℕ) (lock : LockAt) (body : Tree) (old pushed new : List WayPart) →
    can_end body ≡ false → within ≡ suc locks → pushed ≡ old ++ Step ∷ [] → new ≡ pushed ++ passed within body →
    new ≡ old ++ passed locks (Sync lock body)
held-stays locks within lock body old pushed new ends more step grown =
    held-grown locks within body old pushed new more step grown
    ∙ ap (λ (ps : List WayPart). old ++ Step ∷ ps) (sym (append-nil (passed (suc locks) body)))
    ∙ ap (λ (b : Bool). old ++ Step ∷ (passed (suc locks) body ++ cond b (Step ∷ []) [])) (sym ends)

pub held-ends : (locks within : ℕ) (lock : LockAt) (body : Tree) (old pushed new : List WayPart) →
    can_end body ≡ true → within ≡ suc locks → pushed ≡ old ++ Step ∷ [] → new ≡ pushed ++ passed within body →
    new ++ Step ∷ [] ≡ old ++ passed locks (Sync lock body)
held-ends locks within lock body old pushed new ends more step grown =
    ap (λ (ps : List WayPart). ps ++ Step ∷ []) (held-grown locks within body old pushed new more step grown)
    ∙ append_assoc old (Step ∷ passed (suc locks) body) (Step ∷ [])
    ∙ ap (λ (b : Bool). old ++ Step ∷ (passed (suc locks) body ++ cond b (Step ∷ []) [])) (sym ends)
