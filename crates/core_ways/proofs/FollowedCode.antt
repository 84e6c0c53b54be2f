-- Code that is gone into along a path, piece by piece.
use Rattle.std.proofs.Common.{◌≡◌, ℕ, suc, Bool, true, false, List, [], ◌∷◌, ◌++◌, sym, ap, ◌∙◌, append_assoc}
use Rattle.std.proofs.lemmas.List.{append-nil}
use Rattle.core_code.specs.Tree.{LockAt, Tree, Seq, Choice, Loop, Sync}
use Rattle.core_semantics.specs.declared.answer.Turn.TheVariants.{Left}
use Rattle.core_ways.specs.declared.part.WayPart.{WayPart}
use Rattle.core_ways.specs.declared.part.WayPart.TheVariants.{Step, Branched}
use Rattle.core_ways.specs.declared.passing.PathEnd.{PathEnd}
use Rattle.core_ways.specs.Paths.{followed, turn_to}
use Rattle.core_ways.specs.Ways.{passed}

-- nothing is followed
pub nothing-followed : (old followed : List WayPart) → followed ≡ [] → old ≡ old ++ followed
nothing-followed old followed none =
    sym (append-nil old) ∙ ap (λ (ps : List WayPart). old ++ ps) (sym none)

pub left-followed : (end : PathEnd) (locks : ℕ) (left right : Tree) (old pushed : List WayPart) (path rest : List Bool)
    (b : Bool) →
    path ≡ b ∷ rest → pushed ≡ old ++ Branched (turn_to b) ∷ [] → b ≡ true →
    pushed ++ followed end locks rest left ≡ old ++ followed end locks path (Choice left right)
left-followed end locks left right old pushed path rest b first step is =
    ap (λ (ps : List WayPart). ps ++ followed end locks rest left)
    (step ∙ ap (λ (c : Bool). old ++ Branched (turn_to c) ∷ []) is)
    ∙ append_assoc old (Branched (turn_to true) ∷ []) (followed end locks rest left)
    ∙ ap (λ (p : List Bool). old ++ followed end locks p (Choice left right))
    (sym (first ∙ ap (λ (c : Bool). c ∷ rest) is))

pub right-followed : (end : PathEnd) (locks : ℕ) (left right : Tree) (old pushed : List WayPart) (path rest : List Bool)
    (b : Bool) →
    path ≡ b ∷ rest → pushed ≡ old ++ Branched (turn_to b) ∷ [] → b ≡ false →
    pushed ++ followed end locks rest right ≡ old ++ followed end locks path (Choice left right)
right-followed end locks left right old pushed path rest b first step is =
    ap (λ (ps : List WayPart). ps ++ followed end locks rest right)
    (step ∙ ap (λ (c : Bool). old ++ Branched (turn_to c) ∷ []) is)
    ∙ append_assoc old (Branched (turn_to false) ∷ []) (followed end locks rest right)
    ∙ ap (λ (p : List Bool). old ++ followed end locks p (Choice left right))
    (sym (first ∙ ap (λ (c : Bool). c ∷ rest) is))

pub loop-followed : (end : PathEnd) (locks : ℕ) (body : Tree) (old pushed : List WayPart) (path : List Bool) →
    pushed ≡ old ++ Branched Left ∷ [] →
    pushed ++ followed end locks path body ≡ old ++ followed end locks path (Loop body)
loop-followed end locks body old pushed path step =
    ap (λ (ps : List WayPart). ps ++ followed end locks path body) step
    ∙ append_assoc old (Branched Left ∷ []) (followed end locks path body)

pub held-followed : (end : PathEnd) (locks within : ℕ) (lock : LockAt) (body : Tree) (old pushed : List WayPart)
    (path : List Bool) →
    pushed ≡ old ++ Step ∷ [] → within ≡ suc locks →
    pushed ++ followed end within path body ≡ old ++ followed end locks path (Sync lock body)
held-followed end locks within lock body old pushed path step more =
    (λ i. step i ++ followed end (more i) path body)
    ∙ append_assoc old (Step ∷ []) (followed end (suc locks) path body)

-- of pieces in sequence, the first is gone into, or passed
pub first-followed : (end : PathEnd) (locks : ℕ) (first others : Tree) (path rest : List Bool) (b : Bool) →
    path ≡ b ∷ rest →
    b ≡ true → followed end locks rest first ≡ followed end locks path (Seq first others)
first-followed end locks first others path rest b is side =
    ap (λ (p : List Bool). followed end locks p (Seq first others)) (sym (is ∙ ap (λ (c : Bool). c ∷ rest) side))

pub others-followed : (end : PathEnd) (locks : ℕ) (first others : Tree) (path rest : List Bool) (b : Bool) →
    path ≡ b ∷ rest →
    b ≡ false → followed end locks path (Seq first others) ≡ passed locks first ++ followed end locks rest others
others-followed end locks first others path rest b is side =
    ap (λ (p : List Bool). followed end locks p (Seq first others)) (is ∙ ap (λ (c : Bool). c ∷ rest) side)
