-- A contract of a public call rests on this: the paths of drafts and of core code, as lists of what is done on them.
use Rattle.std.specs.Prelude.{◌≡◌, ◌⊎◌, ℕ, List, [], ◌∷◌, ◌++◌, All, IsTrue, ◌↔◌, if◌then◌else◌}
use Rattle.std.specs.List.{flat_map}
use Rattle.racer_base.specs.declared.ids.Place.{Place}
use Rattle.racer_base.specs.declared.ids.VarId.{VarId}
use Rattle.core_code.specs.declared.code.Op.{Op as CoreOp}
use Rattle.core_code.specs.declared.code.Op.TheVariants.{PushNull, Set, Drop}
use Rattle.core_code.specs.Tree.{LockAt, Tree, in_sequence}
use Rattle.core_code.specs.Tree as tree
use Rattle.core_lowering_drafts.specs.Drafts.{End, Normal, Return, Exception, Exit, Ends, has, op_end, is_final}
use Rattle.core_lowering_drafts.specs.Drafts.{Part, Draft, Op, Choice, Loop, Sync, Leave, Within, Never, Ending, Behind}
use Rattle.core_lowering_drafts.specs.Drafts.{no_part, part_then}
use Rattle.core_lowering_drafts.specs.Only.{only}

-- one thing that is done
pub data Step : Type 0 where
  Did : (place : Place) (op : CoreOp) → Step
  Locks : LockAt → Step
  Unlocks : LockAt → Step

abbrev pub Steps : Type 0
Steps = List Step

-- paths, each with its end
abbrev pub Paths : Type 1
Paths = Steps → End → Type 0

-- ---- paths of what is made of parts

abbrev pub IsOne : Steps → End → Paths
IsOne steps end p e = (p ≡ steps) × (e ≡ end)

-- a path of the first that does not end normally, or one that does and a path of the rest
abbrev pub IsThen : Paths → Paths → Paths
IsThen First Rest p e =
    (First p e × (e ≡ Normal → ⊥)) ⊎ ((q : Steps) × (r : Steps) × (p ≡ q ++ r) × First q Normal × Rest r e)

-- any number of rounds that end normally, and then nothing, or one that ends in any way
abbrev pub IsLooped : Paths → Paths
IsLooped Body p e =
    (rounds : List Steps) × (q : Steps) × (p ≡ flat_map (λ r. r) rounds ++ q) × All (λ r. Body r Normal) rounds
    × (IsOne [] Normal q e ⊎ Body q e)

-- behind a path that neither returns nor throws this is done
abbrev pub behind : End → Steps → Steps
behind Return steps = []
behind Exception steps = []
behind _ steps = steps

abbrev pub IsWithBehind : Paths → Steps → Paths
IsWithBehind Body steps p e = (q : Steps) × (p ≡ q ++ behind e steps) × Body q e

-- the lock is freed unless the method is left
abbrev pub IsHeld : LockAt → Paths → Paths
IsHeld lock Body p e = (q : Steps) × (p ≡ Locks lock ∷ q ++ behind e (Unlocks lock ∷ [])) × Body q e

-- the exit is a normal end
abbrev pub IsWithin : ℕ → Paths → Paths
IsWithin k Body p e = (Body p e × (e ≡ Exit k → ⊥)) ⊎ ((e ≡ Normal) × Body p (Exit k))

-- behind `finally`, which ended normally: what left for the exit goes on to the last, all else ends as it did
abbrev pub IsLast : ℕ → Paths → End → Paths
IsLast k Last from p e = ((from ≡ Exit k) × Last p e) ⊎ ((from ≡ Exit k → ⊥) × IsOne [] from p e)

abbrev pub IsBehind : Paths → Paths → ℕ → Paths → Paths
IsBehind Body Finally k Last p e =
    (Body p e × (e ≡ Exception))
    ⊎ ((from : End) × (from ≡ Exception → ⊥) × (q : Steps) × (r : Steps) × (p ≡ q ++ r) × Body q from
    × IsThen Finally (IsLast k Last from) r e)

-- ---- drafts

abbrev pub cleared_steps : Place → VarId → Steps
cleared_steps place v = Did place PushNull ∷ Did place (Set v) ∷ Did place Drop ∷ []

abbrev mutual
  pub IsPathOfPart : Part → Paths
  IsPathOfPart (Op place op) p e = IsOne (Did place op ∷ []) (op_end op) p e
  IsPathOfPart (Choice left right) p e = IsPath left p e ⊎ IsPath right p e
  IsPathOfPart (Loop body) p e = IsLooped (IsPath body) p e
  IsPathOfPart (Sync lock body) p e = IsHeld lock (IsPath body) p e
  IsPathOfPart (Leave k) p e = IsOne [] (Exit k) p e
  IsPathOfPart (Within k body) p e = IsWithin k (IsPath body) p e
  IsPathOfPart Never p e = ⊥
  IsPathOfPart (Ending body place variables) p e =
      IsWithBehind (IsPath body) (flat_map (cleared_steps place) variables) p e
  IsPathOfPart (Behind body finally k last) p e = IsBehind (IsPath body) (IsPath finally) k (IsPath last) p e

  pub IsPath : Draft → Paths
  IsPath no_part p e = IsOne [] Normal p e
  IsPath (part_then part rest) p e = IsThen (IsPathOfPart part) (IsPath rest) p e

-- ---- core code

abbrev pub IsCodePath : Tree → Paths
IsCodePath (tree.Op site place op) p e = IsOne (Did place op ∷ []) (op_end op) p e
IsCodePath tree.Skip p e = IsOne [] Normal p e
IsCodePath (tree.Seq first rest) p e = IsThen (IsCodePath first) (IsCodePath rest) p e
IsCodePath (tree.Choice left right) p e = IsCodePath left p e ⊎ IsCodePath right p e
IsCodePath (tree.Loop body) p e = IsLooped (IsCodePath body) p e
IsCodePath (tree.Sync lock body) p e = IsHeld lock (IsCodePath body) p e

-- ---- paths that are cut behind a return and an exception

-- how a path goes on behind a step: normally, unless it returns or throws
abbrev pub step_end : Step → End
step_end (Did place op) = op_end op
step_end step = Normal

-- up to the first step that returns or throws
abbrev pub cut : Steps → Steps
cut [] = []
cut (step ∷ steps) = step ∷ (if is_final (step_end step) then [] else cut steps)

-- the end of a path with this end, when it is cut
abbrev pub cut_end : Steps → End → End
cut_end [] e = e
cut_end (step ∷ steps) e = if is_final (step_end step) then step_end step else cut_end steps e

abbrev pub IsCut : Paths → Paths
IsCut Whole p e = (whole : Steps) × (from : End) × (p ≡ cut whole) × (e ≡ cut_end whole from) × Whole whole from

-- ---- the code of a draft has its paths that end by the ends that are asked for

-- an exit is read as a normal end
abbrev pub read : End → End
read (Exit k) = Normal
read e = e

abbrev pub IsPathBy : Ends → Draft → Paths
IsPathBy asked draft p e = (from : End) × IsTrue (has asked from) × (e ≡ read from) × IsPath draft p from

-- a draft may have steps behind a return, those of a `finally` behind it; code does nothing there, so they are cut
abbrev pub ArePathsKept : Draft → Ends → Type 0
ArePathsKept draft asked =
    (p : Steps) (e : End) → IsCut (IsPathBy asked draft) p e ↔ IsCodePath (in_sequence (only draft asked)) p e
