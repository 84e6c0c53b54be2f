-- A contract of a public call rests on this: core code of the paths of a draft that end by ends of a set. Core code
-- has no exits, so that what leaves for an exit that is asked for ends normally in it.
use Rattle.std.specs.Prelude.{ℕ, Bool, true, false, not, ◌&&◌, ◌||◌, List, [], ◌∷◌, ◌++◌, filter, if◌then◌else◌}
use Rattle.std.specs.List.{list_any, flat_map}
use Rattle.racer_base.specs.declared.ids.Place.{Place}
use Rattle.racer_base.specs.declared.ids.VarId.{VarId}
use Rattle.core_code.specs.declared.code.Op.{Op as CoreOp}
use Rattle.core_code.specs.declared.code.Op.TheVariants.{PushNull, Set, Drop}
use Rattle.core_code.specs.Tree.{Tree, in_sequence}
use Rattle.core_code.specs.Tree as tree
use Rattle.core_lowering_drafts.specs.Drafts.{Normal, Return, Exception, Exit, Ends, has, without, do_meet, on}
use Rattle.core_lowering_drafts.specs.Drafts.{final_ends, exits, is_same, is_kept, Part, Draft, Op, Choice, Loop, Sync}
use Rattle.core_lowering_drafts.specs.Drafts.{Leave, Within, Never, Ending, Behind, no_part, part_then, part_ends, ends}
use Rattle.core_lowering_drafts.specs.Drafts.{meets}

-- parts one after another; no operation has its site yet
abbrev pub Code : Type 0
Code = List Tree

abbrev pub one : Place → CoreOp → Code
one place op = tree.Op (record { 0 = 0 }) place op ∷ []

abbrev pub fork : Code → Code → Code
fork left right = tree.Choice (in_sequence left) (in_sequence right) ∷ []

abbrev pub loop_of : Code → Code
loop_of body = tree.Loop (in_sequence body) ∷ []

-- a variable that is null from here on
abbrev pub cleared : Place → VarId → Code
cleared place v = one place PushNull ++ one place (Set v) ++ one place Drop

-- ---- what stands behind

-- the code behind a part, for the ends that are asked for: there is nothing; what there is has none of them; or this
pub data Rest : Type 0 where
  Last : Rest
  Unmet : Rest
  Met : Code → Rest

abbrev pub code_in : Rest → Code
code_in Last = []
code_in Unmet = []
code_in (Met code) = code

-- whether a path that comes here can end by one of these
abbrev pub is_met : Rest → Ends → Bool
is_met Last asked = has asked Normal
is_met Unmet asked = false
is_met (Met code) asked = true

-- of a part with these ends, and what stands behind it
abbrev pub are_met : Ends → Rest → Ends → Bool
are_met ends rest asked = do_meet ends (without Normal asked) || has ends Normal && is_met rest asked

-- a part that has an exit that is asked for is told apart from what goes on
abbrev pub parted : (part : Ends → Code) → Ends → Ends → (behind : Code) → Code
parted part ends asked behind =
    if do_meet ends (on asked) then fork (part (exits asked)) (part (on asked) ++ behind) else part (exits asked)

abbrev pub before : (part : Ends → Code) → Ends → Ends → Rest → Code
before part ends asked Last = part asked
before part ends asked Unmet = part (without Normal asked)
before part ends asked (Met behind) =
    if do_meet ends (exits asked) then parted part ends asked behind else part (on asked) ++ behind

-- ---- parts

-- of two sides that have these ends or not
abbrev pub chosen : (is_left is_right : Bool) → Code → Code → Code
chosen true true left right = fork left right
chosen true false left right = left
chosen false is_right left right = right

abbrev pub rounds : Draft → (body : Ends → Code) → Ends → Code
rounds draft body asked = if meets draft asked then loop_of (body asked) else []

-- rounds, and then nothing where that is asked for, or one more that leaves
abbrev pub looped : Draft → (body : Ends → Code) → Ends → Code
looped draft body asked =
    let leaves = meets draft (exits asked) in
    if has asked Normal
    then rounds draft body (on asked) ++ (if leaves then fork (body (exits asked)) [] else [])
    else (if leaves then rounds draft body (on asked) ++ body (exits asked)
    else rounds draft body (Normal ∷ []) ++ body (final_ends asked))

abbrev pub asked_within : ℕ → Ends → Ends
asked_within k asked = if has asked Normal then Exit k ∷ asked else without (Exit k) asked

-- ---- a body with a `finally`

-- paths of the body that end by these, and what is done behind them
pub record Branch : Type 0 where
  pub by : Ends
  pub behind : Rest
  pub asked : Ends

-- what left for the exit; what ends by an end that is asked for, where `finally` ends normally or by such an end; what
-- ends otherwise, where `finally` ends by such an end
abbrev pub branches : ℕ → (body asked : Ends) → (at_exit kept turned : Rest) → List Branch
branches k body asked at_exit kept turned =
    record { by = filter (is_same (Exit k)) body; behind = at_exit; asked = asked }
    ∷ record { by = filter (λ e. is_kept k e && has asked e) body; behind = kept; asked = Normal ∷ asked }
    ∷ record {
      by = filter (λ e. is_kept k e && not (has asked e)) body;
      behind = turned;
      asked = without Normal asked;
    }
    ∷ []

abbrev pub does_stand : Branch → Bool
does_stand branch = list_any (λ e. true) branch.by && is_met branch.behind branch.asked

abbrev pub thrown : Ends → Ends
thrown asked = filter (is_same Exception) asked

-- an exception passes `finally` by, so that it goes along with the last
abbrev pub forked : (body : Ends → Code) → Ends → List Branch → Code
forked body asked [] = body (thrown asked)
forked body asked (branch ∷ []) = body (branch.by ++ thrown asked) ++ code_in branch.behind
forked body asked (branch ∷ more) = fork (body branch.by ++ code_in branch.behind) (forked body asked more)

-- ---- drafts

-- of a draft that nothing stands behind
abbrev pub alone : (Ends → Rest → Rest) → Ends → Code
alone put asked = code_in (put asked Last)

abbrev mutual
  pub only_part : Part → Ends → Code
  only_part (Op place op) asked = one place op
  only_part (Choice left right) asked =
      chosen (meets left asked) (meets right asked) (alone (onto left) asked) (alone (onto right) asked)
  only_part (Loop body) asked = looped body (alone (onto body)) asked
  only_part (Sync lock body) asked = tree.Sync lock (in_sequence (alone (onto body) asked)) ∷ []
  only_part (Leave k) asked = []
  only_part (Within k body) asked = alone (onto body) (asked_within k asked)
  only_part Never asked = []
  only_part (Ending body place variables) asked = alone (onto body) asked ++ flat_map (cleared place) variables
  only_part (Behind body finally k last) asked =
      forked (alone (onto body)) asked (filter does_stand (branches k (ends body) asked
      (onto finally asked (onto last asked Last)) (onto finally (Normal ∷ asked) Last)
      (onto finally (without Normal asked) Last)))

  -- what stands behind, with a draft before it
  pub onto : Draft → Ends → Rest → Rest
  onto no_part asked rest = rest
  onto (part_then part more) asked rest =
      let behind = onto more asked rest in
      if are_met (part_ends part) behind asked
      then Met (before (only_part part) (part_ends part) asked behind)
      else Unmet

-- of a draft that meets the set
abbrev pub only : Draft → Ends → Code
only draft asked = alone (onto draft) asked

-- ---- the code of a draft from which no exit leads

abbrev pub all_ends : Ends
all_ends = Normal ∷ Return ∷ Exception ∷ []

abbrev pub code_of : Draft → Code
code_of draft = only draft all_ends
