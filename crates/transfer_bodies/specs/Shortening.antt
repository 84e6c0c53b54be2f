-- No public contract rests on this: code that stands for longer code.
use Rattle.std.specs.Prelude.{◌≡◌, ℕ, Bool, true, List, ◌++◌, Option, None, Some, length, map}
use Rattle.owner_domain.specs.declared.value.State.{State}
use Rattle.core_code.specs.Tree.{Tree, tree_of, in_sequence}
use Rattle.core_code.specs.Facts.{height_after}
use Rattle.access_domain.specs.FlowContext.{FlowContext}
use Rattle.access_domain.specs.Flow.{flow}
use Rattle.transfer_bodies.specs.declared.kept.Kept.{Kept}
use Rattle.transfer_bodies.specs.declared.kept.Short.{Short}
use Rattle.transfer_bodies.specs.Still.{is_still}

-- from a stack of the first height the short code ends in the same state as the code, and at the second height
pub record IsShorter (from to : ℕ) (short code : Tree) : Type 0 where
  pub height : height_after short from ≡ Some to
  pub next : (g : FlowContext) (locked : Bool) (s : State) → length s.stack ≡ from →
      (flow g short locked s).next ≡ (flow g code locked s).next

-- what is made of code that begins at one height and ends at another
pub record IsShort (from to : ℕ) (code : Tree) (short : Short) : Type 0 where
  pub height : short.height ≡ to
  pub shorter : IsShorter from to (tree_of short.code) code
  pub still : short.is_still ≡ true → is_still (tree_of short.code) ≡ true

-- the same, where the stack is high enough
abbrev pub IsShortened : ℕ → Tree → Short → Type 0
IsShortened from code short = (to : ℕ) → height_after code from ≡ Some to → IsShort from to code short

-- the stack is empty behind so many parts, and those that follow are still
pub record HasRun (from : ℕ) (parts : List Tree) (count : ℕ) : Type 0 where
  pub front : List Tree
  pub run : List Tree
  pub are : parts ≡ front ++ run
  pub long : length front ≡ count
  pub empty : height_after (in_sequence front) from ≡ Some 0
  pub still : is_still (in_sequence run) ≡ true

abbrev pub MayHaveRun : ℕ → List Tree → Option ℕ → Type 0
MayHaveRun from parts None = Unit {0}
MayHaveRun from parts (Some count) = HasRun from parts count

-- what is kept of parts that begin at this height
pub record IsKept (from : ℕ) (parts : List Tree) (kept : Kept) : Type 0 where
  pub shorter : IsShorter from kept.height (in_sequence (map tree_of kept.parts.items)) (in_sequence parts)
  pub still : kept.is_still ≡ true → is_still (in_sequence (map tree_of kept.parts.items)) ≡ true
  pub run : MayHaveRun from (map tree_of kept.parts.items) kept.still_from
