-- No public contract rests on this: code that is gone through over the upper kinds of a stack.
use Rattle.std.specs.Prelude.{◌≡◌, ℕ, List, Some, option_map}
use Rattle.core_code.specs.Tree.{Tree}
use Rattle.core_code.specs.Core.{Core, Method}
use Rattle.typed_core.specs.declared.kinds.TypedKind.{TypedKind}
use Rattle.typed_core.specs.declared.states.KindState.{KindState}
use Rattle.typed_core.specs.States.{above}
use Rattle.typed_core.specs.Resuming.{Heads, Resumed, resumed}

-- the same found, with these kinds below the stack at the end
abbrev pub found_above : List TypedKind → Resumed → Resumed
found_above under found =
    record { next = option_map (above under) found.next; heads = found.heads; doubts = found.doubts }

-- these kinds lie below the stack of the new state in the old one, and the code finds the same over both
pub record IsLifted (code : Tree) (under : List TypedKind) (old new : KindState) : Type 0 where
  pub is : old ≡ above under new
  pub found : (core : Core) (method : Method) (k : ℕ) (h : Heads) → resumed core method code k h (Some old) ≡
      found_above under (resumed core method code k h (Some new))
