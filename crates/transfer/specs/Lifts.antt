-- No public contract rests on this: code that is gone through over the upper values of a stack.
use Rattle.std.specs.Prelude.{◌≡◌, ℕ, Bool, List, option_map, map, Result, Ok, Err}
use Rattle.access_paths.specs.declared.path.Path.{Path}
use Rattle.owner_domain.specs.declared.numbered.NumberedValue.{NumberedValue}
use Rattle.owner_domain.specs.declared.numbered.NumberedState.{NumberedState}
use Rattle.owner_domain.specs.Numbered.{read_value, read_state}
use Rattle.owner_domain.specs.Slots.{numbers_above}
use Rattle.core_code.specs.Tree.{Tree}
use Rattle.access_domain.specs.FlowContext.{FlowContext}
use Rattle.access_domain.specs.Flow.{flow}
use Rattle.transfer_loops.specs.Resuming.{Heads, resumed}
use Rattle.transfer_bodies.specs.Reaching.{above, all_above}
use Rattle.transfer_steps.specs.declared.found.Stop.{Stop}
use Rattle.transfer_steps.specs.declared.found.Stop.TheVariants.{Memory}
use Rattle.transfer.specs.Heights.{IsHighEnough}

-- these values lie below the stack of the new state in the old one, and the code finds the same over both
pub record IsLifted (code : Tree) (under : List NumberedValue) (old new : NumberedState) : Type 0 where
  pub is : old ≡ numbers_above under new
  pub high : (table : List Path) → IsHighEnough code (read_state table old) → IsHighEnough code (read_state table new)
  pub effects : (g : FlowContext) (locked : Bool) (table : List Path) → flow g code locked (read_state table old) ≡
      all_above (map (read_value table) under) (flow g code locked (read_state table new))
  pub end : (g : FlowContext) (locked : Bool) (k : ℕ) (h : Heads) (table : List Path) →
      resumed g code locked k h (read_state table old) ≡ (
        option_map (above (map (read_value table) under)) (resumed g code locked k h (read_state table new)).0,
        (resumed g code locked k h (read_state table new)).1,
      )

-- an end as it was, and then this, or no memory
abbrev pub IsLowered : Result Bool Stop → Result Bool Stop → Type 0 → Type 0
IsLowered (Ok a) (Ok b) P = (a ≡ b) × P
IsLowered (Ok a) (Err stop) P = stop ≡ Memory
IsLowered (Err stop) (Ok b) P = ⊥
IsLowered (Err stop) (Err same) P = stop ≡ same
