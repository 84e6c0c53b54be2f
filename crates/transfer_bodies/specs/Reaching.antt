-- A contract of a public call rests on this: code over a stack of which it reaches the upper values alone.
use Rattle.std.specs.Prelude.{◌≡◌, ℕ, Bool, true, List, ◌++◌, Some, option_map, length, is_some}
use Rattle.owner_domain.specs.declared.value.Value.{Value}
use Rattle.owner_domain.specs.declared.value.State.{State}
use Rattle.core_code.specs.Tree.{Tree}
use Rattle.core_code.specs.Facts.{height_after}
use Rattle.access_domain.specs.FlowContext.{FlowContext}
use Rattle.access_domain.specs.Operations.{Effects}
use Rattle.access_domain.specs.Flow.{flow}
use Rattle.transfer_loops.specs.Resuming.{Heads, loops, resumed}

-- the state with these values below its stack
abbrev pub above : List Value → State → State
above under s = record { vars = s.vars; stack = s.stack ++ under }

-- the same effects, with these values below the stack at the end
abbrev pub all_above : List Value → Effects → Effects
all_above under e =
    record {
      next = option_map (above under) e.next;
      records = e.records;
      wobbly = e.wobbly;
      result = e.result;
      large = e.large;
    }

-- code without loops leads from one height to another
pub record LeadsFrom (from to : ℕ) (code : Tree) : Type 0 where
  pub height : height_after code from ≡ Some to
  pub none : loops code ≡ 0

-- the code has no loop, finds the same over so many values as over more that begin with these, and leaves the others as
-- they are
pub record IsWithin (height : ℕ) (code : Tree) : Type 0 where
  pub high : is_some (height_after code height) ≡ true
  pub none : loops code ≡ 0
  pub effects : (g : FlowContext) (locked : Bool) (under : List Value) (s : State) → length s.stack ≡ height →
      flow g code locked (above under s) ≡ all_above under (flow g code locked s)
  pub end : (g : FlowContext) (locked : Bool) (k : ℕ) (h : Heads) (under : List Value) (s : State) →
      length s.stack ≡ height → resumed g code locked k h (above under s) ≡
      (option_map (above under) (resumed g code locked k h s).0, (resumed g code locked k h s).1)
