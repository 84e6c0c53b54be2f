-- A contract of a public call rests on this: `all_callees`, and `lower` of core_lowering. Which methods call which,
-- whatever their status, and which are recursive.
use Rattle.std.specs.Prelude.{Bool, List, [], ◌∷◌, map}
use Rattle.std.specs.List.{flat_map}
use Rattle.racer_base.specs.declared.ids.MethodId.{MethodId}
use Rattle.core_code.specs.Chains.{IsOnCycle, TellCycles}
use Rattle.core_code.specs.declared.code.Op.{Op as CoreOp}
use Rattle.core_code.specs.declared.code.Op.TheVariants.{Call, Unread}
use Rattle.core_code.specs.Tree.{Tree, Operation, steps_of}
use Rattle.core_code.specs.Core.{Core, Method}

-- the method that is called, whether it is analysed or not
abbrev pub named_by : CoreOp → List MethodId
named_by (Call m n) = m ∷ []
named_by (Unread m n) = m ∷ []
named_by _ = []

-- the methods that are called, in reading order
abbrev pub all_calls_in : Tree → List MethodId
all_calls_in code = flat_map (λ (o : Operation). named_by o.op) (steps_of code)

-- for each method the methods that it calls
abbrev pub all_rows : Core → List (List MethodId)
all_rows core = map (λ (m : Method). all_calls_in m.code) core.methods

-- a chain of one or more calls leads from a method to itself
abbrev pub IsRecursive : Core → MethodId → Type 0
IsRecursive core m = IsOnCycle (all_rows core) m

-- the flags of recursive methods, and no others, are true
abbrev pub TellRecursion : Core → List Bool → Type 0
TellRecursion core flags = TellCycles (all_rows core) flags
