-- A contract of a public call rests on this: the law `legs_meet_no_throw`.
use Rattle.std.specs.Prelude.{◌≡◌, Bool, true, false, List, None, Some, IsTrue}
use Rattle.racer_base.specs.declared.ids.MethodId.{MethodId}
use Rattle.core_code.specs.CalleeRows.{code_rows}
use Rattle.core_code.specs.Calls.{method_at}
use Rattle.core_code.specs.Chains.{IsChain}
use Rattle.core_code.specs.Core.{Core}
use Rattle.core_code.specs.Tree.{can_return}
use Rattle.core_semantics.specs.declared.answer.Why.{Why}
use Rattle.core_semantics.specs.declared.answer.Why.TheVariants.{Thrown}
use Rattle.core_semantics.specs.Legs.{Ran, Came, Halted, StuckFor}

-- whether the code of a method can come to a return
abbrev pub does_return : Core → MethodId → Bool
does_return core m = elim (method_at core m) [ None ↦ true | Some method ↦ can_return method.code ]

-- each method that reached code calls can return: each to which a chain of one or more calls leads from m
abbrev pub DoCallsReturn : Core → MethodId → Type 0
DoCallsReturn core m =
    (between : List MethodId) (n : MethodId) → IsChain (code_rows core) m between n → IsTrue (does_return core n)

abbrev pub is_thrown : Why → Bool
is_thrown Thrown = true
is_thrown _ = false

-- a run of the machine of two threads is not stuck at a throw
abbrev pub IsUnthrown : Ran → Type 0
IsUnthrown (Came to left) = Unit {0}
IsUnthrown (Halted (StuckFor why) at steps) = is_thrown why ≡ false
IsUnthrown (Halted _ at steps) = Unit {0}
