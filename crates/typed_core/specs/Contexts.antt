-- No public contract rests on this: what is known while methods are checked.
use Rattle.std.specs.Prelude.{Bool, false, List, map, slice_index_or}
use Rattle.core_code.specs.declared.code.Op.{Op as CoreOp}
use Rattle.core_code.specs.declared.code.Op.TheVariants.{Push, PushClass, PushPrim, PushNull, New, Dup, Drop, Put}
use Rattle.core_code.specs.declared.code.Op.TheVariants.{Set, Prim, Outside, Unread}
use Rattle.racer_base.specs.declared.ids.ClassId.{ClassId}
use Rattle.core_code.specs.Tree.{can_return}
use Rattle.core_code.specs.Core.{Core, Method}
use Rattle.typed_core.specs.declared.kinds.TypedKind.TheVariants as kind
use Rattle.typed_core.specs.declared.states.KindState.{KindState}
use Rattle.typed_core.specs.States.{top, variable_of, pushed, popped, replaced, with_variable}

abbrev pub returns_in : Method → Bool
returns_in m = can_return m.code

-- for each method whether it can return
abbrev pub are_returns : Core → List Bool
are_returns core = map returns_in core.methods

-- the flag of a class
abbrev pub flag_of : List Bool → ClassId → Bool
flag_of flags c = slice_index_or flags c.0 false

-- the kinds behind an operation that asks nothing of the program
abbrev pub moved : CoreOp → KindState → KindState
moved (Push v) s = pushed s (variable_of s v.0)
moved (PushClass c) s = pushed s (kind.Class c)
moved PushPrim s = pushed s kind.Plain
moved PushNull s = pushed s kind.Unset
moved (New c) s = pushed s (kind.Object c)
moved Dup s = pushed s (top s)
moved Drop s = popped s 1
moved (Put f) s = replaced s 2 (top s)
moved (Set v) s = with_variable s v.0 (top s)
moved (Prim n) s = replaced s n kind.Plain
moved (Outside n) s = replaced s n kind.Other
moved (Unread m n) s = replaced s n kind.Other
moved _ s = s
