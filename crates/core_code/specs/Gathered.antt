-- No public contract rests on this: the calls of code, as they are gathered.
use Rattle.std.specs.Prelude.{Bool, true, false, List, [], ◌++◌, map}
use Rattle.racer_base.specs.declared.ids.MethodId.{MethodId}
use Rattle.core_code.specs.declared.code.Op.{Op as CoreOp}
use Rattle.core_code.specs.declared.parts.MethodCore.{MethodCore}
use Rattle.core_code.specs.Tree.{Tree, Op, Skip, Seq, Choice, Loop, Sync, tree_of}
use Rattle.core_code.specs.Calls.{called_by}
use Rattle.core_code.specs.Recursion.{named_by}

-- the method that an operation calls: with those that are not analysed, or without them
abbrev pub callees_of_op : Bool → CoreOp → List MethodId
callees_of_op true = named_by
callees_of_op false = called_by

abbrev pub callees_of : Bool → Tree → List MethodId
callees_of all (Op site place op) = callees_of_op all op
callees_of all Skip = []
callees_of all (Seq first rest) = callees_of all first ++ callees_of all rest
callees_of all (Choice left right) = callees_of all left ++ callees_of all right
callees_of all (Loop body) = callees_of all body
callees_of all (Sync lock body) = callees_of all body

-- for each method the analysed methods that it calls
abbrev pub callee_rows : List MethodCore → List (List MethodId)
callee_rows methods = map (λ (m : MethodCore). callees_of false (tree_of m.code)) methods
