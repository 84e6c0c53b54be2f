-- The calls of code as they are gathered are those of its operations.
use Rattle.std.proofs.Common.{◌≡◌, Bool, true, false, List, [], ◌∷◌, ◌++◌, map, refl, sym, ap, ◌∙◌, append-nil}
use Rattle.std.proofs.lemmas.List.Concat.{flat_map-append}
use Rattle.std.specs.List.{flat_map}
use Rattle.racer_base.specs.declared.ids.MethodId.{MethodId}
use Rattle.core_code.specs.declared.parts.MethodCore.{MethodCore}
use Rattle.core_code.specs.Tree.{Tree, Op, Skip, Seq, Choice, Loop, Sync, Operation, steps_of, tree_of}
use Rattle.core_code.specs.Core.{Method, method_of}
use Rattle.core_code.specs.Calls.{calls_in}
use Rattle.core_code.specs.Recursion.{all_calls_in}
use Rattle.core_code.specs.CalleeRows.{different}
use Rattle.core_code.specs.Gathered.{callees_of_op, callees_of, callee_rows}

module _ (all : Bool) where
  callees_at : Operation → List MethodId
  callees_at o = callees_of_op all o.op

  together : (left right : Tree) → callees_of all left ≡ flat_map callees_at (steps_of left) →
      callees_of all right ≡ flat_map callees_at (steps_of right) →
      callees_of all left ++ callees_of all right ≡ flat_map callees_at (steps_of left ++ steps_of right)
  together left right e f =
      ap (λ (front : List MethodId). front ++ callees_of all right) e
      ∙ ap (λ (back : List MethodId). flat_map callees_at (steps_of left) ++ back) f
      ∙ sym (flat_map-append callees_at (steps_of left) (steps_of right))

  callees_are : (code : Tree) → callees_of all code ≡ flat_map callees_at (steps_of code)
  callees_are (Op site place op) = unfold callees_at in sym (append-nil (callees_of_op all op))
  callees_are Skip = refl
  callees_are (Seq first rest) = together first rest (callees_are first) (callees_are rest)
  callees_are (Choice left right) = together left right (callees_are left) (callees_are right)
  callees_are (Loop body) = callees_are body
  callees_are (Sync lock body) = callees_are body

pub all_callees : (code : Tree) → callees_of true code ≡ all_calls_in code
unfolding callees_at
all_callees code = callees_are true code

analysed_callees : (code : Tree) → callees_of false code ≡ calls_in code
unfolding callees_at
analysed_callees code = callees_are false code

-- the rows of parts
pub rows_are : (methods : List MethodCore) →
    map different (callee_rows methods) ≡ map (λ (m : Method). different (calls_in m.code))
    (map method_of methods)
rows_are [] = refl
rows_are (m ∷ ms) =
    ap (λ (row : List MethodId). different row ∷ map different (callee_rows ms))
    (analysed_callees (tree_of m.code))
    ∙ ap (λ (rows : List (List MethodId)). different (calls_in (tree_of m.code)) ∷ rows) (rows_are ms)
