-- A contract of a public call rests on this: core code as a plain tree, its operations, and whether it can come to its
-- end and to a return.
use Rattle.std.specs.Prelude.{List, [], ◌∷◌, ◌++◌, Bool, true, false, ◌&&◌, ◌||◌, not, Option, nat_eq}
use Rattle.std.specs.List.{find}
use Rattle.racer_base.specs.declared.ids.Place.{Place}
use Rattle.racer_base.specs.declared.ids.SiteId.{SiteId}
use Rattle.core_code.specs.declared.code.LockKind.{LockKind}
use Rattle.core_code.specs.declared.code.Op.{Op as CoreOp}
use Rattle.core_code.specs.declared.code.Op.TheVariants.{Ret, Throw}
use Rattle.core_code.specs.declared.code.Code.{Code}
use Rattle.core_code.specs.declared.code.Code.TheOpen.{Code-F}
use Rattle.core_code.specs.declared.code.Code.TheOpen as node
use Rattle.core_code.specs.declared.code.Code.TheFolds.{fold-Code}

-- where a lock stands, and which lock of the object it is
pub record LockAt : Type 0 where
  pub place : Place
  pub kind : LockKind

-- one operation; nothing; a part and what comes after it; one of two; a body done any number of times; a body under a
-- lock
pub data Tree : Type 0 where
  Op : (site : SiteId) (place : Place) (op : CoreOp) → Tree
  Skip : Tree
  Seq : (first rest : Tree) → Tree
  Choice : (left right : Tree) → Tree
  Loop : (body : Tree) → Tree
  Sync : (lock : LockAt) (body : Tree) → Tree

-- the parts one after another
abbrev pub in_sequence : List Tree → Tree
in_sequence [] = Skip
in_sequence (part ∷ parts) = Seq part (in_sequence parts)

-- one layer of code, with the trees of its parts in their places
abbrev pub layer : Code-F Tree → Tree
layer (node.Op site place op) = Op site place op
layer (node.Seq parts) = in_sequence parts.items
layer (node.Choice left right) = Choice left.value right.value
layer (node.Loop body) = Loop body.value
layer (node.Sync place kind body) = Sync (record { place = place; kind = kind }) body.value

-- code as a tree
abbrev pub tree_of : Code → Tree
tree_of = fold-Code Tree layer

-- an operation of code, with its site and its place
pub record Operation : Type 0 where
  pub site : SiteId
  pub place : Place
  pub op : CoreOp

-- the operations in reading order
abbrev pub steps_of : Tree → List Operation
steps_of (Op site place op) = record { site = site; place = place; op = op } ∷ []
steps_of Skip = []
steps_of (Seq first rest) = steps_of first ++ steps_of rest
steps_of (Choice left right) = steps_of left ++ steps_of right
steps_of (Loop body) = steps_of body
steps_of (Sync lock body) = steps_of body

-- the places of the locks in reading order
abbrev pub locks_of : Tree → List Place
locks_of (Op site place op) = []
locks_of Skip = []
locks_of (Seq first rest) = locks_of first ++ locks_of rest
locks_of (Choice left right) = locks_of left ++ locks_of right
locks_of (Loop body) = locks_of body
locks_of (Sync lock body) = lock.place ∷ locks_of body

-- the operation that has this site, where the code has one
abbrev pub op_at : Tree → SiteId → Option Operation
op_at code site = find (λ o. nat_eq o.site.0 site.0) (steps_of code)

abbrev pub is_return : CoreOp → Bool
is_return Ret = true
is_return _ = false

-- whether nothing that stands behind an operation is done
abbrev pub stops : CoreOp → Bool
stops Ret = true
stops Throw = true
stops _ = false

-- whether code can end without a return and without a throw
abbrev pub can_end : Tree → Bool
can_end (Op site place op) = not (stops op)
can_end Skip = true
can_end (Seq first rest) = can_end first && can_end rest
can_end (Choice left right) = can_end left || can_end right
can_end (Loop body) = true
can_end (Sync lock body) = can_end body

-- whether code can come to a return
abbrev pub can_return : Tree → Bool
can_return (Op site place op) = is_return op
can_return Skip = false
can_return (Seq first rest) = can_return first || (can_end first && can_return rest)
can_return (Choice left right) = can_return left || can_return right
can_return (Loop body) = can_return body
can_return (Sync lock body) = can_return body
