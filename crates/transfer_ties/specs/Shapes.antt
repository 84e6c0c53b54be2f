-- No public contract rests on this: what code is made of, one layer of it.
use Rattle.std.specs.Prelude.{◌≡◌, Bool, true, false, ◌&&◌, List, Option, None, Some, MatchOption, nat_eq}
use Rattle.std.specs.Borrow.{Bor}
use Rattle.racer_base.specs.declared.ids.SiteId.{SiteId}
use Rattle.core_code.specs.declared.code.Code.{Code}
use Rattle.core_code.specs.declared.code.LockKind.{LockKind}
use Rattle.core_code.specs.declared.code.Op.{Op as CoreOp}
use Rattle.core_code.specs.Core.{Core}
use Rattle.core_code.specs.Tree.{Tree, Op, Skip, Seq, Choice, Loop, Sync, in_sequence, tree_of}
use Rattle.transfer_ties.specs.Forms.{same_op}

abbrev pub operation : Tree → Option (SiteId × CoreOp)
operation (Op site place op) = Some (site, op)
operation _ = None

abbrev pub is_sequence : Tree → Bool
is_sequence Skip = true
is_sequence (Seq first rest) = true
is_sequence _ = false

-- these are its parts, where it is a sequence
abbrev pub IsSequence : Tree → Option (List Tree) → Type 0
IsSequence code parts = MatchOption parts (is_sequence code ≡ false) (λ parts. code ≡ in_sequence parts)

abbrev pub sides : Tree → Option (Tree × Tree)
sides (Choice left right) = Some (left, right)
sides _ = None

-- the trees of two sides
abbrev pub both_trees : Bor Code × Bor Code → Tree × Tree
both_trees s = (tree_of s.0.now, tree_of s.1.now)

abbrev pub looped : Tree → Option Tree
looped (Loop body) = Some body
looped _ = None

abbrev pub locked : Tree → Option (LockKind × Tree)
locked (Sync lock body) = Some (lock.kind, body)
locked _ = None

-- the kind of a lock, and the tree of what is under it
abbrev pub held_tree : LockKind × Bor Code → LockKind × Tree
held_tree l = (l.0, tree_of l.1.now)

-- the code is this operation, places aside
abbrev pub is_step : Core → Core → SiteId → CoreOp → Tree → Bool
is_step p q site op (Op other place more) = nat_eq site.0 other.0 && same_op p q op more
is_step p q site op _ = false
