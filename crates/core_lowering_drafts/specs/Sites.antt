-- A contract of a public call rests on this: code without its sites, and operations numbered in reading order.
use Rattle.std.specs.Prelude.{◌≡◌, ℕ, ◌+◌, List, [], ◌∷◌, map, length, true}
use Rattle.racer_base.specs.declared.ids.Place.{Place}
use Rattle.core_code.specs.declared.code.LockKind.{LockKind}
use Rattle.core_code.specs.declared.code.Code.{Code as CoreCode}
use Rattle.core_code.specs.Facts.{sites_of, counts_from}
use Rattle.core_code.specs.Tree.{LockAt, Tree, Op, Skip, Seq, Choice, Loop, Sync, steps_of, in_sequence, tree_of}
use Rattle.core_lowering_drafts.specs.Only.{Code}

-- the same code, its sites from n on
abbrev pub numbered : ℕ → Tree → Tree
numbered n (Op site place op) = Op (record { 0 = n }) place op
numbered n Skip = Skip
numbered n (Seq first rest) = Seq (numbered n first) (numbered (n + length (steps_of first)) rest)
numbered n (Choice left right) = Choice (numbered n left) (numbered (n + length (steps_of left)) right)
numbered n (Loop body) = Loop (numbered n body)
numbered n (Sync lock body) = Sync lock (numbered n body)

-- the same code, each site 0
abbrev pub erased : Tree → Tree
erased (Op site place op) = Op (record { 0 = 0 }) place op
erased Skip = Skip
erased (Seq first rest) = Seq (erased first) (erased rest)
erased (Choice left right) = Choice (erased left) (erased right)
erased (Loop body) = Loop (erased body)
erased (Sync lock body) = Sync lock (erased body)

abbrev pub erased_of : CoreCode → Tree
erased_of code = erased (tree_of code)

-- the parts one after another
abbrev pub whole_of : List CoreCode → Tree
whole_of parts = in_sequence (map tree_of parts)

-- the sites of these parts are 0, 1 and so on, and this is the next
abbrev pub AreNumbered : List CoreCode → ℕ → Type 0
AreNumbered parts next =
    (counts_from 0 (sites_of (whole_of parts)) ≡ true) × (next ≡ length (steps_of (whole_of parts)))

-- the monitor of an object, or its explicit lock, locked at this place
abbrev pub lock_at : LockKind → Place → LockAt
lock_at kind place = record { place = place; kind = kind }

abbrev pub locked : LockKind → Place → Code → Code
locked kind place body = Sync (lock_at kind place) (in_sequence body) ∷ []
