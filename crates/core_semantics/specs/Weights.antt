-- No public contract rests on this: how many parts there are at most to unfold before the next step.
use Rattle.std.specs.Prelude.{ℕ, ◌+◌, List, [], ◌∷◌, map}
use Rattle.core_code.specs.Tree.{Tree, Op, Skip, Seq, Choice, Loop, Sync, tree_of, in_sequence}
use Rattle.core_semantics.specs.declared.pending.Pending.{Pending}
use Rattle.core_semantics.specs.declared.pending.Pending.TheVariants.{One, Parts, Unlock}
use Rattle.core_semantics.specs.declared.pending.Unfolded.{Unfolded}
use Rattle.core_semantics.specs.declared.pending.Unfolded.TheVariants.{Next as ANext, Nothing as ANothing, One as AOne}
use Rattle.core_semantics.specs.declared.pending.Unfolded.TheVariants.{Two as ATwo}

abbrev pub tree_weight : Tree → ℕ
tree_weight (Op site place op) = 1
tree_weight Skip = 1
tree_weight (Seq first rest) = 2 + (tree_weight first + tree_weight rest)
tree_weight (Choice left right) = 1
tree_weight (Loop body) = 1
tree_weight (Sync lock body) = 1

abbrev pub part_weight : Pending → ℕ
part_weight (One code) = 1 + tree_weight (tree_of code.now)
part_weight (Parts parts) = tree_weight (in_sequence (map tree_of parts.now))
part_weight Unlock = 1

abbrev pub pending_weight : List Pending → ℕ
pending_weight [] = 0
pending_weight (part ∷ pending) = part_weight part + pending_weight pending

abbrev pub unfolded_weight : Unfolded → ℕ
unfolded_weight (ANext next) = 0
unfolded_weight ANothing = 0
unfolded_weight (AOne part) = part_weight part
unfolded_weight (ATwo part rest) = part_weight part + part_weight rest
