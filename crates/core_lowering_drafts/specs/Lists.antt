-- A contract of a public call rests on this: drafts as lists of parts.
use Rattle.std.specs.Prelude.{ℕ, suc, ◌+◌, List}
use Rattle.core_lowering_drafts.specs.Drafts.{Part, Draft, Op, Choice, Loop, Sync, Leave, Within, Never, Ending, Behind}
use Rattle.core_lowering_drafts.specs.Drafts.{Ends, no_part, part_then, in_order, ends}

abbrev pub Parts : Type 0
Parts = List Part

abbrev pub ends_of : Parts → Ends
ends_of parts = ends (in_order parts)

-- how many parts there are, also within others; a choice counts twice, since one side of it may be a list of groups
abbrev mutual
  pub part_size : Part → ℕ
  part_size (Op place op) = 1
  part_size (Choice left right) = suc (suc (draft_size left + draft_size right))
  part_size (Loop body) = suc (draft_size body)
  part_size (Sync lock body) = suc (draft_size body)
  part_size (Leave k) = 1
  part_size (Within k body) = suc (draft_size body)
  part_size Never = 1
  part_size (Ending body place variables) = suc (draft_size body)
  part_size (Behind body finally k last) = suc (draft_size body + draft_size finally + draft_size last)

  pub draft_size : Draft → ℕ
  draft_size no_part = 0
  draft_size (part_then part rest) = part_size part + draft_size rest

abbrev pub size_of : Parts → ℕ
size_of parts = draft_size (in_order parts)
