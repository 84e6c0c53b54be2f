-- A contract of a public call rests on this: drafts that are core code themselves.
use Rattle.std.specs.Prelude.{Bool, true, false, ◌&&◌, [], ◌∷◌, ◌++◌}
use Rattle.core_code.specs.Tree.{in_sequence}
use Rattle.core_code.specs.Tree as tree
use Rattle.core_lowering_drafts.specs.Drafts.{Part, Draft, Op, Choice, Loop, Sync, Leave, Within, Never, Ending, Behind}
use Rattle.core_lowering_drafts.specs.Drafts.{no_part, part_then}
use Rattle.core_lowering_drafts.specs.Only.{Code, one, fork, loop_of}

-- whether there is nothing but operations, choices, loops and locks
abbrev mutual
  pub is_plain_part : Part → Bool
  is_plain_part (Op place op) = true
  is_plain_part (Choice left right) = is_plain left && is_plain right
  is_plain_part (Loop body) = is_plain body
  is_plain_part (Sync lock body) = is_plain body
  is_plain_part (Leave k) = false
  is_plain_part (Within k body) = false
  is_plain_part Never = false
  is_plain_part (Ending body place variables) = false
  is_plain_part (Behind body finally k last) = false

  pub is_plain : Draft → Bool
  is_plain no_part = true
  is_plain (part_then part rest) = is_plain_part part && is_plain rest

-- the same as core code, of a plain draft
abbrev mutual
  pub plain_part : Part → Code
  plain_part (Op place op) = one place op
  plain_part (Choice left right) = fork (plain_code left) (plain_code right)
  plain_part (Loop body) = loop_of (plain_code body)
  plain_part (Sync lock body) = tree.Sync lock (in_sequence (plain_code body)) ∷ []
  plain_part (Leave k) = []
  plain_part (Within k body) = []
  plain_part Never = []
  plain_part (Ending body place variables) = []
  plain_part (Behind body finally k last) = []

  pub plain_code : Draft → Code
  plain_code no_part = []
  plain_code (part_then part rest) = plain_part part ++ plain_code rest
