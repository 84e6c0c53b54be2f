-- A contract of a public call rests on this: what is seen of the drafts of the code.
use Rattle.std.specs.Prelude.{List, [], ◌∷◌, ◌++◌}
use Rattle.std.specs.List.{flat_map}
use Rattle.core_lowering_drafts.specs.declared.draft.Part.{Part as CodePart}
use Rattle.core_lowering_drafts.specs.declared.draft.Part.TheVariants as part
use Rattle.core_lowering_drafts.specs.declared.draft.Piece.{Piece}
use Rattle.core_lowering_drafts.specs.declared.draft.Piece.TheVariants as piece
use Rattle.core_lowering_drafts.specs.Drafts.{Part, Op, Choice, Loop, Sync, Leave, Within, Never, Ending, Behind}
use Rattle.core_lowering_drafts.specs.Drafts.{in_order, no_part}
use Rattle.core_lowering_drafts.specs.Groups.{fallen}

abbrev pub part_of : CodePart → Part
part_of (part.Op place op) = Op place op
part_of (part.Choice left right) = Choice (in_order left.value) (in_order right.value)
part_of (part.Loop body) = Loop (in_order body.value)
part_of (part.Sync place kind body) = Sync (record { place = place; kind = kind }) (in_order body.value)
part_of (part.Leave exit) = Leave exit.0
part_of (part.Within exit body) = Within exit.0 (in_order body.value)
part_of part.Never = Never
part_of (part.Ending body place variables) = Ending (in_order body.value) place variables.items
part_of (part.Behind body finally exit last) =
    Behind (in_order body.value) (in_order finally.value) exit.0 (in_order last.value)
part_of (part.Entered groups) = Choice (in_order (fallen groups)) no_part

-- a body that is done at least once is the body, and then a loop
abbrev pub parts_of : Piece → List Part
parts_of (piece.Part part) = part_of part ∷ []
parts_of (piece.Again body) = body.value ++ Loop (in_order body.value) ∷ []

abbrev pub all_parts : List Piece → List Part
all_parts pieces = flat_map parts_of pieces
