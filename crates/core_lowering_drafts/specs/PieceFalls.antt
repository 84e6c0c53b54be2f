-- Each draft within a draft has fewer parts.
use Rattle.std.specs.Prelude.{◌≡◌, suc, ◌+◌, ◌≤◌, max, List, [], ◌∷◌, ◌++◌}
use Rattle.std.proofs.Common.{arith}
use denote.Param.Weighed.{most}
use Rattle.core_lowering_drafts.specs.declared.draft.Part.{Part as CodePart}
use Rattle.core_lowering_drafts.specs.declared.draft.Part.TheVariants as part
use Rattle.core_lowering_drafts.specs.declared.draft.Piece.{Piece}
use Rattle.core_lowering_drafts.specs.declared.draft.Piece.TheVariants as piece
use Rattle.core_lowering_drafts.specs.declared.draft.Draft.TheDeep.{deep-Part, deep-Piece}
use Rattle.core_lowering_drafts.specs.Drafts.{Part, Choice, Loop, in_order, no_part}
use Rattle.core_lowering_drafts.specs.Groups.{fall_in, groups_size}
use Rattle.core_lowering_drafts.specs.Lists.{Parts, part_size, size_of}
use Rattle.core_lowering_drafts.specs.Pieces.{all_parts, part_of, parts_of}

pub size_of-append : (xs ys : List Part) → size_of (xs ++ ys) ≡ size_of xs + size_of ys
size_of-append [] ys = omega arith
size_of-append (x ∷ xs) ys = omega (arith, size_of-append xs ys)

pub fall_in-more : (before : Parts) (groups : List Parts) → size_of before ≤ size_of (fall_in before groups)
fall_in-more before [] = omega arith
fall_in-more before (group ∷ groups) = omega (arith, fall_in-more (Choice (in_order before) no_part ∷ group) groups)

fall_in-most : (before : Parts) (groups : List Parts) →
    most (λ group. size_of group + 1) groups ≤ suc (size_of (fall_in before groups))
fall_in-most before [] = omega arith
fall_in-most before (group ∷ groups) =
    let next = Choice (in_order before) no_part ∷ group in
    omega (arith, fall_in-most next groups, fall_in-more next groups)

pub groups_le : (groups : List Parts) → max (most (λ group. size_of group + 1) groups) 0 ≤ groups_size groups
groups_le [] = omega arith
groups_le (group ∷ groups) = omega (arith, fall_in-most group groups, fall_in-more group groups)

part-falls : (p : CodePart) → deep-Part p ≤ part_size (part_of p)
part-falls (part.Op place op) = omega arith
part-falls (part.Choice left right) = omega arith
part-falls (part.Loop body) = omega arith
part-falls (part.Sync place kind body) = omega arith
part-falls (part.Leave exit) = omega arith
part-falls (part.Within exit body) = omega arith
part-falls part.Never = omega arith
part-falls (part.Ending body place variables) = omega arith
part-falls (part.Behind body finally exit last) = omega arith
part-falls (part.Entered groups) = omega arith

piece-falls : (p : Piece) → deep-Piece p ≤ size_of (parts_of p)
piece-falls (piece.Part p) = omega (arith, part-falls p)
piece-falls (piece.Again body) = omega (arith, size_of-append body.value (Loop (in_order body.value) ∷ []))

pub most_le : (pieces : List Piece) → most (λ p. deep-Piece p) pieces ≤ size_of (all_parts pieces)
most_le [] = omega arith
most_le (p ∷ pieces) =
    omega (arith, piece-falls p, most_le pieces, size_of-append (parts_of p) (all_parts pieces))
