use Rattle.std.proofs.Common.{◌≡◌, suc, ◌+◌, ◌*◌, ◌++◌, length, map, take, drop}
use Rattle.core_lowering_drafts.specs.Ahead.{closed, item_of, rest_of, shapes}
use Rattle.core_lowering_drafts.specs.Branches.{after_size}
use Rattle.core_lowering_drafts.specs.EndSets.{seen_asked}
use Rattle.core_lowering_drafts.specs.Groups.{fallen}
use Rattle.core_lowering_drafts.specs.Only.{code_in}
use Rattle.core_lowering_drafts.specs.Pieces.{part_of}
use Rattle.core_lowering_drafts.specs.Lists.{part_size, size_of}
use Rattle.core_lowering_drafts.specs.Rooms.{left_behind, room_behind}
use Rattle.core_lowering_drafts.specs.Written.{code_of, room_of}
use Rattle.core_lowering_drafts_code.proofs.+only.Given as goal

-- what is left is written too, and the choices are closed then
abbrev pub invariant-only::write_open-loop-item : goal.invariant-only::write_open-loop-item
invariant-only::write_open-loop-item l =
    record {
      ahead : l.ahead.items ≡ shapes (map item_of (drop l.item-index l.items)) (seen_asked l.asked);
      code : closed l.marks.items
          (code_of l.written ++ code_in (rest_of (map item_of (drop l.item-index l.items)) (seen_asked l.asked)))
          ≡ closed l.initial.marks.items
          (code_of l.initial.written ++ code_in (rest_of (map item_of l.items) (seen_asked l.asked)));
      room : left_behind (length l.marks.items) (room_behind
          (code_in (rest_of (map item_of (drop l.item-index l.items)) (seen_asked l.asked))) (room_of l.written))
          ≡ left_behind (length l.initial.marks.items) (room_behind
          (code_in (rest_of (map item_of l.items) (seen_asked l.asked))) (room_of l.initial.written));
    }

-- the largest draft comes first, and of functions on one the outer one

abbrev pub decreases-only::write : goal.decreases-only::write
decreases-only::write l = 32 * size_of l.draft.now + 20

abbrev pub decreases-only::write_items : goal.decreases-only::write_items
decreases-only::write_items l = 32 * size_of (map item_of l.items.now) + 19

abbrev pub decreases-only::write_open : goal.decreases-only::write_open
decreases-only::write_open l = 32 * size_of (map item_of l.items.now) + 18

abbrev pub decreases-only::write_before : goal.decreases-only::write_before
decreases-only::write_before l = 32 * part_size (item_of l.item) + 17

abbrev pub decreases-only::write_aside : goal.decreases-only::write_aside
decreases-only::write_aside l = 32 * part_size (item_of l.item) + 16

abbrev pub decreases-only::write_item : goal.decreases-only::write_item
decreases-only::write_item l = 32 * part_size (item_of l.item) + 15

abbrev pub decreases-only::write_part : goal.decreases-only::write_part
decreases-only::write_part l = 32 * part_size (part_of l.part.now) + 14

abbrev pub decreases-only::write_choice : goal.decreases-only::write_choice
decreases-only::write_choice l = 32 * suc (size_of l.left.now + size_of l.right.now) + 13

abbrev pub decreases-only::write_fork : goal.decreases-only::write_fork
decreases-only::write_fork l = 32 * suc (size_of l.left.now + size_of l.right.now) + 12

abbrev pub decreases-loops::write_loop : goal.decreases-loops::write_loop
decreases-loops::write_loop l = 32 * suc (size_of l.body.now) + 13

abbrev pub decreases-only::write_held : goal.decreases-only::write_held
decreases-only::write_held l = 32 * suc (size_of l.body.now) + 13

abbrev pub decreases-only::write_within : goal.decreases-only::write_within
decreases-only::write_within l = 32 * suc (size_of l.body.now) + 13

abbrev pub decreases-only::write_ending : goal.decreases-only::write_ending
decreases-only::write_ending l = 32 * suc (size_of l.body.now) + 13

abbrev pub decreases-loops::write_passed : goal.decreases-loops::write_passed
decreases-loops::write_passed l = 32 * suc (size_of l.body.now) + 12

abbrev pub decreases-loops::write_out : goal.decreases-loops::write_out
decreases-loops::write_out l = 32 * suc (size_of l.body.now) + 12

abbrev pub decreases-loops::write_ended : goal.decreases-loops::write_ended
decreases-loops::write_ended l = 32 * suc (size_of l.body.now) + 12

abbrev pub decreases-loops::write_rounds : goal.decreases-loops::write_rounds
decreases-loops::write_rounds l = 32 * suc (size_of l.body.now) + 11

abbrev pub decreases-loops::write_last : goal.decreases-loops::write_last
decreases-loops::write_last l = 32 * suc (size_of l.body.now) + 11

abbrev pub decreases-loops::write_repeated : goal.decreases-loops::write_repeated
decreases-loops::write_repeated l = 32 * suc (size_of l.body.now) + 10

-- ---- groups

abbrev pub decreases-falls::write_entered : goal.decreases-falls::write_entered
decreases-falls::write_entered l = 32 * suc (size_of (fallen (take l.count l.groups.now))) + 13

abbrev pub decreases-falls::write_optional : goal.decreases-falls::write_optional
decreases-falls::write_optional l = 32 * suc (size_of (fallen (take l.count l.groups.now))) + 12

abbrev pub decreases-falls::write_groups : goal.decreases-falls::write_groups
decreases-falls::write_groups l = 32 * size_of (fallen (take l.count l.groups.now)) + 21

-- ---- a body with a `finally`

abbrev pub decreases-finallys::write_behind : goal.decreases-finallys::write_behind
decreases-finallys::write_behind l = 32 * suc (size_of l.body.now + after_size l.after) + 13

abbrev pub decreases-finallys::write_forked : goal.decreases-finallys::write_forked
decreases-finallys::write_forked l =
    32 * suc (size_of l.body.now + after_size l.after) + 2 * length l.branches.now + 5

abbrev pub decreases-finallys::write_branch_or : goal.decreases-finallys::write_branch_or
decreases-finallys::write_branch_or l =
    32 * suc (size_of l.body.now + after_size l.after) + 2 * length l.more.now + 6

abbrev pub decreases-finallys::write_last_branch : goal.decreases-finallys::write_last_branch
decreases-finallys::write_last_branch l = 32 * suc (size_of l.body.now + after_size l.after) + 5

abbrev pub decreases-finallys::write_branch : goal.decreases-finallys::write_branch
decreases-finallys::write_branch l = 32 * suc (size_of l.body.now + after_size l.after) + 4

abbrev pub decreases-finallys::write_tail : goal.decreases-finallys::write_tail
decreases-finallys::write_tail l = 32 * after_size l.after + 22
