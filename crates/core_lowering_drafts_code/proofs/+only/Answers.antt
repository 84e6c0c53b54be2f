use Rattle.std.proofs.Common.{◌≡◌, true, false, List, [], ◌∷◌, ◌++◌, ◌+◌, ◌≤◌, length, map, take, drop, cond, sym, ap}
use Rattle.std.proofs.Common.{◌∙◌, Some, subst, arith, rules}
use Rattle.std.specs.List.{flat_map}
use Rattle.std.proofs.lemmas.List.{drop_all}
use Rattle.std.proofs.lemmas.Result.{err_from_is_err_and, on_ok_weaker}
use Rattle.core_lowering_drafts.specs.declared.ahead.Item.{Item}
use Rattle.core_lowering_drafts.specs.declared.ahead.Way.TheVariants.{Both}
use Rattle.core_lowering_drafts.specs.declared.behind.Branch.{Branch as CodeBranch}
use Rattle.core_lowering_drafts.specs.declared.behind.Tail.TheVariants.{AtExit, Kept, Turned}
use Rattle.core_lowering_drafts.specs.declared.draft.Part.{Part as CodePart}
use Rattle.core_lowering_drafts.specs.Ahead.{closed, item_of, passed, rest_of}
use Rattle.core_lowering_drafts.specs.Branches.{after_size, all_branches, branch_of, parts_behind, rest_behind}
use Rattle.core_lowering_drafts.specs.Drafts.{Choice, Ends, Normal, SameEnds, ends, exits, final_ends, in_order}
use Rattle.core_lowering_drafts.specs.Drafts.{no_part, on}
use Rattle.core_lowering_drafts.specs.EndSets.{seen, seen_asked}
use Rattle.core_lowering_drafts.specs.Groups.{fallen}
use Rattle.core_lowering_drafts.specs.Lists.{Parts, part_size, size_of}
use Rattle.core_lowering_drafts.specs.Only.{Code, asked_within, cleared, code_in, fork, forked, loop_of}
use Rattle.core_lowering_drafts.specs.Only.{only, only_part, rounds, thrown}
use Rattle.core_lowering_drafts.specs.Pieces.{part_of}
use Rattle.core_lowering_drafts.specs.Rooms.{IsRoom, in_branching, left_behind, room_behind}
use Rattle.core_lowering_drafts.specs.Written.{code_of, room_of}
use Rattle.core_lowering_drafts.proofs.DraftEnds.{copy-same}
use Rattle.core_lowering_drafts_code.proofs.OnlySteps.{before-end, item-within, one-here, open-step, part-both, popped}
use Rattle.core_lowering_drafts_code.proofs.OnlySteps.{way-subst}
use Rattle.core_lowering_drafts.proofs.Passed.{taken-size}
use Rattle.core_lowering_drafts.proofs.Rooms.{room-fork, room-fork-left, room-lock, room-loop, room-nothing}
use Rattle.core_lowering_drafts_code.proofs.RoomSteps.{forked-or, open-room, open-stopped, then-goes, then-stopped}
use Rattle.core_lowering_drafts.proofs.SameEnds.{only-alike}
use Rattle.core_lowering_drafts.proofs.StandingBranches.{behind-code, behind-size, few, tail-code}
use Rattle.core_lowering_drafts_code.proofs.+only.Goals as goal

pub only::write_before-returns-in_ok-write_item-in-Both-clause-code :
    goal.only::write_before-returns-in_ok-write_item-in-Both-clause-code
only::write_before-returns-in_ok-write_item-in-Both-clause-code t c =
    let x = c.args.item in
    let A = seen_asked c.args.asked in
    let W = code_of c.args.written.now in
    let aside = code_of c.write_aside.new.written in
    let marks = c.args.marks.now.items in
    let new = c.write_aside.new.marks.items in
    let now = code_of c.write_item-in-Both.new.written in
    way-subst marks new W now x c.args.behind A true c.in_ok-way_of.field-0 Both c.in_ok-way_of.ensures c.in-Both.is
    (part-both marks new W aside now (only_part (item_of x) (exits A)) (only_part (item_of x) (on A))
    (c.in_ok-write_aside-in-Both.ensures.code
    ∙ ap (λ (X : Ends). W ++ only_part (item_of x) X) c.exits_alone-in-Both.ensures)
    (c.in_ok-write_item-in-Both.ensures.code ∙ ap (λ (X : Ends). aside ++ only_part (item_of x) X) c.on-in-Both.ensures)
    c.in_ok-write_aside-in-Both.ensures.marks)

pub only::write_open-write_before-requires : goal.only::write_open-write_before-requires
only::write_open-write_before-requires t c =
    let within : part_size (item_of c.item-item.result) ≤ size_of (map item_of c.args.items.now) =
    item-within c.args.items.now c.loop-item.item-index c.item-item.result c.loop-item-test.true c.item-item.is in
    (omega (arith, within, c.decreases), tt)

pub only::write_open-returns-then-not-branch-clause-code : goal.only::write_open-returns-then-not-branch-clause-code
only::write_open-returns-then-not-branch-clause-code t c =
    let items = c.args.items.now in
    let i = c.loop-item.item-index in
    let A = seen_asked c.args.asked in
    let W = code_of c.write_before.new.written in
    let new = c.write_before.new.marks.items in
    let all = closed c.args.marks.now.items (code_of c.args.written.now ++ code_in (rest_of (map item_of items) A)) in
    let rest = code_in (rest_of (map item_of (drop (i + 1) items)) A) in
    let ends : c.in_ok-write_before.field-0 ≡ false = search rules in
    before-end new W all
    (subst (λ g. closed new (W ++ cond g rest []) ≡ all) ends
    (open-step c.loop-item.marks.items new (code_of c.loop-item.written) W all c.item-item.result (drop (i + 1) items)
    (drop i items) c.loop-item.ahead.items c.pop.new.self.items c.in-Some.behind A c.in_ok-write_before.field-0
    c.in_ok-write_before.ensures.code (one-here items i c.item-item.result c.loop-item-test.true c.item-item.is)
    c.loop-item.invariant.ahead c.in-Some.ensures.items c.loop-item.invariant.code))

pub only::write_open-returns-then-not-branch-clause-room : goal.only::write_open-returns-then-not-branch-clause-room
only::write_open-returns-then-not-branch-clause-room t c =
    let items = c.args.items.now in
    let i = c.loop-item.item-index in
    let A = seen_asked c.args.asked in
    let s = room_of c.write_before.new.written in
    let new = c.write_before.new.marks.items in
    let all = left_behind (length c.args.marks.now.items) (room_behind (code_in (rest_of (map item_of items) A))
    (room_of c.args.written.now)) in
    let rest = code_in (rest_of (map item_of (drop (i + 1) items)) A) in
    let is = one-here items i c.item-item.result c.loop-item-test.true c.item-item.is in
    let ends : c.in_ok-write_before.field-0 ≡ false = search rules in
    subst (λ g. left_behind (length new) (cond g (room_behind rest s) (Some s)) ≡ all) ends
    (open-room (length c.loop-item.marks.items) (length new) (room_of c.loop-item.written) s all
    c.item-item.result (drop (i + 1) items) (drop i items) c.in-Some.behind A c.in_ok-write_before.field-0
    c.in_ok-write_before.ensures.room is
    (popped c.item-item.result (drop (i + 1) items) (drop i items) A c.loop-item.ahead.items c.pop.new.self.items
    c.in-Some.behind is c.loop-item.invariant.ahead c.in-Some.ensures.items).1 c.loop-item.invariant.room)

pub only::write_open-returns-in_err-write_before-clause-room :
    goal.only::write_open-returns-in_err-write_before-clause-room
only::write_open-returns-in_err-write_before-clause-room t c =
    let items = c.args.items.now in
    let i = c.loop-item.item-index in
    let A = seen_asked c.args.asked in
    let is = one-here items i c.item-item.result c.loop-item-test.true c.item-item.is in
    let p = err_from_is_err_and c.from_residual-in_err-write_before.result
    c.from_residual-in_err-write_before.ensures.1 in
    rw (p.1, p.2)
    (open-stopped (length c.loop-item.marks.items) (length c.args.marks.now.items) (room_of c.loop-item.written)
    (room_behind (code_in (rest_of (map item_of items) A)) (room_of c.args.written.now)) c.item-item.result
    (drop (i + 1) items) (drop i items) c.in-Some.behind A c.in_err-write_before.field-0.0
    c.in_err-write_before.ensures.room is
    (popped c.item-item.result (drop (i + 1) items) (drop i items) A c.loop-item.ahead.items c.pop.new.self.items
    c.in-Some.behind is c.loop-item.invariant.ahead c.in-Some.ensures.items).1 c.loop-item.invariant.room)

pub only::write_open-returns-clause-room : goal.only::write_open-returns-clause-room
only::write_open-returns-clause-room t c =
    let items = c.args.items.now in
    let i = c.loop-item.item-index in
    let A = seen_asked c.args.asked in
    let r = room_of c.loop-item.written in
    sym (ap (left_behind (length c.loop-item.marks.items))
    (ap (λ (xs : List Item). room_behind (code_in (rest_of (map item_of xs) A)) r)
    (drop_all i items c.loop-item-test.false) ∙ room-nothing r)) ∙ c.loop-item.invariant.room

pub only::write_open-loop-item-preserved : goal.only::write_open-loop-item-preserved
only::write_open-loop-item-preserved t c =
    let items = c.args.items.now in
    let i = c.loop-item.item-index in
    let A = seen_asked c.args.asked in
    let W = code_of c.write_before.new.written in
    let new = c.write_before.new.marks.items in
    let all = closed c.args.marks.now.items (code_of c.args.written.now ++ code_in (rest_of (map item_of items) A)) in
    let rest = code_in (rest_of (map item_of (drop (i + 1) items)) A) in
    let is = one-here items i c.item-item.result c.loop-item-test.true c.item-item.is in
    let goes : c.in_ok-write_before.field-0 ≡ true = search rules in
    let s = room_of c.write_before.new.written in
    let room = left_behind (length c.args.marks.now.items) (room_behind (code_in (rest_of (map item_of items) A))
    (room_of c.args.written.now)) in
    record {
      ahead =
          (popped c.item-item.result (drop (i + 1) items) (drop i items) A c.loop-item.ahead.items
          c.pop.new.self.items c.in-Some.behind is c.loop-item.invariant.ahead c.in-Some.ensures.items).0;
      code =
          subst (λ g. closed new (W ++ cond g rest []) ≡ all) goes
          (open-step c.loop-item.marks.items new (code_of c.loop-item.written) W all c.item-item.result
          (drop (i + 1) items) (drop i items) c.loop-item.ahead.items c.pop.new.self.items c.in-Some.behind A
          c.in_ok-write_before.field-0 c.in_ok-write_before.ensures.code is c.loop-item.invariant.ahead
          c.in-Some.ensures.items c.loop-item.invariant.code);
      room =
          subst (λ g. left_behind (length new) (cond g (room_behind rest s) (Some s)) ≡ room) goes
          (open-room (length c.loop-item.marks.items) (length new) (room_of c.loop-item.written) s room
          c.item-item.result (drop (i + 1) items) (drop i items) c.in-Some.behind A c.in_ok-write_before.field-0
          c.in_ok-write_before.ensures.room is
          (popped c.item-item.result (drop (i + 1) items) (drop i items) A c.loop-item.ahead.items
          c.pop.new.self.items c.in-Some.behind is c.loop-item.invariant.ahead c.in-Some.ensures.items).1
          c.loop-item.invariant.room);
    }

pub only::write_within-returns-clause-code : goal.only::write_within-returns-clause-code
only::write_within-returns-clause-code t c =
    let old = code_of c.args.written.now in
    let body = in_order c.args.body.now in
    let by = seen_asked c.asked.result in
    let within = asked_within c.args.exit.0 (seen_asked c.args.asked) in
    on_ok_weaker c.write.result
    (λ made. made ∙ ap (λ (code : Code). old ++ code) (only-alike body by within
    (copy-same by (seen c.in_ok-within.within) within c.asked.ensures c.in_ok-within.ensures)))
    c.write.ensures.code

pub only::write_within-returns-clause-room : goal.only::write_within-returns-clause-room
only::write_within-returns-clause-room t c =
    let body = in_order c.args.body.now in
    let by = seen_asked c.asked.result in
    let within = asked_within c.args.exit.0 (seen_asked c.args.asked) in
    subst (λ (code : Code). IsRoom (room_behind code (room_of c.args.written.now)) (room_of c.write.new.written)
    c.write.result)
    (only-alike body by within
    (copy-same by (seen c.in_ok-within.within) within c.asked.ensures c.in_ok-within.ensures)) c.write.ensures.room

pub only::write_choice-returns-clause-room : goal.only::write_choice-returns-clause-room
only::write_choice-returns-clause-room t c =
    let A = seen_asked c.args.asked in
    let left = in_order c.args.left.now in
    let right = in_order c.args.right.now in
    let old = room_of c.args.written.now in
    let both : only_part (Choice left right) A ≡ fork (only left A) (only right A) = search rules in
    subst (λ o. IsRoom o (room_of c.write_fork.new.written) c.write_fork.result)
    (sym (ap (λ (code : Code). room_behind code old) both ∙ room-fork (only left A) (only right A) old))
    c.write_fork.ensures.room

pub loops::write_rounds-returns-then-not-meets-clause-room : goal.loops::write_rounds-returns-then-not-meets-clause-room
loops::write_rounds-returns-then-not-meets-clause-room t c =
    let A = seen_asked c.args.asked in
    let body = in_order c.args.body.now in
    let old = room_of c.args.written.now in
    let none : rounds body (only body) A ≡ [] = search rules in
    ap (λ (code : Code). room_behind code old) none ∙ room-nothing old

pub loops::write_rounds-returns-clause-room : goal.loops::write_rounds-returns-clause-room
loops::write_rounds-returns-clause-room t c =
    let A = seen_asked c.args.asked in
    let body = in_order c.args.body.now in
    let old = room_of c.args.written.now in
    let some : rounds body (only body) A ≡ loop_of (only body A) = search rules in
    subst (λ o. IsRoom o (room_of c.write_repeated.new.written) c.write_repeated.result)
    (sym (ap (λ (code : Code). room_behind code old) some ∙ room-loop (only body A) old))
    c.write_repeated.ensures.room

pub loops::write_passed-returns-in_err-write_rounds-clause-room :
    goal.loops::write_passed-returns-in_err-write_rounds-clause-room
loops::write_passed-returns-in_err-write_rounds-clause-room t c = search (rules, then-stopped)

pub loops::write_passed-returns-clause-room : goal.loops::write_passed-returns-clause-room
loops::write_passed-returns-clause-room t c =
    let A = seen_asked c.args.asked in
    let body = in_order c.args.body.now in
    let old = room_of c.args.written.now in
    let s = room_of c.write_rounds.new.written in
    let new = room_of c.write_last.new.written in
    let first = rounds body (only body) (on A) in
    let last = fork (only body (exits A)) [] in
    let all : passed body (only body) A ≡ first ++ last = search rules in
    let one_more : IsRoom (in_branching (room_behind (only body (exits A))) s) new c.write_last.result = search rules in
    subst (λ (code : Code). IsRoom (room_behind code old) new c.write_last.result) (sym all)
    (then-goes first last old s new c.write_last.result (search rules)
    (subst (λ o. IsRoom o new c.write_last.result) (sym (room-fork-left (only body (exits A)) s)) one_more))

pub loops::write_out-returns-in_err-write_rounds-clause-room :
    goal.loops::write_out-returns-in_err-write_rounds-clause-room
loops::write_out-returns-in_err-write_rounds-clause-room t c = search (rules, then-stopped)

pub loops::write_out-returns-clause-room : goal.loops::write_out-returns-clause-room
loops::write_out-returns-clause-room t c =
    let A = seen_asked c.args.asked in
    let body = in_order c.args.body.now in
    then-goes (rounds body (only body) (on A)) (only body (exits A)) (room_of c.args.written.now)
    (room_of c.write_rounds.new.written) (room_of c.write.new.written) c.write.result (search rules) (search rules)

pub loops::write_ended-returns-in_err-write_rounds-clause-room :
    goal.loops::write_ended-returns-in_err-write_rounds-clause-room
loops::write_ended-returns-in_err-write_rounds-clause-room t c = search (rules, then-stopped)

pub loops::write_ended-returns-clause-room : goal.loops::write_ended-returns-clause-room
loops::write_ended-returns-clause-room t c =
    let A = seen_asked c.args.asked in
    let body = in_order c.args.body.now in
    then-goes (rounds body (only body) (Normal ∷ [])) (only body (final_ends A)) (room_of c.args.written.now)
    (room_of c.write_rounds.new.written) (room_of c.write.new.written) c.write.result (search rules) (search rules)

pub only::write_ending-returns-in_err-write-clause-room : goal.only::write_ending-returns-in_err-write-clause-room
only::write_ending-returns-in_err-write-clause-room t c = search (rules, then-stopped)

pub only::write_ending-returns-clause-room : goal.only::write_ending-returns-clause-room
only::write_ending-returns-clause-room t c =
    then-goes (only (in_order c.args.body.now) (seen_asked c.args.asked)) (flat_map (cleared c.args.place)
    c.args.variables.now) (room_of c.args.written.now) (room_of c.write.new.written)
    (room_of c.write_cleared.new.written) c.write_cleared.result c.in_ok-write.ensures.room
    c.write_cleared.ensures.room

pub only::write_part-returns-in-Leave-clause-room : goal.only::write_part-returns-in-Leave-clause-room
only::write_part-returns-in-Leave-clause-room t c = search (rules, room-nothing)

pub only::write_part-returns-in-Never-clause-room : goal.only::write_part-returns-in-Never-clause-room
only::write_part-returns-in-Never-clause-room t c = search (rules, room-nothing)

pub only::write_part-returns-in-Sync-clause-room : goal.only::write_part-returns-in-Sync-clause-room
only::write_part-returns-in-Sync-clause-room t c =
    let A = seen_asked c.args.asked in
    let body = in_order c.in-Sync.body.value in
    let old = room_of c.args.written.now in
    let new = room_of c.write_held.new.written in
    let held : IsRoom (in_branching (room_behind (only body A)) old) new c.write_held.result = search rules in
    subst (λ o. IsRoom o new c.write_held.result)
    (sym (ap (λ (p : CodePart). room_behind (only_part (part_of p) A) old) c.in-Sync.is
    ∙ room-lock c.in-Sync.kind c.in-Sync.place (only body A) old)) held

-- ---- groups

pub falls::write_groups-write_items-requires : goal.falls::write_groups-write_items-requires
falls::write_groups-write_items-requires t c =
    let groups = c.args.groups.now in
    let start = c.reached-start.result.count in
    let made : map item_of c.as_slice.result.now ≡ fallen (take start groups) =
    ap (map item_of) c.as_slice.ensures.value ∙ c.in_ok-push_groups.ensures
    ∙ ap (λ (xs : List Item). map item_of xs ++ fallen (take start groups)) c.new-items.ensures.items in
    let size : size_of (map item_of c.as_slice.result.now) ≡ size_of (fallen (take start groups)) =
    ap (λ (parts : Parts). size_of parts) made in
    let within : size_of (fallen (take start groups)) ≤ size_of (fallen (take c.args.count groups)) =
    taken-size groups start c.args.count c.reached-start.ensures.within in
    (omega (arith, size, within, c.decreases), tt)

pub falls::write_groups-returns-clause-room : goal.falls::write_groups-returns-clause-room
falls::write_groups-returns-clause-room t c =
    let groups = c.args.groups.now in
    let start = c.reached-start.result in
    let made : map item_of c.as_slice.result.now ≡ fallen (take start.count groups) =
    ap (map item_of) c.as_slice.ensures.value ∙ c.in_ok-push_groups.ensures
    ∙ ap (λ (xs : List Item). map item_of xs ++ fallen (take start.count groups)) c.new-items.ensures.items in
    subst (λ (code : Code). IsRoom (room_behind code (room_of c.args.written.now))
    (room_of c.write_items.new.written) c.write_items.result)
    (ap (λ (parts : Parts). code_in (rest_of parts (seen_asked start.asked))) made ∙ c.reached-start.ensures.code)
    c.write_items.ensures.room

pub falls::write_entered-returns-then-not-branch-clause-room :
    goal.falls::write_entered-returns-then-not-branch-clause-room
falls::write_entered-returns-then-not-branch-clause-room t c =
    let A = seen_asked c.args.asked in
    let groups = in_order (fallen (take c.args.count c.args.groups.now)) in
    let old = room_of c.args.written.now in
    let none : only_part (Choice groups no_part) A ≡ [] = search rules in
    ap (λ (code : Code). room_behind code old) none ∙ room-nothing old

pub falls::write_entered-returns-clause-room : goal.falls::write_entered-returns-clause-room
falls::write_entered-returns-clause-room t c =
    let A = seen_asked c.args.asked in
    let groups = in_order (fallen (take c.args.count c.args.groups.now)) in
    let old = room_of c.args.written.now in
    let both : only_part (Choice groups no_part) A ≡ fork (only groups A) [] = search rules in
    subst (λ o. IsRoom o (room_of c.write_optional.new.written) c.write_optional.result)
    (sym (ap (λ (code : Code). room_behind code old) both ∙ room-fork-left (only groups A) old))
    c.write_optional.ensures.room

-- ---- a body with a `finally`

pub finallys::write_behind-write_forked-requires : goal.finallys::write_behind-write_forked-requires
finallys::write_behind-write_forked-requires t c =
    let after = c.args.after in
    let all = all_branches c.args.exit.0 (seen c.ends.result.now) after in
    let some : length c.in_ok-branches.branches.items ≤ 3 =
    few c.in_ok-branches.branches.items (branch_of after) all c.in_ok-branches.ensures in
    let same : length c.as_slice.result.now ≡ length c.in_ok-branches.branches.items =
    ap (λ (bs : List CodeBranch). length bs) c.as_slice.ensures.value in
    (omega (arith, some, same, c.decreases), tt)

pub finallys::write_behind-returns : goal.finallys::write_behind-returns
finallys::write_behind-returns t c =
    let after = c.args.after in
    let body = in_order c.args.body.now in
    let A = seen_asked after.asked in
    let old = code_of c.args.written.now in
    let same = ap (λ (bs : List CodeBranch). forked (only body) A (map (branch_of after) bs)) c.as_slice.ensures.value
    ∙ behind-code (only body) (only-alike body) c.args.exit.0 (seen c.ends.result.now) (ends body) A
    (rest_behind after AtExit) (rest_behind after Kept) (rest_behind after Turned) c.ends.ensures
    (map (branch_of after) c.in_ok-branches.branches.items) c.in_ok-branches.ensures in
    record {
      code =
          on_ok_weaker c.write_forked.result (λ made. made ∙ ap (λ (code : Code). old ++ code) same)
          c.write_forked.ensures.code;
      room =
          subst (λ (code : Code). IsRoom (room_behind code (room_of c.args.written.now))
          (room_of c.write_forked.new.written) c.write_forked.result) same c.write_forked.ensures.room;
    }

pub finallys::write_tail-write_items-requires : goal.finallys::write_tail-write_items-requires
finallys::write_tail-write_items-requires t c =
    let after = c.args.after in
    let made : map item_of c.as_slice.result.now ≡ parts_behind after c.args.tail =
    ap (map item_of) c.as_slice.ensures.value ∙ c.in_ok-items.ensures in
    let size : size_of (map item_of c.as_slice.result.now) ≡ size_of (parts_behind after c.args.tail) =
    ap (λ (parts : Parts). size_of parts) made in
    let within : size_of (parts_behind after c.args.tail) ≤ after_size after = behind-size after c.args.tail in
    (omega (arith, size, within, c.decreases), tt)

pub finallys::write_tail-returns : goal.finallys::write_tail-returns
finallys::write_tail-returns t c =
    let after = c.args.after in
    let A = seen_asked c.asked_behind.result in
    let old = code_of c.args.written.now in
    let made : map item_of c.as_slice.result.now ≡ parts_behind after c.args.tail =
    ap (map item_of) c.as_slice.ensures.value ∙ c.in_ok-items.ensures in
    let same = ap (λ (parts : Parts). code_in (rest_of parts A)) made
    ∙ tail-code after c.args.tail A c.asked_behind.ensures in
    record {
      code =
          on_ok_weaker c.write_items.result (λ put. put ∙ ap (λ (code : Code). old ++ code) same)
          c.write_items.ensures.code;
      room =
          subst (λ (code : Code). IsRoom (room_behind code (room_of c.args.written.now))
          (room_of c.write_items.new.written) c.write_items.result) same c.write_items.ensures.room;
    }

pub finallys::write_last_branch-returns : goal.finallys::write_last_branch-returns
finallys::write_last_branch-returns t c =
    let after = c.args.after in
    let body = in_order c.args.body.now in
    let A = seen_asked after.asked in
    let old = code_of c.args.written.now in
    let by = seen c.args.branch.now.by in
    let put : SameEnds (seen c.add_thrown.new.self) (by ++ thrown A) =
    subst (λ (X : Ends). SameEnds (seen c.add_thrown.new.self) (X ++ thrown A)) c.in_ok-by.ensures
    c.add_thrown.ensures in
    let same = ap (λ (code : Code). code ++ code_in (rest_behind after c.args.branch.now.tail))
    (only-alike body (seen_asked c.asked.result) (by ++ thrown A)
    (copy-same (seen_asked c.asked.result) (seen c.add_thrown.new.self) (by ++ thrown A) c.asked.ensures put)) in
    record {
      code =
          on_ok_weaker c.write_branch.result (λ made. made ∙ ap (λ (code : Code). old ++ code) same)
          c.write_branch.ensures.code;
      room =
          subst (λ (code : Code). IsRoom (room_behind code (room_of c.args.written.now))
          (room_of c.write_branch.new.written) c.write_branch.result) same c.write_branch.ensures.room;
    }

pub finallys::write_branch-returns-in_err-write-clause-room :
    goal.finallys::write_branch-returns-in_err-write-clause-room
finallys::write_branch-returns-in_err-write-clause-room t c = search (rules, then-stopped)

pub finallys::write_branch-returns-clause-room : goal.finallys::write_branch-returns-clause-room
finallys::write_branch-returns-clause-room t c =
    then-goes (only (in_order c.args.body.now) (seen_asked c.args.by)) (code_in (rest_behind c.args.after c.args.tail))
    (room_of c.args.written.now) (room_of c.write.new.written) (room_of c.write_tail.new.written) c.write_tail.result
    c.in_ok-write.ensures.room c.write_tail.ensures.room

pub finallys::write_forked-returns-clause-room : goal.finallys::write_forked-returns-clause-room
finallys::write_forked-returns-clause-room t c =
    let after = c.args.after in
    let body = in_order c.args.body.now in
    let A = seen_asked after.asked in
    let old = room_of c.args.written.now in
    let b = c.in-Some.branch.now in
    let more = c.in-Some.more.now in
    let all : c.args.branches.now ≡ b ∷ more = search rules in
    let one = only body (seen b.by) ++ code_in (rest_behind after b.tail) in
    let others = forked (only body) A (map (branch_of after) more) in
    subst (λ o. IsRoom o (room_of c.write_branch_or.new.written) c.write_branch_or.result)
    (sym (ap (λ (code : Code). room_behind code old)
    (forked-or (only body) A after b more c.args.branches.now all c.if-is_empty.ensures)
    ∙ room-fork one others old)) c.write_branch_or.ensures.room
