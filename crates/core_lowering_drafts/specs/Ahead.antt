-- A contract of a public call rests on this: what is looked at ahead before the code of a part is written.
use Rattle.std.specs.Prelude.{List, [], ◌∷◌, ◌++◌, take, drop, if◌then◌else◌}
use Rattle.core_lowering_drafts.specs.declared.ahead.Behind.{Behind}
use Rattle.core_lowering_drafts.specs.declared.ahead.Behind.TheVariants as behind
use Rattle.core_lowering_drafts.specs.declared.ahead.Way.{Way}
use Rattle.core_lowering_drafts.specs.declared.ahead.Way.TheVariants as way
use Rattle.core_lowering_drafts.specs.declared.ahead.Item.{Item}
use Rattle.core_lowering_drafts.specs.declared.ahead.Item.TheVariants as item
use Rattle.core_lowering_drafts.specs.declared.ahead.Fork.{Fork}
use Rattle.core_lowering_drafts.specs.Drafts.{Draft, Ends, Normal, Part, Choice, Loop, no_part}
use Rattle.core_lowering_drafts.specs.Drafts.{meets, in_order, do_meet, exits, on, without}
use Rattle.core_lowering_drafts.specs.Groups.{fallen}
use Rattle.core_lowering_drafts.specs.Only.{Code, Rest, Last, Unmet, Met, are_met, fork, onto, rounds}
use Rattle.core_lowering_drafts.specs.Pieces.{part_of}

abbrev pub item_of : Item → Part
item_of (item.Part part) = part_of part.now
item_of (item.LoopOf body) = Loop (in_order body.now)
item_of (item.Entered groups count) = Choice (in_order (fallen (take count groups.now))) no_part

abbrev pub rest_of : List Part → Ends → Rest
rest_of parts asked = onto (in_order parts) asked Last

-- ---- what stands behind, without its code

abbrev pub shape : Rest → Behind
shape Last = behind.Last
shape Unmet = behind.Unmet
shape (Met code) = behind.Met

abbrev pub some_rest : Behind → Rest
some_rest behind.Last = Last
some_rest behind.Unmet = Unmet
some_rest behind.Met = Met []

-- a part before what stands behind
abbrev pub shape_before : Ends → Behind → Ends → Behind
shape_before ends next asked = if are_met ends (some_rest next) asked then behind.Met else behind.Unmet

-- behind each part, the last one first
abbrev pub shapes : List Part → Ends → List Behind
shapes [] asked = []
shapes (part ∷ parts) asked = shapes parts asked ++ shape (rest_of parts asked) ∷ []

-- ---- which code of a part is written

abbrev pub way_on : Ends → Ends → Way
way_on ends asked =
    if do_meet ends (exits asked) then (if do_meet ends (on asked) then way.Both else way.Exits) else way.On

abbrev pub way_met : Ends → Behind → Ends → Way
way_met ends behind.Last asked = way.Whole
way_met ends behind.Unmet asked = way.Leaving
way_met ends behind.Met asked = way_on ends asked

abbrev pub way_by : Ends → Behind → Ends → Way
way_by ends next asked = if are_met ends (some_rest next) asked then way_met ends next asked else way.Nothing

-- ---- choices that are open to the right

-- a choice between the parts from one on, and all from another on
abbrev pub closed_one : Fork → Code → Code
closed_one mark code =
    take mark.left (take mark.right code) ++ fork (drop mark.left (take mark.right code)) (drop mark.right code)

abbrev pub closed : List Fork → Code → Code
closed [] code = code
closed (mark ∷ marks) code = closed_one mark (closed marks code)

-- the code of a part that is written in a way, with what stands behind
abbrev pub done_by : Way → (part : Ends → Code) → Ends → (rest : Code) → Code
done_by way.Nothing part asked rest = []
done_by way.Whole part asked rest = part asked
done_by way.Leaving part asked rest = part (without Normal asked)
done_by way.On part asked rest = part (on asked) ++ rest
done_by way.Exits part asked rest = part (exits asked)
done_by way.Both part asked rest = fork (part (exits asked)) (part (on asked) ++ rest)

-- rounds, and then nothing, or one more that leaves for an exit
abbrev pub passed : Draft → (body : Ends → Code) → Ends → Code
passed draft body asked =
    rounds draft body (on asked) ++ (if meets draft (exits asked) then fork (body (exits asked)) [] else [])
