-- A contract of a public call rests on this: the room that code takes.
use Rattle.std.specs.Prelude.{◌≡◌, ℕ, ◌+◌, ◌*◌, ◌-◌, Bool, ◌&&◌, nat_le, nat_lt, Option, Some, None, Result, Ok, Err}
use Rattle.std.specs.Prelude.{if◌then◌else◌, option_and_then, option_map}
use Rattle.racer_base.specs.declared.ids.Place.{Place}
use Rattle.racer_base.specs.declared.ids.VarId.{VarId}
use Rattle.core_code.specs.declared.code.Op.TheVariants.{PushNull, Set, Drop}
use Rattle.core_code.specs.Tree.{in_sequence}
use Rattle.core_lowering_drafts.specs.declared.written.Room.{Room}
use Rattle.core_lowering_drafts.specs.declared.written.Stop.{Stop}
use Rattle.core_lowering_drafts.specs.declared.written.Stop.TheVariants as stop
use Rattle.core_lowering_drafts.specs.declared.ahead.Way.{Way}
use Rattle.core_lowering_drafts.specs.declared.ahead.Way.TheVariants as way
use Rattle.core_lowering_drafts.specs.Drafts.{Ends, Normal, exits, on, without}
use Rattle.core_lowering_drafts.specs.Only.{Code, one}
use Rattle.core_lowering_drafts.specs.Sizes.{size, depth}

-- whether there is room for code
abbrev pub fits : Code → Room → Bool
fits code room =
    nat_le (size (in_sequence code)) room.left && nat_le (depth (in_sequence code)) (room.most - room.within)

-- the room that it leaves
unfoldable pub room_behind : Code → Room → Option Room
room_behind code room =
    if fits code room then Some (record room { left = room.left - size (in_sequence code) }) else None

-- of the code of a method's block that has so many tokens
abbrev pub small_room : ℕ → Room
small_room tokens = record { left = 1024 + 8 * tokens; within = 0; most = 1024 }

-- ---- the same, a step at a time

-- with one operation or branching less
abbrev pub taken_room : Room → Option Room
taken_room room = if nat_le 1 room.left then Some (record room { left = room.left - 1 }) else None

-- in one more branching
abbrev pub entered_room : Room → Option Room
entered_room room =
    option_and_then (λ (taken : Room).
    if nat_lt taken.within taken.most then Some (record taken { within = taken.within + 1 }) else None)
    (taken_room room)

-- in one branching less
abbrev pub left_room : Room → Room
left_room room = record room { within = room.within - 1 }

-- a choice, a loop or a lock round what takes this room
abbrev pub in_branching : (Room → Option Room) → Room → Option Room
in_branching inside room = option_map left_room (option_and_then inside (entered_room room))

-- behind a variable that is null from here on
abbrev pub room_null : Place → VarId → Room → Option Room
room_null place v room =
    option_and_then (λ (r : Room). option_and_then (room_behind (one place Drop)) (room_behind (one place (Set v)) r))
    (room_behind (one place PushNull) room)

-- ---- where choices stay open to the right

-- in so many branchings less
abbrev pub left_rooms : ℕ → Room → Room
left_rooms n room = record room { within = room.within - n }

abbrev pub left_behind : ℕ → Option Room → Option Room
left_behind n room = option_map (left_rooms n) room

-- a part that is written in a way, before what takes this room
abbrev pub done_room : Way → (part : Ends → Room → Option Room) → Ends → (rest : Room → Option Room) → Room →
    Option Room
done_room way.Nothing part asked rest room = Some room
done_room way.Whole part asked rest room = part asked room
done_room way.Leaving part asked rest room = part (without Normal asked) room
done_room way.On part asked rest room = option_and_then rest (part (on asked) room)
done_room way.Exits part asked rest room = part (exits asked) room
done_room way.Both part asked rest room =
    in_branching (λ r. option_and_then (λ s. option_and_then rest (part (on asked) s)) (part (exits asked) r)) room

-- ---- what is told

abbrev pub IsStopped : Option Room → Stop → Type 0
IsStopped room stop.Memory = Unit {0}
IsStopped room stop.TooLarge = room ≡ None

-- whether a call leaves this room, or says exactly where there is none
abbrev pub IsRoom : {T : Type 0} → Option Room → Room → Result T Stop → Type 0
IsRoom room new (Ok x) = room ≡ Some new
IsRoom room new (Err e) = IsStopped room e

-- the same of a call that gives it
abbrev pub GivesRoom : Option Room → Result Room Stop → Type 0
GivesRoom room (Ok given) = room ≡ Some given
GivesRoom room (Err e) = IsStopped room e

-- the room that is left where so many choices were open, and so many are
abbrev pub IsRoomOpen : {T : Type 0} → (before now : ℕ) → Option Room → Room → Result T Stop → Type 0
IsRoomOpen before now room new (Ok x) = Some (left_rooms now new) ≡ left_behind before room
IsRoomOpen before now room new (Err e) = IsStopped room e

-- the same before what goes on or not
abbrev pub IsRoomBefore : (before now : ℕ) → ((Room → Option Room) → Option Room) → Room → Result Bool Stop → Type 0
IsRoomBefore before now done new (Ok goes_on) =
    (rest : Room → Option Room) →
    left_behind now (if goes_on then rest new else Some new) ≡ left_behind before (done rest)
IsRoomBefore before now done new (Err e) = (rest : Room → Option Room) → IsStopped (done rest) e
