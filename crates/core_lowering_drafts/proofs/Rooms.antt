-- The room that code takes, a part at a time.
use Rattle.std.proofs.Common.{◌≡◌, ℕ, ◌+◌, ◌-◌, ◌&&◌, Bool, true, false, max, nat_le, cond, [], ◌∷◌, ◌++◌, Option}
use Rattle.std.proofs.Common.{Some, None, option_and_then, option_map, Result, Ok, Err, refl, ap, ◌∙◌, arith}
use Rattle.std.proofs.lemmas.Bool.Decides.{nat_tests}
use Rattle.racer_base.specs.declared.ids.Place.{Place}
use Rattle.core_code.specs.declared.code.LockKind.{LockKind}
use Rattle.racer_base.specs.declared.ids.VarId.{VarId}
use Rattle.core_code.specs.declared.code.Op.{Op as CoreOp}
use Rattle.core_code.specs.declared.code.Op.TheVariants.{PushNull, Set, Drop}
use Rattle.core_code.specs.Tree.{in_sequence}
use Rattle.core_lowering_drafts.specs.declared.written.Room.{Room}
use Rattle.core_lowering_drafts.specs.Only.{Code, cleared, one, fork, loop_of}
use Rattle.core_lowering_drafts.specs.declared.written.Stop.{Stop}
use Rattle.core_lowering_drafts.specs.declared.written.Stop.TheVariants as stop
use Rattle.core_lowering_drafts.specs.Rooms.{IsRoom, IsStopped, entered_room, in_branching, left_behind, left_room}
use Rattle.core_lowering_drafts.specs.Rooms.{room_behind, room_null, small_room, taken_room}
use Rattle.core_lowering_drafts.specs.Sites.{locked}
use Rattle.core_lowering_drafts.specs.Sizes.{TellsSize, depth, is_small, size}

size-then : (a b : Code) → size (in_sequence (a ++ b)) ≡ size (in_sequence a) + size (in_sequence b)
size-then [] b = omega arith
size-then (t ∷ a) b = omega (arith, size-then a b)

depth-then : (a b : Code) → depth (in_sequence (a ++ b)) ≡ max (depth (in_sequence a)) (depth (in_sequence b))
depth-then [] b = omega arith
depth-then (t ∷ a) b = omega (arith, depth-then a b)

-- so many operations and branchings, so deep
abbrev spent : ℕ → ℕ → Room → Option Room
spent s d room =
    cond (nat_le s room.left && nat_le d (room.most - room.within)) (Some (record room { left = room.left - s })) None

both-sizes : (a b l : ℕ) → nat_le (a + b) l ≡ (nat_le a l && nat_le b (l - a))
both-sizes a b l = grind (arith, nat_tests)

both-depths : (a b l : ℕ) → nat_le (max a b) l ≡ (nat_le a l && nat_le b l)
both-depths a b l = grind (arith, nat_tests)

spent-then : (s d t e : ℕ) (r : Room) → spent (s + t) (max d e) r ≡ option_and_then (spent t e) (spent s d r)
spent-then s d t e r = grind (arith, nat_tests)

spent-one : (r : Room) → spent 1 0 r ≡ taken_room r
spent-one r = grind (arith, nat_tests)

spent-in : (s d : ℕ) (r : Room) → spent (s + 1) (d + 1) r ≡ in_branching (spent s d) r
spent-in s d r = grind (arith, nat_tests)

unchanged : (f g : Room → Option Room) → ((r : Room) → f r ≡ g r) → (o : Option Room) →
    option_and_then f o ≡ option_and_then g o
unchanged f g same None = refl
unchanged f g same (Some r) = same r

-- ---- of code

room-spent : (code : Code) (r : Room) →
    room_behind code r ≡ spent (size (in_sequence code)) (depth (in_sequence code)) r
unfolding room_behind
room-spent code r = refl

pub room-nothing : (r : Room) → room_behind [] r ≡ Some r
unfolding room_behind
room-nothing r = grind (arith, nat_tests)

nothing-more : (o : Option Room) → option_and_then (room_behind []) o ≡ o
nothing-more None = refl
nothing-more (Some r) = room-nothing r

pub room-one : (place : Place) (op : CoreOp) (r : Room) → room_behind (one place op) r ≡ taken_room r
unfolding room_behind
room-one place op r = spent-one r

pub room-then : (a b : Code) (r : Room) → room_behind (a ++ b) r ≡ option_and_then (room_behind b) (room_behind a r)
unfolding room_behind
room-then a b r =
    ap (λ s. spent s (depth (in_sequence (a ++ b))) r) (size-then a b)
    ∙ ap (λ d. spent (size (in_sequence a) + size (in_sequence b)) d r) (depth-then a b)
    ∙ spent-then (size (in_sequence a)) (depth (in_sequence a)) (size (in_sequence b)) (depth (in_sequence b)) r

-- a branching round code of this size
branching : (s d n m : ℕ) (r : Room) → s ≡ n + 1 → d ≡ m + 1 → spent s d r ≡ in_branching (spent n m) r
branching s d n m r large deep = ap (λ k. spent k d r) large ∙ ap (λ k. spent (n + 1) k r) deep ∙ spent-in n m r

pub room-fork : (a b : Code) (r : Room) →
    room_behind (fork a b) r ≡ in_branching (λ s. option_and_then (room_behind b) (room_behind a s)) r
unfolding room_behind
room-fork a b r =
    let A = in_sequence a in
    let B = in_sequence b in
    branching (size (in_sequence (fork a b))) (depth (in_sequence (fork a b))) (size A + size B)
    (max (depth A) (depth B)) r (omega arith) (omega arith)
    ∙ (λ i. in_branching (λ s. spent-then (size A) (depth A) (size B) (depth B) s i) r)

pub room-loop : (body : Code) (r : Room) → room_behind (loop_of body) r ≡ in_branching (room_behind body) r
unfolding room_behind
room-loop body r =
    branching (size (in_sequence (loop_of body))) (depth (in_sequence (loop_of body))) (size (in_sequence body))
    (depth (in_sequence body)) r (omega arith) (omega arith)

pub room-lock : (kind : LockKind) (place : Place) (body : Code) (r : Room) →
    room_behind (locked kind place body) r ≡ in_branching (room_behind body) r
unfolding room_behind
room-lock kind place body r =
    branching (size (in_sequence (locked kind place body))) (depth (in_sequence (locked kind place body)))
    (size (in_sequence body)) (depth (in_sequence body)) r (omega arith) (omega arith)

pub room-fork-left : (a : Code) (r : Room) → room_behind (fork a []) r ≡ in_branching (room_behind a) r
room-fork-left a r =
    room-fork a [] r
    ∙ ap (option_map left_room) (unchanged (λ s. option_and_then (room_behind []) (room_behind a s)) (room_behind a)
    (λ s. nothing-more (room_behind a s)) (entered_room r))

pub room-cleared : (place : Place) (v : VarId) (r : Room) → room_behind (cleared place v) r ≡ room_null place v r
room-cleared place v r =
    room-then (one place PushNull) (one place (Set v) ++ one place Drop) r
    ∙ unchanged (room_behind (one place (Set v) ++ one place Drop))
    (λ s. option_and_then (room_behind (one place Drop)) (room_behind (one place (Set v)) s))
    (λ s. room-then (one place (Set v)) (one place Drop) s) (room_behind (one place PushNull) r)

-- ---- the limit

small-by : (b : Bool) (x y : Room) → cond b (Some x) None ≡ Some y → b ≡ true
small-by true x y e = refl
small-by false x y e = grind (arith, e)

large-by : (b : Bool) (x : Room) → cond b (Some x) None ≡ None → b ≡ false
large-by false x e = refl
large-by true x e = grind (arith, e)

-- a call that tells the room of this limit tells whether code is small
pub tells-size : {T : Type 0} (n : ℕ) (code : Code) (new : Room) (result : Result T Stop) →
    IsRoom (room_behind code (small_room n)) new result → TellsSize (is_small n (in_sequence code)) result
unfolding room_behind
tells-size n code new (Ok x) h = small-by (is_small n (in_sequence code)) _ new h
tells-size n code new (Err stop.TooLarge) h = large-by (is_small n (in_sequence code)) _ h
tells-size n code new (Err stop.Memory) h = tt

-- ---- laws of options

pub stopped-on : (o : Option Room) (f : Room → Option Room) (e : Stop) → IsStopped o e →
    IsStopped (option_and_then f o) e
stopped-on o f stop.Memory h = tt
stopped-on o f stop.TooLarge h = ap (option_and_then f) h

pub left-more : (n : ℕ) (o : Option Room) → left_behind (n + 1) o ≡ left_behind n (option_map left_room o)
left-more n None = refl
left-more n (Some r) =
    let e : r.within - (n + 1) ≡ (r.within - 1) - n = omega arith in
    ap (λ k. Some (record r { within = k })) e

pub left-none : (n : ℕ) (o : Option Room) → left_behind n o ≡ None → o ≡ None
left-none n None e = refl
left-none n (Some r) e = grind (arith, e)
