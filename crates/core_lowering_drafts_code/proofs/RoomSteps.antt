-- The room that a draft takes, step by step.
use Rattle.std.proofs.Common.{◌≡◌, ℕ, ◌+◌, Bool, false, ◌==◌, true≢false, List, [], ◌∷◌, ◌++◌, length, map, cond}
use Rattle.std.proofs.Common.{Option, Some, None, Result}
use Rattle.std.proofs.Common.{option_and_then, option_map, sym, ap, subst, refl, ◌∙◌}
use Rattle.std.proofs.Common.{suc, ◌<◌, drop, get_or, arith}
use Rattle.std.specs.List.{flat_map}
use Rattle.std.proofs.Math.Seq.{drop-cons}
use Rattle.racer_base.specs.declared.ids.Place.{Place}
use Rattle.racer_base.specs.declared.ids.VarId.{VarId}
use Rattle.core_lowering_drafts.specs.declared.ahead.Behind.{Behind}
use Rattle.core_lowering_drafts.specs.declared.ahead.Item.{Item}
use Rattle.core_lowering_drafts.specs.declared.ahead.Way.{Way}
use Rattle.core_lowering_drafts.specs.declared.ahead.Way.TheVariants as way
use Rattle.core_lowering_drafts.specs.declared.behind.After.{After}
use Rattle.core_lowering_drafts.specs.declared.behind.Branch.{Branch as CodeBranch}
use Rattle.core_lowering_drafts.specs.declared.written.Room.{Room}
use Rattle.core_lowering_drafts.specs.declared.written.Stop.{Stop}
use Rattle.core_lowering_drafts.specs.declared.written.Stop.TheVariants as stop
use Rattle.core_lowering_drafts.specs.Ahead.{item_of, done_by, rest_of, shape, way_by}
use Rattle.core_lowering_drafts.specs.Branches.{branch_of, rest_behind}
use Rattle.core_lowering_drafts.specs.Drafts.{Ends, exits, on, part_ends}
use Rattle.core_lowering_drafts.specs.EndSets.{seen}
use Rattle.core_lowering_drafts.specs.Only.{Code, cleared, code_in, fork, forked, only_part}
use Rattle.core_lowering_drafts.specs.Rooms.{IsRoom, IsStopped, done_room, entered_room, in_branching, left_behind}
use Rattle.core_lowering_drafts.specs.Rooms.{left_room, room_behind, room_null}
use Rattle.core_lowering_drafts.proofs.Marks.{way-right}
use Rattle.core_lowering_drafts.proofs.Rooms.{left-none, room-cleared, room-fork, room-nothing, room-then, stopped-on}

-- ---- one code behind another

pub then-stopped : (a b : Code) (r : Room) (e : Stop) → IsStopped (room_behind a r) e →
    IsStopped (room_behind (a ++ b) r) e
then-stopped a b r e h =
    subst (λ o. IsStopped o e) (sym (room-then a b r)) (stopped-on (room_behind a r) (room_behind b) e h)

pub then-goes : {T : Type 0} (a b : Code) (r s new : Room) (result : Result T Stop) → room_behind a r ≡ Some s →
    IsRoom (room_behind b s) new result → IsRoom (room_behind (a ++ b) r) new result
then-goes a b r s new result first h =
    subst (λ o. IsRoom o new result) (sym (room-then a b r ∙ ap (option_and_then (room_behind b)) first)) h

-- ---- variables that are null from here on

pub clear-one : (place : Place) (vs : List VarId) (i : ℕ) (d : VarId) → i < length vs →
    flat_map (cleared place) (drop i vs)
    ≡ cleared place (get_or vs i d) ++ flat_map (cleared place) (drop (i + 1) vs)
clear-one place vs i d there =
    let next : suc i ≡ i + 1 = omega arith in
    ap (λ (xs : List VarId). flat_map (cleared place) xs) (drop-cons vs i d there)
    ∙ ap (λ n. cleared place (get_or vs i d) ++ flat_map (cleared place) (drop n vs)) next

pub cleared-goes : (place : Place) (vs : List VarId) (i : ℕ) (d : VarId) (r s : Room) → i < length vs →
    room_null place (get_or vs i d) r ≡ Some s →
    room_behind (flat_map (cleared place) (drop (i + 1) vs)) s ≡ room_behind (flat_map (cleared place) (drop i vs)) r
cleared-goes place vs i d r s there h =
    let v = get_or vs i d in
    let rest = flat_map (cleared place) (drop (i + 1) vs) in
    sym (ap (λ (code : Code). room_behind code r) (clear-one place vs i d there) ∙ room-then (cleared place v) rest r
    ∙ ap (option_and_then (room_behind rest)) (room-cleared place v r ∙ h))

pub cleared-stopped : (place : Place) (vs : List VarId) (i : ℕ) (d : VarId) (r : Room) (e : Stop) → i < length vs →
    IsStopped (room_null place (get_or vs i d) r) e → IsStopped (room_behind (flat_map (cleared place) (drop i vs)) r) e
cleared-stopped place vs i d r e there h =
    let v = get_or vs i d in
    subst (λ (code : Code). IsStopped (room_behind code r) e) (sym (clear-one place vs i d there))
    (then-stopped (cleared place v) (flat_map (cleared place) (drop (i + 1) vs)) r e
    (subst (λ o. IsStopped o e) (sym (room-cleared place v r)) h))

-- ---- ways

pub room-done : (w : Way) (part : Ends → Code) (A : Ends) (rest : Code) (r : Room) →
    room_behind (done_by w part A rest) r ≡ done_room w (λ ends. room_behind (part ends)) A (room_behind rest) r
room-done way.Nothing part A rest r = room-nothing r
room-done way.Whole part A rest r = refl
room-done way.Leaving part A rest r = refl
room-done way.On part A rest r = room-then (part (on A)) rest r
room-done way.Exits part A rest r = refl
room-done way.Both part A rest r =
    room-fork (part (exits A)) (part (on A) ++ rest) r
    ∙ (λ i. in_branching (λ s. option_and_then (λ t. room-then (part (on A)) rest t i) (room_behind (part (exits A)) s))
    r)

stopped-map : (o : Option Room) (e : Stop) → IsStopped o e → IsStopped (option_map left_room o) e
stopped-map o stop.Memory h = tt
stopped-map o stop.TooLarge h = ap (option_map left_room) h

joined : (f g : Room → Option Room) (o : Option Room) →
    option_and_then (λ r. option_and_then g (f r)) o ≡ option_and_then g (option_and_then f o)
joined f g None = refl
joined f g (Some r) = refl

-- what stops on the left of a choice that stays open
pub aside-stopped : (f g : Room → Option Room) (r : Room) (e : Stop) →
    IsStopped (option_and_then f (entered_room r)) e → IsStopped (in_branching (λ s. option_and_then g (f s)) r) e
aside-stopped f g r e h =
    stopped-map (option_and_then (λ s. option_and_then g (f s)) (entered_room r)) e
    (subst (λ o. IsStopped o e) (sym (joined f g (entered_room r)))
    (stopped-on (option_and_then f (entered_room r)) g e h))

-- the left of a choice that stays open, and what goes on
pub aside-goes : (f g : Room → Option Room) (r s : Room) → option_and_then f (entered_room r) ≡ Some s →
    in_branching (λ t. option_and_then g (f t)) r ≡ option_map left_room (g s)
aside-goes f g r s h = ap (option_map left_room) (joined f g (entered_room r) ∙ ap (option_and_then g) h)

-- ---- items

abbrev pub TakesRoom : ℕ → Room → Item → Behind → Ends → Bool → ℕ → Room → Type 0
TakesRoom n r x b A goes m s =
    (rest : Room → Option Room) → left_behind m (cond goes (rest s) (Some s))
    ≡ left_behind n (done_room (way_by (part_ends (item_of x)) b A) (λ ends. room_behind (only_part (item_of x) ends)) A
    rest r)

-- one item of all, by what stands behind it
step-room : (r : Room) (x : Item) (items all : List Item) (b : Behind) (A : Ends) → all ≡ x ∷ items →
    b ≡ shape (rest_of (map item_of items) A) →
    done_room (way_by (part_ends (item_of x)) b A) (λ ends. room_behind (only_part (item_of x) ends)) A
    (room_behind (code_in (rest_of (map item_of items) A))) r
    ≡ room_behind (code_in (rest_of (map item_of all) A)) r
step-room r x items all b A is behind =
    let rest = code_in (rest_of (map item_of items) A) in
    let E = part_ends (item_of x) in
    sym (room-done (way_by E b A) (only_part (item_of x)) A rest r)
    ∙ ap (λ c. room_behind (done_by (way_by E c A) (only_part (item_of x)) A rest) r) behind
    ∙ ap (λ code. room_behind code r) (sym (way-right (item_of x) (map item_of items) A))
    ∙ ap (λ (xs : List Item). room_behind (code_in (rest_of (map item_of xs) A)) r) (sym is)

pub open-room : (n m : ℕ) (r s : Room) (T : Option Room) (x : Item) (items all : List Item) (b : Behind) (A : Ends)
    (goes : Bool) → TakesRoom n r x b A goes m s → all ≡ x ∷ items → b ≡ shape (rest_of (map item_of items) A) →
    left_behind n (room_behind (code_in (rest_of (map item_of all) A)) r) ≡ T →
    left_behind m (cond goes (room_behind (code_in (rest_of (map item_of items) A)) s) (Some s)) ≡ T
open-room n m r s T x items all b A goes takes is behind so_far =
    takes (room_behind (code_in (rest_of (map item_of items) A)))
    ∙ ap (left_behind n) (step-room r x items all b A is behind) ∙ so_far

still-stopped : (o p : Option Room) (n m : ℕ) (e : Stop) → left_behind n o ≡ left_behind m p → IsStopped o e →
    IsStopped p e
still-stopped o p n m stop.Memory is h = tt
still-stopped o p n m stop.TooLarge is h = left-none m p (sym is ∙ ap (left_behind n) h)

pub open-stopped : (n m : ℕ) (r : Room) (T : Option Room) (x : Item) (items all : List Item) (b : Behind) (A : Ends)
    (e : Stop) → ((rest : Room → Option Room) → IsStopped
    (done_room (way_by (part_ends (item_of x)) b A) (λ ends. room_behind (only_part (item_of x) ends)) A rest r) e) →
    all ≡ x ∷ items → b ≡ shape (rest_of (map item_of items) A) →
    left_behind n (room_behind (code_in (rest_of (map item_of all) A)) r) ≡ left_behind m T → IsStopped T e
open-stopped n m r T x items all b A e stops is behind so_far =
    let rest = room_behind (code_in (rest_of (map item_of items) A)) in
    still-stopped (room_behind (code_in (rest_of (map item_of all) A)) r) T n m e so_far
    (subst (λ o. IsStopped o e) (step-room r x items all b A is behind) (stops rest))

-- ---- branches

-- the first, or one of the others
pub forked-or : (f : Ends → Code) (A : Ends) (after : After) (b : CodeBranch) (more all : List CodeBranch) →
    all ≡ b ∷ more → false ≡ (length more == 0) → forked f A (map (branch_of after) all)
    ≡ fork (f (seen b.by) ++ code_in (rest_behind after b.tail)) (forked f A (map (branch_of after) more))
forked-or f A after b [] all is some = absurd (true≢false (sym some))
forked-or f A after b (c ∷ more) all is some =
    ap (λ (bs : List CodeBranch). forked f A (map (branch_of after) bs)) is
