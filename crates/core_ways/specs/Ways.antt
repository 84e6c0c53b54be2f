-- A contract of a public call rests on this: the way of a record, from the entry of its method to just before the
-- access. These fixed ways are this project's own.
use Rattle.std.specs.Prelude.{ℕ, suc, ◌+◌, Bool, ◌&&◌, ◌||◌, not, List, [], ◌∷◌, ◌++◌, Option, None, Some, is_some}
use Rattle.std.specs.Prelude.{is_none, replicate}
use Rattle.std.specs.Option.{option_and_then}
use Rattle.std.specs.Prelude.{if◌then◌else◌}
use Rattle.racer_base.specs.declared.ids.MethodId.{MethodId}
use Rattle.racer_base.specs.declared.ids.Place.{Place}
use Rattle.racer_base.specs.declared.ids.SiteId.{SiteId}
use Rattle.core_code.specs.declared.code.Op.{Op as CoreOp}
use Rattle.core_code.specs.declared.code.Op.TheVariants.{Call, Unread as UnreadCall, Ret}
use Rattle.core_code.specs.Tree.{Tree, Op, Skip, Seq, Choice, Loop, Sync, can_end, can_return, op_at}
use Rattle.core_code.specs.Core.{Core, Method}
use Rattle.core_code.specs.Calls.{method_at, closed_by_rank}
use Rattle.access_domain.specs.declared.access.Access.{Access}
use Rattle.access_domain.specs.OutcomeRecords.{record_at}
use Rattle.core_semantics.specs.declared.answer.Turn.{Turn}
use Rattle.core_semantics.specs.declared.answer.Turn.TheVariants.{Left, Right}
use Rattle.core_ways.specs.declared.part.WayPart.{WayPart}
use Rattle.core_ways.specs.declared.part.WayPart.TheVariants.{Step, Branched, Passed, Unread}

-- Passing code, where the frame is within so many locks: a loop takes right at once; a choice takes right where its
-- right side can end, else left; what stands behind code that cannot end is not done. A return unlocks first.

abbrev pub passed_op : ℕ → Place → CoreOp → List WayPart
passed_op locks place Ret = replicate (suc locks) Step
passed_op locks place (Call m n) = Passed m ∷ []
passed_op locks place (UnreadCall m n) = Unread place ∷ []
passed_op locks place _ = Step ∷ []

abbrev pub passed : ℕ → Tree → List WayPart
passed locks (Op site place op) = passed_op locks place op
passed locks Skip = []
passed locks (Seq first rest) = passed locks first ++ (if can_end first then passed locks rest else [])
passed locks (Choice left right) =
    if can_end right then Branched Right ∷ passed locks right else Branched Left ∷ passed locks left
passed locks (Loop body) = Branched Right ∷ []
passed locks (Sync lock body) =
    Step ∷ passed (suc locks) body ++ (if can_end body then Step ∷ [] else [])

-- Coming to a return of a method, from the beginning of its code: in a sequence the last part that can return behind
-- parts that can end; a choice takes left where its left side can return, else right; a loop round the return is gone
-- into once. What stands before the return is passed.

-- whether the first of two parts is passed
abbrev pub goes_past : Tree → Tree → Bool
goes_past first rest = can_end first && (can_return rest || not (can_return first))

abbrev pub to_return : ℕ → Tree → List WayPart
to_return locks (Op site place op) = passed_op locks place op
to_return locks Skip = []
to_return locks (Seq first rest) =
    if goes_past first rest then passed locks first ++ to_return locks rest else to_return locks first
to_return locks (Choice left right) =
    if can_return left then Branched Left ∷ to_return locks left else Branched Right ∷ to_return locks right
to_return locks (Loop body) = Branched Left ∷ to_return locks body
to_return locks (Sync lock body) = Step ∷ to_return (suc locks) body

-- Going towards a site: each choice and each loop round it is taken towards it, a loop once. What stands before it is
-- passed.

abbrev pub has_site : Tree → SiteId → Bool
has_site code site = is_some (op_at code site)

abbrev pub reached : ℕ → SiteId → Tree → List WayPart
reached locks site (Op at place op) = []
reached locks site Skip = []
reached locks site (Seq first rest) =
    if has_site first site then reached locks site first else passed locks first ++ reached locks site rest
reached locks site (Choice left right) =
    if has_site left site then Branched Left ∷ reached locks site left else Branched Right ∷ reached locks site right
reached locks site (Loop body) = Branched Left ∷ reached locks site body
reached locks site (Sync lock body) = Step ∷ reached (suc locks) site body

-- The turns of a way, how many steps it has, and the places of the calls on it that are not read.
pub record Trip : Type 0 where
  pub turns : List Turn
  pub steps : ℕ
  pub unread : List Place

-- so many steps without a turn
abbrev pub straight : ℕ → Trip
straight n = record { turns = []; steps = n; unread = [] }

abbrev pub joined : Trip → Trip → Trip
joined a b = record { turns = a.turns ++ b.turns; steps = a.steps + b.steps; unread = a.unread ++ b.unread }

-- what a part makes up, where this is what passing each method makes up
abbrev pub trip_of_part : (MethodId → Trip) → WayPart → Trip
trip_of_part trips Step = straight 1
trip_of_part trips (Branched turn) = record { turns = turn ∷ []; steps = 1; unread = [] }
trip_of_part trips (Passed m) = joined (straight 1) (trips m)
trip_of_part trips (Unread place) = record { turns = []; steps = 1; unread = place ∷ [] }

abbrev pub trip_along : (MethodId → Trip) → List WayPart → Trip
trip_along trips [] = straight 0
trip_along trips (part ∷ parts) = joined (trip_of_part trips part) (trip_along trips parts)

-- Passing a method, from its entry to a return, which is counted once a method.

-- the code of a method, where it is analysed
abbrev pub code_at : Core → MethodId → Option Tree
code_at core m =
    option_and_then (λ (method : Method). if is_none method.status then Some method.code else None) (method_at core m)

abbrev pub parts_of : Core → MethodId → List WayPart
parts_of core m = elim (code_at core m) [ None ↦ [] | Some code ↦ to_return 0 code ]

abbrev pub trip_given : Core → (MethodId → Trip) → MethodId → Trip
trip_given core trips m = trip_along trips (parts_of core m)

abbrev pub trip_of : Core → MethodId → Trip
trip_of core = closed_by_rank (straight 0) (trip_given core) core

-- The way to a record of a method, by the record's index. Where its site is a call, the callee is entered towards the
-- callee's record.

abbrev pub entered_op : (MethodId → ℕ → List WayPart) → ℕ → CoreOp → List WayPart
entered_op ways j (Call m n) = Step ∷ ways m j
entered_op ways j _ = []

abbrev pub entered : (MethodId → ℕ → List WayPart) → Option ℕ → CoreOp → List WayPart
entered ways None op = []
entered ways (Some j) op = entered_op ways j op

-- to the operation at the site of a record, and from there on
abbrev pub towards : (MethodId → ℕ → List WayPart) → Tree → Access → List WayPart
towards ways code r =
    elim (op_at code r.site) [ None ↦ [] | Some o ↦ reached 0 r.site code ++ entered ways r.below o.op ]

abbrev pub towards_record : (MethodId → ℕ → List WayPart) → Option Access → Tree → List WayPart
towards_record ways None code = []
towards_record ways (Some r) code = towards ways code r

abbrev pub way_given : Core → (MethodId → ℕ → List WayPart) → MethodId → ℕ → List WayPart
way_given core ways m i =
    elim (code_at core m) [ None ↦ [] | Some code ↦ towards_record ways (record_at core m i) code ]

abbrev pub way_parts : Core → MethodId → ℕ → List WayPart
way_parts core = closed_by_rank (λ i. []) (way_given core) core

abbrev pub way_of : Core → MethodId → ℕ → Trip
way_of core m i = trip_along (trip_of core) (way_parts core m i)
