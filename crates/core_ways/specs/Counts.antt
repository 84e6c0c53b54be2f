-- A contract of a public call rests on this: what is counted of parts of a way, and how far calls lead from them.
use Rattle.std.specs.Prelude.{ℕ, suc, ◌+◌, max, List, [], ◌∷◌, slice_get}
use Rattle.std.specs.Option.{option_or}
use Rattle.core_code.specs.Calls.{rank_of}
use Rattle.core_code.specs.Core.{Core}
use Rattle.core_ways.specs.declared.count.Count.{Count}
use Rattle.core_ways.specs.declared.part.WayPart.{WayPart}
use Rattle.core_ways.specs.declared.part.WayPart.TheVariants.{Step, Branched, Passed, Unread}
use Rattle.core_ways.specs.Answers.{counted}
use Rattle.core_ways.specs.Ways.{Trip}

abbrev pub count_of : Trip → Count
count_of trip = record { steps = counted trip.steps; unread = slice_get trip.unread 0 }

abbrev pub added : Count → Count → Count
added a b = record { steps = counted (a.steps + b.steps); unread = option_or a.unread b.unread }

-- greater than the rank of the method that a part passes
abbrev pub part_height : Core → WayPart → ℕ
part_height core Step = 0
part_height core (Branched turn) = 0
part_height core (Passed m) = suc (rank_of core m)
part_height core (Unread place) = 0

abbrev pub height_of : Core → List WayPart → ℕ
height_of core [] = 0
height_of core (part ∷ parts) = max (part_height core part) (height_of core parts)
