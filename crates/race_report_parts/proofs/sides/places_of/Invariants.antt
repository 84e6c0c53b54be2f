use Rattle.std.proofs.Common.{◌≡◌, ◌-◌, ◌++◌, length, option_map}
use Rattle.core_code.specs.Program.{core}
use Rattle.race_report_parts.specs.Places as told
use Rattle.race_report_parts.specs.Sides.{held_of}
use Rattle.race_report_parts.proofs.sides.places_of.Given as goal

-- the places so far, and then those of what is left, over the methods that are left
abbrev pub invariant-loop-turn : goal.invariant-loop-turn
invariant-loop-turn l =
    let program = core l.program in
    l.places.items ++ told.places_within program (option_map held_of l.left) (length program.methods - l._turn)
    ≡ told.places_of program (held_of l.held)
