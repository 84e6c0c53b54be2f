-- A contract of a public call rests on this: the records of warnings as the code holds them.
use Rattle.race_report_parts.specs.declared.sides.OwnedRecord as held
use Rattle.race_report_sides.specs.declared.sides.Side as side
use Rattle.race_report_sides.specs.declared.sides.Sides as sides
use Rattle.core_code.specs.Core.{method_of}
use Rattle.race_report_parts.specs.Places.{OwnedRecord}
use Rattle.race_report_parts.specs.Told.{Side, Sides}

abbrev pub held_of : held.OwnedRecord → OwnedRecord
held_of h = record { method = h.method; access = h.access.now }

abbrev pub side_told : side.Side → Side
side_told s = record { method = method_of s.method.now; access = s.access.now; places = s.places.items }

abbrev pub sides_told : sides.Sides → Sides
sides_told s = record { first = side_told s.first; partner = side_told s.partner }
