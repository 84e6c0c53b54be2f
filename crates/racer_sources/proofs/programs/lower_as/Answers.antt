use Rattle.std.proofs.Common.{map, string_bytes}
use Rattle.racer_sources.proofs.Conditions.{placed, names_known}
use Rattle.racer_sources.proofs.programs.lower_as.Goals as goal

pub lower-requires-clause-named : goal.lower-requires-clause-named
lower-requires-clause-named c =
    names_known c.read_units_are_named.ensures (map string_bytes c.args.names.now) c.args.units.now c.args.table.now
    c.requires

pub lower-requires-clause-placed : goal.lower-requires-clause-placed
lower-requires-clause-placed c =
    placed c.read_units_are_placed.ensures (map string_bytes c.args.names.now) c.args.units.now c.args.table.now
    c.requires

pub lower_cells-requires-clause-named : goal.lower_cells-requires-clause-named
lower_cells-requires-clause-named c =
    names_known c.read_units_are_named.ensures (map string_bytes c.args.names.now) c.args.units.now c.args.table.now
    c.requires

pub lower_cells-requires-clause-placed : goal.lower_cells-requires-clause-placed
lower_cells-requires-clause-placed c =
    placed c.read_units_are_placed.ensures (map string_bytes c.args.names.now) c.args.units.now c.args.table.now
    c.requires
