use Rattle.container_cells.specs.declared.cell.Containers.TheVariants.{WithCells}
use Rattle.java_resolver.specs.Declarations.{fields_of}
use Rattle.core_code.specs.Program.{core}
use Rattle.racer_sources.specs.Sources.{contents, source_names}
use Rattle.racer_run_laws.proofs.ContentRaces.{meet-at-content, units-named}
use Rattle.racer_run_laws.proofs.laws.contents_race.Goals as goal

pub returns : goal.returns
returns c files p w objects legs r f field name is listed mark there last found named =
    let us = is.units in
    meet-at-content (core p) w objects legs r.path f (fields_of us) name field
    (c.confirmed_warnings_race.ensures p w objects legs r listed mark there) last
    (c.contents_are_of_containers.ensures WithCells (source_names files) us (core p) f field name
    (units-named c.read_units_are_named.ensures (contents files) us is.accepted.read.read) is.lowered found named)
