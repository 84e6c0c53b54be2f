-- A contract of a public call rests on this: the operations of methods, as the tables of a report keep them.
use Rattle.std.specs.Prelude.{◌≡◌, List, Vec, map}
use Rattle.std.specs.Global.{Global}
use Rattle.core_code.specs.Tree.{Tree, Operation, steps_of}
use Rattle.core_code.specs.Core.{Core, Method}
use Rattle.race_report_parts.specs.declared.tables.Site.{Site}
use Rattle.race_report_parts.specs.Places.{callee_of}

abbrev pub site_of : Operation → Site
site_of o = record { place = o.place; callee = callee_of o.op }

abbrev pub sites_of : Tree → List Site
sites_of code = map site_of (steps_of code)

-- for each method of the program its operations
abbrev pub AreSites : Core → List (Vec Site Global) → Type 0
AreSites core tables =
    map (λ (table : Vec Site Global). table.items) tables ≡ map (λ (m : Method). sites_of m.code) core.methods
