-- A contract of a public call rests on this: what a first token begins, without places.
use Rattle.std.specs.Prelude.{ℕ, ◌<◌, length, map}
use Rattle.java_tree.specs.KeptPlaces.{Places, kept}
use Rattle.java_parser_lookahead.specs.declared.leads.Lead as leads
use Rattle.java_parser_lookahead.specs.declared.leads.Lead.TheVariants as lead
use Rattle.java_parser_grammar.specs.Leads.{Lead, Assigns, Asks, Joins, Tests, Steps, Selects, Indexes, Opens, Ends}
use Rattle.java_parser_grammar.specs.Leads.{Refers, Binds}
use Rattle.java_parser_types.specs.Tokens.{spelled}

abbrev pub lead_of : leads.Lead → Lead
lead_of (lead.Assigns op rest) = Assigns op.now (map spelled rest.now)
lead_of (lead.Asks rest) = Asks (map spelled rest.now)
lead_of (lead.Joins op rest) = Joins op.now (map spelled rest.now)
lead_of (lead.Tests rest) = Tests (map spelled rest.now)
lead_of (lead.Steps op rest) = Steps op.now (map spelled rest.now)
lead_of (lead.Selects rest) = Selects (map spelled rest.now)
lead_of (lead.Indexes rest) = Indexes (map spelled rest.now)
lead_of (lead.Refers rest) = Refers (map spelled rest.now)
lead_of lead.Opens = Opens
lead_of lead.Binds = Binds
lead_of lead.Ends = Ends

-- the places of the tokens behind it: these here, where it takes none
abbrev pub places_behind : leads.Lead → Places → Places
places_behind (lead.Assigns op rest) here = kept rest.now
places_behind (lead.Asks rest) here = kept rest.now
places_behind (lead.Joins op rest) here = kept rest.now
places_behind (lead.Tests rest) here = kept rest.now
places_behind (lead.Steps op rest) here = kept rest.now
places_behind (lead.Selects rest) here = kept rest.now
places_behind (lead.Indexes rest) here = kept rest.now
places_behind (lead.Refers rest) here = kept rest.now
places_behind lead.Opens here = here
places_behind lead.Binds here = here
places_behind lead.Ends here = here

-- fewer tokens than this stand behind it
abbrev pub IsBelow : leads.Lead → ℕ → Type 0
IsBelow (lead.Assigns op rest) n = length rest.now < n
IsBelow (lead.Asks rest) n = length rest.now < n
IsBelow (lead.Joins op rest) n = length rest.now < n
IsBelow (lead.Tests rest) n = length rest.now < n
IsBelow (lead.Steps op rest) n = length rest.now < n
IsBelow (lead.Selects rest) n = length rest.now < n
IsBelow (lead.Indexes rest) n = length rest.now < n
IsBelow (lead.Refers rest) n = length rest.now < n
IsBelow lead.Opens n = Unit {0}
IsBelow lead.Binds n = Unit {0}
IsBelow lead.Ends n = Unit {0}
