-- A contract of a public call rests on this: what the code says of the parts of a `try`, without places.
use Rattle.std.specs.Prelude.{ℕ, ◌<◌, length, map}
use Rattle.java_tree.specs.KeptPlaces.{Places, kept}
use Rattle.java_parser_parts.specs.declared.try_parts.TryPart as code
use Rattle.java_parser_parts.specs.declared.try_parts.TryPart.TheVariants as part
use Rattle.java_parser_parts.specs.Parts.{Part, Clause, Last, Nothing}
use Rattle.java_parser_types.specs.Tokens.{spelled}

abbrev pub part_of : code.TryPart → Part
part_of (part.Clause rest) = Clause (map spelled rest.now)
part_of (part.Last rest) = Last (map spelled rest.now)
part_of part.Nothing = Nothing

-- the places of the tokens behind its word: these here, where no part stands
abbrev pub places_from : code.TryPart → Places → Places
places_from (part.Clause rest) here = kept rest.now
places_from (part.Last rest) here = kept rest.now
places_from part.Nothing here = here

-- fewer tokens than this stand behind it
abbrev pub PartIsBelow : code.TryPart → ℕ → Type 0
PartIsBelow (part.Clause rest) n = length rest.now < n
PartIsBelow (part.Last rest) n = length rest.now < n
PartIsBelow part.Nothing n = Unit {0}
