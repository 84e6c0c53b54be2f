use Rattle.race_report_parts.proofs.OnlyPlaces.{only-places}
use Rattle.race_report_parts.proofs.PlacesReach.{places-reach}
use Rattle.race_report_parts.proofs.laws.places_reach_their_access.Goals as goal

pub returns-clause-reach : goal.returns-clause-reach
returns-clause-reach c = places-reach

pub returns-clause-only : goal.returns-clause-only
returns-clause-only c = only-places
