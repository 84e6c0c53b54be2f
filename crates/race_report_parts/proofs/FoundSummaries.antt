-- The summary of an outcome is that of what is found.
use Rattle.std.proofs.Common.{◌≡◌, Option, None, Some, option_map, refl}
use Rattle.access_domain.specs.Findings.{Known, Large, Whole, outcome_from, summary_from}
use Rattle.access_domain.specs.Outcomes.{summary_in}
use Rattle.race_report_parts.specs.Told.{found_in}

pub held-found : (o : Option Known) → summary_in (option_map outcome_from o) ≡ option_map summary_from (found_in o)
held-found None = refl
held-found (Some Large) = refl
held-found (Some (Whole found)) = refl
