-- A contract of a public call rests on this: what a report tells of methods and of warnings.
use Rattle.std.specs.Prelude.{ℕ, List, [], ◌++◌, Option, None, Some, codes, map, option_map}
use Rattle.racer_base.specs.declared.ids.MethodId.{MethodId}
use Rattle.racer_base.specs.declared.ids.Place.{Place}
use Rattle.core_code.specs.declared.code.Reason.{Reason}
use Rattle.core_code.specs.Calls.{method_at}
use Rattle.core_code.specs.Core.{Core, Method}
use Rattle.access_domain.specs.declared.access.Access.{Access}
use Rattle.access_domain.specs.declared.summary.Outcome.{Outcome}
use Rattle.access_domain.specs.declared.summary.Outcome.TheVariants.{Summary as Whole, Large}
use Rattle.access_domain.specs.Findings.{Findings, Known, Large as TooLarge, Whole as Found}
use Rattle.access_domain.specs.Summaries.{known_of, outcome_of}
use Rattle.race_pairs.specs.declared.warning.Warning.{Warning}
use Rattle.race_report_parts.specs.ByteOrder.{in_byte_order}
use Rattle.race_report_parts.specs.Places.{OwnedRecord, operation_at, owned_record_at, places_of}
use Rattle.race_report_parts.specs.Texts.{record_text, line_text, path_text, reason_text}

-- why a method has no summary; none where it has one
abbrev pub reason_from : Option Reason → Option Outcome → Option (List ℕ)
reason_from (Some reason) outcome = Some (reason_text reason)
reason_from None None = None
reason_from None (Some Large) = Some (codes "large")
reason_from None (Some (Whole summary)) = None

abbrev pub reason_of : Core → ℕ × Method → Option (List ℕ)
reason_of core e = reason_from e.1.status (outcome_of core (record { 0 = e.0 }))

-- what is found of a method that has a summary
abbrev pub found_in : Option Known → Option Findings
found_in None = None
found_in (Some TooLarge) = None
found_in (Some (Found found)) = Some found

abbrev pub found_of : Core → MethodId → Option Findings
found_of core m = found_in (known_of core m)

-- the texts of wobbly paths, in byte order
abbrev pub wobbly_texts : Core → Findings → List (List ℕ)
wobbly_texts core found = in_byte_order (map (path_text core) found.wobbly)

-- ` at LINE:COLUMN`, where there is such a place
abbrev pub site_text : Option Place → List ℕ
site_text None = []
site_text (Some place) = codes " at " ++ line_text place

-- RECORD at LINE:COLUMN, the place of the record's site
abbrev pub access_text : Core → MethodId → Access → List ℕ
access_text core m access =
    record_text core access ++ site_text (option_map (λ o. o.place) (operation_at core m access.site))

-- one of the two records of a warning, with its method and its places from the site down to the access
pub record Side : Type 0 where
  pub method : Method
  pub access : Access
  pub places : List Place

abbrev pub side_from : Core → Option Method → Option OwnedRecord → Option Side
side_from core None held = None
side_from core (Some method) None = None
side_from core (Some method) (Some held) =
    Some (record { method = method; access = held.access; places = places_of core held })

abbrev pub side_of : Core → MethodId → ℕ → Option Side
side_of core m index = side_from core (method_at core m) (owned_record_at core m index)

-- the two records of a warning, that of its entry first
pub record Sides : Type 0 where
  pub first : Side
  pub partner : Side

abbrev pub sides_from : Option Side → Option Side → Option Sides
sides_from None partner = None
sides_from (Some first) None = None
sides_from (Some first) (Some partner) = Some (record { first = first; partner = partner })

abbrev pub sides_of : Core → Warning → Option Sides
sides_of core w = sides_from (side_of core w.entry w.access) (side_of core w.partner w.partner_access)
