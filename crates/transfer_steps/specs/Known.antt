-- A contract of a public call rests on this: what is known of the methods that a method calls, as it is handed in.
use Rattle.std.specs.Prelude.{List, [], ◌∷◌, Option, None, Some, option_map, nat_eq, if◌then◌else◌}
use Rattle.std.specs.FinSet as set
use Rattle.std.specs.Arc.{arc_value}
use Rattle.racer_base.specs.declared.ids.MethodId.{MethodId}
use Rattle.access_domain.specs.declared.summary.Summary.{Summary}
use Rattle.access_domain.specs.declared.summary.Outcome.{Outcome}
use Rattle.access_domain.specs.declared.summary.Outcome.TheVariants as code
use Rattle.access_domain.specs.Findings.{Findings, Known, Large, Whole, Table}
use Rattle.transfer_steps.specs.declared.calls.Callee.{Callee}

-- the findings that a summary holds; its wobbly paths are those of its set, in some order
abbrev pub findings_in : Summary → Findings
findings_in s = record { records = s.accesses; wobbly = set.items s.wobbly; result = s.result }

abbrev pub known_in : Outcome → Known
known_in code.Large = Large
known_in (code.Summary s) = Whole (findings_in s)

-- the outcome that is handed in for a method, the first of several
abbrev pub callee_outcome : List Callee → MethodId → Option Outcome
callee_outcome [] m = None
callee_outcome (c ∷ cs) m = if nat_eq c.method.0 m.0 then Some (arc_value c.outcome) else callee_outcome cs m

abbrev pub table_of : List Callee → Table
table_of callees m = option_map known_in (callee_outcome callees m)
