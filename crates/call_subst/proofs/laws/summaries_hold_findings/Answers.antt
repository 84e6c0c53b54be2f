use Rattle.std.proofs.Common.{◌≡◌}
use Rattle.std.specs.FinSet as set
use Rattle.access_domain.specs.declared.summary.Summary.{Summary}
use Rattle.access_domain.specs.Findings.{Findings, summary_from}
use Rattle.call_subst.proofs.SameSets.{from_list-items}
use Rattle.call_subst.proofs.laws.summaries_hold_findings.Goals as goal

abbrev found_in : Summary → Findings
found_in s = record { records = s.accesses; wobbly = set.items s.wobbly; result = s.result }

held : (s : Summary) → summary_from (found_in s) ≡ s
held s = λ i. record { accesses = s.accesses; wobbly = from_list-items s.wobbly i; result = s.result }

pub returns : goal.returns
returns c = λ summary. (found_in summary, held summary)
