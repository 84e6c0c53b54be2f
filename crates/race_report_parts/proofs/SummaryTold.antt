-- What is told of a summary is told of what is found of its method.
use Rattle.std.proofs.Common.{◌≡◌, ℕ, List, Option, None, Some, IfSome, option_map}
use Rattle.std.proofs.Common.{sym, ap, ◌∙◌}
use Rattle.core_code.specs.Core.{Core, Method}
use Rattle.access_domain.specs.declared.summary.Summary.{Summary}
use Rattle.access_domain.specs.Findings.{Findings, summary_from}
use Rattle.race_report_parts.specs.Told.{wobbly_texts}
use Rattle.race_report_parts.specs.Report.{summary_text, found_lines}

-- the lines of a summary are those of what is found
pub lines_told : (core : Core) (e : ℕ × Method) (found : Option Findings) (summary : Summary)
    (wobbly : List (List ℕ)) → option_map summary_from found ≡ Some summary →
    IfSome found (λ f. wobbly ≡ wobbly_texts core f) →
    summary_text core e summary.accesses wobbly summary.result ≡ found_lines core e found
lines_told core e None summary wobbly held are = cc
lines_told core e (Some f) summary wobbly held are =
    let same : summary_from f ≡ summary = cc in
    ap (λ (s : Summary). summary_text core e s.accesses wobbly s.result) (sym same)
    ∙ ap (λ (w : List (List ℕ)). summary_text core e f.records w f.result) are
