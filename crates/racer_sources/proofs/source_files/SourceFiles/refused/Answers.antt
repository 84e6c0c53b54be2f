use Rattle.std.proofs.Common.{◌∙◌, List, String, Global, Err, ap, map, string_bytes, subst}
use Rattle.racer_sources.specs.declared.fault.SourceFault.{SourceFault}
use Rattle.racer_sources.specs.Kept.{IsDeclaredOf}
use Rattle.racer_sources.specs.Lines.{refusal_line}
use Rattle.racer_sources.proofs.KeptPrograms.{refused_kept}
use Rattle.racer_sources.proofs.source_files.SourceFiles.refused.Goals as goal

pub returns-in_ok-line-in-Refused : goal.returns-in_ok-line-in-Refused
returns-in_ok-line-in-Refused c = λ files are.
    let refusal = c.in-Refused.refusal in
    refused_kept files c.args.self.now refusal c.from.result
    (subst (λ (f : SourceFault). IsDeclaredOf c.args.self.now (Err f)) c.in-Refused.is c.requires)
    (c.from.ensures ∙ c.in_ok-line-in-Refused.ensures
    ∙ ap (λ (ns : List (String Global)). refusal_line (map string_bytes ns) refusal) c.as_slice.ensures.value)
    are
