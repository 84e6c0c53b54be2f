use Rattle.std.proofs.Common.{◌≡◌, map, ap, subst, ◌∙◌, IfOk, string_bytes}
use Rattle.core_code.specs.Chains.{flag_of}
use Rattle.core_code.specs.Core.{Core, core_of}
use Rattle.java_resolver.specs.Table.{classes, fields, methods}
use Rattle.core_lowering_surveys.specs.Reasons.{with_recursive}
use Rattle.core_lowering_surveys.specs.Surveys.{seen}
use Rattle.core_lowering.proofs.SamePrograms.{program-made}
use Rattle.core_lowering.proofs.programs.program_parts.Goals as goal

pub returns : goal.returns
returns c =
    let declared = c.args.declared in
    let table = declared.table.now in
    subst (λ (core : Core). IfOk c.parts.result (λ parts. core_of parts ≡ core))
    (program-made declared.containers c.args.units.now (classes table) (fields table) declared.cells.now
    (methods table) (map seen c.args.surveyed.now) c.requires.known.classes c.requires.known.fields
    c.requires.known.cells_are c.requires.known.methods c.requires.known.sources
    (map (λ file. string_bytes file) c.args.files.now) (flag_of c.args.recursive.now) c.as_slice.result.now
    (c.as_slice.ensures.value ∙ c.in_ok-statuses.ensures
    ∙ ap (λ reasons. with_recursive (flag_of c.args.recursive.now) 0 reasons) c.requires.known.reasons))
    c.parts.ensures
