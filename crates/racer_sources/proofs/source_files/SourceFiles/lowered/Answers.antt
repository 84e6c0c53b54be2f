use Rattle.std.proofs.Common.{List, String, Global, IfOk, map, string_bytes, subst}
use Rattle.container_cells.specs.declared.cell.Containers.TheVariants.{Opaque}
use Rattle.java_tree.specs.declared.unit.Unit as unit
use Rattle.racer_sources.specs.Lowering.{IsLoweredFrom}
use Rattle.racer_sources.proofs.KeptPrograms.{program_kept}
use Rattle.racer_sources.proofs.source_files.SourceFiles.lowered.Goals as goal

pub returns : goal.returns
returns c = λ files are.
    let kept = c.args.self.now in
    let made = c.lowered-lowered.result in
    program_kept files kept c.args.declared.units.items made c.requires.0
    (subst (λ (us : List unit.Unit). IfOk made (IsLoweredFrom Opaque (map string_bytes kept.names.items) us))
    c.as_slice.ensures.value
    (subst (λ (ns : List (String Global)). IfOk made
    (IsLoweredFrom Opaque (map string_bytes ns) c.as_slice.result.now)) c.as_slice-names.ensures.value
    c.lowered-lowered.ensures))
    are
