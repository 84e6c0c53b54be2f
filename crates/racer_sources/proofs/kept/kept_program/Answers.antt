use Rattle.std.proofs.Common.{sym, subst}
use Rattle.std.specs.Option.{IfSome}
use Rattle.container_cells.specs.declared.cell.Containers.TheVariants.{Opaque}
use Rattle.racer_base.specs.Outside.{Told}
use Rattle.racer_sources.specs.declared.found.FolderSources.{FolderSources}
use Rattle.racer_sources.specs.Finding.{IsFound, IsKnown}
use Rattle.racer_sources.specs.Programs.{Source, IsSource}
use Rattle.racer_sources.proofs.Conditions.{lowered_there}
use Rattle.racer_sources.proofs.KeptPrograms.{found_kept}
use Rattle.racer_sources.proofs.kept.kept_program.Goals as goal

pub lowered_sources-lowered-requires : goal.lowered_sources-lowered-requires
lowered_sources-lowered-requires g c =
    (subst (λ (f : FolderSources). IsKnown f) c.in-Accepted.is c.in_ok-found.ensures.known).0

pub files_of-files-requires : goal.files_of-files-requires
files_of-files-requires g c =
    (subst (λ (f : FolderSources). IsKnown f) c.in-Accepted.is c.in_ok-found.ensures.known).1

pub returns-in_ok-lowered-in-Accepted-clause-found : goal.returns-in_ok-lowered-in-Accepted-clause-found
returns-in_ok-lowered-in-Accepted-clause-found g c =
    let told = g.F.Folder.told c.args.folder.now in
    subst (λ (s : Source). IfSome told (λ (t : Told). IsSource Opaque t.files s)) (sym c.with_files.ensures.source)
    (lowered_there Opaque told c.in-Accepted.found _
    (subst (λ (f : FolderSources). IfSome told (λ (t : Told). IsFound t.files f)) c.in-Accepted.is
    c.in_ok-found.ensures.found)
    c.in_ok-lowered-in-Accepted.ensures)

pub returns-in_ok-lowered-in-Accepted-clause-kept : goal.returns-in_ok-lowered-in-Accepted-clause-kept
returns-in_ok-lowered-in-Accepted-clause-kept g c =
    let told = g.F.Folder.told c.args.folder.now in
    found_kept told c.in-Accepted.found c.files_of-files.result c.with_files.result
    (subst (λ (f : FolderSources). IfSome told (λ (t : Told). IsFound t.files f)) c.in-Accepted.is
    c.in_ok-found.ensures.found)
    c.files_of-files.ensures.names c.files_of-files.ensures.contents c.with_files.ensures.kept
