use Rattle.std.proofs.Common.{subst}
use Rattle.std.specs.Option.{IfSome}
use Rattle.racer_base.specs.Outside.{Told}
use Rattle.racer_sources.specs.declared.found.FolderSources.{FolderSources}
use Rattle.racer_sources.specs.Finding.{IsFound, IsKnown}
use Rattle.racer_sources.proofs.Conditions.{lowered_there}
use Rattle.racer_sources.proofs.programs.folder_program.Goals as goal

pub returns-in_ok-lowered-in-Accepted-clause-found : goal.returns-in_ok-lowered-in-Accepted-clause-found
returns-in_ok-lowered-in-Accepted-clause-found g c =
    let told = g.F.Folder.told c.args.folder.now in
    lowered_there c.args.containers told c.in-Accepted.found _
    (subst (λ (f : FolderSources). IfSome told (λ (t : Told). IsFound t.files f)) c.in-Accepted.is
    c.in_ok-found.ensures.found)
    c.in_ok-lowered-in-Accepted.ensures

pub lowered_sources-lowered-requires : goal.lowered_sources-lowered-requires
lowered_sources-lowered-requires g c =
    (subst (λ (f : FolderSources). IsKnown f) c.in-Accepted.is c.in_ok-found.ensures.known).0
