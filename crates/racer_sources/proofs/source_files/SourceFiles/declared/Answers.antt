use Rattle.racer_sources.proofs.Declared.{declared_of, unread_of}
use Rattle.racer_sources.proofs.source_files.SourceFiles.declared.Goals as goal

pub returns-in-Ok : goal.returns-in-Ok
returns-in-Ok c =
    declared_of c.args.self.now c.with_table.result c.in-Ok.units.items c.in-Ok.ensures.read c.in-Ok.ensures.any
    c.in-Ok.ensures.counted c.with_table.ensures.ok c.with_table.ensures.fault

pub returns-in-Err : goal.returns-in-Err
returns-in-Err c = unread_of c.args.self.now c.in-Err.fault c.in-Err.ensures.refused c.in-Err.ensures.never
