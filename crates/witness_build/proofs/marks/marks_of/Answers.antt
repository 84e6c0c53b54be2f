use Rattle.core_code.specs.Program.{core}
use Rattle.witness_build.proofs.ReplayedRuns.{marked-race, marked-right}
use Rattle.witness_build.proofs.TypedMarks.{marked-never-blocked}
use Rattle.witness_build.proofs.marks.marks_of.Goals as goal

pub marks_from-marks-requires-clause-known : goal.marks_from-marks-requires-clause-known
marks_from-marks-requires-clause-known c = c.new-known.ensures (core c.args.program.now)

pub marks_from-marks-requires-clause-walks : goal.marks_from-marks-requires-clause-walks
marks_from-marks-requires-clause-walks c = c.new-walks.ensures (core c.args.program.now)

pub returns-clause-objects : goal.returns-clause-objects
returns-clause-objects c =
    marked-right c.args.program.now c.args.found.now c.marks_from-marks.result c.marks_from-marks.ensures

pub returns-clause-race : goal.returns-clause-race
returns-clause-race c =
    marked-race c.args.program.now c.args.found.now c.marks_from-marks.result c.marks_from-marks.ensures

pub returns-clause-typed : goal.returns-clause-typed
returns-clause-typed c =
    marked-never-blocked c.args.program.now c.args.found.now c.marks_from-marks.result c.marks_from-marks.ensures
