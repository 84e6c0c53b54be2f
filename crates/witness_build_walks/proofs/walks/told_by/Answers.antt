use Rattle.std.proofs.Common.{subst}
use Rattle.core_code.specs.Program.{core}
use Rattle.core_semantics.specs.declared.object.Start.TheVariants.{All}
use Rattle.core_semantics.specs.Runs.{begun}
use Rattle.core_ways.specs.Marks.{leg_of}
use Rattle.witness_build_walks.specs.declared.walks.Walked.{Walked}
use Rattle.witness_build_walks.specs.Told.{IsTold}
use Rattle.witness_build_walks.proofs.walks.told_by.Goals as goal

pub returns-in-Stopped : goal.returns-in-Stopped
returns-in-Stopped c = λ m m1 m2 f threads of_first of_second one other.
    let course = c.args.course in
    subst (λ (walked : Walked). IsTold (core c.args.program.now) (leg_of f) (leg_of course.leg.now)
    (begun (core c.args.program.now) m1 m2 All) c.told.new.objects walked) c.in-Stopped.is
    (c.in-Ok.ensures (core c.args.program.now) m course.method m1 m2 f course.leg.now threads of_first of_second one
    other)

pub returns-in-Past : goal.returns-in-Past
returns-in-Past c = λ m m1 m2 f threads of_first of_second one other.
    let course = c.args.course in
    subst (λ (walked : Walked). IsTold (core c.args.program.now) (leg_of f) (leg_of course.leg.now)
    (begun (core c.args.program.now) m1 m2 All) c.told.new.objects walked) c.in-Past.is
    (c.in-Ok.ensures (core c.args.program.now) m course.method m1 m2 f course.leg.now threads of_first of_second one
    other)

pub returns-in-Unknown : goal.returns-in-Unknown
returns-in-Unknown c = λ m m1 m2 f threads of_first of_second one other.
    let course = c.args.course in
    c.told_behind.ensures
    (subst (λ (walked : Walked). IsTold (core c.args.program.now) (leg_of f) (leg_of course.leg.now)
    (begun (core c.args.program.now) m1 m2 All) c.told.new.objects walked) c.in-Unknown.is
    (c.in-Ok.ensures (core c.args.program.now) m course.method m1 m2 f course.leg.now threads of_first of_second one
    other)) m m1 m2 f threads of_first of_second one
