use Rattle.std.proofs.Common.{Option, true, subst}
use Rattle.core_code.specs.Program.{core}
use Rattle.witness_build_walks.specs.declared.walk.Walk.{Walk}
use Rattle.witness_build_walks.specs.Told.{IsGoneIn}
use Rattle.witness_build_walks.proofs.walks.told_of.Goals as goal

pub returns : goal.returns
returns c = λ m m1 m2 f threads of_first of_second one other.
    let program = core c.args.program.now in
    let course = c.args.course in
    c.told_by.ensures m m1 m2 f threads of_first of_second
    (subst (λ (w : Option Walk). IsGoneIn program m f true w) c.in-Some.is one)
    (subst (λ (w : Option Walk). IsGoneIn program course.method course.leg.now c.args.all w) c.in-Some-second.is other)
