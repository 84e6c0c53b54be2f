use Rattle.std.proofs.Common.{◌≡◌, Option, subst, sym, ◌∙◌}
use Rattle.std.specs.Option.{IfSome}
use Rattle.std.proofs.lemmas.Result.{IfOk-weaker}
use Rattle.core_code.specs.Program.{core}
use Rattle.core_semantics.specs.declared.machine.Machine.{Machine}
use Rattle.core_semantics.specs.declared.object.Start.TheVariants.{All}
use Rattle.core_semantics.specs.Behind.{begun_behind}
use Rattle.core_semantics.specs.Runs.{begun}
use Rattle.core_semantics.specs.State.{thread_of}
use Rattle.core_semantics.specs.View.{state_of}
use Rattle.core_ways.specs.Marks.{leg_of}
use Rattle.witness_build_walks.specs.declared.walks.Walked.{Walked}
use Rattle.witness_build_walks.specs.Told.{IsRunOn, IsTold}
use Rattle.witness_build_walks.proofs.ApartWalks.{none-held}
use Rattle.witness_build_walks.proofs.BehindWalks.{told-on}
use Rattle.witness_build_walks.proofs.behind.told_behind.Goals as goal

pub returns : goal.returns
returns c = λ none m m1 m2 f threads of_first of_second gone.
    let program = core c.args.program.now in
    let first = c.args.first.now in
    let second = c.args.second in
    let begins = state_of c.in-Some.machine in
    let objects = c.run_on-told.new.objects in
    let behind =
    subst (λ (begun : Option Machine). IfSome begun (λ machine. state_of machine ≡ begun_behind program second.method
    second.method (state_of first.machine).store)) c.in-Some.is c.in_ok-begun.ensures in
    IfOk-weaker c.run_on-told.result
    (λ (walked : Walked). IsRunOn program (leg_of second.leg.now) begins first.given c.args.objects.now objects walked)
    (λ (walked : Walked). IsTold program (leg_of f) (leg_of second.leg.now) (begun program m1 m2 All) objects walked)
    (λ walked told. told-on program f second.leg.now m second.method m1 m2 first begins threads of_first of_second gone
    (none-held (thread_of (state_of first.machine) first.thread).locks (sym c.is_free.ensures ∙ c.if-not-is_free.false))
    behind c.args.objects.now objects walked none told) c.run_on-told.ensures
