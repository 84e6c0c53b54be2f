use Rattle.std.proofs.Common.{refl, ap, ◌∙◌}
use Rattle.core_code.specs.Program.{core}
use Rattle.core_semantics.specs.View.{state_of}
use Rattle.witness_build_apart_laws.proofs.SaidByRun.{leg-past, leg-stopped}
use Rattle.core_ways.specs.Gathered.{gathered}
use Rattle.core_ways.specs.Ends.{leg_reads}
use Rattle.witness_build_walks.proofs.behind.run_on.Goals as goal

pub returns-in_default : goal.returns-in_default
returns-in_default c =
    let leg = c.args.leg.now in
    let stop = state_of c.run_leg.new.machine in (
      stop,
      leg-stopped (core c.args.program.now) leg.thread leg.steps leg.turns (state_of c.args.machine.now) stop
          c.in_ok-run_leg.field-0 c.in_default.field-0 c.in_ok-run_leg.ensures.end c.in_default.is,
      refl,
      c.place.ensures,
    )

pub returns : goal.returns
returns c =
    let leg = c.args.leg.now in
    let end = state_of c.run_leg.new.machine in (
      end,
      leg-past (core c.args.program.now) leg.thread leg.steps leg.turns (state_of c.args.machine.now) end
          c.in_ok-run_leg.field-0 c.in-Came.field-0 c.in_ok-run_leg.ensures.end c.in-Came.is,
      c.in_ok-run_leg.ensures.reads
          ∙ ap (λ xs. gathered xs (leg_reads (core c.args.program.now) leg.thread leg.steps leg.turns
          (state_of c.args.machine.now))) c.in_ok-add_given.ensures,
    )
