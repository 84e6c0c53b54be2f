use Rattle.std.proofs.Common.{List, [], ◌∷◌, ap, ◌∙◌}
use Rattle.core_code.specs.Program.{core}
use Rattle.core_semantics.specs.declared.object.StartPath.{StartPath}
use Rattle.core_semantics.specs.View.{state_of}
use Rattle.core_ways.specs.Marks.{Confirmed, blocked_at, leg_of}
use Rattle.witness_build_apart_laws.proofs.SaidByRun.{both-gathered, few-gathered, leg-past, leg-stopped, said-both}
use Rattle.witness_build_apart_laws.proofs.SaidByRun.{said-first, said-second}
use Rattle.witness_build.proofs.marking.mark_of_stopped.Goals as goal

pub returns-in_default : goal.returns-in_default
returns-in_default c =
    let program = core c.args.program.now in
    let first = c.args.first.now in
    let start = state_of c.args.machine.now in
    let to = state_of c.run_leg.new.machine in
    c.blocked.ensures
    ∙ ap (blocked_at first.thread) c.place.ensures
    ∙ said-first program (leg_of first) (leg_of c.args.second.now) start to
    (leg-stopped program first.thread first.steps first.turns start to c.in_ok-run_leg.field-0
    c.in_default.field-0 c.in_ok-run_leg.ensures.end c.in_default.is)

pub returns-in_default-2 : goal.returns-in_default-2
returns-in_default-2 c =
    let program = core c.args.program.now in
    let first = c.args.first.now in
    let second = c.args.second.now in
    let start = state_of c.args.machine.now in
    let to = state_of c.run_leg.new.machine in
    let end = state_of c.run_leg-2.new.machine in
    c.blocked-in_default-2.ensures
    ∙ ap (blocked_at second.thread) c.place-in_default-2.ensures
    ∙ said-second program (leg_of first) (leg_of second) start to end
    (leg-past program first.thread first.steps first.turns start to c.in_ok-run_leg.field-0
    c.in-Came.field-0 c.in_ok-run_leg.ensures.end c.in-Came.is)
    (leg-stopped program second.thread second.steps second.turns to end c.in_ok-run_leg-2.field-0
    c.in_default-2.field-0 c.in_ok-run_leg-2.ensures.end c.in_default-2.is)

pub returns : goal.returns
returns c =
    let program = core c.args.program.now in
    let first = c.args.first.now in
    let second = c.args.second.now in
    let start = state_of c.args.machine.now in
    let to = state_of c.run_leg.new.machine in
    let end = state_of c.run_leg-2.new.machine in
    let gathered =
    both-gathered program first.thread second.thread first.steps second.steps first.turns second.turns start to
    c.args.objects.now c.run_leg.new.objects c.run_leg-2.new.objects c.requires c.in_ok-run_leg.ensures.reads
    c.in_ok-run_leg-2.ensures.reads in
    record {
      confirmed =
          ap (λ (objects : List StartPath). Confirmed objects (leg_of first ∷ leg_of second ∷ [])) gathered
          ∙ said-both program (leg_of first) (leg_of second) start to end
          (leg-past program first.thread first.steps first.turns start to c.in_ok-run_leg.field-0
          c.in-Came.field-0 c.in_ok-run_leg.ensures.end c.in-Came.is)
          (leg-past program second.thread second.steps second.turns to end c.in_ok-run_leg-2.field-0
          c.in-Came-2.field-0 c.in_ok-run_leg-2.ensures.end c.in-Came-2.is);
      few =
          few-gathered program first.thread second.thread first.steps second.steps first.turns second.turns start to
          c.run_leg-2.new.objects gathered first.few_steps second.few_steps;
    }
