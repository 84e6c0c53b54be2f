use Rattle.std.proofs.Common.{◌*◌, ◌≤◌, List, length, option_map, subst, sym, ◌∙◌}
use Rattle.racer_base.specs.declared.limits.TheConstants.{MAX_WAY_STEPS}
use Rattle.core_code.specs.Program.{core}
use Rattle.core_semantics.specs.declared.object.Start.TheVariants.{All}
use Rattle.core_semantics.specs.declared.object.StartPath.{StartPath}
use Rattle.core_semantics.specs.Runs.{begun}
use Rattle.core_ways.specs.declared.mark.Mark.{Mark}
use Rattle.core_ways.specs.Marks.{leg_of, said_by}
use Rattle.std.proofs.Common.{Option}
use Rattle.witness_build_apart_laws.specs.RunLegs.{IsSaid}
use Rattle.witness_build.proofs.marking.mark_by_run.Goals as goal

pub invariant_of-result : goal.invariant_of-result
invariant_of-result c =
    let program = core c.args.program.now in
    let read =
    subst
    (λ (found : Option Mark). IsSaid program (leg_of c.args.first) (leg_of c.args.second)
    (begun program c.args.warning.now.entry c.args.warning.now.partner All) c.mark_of_stopped_walk.new.objects
    (option_map said_by found))
    c.in_default-stopped.is c.in-Ok.ensures.said in
    record {
      few_objects =
          subst (λ (objects : List StartPath). length objects ≤ 2 * MAX_WAY_STEPS)
          (sym (c.from.ensures ∙ c.into_vec.ensures)) read.few;
      both_threads = c.requires.threads;
    }
