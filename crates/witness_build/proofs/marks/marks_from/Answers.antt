use Rattle.std.proofs.Common.{◌∙◌}
use Rattle.core_code.specs.Program.{core}
use Rattle.core_ways.specs.Marks.{said_by}
use Rattle.witness_build_laws.specs.Warned.{warning_mark}
use Rattle.witness_build.proofs.MarkTurns.{seen_turn, seen_all}
use Rattle.witness_build.proofs.marks.marks_from.Goals as goal

pub loop-warning-preserved : goal.loop-warning-preserved
loop-warning-preserved c =
    record {
      marks =
          seen_turn (warning_mark (core c.args.program.now)) said_by c.args.found.now c.loop-warning.warning-index _
          c.in_ok-mark_from.field-0 c.loop-warning.marks.items c.push.new.self.items c.loop-warning-test.true
          c.in_ok-push.ensures.items c.in_ok-mark_from.ensures.mark
          ∙ c.loop-warning.invariant.marks;
      known = c.in_ok-mark_from.ensures.known;
      walks = c.in_ok-mark_from.ensures.walks;
    }

pub returns : goal.returns
returns c =
    seen_all (warning_mark (core c.args.program.now)) said_by c.args.found.now c.loop-warning.warning-index
    c.loop-warning.marks.items c.loop-warning-test.false
    ∙ c.loop-warning.invariant.marks
