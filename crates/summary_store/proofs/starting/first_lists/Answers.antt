use Rattle.std.proofs.Common.{◌<◌, ◌∙◌, length, arith}
use Rattle.core_code.specs.Counting.{flags_of}
use Rattle.core_code.specs.Program.{core}
use Rattle.summary_store.proofs.Opening.{none_sorted, one_idle, one_not}
use Rattle.summary_store.proofs.starting.first_lists.Goals.{then-not-is_analysed, else-not-is_analysed}
use Rattle.summary_store.proofs.starting.first_lists.Goals as goal

pub loop-m-init : goal.loop-m-init
loop-m-init c = none_sorted (flags_of (core c.args.program.now)) c.args.workers c.in-Some.methods c.in-Some.lists
    c.in_ok-lists.lists (c.in-Some.ensures.0 ∙ c.count.ensures)
    (omega (arith, c.in-Some.ensures.0, c.in-Some.ensures.1)) c.in-Some.ensures.2 c.in_ok-lists.ensures

pub loop-m-preserved : goal.loop-m-preserved
loop-m-preserved c =
    let low : c.loop-m.m < length (flags_of (core c.args.program.now)) =
    omega (arith, c.loop-m-test.true, c.in-Some.ensures.0, c.count.ensures) in
    elim c.if-not-is_analysed.branch [
      | then-not-is_analysed w ↦ one_not c.loop-m.invariant low c.is_analysed.result c.is_analysed.ensures
          w.if-not-is_analysed.true c.if-not-is_analysed.lists (w.lists-is ∙ w.move_to.ensures)
      | else-not-is_analysed w ↦ one_idle c.loop-m.invariant low c.is_analysed.result c.is_analysed.ensures
          w.if-not-is_analysed.false c.if-not-is_analysed.lists w.lists-is
    ]
