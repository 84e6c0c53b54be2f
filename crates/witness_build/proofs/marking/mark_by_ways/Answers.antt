use Rattle.std.proofs.Common.{◌∙◌}
use Rattle.core_code.specs.Program.{core}
use Rattle.core_ways.specs.Marks.{mark_by_calls}
use Rattle.core_ways.specs.Ways.{way_of}
use Rattle.core_ways.specs.WayPairs.{said_of}
use Rattle.witness_build_laws.specs.Warned.{pair_of}
use Rattle.witness_build.proofs.FewTurns.{both-short}
use Rattle.witness_build.proofs.SaidOfWays.{said-locked, said-unlocked}
use Rattle.witness_build.proofs.WarningMarks.{said-then}
use Rattle.witness_build.proofs.marking.mark_by_ways.Goals as goal

pub mark_along-requires-clause-short : goal.mark_along-requires-clause-short
mark_along-requires-clause-short c =
    let w = c.args.warning.now in
    both-short (core c.args.program.now) w.partner w.entry w.partner_access w.access c.in_ok-both.both
    c.in_ok-both.ensures.both

pub mark_along-requires-else-locked-clause-short : goal.mark_along-requires-else-locked-clause-short
mark_along-requires-else-locked-clause-short c =
    let w = c.args.warning.now in
    both-short (core c.args.program.now) w.entry w.partner w.access w.partner_access c.in_ok-both-2.both
    c.in_ok-both-2.ensures.both

pub returns-in_ok-both-clause-mark : goal.returns-in_ok-both-clause-mark
returns-in_ok-both-clause-mark c =
    let program = core c.args.program.now in
    let w = c.args.warning.now in
    let first = way_of program w.partner w.partner_access in
    let second = way_of program w.entry w.access in
    said-then c.mark_along.result (said_of program (pair_of w) 1 0 first second) (mark_by_calls program (pair_of w))
    (said-locked program (pair_of w) (c.requires.locked ∙ c.if-locked.true))
    (c.mark_along.ensures.mark first second c.in_ok-both.ensures.both)

pub returns-in_ok-both-2-clause-mark : goal.returns-in_ok-both-2-clause-mark
returns-in_ok-both-2-clause-mark c =
    let program = core c.args.program.now in
    let w = c.args.warning.now in
    let first = way_of program w.entry w.access in
    let second = way_of program w.partner w.partner_access in
    said-then c.mark_along-else-locked.result (said_of program (pair_of w) 0 1 first second)
    (mark_by_calls program (pair_of w))
    (said-unlocked program (pair_of w) (c.requires.locked ∙ c.if-locked.false))
    (c.mark_along-else-locked.ensures.mark first second c.in_ok-both-2.ensures.both)
