use Rattle.std.proofs.Common.{sym, ap, ◌∙◌}
use Rattle.std.specs.Option.{option_copied}
use Rattle.access_domain.specs.Outcomes.{outcomes_held}
use Rattle.core_code.specs.Program.{core}
use Rattle.core_ways.specs.Marks.{mark_by_calls}
use Rattle.witness_build_laws.specs.Warned.{pair_of, warning_mark}
use Rattle.witness_build_laws.proofs.ConfirmedRun.{locked-is}
use Rattle.witness_build.proofs.WarningMarks.{found-record, mark-none, mark-stable, mark-unnamed}
use Rattle.witness_build.proofs.WarningMarks.{mark-unstable, said-then}
use Rattle.witness_build.proofs.marking.mark_from.Goals as goal

pub returns-in_default-clause-mark : goal.returns-in_default-clause-mark
returns-in_default-clause-mark c =
    let program = core c.args.program.now in
    let w = c.args.warning.now in
    mark-none program w (found-record program (outcomes_held c.args.outcomes.now.items) w
    (option_copied c.record_of.result) _ c.requires.outcomes c.record_of.ensures (ap option_copied c.in_default.is))

pub returns-then-is_some-clause-mark : goal.returns-then-is_some-clause-mark
returns-then-is_some-clause-mark c =
    let program = core c.args.program.now in
    let w = c.args.warning.now in
    let r = c.in-Some.record.now in
    mark-unnamed program w r
    (found-record program (outcomes_held c.args.outcomes.now.items) w (option_copied c.record_of.result) _
    c.requires.outcomes c.record_of.ensures (ap option_copied c.in-Some.is))
    (sym c.is_some.ensures ∙ c.if-is_some.true)

pub returns-in-Some-prefix-clause-mark : goal.returns-in-Some-prefix-clause-mark
returns-in-Some-prefix-clause-mark c =
    let program = core c.args.program.now in
    let w = c.args.warning.now in
    let r = c.in-Some.record.now in
    mark-unstable program w r c.in-Some-prefix.prefix
    (found-record program (outcomes_held c.args.outcomes.now.items) w (option_copied c.record_of.result) _
    c.requires.outcomes c.record_of.ensures (ap option_copied c.in-Some.is))
    (sym c.is_some.ensures ∙ c.if-is_some.false) (sym c.in_ok-prefix.ensures ∙ c.in-Some-prefix.is)

pub mark_by_ways-requires-clause-locked : goal.mark_by_ways-requires-clause-locked
mark_by_ways-requires-clause-locked c =
    let program = core c.args.program.now in
    let w = c.args.warning.now in
    let r = c.in-Some.record.now in
    locked-is program w r
    (found-record program (outcomes_held c.args.outcomes.now.items) w (option_copied c.record_of.result) _
    c.requires.outcomes c.record_of.ensures (ap option_copied c.in-Some.is))

pub returns-clause-mark : goal.returns-clause-mark
returns-clause-mark c =
    let program = core c.args.program.now in
    let w = c.args.warning.now in
    let r = c.in-Some.record.now in
    said-then c.mark_by_ways.result (mark_by_calls program (pair_of w)) (warning_mark program w)
    (mark-stable program w r
    (found-record program (outcomes_held c.args.outcomes.now.items) w (option_copied c.record_of.result) _
    c.requires.outcomes c.record_of.ensures (ap option_copied c.in-Some.is))
    (sym c.is_some.ensures ∙ c.if-is_some.false) (sym c.in_ok-prefix.ensures ∙ c.in_default-prefix.is))
    c.mark_by_ways.ensures.mark
