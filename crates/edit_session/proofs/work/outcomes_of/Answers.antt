use Rattle.std.proofs.Common.{◌≡◌, ℕ, ◌+◌, ◌-◌, ◌<◌, ◌++◌, List, Option, length, sym, ap, ◌∙◌, arith, option_map}
use Rattle.std.proofs.lemmas.List.{append-nil, length-map, map_push}
use Rattle.std.specs.Arc.{arc_value}
use Rattle.std.specs.declared.sync.Arc.{Arc}
use Rattle.std.specs.Global.{Global}
use Rattle.core_code.specs.Core.{method_of}
use Rattle.core_code.specs.Program.{core, methods}
use Rattle.access_domain.specs.declared.summary.Outcome.{Outcome}
use Rattle.access_domain.specs.Outcomes.{outcomes_held}
use Rattle.access_domain.specs.Summaries.{outcomes_from}
use Rattle.transfer.proofs.Every.{outcomes_turn}
use Rattle.edit_session.proofs.Makings.{whole_outcome}
use Rattle.edit_session.proofs.work.outcomes_of.Goals as goal

pub loop-place-preserved : goal.loop-place-preserved
loop-place-preserved c =
    let program = core (arc_value c.args.program.now) in
    let ms = c.methods-place-end.result.now in
    let n = length program.methods in
    let i = c.loop-place.place in
    let count : n ≡ length ms =
    ap length (sym (c.methods-place-end.ensures ∙ ap methods c.deref.ensures)) ∙ length-map ms method_of in
    let within : i < n = omega (arith, count, c.loop-place-test.true) in
    let outs = c.loop-place.outcomes.items in
    let outcome = c.in-Ok.outcome in
    let rest = outcomes_from program (i + 1) (n - (i + 1)) in
    ap (λ (xs : List (Option (Arc Outcome Global))). outcomes_held xs ++ rest) c.in-Ok-push.ensures.items
    ∙ ap (λ (xs : List (Option Outcome)). xs ++ rest) (map_push (option_map arc_value) outs outcome)
    ∙ outcomes_turn program n i (outcomes_held outs) (option_map arc_value outcome) within
    (c.in-Ok.ensures ∙ whole_outcome program c.args.table.now i c.requires)
    ∙ c.loop-place.invariant

pub returns : goal.returns
returns c =
    let program = core (arc_value c.args.program.now) in
    let ms = c.methods-place-end.result.now in
    let n = length program.methods in
    let i = c.loop-place.place in
    let outs = outcomes_held c.loop-place.outcomes.items in
    let count : n ≡ length ms =
    ap length (sym (c.methods-place-end.ensures ∙ ap methods c.deref.ensures)) ∙ length-map ms method_of in
    let none : n - i ≡ 0 = omega (arith, count, c.loop-place-test.false) in
    sym (append-nil outs)
    ∙ ap (λ (k : ℕ). outs ++ outcomes_from program i k) (sym none)
    ∙ c.loop-place.invariant

pub loop-place-init : goal.loop-place-init
loop-place-init c =
    let program = core (arc_value c.args.program.now) in
    let n = length program.methods in
    let whole : n - 0 ≡ n = omega arith in
    (λ i. outcomes_held (c.new-outcomes.ensures.items i) ++ outcomes_from program 0 (whole i))
