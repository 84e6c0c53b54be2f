use Rattle.std.proofs.Common.{◌≡◌, ℕ, ◌+◌, ◌-◌, ◌<◌, ◌++◌, List, Option, length, sym, ap, ◌∙◌, arith, option_map}
use Rattle.std.proofs.lemmas.List.{append-nil, length-map, map_push}
use Rattle.std.specs.Arc.{arc_value}
use Rattle.std.specs.declared.sync.Arc.{Arc}
use Rattle.std.specs.Global.{Global}
use Rattle.core_code.specs.Core.{method_of}
use Rattle.core_code.specs.Program.{core, methods}
use Rattle.access_domain.specs.declared.summary.Outcome.{Outcome}
use Rattle.access_domain.specs.Outcomes.{outcomes_held}
use Rattle.access_domain.specs.Summaries.{outcome_of, outcomes_from}
use Rattle.transfer.proofs.Every.{outcomes_turn}
use Rattle.transfer.proofs.whole.gathered.Goals as goal

pub loop-number-preserved : goal.loop-number-preserved
loop-number-preserved c =
    let program = core (arc_value c.args.program.now) in
    let ms = c.methods-number-end.result.now in
    let n = length program.methods in
    let i = c.loop-number.number in
    let count : n ≡ length ms =
    ap length (sym (c.methods-number-end.ensures ∙ ap methods c.deref.ensures)) ∙ length-map ms method_of in
    let within : i < n = omega (arith, count, c.loop-number-test.true) in
    let outs = c.loop-number.outcomes.items in
    let outcome = c.in-Ok-outcome_at.outcome in
    let rest = outcomes_from program (i + 1) (n - (i + 1)) in
    record {
      table = c.in-Ok-outcome_at.ensures.table;
      outcomes =
          ap (λ (xs : List (Option (Arc Outcome Global))). outcomes_held xs ++ rest) c.in-Ok-push.ensures.items
          ∙ ap (λ (xs : List (Option Outcome)). xs ++ rest) (map_push (option_map arc_value) outs outcome)
          ∙ outcomes_turn program n i (outcomes_held outs) (option_map arc_value outcome) within
          (c.in-Ok-outcome_at.ensures.found
          ∙ ap (λ (k : ℕ). outcome_of program (record { 0 = k })) c.in-Ok.ensures)
          ∙ c.loop-number.invariant.outcomes;
    }

pub returns : goal.returns
returns c =
    let program = core (arc_value c.args.program.now) in
    let ms = c.methods-number-end.result.now in
    let n = length program.methods in
    let i = c.loop-number.number in
    let outs = outcomes_held c.loop-number.outcomes.items in
    let count : n ≡ length ms =
    ap length (sym (c.methods-number-end.ensures ∙ ap methods c.deref.ensures)) ∙ length-map ms method_of in
    let none : n - i ≡ 0 = omega (arith, count, c.loop-number-test.false) in
    sym (append-nil outs)
    ∙ ap (λ (k : ℕ). outs ++ outcomes_from program i k) (sym none)
    ∙ c.loop-number.invariant.outcomes

pub loop-number-init : goal.loop-number-init
loop-number-init c =
    let program = core (arc_value c.args.program.now) in
    let n = length program.methods in
    let whole : n - 0 ≡ n = omega arith in
    record {
      table = c.requires.table;
      outcomes = (λ i. outcomes_held (c.new-outcomes.ensures.items i) ++ outcomes_from program 0 (whole i));
    }

pub outcome_at-requires : goal.outcome_at-requires
outcome_at-requires c =
    let ms = c.methods-number-end.result.now in
    let count : length (methods (arc_value c.args.program.now)) ≡ length ms =
    ap length (sym (c.methods-number-end.ensures ∙ ap methods c.deref.ensures)) ∙ length-map ms method_of in
    record {
      rows = c.requires.rows;
      there = omega (arith, count, c.in-Ok.ensures, c.loop-number-test.true);
      table = c.loop-number.invariant.table;
    }
