use Rattle.std.proofs.Common.{ℕ, [], ◌∷◌, Option, option_map, subst, sym, ◌∙◌}
use Rattle.core_code.specs.Program.{core}
use Rattle.core_semantics.specs.Legs.{runs}
use Rattle.core_semantics.specs.View.{state_of}
use Rattle.core_ways.specs.Marks.{leg_of}
use Rattle.witness_text.specs.Replays.{IsReplayed, replayed}
use Rattle.witness_text.specs.Verdicts.{race_verdict}
use Rattle.witness_text.proofs.Replayed.{through}
use Rattle.witness_text.proofs.legs.legs_verdict.Goals as goal

pub returns : goal.returns
returns c =
    let p = core c.args.program.now in
    let first = leg_of c.args.file.now.first in
    let second = leg_of c.args.file.now.second in
    let start = state_of c.args.machine.now in
    let between = state_of c.leg_stop.new.machine in
    let end = state_of c.leg_stop-2.new.machine in
    let ends = race_verdict (option_map (λ cell. cell.now) c.args.cell) in
    let one = runs p first.thread first.steps first.turns start in
    let other = runs p second.thread second.steps second.turns between in
    c.race_verdict.ensures
    ∙ sym (through p ends 0 first (second ∷ []) one between
    (subst (λ (o : Option ℕ). IsReplayed (replayed first.steps one) o between) c.in_default.is c.in_ok-steps.ensures)
    ∙ through p ends 1 second [] other end
    (subst (λ (o : Option ℕ). IsReplayed (replayed second.steps other) o end) c.in_default-2.is
    c.in_ok-steps-2.ensures))
