use Rattle.std.proofs.Common.{◌≡◌, ℕ, ◌+◌, ◌-◌, ◌<◌, ◌++◌, List, Option, None, length, replicate, sym, ap, subst, ◌∙◌}
use Rattle.std.proofs.Common.{append-nil, arith, rules}
use Rattle.std.proofs.lemmas.List.{length-map}
use Rattle.core_code.specs.Core.{method_of}
use Rattle.core_code.specs.Program.{core}
use Rattle.edit_session.specs.Levels.{AreLevels, level_in, levels_from}
use Rattle.edit_session.proofs.LevelTables.{levels_turn, no_levels}
use Rattle.edit_session.proofs.levels.levels.Goals as goal

pub loop-number-init : goal.loop-number-init
loop-number-init c =
    let program = core c.args.program.now in
    let n = length program.methods in
    let whole : n - 0 ≡ n = omega arith in
    let count = length c.methods-count.result.now in
    let none : c.in_ok-known.known.items ≡ replicate count None = search rules in
    record {
      table = subst (AreLevels program) (sym none) (no_levels program count);
      levels = (λ i. c.new-levels.ensures.items i ++ levels_from program 0 (whole i));
    }

pub loop-number-preserved : goal.loop-number-preserved
loop-number-preserved c =
    let program = core c.args.program.now in
    let ms = c.methods-count.result.now in
    let n = length program.methods in
    let i = c.loop-number.number in
    let count : n ≡ length ms = ap length (sym c.methods-count.ensures) ∙ length-map ms method_of in
    let within : i < n = omega (arith, count, c.loop-number-test.true) in
    let made = c.loop-number.levels.items in
    let rest = levels_from program (i + 1) (n - (i + 1)) in
    record {
      table = c.in-Ok-level_at.ensures.table;
      levels =
          ap (λ (ls : List (Option ℕ)). ls ++ rest) c.in-Ok-push.ensures.items
          ∙ levels_turn program n i made c.in-Ok-level_at.level within
          (c.in-Ok-level_at.ensures.level ∙ ap (λ (k : ℕ). level_in program (record { 0 = k })) c.in-Ok.ensures)
          ∙ c.loop-number.invariant.levels;
    }

pub returns : goal.returns
returns c =
    let program = core c.args.program.now in
    let ms = c.methods-count.result.now in
    let n = length program.methods in
    let i = c.loop-number.number in
    let made = c.loop-number.levels.items in
    let count : n ≡ length ms = ap length (sym c.methods-count.ensures) ∙ length-map ms method_of in
    let none : n - i ≡ 0 = omega (arith, count, c.loop-number-test.false) in
    sym (append-nil made)
    ∙ ap (λ (k : ℕ). made ++ levels_from program i k) (sym none)
    ∙ c.loop-number.invariant.levels
