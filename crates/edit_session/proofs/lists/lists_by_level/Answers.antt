use Rattle.std.proofs.Common.{ℕ, ◌+◌, ◌<◌, ◌≤◌, Option, None, length, refl, ap, ◌∙◌, arith}
use Rattle.std.specs.Prelude.{slice_index_or}
use Rattle.row_links.specs.Lists.{all_in}
use Rattle.transfer.proofs.Every.{read_at}
use Rattle.edit_session.proofs.ByLevel.{all_filled, list_there, none_filled, one_filled}
use Rattle.edit_session.proofs.lists.lists_by_level.Goals as goal

pub loop-number-init : goal.loop-number-init
loop-number-init c =
    let lists = c.in_ok-lists.ensures ∙ ap (λ (k : ℕ). 2 + k) c.in_ok-level_count.ensures in
    none_filled c.args.levels.now c.in_ok-rows.rows
    (c.in_ok-rows.ensures ∙ (λ i. all_in 0 (c.in_ok-nodes.ensures i) (lists i)))

pub put_by_level-requires-clause-list : goal.put_by_level-requires-clause-list
put_by_level-requires-clause-list c =
    let levels = c.args.levels.now in
    let i = c.loop-number.number in
    let within : i < length levels = omega (arith, c.in_ok-nodes.ensures, c.loop-number-test.true) in
    let found : Option ℕ = slice_index_or levels i None in
    let at = read_at levels levels i None refl within in
    list_there levels i c.loop-number.rows found at.0 at.1 c.loop-number.invariant

pub loop-number-preserved : goal.loop-number-preserved
loop-number-preserved c =
    let levels = c.args.levels.now in
    let i = c.loop-number.number in
    let within : i < length levels = omega (arith, c.in_ok-nodes.ensures, c.loop-number-test.true) in
    let found : Option ℕ = slice_index_or levels i None in
    let at = read_at levels levels i None refl within in
    one_filled levels i c.loop-number.rows c.put_by_level.new.rows found at.0 at.1 c.in-Ok.ensures
    c.loop-number.invariant

pub returns : goal.returns
returns c =
    let past : length c.args.levels.now ≤ c.loop-number.number =
    omega (arith, c.in_ok-nodes.ensures, c.loop-number-test.false) in
    all_filled c.args.levels.now c.loop-number.number c.loop-number.rows past c.loop-number.invariant
