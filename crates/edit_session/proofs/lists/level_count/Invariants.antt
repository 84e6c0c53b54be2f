use Rattle.std.proofs.Common.{◌≡◌, drop}
use Rattle.std.specs.Prelude.{max}
use Rattle.edit_session.specs.Lists.{level_count}
use Rattle.edit_session.proofs.lists.level_count.Given as goal

abbrev pub invariant-loop-level : goal.invariant-loop-level
invariant-loop-level l = max l.count (level_count (drop l.level-index l.levels)) ≡ level_count l.levels
