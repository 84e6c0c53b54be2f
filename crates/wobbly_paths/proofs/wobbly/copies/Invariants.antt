use Rattle.std.proofs.Common.{◌≡◌, ◌++◌}
use Rattle.wobbly_paths.proofs.wobbly.copies.Given as goal

abbrev pub invariant-loop-path : goal.invariant-loop-path
invariant-loop-path l = l.copies.items ++ l.path-iterator ≡ l.paths.keys
