use Rattle.wobbly_paths.specs.Sets.{HasNoPrefix}
use Rattle.wobbly_paths.proofs.wobbly.Wobbly.unstable_prefix.Given as goal

abbrev pub invariant-loop-fields : goal.invariant-loop-fields
invariant-loop-fields l = HasNoPrefix l.self l.path l.fields
