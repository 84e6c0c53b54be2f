use Rattle.std.proofs.Common.{◌≡◌, drop}
use Rattle.core_ways.specs.Gathered.{gathered}
use Rattle.core_ways.proofs.objects.Objects.add_each.Given as goal

-- what was gathered so far, and what is left
abbrev pub invariant-loop-path : goal.invariant-loop-path
invariant-loop-path l = gathered l.self (drop l.path-index l.paths) ≡ gathered l.fn.self l.paths
