use Rattle.std.proofs.Common.{◌≡◌, drop}
use Rattle.std.specs.List.{list_any}
use Rattle.java_resolver.specs.Declarations.{has_synchronized}
use Rattle.java_resolver.proofs.words.any_has_synchronized.Given as goal

abbrev pub invariant-loop-member : goal.invariant-loop-member
invariant-loop-member l =
    list_any has_synchronized (drop l.member-index l.members) ≡ list_any has_synchronized l.members
