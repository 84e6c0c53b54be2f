use Rattle.std.proofs.Common.{◌≡◌, ◌++◌, drop, map}
use Rattle.transfer_ties.specs.Names.{method_partner}
use Rattle.transfer_ties.proofs.making.method_partners.Given as goal

abbrev pub invariant-loop-method : goal.invariant-loop-method
invariant-loop-method l =
    l.partners.items ++ map (method_partner l.numbers) (drop l.method-index l.methods) ≡
    map (method_partner l.numbers) l.methods
