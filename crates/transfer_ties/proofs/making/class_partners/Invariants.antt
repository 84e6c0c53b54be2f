use Rattle.std.proofs.Common.{◌≡◌, ◌++◌, drop, map}
use Rattle.transfer_ties.specs.Names.{class_partner}
use Rattle.transfer_ties.proofs.making.class_partners.Given as goal

abbrev pub invariant-loop-class : goal.invariant-loop-class
invariant-loop-class l =
    l.partners.items ++ map (class_partner l.numbers) (drop l.class-index l.classes) ≡
    map (class_partner l.numbers) l.classes
