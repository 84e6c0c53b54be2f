use Rattle.std.proofs.Common.{refl}
use Rattle.transfer_bodies.proofs.KeptParts.{kept-cut}
use Rattle.transfer_bodies.proofs.kept.Kept.cut.Goals as goal

pub returns-in-Some-clause-kept : goal.returns-in-Some-clause-kept
returns-in-Some-clause-kept c = λ from parts k.
    kept-cut from c.in-Some.count parts c.args.self.now _ c.requires c.in-Some.is c.truncate.ensures.items
    refl refl refl k
