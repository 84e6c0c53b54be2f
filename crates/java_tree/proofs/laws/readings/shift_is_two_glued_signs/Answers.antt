use Rattle.std.proofs.Common.{refl, arith}
use Rattle.java_tree.proofs.laws.readings.shift_is_two_glued_signs.Goals as goal

pub returns-clause-reads : goal.returns-clause-reads
returns-clause-reads c =
    record { spelled = refl; formed = ((tt, (tt, tt, refl, omega arith, omega arith, refl), refl, refl), refl) }
