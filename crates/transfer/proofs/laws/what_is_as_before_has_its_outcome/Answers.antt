use Rattle.core_code.specs.Program.{core}
use Rattle.transfer.proofs.OneToOne.{one_to_one}
use Rattle.transfer.proofs.TiedMethods.{as_before-tied}
use Rattle.transfer.proofs.laws.what_is_as_before_has_its_outcome.Goals as goal

pub returns : goal.returns
returns c = λ p q.
    as_before-tied (core p) (core q)
    (one_to_one (core p) (core q) p.classes_differ p.fields_differ q.classes_differ q.fields_differ) p.ranks_there
    q.ranks_there
