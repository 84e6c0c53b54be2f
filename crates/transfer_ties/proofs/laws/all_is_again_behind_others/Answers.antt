use Rattle.core_code.specs.Program.{core}
use Rattle.transfer_ties.proofs.Others.{all_again}
use Rattle.transfer_ties.proofs.laws.all_is_again_behind_others.Goals as goal

pub returns : goal.returns
returns c = λ p q other. all_again (core p) (core q) other
