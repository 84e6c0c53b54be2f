use Rattle.core_code.specs.Program.{core}
use Rattle.transfer_ties.proofs.Unchanged.{itself_before, nothing_again}
use Rattle.transfer.proofs.laws.nothing_is_again_behind_itself.Goals as goal

pub returns-clause-as_before : goal.returns-clause-as_before
returns-clause-as_before c = λ p m analysed.
    itself_before (core p) p.numbers_in_range p.calls_right p.ranks_there
    (λ n before. c.what_is_as_before_has_its_outcome.ensures p p n n before) m analysed

pub returns-clause-none : goal.returns-clause-none
returns-clause-none c = λ p.
    nothing_again (core p) p.numbers_in_range p.calls_right p.ranks_there
    (λ n before. c.what_is_as_before_has_its_outcome.ensures p p n n before)
