use Rattle.core_ways.proofs.Throwless.{returns-as-passed, throwless-returns}
use Rattle.core_ways.proofs.laws.throwless_methods_are_passed.Goals as goal

pub returns-clause-returns : goal.returns-clause-returns
returns-clause-returns c code none ends = throwless-returns code none ends

pub returns-clause-passed : goal.returns-clause-passed
returns-clause-passed c locks code none ends = returns-as-passed locks code none ends
