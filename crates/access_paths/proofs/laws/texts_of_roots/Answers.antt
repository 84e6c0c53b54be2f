use Rattle.std.proofs.Common.{ap, codes, ◌++◌, [], arith}
use Rattle.std.proofs.lemmas.Fmt.{decimal_digit}
use Rattle.access_paths.proofs.laws.texts_of_roots.Goals as goal

pub returns-clause-formal : goal.returns-clause-formal
returns-clause-formal c = ap (λ text. codes "#" ++ text ++ []) (decimal_digit 7 (omega arith))
