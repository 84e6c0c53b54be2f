use Rattle.std.proofs.Common.{codes, refl}
use Rattle.java_parser_grammar.proofs.UnfitRows.{unfit_row}
use Rattle.java_parser_grammar.proofs.laws.answers.first_faults.Goals as goal

pub returns-clause-misfit : goal.returns-clause-misfit
returns-clause-misfit c = unfit_row (codes "int x ;") 1 refl refl refl
