use Rattle.java_parser_grammar.specs.Units.{IsUnit}
use Rattle.java_tree.specs.SameUnits.{SameUnit}
use Rattle.java_parser.proofs.SameFields.{two_zips}
use Rattle.racer_sources.proofs.laws.one_program_of_tokens.Goals as goal

pub returns-clause-same : goal.returns-clause-same
returns-clause-same c tokens us vs h k = two_zips IsUnit IsUnit SameUnit c.one_unit.ensures tokens us vs h k

pub returns-clause-lowered : goal.returns-clause-lowered
returns-clause-lowered c tokens us vs h k containers files p q =
    c.one_program.ensures.lowered us vs (two_zips IsUnit IsUnit SameUnit c.one_unit.ensures tokens us vs h k)
    containers files p q
