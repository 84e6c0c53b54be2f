use Rattle.core_lowering_rules.proofs.KindedPrograms.{program-kinded}
use Rattle.core_lowering_rules.proofs.ProgramFacts.{stacks-enough, calls-right, sites-in_order, entries-analysed}
use Rattle.core_lowering_rules.proofs.ProgramFacts.{ends-by_return, parameters-few}
use Rattle.core_lowering_rules.proofs.ProgramNames.{names-right, classes-differ, opaque-differ, fields-differ}
use Rattle.core_lowering_rules.proofs.ProgramNames.{methods-differ}
use Rattle.core_lowering_rules.proofs.NumbersInRange.{numbers-in_range}
use Rattle.core_lowering_rules.proofs.laws.programs.facts_of_programs.Goals as goal

pub returns-clause-kinded : goal.returns-clause-kinded
returns-clause-kinded c containers files units is_recursive = program-kinded containers files units is_recursive

pub returns-clause-stacks : goal.returns-clause-stacks
returns-clause-stacks c containers files units is_recursive = stacks-enough containers files units is_recursive

pub returns-clause-calls : goal.returns-clause-calls
returns-clause-calls c containers files units is_recursive = calls-right containers files units is_recursive

pub returns-clause-sites : goal.returns-clause-sites
returns-clause-sites c containers files units is_recursive = sites-in_order containers files units is_recursive

pub returns-clause-entries : goal.returns-clause-entries
returns-clause-entries c containers files units is_recursive = entries-analysed containers files units is_recursive

pub returns-clause-ends : goal.returns-clause-ends
returns-clause-ends c containers files units is_recursive = ends-by_return containers files units is_recursive

pub returns-clause-methods : goal.returns-clause-methods
returns-clause-methods c containers files units is_recursive = methods-differ containers files units is_recursive

pub returns-clause-parameters : goal.returns-clause-parameters
returns-clause-parameters c containers files units is_recursive = parameters-few containers files units is_recursive

pub returns-clause-numbers : goal.returns-clause-numbers
returns-clause-numbers c containers files units is_recursive placed =
    numbers-in_range containers files units is_recursive placed

pub returns-clause-names_right : goal.returns-clause-names_right
returns-clause-names_right c containers files units is_recursive named =
    names-right containers files units is_recursive named

pub returns-clause-classes : goal.returns-clause-classes
returns-clause-classes c containers files units is_recursive accepted =
    classes-differ units accepted containers files is_recursive

pub returns-clause-fields : goal.returns-clause-fields
returns-clause-fields c files units is_recursive accepted = opaque-differ units accepted files is_recursive

pub returns-clause-named_fields : goal.returns-clause-named_fields
returns-clause-named_fields c containers files units is_recursive accepted named =
    fields-differ units accepted containers files is_recursive named
