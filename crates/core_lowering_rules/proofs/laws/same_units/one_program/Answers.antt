use Rattle.std.proofs.Common.{ap}
use Rattle.core_lowering_rules.specs.Programs.{call_edges}
use Rattle.core_lowering_rules.proofs.SamePrograms.{refusal-alike, program-alike, draft-alike, lowered-alike}
use Rattle.core_lowering_rules.proofs.laws.same_units.one_program.Goals as goal

pub returns-clause-refused : goal.returns-clause-refused
returns-clause-refused c us vs same = refusal-alike us vs same

pub returns-clause-program : goal.returns-clause-program
returns-clause-program c us vs same containers files is_recursive =
    program-alike us vs same containers files is_recursive

pub returns-clause-edges : goal.returns-clause-edges
returns-clause-edges c us vs same containers files = ap call_edges (draft-alike us vs same containers files)

pub returns-clause-lowered : goal.returns-clause-lowered
returns-clause-lowered c us vs same containers files p q h k = lowered-alike us vs same containers files p q h k
