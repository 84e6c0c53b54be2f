use Rattle.std.proofs.Common.{refl}
use Rattle.serde_json.proofs.OnLiterals.{serde_json_on_literals}
use Rattle.witness_text_files.proofs.laws.rows_of_files.Goals as goal

pub returns-clause-version : goal.returns-clause-version
unfolding serde_json_on_literals
returns-clause-version c = refl

pub returns-clause-class : goal.returns-clause-class
unfolding serde_json_on_literals
returns-clause-class c = refl

pub returns-clause-entries : goal.returns-clause-entries
unfolding serde_json_on_literals
returns-clause-entries c = refl

pub returns-clause-path : goal.returns-clause-path
unfolding serde_json_on_literals
returns-clause-path c = refl

pub returns-clause-further_path : goal.returns-clause-further_path
unfolding serde_json_on_literals
returns-clause-further_path c = refl

pub returns-clause-objects : goal.returns-clause-objects
unfolding serde_json_on_literals
returns-clause-objects c = refl

pub returns-clause-legs : goal.returns-clause-legs
unfolding serde_json_on_literals
returns-clause-legs c = refl

pub returns-clause-steps : goal.returns-clause-steps
unfolding serde_json_on_literals
returns-clause-steps c = refl

pub returns-clause-thread : goal.returns-clause-thread
unfolding serde_json_on_literals
returns-clause-thread c = refl

pub returns-clause-turns : goal.returns-clause-turns
unfolding serde_json_on_literals
returns-clause-turns c = refl
