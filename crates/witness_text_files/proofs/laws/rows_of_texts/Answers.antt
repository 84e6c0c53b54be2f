use Rattle.std.proofs.Common.{refl}
use Rattle.serde_json.proofs.OnLiterals.{serde_json_on_literals}
use Rattle.witness_text_files.proofs.laws.rows_of_texts.Goals as goal

pub returns-clause-missing : goal.returns-clause-missing
unfolding serde_json_on_literals
returns-clause-missing c = refl

pub returns-clause-twice : goal.returns-clause-twice
unfolding serde_json_on_literals
returns-clause-twice c = refl

pub returns-clause-nested : goal.returns-clause-nested
unfolding serde_json_on_literals
returns-clause-nested c = refl

pub returns-clause-behind : goal.returns-clause-behind
unfolding serde_json_on_literals
returns-clause-behind c = refl
