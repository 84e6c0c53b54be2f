use Rattle.std.proofs.Common.{refl}
use Rattle.serde_json.proofs.OnLiterals.{serde_json_on_literals}
use Rattle.witness_text_files.proofs.Digits.{zero, one, two, three, nine}
use Rattle.witness_text_files.proofs.laws.gate_row.Goals as goal

pub returns-clause-read : goal.returns-clause-read
unfolding serde_json_on_literals
returns-clause-read c = refl

pub returns-clause-written : goal.returns-clause-written
unfolding serde_json_on_literals
returns-clause-written c = simp (zero, one, two, three, nine)

pub returns-clause-without : goal.returns-clause-without
unfolding serde_json_on_literals
returns-clause-without c = refl

pub returns-clause-without_written : goal.returns-clause-without_written
unfolding serde_json_on_literals
returns-clause-without_written c = simp (zero, one, three, nine)
