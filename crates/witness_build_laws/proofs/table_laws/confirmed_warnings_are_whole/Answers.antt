use Rattle.witness_build_laws.proofs.TableRows.{confirmed-whole}
use Rattle.witness_build_laws.proofs.table_laws.confirmed_warnings_are_whole.Goals as goal

pub returns : goal.returns
returns c = confirmed-whole
