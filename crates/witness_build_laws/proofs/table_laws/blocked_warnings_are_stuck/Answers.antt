use Rattle.witness_build_laws.proofs.TableRows.{blocked-stuck, unnamed-some}
use Rattle.witness_build_laws.proofs.table_laws.blocked_warnings_are_stuck.Goals as goal

pub returns-clause-blocked : goal.returns-clause-blocked
returns-clause-blocked c = blocked-stuck

pub returns-clause-unnamed : goal.returns-clause-unnamed
returns-clause-unnamed c = unnamed-some
