use Rattle.std.proofs.Common.{◌≤◌, refl, arith}
use Rattle.java_tree.proofs.laws.expression_forms.formed_primaries.Goals as goal

pub returns-clause-field : goal.returns-clause-field
returns-clause-field c = (
  ((tt, tt, refl, omega arith, omega arith, refl), omega arith),
  λ f. let h : 14 ≤ 10 = f.1 in omega arith,
)
