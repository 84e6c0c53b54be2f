use Rattle.std.proofs.Common.{◌≤◌, refl, arith, codes}
use Rattle.java_tree.proofs.Operators.{is_binary-level}
use Rattle.java_tree.proofs.laws.expression_forms.formed_binaries.Goals as goal

pub returns-clause-same_level : goal.returns-clause-same_level
returns-clause-same_level c = (
  ((tt, tt, refl, omega arith, omega arith, refl), tt, refl, omega arith, omega arith, refl),
  λ f. let h : 11 ≤ 10 = f.4 in omega arith,
)

pub returns-clause-next_level : goal.returns-clause-next_level
returns-clause-next_level c = (
  (tt, (tt, tt, refl, omega arith, omega arith, refl), refl, omega arith, omega arith, refl),
  λ f. let h : 11 ≤ 10 = f.3 in omega arith,
)

pub returns-clause-first_level : goal.returns-clause-first_level
returns-clause-first_level c = (
  ((tt, tt, refl, omega arith, omega arith, refl), tt, refl, omega arith, omega arith, refl),
  λ f. let h : 2 ≤ 1 = f.3 in omega arith,
)

pub returns-clause-operator : goal.returns-clause-operator
returns-clause-operator c = (
  (tt, tt, refl, omega arith, omega arith, refl),
  λ f. let h : 2 ≤ 0 = is_binary-level (codes ";") f.2 in omega arith,
  λ f. let h : 2 ≤ 0 = is_binary-level (codes "=") f.2 in omega arith,
)
