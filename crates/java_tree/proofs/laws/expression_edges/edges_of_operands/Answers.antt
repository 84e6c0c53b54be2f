use Rattle.std.proofs.Common.{◌≤◌, refl, arith}
use Rattle.java_tree.proofs.laws.expression_edges.edges_of_operands.Goals as goal

pub returns-clause-prefix : goal.returns-clause-prefix
returns-clause-prefix c = λ f. let h : 12 ≤ 11 = f.2 in omega arith

pub returns-clause-cast : goal.returns-clause-cast
returns-clause-cast c = (λ f. let h : 12 ≤ 11 = f.3 in omega arith, λ f. let h : 12 ≤ 11 = f.3 in omega arith)

pub returns-clause-conditional : goal.returns-clause-conditional
returns-clause-conditional c = ((tt, tt, refl, omega arith, omega arith, refl), tt, tt, omega arith, omega arith, refl)

pub returns-clause-relation_left : goal.returns-clause-relation_left
returns-clause-relation_left c = (
  ((tt, tt, refl, omega arith, omega arith, refl), ((tt, tt), refl), omega arith, refl),
  λ f. let h : 8 ≤ 7 = f.2 in omega arith,
)

pub returns-clause-relation_inside : goal.returns-clause-relation_inside
returns-clause-relation_inside c = (
  ((tt, ((tt, tt), refl), omega arith, refl), tt, refl, omega arith, omega arith, refl),
  (tt, (tt, ((tt, tt), refl), omega arith, refl), refl, omega arith, omega arith, refl),
  λ f. let h : 9 ≤ 8 = f.4 in omega arith,
)

pub returns-clause-lowest : goal.returns-clause-lowest
returns-clause-lowest c = (λ f. let h : 3 ≤ 0 = f.4 in omega arith, λ f. let h : 3 ≤ 1 = f.4 in omega arith)
