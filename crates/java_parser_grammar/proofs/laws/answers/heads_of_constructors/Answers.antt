use Rattle.std.proofs.Common.{[], ◌∷◌, codes, refl, arith}
use Rattle.java_tree.specs.Words.{keyword}
use Rattle.java_tree.specs.Examples.{ints}
use Rattle.java_tree.specs.Trees.{VoidResult, TypeResult}
use Rattle.java_parser_grammar.proofs.NoTrees.{no_ending, texts_differ}
use Rattle.java_parser_grammar.proofs.laws.answers.heads_of_constructors.Goals as goal

pub returns-clause-other : goal.returns-clause-other
returns-clause-other c = λ k. texts_differ (codes "B") (codes "A") refl refl k.named

pub returns-clause-void : goal.returns-clause-void
returns-clause-void c = λ k. k.without_result ([], VoidResult, tt, omega arith, λ e. absurd cc, refl)

pub returns-clause-typed : goal.returns-clause-typed
returns-clause-typed c = λ k.
    k.without_result (keyword (codes "static") ∷ [], TypeResult (ints 0), refl, omega arith, λ e. absurd cc, refl)

pub returns-clause-annotated : goal.returns-clause-annotated
returns-clause-annotated c = record { named = refl; without_result = λ k. no_ending k.0 k.1 k.2 k.4 k.5 }
