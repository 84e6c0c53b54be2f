use Rattle.std.proofs.Common.{[], ◌∷◌, codes, refl}
use Rattle.java_tree.specs.Words.{keyword}
use Rattle.java_parser_grammar.proofs.NoTrees.{no_head, no_native, texts_differ}
use Rattle.java_parser_grammar.proofs.laws.answers.unknown_results.Goals as goal

pub returns-clause-native : goal.returns-clause-native
returns-clause-native c = (
  λ k. texts_differ (codes "f") (codes "A") refl refl k.named,
  λ r some h. no_native h.0 r (keyword (codes "void") ∷ []) h.1.formed h.1.result_formed some h.1.spelled,
)

pub returns-clause-nothing : goal.returns-clause-nothing
returns-clause-nothing c = (
  λ k. texts_differ (codes "f") (codes "A") refl refl k.named,
  λ r some h. no_head h.0 r h.1.result_formed some h.1.spelled,
)
