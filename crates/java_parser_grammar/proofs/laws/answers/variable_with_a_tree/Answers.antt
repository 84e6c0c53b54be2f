use Rattle.std.proofs.Common.{◌∷◌, [], codes, refl, sym, subst, arith}
use Rattle.java_tree.specs.KeptPlaces.{kept, AreAt}
use Rattle.java_parser_grammar.specs.FieldDivisions.{BeginsWith, IsInit}
use Rattle.java_parser_grammar.specs.UnitExamples.{placed_texts}
use Rattle.java_parser_grammar.proofs.laws.answers.variable_with_a_tree.Goals as goal

pub returns : goal.returns
returns c = λ v i n p f e places. (
  refl,
  n,
  p,
  subst (BeginsWith (placed_texts 3 (codes "=" ∷ codes "y" ∷ []))) (sym f) (
    refl,
    subst (IsInit (placed_texts 5 (codes "y" ∷ []))) (sym e) (record {
      formed = tt;
      nested = omega arith;
      spelled = refl;
    }),
    subst (λ ms. AreAt ms (kept (placed_texts 5 (codes "y" ∷ [])))) (sym places) (refl, tt),
  ),
)
