use Rattle.std.proofs.Common.{[], ap, sym, ◌∙◌}
use Rattle.java_tree.specs.KeptPlaces.{kept, init_places}
use Rattle.java_tree.specs.Trees.{Init}
use Rattle.java_tree.specs.View.{init_of}
use Rattle.java_parser_grammar.proofs.FoundExpressions.{one_init}
use Rattle.java_parser_expressions.proofs.MarkShapes.{one_at}
use Rattle.java_parser_expressions.proofs.ViewShapes.{init_shape}
use Rattle.java_parser_expressions.proofs.ExpressionShapes.{init_fits}
use Rattle.java_parser_expressions.proofs.laws.one_placed_initialiser.Goals as goal

pub returns : goal.returns
returns c tokens a b x y =
    let e = one_init (init_of a) (init_of b) x.formed y.formed (x.spells ∙ sym y.spells) in
    let same = ap (λ (v : Init). init_shape v []) e in (
      e,
      one_at (init_places a []) (init_places b []) (kept tokens) (init_fits a [] ∙ (same ∙ sym (init_fits b [])))
          x.stands y.stands,
    )
