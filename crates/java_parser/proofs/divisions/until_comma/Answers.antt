use Rattle.std.proofs.Common.{ap, ◌∙◌, sym, refl, take, arith}
use Rattle.java_parser_grammar.specs.Pieces.{items_of}
use Rattle.java_parser_grammar.specs.FieldDivisions.{before_first, between_commas}
use Rattle.java_parser.proofs.HeadSteps.{take_step}
use Rattle.java_parser.proofs.Walks.{went}
use Rattle.java_parser.proofs.DivisionSteps.{comma_start, comma_later}
use Rattle.java_parser.proofs.divisions.until_comma.Goals as goal

pub loop-item-init : goal.loop-item-init
loop-item-init c = record { at = refl; within = omega arith; gives = comma_start c.args.tokens.now }

pub loop-item-preserved : goal.loop-item-preserved
loop-item-preserved c =
    let tokens = c.args.tokens.now in
    let rest = c.loop-item.rest.now in
    let item = c.in-Some.item.now in
    let after = c.in-Some.after.now in
    let size = c.loop-item.size in
    let w = went tokens rest item after size c.loop-item.invariant.at c.loop-item.invariant.within
    c.in-Some.ensures.parts in
    record {
      gives = ap (λ l. before_first l (between_commas (items_of after))) (take_step tokens rest item after size
          c.loop-item.invariant.at c.in-Some.ensures.parts w.at)
          ∙ comma_later (take size tokens) rest item after (between_commas (items_of tokens))
          c.loop-item.invariant.gives c.in-Some.ensures.first (sym c.begins_sign.ensures ∙ c.if-begins_sign.false);
      at = w.at;
      within = w.within;
    }
