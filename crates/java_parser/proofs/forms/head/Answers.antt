use Rattle.std.proofs.Common.{take, ap, sym, ◌∙◌}
use Rattle.java_parser_grammar.specs.Pieces.{pieces_of}
use Rattle.java_parser_grammar.specs.Members.{before_parentheses}
use Rattle.java_parser.specs.FormView.{behind_front}
use Rattle.java_parser.proofs.HeadSteps.{head_more, take_step}
use Rattle.java_parser.proofs.Walks.{went}
use Rattle.java_parser.proofs.forms.head.Goals as goal

pub loop-piece-preserved : goal.loop-piece-preserved
loop-piece-preserved c =
    let member = c.args.member.now in
    let rest = c.loop-piece.rest.now in
    let piece = c.in-Some.piece.now in
    let after = c.in-Some.after.now in
    let size = c.loop-piece.size in
    let w = went member rest piece after size c.loop-piece.invariant.at c.loop-piece.invariant.within
    c.in-Some.ensures.parts in
    record {
      gives = ap (λ l. behind_front l (before_parentheses (pieces_of after))) (take_step member rest piece after size
          c.loop-piece.invariant.at c.in-Some.ensures.parts w.at)
          ∙ head_more (take size member) (pieces_of rest) (pieces_of after) piece c.in-Some.ensures.first
          (sym c.begins_sign.ensures ∙ c.if-begins_sign.false)
          (sym c.begins_sign-in-Some.ensures ∙ c.if-begins_sign-2.false)
          ∙ c.loop-piece.invariant.gives;
      at = w.at;
      within = w.within;
    }
