use Rattle.std.proofs.Common.{◌≡◌, List, ◌++◌, take, drop, sym, ap, ◌∙◌}
use Rattle.core_lowering_drafts.specs.declared.draft.Piece.{Piece}
use Rattle.core_lowering_drafts.specs.Pieces.{all_parts}
use Rattle.core_lowering_context.proofs.Borders.{all-cut}
use Rattle.core_lowering_context.proofs.making.split_off.Goals as goal

pub returns-clause-whole : goal.returns-clause-whole
returns-clause-whole c =
    let all = c.args.pieces.now.items in
    let kept : c.split_off.new.self.items ≡ take c.in_ok-at.at all = c.in_ok-split_off.ensures.items in
    let tail : c.in_ok-split_off.field-0.items ≡ drop c.in_ok-at.at all = c.in_ok-split_off.ensures.tail in
    all-cut c.in_ok-at.at all
    ∙ ap (λ (xs : List Piece). all_parts xs ++ all_parts (drop c.in_ok-at.at all)) (sym kept)
    ∙ ap (λ (xs : List Piece). all_parts c.split_off.new.self.items ++ all_parts xs) (sym tail)
