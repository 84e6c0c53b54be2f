use Rattle.std.proofs.Common.{◌++◌, ap, ◌∙◌}
use Rattle.core_lowering_drafts.specs.Pieces.{all_parts}
use Rattle.core_lowering_context.specs.Drafts.{code_of}
use Rattle.core_lowering_context.proofs.Borders.{all-append}
use Rattle.core_lowering_context.proofs.making.Making.put.Goals as goal

pub returns : goal.returns
unfolding code_of
returns c =
    ap all_parts c.in_ok-append.ensures.items
    ∙ all-append c.args.self.now.pieces.items c.into_pieces-pieces.result.items
    ∙ ap (λ xs. all_parts c.args.self.now.pieces.items ++ xs) c.into_pieces-pieces.ensures
