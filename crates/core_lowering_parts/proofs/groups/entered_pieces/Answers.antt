use Rattle.std.proofs.Common.{◌≡◌, ◌≤◌, ℕ, zero, suc, false, ◌∷◌, [], ◌++◌, List, length, sym, ap, ◌∙◌, arith}
use Rattle.std.specs.Bool.{◌==◌}
use Rattle.core_lowering_drafts.specs.declared.draft.Part.TheVariants as part
use Rattle.core_lowering_drafts.specs.declared.draft.Piece.{Piece}
use Rattle.core_lowering_drafts.specs.declared.draft.Piece.TheVariants as piece
use Rattle.core_lowering_drafts.specs.Drafts.{Choice, in_order, no_part}
use Rattle.core_lowering_drafts.specs.Groups as groups
use Rattle.core_lowering_drafts.specs.Pieces.{all_parts}
use Rattle.core_lowering_rules.specs.Context.{Code}
use Rattle.core_lowering_parts.proofs.GroupsFallen.{fallen-there}
use Rattle.core_lowering_parts.proofs.groups.entered_pieces.Goals as goal

counted : (n : ℕ) → (n == 0) ≡ false → 1 ≤ n
counted zero h = absurd cc
counted (suc n) h = omega arith

pub returns : goal.returns
returns c =
    let all = c.args.falling.items in
    let some : (length all == 0) ≡ false =
    ap (λ (n : ℕ). n == 0) (sym c.args.falling.ok.0) ∙ sym c.is_empty.ensures ∙ c.if-is_empty.false in
    ap all_parts
    (c.in_ok-push.ensures.items
    ∙ ap (λ (xs : List Piece). xs ++ piece.Part (part.Entered c.in_ok-of.field-0) ∷ []) c.new-pieces.ensures.items)
    ∙ ap (λ (gs : List Code). Choice (in_order (groups.fallen gs)) no_part ∷ []) c.in_ok-of.ensures
    ∙ fallen-there all (counted (length all) some)
