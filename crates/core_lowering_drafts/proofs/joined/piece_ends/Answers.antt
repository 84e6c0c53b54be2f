use Rattle.std.proofs.Common.{◌≡◌, [], ◌∷◌, ◌++◌}
use Rattle.std.proofs.lemmas.Result.{IfOk-weaker}
use Rattle.core_lowering_drafts.specs.Drafts.{Loop, SameEnds, in_order, part_ends}
use Rattle.core_lowering_drafts.specs.EndSets.{seen}
use Rattle.core_lowering_drafts.specs.Lists.{ends_of}
use Rattle.core_lowering_drafts.specs.Pieces.{part_of, parts_of}
use Rattle.core_lowering_drafts.proofs.DraftEnds.{again-ends, copy-same, kept-ends, one-ends, piece-arm, same-trans}
use Rattle.core_lowering_drafts.proofs.joined.piece_ends.Goals as goal

pub returns-in-Part : goal.returns-in-Part
returns-in-Part c =
    let p = part_of c.in-Part.part in
    IfOk-weaker c.part_ends.result (λ x. SameEnds (seen x) (part_ends p))
    (λ x. SameEnds (seen x) (ends_of (parts_of c.args.piece.now)))
    (λ x s. piece-arm (seen x) c.args.piece.now _ c.in-Part.is
    (same-trans (seen x) (part_ends p) (ends_of (p ∷ [])) s (one-ends p)))
    c.part_ends.ensures

pub returns-in-Again : goal.returns-in-Again
returns-in-Again c =
    let b = c.in-Again.body.value in
    IfOk-weaker c.copied.result (λ x. seen x ≡ seen c.ends.result.now)
    (λ x. SameEnds (seen x) (ends_of (parts_of c.args.piece.now)))
    (λ x s. piece-arm (seen x) c.args.piece.now _ c.in-Again.is
    (same-trans (seen x) (ends_of b) (ends_of (b ++ Loop (in_order b) ∷ []))
    (copy-same (seen x) (seen c.ends.result.now) (ends_of b) s
    (kept-ends (seen c.ends.result.now) c.deref.result.now b c.deref.ensures c.ends.ensures)) (again-ends b)))
    c.copied.ensures
