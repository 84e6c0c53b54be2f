-- How large pieces are that stand among others.
use Rattle.std.proofs.Common.{◌≡◌, ℕ, suc, ◌+◌, ◌*◌, ◌<◌, ◌≤◌, List}
use Rattle.std.proofs.Common.{[], ◌∷◌, ◌++◌, take, drop, length, get_or, refl, ap}
use Rattle.std.proofs.Common.{sym, ◌∙◌, append_assoc, arith}
use Rattle.std.proofs.lemmas.List.{take-append-drop}
use Rattle.std.proofs.Math.Seq.{drop-cons}
use Rattle.core_lowering_drafts.specs.declared.draft.Piece.{Piece}
use Rattle.core_lowering_drafts.specs.Drafts.{Part, Loop, in_order}
use Rattle.core_lowering_drafts.specs.Lists.{size_of}
use Rattle.core_lowering_drafts.specs.Pieces.{all_parts, parts_of}
use Rattle.core_lowering_drafts.specs.PieceFalls.{size_of-append}

-- a body that is done again, within its piece
pub again-falls : (P : Piece) (ps body : List Part) → parts_of P ≡ body ++ Loop (in_order body) ∷ [] → ps ≡ body →
    2 * size_of ps + 1 < 2 * size_of (parts_of P)
again-falls P ps body is same =
    let a : size_of (parts_of P) ≡ size_of body + size_of (Loop (in_order body) ∷ []) =
    ap (λ (xs : List Part). size_of xs) is ∙ size_of-append body (Loop (in_order body) ∷ []) in
    let b : size_of ps ≡ size_of body = ap (λ (xs : List Part). size_of xs) same in
    omega (arith, a, b)

all-append : (xs ys : List Piece) → all_parts (xs ++ ys) ≡ all_parts xs ++ all_parts ys
all-append [] ys = refl
all-append (x ∷ xs) ys =
    ap (λ (zs : List Part). parts_of x ++ zs) (all-append xs ys)
    ∙ sym (append_assoc (parts_of x) (all_parts xs) (all_parts ys))

-- a piece within all
pub piece-within : (ps : List Piece) (i : ℕ) (x : Piece) → i < length ps → x ≡ get_or ps i x →
    size_of (parts_of x) ≤ size_of (all_parts ps)
piece-within ps i x there is =
    let from : drop i ps ≡ x ∷ drop (suc i) ps =
    drop-cons ps i x there ∙ ap (λ (y : Piece). y ∷ drop (suc i) ps) (sym is) in
    let whole : all_parts ps ≡ all_parts (take i ps) ++ (parts_of x ++ all_parts (drop (suc i) ps)) =
    ap (λ (ys : List Piece). all_parts ys) (sym (take-append-drop i ps)) ∙ all-append (take i ps) (drop i ps)
    ∙ ap (λ (ys : List Piece). all_parts (take i ps) ++ all_parts ys) from in
    let size : size_of (all_parts ps)
    ≡ size_of (all_parts (take i ps)) + size_of (parts_of x ++ all_parts (drop (suc i) ps)) =
    ap (λ (ys : List Part). size_of ys) whole
    ∙ size_of-append (all_parts (take i ps)) (parts_of x ++ all_parts (drop (suc i) ps)) in
    omega (arith, size, size_of-append (parts_of x) (all_parts (drop (suc i) ps)))
