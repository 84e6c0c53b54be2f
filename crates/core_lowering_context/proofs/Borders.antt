-- Positions among parts, which lie at the borders of pieces.
use Rattle.std.proofs.Common.{◌≡◌, ℕ, ◌+◌, ◌-◌, ◌<◌, ◌≤◌, List, [], ◌∷◌, ◌++◌, take, drop, length, get_or, refl}
use Rattle.std.proofs.Common.{sym, ap, ◌∙◌, append_assoc, arith}
use Rattle.std.proofs.lemmas.List.{append-nil, length-append, take-append-drop}
use Rattle.std.proofs.Math.Seq.{take-append_seam, drop-append_seam}
use Rattle.core_lowering_drafts.specs.declared.draft.Piece.{Piece}
use Rattle.core_lowering_drafts.specs.Lists.{Parts}
use Rattle.core_lowering_drafts.specs.Pieces.{all_parts, parts_of}
use Rattle.core_lowering_drafts.proofs.Backwards.{one-before}

pub all-append : (xs ys : List Piece) → all_parts (xs ++ ys) ≡ all_parts xs ++ all_parts ys
all-append [] ys = refl
all-append (x ∷ xs) ys =
    ap (λ (zs : Parts). parts_of x ++ zs) (all-append xs ys)
    ∙ sym (append_assoc (parts_of x) (all_parts xs) (all_parts ys))

pub all-one : (xs : List Piece) (x : Piece) → all_parts (xs ++ x ∷ []) ≡ all_parts xs ++ parts_of x
all-one xs x = all-append xs (x ∷ []) ∙ ap (λ (zs : Parts). all_parts xs ++ zs) (append-nil (parts_of x))

-- the pieces before one and those from it on
pub all-cut : (i : ℕ) (ps : List Piece) → all_parts ps ≡ all_parts (take i ps) ++ all_parts (drop i ps)
all-cut i ps = ap (λ (xs : List Piece). all_parts xs) (sym (take-append-drop i ps)) ∙ all-append (take i ps) (drop i ps)

-- ---- what stands before a position, where so many parts stand behind it

front-length : (all front back : Parts) (len at count : ℕ) → len ≡ length all → count ≡ len - at → at ≤ len →
    all ≡ front ++ back → length back ≡ count → length front ≡ at
front-length all front back len at count whole rest fits is parts =
    let both : length all ≡ length front + length back = ap length is ∙ length-append front back in
    omega (arith, whole, rest, fits, both, parts)

pub front-is : (all front back : Parts) (len at count : ℕ) → len ≡ length all → count ≡ len - at → at ≤ len →
    all ≡ front ++ back → length back ≡ count → front ≡ take at all
front-is all front back len at count whole rest fits is parts =
    sym (take-append_seam front back)
    ∙ ap (λ n. take n (front ++ back)) (front-length all front back len at count whole rest fits is parts)
    ∙ ap (take at) (sym is)

pub back-is : (all front back : Parts) (len at count : ℕ) → len ≡ length all → count ≡ len - at → at ≤ len →
    all ≡ front ++ back → length back ≡ count → back ≡ drop at all
back-is all front back len at count whole rest fits is parts =
    sym (drop-append_seam front back)
    ∙ ap (λ n. drop n (front ++ back)) (front-length all front back len at count whole rest fits is parts)
    ∙ ap (drop at) (sym is)

-- ---- going back over the pieces

pub one-more : (ps : List Piece) (i left less parts count : ℕ) (x : Piece) → 0 < i → i ≤ length ps →
    x ≡ get_or ps (i - 1) x → parts ≡ length (parts_of x) → less + parts ≡ left →
    left + length (all_parts (drop i ps)) ≡ count → less + length (all_parts (drop (i - 1) ps)) ≡ count
one-more ps i left less parts count x some within is counted falls so_far =
    let next : length (all_parts (drop (i - 1) ps)) ≡ length (parts_of x) + length (all_parts (drop i ps)) =
    ap (λ (xs : List Piece). length (all_parts xs)) (one-before ps i x some within is)
    ∙ length-append (parts_of x) (all_parts (drop i ps)) in
    omega (arith, next, counted, falls, so_far)
