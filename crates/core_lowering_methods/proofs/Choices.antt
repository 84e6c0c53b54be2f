-- The code of choices out of the steps in which it is made.
use Rattle.std.proofs.Common.{◌≡◌, ℕ, [], ◌++◌, length, take, drop, sym, ap, ◌∙◌, append-nil}
use Rattle.core_lowering_rules.specs.Context.{Code, choice}
use Rattle.core_lowering_context.proofs.Pieces.{two_pieces, before_seam, behind_seam}

-- what is made of the parts from one on and of those from another
abbrev pub chosen : ℕ → ℕ → Code → Code
chosen l r parts = take l (take r parts) ++ choice (drop l (take r parts)) (drop r parts)

pub choice-made : (old one second third new first left right : Code) (l r : ℕ) → one ≡ old ++ first → l ≡ length one →
    second ≡ one ++ left → r ≡ length second → third ≡ second ++ right → new ≡ chosen l r third →
    new ≡ old ++ (first ++ choice left right)
choice-made old one second third new first left right l r p at_left q at_right u made =
    let front : take r third ≡ second =
    ap (λ (n : ℕ). take n third) at_right ∙ before_seam second third right u in
    let behind : drop r third ≡ right =
    ap (λ (n : ℕ). drop n third) at_right ∙ behind_seam second third right u in
    let kept : take l second ≡ one = ap (λ (n : ℕ). take n second) at_left ∙ before_seam one second left q in
    let taken : drop l second ≡ left = ap (λ (n : ℕ). drop n second) at_left ∙ behind_seam one second left q in
    two_pieces old one new first (choice left right) p
    (made
    ∙ ap (λ (x : Code). take l x ++ choice (drop l x) (drop r third)) front
    ∙ ap (λ (x : Code). take l second ++ choice (drop l second) x) behind
    ∙ ap (λ (x : Code). x ++ choice (drop l second) right) kept
    ∙ ap (λ (x : Code). one ++ choice x right) taken)

-- without a right side
pub half-made : (old one second new first left : Code) (l r : ℕ) → one ≡ old ++ first → l ≡ length one →
    second ≡ one ++ left → r ≡ length second → new ≡ chosen l r second → new ≡ old ++ (first ++ choice left [])
half-made old one second new first left l r p at_left q at_right made =
    choice-made old one second second new first left [] l r p at_left q at_right (sym (append-nil second)) made
