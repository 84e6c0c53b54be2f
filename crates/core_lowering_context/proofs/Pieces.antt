-- Code that is put behind code, and what of it goes into one part.
use Rattle.std.proofs.Common.{◌≡◌, List, ◌++◌, length, take, drop, refl, ap}
use Rattle.std.proofs.Common.{◌∙◌}
use Rattle.std.proofs.Common.{append_assoc}
use Rattle.std.proofs.Math.Seq.{take-append_seam, drop-append_seam}
use Rattle.core_lowering_rules.specs.Context.{Code}

-- two pieces, one behind the other
pub two_pieces : {A : Type 0} (a b c x y : List A) → b ≡ a ++ x → c ≡ b ++ y → c ≡ a ++ (x ++ y)
two_pieces a b c x y p q = q ∙ ap (λ z. z ++ y) p ∙ append_assoc a x y

-- what stands before a seam, and behind it
pub before_seam : {A : Type 0} (a b x : List A) → b ≡ a ++ x → take (length a) b ≡ a
before_seam a b x p = ap (take (length a)) p ∙ take-append_seam a x

pub behind_seam : {A : Type 0} (a b x : List A) → b ≡ a ++ x → drop (length a) b ≡ x
behind_seam a b x p = ap (drop (length a)) p ∙ drop-append_seam a x

-- what is behind a seam goes into one part
pub gathered : (f : Code → Code) (start a b x y : Code) → a ≡ start ++ x → b ≡ a ++ y →
    take (length a) b ++ f (drop (length a) b) ≡ start ++ (x ++ f y)
gathered f start a b x y p q =
    ap (λ z. z ++ f (drop (length a) b)) (before_seam a b y q)
    ∙ ap (λ z. a ++ f z) (behind_seam a b y q)
    ∙ two_pieces start a (a ++ f y) x (f y) p refl
