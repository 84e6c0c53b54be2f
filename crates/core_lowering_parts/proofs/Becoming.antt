-- The parts from one on, and what is made of them.
use Rattle.std.proofs.Common.{◌≡◌, ℕ, Bool, ◌&&◌, ◌++◌, length, take, drop, ap, ◌∙◌, append_assoc}
use Rattle.core_lowering_rules.specs.Context.{Code}
use Rattle.core_lowering_parts.specs.StatementParts.{Becomes, broken_at}
use Rattle.core_lowering_context.proofs.Pieces.{two_pieces, before_seam, behind_seam}

pub becomes : (at : ℕ) (f : Code → Code) (old new : Code) → new ≡ take at old ++ f (drop at old) →
    Becomes at f old new
becomes at f old new made left right here is =
    made
    ∙ ap (λ n. take n old ++ f (drop n old)) here
    ∙ ap (λ x. x ++ f (drop (length left) old)) (before_seam left old right is)
    ∙ ap (λ x. left ++ f x) (behind_seam left old right is)

-- one after another
pub becomes-then : (at : ℕ) (f g : Code → Code) (a b c : Code) → Becomes at f a b → Becomes at g b c →
    Becomes at (λ x. g (f x)) a c
becomes-then at f g a b c p q left right here is = q left (f right) here (p left right here is)

-- what is put at the end
pub becomes-more : (at : ℕ) (a b more : Code) → b ≡ a ++ more → Becomes at (λ x. x ++ more) a b
becomes-more at a b more p left right here is = p ∙ ap (λ x. x ++ more) is ∙ append_assoc left right more

-- a piece that stands behind others becomes something
pub grown-behind : (f : Code → Code) (old one second new x y : Code) (at : ℕ) → one ≡ old ++ x → at ≡ length one →
    second ≡ one ++ y → Becomes at f second new → new ≡ old ++ (x ++ f y)
grown-behind f old one second new x y at p here q made = two_pieces old one new x (f y) p (made one y here q)

pub grown : (f : Code → Code) (old second new y : Code) (at : ℕ) → at ≡ length old → second ≡ old ++ y →
    Becomes at f second new → new ≡ old ++ f y
grown f old second new y at here q made = made old y here q

-- a loop, of what stands in it
pub loop-made : (f : Code → Code) (at exit : ℕ) (flag is_endless has_break : Bool) (old one second new more : Code) →
    one ≡ old ++ more → second ≡ take at one ++ f (drop at one) → flag ≡ (is_endless && has_break) →
    Becomes at (broken_at exit flag) second new →
    Becomes at (λ body. broken_at exit (is_endless && has_break) (f (body ++ more))) old new
loop-made f at exit flag is_endless has_break old one second new more p q e closes left right here is =
    becomes-then at (λ x. f (x ++ more)) (broken_at exit flag) old second new
    (becomes-then at (λ x. x ++ more) f old one second (becomes-more at old one more p) (becomes at f one second q))
    closes left right here is
    ∙ ap (λ (b : Bool). left ++ broken_at exit b (f (right ++ more))) e
