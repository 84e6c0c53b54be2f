-- The lines of a run.
use Rattle.std.proofs.Common.{◌≡◌, ℕ, List, [], ◌++◌, append_assoc, append-nil, sym, ap, ◌∙◌}

-- the last piece of a list of pieces
pub behind_nothing : (a b c : List ℕ) → a ++ b ++ c ≡ a ++ (b ++ (c ++ []))
behind_nothing a b c = append_assoc a b c ∙ ap (λ t. a ++ (b ++ t)) (sym (append-nil c))
