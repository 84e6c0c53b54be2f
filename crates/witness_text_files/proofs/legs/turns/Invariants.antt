use Rattle.std.proofs.Common.{◌≡◌, ◌++◌, drop, option_map}
use Rattle.witness_text_files.specs.Files as files
use Rattle.witness_text_files.proofs.legs.turns.Given as goal

-- the turns so far, and those of what is left, are those of all
abbrev pub invariant-loop-letter : goal.invariant-loop-letter
invariant-loop-letter l =
    option_map (λ rest. l.turns.items ++ rest) (files.turns_of (drop l.letter-index l.letters))
    ≡ files.turns_of l.fn.letters
