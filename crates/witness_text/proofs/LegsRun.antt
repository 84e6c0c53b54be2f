-- A leg that is replayed, by how far it was run.
use Rattle.std.proofs.Common.{length, ◌≡◌, ℕ, [], ◌∷◌, None, Some, refl, ap, arith}
use Rattle.core_semantics.specs.Legs.{Ran, Came, Halted}
use Rattle.core_semantics.specs.State.{State}
use Rattle.core_ways.specs.declared.driving.LegEnd.{LegEnd}
use Rattle.core_ways.specs.declared.driving.LegEnd.TheVariants as code
use Rattle.core_ways.specs.Ends.{run_end}
use Rattle.witness_text.specs.Replays.{IsReplayed, replayed}

-- how far, of how far and what is so then
abbrev how_far : LegEnd × State → LegEnd
how_far x = x.0

-- a step could not be made
pub stops : (most n : ℕ) (r : Ran) (s : State) (end : LegEnd) → run_end r ≡ (end, s) → end ≡ code.Halted n →
    IsReplayed (replayed most r) (Some n) s
stops most n (Came to left) s end e is = let came : code.Came (length left) ≡ end = ap how_far e in absurd cc
stops most n (Halted halt at steps) s end e is =
    let far : code.Halted steps ≡ end = ap how_far e in
    let same : n ≡ steps = cc in
    same

-- all steps were made, and no turn is left
pub comes-through : (most n : ℕ) (r : Ran) (s : State) (end : LegEnd) → run_end r ≡ (end, s) → end ≡ code.Came n →
    n ≡ 0 → IsReplayed (replayed most r) None s
comes-through most n (Came to []) s end e is none = ap (λ (x : LegEnd × State). x.1) e
comes-through most n (Came to (turn ∷ turns)) s end e is none =
    let far : code.Came (length (turn ∷ turns)) ≡ end = ap how_far e in
    let count : length (turn ∷ turns) ≡ n = cc in
    absurd (omega (arith, count, none))
comes-through most n (Halted halt at steps) s end e is none =
    let far : code.Halted steps ≡ end = ap how_far e in absurd cc

-- some turns are
pub turns-over : (most n : ℕ) (r : Ran) (s : State) (end : LegEnd) → run_end r ≡ (end, s) → end ≡ code.Came n →
    (n ≡ 0 → ⊥) → IsReplayed (replayed most r) (Some most) s
turns-over most n (Came to []) s end e is some =
    let far : code.Came 0 ≡ end = ap how_far e in
    let none : n ≡ 0 = cc in
    absurd (some none)
turns-over most n (Came to (turn ∷ turns)) s end e is some = refl
turns-over most n (Halted halt at steps) s end e is some =
    let far : code.Halted steps ≡ end = ap how_far e in absurd cc
