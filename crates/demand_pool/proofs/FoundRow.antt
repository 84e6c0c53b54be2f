-- The pieces of a row that a worker found, and their copies.
use Rattle.std.proofs.Common.{◌≡◌, ℕ, List, [], ◌∷◌, ◌++◌, length, map, Some, is_some, ◌||◌, drop, nat_eq}
use Rattle.std.proofs.Common.{if◌then◌else◌, refl, sym, ap, ◌∙◌, subst, arith}
use Rattle.std.specs.Prelude.{All}
use Rattle.std.specs.Arc.{arc_value}
use Rattle.std.specs.List.{list_any}
use Rattle.std.proofs.lemmas.List.{length-map, map_push, get_or-map}
use Rattle.std.proofs.lemmas.List.Elements.{All-map}
use Rattle.racer_base.specs.declared.ids.MethodId.{MethodId}
use Rattle.core_code.specs.Core.{Core}
use Rattle.core_code.specs.Program.{core}
use Rattle.transfer.specs.declared.finished.Finished.{Finished}
use Rattle.transfer.specs.Callees.{SharedFinished, outcome_in}
use Rattle.demand_pool.specs.Pools.{AreFound}
use Rattle.demand_pool.specs.RowPieces.{shared_in}
use Rattle.demand_pool.specs.declared.row_pieces.FoundPiece.{FoundPiece}

-- one piece more was found
pub shared_pushed : (old new : List FoundPiece) (piece : FoundPiece) → new ≡ old ++ piece ∷ []
    → map shared_in new ≡ map shared_in old ++ shared_in piece ∷ []
shared_pushed old new piece e = ap (map shared_in) e ∙ map_push shared_in old piece

-- ---- all that is asked of pieces is asked of what stands behind their pointers

outcome_alike : (fs gs : List SharedFinished) (n : MethodId) → map arc_value gs ≡ map arc_value fs
    → outcome_in gs n ≡ outcome_in fs n
outcome_alike [] [] n e = refl
outcome_alike [] (g ∷ gs) n e = absurd cc
outcome_alike (f ∷ fs) [] n e = absurd cc
outcome_alike (f ∷ fs) (g ∷ gs) n e =
    let first : arc_value g ≡ arc_value f = cc in
    let rest : map arc_value gs ≡ map arc_value fs = cc in (λ i.
    if nat_eq (first i).method.0 n.0
    then Some (arc_value (first i).outcome)
    else outcome_alike fs gs n rest i)

all_alike : (P : Finished → Type 0) (fs gs : List SharedFinished) → map arc_value gs ≡ map arc_value fs
    → All (λ f. P (arc_value f)) fs → All (λ f. P (arc_value f)) gs
all_alike P fs gs e all k d low =
    let there : All P (map arc_value gs) = subst (All P) (sym e) (All-map P arc_value fs all) in
    subst P (get_or-map arc_value gs k d (arc_value d) low)
    (there k (arc_value d) (omega (arith, low, length-map gs arc_value)))

-- copies of what was found are found
pub found_copies : (p : Core) (row : List MethodId) (i : ℕ) (fs gs : List SharedFinished)
    → map arc_value gs ≡ map arc_value fs → AreFound p row i fs → AreFound p row i gs
found_copies p row i fs gs e found =
    record {
      count = omega (arith, ap length e, length-map gs arc_value, length-map fs arc_value, found.count);
      same_program = all_alike (λ (f : Finished). core (arc_value f.program) ≡ p) fs gs e found.same_program;
      there = λ n called.
          ap (λ o. is_some o || list_any (λ (m : MethodId). nat_eq m.0 n.0) (drop i row)) (outcome_alike fs gs n e)
          ∙ found.there n called;
    }
