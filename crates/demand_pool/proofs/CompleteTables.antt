-- The outcomes of a complete run stand in its table.
use Rattle.std.proofs.Common.{◌≡◌, ℕ, List, Bool, true, false, cond, length, Option}
use Rattle.std.proofs.Common.{Some, None, refl, sym, ap, ◌∙◌, arith, option_map, is_none, inl, inr}
use Rattle.std.specs.Prelude.{slice_get, ◌⊎◌}
use Rattle.std.specs.Option.{option_and_then}
use Rattle.std.specs.Arc.{arc_value}
use Rattle.std.proofs.lemmas.Option.{slice_get-map}
use Rattle.racer_base.specs.declared.ids.MethodId.{MethodId}
use Rattle.core_code.specs.declared.program.Program.{Program}
use Rattle.core_code.specs.Calls.{method_at, is_analysed}
use Rattle.core_code.specs.Core.{Core, Method}
use Rattle.core_code.specs.Program.{core}
use Rattle.core_code.proofs.Analysed.{analysed_in}
use Rattle.core_code.proofs.KindLemmas.{same_method}
use Rattle.access_domain.specs.Findings.{Known, outcome_from}
use Rattle.access_domain.specs.Summaries.{outcome_of, known_given, known_of_callees}
use Rattle.transfer.specs.declared.finished.Finished.{Finished}
use Rattle.transfer.specs.Callees.{SharedFinished}
use Rattle.summary_store.specs.declared.machine.Event.{Event}
use Rattle.summary_store.specs.Machine.{IsComplete}
use Rattle.summary_store.specs.Kept.{IsRight, pieces_of}
use Rattle.summary_store.specs.Setups.{setup_of}
use Rattle.summary_store.proofs.Keeping.{length-pieces_of, past}
use Rattle.demand_pool.specs.Pools.{outcome_found}

abbrev analysed_at : Option Method → Bool
analysed_at None = false
analysed_at (Some method) = is_none method.status

without : (o : Option Method) (x : Method → Known) → analysed_at o ≡ false
    → option_map outcome_from
    (option_and_then (λ (method : Method). cond (is_none method.status) (Some (x method)) None) o) ≡ None
without None x e = refl
without (Some method) x e = ap (λ (b : Bool). option_map outcome_from (cond b (Some (x method)) None)) e

-- a method that is not analysed has no outcome
no_outcome : (program : Core) (m : MethodId) → is_analysed program m ≡ false → outcome_of program m ≡ None
no_outcome program m e = without (method_at program m) (known_given program (known_of_callees program m)) e

either : (b : Bool) → (b ≡ true) ⊎ (b ≡ false)
either true = inl refl
either false = inr refl

module _ (p : Program) (w : ℕ) (h : List Event) (table : List (Option SharedFinished)) (pieces : List (Option Finished))
    (is : pieces_of arc_value table ≡ pieces)
    (right : IsRight (λ (f : Finished). f.method) (λ (f : Finished). arc_value f.program ≡ p) (setup_of (core p) w) h
    pieces)
    (complete : IsComplete (setup_of (core p) w) h) where
  -- a place of the pieces is that of the table
  piece_at : (m : ℕ) (o : Option (Option SharedFinished)) → slice_get table m ≡ o
      → slice_get pieces m ≡ option_map (option_map arc_value) o
  piece_at m o at =
      ap (λ (l : List (Option Finished)). slice_get l m) (sym is)
      ∙ slice_get-map (option_map arc_value) table m ∙ ap (option_map (option_map arc_value)) at

  -- the outcome of what stands at the place of a method
  at_place : (m : MethodId) (o : Option (Option SharedFinished)) → slice_get table m.0 ≡ o
      → option_map (λ (f : Finished). arc_value f.outcome)
      (option_map arc_value (option_and_then (λ (piece : Option SharedFinished). piece) o)) ≡ outcome_of (core p) m
  at_place m None at =
      elim (either (is_analysed (core p) m)) [
        | inl there ↦ (
            let low = right.places m (analysed_in (core p) m there) in
            let same : length table ≡ length pieces = sym (length-pieces_of arc_value table) ∙ ap length is in
            absurd (past table m.0 at (omega (arith, low, same))))
        | inr apart ↦ sym (no_outcome (core p) m apart)
      ]
  at_place m (Some None) at =
      elim (either (is_analysed (core p) m)) [
        | inl there ↦ (
            let done = complete.0 m (analysed_in (core p) m there) in
            let none = right.none m.0 (piece_at m.0 (Some None) at) in
            absurd (omega (arith, done, none)))
        | inr apart ↦ sym (no_outcome (core p) m apart)
      ]
  at_place m (Some (Some f)) at =
      let piece = right.pieces m.0 (arc_value f) (piece_at m.0 (Some (Some f)) at) in
      let named = same_method (arc_value f).method m piece.0.0 in
      (arc_value f).right ∙ (λ i. outcome_of (core (piece.0.1 i)) (named i))

  pub found_right : (m : MethodId) → outcome_found table m.0 ≡ outcome_of (core p) m
  found_right m = at_place m (slice_get table m.0) refl
