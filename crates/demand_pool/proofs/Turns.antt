-- A turn of a worker: the row of the method that it holds, callee by callee.
use Rattle.std.proofs.Common.{◌≡◌, ℕ, zero, suc, ◌+◌, ◌<◌, ◌≤◌, List, [], ◌∷◌, ◌++◌, length}
use Rattle.std.proofs.Common.{length-append, get_or, inl, inr, is_some, refl, sym, ap, ◌∙◌, subst, arith}
use Rattle.std.specs.Prelude.{slice_get, All, ◌⊎◌}
use Rattle.std.specs.Arc.{arc_value}
use Rattle.std.specs.List.{list_any}
use Rattle.std.proofs.lemmas.List.Elements.{All-nil, All-push}
use Rattle.std.proofs.lemmas.Bool.{or_right}
use Rattle.std.proofs.lemmas.Option.{slice_get-get_or}
use Rattle.racer_base.specs.declared.ids.MethodId.{MethodId}
use Rattle.core_code.specs.Chains.{row_of}
use Rattle.core_code.specs.Core.{Core}
use Rattle.core_code.specs.Counting.{IsIn, analysed_methods}
use Rattle.core_code.specs.Program.{core}
use Rattle.core_code.specs.CalleeRows.{AreRowsOf, rows_in, rows_of}
use Rattle.core_code.specs.declared.rows.CallRows.{CallRows}
use Rattle.core_code.proofs.Analysed.{analysed_of}
use Rattle.core_code.proofs.RowCallees.{is_method, row_there}
use Rattle.core_code.proofs.KindLemmas.{same_method}
use Rattle.transfer.specs.Callees.{AreCallees, SharedFinished, outcome_in}
use Rattle.transfer.proofs.Every.{one-fewer, row-done}
use Rattle.summary_store.specs.declared.machine.Hand.{Hand}
use Rattle.summary_store.specs.declared.machine.Hand.TheVariants.{Holds}
use Rattle.summary_store.specs.Passes.{WantsNext, PassView, pass_view}
use Rattle.demand_pool.specs.Pools.{AreFound}

-- ---- a place of a row, whatever stands behind its end

read_twice : (row : List MethodId) (i : ℕ) (d : MethodId) → i < length row
    → get_or row i d ≡ get_or row i (get_or row i d)
read_twice [] i d low = absurd (omega arith)
read_twice (x ∷ xs) zero d low = refl
read_twice (x ∷ xs) (suc i) d low = read_twice xs i d (omega arith)

same_default : (row : List MethodId) (i : ℕ) (a b : MethodId) → i < length row → get_or row i a ≡ get_or row i b
same_default [] i a b low = absurd (omega arith)
same_default (x ∷ xs) zero a b low = refl
same_default (x ∷ xs) (suc i) a b low = same_default xs i a b (omega arith)

pub at_any : (P : MethodId → Type 0) (row : List MethodId) (i : ℕ) (a : MethodId) → i < length row
    → P (get_or row i a) → (d : MethodId) → P (get_or row i d)
at_any P row i a low here d = subst P (same_default row i a d low) here

-- ---- the pieces that were found

module _ (p : Core) (callees : List MethodId) where
  pub found_none : (fs : List SharedFinished) → fs ≡ [] → AreFound p callees 0 fs
  found_none fs is =
      let IsFor : SharedFinished → Type 0 = λ f. core (arc_value (arc_value f).program) ≡ p in
      record {
        count = ap length is;
        same_program = subst (λ (l : List SharedFinished). All IsFor l) (sym is) (All-nil IsFor);
        there = λ n e. or_right (is_some (outcome_in fs n)) (list_any (is_method n) callees) e;
      }

  -- one callee more was found
  pub found_more : (i : ℕ) (d : MethodId) (now then : List SharedFinished) (piece : SharedFinished) → i < length callees
      → then ≡ now ++ piece ∷ [] → (arc_value piece).method.0 ≡ (get_or callees i d).0
      → core (arc_value (arc_value piece).program) ≡ p → AreFound p callees i now → AreFound p callees (i + 1) then
  found_more i d now then piece low is named right before =
      let IsFor : SharedFinished → Type 0 = λ f. core (arc_value (arc_value f).program) ≡ p in
      let more : AreFound p callees (i + 1) (now ++ piece ∷ []) = record {
        count = omega (arith, length-append now (piece ∷ []), before.count);
        same_program = All-push IsFor now piece before.same_program right;
        there = λ n e.
            one-fewer now piece callees i (get_or callees i d) n low (read_twice callees i d low)
            (same_method (arc_value piece).method (get_or callees i d) named) (before.there n e);
      } in
      subst (λ (fs : List SharedFinished). AreFound p callees (i + 1) fs) (sym is) more

-- the pass that found one callee more
pub pass_more : (before after : PassView) (v i : ℕ) (hand : Hand)
    → after ≡ pass_view before.number before.hand (before.found + 1) before.made
    → before.number ≡ v → before.hand ≡ hand → before.found ≡ i
    → (after.number ≡ v) × (after.hand ≡ hand) × (after.found ≡ i + 1)
pass_more before after v i hand is number holds found = (
  ap (λ (p : PassView). p.number) is ∙ number,
  ap (λ (p : PassView). p.hand) is ∙ holds,
  ap (λ (p : PassView). p.found) is ∙ ap (λ (n : ℕ). n + 1) found,
)

-- ---- the row of an analysed method of a program

module _ (p : Core) (r : CallRows) (m : MethodId) (are : AreRowsOf p r) where
  pub row_here : IsIn m (analysed_methods p) → m.0 < length (rows_in r)
  row_here known = row_there p (rows_in r) m (analysed_of p m known) are.rows_are

  module _ (row : List MethodId) (is : row ≡ row_of (rows_in r) m) (i : ℕ) where
    row_is : row ≡ row_of (rows_of p) m
    row_is = is ∙ ap (λ (rows : List (List MethodId)). row_of rows m) are.rows_are

    -- the callee at the next place is wanted next
    pub wants : (hand : Hand) (found : ℕ) (d : MethodId) → hand ≡ Holds m → found ≡ i → i < length row
        → WantsNext (rows_of p) hand found (get_or row i d)
    wants hand found d holds at low =
        let P : Hand → Type 0 = λ h. WantsNext (rows_of p) h found (get_or row i d) in
        subst P (sym holds) ((λ j. slice_get (sym row_is j) (at j)) ∙ slice_get-get_or row i d low)

    -- all callees are found
    pub all_found : (q : Core) (fs gs : List SharedFinished) → q ≡ p → gs ≡ fs → length row ≤ i →
        IsIn m (analysed_methods p)
        → AreFound p row i fs → AreCallees q m gs
    all_found q fs gs same pieces over known found =
        let all : AreCallees p m fs =
        row-done p m fs row i (analysed_of p m known) row_is over found.same_program found.there in
        subst (λ (c : Core). AreCallees c m gs) (sym same) (subst (AreCallees p m) (sym pieces) all)

-- ---- one callee more is done
below_or_at : (k i : ℕ) → k < i + 1 → (k < i) ⊎ (k ≡ i)
below_or_at k i h = grind arith

pub done_more : (P : MethodId → Type 0) (row : List MethodId) (i : ℕ)
    → ((k : ℕ) (d : MethodId) → k < i → P (get_or row k d)) → ((d : MethodId) → P (get_or row i d))
    → (k : ℕ) (d : MethodId) → k < i + 1 → P (get_or row k d)
done_more P row i before here k d less =
    elim (below_or_at k i less) as (λ x. P (get_or row k d)) [
      | inl b ↦ before k d b
      | inr e ↦ (let Q : ℕ → Type 0 = λ n. P (get_or row n d) in subst Q (sym e) (here d))
    ]
