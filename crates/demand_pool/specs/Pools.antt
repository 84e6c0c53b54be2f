-- A contract of a public call rests on this: `run_workers`. What the pool says of passes, of the pieces of a row, and
-- of its table.
use Rattle.std.specs.Prelude.{◌≡◌, ℕ, ◌<◌, ◌≤◌, false, true, ◌||◌, List, Option, option_map, is_some, drop}
use Rattle.std.specs.Prelude.{length, All, nat_eq}
use Rattle.std.specs.Prelude.{slice_get, slice_index_or}
use Rattle.std.specs.List.{list_any}
use Rattle.std.specs.Option.{option_and_then}
use Rattle.std.specs.Arc.{arc_value}
use Rattle.racer_base.specs.declared.ids.MethodId.{MethodId}
use Rattle.core_code.specs.Core.{Core}
use Rattle.core_code.specs.Program.{core}
use Rattle.access_domain.specs.declared.summary.Outcome.{Outcome}
use Rattle.access_domain.specs.Summaries.{outcome_of}
use Rattle.transfer.specs.declared.finished.Finished.{Finished}
use Rattle.transfer.specs.Callees.{SharedFinished, outcome_in}
use Rattle.summary_store.specs.declared.machine.Event.{Event}
use Rattle.summary_store.specs.Machine.{Setup, replay, HasLeft}
use Rattle.summary_store.specs.Passes.{PassView, is_gone}

-- who had left before has left after
abbrev pub LeftStays : Setup → List Event → List Event → Type 0
LeftStays u before after = (w : ℕ) → HasLeft (replay u before) w → HasLeft (replay u after) w

-- each pass has the number of its place
abbrev pub AreNumbered : List PassView → Type 0
AreNumbered passes = (k : ℕ) (d : PassView) → k < length passes → (slice_index_or passes k d).number ≡ k

-- the pass has left, or made at least so many events
abbrev pub HasWorked : ℕ → PassView → Type 0
HasWorked most pass = is_gone pass.hand ≡ false → most ≤ pass.made

-- each pass has
abbrev pub HaveWorked : ℕ → List PassView → Type 0
HaveWorked most passes = (k : ℕ) (d : PassView) → k < length passes → HasWorked most (slice_index_or passes k d)

-- what is found of a row behind its first i callees: as many pieces, finished for this program, and each method of the
-- row is one of them, or one of the callees from place i on
pub record AreFound (program : Core) (row : List MethodId) (i : ℕ) (fs : List SharedFinished) : Type 0 where
  pub count : length fs ≡ i
  pub same_program : All (λ (f : SharedFinished). core (arc_value (arc_value f).program) ≡ program) fs
  pub there : (n : MethodId) → list_any (λ (m : MethodId). nat_eq m.0 n.0) row ≡ true
      → (is_some (outcome_in fs n) || list_any (λ (m : MethodId). nat_eq m.0 n.0) (drop i row)) ≡ true

-- the outcome that a table has at a place
abbrev pub outcome_found : List (Option SharedFinished) → ℕ → Option Outcome
outcome_found table place =
    option_map (λ (f : Finished). arc_value f.outcome)
    (option_map arc_value (option_and_then (λ (piece : Option SharedFinished). piece) (slice_get table place)))

-- the table has the outcome of each method
abbrev pub AreAllFound : Core → List (Option SharedFinished) → Type 0
AreAllFound program table = (m : MethodId) → outcome_found table m.0 ≡ outcome_of program m
