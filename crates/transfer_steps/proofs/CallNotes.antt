-- What a call finds is noted by numbers of a table that goes on from the one before.
use Rattle.std.proofs.Common.{◌≡◌, ℕ, List, [], ◌∙◌}
use Rattle.std.specs.Prelude.{Result}
use Rattle.access_paths.specs.declared.path.Path.{Path}
use Rattle.access_paths.specs.Table.{IsTable, GoesOn}
use Rattle.owner_domain.specs.declared.value.Value.{Value}
use Rattle.owner_domain.specs.declared.numbered.NumberedValue.{NumberedValue}
use Rattle.owner_domain.specs.declared.numbered.NumberedState.{NumberedState}
use Rattle.owner_domain.specs.Numbered.{read_value, read_state, IsInRange, AreInRange}
use Rattle.owner_domain.specs.Slots.{replaced_numbers}
use Rattle.access_domain.specs.declared.numbered.NumberedAccess.{NumberedAccess}
use Rattle.access_domain.specs.Numbered.{read_accesses, AreNumbered}
use Rattle.access_domain.specs.Operations.{replaced}
use Rattle.transfer_steps.specs.declared.found.Stop.{Stop}
use Rattle.transfer_steps.specs.declared.numbered_found.NumberedFound.{NumberedFound}
use Rattle.transfer_steps.specs.Marks.{IsMarked, marks}
use Rattle.transfer_steps.specs.Numbered.{read_found, AreFoundNumbers}
use Rattle.transfer_steps.proofs.Longer.{marked-longer}
use Rattle.transfer_steps.proofs.Readings.{state-longer, state-still, found-still}
use Rattle.transfer_steps.proofs.SlotsRead.{replaced-read, replaced-in}

-- records that are noted in every table are noted behind what was found in an earlier one
pub records-marked : (old new : List Path) (on : GoesOn old new) (once : IsTable new) (f : NumberedFound)
    (low : AreFoundNumbers old f) (later : NumberedFound) {X : Type 0} (r : Result X Stop)
    (records : List NumberedAccess) → AreNumbered new records →
    ((table : List Path) → IsTable table → AreFoundNumbers table f → AreNumbered table records →
    IsMarked (read_found table f) (marks (read_accesses table records) []) (read_found table later) r) →
    IsMarked (read_found old f) (marks (read_accesses new records) []) (read_found new later) r
records-marked old new on once f low later r records within note =
    marked-longer old new on f (marks (read_accesses new records) []) (read_found new later) r low
    (note new once (found-still old new on f low) within)

-- the values that a call takes are replaced by the one that it returns
module _ (old new : List Path) (on : GoesOn old new) (s : NumberedState) (n : ℕ) (v : NumberedValue)
    (low : AreInRange old s) where
  pub replaced-longer : (value : Value) → read_value new v ≡ value →
      read_state new (replaced_numbers s n v) ≡ replaced (read_state old s) n value
  replaced-longer value is =
      replaced-read new s n v ∙ (λ i. replaced (state-longer old new on s low i) n (is i))

  pub replaced-still : IsInRange new v → AreInRange new (replaced_numbers s n v)
  replaced-still last = replaced-in new s n v (state-still old new on s low) last
