-- What is said in a table is said in a longer one, and what is said behind one step and another is said behind both.
use Rattle.std.proofs.Common.{◌≡◌, ℕ, List, [], ◌∷◌, take, reverse, sym, ap, subst, ◌∙◌}
use Rattle.std.proofs.lemmas.List.{take-map, reverse-append}
use Rattle.std.specs.Prelude.{Result, Ok, Err, OnOk}
use Rattle.indexmap.proofs.ReorderLemmas.{map-reverse}
use Rattle.access_paths.specs.declared.path.Path.{Path}
use Rattle.access_paths.specs.Table.{IsTable, GoesOn}
use Rattle.access_paths.proofs.Numbers.{goes_on-trans}
use Rattle.owner_domain.specs.declared.numbered.NumberedValue.{NumberedValue}
use Rattle.owner_domain.specs.declared.numbered.NumberedState.{NumberedState}
use Rattle.owner_domain.specs.Numbered.{read_value, read_state, AllInRange, AreInRange}
use Rattle.access_domain.specs.Operations.{Effects, passed_from}
use Rattle.call_subst.specs.Numbered.{read_values}
use Rattle.transfer_steps.specs.declared.found.Found.{Found}
use Rattle.transfer_steps.specs.declared.found.Stop.{Stop}
use Rattle.transfer_steps.specs.declared.numbered_found.NumberedFound.{NumberedFound}
use Rattle.transfer_steps.specs.Marks.{IsMarked}
use Rattle.transfer_steps.specs.Numbered.{read_found, AreFoundNumbers, IsFlowOf}
use Rattle.owner_domain.specs.Slots.{passed_numbers}
use Rattle.transfer_steps.proofs.Readings.{state-still, found-longer, found-still}
use Rattle.transfer_steps.proofs.SlotsRead.{take-in, append-in}

-- ---- where a call goes well

pub always : {X E : Type 0} (r : Result X E) (P : Type 0) → P → OnOk r P
always (Ok x) P p = p
always (Err e) P p = tt

pub on_ok_then : {X E : Type 0} (r : Result X E) (P Q : Type 0) → OnOk r P → (P → Q) → OnOk r Q
on_ok_then (Ok x) P Q p f = f p
on_ok_then (Err e) P Q p f = tt

-- ---- the values that a call passes

reverse-in : (table : List Path) (xs : List NumberedValue) → AllInRange table xs → AllInRange table (reverse xs)
reverse-in table [] low = tt
reverse-in table (x ∷ xs) low =
    subst (AllInRange table) (sym (reverse-append (x ∷ []) xs))
    (append-in table (reverse xs) (x ∷ []) (reverse-in table xs low.1) (low.0, tt))

pub passed-in : (table : List Path) (s : NumberedState) (n : ℕ) → AreInRange table s →
    AllInRange table (passed_numbers s n)
passed-in table s n low = reverse-in table (take n s.stack) (take-in table n s.stack low.1)

pub passed-read : (table : List Path) (s : NumberedState) (n : ℕ) →
    read_values table (passed_numbers s n) ≡ passed_from (read_state table s) n
passed-read table s n =
    map-reverse (read_value table) (take n s.stack) ∙ sym (ap reverse (take-map (read_value table) n s.stack))

-- ---- one step and another

module _ (old new : List Path) (on : GoesOn old new) where
  -- what is marked in a longer table
  pub marked-longer : {X : Type 0} (f : NumberedFound) (e : Effects) (g : Found) (r : Result X Stop) →
      AreFoundNumbers old f → IsMarked (read_found new f) e g r → IsMarked (read_found old f) e g r
  marked-longer f e g r low m = subst (λ (x : Found). IsMarked x e g r) (found-longer old new on f low) m

  pub flow-still : (s : NumberedState) (f : NumberedFound) → IsTable new → IsFlowOf old s f → IsFlowOf new s f
  flow-still s f once low =
      record {
        once = once;
        state = state-still old new on s low.state;
        noted = found-still old new on f low.noted;
      }

  -- the table goes on from an earlier one too
  pub on-then : {X E : Type 0} (first : List Path) (r : Result X E) → GoesOn first old → OnOk r (GoesOn old new) →
      OnOk r (GoesOn first new)
  on-then first r before after =
      on_ok_then r (GoesOn old new) (GoesOn first new) after (goes_on-trans first old new before)
