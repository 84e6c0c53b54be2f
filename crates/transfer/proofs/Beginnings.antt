-- Where a method begins, over numbers, and what is found of it at its end.
use Rattle.std.proofs.Common.{◌≡◌, List, [], ◌∷◌, ◌++◌, sym, ap, ◌∙◌}
use Rattle.std.specs.Prelude.{Result, Ok, Err, OnOk}
use Rattle.std.proofs.lemmas.List.{map-append}
use Rattle.access_paths.specs.declared.path.Path.{Path}
use Rattle.access_paths.specs.Table.{GoesOn}
use Rattle.owner_domain.specs.declared.value.State.{State}
use Rattle.owner_domain.specs.declared.value.Value.{Value}
use Rattle.owner_domain.specs.declared.numbered.NumberedValue.{NumberedValue}
use Rattle.owner_domain.specs.Numbered.{read_value, IsInRange, AllInRange}
use Rattle.access_domain.specs.declared.access.Access.{Access}
use Rattle.access_domain.specs.Operations.{Effects}
use Rattle.access_domain.specs.Records.{first_of_keys}
use Rattle.access_domain.proofs.AdditionLemmas.{keys_added-nil}
use Rattle.call_subst.specs.Numbered.{read_values}
use Rattle.transfer_steps.specs.declared.found.Found.{Found}
use Rattle.transfer_steps.specs.declared.found.Stop.{Stop}
use Rattle.transfer_steps.specs.Marks.{IsMarked, nothing}
use Rattle.transfer_steps.proofs.Callees.{firsts-added}
use Rattle.transfer_steps.proofs.Readings.{values-longer, all-longer}
use Rattle.transfer_steps.proofs.SlotsRead.{append-in}

-- one more value, whose path is in a longer table
module _ (old new : List Path) (on : GoesOn old new) (values : List NumberedValue) (v : NumberedValue)
    (low : AllInRange old values) where
  pub values-more : read_values new (values ++ v ∷ []) ≡ read_values old values ++ read_value new v ∷ []
  values-more =
      map-append (read_value new) values (v ∷ [])
      ∙ ap (λ (vs : List Value). vs ++ read_value new v ∷ []) (values-longer old new on values low)

  pub values-more-in : IsInRange new v → AllInRange new (values ++ v ∷ [])
  values-more-in last = append-in new values (v ∷ []) (all-longer old new on values low) (last, tt)

-- the first records of each key are those of themselves
pub firsts-once : (xs : List Access) → first_of_keys (first_of_keys xs) ≡ first_of_keys xs
firsts-once xs = sym (keys_added-nil (first_of_keys xs)) ∙ firsts-added [] xs ∙ keys_added-nil xs

-- what is found of a method has the first records of each key
pub found-firsts : {X : Type 0} (e : Effects) (new : Found) (r : Result X Stop) → IsMarked nothing e new r →
    OnOk r (first_of_keys new.records ≡ new.records)
found-firsts e new (Ok x) m =
    let records : new.records ≡ first_of_keys e.records =
    ap (λ (f : Found). f.records) m.0 ∙ keys_added-nil e.records in
    ap first_of_keys records ∙ firsts-once e.records ∙ sym records
found-firsts e new (Err stop) m = tt

-- these variables, and nothing on the stack
abbrev pub stack_of_values : List Value → State
stack_of_values vars = record { vars = vars; stack = [] }
