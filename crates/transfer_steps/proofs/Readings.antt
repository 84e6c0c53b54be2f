-- What is here and what was found, read through a table: through a longer one it is the same.
use Rattle.std.proofs.Common.{◌≡◌, List, [], ◌∷◌, Option, None, Some, option_map, refl, ap}
use Rattle.access_paths.specs.declared.path.Path.{Path}
use Rattle.access_paths.specs.Table.{GoesOn}
use Rattle.access_paths.proofs.Numbers.{goes_on-at, number-still}
use Rattle.owner_domain.specs.declared.value.Value.TheVariants as value
use Rattle.owner_domain.specs.declared.numbered.NumberedValue.{NumberedValue}
use Rattle.owner_domain.specs.declared.numbered.NumberedValue.TheVariants.{Owned, Named, Unnamed}
use Rattle.owner_domain.specs.declared.numbered.NumberedState.{NumberedState}
use Rattle.owner_domain.specs.Numbered.{read_value, read_state, IsInRange, AllInRange, AreInRange}
use Rattle.access_domain.proofs.NumberedReading.{accesses-longer, numbered-longer}
use Rattle.call_subst.specs.Numbered.{read_values}
use Rattle.call_subst.proofs.NumberedSets.{set-longer, wobbly-longer}
use Rattle.transfer_steps.specs.declared.numbered_found.NumberedFound.{NumberedFound}
use Rattle.transfer_steps.specs.Numbered.{read_found, AreFoundNumbers, IsResultInRange}

module _ (old new : List Path) (on : GoesOn old new) where
  pub value-longer : (v : NumberedValue) → IsInRange old v → read_value new v ≡ read_value old v
  value-longer Owned low = refl
  value-longer (Named n) low = ap value.Named (goes_on-at old new n on low)
  value-longer Unnamed low = refl

  pub range-longer : (v : NumberedValue) → IsInRange old v → IsInRange new v
  range-longer Owned low = tt
  range-longer (Named n) low = number-still old new n on low
  range-longer Unnamed low = tt

  pub values-longer : (vs : List NumberedValue) → AllInRange old vs → read_values new vs ≡ read_values old vs
  values-longer [] low = refl
  values-longer (v ∷ vs) low = (λ i. value-longer v low.0 i ∷ values-longer vs low.1 i)

  pub all-longer : (vs : List NumberedValue) → AllInRange old vs → AllInRange new vs
  all-longer [] low = tt
  all-longer (v ∷ vs) low = (range-longer v low.0, all-longer vs low.1)

  pub state-longer : (s : NumberedState) → AreInRange old s → read_state new s ≡ read_state old s
  state-longer s low = λ i. record { vars = values-longer s.vars low.0 i; stack = values-longer s.stack low.1 i }

  pub state-still : (s : NumberedState) → AreInRange old s → AreInRange new s
  state-still s low = (all-longer s.vars low.0, all-longer s.stack low.1)

  result-longer : (r : Option NumberedValue) → IsResultInRange old r →
      option_map (read_value new) r ≡ option_map (read_value old) r
  result-longer None low = refl
  result-longer (Some v) low = ap Some (value-longer v low)

  result-still : (r : Option NumberedValue) → IsResultInRange old r → IsResultInRange new r
  result-still None low = tt
  result-still (Some v) low = range-longer v low

  pub found-longer : (f : NumberedFound) → AreFoundNumbers old f → read_found new f ≡ read_found old f
  found-longer f low = λ i. record {
    records = accesses-longer old new on f.records low.records i;
    wobbly = set-longer old new on f.wobbly.keys low.wobbly i;
    result = result-longer f.result low.result i;
  }

  pub found-still : (f : NumberedFound) → AreFoundNumbers old f → AreFoundNumbers new f
  found-still f low =
      record {
        records = numbered-longer old new on f.records low.records;
        wobbly = wobbly-longer old new on f.wobbly.keys low.wobbly;
        result = result-still f.result low.result;
      }
