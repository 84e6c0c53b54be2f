-- The number of a path with one field more names what the field of the value is.
use Rattle.std.proofs.Common.{◌≡◌, ℕ, List, Option, None, Some, refl, sym, ap, ◌∙◌}
use Rattle.racer_base.specs.declared.ids.FieldId.{FieldId}
use Rattle.access_paths.specs.declared.path.Path.{Path}
use Rattle.access_paths.specs.Paths.{extended}
use Rattle.access_paths.specs.Table.{GoesOn, IsLonger, IsLengthened, path_at}
use Rattle.access_paths.proofs.AnsweredExtensions.{answered}
use Rattle.access_paths.proofs.Numbers.{number-at, number-below}
use Rattle.owner_domain.specs.declared.value.Value.TheVariants.{Named}
use Rattle.owner_domain.specs.Numbered.{read_value, IsInRange}
use Rattle.owner_domain.specs.Values.{field_value, named_or_unnamed}
use Rattle.transfer_steps.specs.Numbered as number

module _ (old new : List Path) (n : ℕ) (f : FieldId) (answer : Option ℕ) (is : IsLengthened old n f answer new) where
  pub field-goes_on : GoesOn old new
  field-goes_on = (answered old new (extended is.0 f) answer is.2).0

  pub field-value : read_value new (number.named_or_unnamed answer) ≡ field_value (Named (path_at old n)) f
  field-value =
      named answer (extended is.0 f) is.2
      ∙ ap (λ (p : Path). named_or_unnamed (extended p f)) (sym (number-at old n is.0 is.1))
    where
      named : (given : Option ℕ) (q : Option Path) → IsLonger old q given new →
          read_value new (number.named_or_unnamed given) ≡ named_or_unnamed q
      named None None longer = refl
      named None (Some q) longer = absurd longer
      named (Some m) None longer = absurd longer
      named (Some m) (Some q) longer = ap Named (number-at new m q longer.0)

  pub field-range : IsInRange new (number.named_or_unnamed answer)
  field-range = within answer (extended is.0 f) is.2
    where
      within : (given : Option ℕ) (q : Option Path) → IsLonger old q given new →
          IsInRange new (number.named_or_unnamed given)
      within None q longer = tt
      within (Some m) None longer = absurd longer
      within (Some m) (Some q) longer = number-below new m q longer.0
