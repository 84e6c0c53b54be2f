-- Numbered values that are read one after another.
use Rattle.std.proofs.Common.{◌≡◌, ℕ, ◌+◌, ◌<◌, List, [], ◌∷◌, ◌++◌, length, drop, get_or, sym, ap, subst, ◌∙◌}
use Rattle.std.proofs.Common.{append_assoc}
use Rattle.std.proofs.lemmas.List.{drop_more}
use Rattle.access_paths.specs.declared.path.Path.{Path}
use Rattle.owner_domain.specs.declared.numbered.NumberedValue.{NumberedValue}
use Rattle.owner_domain.specs.declared.value.Value.{Value}
use Rattle.owner_domain.specs.Numbered.{read_value, IsInRange, AllInRange}
use Rattle.call_subst.specs.Numbered.{read_values}

module _ (table : List Path) (values : List NumberedValue) (i : ℕ) (d : NumberedValue)
    (within : i < length values) where
  both_in : AllInRange table (drop i values) →
      IsInRange table (get_or values i d) × AllInRange table (drop (i + 1) values)
  both_in range = subst (AllInRange table) (drop_more values i d within) range

  pub value_in : AllInRange table (drop i values) → IsInRange table (get_or values i d)
  value_in range = (both_in range).0

  pub rest_in : AllInRange table (drop i values) → AllInRange table (drop (i + 1) values)
  rest_in range = (both_in range).1

  pub value_turn : (made more all : List Value) (w : Value) → more ≡ made ++ w ∷ [] →
      w ≡ read_value table (get_or values i d) → made ++ read_values table (drop i values) ≡ all →
      more ++ read_values table (drop (i + 1) values) ≡ all
  value_turn made more all w put read whole =
      let rest : List Value = read_values table (drop (i + 1) values) in
      ap (λ (vs : List Value). vs ++ rest) put
      ∙ append_assoc made (w ∷ []) rest
      ∙ ap (λ (x : Value). made ++ x ∷ rest) read
      ∙ ap (λ (vs : List NumberedValue). made ++ read_values table vs) (sym (drop_more values i d within))
      ∙ whole
