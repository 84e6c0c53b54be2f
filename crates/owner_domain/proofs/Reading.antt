-- The join on numbers is the join of what they are in a table.
use Rattle.std.proofs.Common.{◌≡◌, ℕ, true, false, cond, List, [], ◌∷◌, ◌++◌, map, refl, sym, ap, ◌∙◌}
use Rattle.access_paths.specs.declared.path.Path.{Path}
use Rattle.access_paths.specs.Table.{IsTable, path_at}
use Rattle.access_paths.proofs.Numbers.{equal_numbers}
use Rattle.owner_domain.specs.declared.value.Value.TheVariants as value
use Rattle.owner_domain.specs.Values.{same_value, names_of, joined, lost, joined_values, lost_values}
use Rattle.owner_domain.specs.Values.{joined_state, lost_state}
use Rattle.owner_domain.specs.declared.numbered.NumberedValue.{NumberedValue}
use Rattle.owner_domain.specs.declared.numbered.NumberedValue.TheVariants.{Owned, Named, Unnamed}
use Rattle.owner_domain.specs.declared.numbered.NumberedState.{NumberedState}
use Rattle.owner_domain.specs.Numbered.{read_value, read_state, IsInRange, AllInRange, AreInRange, same_number}
use Rattle.owner_domain.specs.Numbered.{numbers_of, joined_number, lost_number, joined_numbers, lost_numbers}
use Rattle.owner_domain.specs.Slots.{met_numbers, lost_by}
use Rattle.owner_domain.proofs.NumbersJoined.{all-joined-in-range}

module _ (table : List Path) (is_table : IsTable table) where
  same-read : (a b : NumberedValue) → IsInRange table a → IsInRange table b →
      same_value (read_value table a) (read_value table b) ≡ same_number a b
  same-read Owned Owned p q = refl
  same-read Owned (Named n) p q = refl
  same-read Owned Unnamed p q = refl
  same-read (Named m) Owned p q = refl
  same-read (Named m) (Named n) p q = equal_numbers table m n is_table p q
  same-read (Named m) Unnamed p q = refl
  same-read Unnamed Owned p q = refl
  same-read Unnamed (Named n) p q = refl
  same-read Unnamed Unnamed p q = refl

  names-read : (a : NumberedValue) → map (path_at table) (numbers_of a) ≡ names_of (read_value table a)
  names-read Owned = refl
  names-read (Named n) = refl
  names-read Unnamed = refl

  pub all-map-append : (xs ys : List ℕ) → map (path_at table) (xs ++ ys) ≡ map (path_at table) xs ++ map
      (path_at table) ys
  all-map-append [] ys = refl
  all-map-append (x ∷ xs) ys = ap (λ zs. path_at table x ∷ zs) (all-map-append xs ys)

  joined-read : (a b : NumberedValue) → IsInRange table a → IsInRange table b →
      read_value table (joined_number a b) ≡ joined (read_value table a) (read_value table b)
  joined-read a b p q =
      elim (same_number a b) as (λ t. read_value table (cond t a Unnamed) ≡ cond t (read_value table a) value.Unnamed) [
        | true ↦ refl
        | false ↦ refl
      ] ∙ ap (λ t. cond t (read_value table a) value.Unnamed) (sym (same-read a b p q))

  lost-read : (a b : NumberedValue) → IsInRange table a → IsInRange table b →
      map (path_at table) (lost_number a b) ≡ lost (read_value table a) (read_value table b)
  lost-read a b p q =
      elim (same_number a b) as (λ t. map (path_at table) (cond t [] (numbers_of a ++ numbers_of b)) ≡
      cond t [] (names_of (read_value table a) ++ names_of (read_value table b))) [
        | true ↦ refl
        | false ↦ all-map-append (numbers_of a) (numbers_of b) ∙ (λ i. names-read a i ++ names-read b i)
      ] ∙ ap (λ t. cond t [] (names_of (read_value table a) ++ names_of (read_value table b))) (sym (same-read a b p q))

  pub all-joined-read : (xs ys : List NumberedValue) → AllInRange table xs → AllInRange table ys →
      map (read_value table) (joined_numbers xs ys) ≡ joined_values (map (read_value table) xs)
      (map (read_value table) ys)
  all-joined-read [] ys p q = refl
  all-joined-read (x ∷ xs) [] p q = refl
  all-joined-read (x ∷ xs) (y ∷ ys) p q =
      (λ i. joined-read x y p.0 q.0 i ∷ all-joined-read xs ys p.1 q.1 i)

  pub all-lost-read : (xs ys : List NumberedValue) → AllInRange table xs → AllInRange table ys →
      map (path_at table) (lost_numbers xs ys) ≡ lost_values (map (read_value table) xs) (map (read_value table) ys)
  all-lost-read [] ys p q = refl
  all-lost-read (x ∷ xs) [] p q = refl
  all-lost-read (x ∷ xs) (y ∷ ys) p q =
      all-map-append (lost_number x y) (lost_numbers xs ys)
      ∙ (λ i. lost-read x y p.0 q.0 i ++ all-lost-read xs ys p.1 q.1 i)

-- ---- states that meet

pub met-in : (table : List Path) (s t : NumberedState) → AreInRange table s → AreInRange table (met_numbers s t)
met-in table s t low = (
  all-joined-in-range table s.vars t.vars low.0,
  all-joined-in-range table s.stack t.stack low.1,
)

module _ (table : List Path) (once : IsTable table) (s t : NumberedState) (p : AreInRange table s)
    (q : AreInRange table t)
  where
    pub met-read : read_state table (met_numbers s t) ≡ joined_state (read_state table s) (read_state table t)
    met-read = λ i. record {
      vars = all-joined-read table once s.vars t.vars p.0 q.0 i;
      stack = all-joined-read table once s.stack t.stack p.1 q.1 i;
    }

    pub met-lost : map (path_at table) (lost_by s t) ≡ lost_state (read_state table s) (read_state table t)
    met-lost =
        all-map-append table once _ _
        ∙ (λ i. all-lost-read table once s.vars t.vars p.0 q.0 i ++ all-lost-read table once s.stack t.stack p.1 q.1 i)
