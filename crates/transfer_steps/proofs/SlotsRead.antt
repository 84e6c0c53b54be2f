-- States whose paths are numbers, slot by slot, are what `Operations.antt` of `access_domain` says in paths.
use Rattle.std.proofs.Common.{◌≡◌, ℕ, zero, suc, List, [], ◌∷◌, ◌++◌, take, drop, refl, sym, ap}
use Rattle.std.specs.Prelude.{slice_index_or, slice_set}
use Rattle.std.proofs.lemmas.List.{drop-map}
use Rattle.access_paths.specs.declared.path.Path.{Path}
use Rattle.owner_domain.specs.declared.value.Value.TheVariants as value
use Rattle.owner_domain.specs.declared.value.State.{State}
use Rattle.owner_domain.specs.declared.numbered.NumberedValue.{NumberedValue}
use Rattle.owner_domain.specs.declared.numbered.NumberedValue.TheVariants.{Unnamed}
use Rattle.owner_domain.specs.declared.numbered.NumberedState.{NumberedState}
use Rattle.owner_domain.specs.Numbered.{read_value, read_state, IsInRange, AllInRange, AreInRange}
use Rattle.access_domain.specs.Operations.{top, pushed, popped, replaced}
use Rattle.call_subst.specs.Numbered.{read_values}
use Rattle.call_subst.specs.Numbered.{AreBelow}
use Rattle.owner_domain.specs.Numbered.{same_number, numbers_of, lost_number, lost_numbers}
use Rattle.owner_domain.specs.declared.numbered.NumberedValue.TheVariants.{Owned, Named}
use Rattle.std.proofs.Common.{true, false, cond, length}
use Rattle.owner_domain.specs.Slots.{top_number, pushed_number, popped_numbers, replaced_numbers, lost_by}

module _ (table : List Path) where
  pub slot-read : (xs : List NumberedValue) (n : ℕ) →
      read_value table (slice_index_or xs n Unnamed) ≡ slice_index_or (read_values table xs) n value.Unnamed
  slot-read [] n = refl
  slot-read (x ∷ xs) zero = refl
  slot-read (x ∷ xs) (suc n) = slot-read xs n

  pub slot-in : (xs : List NumberedValue) (n : ℕ) → AllInRange table xs → IsInRange table (slice_index_or xs n Unnamed)
  slot-in [] n low = tt
  slot-in (x ∷ xs) zero low = low.0
  slot-in (x ∷ xs) (suc n) low = slot-in xs n low.1

  pub drop-in : (n : ℕ) (xs : List NumberedValue) → AllInRange table xs → AllInRange table (drop n xs)
  drop-in zero xs low = low
  drop-in (suc n) [] low = tt
  drop-in (suc n) (x ∷ xs) low = drop-in n xs low.1

  pub take-in : (n : ℕ) (xs : List NumberedValue) → AllInRange table xs → AllInRange table (take n xs)
  take-in zero xs low = tt
  take-in (suc n) [] low = tt
  take-in (suc n) (x ∷ xs) low = (low.0, take-in n xs low.1)

  pub append-in : (xs ys : List NumberedValue) → AllInRange table xs → AllInRange table ys →
      AllInRange table (xs ++ ys)
  append-in [] ys low last = last
  append-in (x ∷ xs) ys low last = (low.0, append-in xs ys low.1 last)

  pub set-in : (xs : List NumberedValue) (n : ℕ) (v : NumberedValue) → AllInRange table xs → IsInRange table v →
      AllInRange table (slice_set xs n v)
  set-in [] n v low last = tt
  set-in (x ∷ xs) zero v low last = (last, low.1)
  set-in (x ∷ xs) (suc n) v low last = (low.0, set-in xs n v low.1 last)

  pub top-read : (s : NumberedState) → read_value table (top_number s) ≡ top (read_state table s)
  top-read s = slot-read s.stack 0

  pub popped-read : (s : NumberedState) (n : ℕ) →
      read_state table (popped_numbers s n) ≡ popped (read_state table s) n
  popped-read s n = λ i. record {
    vars = read_values table s.vars;
    stack = sym (drop-map (read_value table) n s.stack) i;
  }

  pub popped-in : (s : NumberedState) (n : ℕ) → AreInRange table s → AreInRange table (popped_numbers s n)
  popped-in s n low = (low.0, drop-in n s.stack low.1)

  pub pushed-in : (s : NumberedState) (v : NumberedValue) → AreInRange table s → IsInRange table v →
      AreInRange table (pushed_number s v)
  pushed-in s v low last = (low.0, (last, low.1))

  pub replaced-read : (s : NumberedState) (n : ℕ) (v : NumberedValue) →
      read_state table (replaced_numbers s n v) ≡ replaced (read_state table s) n (read_value table v)
  replaced-read s n v = ap (λ (t : State). pushed t (read_value table v)) (popped-read s n)

  pub replaced-in : (s : NumberedState) (n : ℕ) (v : NumberedValue) → AreInRange table s → IsInRange table v →
      AreInRange table (replaced_numbers s n v)
  replaced-in s n v low last = pushed-in (popped_numbers s n) v (popped-in s n low) last

  pub set-read : (xs : List NumberedValue) (n : ℕ) (v : NumberedValue) →
      read_values table (slice_set xs n v) ≡ slice_set (read_values table xs) n (read_value table v)
  set-read [] n v = refl
  set-read (x ∷ xs) zero v = refl
  set-read (x ∷ xs) (suc n) v = ap (λ ys. read_value table x ∷ ys) (set-read xs n v)

  -- ---- states that meet

  numbers-below : (v : NumberedValue) → IsInRange table v → AreBelow (length table) (numbers_of v)
  numbers-below Owned low = tt
  numbers-below (Named n) low = (low, tt)
  numbers-below Unnamed low = tt

  both-below : (xs ys : List ℕ) → AreBelow (length table) xs → AreBelow (length table) ys →
      AreBelow (length table) (xs ++ ys)
  both-below [] ys low last = last
  both-below (x ∷ xs) ys low last = (low.0, both-below xs ys low.1 last)

  pub one-below : (a b : NumberedValue) → IsInRange table a → IsInRange table b →
      AreBelow (length table) (lost_number a b)
  one-below a b low last =
      elim (same_number a b) as (λ t. AreBelow (length table) (cond t [] (numbers_of a ++ numbers_of b))) [
        | true ↦ tt
        | false ↦ both-below (numbers_of a) (numbers_of b) (numbers-below a low) (numbers-below b last)
      ]

  all-below : (xs ys : List NumberedValue) → AllInRange table xs → AllInRange table ys →
      AreBelow (length table) (lost_numbers xs ys)
  all-below [] ys low last = tt
  all-below (x ∷ xs) [] low last = tt
  all-below (x ∷ xs) (y ∷ ys) low last =
      both-below (lost_number x y) (lost_numbers xs ys) (one-below x y low.0 last.0) (all-below xs ys low.1 last.1)

  pub lost-below : (s t : NumberedState) → AreInRange table s → AreInRange table t →
      AreBelow (length table) (lost_by s t)
  lost-below s t low last =
      both-below (lost_numbers s.vars t.vars) (lost_numbers s.stack t.stack) (all-below s.vars t.vars low.0 last.0)
      (all-below s.stack t.stack low.1 last.1)
