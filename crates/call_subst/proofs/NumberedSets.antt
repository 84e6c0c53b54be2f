-- The numbers of different paths: the set that they are in a table, and one number more.
use Rattle.std.proofs.Common.{◌≡◌, ℕ, ◌<◌, Bool, true, false, cond, ◌||◌, List, [], ◌∷◌, ◌++◌, length, nat_eq, refl}
use Rattle.std.proofs.Common.{sym, ap, subst, ◌∙◌}
use Rattle.std.specs.List.{list_any}
use Rattle.std.specs.FinSet as set
use Rattle.std.specs.Ordering.{eq_by_cmp}
use Rattle.indexmap.specs.IndexSet.{insert_key}
use Rattle.access_paths.specs.declared.path.Path.{Path}
use Rattle.access_paths.specs.Order.{path_cmp}
use Rattle.access_paths.specs.Paths.{same_path}
use Rattle.access_paths.specs.Same.{path_cmp-total, path_cmp-IsAntisymmetric, same_path-laws, tied}
use Rattle.access_paths.specs.Table.{IsTable, GoesOn, path_at}
use Rattle.access_paths.proofs.Numbers.{equal_numbers, goes_on-at, number-still}
use Rattle.access_domain.specs.Records.{different_paths}
use Rattle.access_domain.proofs.AdditionLemmas.{paths-present}
use Rattle.access_domain.proofs.Firsts.{firsts-new}
use Rattle.call_subst.specs.Numbered.{read_paths, read_set, AreBelow, AreWobbly}
use Rattle.call_subst.proofs.SameSets.{any-append}

-- ---- a longer table

paths-longer : (old new : List Path) → GoesOn old new → (numbers : List ℕ) → AreBelow (length old) numbers →
    read_paths new numbers ≡ read_paths old numbers
paths-longer old new on [] low = refl
paths-longer old new on (n ∷ rest) low = (λ i. goes_on-at old new n on low.0 i ∷ paths-longer old new on rest low.1 i)

below-longer : (old new : List Path) → GoesOn old new → (numbers : List ℕ) → AreBelow (length old) numbers →
    AreBelow (length new) numbers
below-longer old new on [] low = tt
below-longer old new on (n ∷ rest) low = (number-still old new n on low.0, below-longer old new on rest low.1)

pub set-longer : (old new : List Path) → GoesOn old new → (numbers : List ℕ) → AreWobbly old numbers →
    read_set new numbers ≡ read_set old numbers
set-longer old new on numbers w = ap (λ (ps : List Path). set.from_list ps) (paths-longer old new on numbers w.range)

pub wobbly-longer : (old new : List Path) → GoesOn old new → (numbers : List ℕ) → AreWobbly old numbers →
    AreWobbly new numbers
wobbly-longer old new on numbers w =
    record {
      range = below-longer old new on numbers w.range;
      different = subst (λ (ps : List Path). different_paths ps ≡ ps) (sym (paths-longer old new on numbers w.range))
          w.different;
    }

pub wobbly-none : (table : List Path) → AreWobbly table []
wobbly-none table = record { range = tt; different = refl }

-- ---- one number more

read-append : (table : List Path) (numbers : List ℕ) (n : ℕ) →
    read_paths table (numbers ++ n ∷ []) ≡ read_paths table numbers ++ path_at table n ∷ []
read-append table [] n = refl
read-append table (m ∷ rest) n = ap (λ ps. path_at table m ∷ ps) (read-append table rest n)

below-append : (limit : ℕ) (numbers : List ℕ) (n : ℕ) → AreBelow limit numbers → n < limit →
    AreBelow limit (numbers ++ n ∷ [])
below-append limit [] n low last = (last, tt)
below-append limit (m ∷ rest) n low last = (low.0, below-append limit rest n low.1 last)

or-swap : (a b : Bool) → (a || (b || false)) ≡ (b || a)
or-swap true true = refl
or-swap true false = refl
or-swap false true = refl
or-swap false false = refl

-- a path that is put at the end of a list is put into its set
set-append : (ps : List Path) (p : Path) →
    set.from_list {R = path_cmp} (ps ++ p ∷ []) ≡ set.insert (set.from_list {R = path_cmp} ps) p
set-append ps p =
    set.same_set path_cmp-total path_cmp-IsAntisymmetric _ _
    (λ q.
    set.contains-from_list path_cmp-total (ps ++ p ∷ []) q
    ∙ any-append (eq_by_cmp path_cmp q) ps (p ∷ [])
    ∙ or-swap (list_any (eq_by_cmp path_cmp q) ps) (eq_by_cmp path_cmp q p)
    ∙ ap (λ (b : Bool). eq_by_cmp path_cmp q p || b) (sym (set.contains-from_list path_cmp-total ps q))
    ∙ sym (set.contains-insert path_cmp-total (set.from_list {R = path_cmp} ps) p q))

module _ (table : List Path) (is_table : IsTable table) (n : ℕ) (last : n < length table) where
  pub any-forward : (numbers : List ℕ) → AreBelow (length table) numbers →
      list_any (eq_by_cmp path_cmp (path_at table n)) (read_paths table numbers) ≡ list_any (nat_eq n) numbers
  any-forward [] low = refl
  any-forward (m ∷ rest) low =
      (λ i. (tied (path_at table n) (path_at table m) ∙ equal_numbers table n m is_table last low.0) i
      || any-forward rest low.1 i)

  any-back : (numbers : List ℕ) → AreBelow (length table) numbers →
      list_any (λ q. same_path q (path_at table n)) (read_paths table numbers) ≡ list_any (nat_eq n) numbers
  any-back [] low = refl
  any-back (m ∷ rest) low =
      (λ i. (same_path-laws.symm (path_at table m) (path_at table n) ∙ equal_numbers table n m is_table last low.0) i
      || any-back rest low.1 i)

  set-added : (numbers : List ℕ) → AreBelow (length table) numbers → (b : Bool) → list_any (nat_eq n) numbers ≡ b →
      read_set table (cond b numbers (numbers ++ n ∷ [])) ≡ set.insert (read_set table numbers) (path_at table n)
  set-added numbers low true e =
      sym (paths-present (read_set table numbers) (path_at table n)
      (set.contains-from_list path_cmp-total (read_paths table numbers) (path_at table n)
      ∙ any-forward numbers low ∙ e))
  set-added numbers low false e =
      ap (λ (ps : List Path). set.from_list {R = path_cmp} ps) (read-append table numbers n)
      ∙ set-append (read_paths table numbers) (path_at table n)

  wobbly-added : (numbers : List ℕ) → AreWobbly table numbers → (b : Bool) → list_any (nat_eq n) numbers ≡ b →
      AreWobbly table (cond b numbers (numbers ++ n ∷ []))
  wobbly-added numbers w true e = w
  wobbly-added numbers w false e =
      let ps = read_paths table numbers in
      record {
        range = below-append (length table) numbers n w.range last;
        different = ap different_paths (read-append table numbers n)
            ∙ firsts-new same_path ps (path_at table n) (any-back numbers w.range ∙ e)
            ∙ ap (λ (qs : List Path). qs ++ path_at table n ∷ []) w.different
            ∙ sym (read-append table numbers n);
      }

module _ (old table : List Path) (on : GoesOn old table) (is_table : IsTable table) (numbers new : List ℕ)
    (w : AreWobbly old numbers) (n : ℕ) (last : n < length table) (put : new ≡ insert_key nat_eq numbers n) where
  pub number-added : (p : Path) → path_at table n ≡ p → read_set table new ≡ set.insert (read_set old numbers) p
  number-added p e =
      ap (read_set table) put
      ∙ set-added table is_table n last numbers (below-longer old table on numbers w.range)
      (list_any (nat_eq n) numbers) refl
      ∙ (λ i. set.insert (set-longer old table on numbers w i) (e i))

  pub wobbly-still : AreWobbly table new
  wobbly-still =
      subst (AreWobbly table) (sym put)
      (wobbly-added table is_table n last numbers (wobbly-longer old table on numbers w)
      (list_any (nat_eq n) numbers) refl)
