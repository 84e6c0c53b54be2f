-- What is found over numbers is put together in paths, one after another.
use Rattle.std.proofs.Common.{◌≡◌, ◌⊎◌, ℕ, zero, suc, add-one, ◌+◌, ◌<◌, ◌≤◌, List, [], ◌∷◌, ◌++◌, length}
use Rattle.std.proofs.Common.{drop, get_or, append_assoc, arith, refl, sym, ap, subst, ◌∙◌}
use Rattle.std.specs.FinSet as set
use Rattle.std.proofs.lemmas.List.{append-nil, drop_more, drop_all}
use Rattle.access_paths.specs.declared.path.Path.{Path}
use Rattle.access_paths.specs.Order.{PathSet}
use Rattle.access_paths.specs.Table.{path_at}
use Rattle.wobbly_paths.specs.declared.wobbly.Adding.{Adding}
use Rattle.wobbly_paths.specs.declared.wobbly.Adding.TheVariants.{Added, Present}
use Rattle.wobbly_paths.specs.Sets.{IsAnswer}
use Rattle.access_domain.specs.declared.access.Access.{Access}
use Rattle.access_domain.specs.declared.numbered.NumberedAccess.{NumberedAccess}
use Rattle.access_domain.specs.Additions.{paths_added}
use Rattle.racer_base.specs.declared.limits.TheConstants.{MAX_SUMMARY_KEYS}
use Rattle.access_domain.specs.Records.{first_of_keys, IsWithin}
use Rattle.access_domain.specs.Numbered.{read_access, read_accesses, AreNumbered}
use Rattle.access_domain.proofs.AdditionLemmas.{added_path}
use Rattle.call_subst.specs.Numbered.{read_paths, AreBelow}

module _ (table : List Path) (records : List NumberedAccess) (i : ℕ) (d : NumberedAccess)
    (within : i < length records) where
  records-cut : drop i records ≡ (get_or records i d ∷ drop (i + 1) records)
  records-cut = drop_more records i d within

  pub record-in : AreNumbered table (drop i records) → (get_or records i d).path < length table
  record-in low = (subst (AreNumbered table) records-cut low).0

  pub records-turn : (made new all : List Access) (x : Access) → new ≡ made ++ x ∷ [] →
      x ≡ read_access table (get_or records i d) → (made ++ read_accesses table (drop i records)) ≡ all →
      (new ++ read_accesses table (drop (i + 1) records)) ≡ all
  records-turn made new all x pushed read whole =
      let rest = read_accesses table (drop (i + 1) records) in
      ap (λ (kept : List Access). kept ++ rest) pushed
      ∙ append_assoc made (x ∷ []) rest
      ∙ ap (λ (y : Access). made ++ (y ∷ rest)) read
      ∙ sym (ap (λ (ns : List NumberedAccess). made ++ read_accesses table ns) records-cut)
      ∙ whole

pub records-done : (table : List Path) (records : List NumberedAccess) (i : ℕ) (made all : List Access) →
    length records ≤ i → (made ++ read_accesses table (drop i records)) ≡ all → made ≡ all
records-done table records i made all past whole =
    sym (append-nil made)
    ∙ sym (ap (λ (ns : List NumberedAccess). made ++ read_accesses table ns) (drop_all i records past)) ∙ whole

module _ (table : List Path) (numbers : List ℕ) (i d : ℕ) (within : i < length numbers) where
  numbers-cut : drop i numbers ≡ (get_or numbers i d ∷ drop (i + 1) numbers)
  numbers-cut = drop_more numbers i d within

  pub number-in : AreBelow (length table) (drop i numbers) → get_or numbers i d < length table
  number-in low = (subst (AreBelow (length table)) numbers-cut low).0

  pub numbers-turn : (made new all : PathSet) (p : Path) (answer : Adding) →
      IsAnswer (set.contains made p) (set.len made) made new (set.insert made p) answer →
      (answer ≡ Added) ⊎ (answer ≡ Present) → p ≡ path_at table (get_or numbers i d) →
      paths_added made (read_paths table (drop i numbers)) ≡ all →
      paths_added new (read_paths table (drop (i + 1) numbers)) ≡ all
  numbers-turn made new all p answer is_answer one read whole =
      let rest = read_paths table (drop (i + 1) numbers) in
      ap (λ (kept : PathSet). paths_added kept rest) (added_path made new p answer is_answer one)
      ∙ ap (λ (q : Path). paths_added made (q ∷ rest)) read
      ∙ sym (ap (λ (ns : List ℕ). paths_added made (read_paths table ns)) numbers-cut)
      ∙ whole

pub numbers-done : (table : List Path) (numbers : List ℕ) (i : ℕ) (made all : PathSet) →
    length numbers ≤ i → paths_added made (read_paths table (drop i numbers)) ≡ all → made ≡ all
numbers-done table numbers i made all past whole =
    sym (ap (λ (ns : List ℕ). paths_added made (read_paths table ns)) (drop_all i numbers past)) ∙ whole

-- what is left behind one of them
pub records-in : (table : List Path) (records : List NumberedAccess) (i : ℕ) → AreNumbered table (drop i records) →
    AreNumbered table (drop (i + 1) records)
records-in table records i low =
    subst (λ (k : ℕ). AreNumbered table (drop k records)) (sym (add-one i)) (behind records i low)
  where
    behind : (rs : List NumberedAccess) (k : ℕ) → AreNumbered table (drop k rs) → AreNumbered table (drop (suc k) rs)
    behind [] zero low = tt
    behind [] (suc k) low = tt
    behind (r ∷ rs) zero low = low.1
    behind (r ∷ rs) (suc k) low = behind rs k low

pub numbers-in : (limit : ℕ) (numbers : List ℕ) (i : ℕ) → AreBelow limit (drop i numbers) →
    AreBelow limit (drop (i + 1) numbers)
numbers-in limit numbers i low =
    subst (λ (k : ℕ). AreBelow limit (drop k numbers)) (sym (add-one i)) (behind numbers i low)
  where
    behind : (ns : List ℕ) (k : ℕ) → AreBelow limit (drop k ns) → AreBelow limit (drop (suc k) ns)
    behind [] zero low = tt
    behind [] (suc k) low = tt
    behind (n ∷ ns) zero low = low.1
    behind (n ∷ ns) (suc k) low = behind ns k low

-- read from a table, as many records as there were
as_many : (table : List Path) (records : List NumberedAccess) →
    length (read_accesses table records) ≡ length records
as_many table [] = refl
as_many table (r ∷ records) = ap (λ n. suc n) (as_many table records)

pub IsWithin-read : (table : List Path) (records : List NumberedAccess) →
    first_of_keys (read_accesses table records) ≡ read_accesses table records → length records ≤ MAX_SUMMARY_KEYS →
    IsWithin (read_accesses table records)
IsWithin-read table records firsts few =
    let count = as_many table records in record { firsts = firsts; limit = omega arith }
