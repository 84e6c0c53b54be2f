-- Records and wobbly paths that are noted by their numbers are noted as what they are in a table.
use Rattle.std.proofs.Common.{◌≡◌, ◌⊎◌, inl, inr, ℕ, ◌<◌, ◌≤◌, Bool, true, false, cond, List, [], ◌∷◌, ◌++◌, length}
use Rattle.std.proofs.Common.{nat_eq}
use Rattle.std.proofs.Common.{refl, sym, ap, subst, ◌∙◌, zero, suc, get_or, arith}
use Rattle.std.proofs.lemmas.List.{length-map}
use Rattle.std.specs.List.{list_any}
use Rattle.std.specs.FinSet as set
use Rattle.racer_base.specs.declared.limits.TheConstants.{MAX_SUMMARY_KEYS}
use Rattle.indexmap.specs.IndexSet.{insert_key}
use Rattle.access_paths.specs.declared.path.Path.{Path}
use Rattle.access_paths.specs.Same.{path_cmp-total}
use Rattle.access_paths.specs.Table.{IsTable, path_at}
use Rattle.access_paths.proofs.Numbers.{goes_on-same}
use Rattle.wobbly_paths.specs.declared.wobbly.Adding.{Adding}
use Rattle.wobbly_paths.specs.declared.wobbly.Adding.TheVariants.{Added, Present}
use Rattle.wobbly_paths.specs.Sets.{IsAnswer}
use Rattle.access_domain.specs.declared.numbered.NumberedAccess.{NumberedAccess}
use Rattle.access_domain.specs.declared.access.Access.{Access}
use Rattle.access_domain.specs.Numbered.{read_access, read_accesses, same_numbered_key, AreNumbered}
use Rattle.access_domain.proofs.AdditionLemmas.{len-from_list}
use Rattle.access_domain.proofs.NumberedReading.{any-read, read-added}
use Rattle.call_subst.specs.Numbered.{read_paths, read_set, AreBelow}
use Rattle.call_subst.proofs.NumberedSets.{any-forward, number-added}
use Rattle.transfer_steps.specs.declared.found.Stop.TheVariants.{Large}
use Rattle.transfer_steps.specs.declared.numbered_found.NumberedFound.{NumberedFound}
use Rattle.transfer_steps.specs.Marks.{marks, IsNoted, IsStopped}
use Rattle.transfer_steps.specs.Numbered.{read_found, AreFoundNumbers}
use Rattle.std.proofs.Common.{Option, None, Some, option_map}
use Rattle.std.specs.Prelude.{Result, Ok, slice_index_or}
use Rattle.std.proofs.lemmas.List.{append-nil, at_drop_more, at_drop_all}
use Rattle.std.proofs.Common.{◌+◌, drop}
use Rattle.access_domain.specs.Operations.{Effects}
use Rattle.transfer_steps.specs.Marks.{LeadsTo}
use Rattle.transfer_steps.proofs.Flows.{paths-led, paths-ended, records-led, records-ended}
use Rattle.owner_domain.specs.declared.value.Value.{Value}
use Rattle.owner_domain.specs.declared.value.Value.TheVariants as value
use Rattle.owner_domain.specs.declared.numbered.NumberedValue.{NumberedValue}
use Rattle.owner_domain.specs.declared.numbered.NumberedValue.TheVariants.{Owned, Unnamed}
use Rattle.owner_domain.specs.Numbered.{read_value, IsInRange, same_number, joined_number, lost_number, numbers_of}
use Rattle.owner_domain.specs.Values.{joined, lost, names_of}
use Rattle.owner_domain.proofs.Reading.{all-joined-read, all-lost-read}
use Rattle.access_domain.specs.Flow.{joined_result, lost_result}
use Rattle.access_domain.specs.Additions.{paths_added}
use Rattle.transfer_steps.specs.declared.found.Found.{Found}
use Rattle.transfer_steps.specs.declared.found.Stop.{Stop}
use Rattle.transfer_steps.specs.Marks.{IsMarked, returns_of}
use Rattle.transfer_steps.specs.Numbered.{IsResultInRange}
use Rattle.transfer_steps.proofs.SlotsRead.{one-below}
use Rattle.transfer_steps.proofs.Marking.{marked-return, noted-nothing}
use Rattle.transfer_steps.proofs.Marking.{noted-records, noted-paths, full-record, full-path, with_parts}

-- a number of some that are all below a limit
pub below-at : (limit : ℕ) (numbers : List ℕ) (i d : ℕ) → i < length numbers → AreBelow limit numbers →
    get_or numbers i d < limit
below-at limit [] i d within low = absurd (omega arith)
below-at limit (m ∷ ns) zero d within low = low.0
below-at limit (m ∷ ns) (suc i) d within low =
    let long : length (m ∷ ns) ≡ suc (length ns) = refl in below-at limit ns i d (omega arith) low.1

module _ (table : List Path) (once : IsTable table) (old : NumberedFound) (numbers : AreFoundNumbers table old) where
  pub record-noted : (a : NumberedAccess) (new : List NumberedAccess) (answer : Adding) → a.path < length table →
      IsAnswer (list_any (λ r. same_numbered_key r a) old.records) (length old.records) old.records new
      (old.records ++ a ∷ []) answer → (answer ≡ Added) ⊎ (answer ≡ Present) →
      IsNoted (read_found table old) (marks (read_access table a ∷ []) [])
      (with_parts (read_accesses table new) (read_found table old).wobbly (read_found table old).result)
  record-noted a new answer low is one =
      noted-records (read_found table old) (read_accesses table new) (read_access table a ∷ [])
      (read-added table table (goes_on-same table) once old.records new a answer numbers.records low is one
      (read_access table a) refl)

  pub record-full : (a : NumberedAccess) → a.path < length table →
      list_any (λ r. same_numbered_key r a) old.records ≡ false → length old.records ≡ MAX_SUMMARY_KEYS →
      IsStopped (read_found table old) (marks (read_access table a ∷ []) []) Large
  record-full a low fresh full =
      full-record (read_found table old) (read_access table a)
      (any-read table once old.records a numbers.records low ∙ fresh)
      (length-map old.records (read_access table) ∙ full)

  module _ (n : ℕ) (low : n < length table) where
    pub number-noted : (new : List ℕ) → new ≡ insert_key nat_eq old.wobbly.keys n →
        IsNoted (read_found table old) (marks [] (path_at table n ∷ []))
        (with_parts (read_found table old).records (read_set table new) (read_found table old).result)
    number-noted new put =
        noted-paths (read_found table old) (read_set table new) (path_at table n ∷ [])
        (number-added table table (goes_on-same table) once old.wobbly.keys new numbers.wobbly n low put
        (path_at table n) refl)

    pub number-full : list_any (nat_eq n) old.wobbly.keys ≡ false → MAX_SUMMARY_KEYS ≤ length old.wobbly.keys →
        IsStopped (read_found table old) (marks [] (path_at table n ∷ [])) Large
    number-full fresh full =
        full-path (read_found table old) (path_at table n)
        (set.contains-from_list path_cmp-total (read_paths table old.wobbly.keys) (path_at table n)
        ∙ any-forward table once n low old.wobbly.keys numbers.wobbly.range ∙ fresh)
        (subst (λ (k : ℕ). MAX_SUMMARY_KEYS ≤ k)
        (sym (len-from_list (read_paths table old.wobbly.keys)
        ∙ ap length numbers.wobbly.different
        ∙ length-map old.wobbly.keys (path_at table))) full)

-- ---- names, and what is returned

-- a value that is not named has no name
pub nameless : (table : List Path) (v : NumberedValue) → (v ≡ Owned) ⊎ (v ≡ Unnamed) →
    names_of (read_value table v) ≡ []
nameless table v one =
    elim one [
      | inl e ↦ ap (λ (w : NumberedValue). names_of (read_value table w)) e
      | inr e ↦ ap (λ (w : NumberedValue). names_of (read_value table w)) e
    ]

-- the first value that is returned
pub first-result : (old : Found) (v : Value) → old.result ≡ None →
    IsNoted old (returns_of v) (with_parts old.records old.wobbly (Some v))
first-result old v none = (
  (λ i. with_parts old.records (paths_added old.wobbly (lost_result (sym none i) (Some v)))
      (joined_result (sym none i) (Some v))),
  refl,
)

module _ (table : List Path) (once : IsTable table) (a b : NumberedValue) (low : IsInRange table a)
    (last : IsInRange table b) where
  joined-one : read_value table (joined_number a b) ≡ joined (read_value table a) (read_value table b)
  joined-one =
      ap (λ (vs : List Value). slice_index_or vs 0 value.Unnamed)
      (all-joined-read table once (a ∷ []) (b ∷ []) (low, tt) (last, tt))

  lost-one : read_paths table (lost_number a b) ≡ lost (read_value table a) (read_value table b)
  lost-one =
      ap (read_paths table) (sym (append-nil (lost_number a b)))
      ∙ all-lost-read table once (a ∷ []) (b ∷ []) (low, tt) (last, tt)
      ∙ append-nil (lost (read_value table a) (read_value table b))

  module _ (old : NumberedFound) (was : old.result ≡ Some a) where
    returned : {X : Type 0} (numbers : List ℕ) → numbers ≡ lost_number a b → (later : Found) (r : Result X Stop) →
        IsMarked (with_parts (read_found table old).records (read_found table old).wobbly
        (Some (read_value table (joined_number a b)))) (marks [] (read_paths table numbers)) later r →
        IsMarked (read_found table old) (returns_of (read_value table b)) later r
    returned numbers is later r m =
        marked-return (read_found table old) (read_value table a) (read_value table b)
        (read_value table (joined_number a b)) (read_paths table numbers) later r
        (ap (option_map (read_value table)) was) joined-one (ap (read_paths table) is ∙ lost-one) m

    -- the same value once more
    pub returned-again : same_number a b ≡ true →
        IsNoted (read_found table old) (returns_of (read_value table b)) (read_found table old)
    returned-again same =
        returned {X = Unit {0}} [] (sym (ap (λ (t : Bool). cond t [] (numbers_of a ++ numbers_of b)) same))
        (read_found table old) (Ok (tt {0}))
        (subst (λ (r : Option Value). IsNoted
        (with_parts (read_found table old).records (read_found table old).wobbly r) (marks [] [])
        (read_found table old))
        (ap (option_map (read_value table)) was
        ∙ sym (ap (λ (t : Bool). Some (read_value table (cond t a Unnamed))) same))
        (noted-nothing (read_found table old) (record { vars = []; stack = [] })))

    -- another value, behind which the names of both are lost
    pub returned-other : {X : Type 0} (numbers : List ℕ) → same_number a b ≡ false → numbers ≡ lost_number a b →
        (later : Found) (r : Result X Stop) →
        IsMarked (with_parts (read_found table old).records (read_found table old).wobbly (Some value.Unnamed))
        (marks [] (read_paths table numbers)) later r →
        IsMarked (read_found table old) (returns_of (read_value table b)) later r
    returned-other numbers different is later r m =
        returned numbers is later r
        (subst (λ (v : Value). IsMarked
        (with_parts (read_found table old).records (read_found table old).wobbly (Some v))
        (marks [] (read_paths table numbers)) later r)
        (sym (ap (λ (t : Bool). read_value table (cond t a Unnamed)) different)) m)

    pub returned-below : (numbers : List ℕ) → numbers ≡ lost_number a b → AreBelow (length table) numbers
    returned-below numbers is = subst (AreBelow (length table)) (sym is) (one-below table a b low last)

-- the numbers with another value that is returned
pub with-result : (table : List Path) (old : NumberedFound) (r : Option NumberedValue) → AreFoundNumbers table old →
    IsResultInRange table r → AreFoundNumbers table (record { records = old.records; wobbly = old.wobbly; result = r })
with-result table old r numbers low = record { records = numbers.records; wobbly = numbers.wobbly; result = low }

pub earlier-in : (table : List Path) (old : NumberedFound) (a : NumberedValue) → AreFoundNumbers table old →
    old.result ≡ Some a → IsInRange table a
earlier-in table old a numbers was = subst (IsResultInRange table) was numbers.result

-- ---- numbers that are noted one after another

module _ (table : List Path) (numbers : List ℕ) (i d : ℕ) (within : i < length numbers) where
  cut : read_paths table (drop i numbers) ≡
      ((path_at table (get_or numbers i d) ∷ []) ++ read_paths table (drop (i + 1) numbers))
  cut = at_drop_more (λ ns. read_paths table ns) numbers i d within

  pub numbers-led : (old now new : Found) (whole : Effects) →
      LeadsTo old whole now (marks [] (read_paths table (drop i numbers))) →
      IsNoted now (marks [] (path_at table (get_or numbers i d) ∷ [])) new →
      LeadsTo old whole new (marks [] (read_paths table (drop (i + 1) numbers)))
  numbers-led old now new whole leads m =
      paths-led old whole now new (read_paths table (drop i numbers)) (path_at table (get_or numbers i d) ∷ [])
      (read_paths table (drop (i + 1) numbers)) cut leads m

  pub numbers-ended : (old now last : Found) (whole : Effects) (stop : Stop) →
      LeadsTo old whole now (marks [] (read_paths table (drop i numbers))) →
      IsStopped now (marks [] (path_at table (get_or numbers i d) ∷ [])) stop → IsStopped old whole stop
  numbers-ended old now last whole stop leads m =
      paths-ended old whole now last (read_paths table (drop i numbers)) (path_at table (get_or numbers i d) ∷ [])
      (read_paths table (drop (i + 1) numbers)) stop cut leads m

pub numbers-done : (table : List Path) (numbers : List ℕ) (i : ℕ) → length numbers ≤ i → (old now : Found)
    (whole : Effects) → LeadsTo old whole now (marks [] (read_paths table (drop i numbers))) → IsNoted old whole now
numbers-done table numbers i over old now whole leads =
    leads now (Ok (tt {0}))
    (subst (λ (ps : List Path). IsNoted now (marks [] ps) now)
    (sym (at_drop_all (λ ns. read_paths table ns) numbers i over))
    (noted-nothing now (record { vars = []; stack = [] })))

-- ---- records that are noted one after another

pub numbered-at : (table : List Path) (records : List NumberedAccess) (i : ℕ) (d : NumberedAccess) →
    i < length records →
    AreNumbered table records → (get_or records i d).path < length table
numbered-at table [] i d within low = absurd (omega arith)
numbered-at table (r ∷ rs) zero d within low = low.0
numbered-at table (r ∷ rs) (suc i) d within low =
    let long : length (r ∷ rs) ≡ suc (length rs) = refl in numbered-at table rs i d (omega arith) low.1

module _ (table : List Path) (records : List NumberedAccess) (i : ℕ) (d : NumberedAccess) (within : i < length records)
  where
    first_record : read_accesses table (drop i records) ≡
        ((read_access table (get_or records i d) ∷ []) ++ read_accesses table (drop (i + 1) records))
    first_record = at_drop_more (λ rs. read_accesses table rs) records i d within

    pub each-led : (old now new : Found) (whole : Effects) →
        LeadsTo old whole now (marks (read_accesses table (drop i records)) []) →
        IsNoted now (marks (read_access table (get_or records i d) ∷ []) []) new →
        LeadsTo old whole new (marks (read_accesses table (drop (i + 1) records)) [])
    each-led old now new whole leads m =
        records-led old whole now new (read_accesses table (drop i records))
        (read_access table (get_or records i d) ∷ [])
        (read_accesses table (drop (i + 1) records)) first_record leads m

    pub each-ended : (old now last : Found) (whole : Effects) (stop : Stop) →
        LeadsTo old whole now (marks (read_accesses table (drop i records)) []) →
        IsStopped now (marks (read_access table (get_or records i d) ∷ []) []) stop → IsStopped old whole stop
    each-ended old now last whole stop leads m =
        records-ended old whole now last (read_accesses table (drop i records))
        (read_access table (get_or records i d) ∷ []) (read_accesses table (drop (i + 1) records)) stop first_record
        leads m

pub each-done : (table : List Path) (records : List NumberedAccess) (i : ℕ) → length records ≤ i → (old now : Found)
    (whole : Effects) → LeadsTo old whole now (marks (read_accesses table (drop i records)) []) → IsNoted old whole now
each-done table records i over old now whole leads =
    leads now (Ok (tt {0}))
    (subst (λ (xs : List Access). IsNoted now (marks xs []) now)
    (sym (at_drop_all (λ rs. read_accesses table rs) records i over))
    (noted-nothing now (record { vars = []; stack = [] })))
