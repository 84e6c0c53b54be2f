-- Records whose paths are numbers are added as what they are in a table.
use Rattle.std.proofs.Common.{◌≡◌, ◌⊎◌, inl, inr, ◌<◌, ◌&&◌, ◌||◌, cond, Bool, true, false, List, [], ◌∷◌, ◌++◌}
use Rattle.std.proofs.Common.{length, refl, sym, ap, subst, ◌∙◌, arith, length-append}
use Rattle.std.specs.List.{list_any}
use Rattle.access_paths.specs.declared.path.Path.{Path}
use Rattle.access_paths.specs.Table.{IsTable, GoesOn}
use Rattle.access_paths.proofs.Numbers.{equal_numbers, goes_on-at}
use Rattle.wobbly_paths.specs.declared.wobbly.Adding.{Adding}
use Rattle.wobbly_paths.specs.declared.wobbly.Adding.TheVariants.{Added, Present, Full, Memory}
use Rattle.wobbly_paths.specs.Sets.{IsAnswer}
use Rattle.access_domain.specs.declared.access.Access.{Access}
use Rattle.access_domain.specs.declared.numbered.NumberedAccess.{NumberedAccess}
use Rattle.access_domain.specs.Additions.{key_added}
use Rattle.access_domain.specs.Numbered.{read_access, read_accesses, AreNumbered, same_numbered_key}
use Rattle.access_domain.specs.Records.{same_key, same_touch, same_flag}

-- ---- a longer table

pub in_longer : (old new : List Path) → GoesOn old new → (n : _) → n < length old → n < length new
in_longer old new on n low =
    let long = ap length on.1 in omega (arith, long, length-append old on.0)

pub access-longer : (old new : List Path) → GoesOn old new → (a : NumberedAccess) → a.path < length old →
    read_access new a ≡ read_access old a
access-longer old new on a low = λ i. record {
  path = goes_on-at old new a.path on low i;
  kind = a.kind;
  locked = a.locked;
  main = a.main;
  site = a.site;
  below = a.below;
}

pub accesses-longer : (old new : List Path) → GoesOn old new → (records : List NumberedAccess) →
    AreNumbered old records → read_accesses new records ≡ read_accesses old records
accesses-longer old new on [] low = refl
accesses-longer old new on (a ∷ rest) low =
    (λ i. access-longer old new on a low.0 i ∷ accesses-longer old new on rest low.1 i)

pub numbered-longer : (old new : List Path) → GoesOn old new → (records : List NumberedAccess) →
    AreNumbered old records → AreNumbered new records
numbered-longer old new on [] low = tt
numbered-longer old new on (a ∷ rest) low = (in_longer old new on a.path low.0, numbered-longer old new on rest low.1)

-- ---- one record more

read-append : (table : List Path) (records : List NumberedAccess) (a : NumberedAccess) →
    read_accesses table (records ++ a ∷ []) ≡ read_accesses table records ++ read_access table a ∷ []
read-append table [] a = refl
read-append table (r ∷ records) a = ap (λ rs. read_access table r ∷ rs) (read-append table records a)

numbered-append : (table : List Path) (records : List NumberedAccess) (a : NumberedAccess) →
    AreNumbered table records → a.path < length table → AreNumbered table (records ++ a ∷ [])
numbered-append table [] a low last = (last, tt)
numbered-append table (r ∷ records) a low last = (low.0, numbered-append table records a low.1 last)

pub any-read : (table : List Path) → IsTable table → (records : List NumberedAccess) (a : NumberedAccess) →
    AreNumbered table records → a.path < length table →
    list_any (λ r. same_key r (read_access table a)) (read_accesses table records) ≡
    list_any (λ r. same_numbered_key r a) records
any-read table is_table [] a low last = refl
any-read table is_table (r ∷ records) a low last =
    (λ i. (equal_numbers table r.path a.path is_table low.0 last i && same_touch r.kind a.kind
    && same_flag r.locked a.locked && same_flag r.main a.main) || any-read table is_table records a low.1 last i)

-- what is left after an addition that was made, or was not needed
abbrev pub numbered_added : List NumberedAccess → NumberedAccess → List NumberedAccess
numbered_added kept a = cond (list_any (λ r. same_numbered_key r a) kept) kept (kept ++ a ∷ [])

answered : (kept new : List NumberedAccess) (a : NumberedAccess) (answer : Adding) →
    IsAnswer (list_any (λ r. same_numbered_key r a) kept) (length kept) kept new (kept ++ a ∷ []) answer →
    (answer ≡ Added) ⊎ (answer ≡ Present) → new ≡ numbered_added kept a
answered kept new a Added is one = is.2 ∙ ap (λ (b : Bool). cond b kept (kept ++ a ∷ [])) (sym is.0)
answered kept new a Present is one = is.1 ∙ ap (λ (b : Bool). cond b kept (kept ++ a ∷ [])) (sym is.0)
answered kept new a Full is one = elim one [ inl e ↦ cc | inr e ↦ cc ]
answered kept new a Memory is one = elim one [ inl e ↦ cc | inr e ↦ cc ]

either-read : (table : List Path) (kept : List NumberedAccess) (a : NumberedAccess) (b : Bool) →
    read_accesses table (cond b kept (kept ++ a ∷ [])) ≡
    cond b (read_accesses table kept) (read_accesses table kept ++ read_access table a ∷ [])
either-read table kept a true = refl
either-read table kept a false = read-append table kept a

either-numbered : (table : List Path) (kept : List NumberedAccess) (a : NumberedAccess) (b : Bool) →
    AreNumbered table kept → a.path < length table → AreNumbered table (cond b kept (kept ++ a ∷ []))
either-numbered table kept a true low last = low
either-numbered table kept a false low last = numbered-append table kept a low last

module _ (old table : List Path) (on : GoesOn old table) (is_table : IsTable table) (kept new : List NumberedAccess)
    (a : NumberedAccess) (answer : Adding) (low : AreNumbered old kept) (last : a.path < length table)
    (is : IsAnswer (list_any (λ r. same_numbered_key r a) kept) (length kept) kept new (kept ++ a ∷ []) answer)
    (one : (answer ≡ Added) ⊎ (answer ≡ Present)) where
  pub numbered-still : AreNumbered table new
  numbered-still = subst (AreNumbered table) (sym (answered kept new a answer is one))
      (either-numbered table kept a (list_any (λ r. same_numbered_key r a) kept)
      (numbered-longer old table on kept low) last)

  -- the records are read as those before, and this one where its key is new
  pub read-added : (access : Access) → read_access table a ≡ access →
      read_accesses table new ≡ key_added (read_accesses old kept) access
  read-added access read =
      let records = read_accesses table kept in
      let record_read = read_access table a in
      let same : records ≡ read_accesses old kept = accesses-longer old table on kept low in
      ap (read_accesses table) (answered kept new a answer is one)
      ∙ either-read table kept a (list_any (λ r. same_numbered_key r a) kept)
      ∙ ap (λ (b : Bool). cond b records (records ++ record_read ∷ []))
      (sym (any-read table is_table kept a (numbered-longer old table on kept low) last))
      ∙ (λ i. key_added (same i) (read i))
