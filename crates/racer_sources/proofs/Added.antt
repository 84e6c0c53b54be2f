-- Sources one after the other: one more, and what is left.
use Rattle.std.proofs.Common.{◌≡◌, ℕ, zero, suc, ◌+◌, ◌<◌, ◌≤◌, Bool, true, false, ◌&&◌, List, [], ◌∷◌, ◌++◌, Option}
use Rattle.std.proofs.Common.{None, Some}
use Rattle.std.proofs.Common.{length, map, refl, sym, ap, subst, ◌∙◌, append_assoc, inl, inr}
use Rattle.std.proofs.Common.{String, Vec, Global, string_bytes, drop, get_or, arith}
use Rattle.std.proofs.lemmas.List.{drop_more, drop_all, append-nil}
use Rattle.std.proofs.lemmas.Bool.{false≢true}
use Rattle.std.specs.Option.{is_some, IfSome}
use Rattle.std.specs.List.{list_all}
use Rattle.std.specs.FinMap.{get}
use Rattle.racer_base.specs.Outside.{Told, Files}
use Rattle.racer_base.specs.declared.ids.FileId.{FileId}
use Rattle.java_tree.specs.declared.unit.Unit as unit
use Rattle.racer_sources.specs.declared.refusal.Refusal.{Refusal}
use Rattle.racer_sources.specs.declared.fault.SourceFault.{SourceFault}
use Rattle.racer_sources.specs.declared.fault.SourceFault.TheVariants.{Refused, Failed, Memory}
use Rattle.racer_sources.specs.declared.units.ReadSources.{ReadSources}
use Rattle.racer_sources.specs.Sources.{AreReadFrom, IsOneRefused, IsRead, bytes_of}
use Rattle.racer_sources.specs.Reading.{IsAdded, IsAddedSomehow, IsNextRefused, IfRefused, AreThere, IsThere}
use Rattle.racer_sources.specs.Reading.{bytes_of_all}
use Rattle.racer_sources.specs.Finding.{AreReadSomehow}

-- what is said of the files that are left, behind what was read, is said of all of them
pub record LeadsOn (files left : List (List ℕ)) (read : ReadSources) : Type 0 where
  pub reads : (us : List unit.Unit) → AreReadFrom (length read.units.items) read.sum left us
      → AreReadFrom 0 0 files (read.units.items ++ us)
  pub refuses : (r : Refusal) → IsOneRefused (length read.units.items) read.sum left r → IsOneRefused 0 0 files r

length_more : (us : List unit.Unit) (u : unit.Unit) → length (us ++ u ∷ []) ≡ suc (length us)
length_more [] u = refl
length_more (v ∷ us) u = ap suc (length_more us u)

pub leads_one : (files left : List (List ℕ)) (bytes : List ℕ) (old new : ReadSources)
    → LeadsOn files (bytes ∷ left) old → IsAdded bytes old new → LeadsOn files left new
leads_one files left bytes old new leads added =
    record {
      reads = λ us read.
          let here : AreReadFrom (suc (length old.units.items)) (old.sum + length bytes) left us =
          subst (λ (n : ℕ). AreReadFrom n (old.sum + length bytes) left us) number
          (subst (λ (s : ℕ). AreReadFrom (length new.units.items) s left us) added.read.added read) in
          subst (λ (vs : List unit.Unit). AreReadFrom 0 0 files vs) (together us)
          (leads.reads (added.unit ∷ us) (first, here));
      refuses = λ r one.
          let here : IsOneRefused (suc (length old.units.items)) (old.sum + length bytes) left r =
          subst (λ (n : ℕ). IsOneRefused n (old.sum + length bytes) left r) number
          (subst (λ (s : ℕ). IsOneRefused (length new.units.items) s left r) added.read.added one) in
          leads.refuses r (inr (added.unit, first, here));
    }
  where
    number : length new.units.items ≡ suc (length old.units.items)
    number = ap length added.units ∙ length_more old.units.items added.unit

    first : IsRead (record { 0 = length old.units.items }) (old.sum + length bytes) bytes added.unit
    first = subst (λ (s : ℕ). IsRead (record { 0 = length old.units.items }) s bytes added.unit) added.read.added
        added.read.read

    together : (us : List unit.Unit) → old.units.items ++ added.unit ∷ us ≡ new.units.items ++ us
    together us = sym (ap (λ (vs : List unit.Unit). vs ++ us) added.units
        ∙ append_assoc old.units.items (added.unit ∷ []) us)

-- the files of the names from the i-th on
abbrev pub files_from : Files → List (String Global) → ℕ → List (List ℕ)
files_from files names i = bytes_of_all files (map string_bytes (drop i names))

-- of a folder that tells its files
abbrev pub LeadsFrom : Option Told → List (String Global) → ℕ → ReadSources → Type 0
LeadsFrom o names i read = IfSome o (λ (t : Told). LeadsOn (files_from t.files names 0)
    (files_from t.files names i) read)

pub leads_more : (o : Option Told) (names : List (String Global)) (i : ℕ) (name : String Global) (old new : ReadSources)
    → i < length names → LeadsFrom o names i old
    → IfSome o (λ (t : Told). IsAdded (bytes_of t.files (string_bytes (get_or names i name))) old new)
    → LeadsFrom o names (i + 1) new
leads_more None names i name old new h leads added = tt
leads_more (Some t) names i name old new h leads added =
    leads_one (files_from t.files names 0) (files_from t.files names (i + 1))
    (bytes_of t.files (string_bytes (get_or names i name))) old new
    (subst (λ (left : List (String Global)). LeadsOn (files_from t.files names 0)
    (bytes_of_all t.files (map string_bytes left)) old)
    (drop_more names i name h) leads)
    added

-- where the next is refused, they are
pub refused_there : (o : Option Told) (names : List (String Global)) (i : ℕ) (name : String Global) (read : ReadSources)
    (fault : SourceFault) → i < length names → LeadsFrom o names i read
    → IfSome o (λ (t : Told). IfRefused fault
    (IsNextRefused (bytes_of t.files (string_bytes (get_or names i name))) read))
    → IfSome o (λ (t : Told). IfRefused fault (IsOneRefused 0 0 (files_from t.files names 0)))
refused_there None names i name read fault h leads refused = tt
refused_there (Some t) names i name read Failed h leads refused = tt
refused_there (Some t) names i name read Memory h leads refused = tt
refused_there (Some t) names i name read (Refused r) h leads refused =
    let here : LeadsOn (files_from t.files names 0)
    (bytes_of t.files (string_bytes (get_or names i name)) ∷ files_from t.files names (i + 1)) read =
    subst (λ (left : List (String Global)). LeadsOn (files_from t.files names 0)
    (bytes_of_all t.files (map string_bytes left)) read)
    (drop_more names i name h) leads in
    here.refuses r (inl refused)

-- where none is left, all are read
pub read_all_told : (o : Option Told) (names : List (String Global)) (i : ℕ) (read : ReadSources) →
    length names ≤ i → LeadsFrom o names i read
    → IfSome o (λ (t : Told). AreReadFrom 0 0 (files_from t.files names 0) read.units.items)
read_all_told None names i read h leads = tt
read_all_told (Some t) names i read h leads =
    let none : LeadsOn (files_from t.files names 0) [] read =
    subst (λ (left : List (String Global)). LeadsOn (files_from t.files names 0)
    (bytes_of_all t.files (map string_bytes left)) read)
    (drop_all i names h) leads in
    subst (λ (us : List unit.Unit). AreReadFrom 0 0 (files_from t.files names 0) us) (append-nil read.units.items)
    (none.reads [] tt)

-- ---- from some bytes

somehow_then : (n : ℕ) (us : List unit.Unit) (u : unit.Unit) → AreReadSomehow n us
    → (sum : ℕ) × (bytes : List ℕ) × IsRead (record { 0 = n + length us }) sum bytes u → AreReadSomehow n (us ++ u ∷ [])
somehow_then n [] u are is = (
  subst (λ (m : ℕ). (sum : ℕ) × (bytes : List ℕ) × IsRead (record { 0 = m }) sum bytes u)
      (let e : n + 0 ≡ n = omega arith in e) is,
  tt,
)
somehow_then n (v ∷ us) u are is = (
  are.0,
  somehow_then (suc n) us u are.1
      (subst (λ (m : ℕ). (sum : ℕ) × (bytes : List ℕ) × IsRead (record { 0 = m }) sum bytes u)
      (let e : n + suc (length us) ≡ suc n + length us = omega arith in e) is),
)

pub somehow_more : (old new : ReadSources) → AreReadSomehow 0 old.units.items → IsAddedSomehow old new
    → AreReadSomehow 0 new.units.items
somehow_more old new are added =
    let e : length old.units.items ≡ 0 + length old.units.items = omega arith in
    subst (λ (us : List unit.Unit). AreReadSomehow 0 us) (sym added.units)
    (somehow_then 0 old.units.items added.unit are
    (subst (λ (n : ℕ). (sum : ℕ) × (bytes : List ℕ) × IsRead (record { 0 = n }) sum bytes added.unit) e
    (new.sum, added.read.0, added.read.1)))

pub counted_more : (old new : ReadSources) (i : ℕ) → length old.units.items ≡ i → IsAddedSomehow old new
    → length new.units.items ≡ i + 1
counted_more old new i e added =
    let more : length new.units.items ≡ suc (length old.units.items) =
    ap length added.units ∙ length_more old.units.items added.unit in
    omega (arith, e, more)

-- ---- names that are there

there_at : (files : Files) (names : List (String Global)) → AreThere files (map string_bytes names) → (i : ℕ)
    (name : String Global) → i < length names → IsThere files (string_bytes (get_or names i name))
there_at files [] h i name lt = absurd (let bad : i < 0 = lt in omega arith)
there_at files (x ∷ xs) h zero name lt = head (is_some (get files (string_bytes x))) h
  where
    head : (b : Bool) → (b && list_all (λ y. is_some (get files y)) (map string_bytes xs)) ≡ true → b ≡ true
    head true e = refl
    head false e = e
there_at files (x ∷ xs) h (suc i) name lt =
    there_at files xs (tail (is_some (get files (string_bytes x))) h) i name (omega arith)
  where
    tail : (b : Bool) → (b && list_all (λ y. is_some (get files y)) (map string_bytes xs)) ≡ true
        → list_all (λ y. is_some (get files y)) (map string_bytes xs) ≡ true
    tail true e = e
    tail false e = absurd (false≢true e)

-- what holds where the next is there holds where all are
pub steady_there : (o now : Option Told) (names : List (String Global)) (i : ℕ) (name : String Global) (text : List ℕ)
    (P : Type 0) → i < length names → text ≡ string_bytes (get_or names i name) → now ≡ o
    → IfSome now (λ (t : Told). IsThere t.files text → P)
    → IfSome o (λ (t : Told). AreThere t.files (map string_bytes names) → P)
steady_there None now names i name text P lt e same h = tt
steady_there (Some t) now names i name text P lt e same h =
    λ there. subst (λ (v : Option Told). IfSome v (λ (u : Told). IsThere u.files text → P)) same h
    (subst (IsThere t.files) (sym e) (there_at t.files names there i name lt))

-- ---- one more

file_same : (file : FileId) (n : ℕ) → file.0 ≡ n → file ≡ record { 0 = n }
file_same file n e = ap (λ (m : ℕ). record { 0 = m }) e

pub added_behind : (bytes : List ℕ) (old : ReadSources) (units : Vec unit.Unit Global) (file : FileId) (u : unit.Unit)
    → file.0 ≡ length old.units.items → units.items ≡ old.units.items ++ u ∷ []
    → IsRead file (old.sum + length bytes) bytes u
    → IsAdded bytes old (record { units = units; sum = old.sum + length bytes })
added_behind bytes old units file u number more read =
    record {
      unit = u;
      read = record {
        added = refl;
        read = subst (λ (f : FileId). IsRead f (old.sum + length bytes) bytes u)
            (file_same file (length old.units.items) number) read;
      };
      units = more;
    }
