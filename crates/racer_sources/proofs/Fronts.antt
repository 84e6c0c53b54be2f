-- Of a file one byte more than it may have is asked for, which tells what it is.
use Rattle.std.proofs.Common.{◌≡◌, ℕ, suc, ◌+◌, ◌<◌, ◌≤◌, List, [], ◌∷◌, ◌++◌, Option, None, Some, take, length, map}
use Rattle.std.proofs.Common.{refl, sym, ap, subst, ◌∙◌, inl, inr, arith, length-take, Vec, Global}
use Rattle.std.proofs.lemmas.List.{take_all, length-map, map_push}
use Rattle.std.specs.Prelude.{Result, Ok, Err, IfErr, OnOk}
use Rattle.std.specs.Option.{option_map, IfSome}
use Rattle.std.specs.FinMap.{get}
use Rattle.std.proofs.lemmas.Option.{same_Some}
use Rattle.racer_base.specs.Outside.{Told}
use Rattle.racer_base.specs.declared.ids.FileId.{FileId}
use Rattle.racer_base.specs.declared.limits.TheConstants.{MAX_FILE_BYTES, MAX_FILES}
use Rattle.java_tree.specs.declared.unit.Unit as unit
use Rattle.racer_sources.specs.declared.refusal.Refusal.{Refusal}
use Rattle.racer_sources.specs.declared.refusal.Refusal.TheVariants.{TooManyFiles, TooLong, TooManyBytes, NotUtf8}
use Rattle.racer_sources.specs.declared.refusal.Refusal.TheVariants.{BadCharacter, Unclosed, BadLiteral, Unbalanced}
use Rattle.racer_sources.specs.declared.refusal.Refusal.TheVariants.{TooDeep, NotAUnit, DuplicateClass, DuplicateField}
use Rattle.racer_sources.specs.declared.refusal.Refusal.TheVariants.{TooManyClasses, TooManyMethods, TooManyCalls}
use Rattle.racer_sources.specs.declared.fault.SourceFault.{SourceFault}
use Rattle.racer_sources.specs.declared.fault.SourceFault.TheVariants.{Refused, Failed, Memory}
use Rattle.racer_sources.specs.declared.units.ReadSources.{ReadSources}
use Rattle.racer_sources.specs.Contents.{bytes_in, front}
use Rattle.java_resolver.specs.declared.fault.ResolveFault.{ResolveFault}
use Rattle.java_resolver.specs.declared.fault.ResolveFault.TheVariants as resolve
use Rattle.racer_sources.specs.Sources.{bytes_of, IsRead, AreReadFrom, IsOneRefused, AreRead, AreAccepted, AreRefused}
use Rattle.racer_sources.specs.Sources.{AreRefusedUnits, IsFileRefused}
use Rattle.racer_sources.specs.Reading.{IsReadAfter, IsRefusedAfter, IfRefused, IsFileFault, IsAdded, IsAddedSomehow}
use Rattle.racer_sources.specs.Reading.{next_file}

-- a front with room to spare is the whole
whole_front : (whole : List ℕ) → length (front whole) ≤ MAX_FILE_BYTES → front whole ≡ whole
whole_front whole h = take_all (MAX_FILE_BYTES + 1) whole (omega (arith, length-take (MAX_FILE_BYTES + 1) whole))

longer : (whole : List ℕ) → MAX_FILE_BYTES < length (front whole) → MAX_FILE_BYTES < length whole
longer whole h = omega (arith, length-take (MAX_FILE_BYTES + 1) whole)

module _ (file : FileId) (before : ℕ) (whole : List ℕ) where
  pub read_of_front : (sum : ℕ) (u : unit.Unit) → IsReadAfter file before (front whole) sum u
      → IsReadAfter file before whole sum u
  read_of_front sum u h =
      subst (λ (bytes : List ℕ). IsReadAfter file before bytes sum u) (whole_front whole h.read.short.file) h

  -- a refusal that tells that the front is short is one of the whole
  refused_of_short : (r : Refusal) → length (front whole) ≤ MAX_FILE_BYTES → IsRefusedAfter file before (front whole) r
      → IsRefusedAfter file before whole r
  refused_of_short r short h =
      subst (λ (bytes : List ℕ). IsRefusedAfter file before bytes r) (whole_front whole short) h

  pub refused_of_front : (r : Refusal) → IsRefusedAfter file before (front whole) r → IsRefusedAfter file before whole r
  refused_of_front (TooLong f) h = (h.0, longer whole h.1)
  refused_of_front (TooManyBytes n) h = refused_of_short (TooManyBytes n) h.1 h
  refused_of_front (NotUtf8 f n) h = refused_of_short (NotUtf8 f n) h.1.short.file h
  refused_of_front (BadCharacter p) h = refused_of_short (BadCharacter p) h.short.file h
  refused_of_front (Unclosed p) h = refused_of_short (Unclosed p) h.short.file h
  refused_of_front (BadLiteral p) h = refused_of_short (BadLiteral p) h.short.file h
  refused_of_front (Unbalanced p) h = refused_of_short (Unbalanced p) h.short.file h
  refused_of_front (TooDeep p) h = refused_of_short (TooDeep p) h.short.file h
  refused_of_front (NotAUnit p) h = refused_of_short (NotAUnit p) h.short.file h
  refused_of_front (TooManyFiles n) h = absurd h
  refused_of_front (DuplicateClass p q) h = absurd h
  refused_of_front (DuplicateField p q) h = absurd h
  refused_of_front (TooManyClasses n) h = absurd h
  refused_of_front (TooManyMethods n) h = absurd h
  refused_of_front (TooManyCalls n) h = absurd h

  -- what a fault of the front refuses, it refuses of the whole
  pub fault_of_front : (fault : SourceFault) → IsFileFault file (before + length (front whole)) (front whole) fault
      → IfRefused fault (IsRefusedAfter file before whole)
  fault_of_front (Refused r) h = refused_of_front r h
  fault_of_front Failed h = tt
  fault_of_front Memory h = tt

-- what the front of each file tells is told of the file that was read
pub of_read : (P : List ℕ → Type 0) (o : Option Told) (name bytes : List ℕ)
    → ((whole : List ℕ) → front whole ≡ bytes → P whole)
    → IfSome o (λ (t : Told). option_map front (get t.files name) ≡ Some bytes)
    → IfSome o (λ (t : Told). P (bytes_of t.files name))
of_read P None name bytes step read = tt
of_read P (Some t) name bytes step read = at (get t.files name) read
  where
    at : (f : Option (List ℕ)) → option_map front f ≡ Some bytes
        → P (elim f [ None ↦ [] | (Some whole) ↦ whole ])
    at None e = absurd (let bad : ◌≡◌ {A = Option (List ℕ)} None (Some bytes) = e in cc)
    at (Some whole) e = step whole (same_Some (front whole) bytes e)

-- ---- what was read of a source

pub added_somehow : {T : Type 0} (bytes : List ℕ) (old new : ReadSources) (r : Result T SourceFault)
    → OnOk r (IsAdded bytes old new) → OnOk r (IsAddedSomehow old new)
added_somehow bytes old new (Err f) added = tt
added_somehow bytes old new (Ok x) added =
    record { unit = added.unit; read = (bytes, added.read.read); units = added.units }

added_of_front : (whole : List ℕ) (old new : ReadSources) → IsAdded (front whole) old new → IsAdded whole old new
added_of_front whole old new added =
    record {
      unit = added.unit;
      read = read_of_front (next_file old) old.sum whole new.sum added.unit added.read;
      units = added.units;
    }

module _ (o : Option Told) (name bytes : List ℕ)
    (read : IfSome o (λ (t : Told). option_map front (get t.files name) ≡ Some bytes)) where
  pub added_told : {T : Type 0} (old new : ReadSources) (r : Result T SourceFault) → OnOk r (IsAdded bytes old new)
      → OnOk r (IfSome o (λ (t : Told). IsAdded (bytes_of t.files name) old new))
  added_told old new (Err f) added = tt
  added_told old new (Ok x) added =
      of_read (λ (whole : List ℕ). IsAdded whole old new) o name bytes
      (λ whole e. added_of_front whole old new (subst (λ (bs : List ℕ). IsAdded bs old new) (sym e) added))
      read

  pub refused_told : {T : Type 0} (file : FileId) (before : ℕ) (r : Result T SourceFault)
      → IfErr r (IsFileFault file (before + length bytes) bytes)
      → IfErr r (λ (f : SourceFault). IfSome o
      (λ (t : Told). IfRefused f (IsRefusedAfter file before (bytes_of t.files name))))
  refused_told file before (Ok x) is = tt
  refused_told file before (Err f) is =
      of_read (λ (whole : List ℕ). IfRefused f (IsRefusedAfter file before whole)) o name bytes
      (λ whole e. fault_of_front file before whole f
      (subst (λ (bs : List ℕ). IsFileFault file (before + length bs) bs f) (sym e) is))
      read

  -- what was read is kept whole
  pub kept_told : {T : Type 0} (before now : List (Vec ℕ Global)) (content : Vec ℕ Global) (old new : ReadSources)
      (r : Result T SourceFault) → content.items ≡ bytes → OnOk r (IsAdded bytes old new)
      → OnOk r (now ≡ before ++ content ∷ [])
      → OnOk r (IfSome o (λ (t : Told). bytes_in now ≡ bytes_in before ++ bytes_of t.files name ∷ []))
  kept_told before now content old new (Err f) same added put = tt
  kept_told before now content old new (Ok x) same added put =
      of_read (λ (whole : List ℕ). bytes_in now ≡ bytes_in before ++ whole ∷ []) o name bytes
      (λ whole e. ap bytes_in put ∙ map_push (λ (c : Vec ℕ Global). c.items) before content
      ∙ ap (λ (bs : List ℕ). bytes_in before ++ bs ∷ []) (same ∙ sym e ∙ whole_front whole
      (subst (λ (bs : List ℕ). length bs ≤ MAX_FILE_BYTES) (sym e) added.read.read.short.file)))
      read

-- ---- files one after the other

-- what is read of their fronts is read of them
pub read_of_fronts : (n sum : ℕ) (files : List (List ℕ)) (us : List unit.Unit) → AreReadFrom n sum (map front files) us
    → AreReadFrom n sum files us
read_of_fronts n sum [] us h = h
read_of_fronts n sum (bytes ∷ files) [] h = absurd h
read_of_fronts n sum (bytes ∷ files) (u ∷ us) h =
    let more = sum + length (front bytes) in
    let here : IsReadAfter (record { 0 = n }) sum bytes more u =
    read_of_front (record { 0 = n }) sum bytes more u (record { added = refl; read = h.0 }) in (
      subst (λ (s : ℕ). IsRead (record { 0 = n }) s bytes u) here.added here.read,
      read_of_fronts (suc n) (sum + length bytes) files us
          (subst (λ (s : ℕ). AreReadFrom (suc n) s (map front files) us) here.added h.1),
    )

one_of_fronts : (n sum : ℕ) (files : List (List ℕ)) (r : Refusal) → IsOneRefused n sum (map front files) r
    → IsOneRefused n sum files r
one_of_fronts n sum [] r h = h
one_of_fronts n sum (bytes ∷ files) r (inl h) = inl (refused_of_front (record { 0 = n }) sum bytes r h)
one_of_fronts n sum (bytes ∷ files) r (inr h) =
    let more = sum + length (front bytes) in
    let here : IsReadAfter (record { 0 = n }) sum bytes more h.0 =
    read_of_front (record { 0 = n }) sum bytes more h.0 (record { added = refl; read = h.1 }) in
    inr (
      h.0,
      subst (λ (s : ℕ). IsRead (record { 0 = n }) s bytes h.0) here.added here.read,
      one_of_fronts (suc n) (sum + length bytes) files r
          (subst (λ (s : ℕ). IsOneRefused (suc n) s (map front files) r) here.added h.2),
    )

-- what is read is short, so its front is all of it
pub fronts_of_read : (n sum : ℕ) (files : List (List ℕ)) (us : List unit.Unit) → AreReadFrom n sum files us
    → map front files ≡ files
fronts_of_read n sum [] us h = refl
fronts_of_read n sum (bytes ∷ files) [] h = absurd h
fronts_of_read n sum (bytes ∷ files) (u ∷ us) h =
    let short : length bytes ≤ MAX_FILE_BYTES = h.0.short.file in
    ap (λ (bs : List ℕ). bs ∷ map front files) (take_all (MAX_FILE_BYTES + 1) bytes (omega arith))
    ∙ ap (λ (fs : List (List ℕ)). bytes ∷ fs) (fronts_of_read (suc n) (sum + length bytes) files us h.1)

few_of_fronts : (files : List (List ℕ)) → length (map front files) ≤ MAX_FILES → length files ≤ MAX_FILES
few_of_fronts files few = subst (λ (n : ℕ). n ≤ MAX_FILES) (length-map files front) few

all_of_fronts : (files : List (List ℕ)) (us : List unit.Unit) → AreRead (map front files) us → AreRead files us
all_of_fronts files us h = record { few = few_of_fronts files h.few; read = read_of_fronts 0 0 files us h.read }

pub accepted_of_fronts : (files : List (List ℕ)) (us : List unit.Unit) → AreAccepted (map front files) us
    → AreAccepted files us
accepted_of_fronts files us h = record { read = all_of_fronts files us h.read; none = h.none }

file_of_fronts : (files : List (List ℕ)) (r : Refusal) → IsFileRefused (map front files) r → IsFileRefused files r
file_of_fronts files r h = record { few = few_of_fronts files h.few; one = one_of_fronts 0 0 files r h.one }

units_of_fronts : (files : List (List ℕ)) (fault : ResolveFault) → AreRefusedUnits (map front files) fault
    → AreRefusedUnits files fault
units_of_fronts files fault h = record { units = h.units; read = all_of_fronts files h.units h.read; some = h.some }

-- what refuses their fronts refuses them
pub refused_of_fronts : (files : List (List ℕ)) (r : Refusal) → AreRefused (map front files) r → AreRefused files r
refused_of_fronts files (TooManyFiles n) h = (h.0 ∙ length-map files front, h.1)
refused_of_fronts files (DuplicateClass p q) h = units_of_fronts files (resolve.DuplicateClass p q) h
refused_of_fronts files (DuplicateField p q) h = units_of_fronts files (resolve.DuplicateField p q) h
refused_of_fronts files (TooManyClasses n) h = units_of_fronts files (resolve.TooManyClasses n) h
refused_of_fronts files (TooManyMethods n) h = units_of_fronts files (resolve.TooManyMethods n) h
refused_of_fronts files (TooManyCalls n) h = h
refused_of_fronts files (TooLong f) h = file_of_fronts files (TooLong f) h
refused_of_fronts files (TooManyBytes n) h = file_of_fronts files (TooManyBytes n) h
refused_of_fronts files (NotUtf8 f n) h = file_of_fronts files (NotUtf8 f n) h
refused_of_fronts files (BadCharacter p) h = file_of_fronts files (BadCharacter p) h
refused_of_fronts files (Unclosed p) h = file_of_fronts files (Unclosed p) h
refused_of_fronts files (BadLiteral p) h = file_of_fronts files (BadLiteral p) h
refused_of_fronts files (Unbalanced p) h = file_of_fronts files (Unbalanced p) h
refused_of_fronts files (TooDeep p) h = file_of_fronts files (TooDeep p) h
refused_of_fronts files (NotAUnit p) h = file_of_fronts files (NotAUnit p) h
