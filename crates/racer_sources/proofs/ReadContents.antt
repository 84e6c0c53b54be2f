-- The bytes of sources that were read, one after the other: one more, and what is left.
use Rattle.std.proofs.Common.{◌≡◌, ℕ, ◌+◌, ◌<◌, ◌≤◌, List, [], ◌∷◌, ◌++◌, Option, None, Some, length, map, refl, sym}
use Rattle.std.proofs.Common.{ap, subst, ◌∙◌, append_assoc, inl, String, Vec, Global, string_bytes, drop, get_or, arith}
use Rattle.std.proofs.lemmas.List.{drop_more, drop_all, append-nil, length_push}
use Rattle.std.proofs.lemmas.List.Elements.{All-push, All-nil}
use Rattle.std.specs.Prelude.{Result, Ok, Err, OnOk}
use Rattle.std.specs.Option.{IfSome}
use Rattle.racer_base.specs.Outside.{Told}
use Rattle.racer_base.specs.declared.limits.TheConstants.{MAX_FILE_BYTES}
use Rattle.java_tree.specs.declared.unit.Unit as unit
use Rattle.racer_sources.specs.Contents.{bytes_in, AreMost, AreInLimits}
use Rattle.racer_sources.specs.ReadContents.{AddsSomeContent, AddSomeContents, AddsContent, AddContents}
use Rattle.racer_sources.specs.declared.fault.SourceFault.{SourceFault}
use Rattle.racer_sources.specs.declared.fault.SourceFault.TheVariants.{Refused, Failed, Memory}
use Rattle.racer_sources.specs.declared.found.AcceptedSources.{AcceptedSources}
use Rattle.racer_sources.specs.declared.found.FolderSources.TheVariants as found
use Rattle.racer_sources.specs.declared.units.ReadSources.{ReadSources}
use Rattle.racer_sources.specs.Finding.{IsFound}
use Rattle.racer_sources.specs.Sources.{bytes_of, source_names, AreReadFrom, IsOneRefused, AreAccepted}
use Rattle.racer_sources.specs.Reading.{bytes_of_all, next_file, IfRefused, IsAdded, IsAddedSomehow, IsFileFault}
use Rattle.racer_sources.proofs.Added.{LeadsOn, files_from, leads_one}

abbrev Bytes : Type 0
Bytes = Vec ℕ Global

abbrev Contents : Type 0
Contents = Vec Bytes Global

-- ---- put behind others

pub added_some : {T E : Type 0} (old new : Contents) (bytes : Bytes) (r : Result T E)
    → bytes.len ≤ MAX_FILE_BYTES + 1 → OnOk r (new.items ≡ old.items ++ bytes ∷ []) → OnOk r (AddsSomeContent old new)
added_some old new bytes (Err e) most put = tt
added_some old new bytes (Ok x) most put =
    record { bytes = bytes; most = omega (arith, most, bytes.ok.0); added = put }

pub many_more : (first old new : Contents) (i : ℕ) → length old.items ≡ length first.items + i → AddsSomeContent old new
    → length new.items ≡ length first.items + (i + 1)
many_more first old new i many added =
    let more : length new.items ≡ length old.items + 1 = ap length added.added ∙ length_push old.items added.bytes in
    omega (arith, many, more)

pub most_more : (old new : Contents) → AreMost old.items → AddsSomeContent old new → AreMost new.items
most_more old new most added =
    subst AreMost (sym added.added)
    (All-push (λ (bytes : Bytes). length bytes.items ≤ MAX_FILE_BYTES + 1) old.items added.bytes most added.most)

-- behind nothing
pub in_limits : (files : ℕ) (old new : Contents) → old.items ≡ [] → AddSomeContents files old new
    → AreInLimits files new.items
in_limits files old new none added =
    record {
      as_many = let nothing : length old.items ≡ 0 = ap length none in omega (arith, added.as_many, nothing);
      few = added.few;
      most = added.most
          (subst AreMost (sym none) (All-nil (λ (bytes : Bytes). length bytes.items ≤ MAX_FILE_BYTES + 1)));
    }

-- what is kept so far, with the files of the names that are left, is what all of them make
abbrev pub KeepsFrom : Option Told → List (String Global) → ℕ → Contents → Contents → Type 0
KeepsFrom o names i first now = IfSome o (λ (t : Told). bytes_in now.items ++ files_from t.files names i
    ≡ bytes_in first.items ++ files_from t.files names 0)

pub keeps_more : (o : Option Told) (names : List (String Global)) (i : ℕ) (name : String Global)
    (first old new : Contents) → i < length names → KeepsFrom o names i first old
    → IfSome o (λ (t : Told). AddsContent (bytes_of t.files (string_bytes (get_or names i name))) old new)
    → KeepsFrom o names (i + 1) first new
keeps_more None names i name first old new h keeps added = tt
keeps_more (Some t) names i name first old new h keeps added =
    let rest = files_from t.files names (i + 1) in
    let bytes = bytes_of t.files (string_bytes (get_or names i name)) in
    ap (λ (bs : List (List ℕ)). bs ++ rest) added
    ∙ append_assoc (bytes_in old.items) (bytes ∷ []) rest
    ∙ ap (λ (left : List (String Global)). bytes_in old.items ++ bytes_of_all t.files (map string_bytes left))
    (sym (drop_more names i name h))
    ∙ keeps

pub keeps_all : (o : Option Told) (names : List (String Global)) (i : ℕ) (first now : Contents) → length names ≤ i
    → KeepsFrom o names i first now → IfSome o (λ (t : Told). AddContents (files_from t.files names 0) first now)
keeps_all None names i first now h keeps = tt
keeps_all (Some t) names i first now h keeps =
    sym (append-nil (bytes_in now.items))
    ∙ ap (λ (left : List (String Global)). bytes_in now.items ++ bytes_of_all t.files (map string_bytes left))
    (sym (drop_all i names h))
    ∙ keeps

-- ---- read again

pub some_unit : (bytes : List ℕ) (old new : ReadSources) → IsAdded bytes old new → IsAddedSomehow old new
some_unit bytes old new added =
    record { unit = added.unit; read = (bytes, added.read.read); units = added.units }

abbrev pub contents_from : List Bytes → ℕ → List (List ℕ)
contents_from contents i = bytes_in (drop i contents)

module _ (contents : List Bytes) (i : ℕ) (bytes : Bytes) (h : i < length contents)
    (is : bytes ≡ get_or contents i bytes) where
  next_content : drop i contents ≡ bytes ∷ drop (i + 1) contents
  next_content = drop_more contents i bytes h ∙ ap (λ (b : Bytes). b ∷ drop (i + 1) contents) (sym is)

  leads_here : (read : ReadSources) → LeadsOn (contents_from contents 0) (contents_from contents i) read
      → LeadsOn (contents_from contents 0) (bytes.items ∷ contents_from contents (i + 1)) read
  leads_here read leads =
      subst (λ (left : List Bytes). LeadsOn (contents_from contents 0) (bytes_in left) read) next_content leads

  pub leads_bytes : (old new : ReadSources) → LeadsOn (contents_from contents 0) (contents_from contents i) old
      → IsAdded bytes.items old new → LeadsOn (contents_from contents 0) (contents_from contents (i + 1)) new
  leads_bytes old new leads added =
      leads_one (contents_from contents 0) (contents_from contents (i + 1)) bytes.items old new (leads_here old leads)
      added

  pub refused_bytes : (read : ReadSources) (fault : SourceFault)
      → LeadsOn (contents_from contents 0) (contents_from contents i) read
      → IsFileFault (next_file read) (read.sum + length bytes.items) bytes.items fault
      → IfRefused fault (IsOneRefused 0 0 (contents_from contents 0))
  refused_bytes read (Refused r) leads is = (leads_here read leads).refuses r (inl is)
  refused_bytes read Failed leads is = tt
  refused_bytes read Memory leads is = tt

pub all_bytes_read : (contents : List Bytes) (i : ℕ) (read : ReadSources) → length contents ≤ i
    → LeadsOn (contents_from contents 0) (contents_from contents i) read
    → AreReadFrom 0 0 (contents_from contents 0) read.units.items
all_bytes_read contents i read h leads =
    let none : LeadsOn (contents_from contents 0) [] read =
    subst (λ (left : List Bytes). LeadsOn (contents_from contents 0) (bytes_in left) read) (drop_all i contents h)
    leads in
    subst (λ (us : List unit.Unit). AreReadFrom 0 0 (contents_from contents 0) us) (append-nil read.units.items)
    (none.reads [] tt)

-- ---- what is found

pub found_there : (o now : Option Told) (names : List (String Global)) (s : AcceptedSources) (none : Contents)
    → now ≡ o → none.items ≡ [] → names ≡ s.names.items
    → IfSome o (λ (t : Told). map string_bytes s.names.items ≡ source_names t.files)
    → IfSome now (λ (t : Told). AreAccepted (bytes_of_all t.files (map string_bytes names)) s.units.items)
    → IfSome now (λ (t : Told). AddContents (bytes_of_all t.files (map string_bytes names)) none s.contents)
    → IfSome o (λ (t : Told). IsFound t.files (found.Accepted s))
found_there o None names s none same empty spelled named read kept =
    subst (λ (v : Option Told). IfSome v (λ (t : Told). IsFound t.files (found.Accepted s))) same tt
found_there None (Some t) names s none same empty spelled named read kept = tt
found_there (Some u) (Some t) names s none same empty spelled named read kept =
    let told : u ≡ t = cc in
    let sources : map string_bytes names ≡ source_names t.files =
    ap (map string_bytes) spelled ∙ named ∙ ap (λ (v : Told). source_names v.files) told in
    subst (λ (v : Told). IsFound v.files (found.Accepted s)) (sym told) (
      subst (λ (ns : List (List ℕ)). AreAccepted (bytes_of_all t.files ns) s.units.items) sources read,
      ap (map string_bytes) (sym spelled) ∙ sources,
      kept ∙ ap (λ (cs : List Bytes). bytes_in cs ++ bytes_of_all t.files (map string_bytes names)) empty
          ∙ ap (bytes_of_all t.files) sources,
    )
