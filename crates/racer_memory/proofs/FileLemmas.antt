-- Lemmas on lists of files.
use Rattle.std.proofs.Common.{◌≡◌, ℕ, zero, suc, ◌+◌, ◌<◌, Bool, true, false, List, [], ◌∷◌, ◌++◌, map, length, get_or}
use Rattle.std.proofs.Common.{take, drop, refl, sym, ap, subst, ◌∙◌, arith, string_bytes, cond, ◌||◌, String, Vec}
use Rattle.std.proofs.Common.{Global, Option, None, Some, ◌≤◌, ◌↔◌, IsTrue}
use Rattle.std.proofs.lemmas.List.{at_drop_more, map_more, length-map, take_all}
use Rattle.std.proofs.Math.ListN.{get_or-map}
use Rattle.std.proofs.lemmas.Map.Keys.{IsDistinct-from_apart, IsDistinct-push, IsDistinct-tail, apart_from_distinct}
use Rattle.std.proofs.lemmas.Cmp.{eq_by_cmp_equiv}
use Rattle.std.specs.List.{list_any, IsDistinct}
use Rattle.std.specs.Option.{is_some, option_map}
use Rattle.std.proofs.Math.Dec.{eqb}
use Rattle.std.specs.FinMap.{get, contains_key, get-from_entries, get-insert}
use Rattle.std.specs.FinMap.Entries.{is_some-find}
use Rattle.std.specs.Cmp.Lexicographic.{slice_cmp, nat_list_cmp_total, texts_ties, pointwise}
use Rattle.std.specs.Ordering.{nat_cmp}
use Rattle.racer_base.specs.Outside.{same_name}
use Rattle.racer_memory.specs.FileList.{names_of, files_of}
use Rattle.racer_memory.proofs.FirstFile.{bytes_of}

-- the map of the files has what the first file of a name has
pub get-files_of : (files : List (String Global × Vec ℕ Global)) (name : List ℕ) →
    get (files_of files) name ≡ bytes_of files name
get-files_of [] name = get-from_entries nat_list_cmp_total [] name
get-files_of (file ∷ files) name =
    get-insert nat_list_cmp_total (files_of files) (string_bytes file.0) file.1.items name
    ∙ ap (cond (same_name name (string_bytes file.0)) (Some file.1.items)) (get-files_of files name)

-- one step of the search for a file: what it has at index i, by how the name compares with that file's
pub bytes_of-step : (files items : List (String Global × Vec ℕ Global)) (i : ℕ) (file : String Global × Vec ℕ Global)
    (name text : List ℕ) (b : Bool)
    → bytes_of files name ≡ bytes_of (drop i items) name → i < length items → file ≡ get_or items i file →
    text ≡ string_bytes file.0 → b ≡ pointwise eqb name text
    → bytes_of files name ≡ cond b (Some file.1.items) (bytes_of (drop (i + 1) items) name)
bytes_of-step files items i file name text b before h is spelled same =
    before
    ∙ at_drop_more (λ fs. bytes_of fs name) items i file h
    ∙ ap (λ (f : String Global × Vec ℕ Global). cond (same_name name (string_bytes f.0)) (Some f.1.items)
    (bytes_of (drop (i + 1) items) name)) (sym is)
    ∙ ap (λ b. cond b (Some file.1.items) (bytes_of (drop (i + 1) items) name))
    (sym (texts_ties name (string_bytes file.0)) ∙ ap (pointwise eqb name) (sym spelled) ∙ sym same)

map-pairs : (files : List (String Global × Vec ℕ Global)) →
    map (λ (e : List ℕ × List ℕ). e.0) (map
    (λ (file : String Global × Vec ℕ Global). (string_bytes file.0, file.1.items))
    files) ≡ names_of files
map-pairs [] = refl
map-pairs (file ∷ files) = ap (λ names. string_bytes file.0 ∷ names) (map-pairs files)

-- the names of the files are the keys of their map
pub names-files_of : (files : List (String Global × Vec ℕ Global)) (name : List ℕ) →
    contains_key (files_of files) name ≡ list_any (same_name name) (names_of files)
names-files_of files name =
    let pairs = map (λ (file : String Global × Vec ℕ Global). (string_bytes file.0, file.1.items)) files in
    ap is_some (get-from_entries nat_list_cmp_total pairs name)
    ∙ is_some-find (slice_cmp nat_cmp) name pairs
    ∙ ap (list_any (same_name name)) (map-pairs files)

is_some-map : {A : Type 0} (g : A → List ℕ) (o : Option A) → is_some (option_map g o) ≡ is_some o
is_some-map g None = refl
is_some-map g (Some x) = refl

-- whether a file of a name is found says whether the name is there
pub names_found : {A : Type 0} (files : List (String Global × Vec ℕ Global)) (name : List ℕ) (g : A → List ℕ)
    (o : Option A) (b : Bool)
    → option_map g o ≡ get (files_of files) name → b ≡ is_some o → list_any (same_name name) (names_of files) ≡ b
names_found files name g o b found is =
    sym (names-files_of files name) ∙ ap is_some (sym found) ∙ is_some-map g o ∙ sym is

-- the names of all files, where that many were read
pub all_read : (names : List (List ℕ)) (files items : List (String Global × Vec ℕ Global)) (i : ℕ) →
    names ≡ take i (names_of files) → items ≡ files → length items ≤ i → names ≡ names_of files
all_read names files items i read same end =
    let count = length-map files (λ (f : String Global × Vec ℕ Global). string_bytes f.0) in
    let long : length (names_of files) ≤ i = omega (arith, count, ap length same, end) in
    read ∙ take_all i (names_of files) long

pub none_distinct : IsDistinct same_name []
none_distinct = IsDistinct-from_apart same_name [] (λ i j d h k. absurd (omega arith))

-- one more file, whose name is new
pub more_distinct : (files : List (String Global × Vec ℕ Global)) (i : ℕ) (file : String Global × Vec ℕ Global)
    (text : List ℕ) → i < length files → file ≡ get_or files i file → text ≡ string_bytes file.0
    → IsDistinct same_name (names_of (take i files))
    → list_any (same_name text) (names_of (take i files)) ≡ false
    → IsDistinct same_name (names_of (take (i + 1) files))
more_distinct files i file text h is spelled before new =
    let push = IsDistinct-push (eq_by_cmp_equiv nat_list_cmp_total) (names_of (take i files))
    (string_bytes file.0) before (ap (λ name. list_any (same_name name) (names_of (take i files))) (sym spelled)
    ∙ new) in
    let names : names_of (take i files) ++ string_bytes file.0 ∷ [] ≡ names_of (take (i + 1) files)
    = sym (map_more (λ (f : String Global × Vec ℕ Global). string_bytes f.0) files i file h
    ∙ ap (λ (f : String Global × Vec ℕ Global). names_of (take i files) ++ string_bytes f.0 ∷ []) (sym is)) in
    subst (λ (ns : List (List ℕ)). IsDistinct same_name ns) names push

-- all files, where that many have different names
pub all_distinct : (files : List (String Global × Vec ℕ Global)) (i : ℕ) → length files ≤ i →
    IsDistinct same_name (names_of (take i files)) → IsTrue true ↔ IsDistinct same_name (names_of files)
all_distinct files i end d =
    let whole = take_all i files end in
    (λ e. subst (λ (fs : List (String Global × Vec ℕ Global)). IsDistinct same_name (names_of fs)) whole d, λ e. cc)

-- a name that stands twice
twice : (files : List (String Global × Vec ℕ Global)) (i : ℕ) (file : String Global × Vec ℕ Global) → i < length files →
    file ≡ get_or files i file → list_any (same_name (string_bytes file.0)) (names_of (take i files)) ≡ true →
    IsDistinct same_name (names_of files) → ⊥
twice [] i file h is found distinct = omega arith
twice (first ∷ files) zero file h is found distinct = cc
twice (first ∷ files) (suc i) file h is found distinct =
    let inside : i < length files = omega arith in
    let reached : suc i < length (names_of (first ∷ files)) =
    omega (arith, length-map files (λ (f : String Global × Vec ℕ Global). string_bytes f.0)) in
    let apart = apart_from_distinct same_name (names_of (first ∷ files)) 0 (suc i) (string_bytes file.0) distinct
    (omega arith) reached in
    let other : same_name (string_bytes file.0) (string_bytes first.0) ≡ false
    = (eq_by_cmp_equiv nat_list_cmp_total).symm (string_bytes file.0) (string_bytes first.0)
    ∙ ap (λ (f : String Global × Vec ℕ Global). same_name (string_bytes first.0) (string_bytes f.0)) is
    ∙ ap (same_name (string_bytes first.0))
    (sym (get_or-map (λ (f : String Global × Vec ℕ Global). string_bytes f.0) files i file))
    ∙ apart in
    let later = ap (λ b. b || list_any (same_name (string_bytes file.0)) (names_of (take i files))) (sym other)
    ∙ found in
    twice files i file inside is later (IsDistinct-tail same_name (string_bytes first.0) (names_of files) distinct)

-- a file with the name of an earlier one
pub repeated_name : (files : List (String Global × Vec ℕ Global)) (i : ℕ) (file : String Global × Vec ℕ Global)
    (text : List ℕ) → i < length files → file ≡ get_or files i file → text ≡ string_bytes file.0
    → list_any (same_name text) (names_of (take i files)) ≡ true
    → IsDistinct same_name (names_of files) → ⊥
repeated_name files i file text h is spelled found =
    twice files i file h is (ap (λ name. list_any (same_name name) (names_of (take i files))) (sym spelled) ∙ found)
