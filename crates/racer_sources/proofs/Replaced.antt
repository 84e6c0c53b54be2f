-- A source that is replaced: the names stay, and the bytes of one of them are others.
use Rattle.std.proofs.Common.{◌≡◌, ℕ, zero, suc, ◌<◌, Bool, true, false, ◌&&◌, ◌||◌, cond, T, List, [], ◌∷◌, map}
use Rattle.std.proofs.Common.{refl, sym, ap, subst, ◌∙◌, arith, length, set, Option, None, Some, Vec, Global}
use Rattle.std.proofs.Common.{◌+◌, String, string_bytes, drop, filter, get_or}
use Rattle.std.proofs.lemmas.List.{length-map, at_drop_more}
use Rattle.std.proofs.lemmas.Option.{same_Some}
use Rattle.std.proofs.lemmas.Bool.{false≢true}
use Rattle.std.proofs.lemmas.Slice.Eq.{bytes_eq-Decides}
use Rattle.std.proofs.lemmas.Cmp.{eq_by_cmp_equiv}
use Rattle.std.specs.Prelude.{slice_get, nat_eq}
use Rattle.std.specs.Option.{is_some}
use Rattle.std.specs.List.{list_any}
use Rattle.std.specs.Ordering.{is_lt, is_eq}
use Rattle.std.specs.declared.cmp.Ordering.{Ordering}
use Rattle.std.specs.declared.cmp.Ordering.TheVariants.{Less, Equal, Greater}
use Rattle.std.specs.Cmp.Lexicographic.{nat_list_cmp_total, texts_ties, pointwise}
use Rattle.std.specs.FinMap.{get, insert, keys, entries, entries_sorted, contains_key, contains_key-keys, get-insert}
use Rattle.std.specs.FinMap.Entries.{is_sorted, below_all, where_key, is_sorted-where_key}
use Rattle.racer_base.specs.Outside.{Files, same_name}
use Rattle.racer_sources.specs.Contents.{bytes_in, front}
use Rattle.racer_sources.specs.Kept.{AreKept, IsNumberOf}
use Rattle.racer_sources.specs.Sources.{is_java, source_names, bytes_of, contents}
use Rattle.racer_sources.specs.declared.source_files.SourceFiles.{SourceFiles}
use Rattle.racer_sources.proofs.SortedNames.{marked, order, is_sorted-keys, same_rising}

-- ---- names

named_itself : (name : List ℕ) → same_name name name ≡ true
named_itself = (eq_by_cmp_equiv nat_list_cmp_total).refl

same_names : (a b : List ℕ) → same_name a b ≡ true → a ≡ b
same_names a b e = (bytes_eq-Decides a b).0 (texts_ties a b ∙ e)

or_kept : (b r s : Bool) → (r ≡ true → s ≡ true) → (b || r) ≡ true → (b || s) ≡ true
or_kept true r s step e = refl
or_kept false r s step e = step e

or_later : (b s : Bool) → s ≡ true → (b || s) ≡ true
or_later true s e = refl
or_later false s e = e

any_kept : (p test : List ℕ → Bool) (xs : List (List ℕ)) → list_any test (filter p xs) ≡ true
    → list_any test xs ≡ true
any_kept p test [] h = h
any_kept p test (x ∷ xs) h =
    let rest = any_kept p test xs in
    elim (p x) as (λ b. list_any test (cond b (x ∷ filter p xs) (filter p xs)) ≡ true
    → (test x || list_any test xs) ≡ true) [
      | true ↦ λ e. or_kept (test x) (list_any test (filter p xs)) (list_any test xs) rest e
      | false ↦ λ e. or_later (test x) (list_any test xs) (rest e)
    ] h

same_keys : (files : Files) (name whole : List ℕ) → contains_key files name ≡ true
    → keys (insert files name whole) ≡ keys files
same_keys files name whole there =
    same_rising (keys (insert files name whole)) (keys files)
    (subst T (sym (is_sorted-keys (entries (insert files name whole)))) (entries_sorted (insert files name whole)))
    (subst T (sym (is_sorted-keys (entries files))) (entries_sorted files))
    (λ q. sym (contains_key-keys (insert files name whole) q)
    ∙ ap is_some (get-insert nat_list_cmp_total files name whole q)
    ∙ step q (same_name q name) refl ∙ contains_key-keys files q)
  where
    step : (q : List ℕ) (b : Bool) → same_name q name ≡ b
        → is_some (cond b (Some whole) (get files q)) ≡ is_some (get files q)
    step q true e = sym (ap (contains_key files) (same_names q name e) ∙ there)
    step q false e = refl

-- the sources stay where one of them gets other bytes
pub same_sources : (files : Files) (name whole : List ℕ) → list_any (same_name name) (source_names files) ≡ true
    → source_names (insert files name whole) ≡ source_names files
same_sources files name whole is =
    ap (filter is_java) (same_keys files name whole
    (contains_key-keys files name ∙ any_kept is_java (same_name name) (keys files) is))

abbrev mark : List ℕ → List ℕ × Unit {0}
mark k = (k, tt)

marked-filter : (p : List ℕ → Bool) (ks : List (List ℕ)) → marked (filter p ks) ≡ where_key order p (marked ks)
marked-filter p [] = refl
marked-filter p (k ∷ ks) =
    elim (p k) as (λ b. marked (cond b (k ∷ filter p ks) (filter p ks))
    ≡ cond b (mark k ∷ where_key order p (marked ks)) (where_key order p (marked ks))) [
      | true ↦ ap (λ (rest : List (List ℕ × Unit {0})). mark k ∷ rest) (marked-filter p ks)
      | false ↦ marked-filter p ks
    ]

sources_rise : (files : Files) → T (is_sorted order (marked (source_names files)))
sources_rise files =
    subst (λ (es : List (List ℕ × Unit {0})). T (is_sorted order es)) (sym (marked-filter is_java (keys files)))
    (is_sorted-where_key order is_java (marked (keys files))
    (subst T (sym (is_sorted-keys (entries files))) (entries_sorted files)))

-- ---- contents

abbrev Bytes : Type 0
Bytes = Vec ℕ Global

first_of : (a b : Bool) → T (a && b) → T a
first_of true b h = tt
first_of false b h = h

second_of : (a b : Bool) → T (a && b) → T b
second_of true b h = h
second_of false b h = absurd h

not_same : (r : Ordering) → T (is_lt r) → is_eq r ≡ false
not_same Less h = refl
not_same Equal h = absurd h
not_same Greater h = absurd h

-- what gets other bytes is not before or behind itself
module _ (before : List ℕ → List ℕ) (whole : List ℕ) where
  abbrev behind : List ℕ → List ℕ → List ℕ
  behind name q = cond (same_name q name) whole (before q)

  others : (x : List ℕ) (xs : List (List ℕ)) → T (below_all order x (marked xs)) → map before xs ≡ map (behind x) xs
  others x [] h = refl
  others x (y ∷ ys) h =
      let apart : same_name y x ≡ false =
      (eq_by_cmp_equiv nat_list_cmp_total).symm y x ∙ not_same (order x y) (first_of _ _ h) in
      ap (λ b. cond b whole (before y) ∷ map before ys) (sym apart)
      ∙ ap (λ rest. behind x y ∷ rest) (others x ys (second_of _ _ h))

  below_at : (x name : List ℕ) (xs : List (List ℕ)) (n : ℕ) → T (below_all order x (marked xs))
      → slice_get xs n ≡ Some name → same_name x name ≡ false
  below_at x name [] n h at = absurd (let bad : ◌≡◌ {A = Option (List ℕ)} None (Some name) = at in cc)
  below_at x name (y ∷ ys) zero h at =
      subst (λ (q : List ℕ). same_name x q ≡ false) (same_Some y name at) (not_same (order x y) (first_of _ _ h))
  below_at x name (y ∷ ys) (suc n) h at = below_at x name ys n (second_of _ _ h) at

  replaced : (name : List ℕ) (names : List (List ℕ)) (old : List Bytes) (n : ℕ) (bytes : Bytes)
      → T (is_sorted order (marked names)) → slice_get names n ≡ Some name → bytes_in old ≡ map front (map before names)
      → bytes.items ≡ front whole → bytes_in (set old n bytes) ≡ map front (map (behind name) names)
  replaced name [] old n bytes rises at are is =
      absurd (let bad : ◌≡◌ {A = Option (List ℕ)} None (Some name) = at in cc)
  replaced name (x ∷ xs) [] n bytes rises at are is = absurd cc
  replaced name (x ∷ xs) (c ∷ old) zero bytes rises at are is =
      let tail : bytes_in old ≡ map front (map before xs) = cc in
      let here : x ≡ name = same_Some x name at in
      ap (λ (bs : List ℕ). bs ∷ bytes_in old) (is ∙ ap (λ (b : Bool). front (cond b whole (before x)))
      (sym (ap (same_name x) (sym here) ∙ named_itself x)))
      ∙ ap (λ rest. front (behind name x) ∷ rest)
      (tail ∙ ap (map front) (subst (λ (q : List ℕ). map before xs ≡ map (behind q) xs) here
      (others x xs (first_of _ _ rises))))
  replaced name (x ∷ xs) (c ∷ old) (suc n) bytes rises at are is =
      let head : c.items ≡ front (before x) = cc in
      let tail : bytes_in old ≡ map front (map before xs) = cc in
      let apart = below_at x name xs n (first_of _ _ rises) at in
      ap (λ (bs : List ℕ). bs ∷ bytes_in (set old n bytes))
      (head ∙ ap (λ (b : Bool). front (cond b whole (before x))) (sym apart))
      ∙ ap (λ rest. front (behind name x) ∷ rest) (replaced name xs old n bytes (second_of _ _ rises) at tail is)

of_cond : (b : Bool) (whole : List ℕ) (o : Option (List ℕ))
    → (elim (cond b (Some whole) o) [ None ↦ [] | (Some bytes) ↦ bytes ])
    ≡ cond b whole (elim o [ None ↦ [] | (Some bytes) ↦ bytes ])
of_cond true whole o = refl
of_cond false whole o = refl

map_agree : (f g : List ℕ → List ℕ) → ((q : List ℕ) → f q ≡ g q) → (xs : List (List ℕ)) → map f xs ≡ map g xs
map_agree f g same [] = refl
map_agree f g same (x ∷ xs) = ap (λ y. y ∷ map f xs) (same x) ∙ ap (λ ys. g x ∷ ys) (map_agree f g same xs)

contents_behind : (files : Files) (name whole : List ℕ) → list_any (same_name name) (source_names files) ≡ true
    → map (behind (bytes_of files) whole name) (source_names files) ≡ contents (insert files name whole)
contents_behind files name whole is =
    map_agree (behind (bytes_of files) whole name) (bytes_of (insert files name whole))
    (λ q. sym (ap (λ (o : Option (List ℕ)). elim o [ None ↦ [] | (Some bytes) ↦ bytes ])
    (get-insert nat_list_cmp_total files name whole q) ∙ of_cond (same_name q name) whole (get files q)))
    (source_names files)
    ∙ ap (map (bytes_of (insert files name whole))) (sym (same_sources files name whole is))

-- ---- sources that are kept

within : {A : Type 0} (xs : List A) (n : ℕ) (x : A) → slice_get xs n ≡ Some x → n < length xs
within {A = A} [] n x e = absurd (let bad : ◌≡◌ {A = Option A} None (Some x) = e in cc)
within {A = A} (y ∷ ys) zero x e = omega arith
within {A = A} (y ∷ ys) (suc n) x e = let rest = within ys n x e in omega arith

pub number_within : (kept : SourceFiles) (n : ℕ) (name : List ℕ)
    → slice_get (map string_bytes kept.names.items) n ≡ Some name → n < length kept.contents.items
number_within kept n name at =
    let inside = within (map string_bytes kept.names.items) n name at in
    omega (arith, inside, length-map kept.names.items string_bytes, kept.in_limits.as_many)

pub kept_replaced : (files : Files) (name whole : List ℕ) (old new : SourceFiles) (n : ℕ) (bytes : Bytes)
    → slice_get (map string_bytes old.names.items) n ≡ Some name → new.names ≡ old.names
    → new.contents.items ≡ set old.contents.items n bytes → AreKept files old
    → list_any (same_name name) (source_names files) ≡ true → bytes.items ≡ front whole
    → AreKept (insert files name whole) new
kept_replaced files name whole old new n bytes at names contents kept is whole_is =
    record {
      names = ap (λ (ns : Vec (String Global) Global). map string_bytes ns.items) names ∙ kept.names
          ∙ sym (same_sources files name whole is);
      contents = ap bytes_in contents
          ∙ replaced (bytes_of files) whole name (source_names files) old.contents.items n bytes (sources_rise files)
          (subst (λ (ns : List (List ℕ)). slice_get ns n ≡ Some name) kept.names at) kept.contents whole_is
          ∙ ap (map front) (contents_behind files name whole is);
    }

-- what is no source is not replaced
pub nothing_replaced : {A : Type 0} (files : Files) (name : List ℕ) (kept : SourceFiles)
    → list_any (same_name name) (map string_bytes kept.names.items) ≡ false → AreKept files kept
    → list_any (same_name name) (source_names files) ≡ true → A
nothing_replaced files name kept none are is =
    absurd (false≢true (sym none ∙ ap (list_any (same_name name)) are.names ∙ is))

-- ---- the number of a name

pub number_there : (names : List (List ℕ)) (name : List ℕ) (n : ℕ) → slice_get names n ≡ Some name
    → list_any (same_name name) names ≡ true
number_there [] name n at = absurd (let bad : ◌≡◌ {A = Option (List ℕ)} None (Some name) = at in cc)
number_there (x ∷ xs) name zero at =
    ap (λ b. b || list_any (same_name name) xs) (ap (same_name name) (same_Some x name at) ∙ named_itself name)
number_there (x ∷ xs) name (suc n) at = or_later (same_name name x) _ (number_there xs name n at)

pub has_number : (names : List (List ℕ)) (name : List ℕ) (found : Option ℕ) → IsNumberOf names name found
    → is_some found ≡ list_any (same_name name) names
has_number names name None is = sym is
has_number names name (Some n) is = sym (number_there names name n is)

-- ---- the search for it

at_place : (names : List (String Global)) (n : ℕ) (d : String Global) → n < length names
    → slice_get (map string_bytes names) n ≡ Some (string_bytes (get_or names n d))
at_place [] n d h = absurd (let bad : n < 0 = h in omega arith)
at_place (x ∷ xs) zero d h = refl
at_place (x ∷ xs) (suc n) d h = at_place xs n d (omega arith)

pub number_here : (names : List (String Global)) (n : ℕ) (name text : List ℕ) (item : String Global)
    → n < length names → item ≡ get_or names n item → text ≡ string_bytes item → true ≡ pointwise nat_eq name text
    → slice_get (map string_bytes names) n ≡ Some name
number_here names n name text item h is spelled same =
    at_place names n item h
    ∙ ap (λ (s : List ℕ). Some s)
    (ap string_bytes (sym is) ∙ sym spelled ∙ sym ((bytes_eq-Decides name text).0 (sym same)))

pub number_step : (names : List (String Global)) (n : ℕ) (name text : List ℕ) (item : String Global) (whole : Bool)
    → n < length names → item ≡ get_or names n item → text ≡ string_bytes item → false ≡ pointwise nat_eq name text
    → list_any (same_name name) (map string_bytes (drop n names)) ≡ whole
    → list_any (same_name name) (map string_bytes (drop (n + 1) names)) ≡ whole
number_step names n name text item whole h is spelled other before =
    let rest = list_any (same_name name) (map string_bytes (drop (n + 1) names)) in
    ap (λ b. b || rest) (other ∙ texts_ties name text ∙ ap (same_name name) (spelled ∙ ap string_bytes is))
    ∙ sym (at_drop_more (λ ns. list_any (same_name name) (map string_bytes ns)) names n item h)
    ∙ before
