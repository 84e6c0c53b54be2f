-- Variables found by their names, as variables come and go.
use Rattle.std.proofs.Common.{◌≡◌, ℕ, suc, ◌-◌, ◌<◌, ◌≤◌, Bool, true, false, cond, List, [], ◌∷◌, ◌++◌, Option}
use Rattle.std.proofs.Common.{Some, None, length, map, take, refl, sym, ap, ◌∙◌, arith, length-append, drop, slice_get}
use Rattle.std.specs.Prelude.{Vec, bytes_eq, option_map}
use Rattle.std.specs.BTreeMap.{get_by_text}
use Rattle.std.specs.Cmp.Lexicographic.{same_text}
use Rattle.std.specs.Global.{Global}
use Rattle.std.specs.List.{filter}
use Rattle.std.specs.Option.{option_or}
use Rattle.std.proofs.lemmas.List.{append-nil, map-append, length-take-le, take-append-drop, take-append-le}
use Rattle.std.proofs.lemmas.List.Elements.{filter-append}
use Rattle.std.proofs.Math.Seq.{take-append_seam}
use Rattle.java_resolver.specs.declared.scope.ScopeVariable.{ScopeVariable}
use Rattle.java_resolver.specs.Firsts.{last_that}
use Rattle.core_lowering_context.specs.Seen.{Seen, seen, ByName, items_in, seen_at, is_named, FindsAll, ChangesAt}
use Rattle.core_lowering_context.specs.Seen.{last_of, front_of}

-- ---- the innermost

or-mapped : (o : Option ScopeVariable) (v : ScopeVariable) →
    option_or (option_map seen o) (Some (seen v)) ≡ option_map seen (option_or o (Some v))
or-mapped None v = refl
or-mapped (Some w) v = refl

or-none : (o : Option ScopeVariable) → option_map seen o ≡ option_map seen (option_or o None)
or-none None = refl
or-none (Some w) = refl

last-step : (b : Bool) (v : ScopeVariable) (vs : List ScopeVariable) (o : Option ScopeVariable) →
    last_of (map seen vs) ≡ option_map seen o →
    last_of (map seen (cond b (v ∷ vs) vs)) ≡ option_map seen (option_or o (cond b (Some v) None))
last-step true v vs o h = ap (λ x. option_or x (Some (seen v))) h ∙ or-mapped o v
last-step false v vs o h = h ∙ or-none o

pub last-seen : (test : ScopeVariable → Bool) (all : List ScopeVariable) →
    last_of (map seen (filter test all)) ≡ option_map seen (last_that test all)
last-seen test [] = refl
last-seen test (v ∷ vs) = last-step (test v) v (filter test vs) (last_that test vs) (last-seen test vs)

-- ---- changes of the index

items-cond : (b : Bool) (all : Vec Seen Global) (o : Option (Vec Seen Global)) (now : List Seen) → all.items ≡ now →
    items_in (cond b (Some all) o) ≡ cond b now (items_in o)
items-cond true all o now e = e
items-cond false all o now e = refl

pub changed : (old new : ByName) (name : List ℕ) (all : Vec Seen Global) (now : List Seen) → all.items ≡ now →
    ((other : List ℕ) → get_by_text new other ≡ cond (bytes_eq name other) (Some all) (get_by_text old other)) →
    ChangesAt old new name now
changed old new name all now e puts other =
    ap items_in (puts other) ∙ items-cond (bytes_eq name other) all (get_by_text old other) now e

kept-by : (index : ByName) (name other : List ℕ) → seen_at index name ≡ [] → (b : Bool) → bytes_eq name other ≡ b →
    seen_at index other ≡ cond b (front_of (seen_at index name)) (seen_at index other)
kept-by index name other none true e =
    ap (seen_at index) (sym (same_text name other (sym e))) ∙ none ∙ ap front_of (sym none)
kept-by index name other none false e = refl

-- nothing stood there
pub kept : (index : ByName) (name : List ℕ) → None ≡ get_by_text index name →
    ChangesAt index index name (front_of (seen_at index name))
kept index name none other =
    kept-by index name other (ap items_in (sym none)) (bytes_eq name other) refl

-- ---- variables come and go

grown : (other : List ℕ) (all : List ScopeVariable) (v : ScopeVariable) →
    map seen (filter (is_named other) (all ++ v ∷ []))
    ≡ map seen (filter (is_named other) all) ++ map seen (cond (bytes_eq v.name other) (v ∷ []) [])
grown other all v =
    ap (map seen) (filter-append (is_named other) all (v ∷ []))
    ∙ map-append seen (filter (is_named other) all) (cond (bytes_eq v.name other) (v ∷ []) [])

added-by : (old : ByName) (all : List ScopeVariable) (v : ScopeVariable) (other : List ℕ) → FindsAll old all →
    (b : Bool) → bytes_eq v.name other ≡ b →
    cond b (seen_at old v.name ++ seen v ∷ []) (seen_at old other)
    ≡ map seen (filter (is_named other) all) ++ map seen (cond b (v ∷ []) [])
added-by old all v other h true e =
    ap (λ name. seen_at old name ++ seen v ∷ []) (same_text v.name other (sym e)) ∙ ap (λ x. x ++ seen v ∷ []) (h other)
added-by old all v other h false e = h other ∙ sym (append-nil (map seen (filter (is_named other) all)))

pub finds-added : (old new : ByName) (all : List ScopeVariable) (v : ScopeVariable) → FindsAll old all →
    ChangesAt old new v.name (seen_at old v.name ++ seen v ∷ []) → FindsAll new (all ++ v ∷ [])
finds-added old new all v h changes other =
    changes other ∙ added-by old all v other h (bytes_eq v.name other) refl ∙ sym (grown other all v)

pub front-pushed : {A : Type 0} (xs : List A) (x : A) → front_of (xs ++ x ∷ []) ≡ xs
front-pushed xs x =
    let long : length (xs ++ x ∷ []) - 1 ≡ length xs = omega (arith, length-append xs (x ∷ [])) in
    ap (λ n. take n (xs ++ x ∷ [])) long ∙ take-append_seam xs (x ∷ [])

removed-by : (old : ByName) (all : List ScopeVariable) (v : ScopeVariable) (other : List ℕ) →
    FindsAll old (all ++ v ∷ []) → (b : Bool) → bytes_eq v.name other ≡ b →
    cond b (front_of (seen_at old v.name)) (seen_at old other) ≡ map seen (filter (is_named other) all)
removed-by old all v other h true e =
    ap (λ name. front_of (seen_at old name)) (same_text v.name other (sym e))
    ∙ ap front_of (h other ∙ grown other all v
    ∙ ap (λ b. map seen (filter (is_named other) all) ++ map seen (cond b (v ∷ []) [])) e)
    ∙ front-pushed (map seen (filter (is_named other) all)) (seen v)
removed-by old all v other h false e =
    h other ∙ grown other all v
    ∙ ap (λ b. map seen (filter (is_named other) all) ++ map seen (cond b (v ∷ []) [])) e
    ∙ append-nil (map seen (filter (is_named other) all))

pub finds-removed : (old new : ByName) (all : List ScopeVariable) (v : ScopeVariable) → FindsAll old (all ++ v ∷ []) →
    ChangesAt old new v.name (front_of (seen_at old v.name)) → FindsAll new all
finds-removed old new all v h changes other =
    changes other ∙ removed-by old all v other h (bytes_eq v.name other) refl

-- ---- the list gets shorter

pub front-taken : {A : Type 0} (at : ℕ) (xs : List A) → at < length xs → take at (front_of xs) ≡ take at xs
front-taken at xs within =
    let k = length xs - 1 in
    let shorter : k ≤ length xs = omega arith in
    let long : at ≤ length (take k xs) = omega (arith, length-take-le k xs shorter) in
    sym (ap (take at) (sym (take-append-drop k xs)) ∙ take-append-le at (take k xs) (drop k xs) long)

pub front-none : {A : Type 0} (xs : List A) → length xs ≡ 0 → xs ≡ front_of xs
front-none [] e = refl
front-none (x ∷ xs) e = absurd (omega (arith, e))

-- ---- the last of a list, by its number

or-same : (p : Option Seen) (y : Seen) (o : Option Seen) → option_or p (Some y) ≡ option_or (option_or p (Some y)) o
or-same None y o = refl
or-same (Some z) y o = refl

pub last-got : (xs : List Seen) → slice_get xs (length xs - 1) ≡ last_of xs
last-got [] = refl
last-got (x ∷ []) = refl
last-got (x ∷ y ∷ ys) =
    let e : length (x ∷ y ∷ ys) - 1 ≡ suc (length (y ∷ ys) - 1) = omega arith in
    ap (slice_get (x ∷ y ∷ ys)) e ∙ last-got (y ∷ ys) ∙ or-same (last_of ys) y (Some x)
