-- What is gathered one after another is the first of each.
use Rattle.std.proofs.Common.{◌≡◌, ◌+◌, ◌≤◌, Bool, true, false, cond, ◌||◌, List, [], ◌∷◌, ◌++◌, length, refl, sym, ap}
use Rattle.std.proofs.Common.{◌∙◌}
use Rattle.std.proofs.Common.{append_assoc, arith, length-append}
use Rattle.std.proofs.lemmas.List.{append-nil}
use Rattle.std.specs.BTreeSet.{BTreeSet, Updates}
use Rattle.std.specs.List.{list_any}
use Rattle.std.specs.Ordering.{eq_by_cmp}
use Rattle.std.proofs.Math.Bool.{or-true}
use Rattle.access_domain.specs.Records.{firsts}
use Rattle.access_domain.proofs.Different.{list_any-firsts}
use Rattle.access_domain.proofs.Firsts.{firsts-new, firsts-old}
use Rattle.core_semantics.specs.declared.object.Object.{Object}
use Rattle.core_semantics.specs.declared.object.Object.TheVariants.{Start as StartOf}
use Rattle.core_semantics.specs.declared.object.StartPath.{StartPath}
use Rattle.core_semantics.specs.Objects.{same_start_path}
use Rattle.core_semantics.specs.Order.{object_cmp}
use Rattle.core_semantics.specs.Same.{equal_of_same, tied}
use Rattle.core_ways.specs.Gathered.{HasObjectsOf, gathered, is_among, path_added}

-- paths that are the same are equal
pub exact : (p q : StartPath) → same_start_path p q ≡ true → p ≡ q
exact p q e = let same : StartOf p ≡ StartOf q = equal_of_same (StartOf p) (StartOf q) e in cc

abbrev firsts_of : List StartPath → List StartPath
firsts_of = firsts same_start_path

among-firsts : (seen : List StartPath) (p : StartPath) → is_among (firsts_of seen) p ≡ is_among seen p
among-firsts seen p =
    list_any-firsts (λ q. same_start_path q p) same_start_path
    (λ x y h. ap (λ z. same_start_path z p) (sym (exact x y h)))
    seen

added-firsts : (seen : List StartPath) (p : StartPath) → path_added (firsts_of seen) p ≡ firsts_of (seen ++ p ∷ [])
added-firsts seen p =
    ap (λ b. cond b (firsts_of seen) (firsts_of seen ++ p ∷ [])) (among-firsts seen p)
    ∙ elim (is_among seen p) as (λ b. is_among seen p ≡ b →
    cond b (firsts_of seen) (firsts_of seen ++ p ∷ []) ≡ firsts_of (seen ++ p ∷ [])) [
      | true ↦ λ e. sym (firsts-old same_start_path seen p e)
      | false ↦ λ e. sym (firsts-new same_start_path seen p e)
    ] refl

pub gathered-firsts : (seen xs : List StartPath) → gathered (firsts_of seen) xs ≡ firsts_of (seen ++ xs)
gathered-firsts seen [] = ap firsts_of (sym (append-nil seen))
gathered-firsts seen (x ∷ xs) =
    ap (λ ps. gathered ps xs) (added-firsts seen x)
    ∙ gathered-firsts (seen ++ x ∷ []) xs
    ∙ ap firsts_of (append_assoc seen (x ∷ []) xs)

pub gathered-append : (old xs ys : List StartPath) → gathered old (xs ++ ys) ≡ gathered (gathered old xs) ys
gathered-append old [] ys = refl
gathered-append old (x ∷ xs) ys = gathered-append (path_added old x) xs ys

one_more : (b : Bool) (old : List StartPath) (x : StartPath) →
    length (cond b old (old ++ x ∷ [])) ≤ length old + 1
one_more true old x = omega arith
one_more false old x = omega (arith, length-append old (x ∷ []))

pub gathered-count : (old xs : List StartPath) → length (gathered old xs) ≤ length old + length xs
gathered-count old [] = omega arith
gathered-count old (x ∷ xs) =
    let one = one_more (is_among old x) old x in
    let more = gathered-count (path_added old x) xs in
    omega arith

-- ---- what was gathered is gathered again

any-push : (p : StartPath → Bool) (old : List StartPath) (x : StartPath) →
    list_any p (old ++ x ∷ []) ≡ (list_any p old || p x)
any-push p [] x = elim (p x) as (λ b. (b || false) ≡ b) [ true ↦ refl | false ↦ refl ]
any-push p (y ∷ old) x = ap (λ b. p y || b) (any-push p old x)
    ∙ (elim (p y) as (λ b. (b || (list_any p old || p x)) ≡ ((b || list_any p old) || p x)) [
      | true ↦ refl
      | false ↦ refl
    ])

among-added : (seen : List StartPath) (x y : StartPath) → is_among seen x ≡ true → is_among (path_added seen y) x ≡ true
among-added seen x y there =
    elim (is_among seen y) as (λ b. is_among (cond b seen (seen ++ y ∷ [])) x ≡ true) [
      | true ↦ there
      | false ↦
          any-push (λ q. same_start_path q x) seen y
          ∙ ap (λ b. b || same_start_path y x) there
    ]

stays-among : (seen xs : List StartPath) (x : StartPath) → is_among seen x ≡ true → is_among (gathered seen xs) x ≡ true
stays-among seen [] x there = there
stays-among seen (y ∷ ys) x there = stays-among (path_added seen y) ys x (among-added seen x y there)

-- the path that was added is there
is-added : (seen : List StartPath) (y x : StartPath) → same_start_path y x ≡ true →
    is_among (path_added seen y) x ≡ true
is-added seen y x same =
    let equal : y ≡ x = exact y x same in
    elim (is_among seen y) as (λ b. is_among seen y ≡ b → is_among (cond b seen (seen ++ y ∷ [])) x ≡ true) [
      | true ↦ λ e. ap (is_among seen) (sym equal) ∙ e
      | false ↦ λ e.
          any-push (λ q. same_start_path q x) seen y
          ∙ ap (λ b. is_among seen x || b) same
          ∙ or-true (is_among seen x)
    ] refl

first-or-later : (seen ys : List StartPath) (y x : StartPath) (b : Bool) → same_start_path y x ≡ b →
    (is_among ys x ≡ true → is_among (gathered (path_added seen y) ys) x ≡ true) → (b || is_among ys x) ≡ true →
    is_among (gathered (path_added seen y) ys) x ≡ true
first-or-later seen ys y x true same later there = stays-among (path_added seen y) ys x (is-added seen y x same)
first-or-later seen ys y x false same later there = later there

gathers-all : (seen xs : List StartPath) (x : StartPath) → is_among xs x ≡ true → is_among (gathered seen xs) x ≡ true
gathers-all seen [] x there = absurd cc
gathers-all seen (y ∷ ys) x there =
    first-or-later seen ys y x (same_start_path y x) refl (gathers-all (path_added seen y) ys x) there

added-last : (seen old : List StartPath) (x : StartPath) →
    gathered seen (path_added old x) ≡ path_added (gathered seen old) x
added-last seen old x =
    elim (is_among old x) as (λ b. is_among old x ≡ b →
    gathered seen (cond b old (old ++ x ∷ [])) ≡ path_added (gathered seen old) x) [
      | true ↦ λ e.
          ap (λ b. cond b (gathered seen old) (gathered seen old ++ x ∷ [])) (sym (gathers-all seen old x e))
      | false ↦ λ e. gathered-append seen old (x ∷ [])
    ] refl

gathered-in-turn : (seen old xs : List StartPath) →
    gathered seen (gathered old xs) ≡ gathered (gathered seen old) xs
gathered-in-turn seen old [] = refl
gathered-in-turn seen old (x ∷ xs) =
    gathered-in-turn seen (path_added old x) xs ∙ ap (λ ps. gathered ps xs) (added-last seen old x)

pub gathered-again : (seen xs : List StartPath) → gathered seen (gathered [] xs) ≡ gathered seen xs
gathered-again seen xs = gathered-in-turn seen [] xs

-- ---- the objects beside the paths

either : (a b : Bool) → cond a true b ≡ (b || a)
either true true = refl
either true false = refl
either false true = refl
either false false = refl

pub objects-none : HasObjectsOf [] []
objects-none p = refl

pub objects-added : (old new : BTreeSet Object) (paths : List StartPath) (x : StartPath) →
    HasObjectsOf old.keys paths → Updates object_cmp old new (StartOf x) true → HasObjectsOf new.keys (paths ++ x ∷ [])
objects-added old new paths x has updates p =
    updates.0 (StartOf p)
    ∙ ap (λ b. cond b true (list_any (eq_by_cmp object_cmp (StartOf p)) old.keys)) (tied (StartOf x) (StartOf p))
    ∙ ap (λ b. cond (same_start_path x p) true b) (has p)
    ∙ either (same_start_path x p) (is_among paths p)
    ∙ sym (any-push (λ q. same_start_path q p) paths x)

-- a path that is there
pub added-there : (paths : List StartPath) (x : StartPath) (b : Bool) → b ≡ is_among paths x → b ≡ true →
    paths ≡ path_added paths x
added-there paths x b is there = ap (λ c. cond c paths (paths ++ x ∷ [])) (sym there ∙ is)

-- one that is not
pub added-new : (paths : List StartPath) (x : StartPath) (b : Bool) → b ≡ is_among paths x → b ≡ false →
    paths ++ x ∷ [] ≡ path_added paths x
added-new paths x b is new = ap (λ c. cond c paths (paths ++ x ∷ [])) (sym new ∙ is)
