-- The first element of a list that passes a test, and numbers that find it.
use Rattle.std.proofs.Common.{◌≡◌, ℕ, suc, ◌+◌, ◌<◌, Bool, true, false, cond, ◌&&◌, List, [], ◌∷◌, ◌++◌, Some, None}
use Rattle.std.proofs.Common.{length, length-take, get_or, take, map, min, refl, sym, ap, subst, ◌∙◌, arith}
use Rattle.std.specs.Prelude.{Option, bytes_eq, find, option_map, if◌then◌else◌}
use Rattle.std.specs.Option.{option_or}
use Rattle.std.proofs.lemmas.List.{take_more}
use Rattle.std.proofs.lemmas.Option.{same_Some, none-some}
use Rattle.java_resolver.specs.declared.infos.ClassInfo.{ClassInfo}
use Rattle.java_resolver.specs.Declarations.{class_names}
use Rattle.java_resolver.specs.Firsts.{first_that}
use Rattle.keyed_numbers.specs.Numbers.{Key, key_eq, Named, number_at, or_added, AddsNumber}
use Rattle.java_resolver.specs.Indexes.{AddsElement, FindsFirsts, class_at}
use Rattle.racer_base.proofs.Lists.{option_or-none}

pub map_or : (o p : Option ℕ) → option_map suc (option_or o p) ≡ option_or (option_map suc o) (option_map suc p)
map_or None p = refl
map_or (Some n) p = refl

pub map_if : (b : Bool) (n : ℕ) → option_map suc (if b then Some n else None) ≡ (if b then Some (suc n) else None)
map_if true n = refl
map_if false n = refl

-- one more element
pub first_that-push : {A : Type 0} (test : A → Bool) (xs : List A) (x : A) →
    first_that test (xs ++ x ∷ []) ≡ option_or (first_that test xs) (if test x then Some (length xs) else None)
first_that-push test [] x = refl
first_that-push test (y ∷ ys) x =
    let more : option_map suc (first_that test (ys ++ x ∷ [])) ≡
    option_or (option_map suc (first_that test ys)) (if test x then Some (suc (length ys)) else None) =
    ap (option_map suc) (first_that-push test ys x)
    ∙ map_or (first_that test ys) (if test x then Some (length ys) else None)
    ∙ ap (option_or (option_map suc (first_that test ys))) (map_if (test x) (length ys))
    in
    elim (test y)
    as (λ b. (if b then Some 0 else option_map suc (first_that test (ys ++ x ∷ []))) ≡
    option_or (if b then Some 0 else option_map suc (first_that test ys))
    (if test x then Some (suc (length ys)) else None)) [
      | true ↦ refl
      | false ↦ more
    ]

pub first_that-map : {A B : Type 0} (f : A → B) (test : B → Bool) (xs : List A) →
    first_that test (map f xs) ≡ first_that (λ x. test (f x)) xs
first_that-map f test [] = refl
first_that-map f test (x ∷ xs) =
    ap (λ o. if test (f x) then Some 0 else option_map suc o) (first_that-map f test xs)

-- the number of the first, and the first itself
pub find_by_first : {A : Type 0} (test : A → Bool) (xs : List A) (d : A) →
    find test xs ≡ option_map (λ n. get_or xs n d) (first_that test xs)
find_by_first test [] d = refl
find_by_first {A} test (x ∷ xs) d =
    let later : find test xs ≡ option_map (λ n. get_or (x ∷ xs) n d) (option_map suc (first_that test xs)) =
    find_by_first test xs d ∙ shifted (first_that test xs)
    in
    elim (test x)
    as (λ b. cond b (Some x) (find test xs) ≡
    option_map (λ n. get_or (x ∷ xs) n d) (if b then Some 0 else option_map suc (first_that test xs))) [
      | true ↦ refl
      | false ↦ later
    ] where
      shifted : (o : Option ℕ) →
          option_map (λ n. get_or xs n d) o ≡ option_map (λ n. get_or (x ∷ xs) n d) (option_map suc o)
      shifted None = refl
      shifted (Some n) = refl

shifted_within : (size : ℕ) (o : Option ℕ) (n : ℕ) → ((m : ℕ) → o ≡ Some m → m < size) →
    option_map suc o ≡ Some n → n < suc size
shifted_within size None n within e = absurd (none-some n e)
shifted_within size (Some m) n within e =
    let below : m < size = within m refl in
    let is : suc m ≡ n = same_Some (suc m) n e in
    omega arith

-- the first is one of the list
pub first_that-within : {A : Type 0} (test : A → Bool) (xs : List A) (n : ℕ) →
    first_that test xs ≡ Some n → n < length xs
first_that-within test [] n e = absurd (none-some n e)
first_that-within test (x ∷ xs) n e =
    elim (test x)
    as (λ b. (if b then Some 0 else option_map suc (first_that test xs)) ≡ Some n → n < suc (length xs)) [
      | true ↦ λ is. let zero : 0 ≡ n = same_Some 0 n is in omega arith
      | false ↦ λ is. shifted_within (length xs) (first_that test xs) n (first_that-within test xs) is
    ] e

pub length_taken : {A : Type 0} (xs : List A) (i : ℕ) → i < length xs → length (take i xs) ≡ i
length_taken xs i within = let is : length (take i xs) ≡ min i (length xs) = length-take i xs in omega arith

-- the next element, whose number is added where it belongs
pub finds_next : {A : Type 0} (belongs : List ℕ → Key → A → Bool) (old new : Named) (xs : List A) (i : ℕ) (x : A) →
    i < length xs → x ≡ get_or xs i x → FindsFirsts belongs old (take i xs) → AddsElement belongs old new x i →
    FindsFirsts belongs new (take (i + 1) xs)
finds_next belongs old new xs i x within is finds adds =
    let size : i ≡ length (take i xs) = sym (length_taken xs i within) in
    subst (FindsFirsts belongs new)
    (ap (λ y. take i xs ++ y ∷ []) is ∙ sym (take_more xs i x within))
    (λ name key.
    adds name key
    ∙ ap (λ n. or_added (belongs name key x) n (number_at old name key)) size
    ∙ ap (or_added (belongs name key x) (length (take i xs))) (finds name key)
    ∙ sym (first_that-push (belongs name key) (take i xs) x))

-- an element that belongs nowhere
pub nothing_added : {A : Type 0} (belongs : List ℕ → Key → A → Bool) (numbers : Named) (x : A) (number : ℕ) →
    ((name : List ℕ) (key : Key) → false ≡ belongs name key x) → AddsElement belongs numbers numbers x number
nothing_added belongs numbers x number nowhere name key =
    sym (option_or-none (number_at numbers name key))
    ∙ ap (λ b. or_added b number (number_at numbers name key)) (nowhere name key)

-- what is first among the elements so far is one of all
pub first_so_far : {A : Type 0} (test : A → Bool) (xs : List A) (i n : ℕ) → i < length xs →
    Some n ≡ first_that test (take i xs) → n < length xs
first_so_far test xs i n within found =
    let one : n < length (take i xs) = first_that-within test (take i xs) n (sym found) in
    let size : length (take i xs) ≡ i = length_taken xs i within in
    omega arith

and_swapped : (a b : Bool) → (a && b) ≡ (b && a)
and_swapped true true = refl
and_swapped true false = refl
and_swapped false true = refl
and_swapped false false = refl

-- an element that belongs at its name and key alone
pub element_added : {A : Type 0} (belongs : List ℕ → Key → A → Bool) (old new : Named) (x : A) (number : ℕ)
    (name own : List ℕ) (key : Key) → name ≡ own →
    ((other : List ℕ) (k : Key) → (key_eq key k && bytes_eq own other) ≡ belongs other k x) →
    AddsNumber old new name key number → AddsElement belongs old new x number
element_added belongs old new x number name own key is same adds other k =
    adds other k
    ∙ ap (λ b. or_added b number (number_at old other k))
    (and_swapped (bytes_eq name other) (key_eq key k) ∙ ap (λ bs. key_eq key k && bytes_eq bs other) is ∙ same other k)

pub class_found : (numbers : Named) (classes : List ClassInfo) (name : List ℕ) →
    FindsFirsts class_at numbers classes →
    number_at numbers name (0, 0) ≡ first_that (λ text. bytes_eq text name) (class_names classes)
class_found numbers classes name finds =
    finds name (0, 0) ∙ sym (first_that-map (λ (c : ClassInfo). c.name) (λ text. bytes_eq text name) classes)
