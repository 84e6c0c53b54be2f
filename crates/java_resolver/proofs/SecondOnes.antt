-- The second element of a list that passes a test, and the only one.
use Rattle.std.proofs.Common.{◌≡◌, ℕ, suc, ◌+◌, ◌<◌, Bool, true, false, ◌&&◌, ◌||◌, List, [], ◌∷◌, ◌++◌, Some, None}
use Rattle.std.proofs.Common.{length, get_or, take, is_some, refl, sym, ap, ◌∙◌}
use Rattle.std.specs.Prelude.{Option, nat_eq, bytes_eq, option_map, if◌then◌else◌}
use Rattle.std.specs.List.{list_any}
use Rattle.std.specs.Option.{option_or}
use Rattle.std.specs.Cmp.Lexicographic.{same_text}
use borrow.Author.Tests.{eqb-true}
use Rattle.std.proofs.lemmas.Bool.{and_parts}
use Rattle.std.proofs.lemmas.List.{take_more}
use Rattle.java_resolver.specs.declared.infos.MethodInfo.{MethodInfo}
use Rattle.java_resolver.specs.Firsts.{first_that, only_that}
use Rattle.java_resolver.specs.Indexes.{second_that, method_with_any_at, AddsSecond, AreWithAny}
use Rattle.keyed_numbers.specs.Numbers.{Key, key_eq, Named, number_at, or_added, AddsNumber}
use Rattle.java_resolver.proofs.FirstOnes.{first_that-push, length_taken, map_or, map_if}
use Rattle.racer_base.proofs.Lists.{option_or-none}

some_mapped : (o : Option ℕ) → is_some (option_map suc o) ≡ is_some o
some_mapped None = refl
some_mapped (Some n) = refl

-- whether there is a first one
pub any_first : {A : Type 0} (test : A → Bool) (xs : List A) → is_some (first_that test xs) ≡ list_any test xs
any_first test [] = refl
any_first test (x ∷ xs) =
    elim (test x)
    as (λ b. is_some (if b then Some 0 else option_map suc (first_that test xs)) ≡ (b || list_any test xs)) [
      | true ↦ refl
      | false ↦ some_mapped (first_that test xs) ∙ any_first test xs
    ]

-- one more element
pub second_that-push : {A : Type 0} (test : A → Bool) (xs : List A) (x : A) →
    second_that test (xs ++ x ∷ []) ≡
    option_or (second_that test xs) (if is_some (first_that test xs) && test x then Some (length xs) else None)
second_that-push test [] x =
    elim (test x) as (λ b. option_map suc (if b then None else None) ≡ None) [ true ↦ refl | false ↦ refl ]
second_that-push test (y ∷ ys) x =
    let then_first : option_map suc (first_that test (ys ++ x ∷ [])) ≡
    option_or (option_map suc (first_that test ys)) (if test x then Some (suc (length ys)) else None) =
    ap (option_map suc) (first_that-push test ys x)
    ∙ map_or (first_that test ys) (if test x then Some (length ys) else None)
    ∙ ap (option_or (option_map suc (first_that test ys))) (map_if (test x) (length ys))
    in
    let both = is_some (first_that test ys) && test x in
    let then_second : option_map suc (second_that test (ys ++ x ∷ [])) ≡
    option_or (option_map suc (second_that test ys)) (if both then Some (suc (length ys)) else None) =
    ap (option_map suc) (second_that-push test ys x)
    ∙ map_or (second_that test ys) (if both then Some (length ys) else None)
    ∙ ap (option_or (option_map suc (second_that test ys))) (map_if both (length ys))
    in
    elim (test y)
    as (λ b. option_map suc (if b then first_that test (ys ++ x ∷ []) else second_that test (ys ++ x ∷ [])) ≡
    option_or (option_map suc (if b then first_that test ys else second_that test ys))
    (if is_some (if b then Some 0 else option_map suc (first_that test ys)) && test x then Some (suc (length ys))
    else None)) [
      | true ↦ then_first
      | false ↦
          then_second
          ∙ ap (λ c. option_or (option_map suc (second_that test ys))
          (if c && test x then Some (suc (length ys)) else None)) (sym (some_mapped (first_that test ys)))
    ]

abbrev unless : Bool → Option ℕ → Option ℕ
unless b o = if b then None else o

mapped_unless : (b : Bool) (o : Option ℕ) → option_map suc (unless b o) ≡ unless b (option_map suc o)
mapped_unless true o = refl
mapped_unless false o = refl

-- the first is the only one where there is no second
pub only_second : {A : Type 0} (test : A → Bool) (xs : List A) →
    (if is_some (second_that test xs) then None else first_that test xs) ≡ only_that test xs
only_second test [] = refl
only_second test (x ∷ xs) =
    elim (test x)
    as (λ b. (if is_some (option_map suc (if b then first_that test xs else second_that test xs)) then None
    else (if b then Some 0 else option_map suc (first_that test xs))) ≡
    (if b then (if list_any test xs then None else Some 0) else option_map suc (only_that test xs))) [
      | true ↦ ap (λ b. unless b (Some 0)) (some_mapped (first_that test xs) ∙ any_first test xs)
      | false ↦
          ap (λ b. unless b (option_map suc (first_that test xs))) (some_mapped (second_that test xs))
          ∙ sym (mapped_unless (is_some (second_that test xs)) (first_that test xs))
          ∙ ap (option_map suc) (only_second test xs)
    ]

-- ---- numbers of the second of each class and name

and_both : (a b : Bool) → (a && b) ≡ (b && a)
and_both true true = refl
and_both true false = refl
and_both false true = refl
and_both false false = refl

-- where it holds, so does the other
also : (a b : Bool) → (b ≡ true → a ≡ true) → b ≡ (a && b)
also a true h = ap (λ c. c && true) (sym (h refl))
also true false h = refl
also false false h = refl

never : (a : Bool) → false ≡ (a && false)
never true = refl
never false = refl

same_key : (a b : Key) → key_eq a b ≡ true → a ≡ b
same_key a b h =
    let both = and_parts (nat_eq a.0 b.0) (nat_eq a.1 b.1) h in
    let front = ap (λ (n : ℕ). let made : Key = (n, a.1) in made) (eqb-true a.0 b.0 both.0) in
    let back = ap (λ (n : ℕ). let made : Key = (b.0, n) in made) (eqb-true a.1 b.1 both.1) in
    front ∙ back

-- a method that takes no such number
pub none_added : (first numbers : Named) (m : MethodInfo) (number : ℕ) → false ≡ m.any_number →
    AddsSecond first numbers numbers m number
none_added first numbers m number e name key =
    let old = number_at numbers name key in
    let there = is_some (number_at first name key) in
    let here = key_eq (0, m.class.0) key && bytes_eq m.name name in
    sym (option_or-none old) ∙ ap (λ b. or_added b number old) (never there)
    ∙ ap (λ b. or_added (there && (b && here)) number old) e

-- the test at its own class and name, and elsewhere
at_own : (first : Named) (m : MethodInfo) (t : Bool) → is_some (number_at first m.name (0, m.class.0)) ≡ t →
    (name : List ℕ) (key : Key) → (key_eq (0, m.class.0) key && bytes_eq m.name name) ≡ true →
    is_some (number_at first name key) ≡ t
at_own first m t there name key here =
    let both = and_parts (key_eq (0, m.class.0) key) (bytes_eq m.name name) here in
    ap (λ (text : List ℕ). is_some (number_at first text key)) (sym (same_text m.name name (sym both.1)))
    ∙ ap (λ (k : Key). is_some (number_at first m.name k)) (sym (same_key (0, m.class.0) key both.0))
    ∙ there

-- the first of its class and name
nowhere : (a b : Bool) → (b ≡ true → a ≡ false) → false ≡ (a && b)
nowhere true true h = sym (h refl)
nowhere false true h = refl
nowhere true false h = refl
nowhere false false h = refl

pub first_added : (first numbers : Named) (m : MethodInfo) (number : ℕ) → m.any_number ≡ true →
    is_some (number_at first m.name (0, m.class.0)) ≡ false → AddsSecond first numbers numbers m number
first_added first numbers m number any none name key =
    let old = number_at numbers name key in
    let there = is_some (number_at first name key) in
    let here = key_eq (0, m.class.0) key && bytes_eq m.name name in
    sym (option_or-none old)
    ∙ ap (λ b. or_added b number old) (nowhere there here (at_own first m false none name key))
    ∙ ap (λ b. or_added (there && (b && here)) number old) (sym any)

pub second_added : (first old new : Named) (m : MethodInfo) (number : ℕ) (own : List ℕ) → own ≡ m.name →
    m.any_number ≡ true → is_some (number_at first own (0, m.class.0)) ≡ true →
    AddsNumber old new own (0, m.class.0) number → AddsSecond first old new m number
second_added first old new m number own is any some adds name key =
    let had = number_at old name key in
    let there = is_some (number_at first name key) in
    let here = key_eq (0, m.class.0) key && bytes_eq m.name name in
    adds name key
    ∙ ap (λ b. or_added b number had)
    (and_both (bytes_eq own name) (key_eq (0, m.class.0) key)
    ∙ ap (λ (text : List ℕ). key_eq (0, m.class.0) key && bytes_eq text name) is
    ∙ also there here
    (at_own first m true (ap (λ (text : List ℕ). is_some (number_at first text (0, m.class.0))) (sym is) ∙ some) name
    key))
    ∙ ap (λ b. or_added (there && (b && here)) number had) (sym any)

-- the next method
pub finds_second : (first old new : Named) (xs : List MethodInfo) (i : ℕ) (x : MethodInfo) → i < length xs →
    x ≡ get_or xs i x → AreWithAny first old (take i xs) → AddsSecond first old new x i →
    (name : List ℕ) (key : Key) → number_at new name key ≡ second_that (method_with_any_at name key) (take (i + 1) xs)
finds_second first old new xs i x within is are adds name key =
    let size : i ≡ length (take i xs) = sym (length_taken xs i within) in
    let test = method_with_any_at name key in
    let had = number_at old name key in
    let here = is_some (first_that test (take i xs)) && test x in
    adds name key
    ∙ ap (λ o. or_added (is_some o && test x) i had) (are.0 name key)
    ∙ ap (λ n. or_added here n had) size
    ∙ ap (or_added here (length (take i xs))) (are.1 name key)
    ∙ sym (second_that-push test (take i xs) x)
    ∙ ap (second_that test) (ap (λ y. take i xs ++ y ∷ []) is ∙ sym (take_more xs i x within))
