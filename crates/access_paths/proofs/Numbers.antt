-- Paths and their numbers.
use Rattle.std.proofs.Common.{◌≡◌, ℕ, zero, suc, ◌⊎◌, inl, inr, ◌<◌, ◌+◌, Bool, true, false, cond, ◌||◌, List, []}
use Rattle.std.proofs.Common.{◌∷◌, ◌++◌, length, Some, slice_get, get_or, nat_eq, refl, sym, ap, subst, ◌∙◌, arith}
use Rattle.std.proofs.Common.{length-append, Result, Ok, Err}
use Rattle.std.specs.Prelude.{OnOk, OnErr}
use Rattle.std.proofs.lemmas.List.Quantifiers.{position-Some}
use Rattle.std.proofs.lemmas.Option.{slice_get-get_or, get_or_from_slice_get}
use Rattle.std.specs.List.{list_any, position}
use Rattle.access_paths.specs.declared.path.Path.{Path}
use Rattle.access_paths.specs.Paths.{same_path}
use Rattle.access_paths.specs.Same.{equal_of_same, same_of_equal}
use Rattle.access_paths.specs.declared.path.Root.TheVariants.{This}
use Rattle.access_paths.specs.Paths.{alone}
use Rattle.access_paths.specs.Same.{same_path-itself}
use Rattle.std.proofs.lemmas.Bool.{eqb-true, eq-eqb}
use Rattle.access_paths.specs.Table.{IsTable, interned, GoesOn, path_at}

-- the path that is found at a number is that path
pub found_at : (paths : List Path) (p : Path) (i : ℕ) → position (same_path p) paths ≡ Some i →
    slice_get paths i ≡ Some p
found_at paths p i e = let at = position-Some (same_path p) paths i p e in
    slice_get-get_or paths i p at.0 ∙ ap Some (sym (equal_of_same p (get_or paths i p) at.1))

-- what stands in the list is found there
pub there : (paths : List Path) (p : Path) (i : ℕ) → slice_get paths i ≡ Some p → list_any (same_path p) paths ≡ true
there [] p i e = cc
there (q ∷ paths) p zero e = ap (λ b. b || list_any (same_path p) paths) (same_of_equal p q cc)
there (q ∷ paths) p (suc i) e = ap (λ b. same_path p q || b) (there paths p i e) ∙ or_true (same_path p q)
  where
    or_true : (b : Bool) → (b || true) ≡ true
    or_true true = refl
    or_true false = refl

pub interned-there : (paths : List Path) (p : Path) (i : ℕ) → slice_get paths i ≡ Some p → interned paths p ≡ paths
interned-there paths p i e = ap (λ b. cond b paths (paths ++ p ∷ [])) (there paths p i e)

last_of : (paths : List Path) (p : Path) → slice_get (paths ++ p ∷ []) (length paths) ≡ Some p
last_of [] p = refl
last_of (q ∷ paths) p = last_of paths p

-- a path that is new stands at the end
pub new_at_end : (paths : List Path) (p : Path) → list_any (same_path p) paths ≡ false →
    slice_get (interned paths p) (length paths) ≡ Some p
new_at_end paths p e = ap (λ b. slice_get (cond b paths (paths ++ p ∷ [])) (length paths)) e ∙ last_of paths p

either_end : (paths : List Path) (p q : Path) (i : ℕ) → slice_get (paths ++ p ∷ []) i ≡ Some q →
    (slice_get paths i ≡ Some q) ⊎ ((i ≡ length paths) × (q ≡ p))
either_end [] p q zero e = inr (refl, cc)
either_end [] p q (suc i) e = cc
either_end (r ∷ paths) p q zero e = inl e
either_end (r ∷ paths) p q (suc i) e = elim (either_end paths p q i e)
    [ inl at ↦ inl at | inr at ↦ inr (one_more i paths r at.0, at.1) ]
  where
    one_more : (i : ℕ) (paths : List Path) (r : Path) → i ≡ length paths → suc i ≡ length (r ∷ paths)
    one_more i paths r e = ap (λ n. suc n) e

not_there : (paths : List Path) (p : Path) (i : ℕ) → list_any (same_path p) paths ≡ false → slice_get paths i ≡ Some p →
    ⊥
not_there paths p i new at = absurd (let yes : list_any (same_path p) paths ≡ true = there paths p i at in cc)

pub table-longer : (paths : List Path) (p : Path) → IsTable paths → list_any (same_path p) paths ≡ false →
    length paths < 4294967295 → IsTable (paths ++ p ∷ [])
table-longer paths p table new room = let long : length (paths ++ p ∷ []) ≡ length paths + 1 =
    length-append paths (p ∷ []) in record {
      once = λ i j q at_i at_j. elim (either_end paths p q i at_i) [
        | inl i_in ↦ elim (either_end paths p q j at_j) [
          | inl j_in ↦ table.once i j q i_in j_in
          | inr j_end ↦
              absurd (not_there paths p i new (i_in ∙ ap Some j_end.1))
        ]
        | inr i_end ↦ elim (either_end paths p q j at_j) [
          | inl j_in ↦ absurd (not_there paths p j new (j_in ∙ ap Some i_end.1))
          | inr j_end ↦ i_end.0 ∙ sym j_end.0
        ]
      ];
      limit = omega arith;
    }

pub interned-table : (paths : List Path) (p : Path) → IsTable paths → length paths < 4294967295 →
    IsTable (interned paths p)
interned-table paths p table room = by (list_any (same_path p) paths) refl
  where
    by : (b : Bool) → list_any (same_path p) paths ≡ b → IsTable (cond b paths (paths ++ p ∷ []))
    by true e = table
    by false e = table-longer paths p table e room

append-nil : (xs : List Path) → xs ≡ (xs ++ [])
append-nil [] = refl
append-nil (x ∷ xs) = ap (λ ys. x ∷ ys) (append-nil xs)

append-assoc : (xs ys zs : List Path) → ((xs ++ ys) ++ zs) ≡ (xs ++ (ys ++ zs))
append-assoc [] ys zs = refl
append-assoc (x ∷ xs) ys zs = ap (λ us. x ∷ us) (append-assoc xs ys zs)

pub interned-goes_on : (paths : List Path) (p : Path) → GoesOn paths (interned paths p)
interned-goes_on paths p = elim (list_any (same_path p) paths) as (λ b. GoesOn paths (cond b paths (paths ++ p ∷ [])))
    [ true ↦ ([], append-nil paths) | false ↦ (p ∷ [], refl) ]

pub goes_on-same : (a : List Path) → GoesOn a a
goes_on-same a = ([], append-nil a)

-- whatever the answer of a call that puts a path in, or leaves the table as it is where memory is refused
pub interned_or_same : {X E : Type 0} (result : Result X E) (old new : List Path) (p : Path) →
    OnOk result (new ≡ interned old p) → OnErr result (new ≡ old) → GoesOn old new
interned_or_same (Ok x) old new p put same = subst (GoesOn old) (sym put) (interned-goes_on old p)
interned_or_same (Err e) old new p put same = subst (GoesOn old) (sym same) (goes_on-same old)

pub goes_on-trans : (a b c : List Path) → GoesOn a b → GoesOn b c → GoesOn a c
goes_on-trans a b c h k = (h.0 ++ k.0, k.1 ∙ ap (λ xs. xs ++ k.0) h.1 ∙ append-assoc a h.0 k.0)

at_front : (a rest : List Path) (n : ℕ) → n < length a → path_at (a ++ rest) n ≡ path_at a n
at_front [] rest n h = absurd (omega arith)
at_front (x ∷ a) rest zero h = refl
at_front (x ∷ a) rest (suc n) h = let long : length (x ∷ a) ≡ suc (length a) = refl in at_front a rest n (omega arith)

pub goes_on-at : (a b : List Path) (n : ℕ) → GoesOn a b → n < length a → path_at b n ≡ path_at a n
goes_on-at a b n h low = ap (λ xs. path_at xs n) h.1 ∙ at_front a h.0 n low

pub equal_numbers : (a : List Path) (i j : ℕ) → IsTable a → i < length a → j < length a →
    same_path (path_at a i) (path_at a j) ≡ nat_eq i j
equal_numbers a i j table low high = elim (nat_eq i j)
    as (λ b. nat_eq i j ≡ b → same_path (path_at a i) (path_at a j) ≡ b) [
      | true ↦ λ e. ap (λ n. same_path (path_at a i) (path_at a n)) (sym (eqb-true i j e))
          ∙ same_path-itself (path_at a i)
      | false ↦ λ e. differ e (same_path (path_at a i) (path_at a j)) refl
    ] refl
  where
    at_i : slice_get a i ≡ Some (path_at a i)
    at_i = slice_get-get_or a i (alone This) low

    at_j : slice_get a j ≡ Some (path_at a j)
    at_j = slice_get-get_or a j (alone This) high

    differ : nat_eq i j ≡ false → (b : Bool) → same_path (path_at a i) (path_at a j) ≡ b → b ≡ false
    differ e false f = refl
    differ e true f =
        let same : path_at a i ≡ path_at a j = equal_of_same (path_at a i) (path_at a j) f in
        let number : i ≡ j = table.once i j (path_at a j) (at_i ∙ ap Some same) at_j in
        absurd (let yes : nat_eq i j ≡ true = eq-eqb i j number in cc)

-- the path that stands at a number is that of the number, which is one of the table's
pub number-at : (paths : List Path) (n : ℕ) (p : Path) → slice_get paths n ≡ Some p → path_at paths n ≡ p
number-at paths n p e = get_or_from_slice_get paths n p (alone This) e

pub number-below : (paths : List Path) (n : ℕ) (p : Path) → slice_get paths n ≡ Some p → n < length paths
number-below [] n p e = cc
number-below (q ∷ paths) zero p e = let long : length (q ∷ paths) ≡ suc (length paths) = refl in omega arith
number-below (q ∷ paths) (suc n) p e =
    let long : length (q ∷ paths) ≡ suc (length paths) = refl in
    let low : n < length paths = number-below paths n p e in
    omega arith

pub number-still : (a b : List Path) (n : ℕ) → GoesOn a b → n < length a → n < length b
number-still a b n h low = let long : length b ≡ length a + length h.0 = ap length h.1 ∙ length-append a h.0 in
    omega arith
