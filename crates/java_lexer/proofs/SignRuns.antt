-- The longest sign in front.
use Rattle.std.proofs.Common.{◌≡◌, ℕ, ◌≤◌, ◌<◌, Bool, true, false, cond, ◌&&◌, List, [], ◌∷◌, length, take, Some, None}
use Rattle.std.proofs.Common.{inl, inr, refl, sym, ap, ◌∙◌, arith, length-take}
use Rattle.std.specs.Prelude.{nat_eq, nat_le}
use Rattle.std.specs.List.{list_all, starts_with}
use Rattle.std.specs.Cmp.Lexicographic.{pointwise, bytes_decides}
use Rattle.std.proofs.lemmas.List.{length-take-le}
use Rattle.std.proofs.lemmas.Bool.{false≢true, and_parts, or_cases, or_right}
use Rattle.std.proofs.lemmas.Bool.Decides.{nat_tests}
use Rattle.std.proofs.lemmas.Option.{same_Some}
use Rattle.racer_base.specs.Name.{is_listed}
use Rattle.java_lexer.specs.Signs.{signs}
use Rattle.java_lexer.specs.Scanning.{signs_with, first_len}
use Rattle.java_lexer.proofs.Tables.{cut_listed}
use Rattle.java_lexer.proofs.Bytes.{each_below}

pub signs_listed : (b : ℕ) (bs : List ℕ) → is_listed (signs_with b) (b ∷ bs) ≡ is_listed signs (b ∷ bs)
unfolding signs_with
signs_listed b bs = cut_listed signs b bs

-- ---- the longer ones stand first

abbrev pub falls : List (List ℕ) → Bool
falls [] = true
falls (t ∷ ts) = list_all (λ (u : List ℕ). nat_le (length u) (length t)) ts && falls ts

pub signs_fall : (b : ℕ) → b < 256 → falls (signs_with b) ≡ true
unfolding signs signs_with
signs_fall = each_below 256 (λ b. falls (signs_with b)) refl

le_true : (m n : ℕ) → nat_le m n ≡ true → m ≤ n
le_true m n h = grind (arith, nat_tests)

listed_short : (n : ℕ) (ts : List (List ℕ)) (bytes : List ℕ) →
    list_all (λ (u : List ℕ). nat_le (length u) n) ts ≡ true → is_listed ts bytes ≡ true → length bytes ≤ n
listed_short n [] bytes short h = absurd (false≢true h)
listed_short n (t ∷ ts) bytes short h =
    elim (or_cases (pointwise nat_eq bytes t) (is_listed ts bytes) h) [
      | inl e ↦ let same : bytes ≡ t = (bytes_decides bytes t).0 e in
          omega (arith, ap length same, le_true (length t) n (and_parts _ _ short).0)
      | inr e ↦ listed_short n ts bytes (and_parts _ _ short).1 e
    ]

-- ---- the first in the table that begins the text is the longest

-- an entry that is a front of the text begins it
entry_begins : (t text : List ℕ) (m : ℕ) → m ≤ length text → pointwise nat_eq (take m text) t ≡ true → (length t ≡ m)
    × (starts_with nat_eq text t ≡ true)
entry_begins t text m le h =
    let same : take m text ≡ t = (bytes_decides (take m text) t).0 h in
    let len : length t ≡ m = ap length (sym same) ∙ length-take-le m text le in
    (len, rw len ((bytes_decides t (take m text)).1 (sym same)))

pub record IsLongestIn (table : List (List ℕ)) (text : List ℕ) (n : ℕ) : Type 0 where
  pub fits : n ≤ length text
  pub is : is_listed table (take n text) ≡ true
  pub longest : (m : ℕ) → m ≤ length text → is_listed table (take m text) ≡ true → m ≤ n

found_case : (t : List ℕ) (ts : List (List ℕ)) (text : List ℕ) (n : ℕ) (v : Bool) → starts_with nat_eq text t ≡ v →
    falls (t ∷ ts) ≡ true → cond v (Some (length t)) (first_len ts text) ≡ Some n →
    (first_len ts text ≡ Some n → IsLongestIn ts text n) → IsLongestIn (t ∷ ts) text n
found_case t ts text n true f fall e ih =
    let len = same_Some (length t) n e in
    let same : t ≡ take (length t) text = (bytes_decides t (take (length t) text)).0 f in
    let fits : length t ≤ length text = omega (arith, ap length same, length-take (length t) text) in
    let back : pointwise nat_eq (take (length t) text) t ≡ true =
    (bytes_decides (take (length t) text) t).1 (sym same) in
    rw (← len) (record {
      fits = fits;
      is = rw back refl;
      longest = λ m le h. elim (or_cases (pointwise nat_eq (take m text) t) (is_listed ts (take m text)) h) [
        | inl e ↦ omega (arith, (entry_begins t text m le e).0)
        | inr e ↦ omega (
          arith,
          listed_short (length t) ts (take m text)
              (and_parts _ _ fall).0 e,
          length-take-le m text le,
        )
      ];
    })
found_case t ts text n false f fall e ih =
    let r = ih e in
    record {
      fits = r.fits;
      is = or_right _ _ r.is;
      longest = λ m le h. elim (or_cases (pointwise nat_eq (take m text) t) (is_listed ts (take m text)) h) [
        | inl e ↦ absurd (false≢true (sym f ∙ (entry_begins t text m le e).1))
        | inr e ↦ r.longest m le e
      ];
    }

pub sign_found : (table : List (List ℕ)) (text : List ℕ) (n : ℕ) → falls table ≡ true → first_len table text ≡ Some n →
    IsLongestIn table text n
sign_found [] text n fall e = absurd cc
sign_found (t ∷ ts) text n fall e = found_case t ts text n (starts_with nat_eq text t) refl fall e
    (sign_found ts text n (and_parts _ _ fall).1)

missing_case : (t : List ℕ) (ts : List (List ℕ)) (text : List ℕ) (v : Bool) → starts_with nat_eq text t ≡ v →
    cond v (Some (length t)) (first_len ts text) ≡ None → (m : ℕ) → m ≤ length text →
    is_listed (t ∷ ts) (take m text) ≡ true → (first_len ts text ≡ None → is_listed ts (take m text) ≡ true → ⊥) → ⊥
missing_case t ts text true f e m le h ih = cc
missing_case t ts text false f e m le h ih =
    elim (or_cases (pointwise nat_eq (take m text) t) (is_listed ts (take m text)) h) [
      | inl p ↦ false≢true (sym f ∙ (entry_begins t text m le p).1)
      | inr p ↦ ih e p
    ]

pub sign_missing : (table : List (List ℕ)) (text : List ℕ) → first_len table text ≡ None → (m : ℕ) → m ≤ length text →
    is_listed table (take m text) ≡ true → ⊥
sign_missing [] text e m le h = false≢true h
sign_missing (t ∷ ts) text e m le h = missing_case t ts text (starts_with nat_eq text t) refl e m le h
    (λ q. sign_missing ts text q m le)
