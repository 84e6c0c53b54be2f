-- What begins an escape.
use Rattle.std.proofs.Common.{◌≡◌, ℕ, zero, suc, ◌≤◌, ◌<◌, Bool, true, false, cond, ◌&&◌, ◌||◌, List, [], ◌∷◌, length}
use Rattle.std.proofs.Common.{take, inl, inr, refl, sym, ap, ◌∙◌, arith, eqb-true, length-take}
use Rattle.std.specs.Prelude.{nat_le, ◌==◌}
use Rattle.std.proofs.lemmas.Bool.{and_parts, or_cases, or_left, or_right}
use Rattle.java_lexer.specs.Literals.{is_simple, is_simple_escape, is_octal, is_octal_escape, is_allowed_unit}
use Rattle.java_lexer.specs.Literals.{behind_u_run, is_unicode_escape, is_escape}
use Rattle.java_lexer.specs.Fronts.{some_front}
use Rattle.java_lexer.specs.Scanning.{begins_escape}
use Rattle.java_lexer.proofs.SomeFronts.{front_is, front_found}
use Rattle.racer_base.proofs.Tests.{same_truth}

-- ---- a run of u

u_run_case : (b : ℕ) (bs : List ℕ) (m : ℕ) (v : Bool) → (b == 117) ≡ v →
    m ≤ length (cond v (behind_u_run bs) (b ∷ bs)) →
    ((m : ℕ) → m ≤ length (behind_u_run bs) → (k : ℕ) × (k ≤ length bs)
    × (behind_u_run (take k bs) ≡ take m (behind_u_run bs))) → (k : ℕ) × (k ≤ suc (length bs))
    × (behind_u_run (take k (b ∷ bs)) ≡ take m (cond v (behind_u_run bs) (b ∷ bs)))
u_run_case b bs m true e le ih = let f = ih m le in (suc f.0, omega (arith, f.1), rw e f.2)
u_run_case b bs zero false e le ih = (0, omega arith, refl)
u_run_case b bs (suc j) false e le ih = (suc j, omega arith, rw e refl)

u_run_found : (bs : List ℕ) (m : ℕ) → m ≤ length (behind_u_run bs) → (k : ℕ) × (k ≤ length bs)
    × (behind_u_run (take k bs) ≡ take m (behind_u_run bs))
u_run_found [] zero le = (0, omega arith, refl)
u_run_found [] (suc m) le = (0, omega arith, refl)
u_run_found (b ∷ bs) m le = u_run_case b bs m (b == 117) refl le (u_run_found bs)

u_run_take_case : (b : ℕ) (bs : List ℕ) (k : ℕ) (v : Bool) → (j : ℕ)
    × (behind_u_run (take k bs) ≡ take j (behind_u_run bs)) → (j : ℕ)
    × (cond v (behind_u_run (take k bs)) (b ∷ take k bs) ≡ take j (cond v (behind_u_run bs) (b ∷ bs)))
u_run_take_case b bs k true ih = ih
u_run_take_case b bs k false ih = (suc k, refl)

u_run_take : (bs : List ℕ) (k : ℕ) → (j : ℕ) × (behind_u_run (take k bs) ≡ take j (behind_u_run bs))
u_run_take [] zero = (0, refl)
u_run_take [] (suc k) = (0, refl)
u_run_take (b ∷ bs) zero = (0, refl)
u_run_take (b ∷ bs) (suc k) = u_run_take_case b bs k (b == 117) (u_run_take bs k)

same_take : (us : List ℕ) (j n : ℕ) → length (take j us) ≡ n → take j us ≡ take n us
same_take us zero zero e = refl
same_take us zero (suc n) e = absurd (omega arith)
same_take [] (suc j) zero e = refl
same_take [] (suc j) (suc n) e = absurd (omega arith)
same_take (u ∷ us) (suc j) zero e = absurd (omega arith)
same_take (u ∷ us) (suc j) (suc n) e = ap (λ (t : List ℕ). u ∷ t) (same_take us j n (omega arith))

-- ---- an escape

length_four : (quote : ℕ) (bytes : List ℕ) → is_allowed_unit quote bytes ≡ true → length bytes ≡ 4
length_four quote bytes h = eqb-true (length bytes) 4 (and_parts _ _ (and_parts _ _ h).0).0

one_or_two : (v : Bool) → nat_le 0 (cond v 2 1) ≡ true
one_or_two true = refl
one_or_two false = refl

simple_is : (quote b : ℕ) → is_simple b ≡ true → is_escape quote (b ∷ []) ≡ true
simple_is quote b h = rw h refl

octal_is : (quote b : ℕ) → is_octal b ≡ true → is_escape quote (b ∷ []) ≡ true
octal_is quote b h = or_left _ _ (or_right (is_simple b && true) _ (rw (h, one_or_two (nat_le b 51)) refl))

unicode_is : (quote b : ℕ) (bs : List ℕ) → (b == 117) ≡ true → is_allowed_unit quote (take 4 (behind_u_run bs)) ≡ true →
    some_front (is_escape quote) (b ∷ bs) ≡ true
unicode_is quote b bs u h =
    let four = length_four quote (take 4 (behind_u_run bs)) h in
    let enough : 4 ≤ length (behind_u_run bs) = omega (arith, length-take 4 (behind_u_run bs)) in
    let f = u_run_found bs 4 enough in
    front_is (is_escape quote) (b ∷ bs) (suc f.0) (omega arith) (omega (arith, f.1))
    (or_right (is_simple_escape (b ∷ take f.0 bs) || is_octal_escape (b ∷ take f.0 bs)) _ (rw (u, f.2) h))

module _ (quote b : ℕ) (bs : List ℕ) where
  escape_there : begins_escape quote (b ∷ bs) ≡ true → some_front (is_escape quote) (b ∷ bs) ≡ true
  escape_there h =
      elim (or_cases (is_simple b || is_octal b) ((b == 117) && is_allowed_unit quote (take 4 (behind_u_run bs))) h) [
        | inl e ↦ front_is (is_escape quote) (b ∷ bs) 1 (omega arith) (omega arith)
            (elim (or_cases (is_simple b) (is_octal b) e) [
              | inl simple ↦ simple_is quote b simple
              | inr octal ↦ octal_is quote b octal
            ])
        | inr e ↦ unicode_is quote b bs (and_parts _ _ e).0 (and_parts _ _ e).1
      ]

  unit_there : (k : ℕ) → is_allowed_unit quote (behind_u_run (take k bs)) ≡ true →
      is_allowed_unit quote (take 4 (behind_u_run bs)) ≡ true
  unit_there k h =
      let j = u_run_take bs k in
      let four = length_four quote (behind_u_run (take k bs)) h in
      let same : behind_u_run (take k bs) ≡ take 4 (behind_u_run bs) =
      j.1 ∙ same_take (behind_u_run bs) j.0 4 (sym (ap (length {A = ℕ}) j.1) ∙ four) in
      rw same at h

  escape_front : (k : ℕ) → is_escape quote (b ∷ take k bs) ≡ true → begins_escape quote (b ∷ bs) ≡ true
  escape_front k h =
      elim (or_cases (is_simple_escape (b ∷ take k bs) || is_octal_escape (b ∷ take k bs))
      (is_unicode_escape quote (b ∷ take k bs)) h) [
        | inl e ↦ or_left _ _ (elim (or_cases (is_simple_escape (b ∷ take k bs)) (is_octal_escape (b ∷ take k bs)) e) [
          | inl simple ↦ or_left (is_simple b) (is_octal b) (and_parts _ _ simple).0
          | inr octal ↦ or_right (is_simple b) (is_octal b) (and_parts _ _ (and_parts _ _ octal).0).0
        ])
        | inr e ↦ or_right (is_simple b || is_octal b) _
            (let u : (b == 117) ≡ true = (and_parts _ _ e).0 in
            rw (u, unit_there k (and_parts (b == 117) (is_allowed_unit quote (behind_u_run (take k bs))) e).1) refl)
      ]

  escape_from : some_front (is_escape quote) (b ∷ bs) ≡ true → begins_escape quote (b ∷ bs) ≡ true
  escape_from h = let f = front_found (is_escape quote) (b ∷ bs) h in at f.0 f.1 f.3
    where
      at : (n : ℕ) → 0 < n → is_escape quote (take n (b ∷ bs)) ≡ true → begins_escape quote (b ∷ bs) ≡ true
      at zero some h = absurd (omega arith)
      at (suc k) some h = escape_front k h

nil_front : (quote : ℕ) → false ≡ some_front (is_escape quote) []
unfolding some_front
nil_front quote = refl

pub begins_is : (quote : ℕ) (bytes : List ℕ) → begins_escape quote bytes ≡ some_front (is_escape quote) bytes
begins_is quote [] = nil_front quote
begins_is quote (b ∷ bs) = same_truth (begins_escape quote (b ∷ bs)) (some_front (is_escape quote) (b ∷ bs))
    (escape_there quote b bs) (escape_from quote b bs)
