-- Where a comment is closed, and where a literal is.
use Rattle.std.proofs.Common.{◌≡◌, ℕ, zero, suc, ◌≤◌, Bool, true, false, cond, ◌&&◌, not, eqb, List, [], ◌∷◌, length}
use Rattle.std.proofs.Common.{take, Option, Some, None, refl, arith, eqb-true}
use Rattle.std.specs.Prelude.{◌==◌}
use Rattle.std.proofs.lemmas.List.{length-take-le}
use Rattle.std.proofs.lemmas.Bool.{false≢true}
use Rattle.java_lexer.specs.Kinds.{is_nothing}
use Rattle.java_lexer.specs.Comments.{closes, ends_closed, is_line_end}
use Rattle.java_lexer.specs.Literals.{ends_quoted, ends_behind_one}
use Rattle.java_lexer.specs.Scanning.{one_more, closed_len, quoted_len, behind_one_len}
use Rattle.java_lexer.proofs.ByFirst.{nothing_longer}

one_more_is : (o : Option ℕ) (n : ℕ) → one_more o ≡ Some n → (k : ℕ) × (o ≡ Some k) × (n ≡ suc k)
one_more_is None n e = absurd cc
one_more_is (Some k) n e = (k, refl, cc)

-- ---- comments

no_end : (v : Bool) → cond v false false ≡ true → ⊥
no_end true e = false≢true e
no_end false e = false≢true e

AreClosed : List ℕ → ℕ → Type 0
AreClosed bs n = (n ≤ length bs) × (ends_closed (take n bs) ≡ true)

closed_step : (b c : ℕ) (cs : List ℕ) (n k : ℕ) → closes (b ∷ c ∷ cs) ≡ false → n ≡ suc k → AreClosed (c ∷ cs) k →
    AreClosed (b ∷ c ∷ cs) n
unfolding AreClosed
closed_step b c cs n zero f e h = absurd (false≢true h.1)
closed_step b c cs n (suc j) f e h = rw e (omega (arith, h.0), rw f h.1)

closed_case : (b c : ℕ) (cs : List ℕ) (n : ℕ) (v : Bool) → closes (b ∷ c ∷ cs) ≡ v →
    cond v (Some 2) (one_more (closed_len (c ∷ cs))) ≡ Some n →
    ((k : ℕ) → closed_len (c ∷ cs) ≡ Some k → AreClosed (c ∷ cs) k) → AreClosed (b ∷ c ∷ cs) n
unfolding AreClosed
closed_case b c cs n true f e ih =
    let two : 2 ≡ n = cc in
    rw (← two) (omega arith, rw f refl)
closed_case b c cs n false f e ih =
    let k = one_more_is (closed_len (c ∷ cs)) n e in
    closed_step b c cs n k.0 f k.2 (ih k.0 k.1)

closed_short : (b n : ℕ) (v : Bool) → cond (v && false) (Some 2) (one_more None) ≡ Some n → ⊥
closed_short b n true e = cc
closed_short b n false e = cc

closed_are : (bs : List ℕ) (n : ℕ) → closed_len bs ≡ Some n → AreClosed bs n
closed_are [] n e = absurd cc
closed_are (b ∷ []) n e = absurd (closed_short b n (eqb 42 b) e)
closed_are (b ∷ c ∷ cs) n e = closed_case b c cs n (closes (b ∷ c ∷ cs)) refl e (closed_are (c ∷ cs))

pub closed_ends : (bs : List ℕ) (n : ℕ) → closed_len bs ≡ Some n → (n ≤ length bs) × (ends_closed (take n bs) ≡ true)
unfolding AreClosed
closed_ends bs n e = closed_are bs n e

only_case : (b c : ℕ) (cs : List ℕ) (j : ℕ) (v : Bool) → closes (b ∷ c ∷ cs) ≡ v → j ≤ length cs →
    cond v (length (c ∷ take j cs) == 1) (ends_closed (c ∷ take j cs)) ≡ true →
    (ends_closed (c ∷ take j cs) ≡ true → closed_len (c ∷ cs) ≡ Some (suc j)) →
    cond v (Some 2) (one_more (closed_len (c ∷ cs))) ≡ Some (suc (suc j))
only_case b c cs j true f le h ih =
    let one : length (c ∷ take j cs) ≡ 1 = eqb-true _ _ h in
    let none : j ≡ 0 = omega (arith, length-take-le j cs le) in
    rw none refl
only_case b c cs j false f le h ih = rw (ih h) refl

pub closed_only : (bs : List ℕ) (k : ℕ) → k ≤ length bs → ends_closed (take k bs) ≡ true → closed_len bs ≡ Some k
closed_only [] zero le h = absurd (false≢true h)
closed_only [] (suc k) le h = absurd (omega arith)
closed_only (b ∷ bs) zero le h = absurd (false≢true h)
closed_only (b ∷ []) (suc zero) le h = absurd (no_end (eqb 42 b && false) h)
closed_only (b ∷ []) (suc (suc k)) le h = absurd (omega arith)
closed_only (b ∷ c ∷ cs) (suc zero) le h = absurd (no_end (eqb 42 b && false) h)
closed_only (b ∷ c ∷ cs) (suc (suc j)) le h =
    only_case b c cs j (closes (b ∷ c ∷ cs)) refl (omega arith) h (closed_only (c ∷ cs) (suc j) (omega arith))

-- ---- literals

module _ (q : ℕ) where
  Ends : List ℕ → Type 0
  Ends bs = (n : ℕ) → quoted_len q bs ≡ Some n → (n ≤ length bs) × (ends_quoted q (take n bs) ≡ true)

  EndsBehind : List ℕ → Type 0
  EndsBehind bs = (n : ℕ) → behind_one_len q bs ≡ Some n → (n ≤ length bs) × (ends_behind_one q (take n bs) ≡ true)

  plain_ends : (bs : List ℕ) (n : ℕ) (v : Bool) → cond v None (one_more (quoted_len q bs)) ≡ Some n → Ends bs → (k : ℕ)
      × (n ≡ suc k) × (k ≤ length bs) × ((not v && ends_quoted q (take k bs)) ≡ true)
  unfolding Ends
  plain_ends bs n true e ends = absurd cc
  plain_ends bs n false e ends =
      let k = one_more_is (quoted_len q bs) n e in
      let f = ends k.0 k.1 in
      (k.0, k.2, f.0, f.1)

  quote_ends : (bs : List ℕ) (n : ℕ) (v w x : Bool) →
      cond v (Some 1) (cond w (one_more (behind_one_len q bs)) (cond x None (one_more (quoted_len q bs)))) ≡ Some n →
      Ends bs → EndsBehind bs → (k : ℕ) × (n ≡ suc k) × (k ≤ length bs)
      × (cond v (is_nothing (take k bs)) (cond w (ends_behind_one q (take k bs)) (not x && ends_quoted q (take k bs)))
      ≡ true)
  unfolding EndsBehind
  quote_ends bs n true w x e ends behind = (0, cc, omega arith, refl)
  quote_ends bs n false true x e ends behind =
      let k = one_more_is (behind_one_len q bs) n e in
      let f = behind k.0 k.1 in
      (k.0, k.2, f.0, f.1)
  quote_ends bs n false false x e ends behind = plain_ends bs n x e ends

  both_end : (bs : List ℕ) → Ends bs × EndsBehind bs
  unfolding Ends EndsBehind
  both_end [] = (λ n e. absurd cc, λ n e. absurd cc)
  both_end (b ∷ bs) =
      let ih = both_end bs in (
        λ n e. let f = quote_ends bs n (b == q) (b == 92) (is_line_end b) e ih.0 ih.1 in
            rw f.1 (omega (arith, f.2), f.3),
        λ n e. let f = plain_ends bs n (is_line_end b) e ih.0 in rw f.1 (omega (arith, f.2), f.3),
      )

  pub quoted_ends : (bs : List ℕ) (n : ℕ) → quoted_len q bs ≡ Some n → (n ≤ length bs)
      × (ends_quoted q (take n bs) ≡ true)
  unfolding Ends
  quoted_ends bs = (both_end bs).0

  Only : List ℕ → Type 0
  Only bs = (k : ℕ) → k ≤ length bs → ends_quoted q (take k bs) ≡ true → quoted_len q bs ≡ Some k

  OnlyBehind : List ℕ → Type 0
  OnlyBehind bs = (k : ℕ) → k ≤ length bs → ends_behind_one q (take k bs) ≡ true → behind_one_len q bs ≡ Some k

  plain_only : (bs : List ℕ) (j : ℕ) (v : Bool) → j ≤ length bs → (not v && ends_quoted q (take j bs)) ≡ true →
      Only bs → cond v None (one_more (quoted_len q bs)) ≡ Some (suc j)
  unfolding Only
  plain_only bs j true le h only = absurd (false≢true h)
  plain_only bs j false le h only = rw (only j le h) refl

  quote_only : (bs : List ℕ) (j : ℕ) (v w x : Bool) → j ≤ length bs →
      cond v (is_nothing (take j bs)) (cond w (ends_behind_one q (take j bs)) (not x && ends_quoted q (take j bs)))
      ≡ true → Only bs → OnlyBehind bs → cond v (Some 1)
      (cond w (one_more (behind_one_len q bs)) (cond x None (one_more (quoted_len q bs)))) ≡ Some (suc j)
  unfolding OnlyBehind
  quote_only bs j true w x le h only behind = let none : j ≡ 0 = omega (arith, nothing_longer bs j le h) in rw none refl
  quote_only bs j false true x le h only behind = rw (behind j le h) refl
  quote_only bs j false false x le h only behind = plain_only bs j x le h only

  both_only : (bs : List ℕ) → Only bs × OnlyBehind bs
  unfolding Only OnlyBehind
  both_only [] = (nil_only, nil_behind)
    where
      nil_only : (k : ℕ) → k ≤ 0 → ends_quoted q (take k []) ≡ true → None ≡ Some k
      nil_only zero le h = absurd (false≢true h)
      nil_only (suc k) le h = absurd (omega arith)

      nil_behind : (k : ℕ) → k ≤ 0 → ends_behind_one q (take k []) ≡ true → None ≡ Some k
      nil_behind zero le h = absurd (false≢true h)
      nil_behind (suc k) le h = absurd (omega arith)
  both_only (b ∷ bs) = (more_only b bs (both_only bs).0 (both_only bs).1, more_behind b bs (both_only bs).0)
    where
      more_only : (b : ℕ) (bs : List ℕ) → Only bs → OnlyBehind bs → (k : ℕ) → k ≤ length (b ∷ bs) →
          ends_quoted q (take k (b ∷ bs)) ≡ true → quoted_len q (b ∷ bs) ≡ Some k
      more_only b bs only behind zero le h = absurd (false≢true h)
      more_only b bs only behind (suc j) le h =
          quote_only bs j (b == q) (b == 92) (is_line_end b) (omega arith) h only behind

      more_behind : (b : ℕ) (bs : List ℕ) → Only bs → (k : ℕ) → k ≤ length (b ∷ bs) →
          ends_behind_one q (take k (b ∷ bs)) ≡ true → behind_one_len q (b ∷ bs) ≡ Some k
      more_behind b bs only zero le h = absurd (false≢true h)
      more_behind b bs only (suc j) le h = plain_only bs j (is_line_end b) (omega arith) h only

  pub quoted_only : (bs : List ℕ) (k : ℕ) → k ≤ length bs → ends_quoted q (take k bs) ≡ true → quoted_len q bs ≡ Some k
  unfolding Only
  quoted_only bs = (both_only bs).0
