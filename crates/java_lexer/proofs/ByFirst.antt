-- The piece in front of a text, where its first byte leaves one kind.
use Rattle.std.proofs.Common.{◌≡◌, ℕ, zero, suc, ◌+◌, ◌≤◌, Bool, true, false, cond, List, [], ◌∷◌, length, take, Some}
use Rattle.std.proofs.Common.{None, refl, arith, one-add, subst}
use Rattle.std.specs.Prelude.{IsSome}
use Rattle.std.specs.List.{prefix_len, list_all}
use Rattle.std.proofs.lemmas.List.{length-take-le}
use Rattle.std.proofs.lemmas.List.Sums.{prefix_len-le-length}
use Rattle.std.proofs.lemmas.Bool.{false≢true}
use Rattle.java_lexer.specs.declared.piece.PieceKind.{PieceKind}
use Rattle.java_lexer.specs.Divisions.{Lexis}
use Rattle.java_lexer.specs.Scanning.{IsFront}
use Rattle.java_lexer.specs.Kinds.{is_nothing}
use Rattle.java_lexer.proofs.Runs.{run_passes, run_longest}

pub if_some : (v : Bool) (kind : PieceKind) → IsSome (cond v (Some kind) None) → v ≡ true
if_some true kind h = refl
if_some false kind h = absurd (false≢true h)

-- what follows the first byte is tested
module _ (lexis : Lexis) (b : ℕ) (bs : List ℕ) (test : List ℕ → Bool) (kind : List ℕ → PieceKind)
    (is : (xs : List ℕ) → lexis.kind_of (b ∷ xs) ≡ cond (test xs) (Some (kind xs)) None)
    (none : lexis.kind_of [] ≡ None)
    (clear : lexis.fault_at (b ∷ bs) ≡ None) where
  no_longer : (n : ℕ) → ((k : ℕ) → k ≤ length bs → test (take k bs) ≡ true → k ≤ n) → (m : ℕ) → m ≤ length (b ∷ bs) →
      IsSome (lexis.kind_of (take m (b ∷ bs))) → m ≤ suc n
  no_longer n h zero le s = omega arith
  no_longer n h (suc k) le s = omega (
    arith,
    h k (omega arith)
        (if_some (test (take k bs)) (kind (take k bs)) (subst IsSome (is (take k bs)) s)),
  )

  pub tested_front : (n : ℕ) → n ≤ length bs → test (take n bs) ≡ true →
      ((k : ℕ) → k ≤ length bs → test (take k bs) ≡ true → k ≤ n) → IsFront lexis (b ∷ bs) (suc n) (kind (take n bs))
  tested_front n fits h longest = record {
    some = omega arith;
    fits = omega arith;
    first = record {
      is = rw (is (take n bs), h) refl;
      longest = λ m le s. omega (arith, no_longer n longest m le s, length-take-le n bs fits);
      faultless = clear;
    };
  }

-- a run of bytes follows
pub run_front : (lexis : Lexis) (b : ℕ) (bs : List ℕ) (test : ℕ → Bool) (kind : List ℕ → PieceKind) →
    ((xs : List ℕ) → lexis.kind_of (b ∷ xs) ≡ cond (list_all test xs) (Some (kind xs)) None) → lexis.kind_of [] ≡ None →
    lexis.fault_at (b ∷ bs) ≡ None → IsFront lexis (b ∷ bs) (1 + prefix_len test bs)
    (kind (take (prefix_len test bs) bs))
run_front lexis b bs test kind is none clear =
    rw one-add (tested_front lexis b bs (list_all test) kind is none clear (prefix_len test bs)
    (prefix_len-le-length test bs) (run_passes test bs) (run_longest test bs))

pub nothing_longer : (bs : List ℕ) (k : ℕ) → k ≤ length bs → is_nothing (take k bs) ≡ true → k ≤ 0
nothing_longer bs zero le h = omega arith
nothing_longer [] (suc k) le h = absurd (omega arith)
nothing_longer (b ∷ bs) (suc k) le h = absurd (false≢true h)

-- nothing follows
pub single_front : (lexis : Lexis) (b : ℕ) (bs : List ℕ) (kind : PieceKind) →
    ((xs : List ℕ) → lexis.kind_of (b ∷ xs) ≡ cond (is_nothing xs) (Some kind) None) → lexis.kind_of [] ≡ None →
    lexis.fault_at (b ∷ bs) ≡ None → IsFront lexis (b ∷ bs) 1 kind
single_front lexis b bs kind is none clear =
    tested_front lexis b bs is_nothing (λ _. kind) is none clear 0 (omega arith) refl (nothing_longer bs)
