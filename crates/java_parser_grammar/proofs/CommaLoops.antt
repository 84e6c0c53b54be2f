-- One turn of the readings of lists.
use Rattle.std.proofs.Common.{◌≡◌, ℕ, zero, suc, List, [], ◌∷◌, Option, Some, None, refl, codes}
use Rattle.java_tree.specs.declared.words.Spelled.{Spelled}
use Rattle.java_tree.specs.Words.{sign}
use Rattle.java_parser_grammar.specs.Taking.{after_sign, commas}
use Rattle.java_parser_grammar.specs.TypeReading.{points}

module _ {A : Type 0} (read : List Spelled → Option (A × List Spelled)) where
  pub commas_end : (k : ℕ) (rest : List Spelled) → after_sign (codes ",") rest ≡ None → commas read k
      rest ≡ Some ([], rest)
  unfolding commas
  commas_end zero rest e = refl
  commas_end (suc k) rest e = rw e refl

  pub commas_turn : (k : ℕ) (x : A) (xs : List A) (r s rest : List Spelled) → read r ≡ Some (x, s) → commas read k
      s ≡ Some (xs, rest) → commas read (suc k) (sign (codes ",") ∷ r) ≡ Some (x ∷ xs, rest)
  unfolding commas
  commas_turn k x xs r s rest first others = rw (first, others) refl

  pub points_end : (k : ℕ) (rest : List Spelled) → after_sign (codes ".") rest ≡ None → points read k rest ≡ Some (
    [],
    rest,
  )
  unfolding points
  points_end zero rest e = refl
  points_end (suc k) rest e = rw e refl

  pub points_turn : (k : ℕ) (x : A) (xs : List A) (r s rest : List Spelled) → read r ≡ Some (x, s) → points read k
      s ≡ Some (xs, rest) → points read (suc k) (sign (codes ".") ∷ r) ≡ Some (x ∷ xs, rest)
  unfolding points
  points_turn k x xs r s rest first others = rw (first, others) refl
