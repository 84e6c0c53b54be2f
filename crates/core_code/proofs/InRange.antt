-- The numbers of code are in range where those of its parts are.
use Rattle.std.proofs.Common.{◌≡◌, ℕ, Bool, true, ◌&&◌, List, ◌++◌, ◌∙◌}
use Rattle.std.proofs.lemmas.List.Folds.{list_all-append}
use Rattle.std.specs.List.{list_all}
use Rattle.std.proofs.lemmas.Bool.{and_from, and_parts}
use Rattle.core_code.specs.Core.{Core}
use Rattle.core_code.specs.Tree.{LockAt, Tree, Seq, Sync, steps_of, locks_of}
use Rattle.core_code.specs.Facts.{is_place, is_operation, is_code}

both_lists : {X : Type 0} (test : X → Bool) (xs ys : List X) → list_all test xs ≡ true → list_all test ys ≡ true →
    list_all test (xs ++ ys) ≡ true
both_lists test xs ys p q = list_all-append test xs ys ∙ and_from (list_all test xs) (list_all test ys) p q

module _ (core : Core) (variables : ℕ) where
  abbrev steps_fit : Tree → Bool
  steps_fit code = list_all (is_operation core variables) (steps_of code)

  abbrev locks_fit : Tree → Bool
  locks_fit code = list_all (is_place core) (locks_of code)

  pub then_in_range : (first rest : Tree) → is_code core variables first ≡ true → is_code core variables rest ≡ true →
      is_code core variables (Seq first rest) ≡ true
  then_in_range first rest one others =
      and_from (steps_fit (Seq first rest)) (locks_fit (Seq first rest))
      (both_lists (is_operation core variables) (steps_of first) (steps_of rest)
      (and_parts (steps_fit first) (locks_fit first) one).0
      (and_parts (steps_fit rest) (locks_fit rest) others).0)
      (both_lists (is_place core) (locks_of first) (locks_of rest)
      (and_parts (steps_fit first) (locks_fit first) one).1
      (and_parts (steps_fit rest) (locks_fit rest) others).1)

  pub held_in_range : (lock : LockAt) (body : Tree) → is_place core lock.place ≡ true →
      is_code core variables body ≡ true →
      is_code core variables (Sync lock body) ≡ true
  held_in_range lock body here inside =
      and_from (steps_fit body) (is_place core lock.place && locks_fit body)
      (and_parts (steps_fit body) (locks_fit body) inside).0
      (and_from (is_place core lock.place) (locks_fit body) here (and_parts (steps_fit body) (locks_fit body) inside).1)
