-- A contract of a public call rests on this: `lex`. Whether a text begins with something.
use Rattle.std.specs.Prelude.{ℕ, zero, suc, Bool, false, ◌||◌, List, length, take}

abbrev pub some_upto : (List ℕ → Bool) → List ℕ → ℕ → Bool
some_upto is text zero = false
some_upto is text (suc n) = is (take (suc n) text) || some_upto is text n

-- a front of the text that is not empty passes the test
unfoldable pub some_front : (List ℕ → Bool) → List ℕ → Bool
some_front is text = some_upto is text (length text)
