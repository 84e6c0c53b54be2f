-- No public contract rests on this: that numbers by names are those of the first of each name.
use Rattle.std.specs.Prelude.{◌≡◌, ℕ, Bool, ◌&&◌, List, bytes_eq}
use Rattle.java_resolver.specs.Firsts.{first_that}
use Rattle.keyed_numbers.specs.Numbers.{Key, key_eq, Named, number_at}

abbrev pub name_at : List ℕ → Key → List ℕ → Bool
name_at name key text = key_eq (0, 0) key && bytes_eq text name

abbrev pub FindsNames : Named → List (List ℕ) → Type 0
FindsNames numbers names =
    (name : List ℕ) (key : Key) → number_at numbers name key ≡ first_that (name_at name key) names
