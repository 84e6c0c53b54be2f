-- A contract of a public call rests on this: what `clap` reads of words, beside what their definition says.
use Rattle.std.specs.Prelude.{◌≡◌, ◌⊎◌, true, false, List, [], ◌∷◌, Some, codes, slice_get, is_some, if◌then◌else◌}
use Rattle.std.specs.Prelude.{MatchOption}
use Rattle.std.specs.Str.{chars}
use Rattle.clap.specs.Walk.{Row, first_of, one_of}
use Rattle.clap.specs.Simple.{matches_of}
use Rattle.clap.specs.Faults.{fault_of}
use Rattle.racer_words.specs.Uses.{Word, Label, Use, read, given, has, name_of}
use Rattle.racer_words.specs.Uses.{takes_value}
use Rattle.racer_words.specs.Command.{command, fails}

-- bytes that begin with a character
abbrev pub IsText : Word → Type 0
IsText word = (rest : Word) → word ≡ 45 ∷ rest → (rest ≡ []) ⊎ (is_some (slice_get (chars rest) 0) ≡ true)

abbrev pub AreTexts : List Word → Type 0
AreTexts [] = Unit {0}
AreTexts (word ∷ words) = IsText word × AreTexts words

-- the word of each label that has one, and the flags
pub record Gives (rows : List Row) (us : List Use) : Type 0 where
  pub words : (l : Label) → takes_value l ≡ true → first_of (name_of l) rows ≡ given l us
  pub flags : (l : Label) → takes_value l ≡ false
      → one_of (name_of l) rows ≡ Some (if has l us then codes "true" else codes "false")

abbrev pub IsRead : List Word → Type 0
IsRead words = MatchOption (read words) (fails (fault_of command words) ≡ true)
    (λ us. (fault_of command words ≡ []) × Gives (matches_of command words) us)
