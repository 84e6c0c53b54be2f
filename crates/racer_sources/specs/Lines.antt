-- A contract of a public call rests on this: the line of each refusal.
use Rattle.std.specs.Prelude.{ℕ, List, [], ◌++◌, codes, slice_index_or}
use Rattle.std.specs.Fmt.{decimal}
use Rattle.racer_base.specs.declared.ids.FileId.{FileId}
use Rattle.racer_base.specs.declared.ids.Place.{Place}
use Rattle.racer_sources.specs.declared.refusal.Refusal.{Refusal}
use Rattle.racer_sources.specs.declared.refusal.Refusal.TheVariants.{TooManyFiles, TooLong, TooManyBytes, NotUtf8}
use Rattle.racer_sources.specs.declared.refusal.Refusal.TheVariants.{BadCharacter, Unclosed, BadLiteral, Unbalanced}
use Rattle.racer_sources.specs.declared.refusal.Refusal.TheVariants.{TooDeep, NotAUnit, DuplicateClass, DuplicateField}
use Rattle.racer_sources.specs.declared.refusal.Refusal.TheVariants.{TooManyClasses, TooManyMethods, TooManyCalls}

abbrev pub Names : Type 0
Names = List (List ℕ)

abbrev pub file_name : Names → FileId → List ℕ
file_name names file = slice_index_or names file.0 []

-- FILE:LINE:COLUMN
abbrev pub place_text : Names → Place → List ℕ
place_text names place =
    file_name names place.file ++ codes ":" ++ decimal place.line ++ codes ":" ++ decimal place.column

abbrev pub at_place : Names → Place → List ℕ → List ℕ
at_place names place what = place_text names place ++ codes " " ++ what

-- a second one and the first
abbrev pub duplicate : Names → List ℕ → Place → Place → List ℕ
duplicate names what second first =
    place_text names second ++ codes " duplicate " ++ what ++ codes ", first " ++ place_text names first

abbrev pub too_many : List ℕ → ℕ → List ℕ
too_many what n = codes "too many " ++ what ++ codes " " ++ decimal n

-- the reason, a row for each
abbrev pub reason : Names → Refusal → List ℕ
reason names (TooManyFiles n) = too_many (codes "files") n
reason names (TooLong file) = file_name names file ++ codes " too long"
reason names (TooManyBytes n) = too_many (codes "bytes") n
reason names (NotUtf8 file n) = file_name names file ++ codes " byte " ++ decimal n ++ codes " not utf-8"
reason names (BadCharacter place) = at_place names place (codes "bad character")
reason names (Unclosed place) = at_place names place (codes "unclosed")
reason names (BadLiteral place) = at_place names place (codes "bad literal")
reason names (Unbalanced place) = at_place names place (codes "unbalanced")
reason names (TooDeep place) = at_place names place (codes "too deep")
reason names (NotAUnit place) = at_place names place (codes "not a unit")
reason names (DuplicateClass second first) = duplicate names (codes "class") second first
reason names (DuplicateField second first) = duplicate names (codes "field") second first
reason names (TooManyClasses n) = too_many (codes "classes") n
reason names (TooManyMethods n) = too_many (codes "methods") n
reason names (TooManyCalls n) = too_many (codes "calls") n

-- the line of sources of these names that are refused so
abbrev pub refusal_line : Names → Refusal → List ℕ
refusal_line names r = codes "refused " ++ reason names r ++ codes "\n"
