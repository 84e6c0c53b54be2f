-- A contract of a public call rests on this: which requests are made of the folder that is handed in.
use Rattle.std.specs.Prelude.{◌≡◌, ℕ, Bool, true, false, List, Some}
use Rattle.racer_words.specs.Words.{Request, ReportOn, ReplayOf, MadeOf, EditsOf, request_of}

-- whether a request is one for the folder that is handed in
abbrev pub is_on_folder : Request → Bool
is_on_folder (ReportOn wanted) = true
is_on_folder (ReplayOf wanted) = true
is_on_folder (MadeOf wanted) = false
is_on_folder (EditsOf wanted) = true

-- words that ask for nothing on the folder that is handed in
abbrev pub LeavesFolder : List (List ℕ) → Type 0
LeavesFolder words = (request : Request) → request_of words ≡ Some request → is_on_folder request ≡ false
