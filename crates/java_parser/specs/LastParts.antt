-- No public contract rests on this: what may be the last part of a type at the end of tokens, looked for from the end.
use Rattle.std.specs.Prelude.{ℕ, Bool, suc, ◌-◌, ◌==◌, List, [], ◌∷◌, codes, if◌then◌else◌}
use Rattle.java_tree.specs.declared.words.Spelled.{Spelled}
use Rattle.java_tree.specs.Brackets.{is_sign, is_sign_kind}
use Rattle.java_parser.specs.declared.last_parts.Behind.{Behind}
use Rattle.java_parser.specs.declared.last_parts.Behind.TheVariants.{Brackets, Closing, Angles, Arguments}
use Rattle.java_parser.specs.declared.last_parts.Scanned.{Scanned}
use Rattle.java_parser.specs.declared.last_parts.Scanned.TheVariants.{More, Part, Nothing}
use Rattle.std.specs.Prelude.{bytes_eq, ◌&&◌}

-- how many angle brackets are open
abbrev pub open_of : Behind → ℕ
open_of (Angles depth) = depth
open_of _ = 0

-- whether the token is a `>`, glued or not
abbrev pub is_angle : Spelled → Bool
is_angle t = is_sign_kind t.kind && bytes_eq t.text (codes ">")

-- what is found with one more token before what was looked at
abbrev pub found_with : Behind → Spelled → Scanned
found_with Brackets t =
    if is_sign (codes "]") t then More Closing else (if is_angle t then More (Angles 1) else Part)
found_with Closing t = if is_sign (codes "[") t then More Brackets else Nothing
found_with (Angles depth) t =
    if is_angle t then More (Angles (suc depth))
    else (if is_sign (codes "<") t then (if depth == 1 then More Arguments else More (Angles (depth - 1)))
    else More (Angles depth))
found_with Arguments t = Part

-- what was found behind all of the tokens
pub data Scan : Type 0 where
  Going : Behind → Scan
  Ended : (part : List Spelled) → Scan
  Lost : Scan

abbrev pub scan_by : Scanned → List Spelled → Scan
scan_by (More behind) ts = Going behind
scan_by Part ts = Ended ts
scan_by Nothing ts = Lost

abbrev pub scan_with : Scan → Spelled → List Spelled → Scan
scan_with (Going behind) t ts = scan_by (found_with behind t) (t ∷ ts)
scan_with s t ts = s

abbrev pub scanned : List Spelled → Scan
scanned [] = Going Brackets
scanned (t ∷ ts) = scan_with (scanned ts) t ts
