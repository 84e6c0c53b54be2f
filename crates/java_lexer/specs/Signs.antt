-- A contract of a public call rests on this: `lex`. Separators and operators (JLS 3.11, 3.12).
use Rattle.std.specs.Prelude.{ℕ, Bool, List, [], ◌∷◌, codes}
use Rattle.racer_base.specs.Name.{is_listed}

-- the code tries those with one first byte in this order, the longer ones first; what a sign is does not rest on it
unfoldable pub signs : List (List ℕ)
signs =
    codes "(" ∷ codes ")" ∷ codes "{" ∷ codes "}" ∷ codes "[" ∷ codes "]" ∷ codes ";" ∷ codes "," ∷
    codes "..." ∷ codes "." ∷ codes "@" ∷ codes "::" ∷ codes ":" ∷ codes "~" ∷ codes "?" ∷
    codes "==" ∷ codes "=" ∷ codes "!=" ∷ codes "!" ∷
    codes ">>>=" ∷ codes ">>>" ∷ codes ">>=" ∷ codes ">>" ∷ codes ">=" ∷ codes ">" ∷
    codes "<<=" ∷ codes "<<" ∷ codes "<=" ∷ codes "<" ∷
    codes "->" ∷ codes "--" ∷ codes "-=" ∷ codes "-" ∷ codes "++" ∷ codes "+=" ∷ codes "+" ∷
    codes "*=" ∷ codes "*" ∷ codes "/=" ∷ codes "/" ∷ codes "%=" ∷ codes "%" ∷
    codes "&&" ∷ codes "&=" ∷ codes "&" ∷ codes "||" ∷ codes "|=" ∷ codes "|" ∷ codes "^=" ∷ codes "^" ∷
    []

abbrev pub is_sign : List ℕ → Bool
is_sign bytes = is_listed signs bytes

-- the shifts, which are given as single `>`
abbrev pub shifts : List (List ℕ)
shifts = codes ">>" ∷ codes ">>>" ∷ []
