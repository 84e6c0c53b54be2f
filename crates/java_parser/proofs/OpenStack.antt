-- The code keeps the innermost open bracket last.
use Rattle.std.proofs.Common.{◌≡◌, Bool, true, false, List, [], ◌∷◌, ◌++◌, Option, Some, None, map, refl, ap, sym, ◌∙◌}
use Rattle.std.specs.Prelude.{if◌then◌else◌}
use Rattle.racer_base.specs.declared.ids.Place.{Place}
use Rattle.java_lexer.specs.declared.token.Token.{Token}
use Rattle.java_parser_grammar.specs.Brackets.{is_opening, is_closing, is_pair, opened, unbalanced}
use Rattle.java_parser.specs.OpenBrackets.{open_onto, IsOpened}

pub open_push : {A : Type 0} (view : A → Token) (xs : List A) (x : A) (outer : List Token)
    → open_onto (map view (xs ++ x ∷ [])) outer ≡ view x ∷ open_onto (map view xs) outer
open_push view [] x outer = refl
open_push view (y ∷ xs) x outer = open_push view xs x (view y ∷ outer)

-- a bracket that opens is the innermost behind it
pub opens_more : (os : List Token) (t : Token) → is_opening t ≡ true → opened os t ≡ Some (t ∷ os)
opens_more os t h = rw h refl

by_pair : (b : Bool) (os : List Token) → IsOpened b os (if b then Some os else None)
by_pair true os = refl
by_pair false os = refl

-- one that closes is a pair with the innermost, or does not fit
pub closes_innermost : (o t : Token) (os : List Token) → is_opening t ≡ false → is_closing t ≡ true
    → IsOpened (is_pair o t) os (opened (o ∷ os) t)
closes_innermost o t os h k = rw (h, k) (by_pair (is_pair o t) os)

-- where the file ends, the innermost is at fault
pub open_at_end : (os : List Token) (o : Token) (outer : List Token) (all : Option Place) → os ≡ o ∷ outer
    → unbalanced os [] ≡ all → Some o.place ≡ all
open_at_end os o outer all e h = ap (λ l. unbalanced l []) (sym e) ∙ h
