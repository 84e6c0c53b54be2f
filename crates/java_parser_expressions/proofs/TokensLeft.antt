-- What takes all of the tokens, and what leaves some.
use Rattle.std.proofs.Common.{◌≡◌, ◌==◌, true, false, List, [], ◌∷◌, Some, None, length, map, refl, arith}
use Rattle.std.proofs.lemmas.Bool.{true≢false, eqb-true}
use Rattle.java_lexer.specs.declared.token.Token.{Token}
use Rattle.java_tree.specs.KeptPlaces.{kept}
use Rattle.java_parser_types.specs.Tokens.{spelled}
use Rattle.java_parser_types.specs.Whole.{all_of}

none_left : (rest : List Token) → (length rest == 0) ≡ true → rest ≡ []
none_left [] h = refl
none_left (t ∷ ts) h = let e : length (t ∷ ts) ≡ 0 = eqb-true (length (t ∷ ts)) 0 h in absurd (omega (arith, e))

pub some_left : {A : Type 0} (a : A) (rest : List Token) → (length rest == 0) ≡ false
    → all_of (Some (a, map spelled rest)) ≡ None
some_left a [] h = absurd (true≢false h)
some_left a (t ∷ ts) h = refl

pub all_taken : {A : Type 0} (a : A) (rest : List Token) → (length rest == 0) ≡ true
    → all_of (Some (a, map spelled rest)) ≡ Some a
all_taken a rest h = rw (none_left rest h) refl

pub none_kept : (rest : List Token) → (length rest == 0) ≡ true → kept rest ≡ []
none_kept rest h = rw (none_left rest h) refl
