-- Two readings of the same files are readings of the same tokens.
use Rattle.std.proofs.Common.{◌≡◌, ℕ, suc, ◌+◌, List, [], ◌∷◌, Result, Ok, length, sym, subst, ◌∙◌}
use Rattle.std.specs.List.{AllZip}
use Rattle.java_lexer.specs.declared.token.Token.{Token}
use Rattle.java_lexer.specs.declared.token.Lexed.{Lexed}
use Rattle.java_lexer.specs.declared.fault.LexFault.{LexFault}
use Rattle.java_tree.specs.declared.unit.Unit as unit
use Rattle.java_parser_grammar.specs.Units.{IsUnit}
use Rattle.racer_sources.specs.Sources.{AreReadFrom}

pub record SameTokens (us vs : List unit.Unit) : Type 0 where
  pub tokens : List (List Token)
  pub first : AllZip IsUnit tokens us
  pub second : AllZip IsUnit tokens vs

pub same_lexed : (a : Result Lexed LexFault) (l m : Lexed) → a ≡ Ok l → a ≡ Ok m → l ≡ m
same_lexed a l m e g = let both : ◌≡◌ {A = Result Lexed LexFault} (Ok l) (Ok m) = sym e ∙ g in cc

pub same_tokens : (n sum : ℕ) (files : List (List ℕ)) (us vs : List unit.Unit) → AreReadFrom n sum files us
    → AreReadFrom n sum files vs → SameTokens us vs
same_tokens n sum [] [] [] h k = record { tokens = []; first = tt; second = tt }
same_tokens n sum [] [] (v ∷ vs) h k = absurd k
same_tokens n sum [] (u ∷ us) vs h k = absurd h
same_tokens n sum (bytes ∷ files) [] vs h k = absurd h
same_tokens n sum (bytes ∷ files) (u ∷ us) [] h k = absurd k
same_tokens n sum (bytes ∷ files) (u ∷ us) (v ∷ vs) h k =
    let rest = same_tokens (suc n) (sum + length bytes) files us vs h.1 k.1 in
    let same = same_lexed _ k.0.lexed h.0.lexed k.0.tokens h.0.tokens in
    record {
      tokens = h.0.lexed.tokens ∷ rest.tokens;
      first = (h.0.unit, rest.first);
      second = (subst (λ (l : Lexed). IsUnit l.tokens v) same k.0.unit, rest.second);
    }
