-- Tokens that are cut in two: their spelling and the places that are kept.
use Rattle.std.proofs.Common.{◌≡◌, ℕ, ◌<◌, List, [], ◌∷◌, ◌++◌, length, length-append}
use Rattle.std.proofs.Common.{refl, sym, ap, ◌∙◌, arith}
use Rattle.java_lexer.specs.declared.token.Token.{Token}
use Rattle.java_tree.specs.declared.words.Spelled.{Spelled}
use Rattle.java_parser_grammar.specs.Tokens.{plain, plain_all}

-- tokens whose spelling is two
pub record InTwo (ts : List Token) (x y : List Spelled) : Type 0 where
  pub front : List Token
  pub back : List Token
  pub parts : front ++ back ≡ ts
  pub first : plain_all front ≡ x
  pub second : plain_all back ≡ y

pub in-two : (ts : List Token) (x y : List Spelled) → x ++ y ≡ plain_all ts → InTwo ts x y
in-two ts [] y e = record { front = []; back = ts; parts = refl; first = refl; second = sym e }
in-two [] (s ∷ x) y e = absurd cc
in-two (t ∷ ts) (s ∷ x) y e = more (in-two ts x y cc) cc where
  more : InTwo ts x y → s ≡ plain t → InTwo (t ∷ ts) (s ∷ x) y
  more h same =
      record {
        front = t ∷ h.front;
        back = h.back;
        parts = ap (λ (l : List Token). t ∷ l) h.parts;
        first = ap (λ (l : List Spelled). plain t ∷ l) h.first ∙ ap (λ (u : Spelled). u ∷ x) (sym same);
        second = h.second;
      }

pub back-within : (n : ℕ) (a b ts : List Token) → a ++ b ≡ ts → length ts < n → length b < n
back-within n a b ts e few =
    let long : length (a ++ b) ≡ length ts = ap (λ (l : List Token). length l) e in
    omega (arith, long, few, length-append a b)

pub front-within : (n : ℕ) (a b ts : List Token) → a ++ b ≡ ts → length ts < n → length a < n
front-within n a b ts e few =
    let long : length (a ++ b) ≡ length ts = ap (λ (l : List Token). length l) e in
    omega (arith, long, few, length-append a b)
