-- The tokens before the `->` of a lambda are a name, or begin with `(`.
use Rattle.std.proofs.Common.{◌≡◌, ℕ, Bool, true, false, ◌&&◌, List, [], ◌∷◌, IsTrue, inl, inr, refl, sym, subst, codes}
use Rattle.std.proofs.lemmas.Bool.{false≢true, or_cases}
use Rattle.java_tree.specs.declared.words.Spelled.{Spelled}
use Rattle.java_tree.specs.Words.{sign, identifier}
use Rattle.java_tree.specs.Brackets.{is_sign, is_word_name, has_none, closes, are_lambda_parameters}
use Rattle.java_parser_grammar.proofs.Taken.{sign_is}
use Rattle.java_parser_grammar.proofs.Ensuring.{name_is}

first_of : (b c : Bool) → (b && c) ≡ true → b ≡ true
first_of true c e = refl
first_of false c e = absurd (false≢true e)

second_of : (b c : Bool) → (b && c) ≡ true → c ≡ true
second_of true c e = e
second_of false c e = absurd (false≢true e)

alone : (P : List Spelled → Type 0) → ((x : List ℕ) → P (identifier x ∷ [])) → (t : Spelled) (ts : List Spelled)
    → is_word_name t ≡ true → has_none ts ≡ true → P (t ∷ ts)
alone P f t [] n e = subst (λ u. P (u ∷ [])) (sym (name_is t n)) (f t.text)
alone P f t (u ∷ ts) n e = absurd (false≢true e)

pub lambda_cases : (P : List Spelled → Type 0) → ((x : List ℕ) → P (identifier x ∷ []))
    → ((ts : List Spelled) → closes (codes ")" ∷ []) ts ≡ true → P (sign (codes "(") ∷ ts)) → (ps : List Spelled)
    → IsTrue (are_lambda_parameters ps) → P ps
lambda_cases P f g [] h = absurd (false≢true h)
lambda_cases P f g (t ∷ ts) h =
    elim (or_cases (is_word_name t && has_none ts) (is_sign (codes "(") t && closes (codes ")" ∷ []) ts) h) [
      | inl e ↦ alone P f t ts (first_of (is_word_name t) (has_none ts) e) (second_of (is_word_name t) (has_none ts) e)
      | inr e ↦ subst (λ u. P (u ∷ ts)) (sym (sign_is (codes "(") t (first_of (is_sign (codes "(") t) (closes (codes ")"
          ∷ []) ts) e))) (g ts (second_of (is_sign (codes "(") t) (closes (codes ")" ∷ []) ts) e))
    ]
