-- Tokens that are kept as they stand are balanced: those in parentheses and braces, those before the arrow of a lambda,
-- and those of a local class.
use Rattle.std.proofs.Common.{◌≡◌, ℕ, Bool, true, false, ◌&&◌, ◌||◌, List, [], ◌∷◌, ◌++◌, Option, Some, None, IsTrue}
use Rattle.std.proofs.Common.{refl, sym, ap, ◌∙◌, codes}
use Rattle.std.proofs.lemmas.Bool.{false≢true, or_right}
use Rattle.racer_base.proofs.Tests.{bytes_same}
use Rattle.java_tree.specs.declared.words.Spelled.{Spelled}
use Rattle.java_tree.specs.Words.{keyword, identifier}
use Rattle.java_tree.specs.Brackets.{is_sign, is_word_name, is_class_word, has_none, are_none, awaited_behind}
use Rattle.java_tree.specs.Brackets.{is_some_and, closes, are_between, are_braces, are_lambda_parameters}
use Rattle.java_tree.specs.Brackets.{awaited_in_head, closes_class, are_class}
use Rattle.java_parser_grammar.specs.Taking.{◌>>=◌, after_keyword, after_name}
use Rattle.java_parser_grammar.specs.Leads.{begins_with, behind, begins_lambda}
use Rattle.java_parser_grammar.specs.BalancedReading.{closed_at, between_at, braces_tokens_at}
use Rattle.java_parser_grammar.specs.ExpressionReading.{lambda_parameters_at}
use Rattle.java_parser_grammar.specs.StatementReading.{class_from, local_class_at}
use Rattle.java_parser_grammar.proofs.Ensuring.{Ensures, then_ensures, if_ensures, weaker, keyword_taken, name_taken}

-- it is formed and spells what was taken
pub record Taken {A : Type 0} (Formed : A → Type 0) (onto : A → List Spelled → List Spelled) (ts : List Spelled)
    (x : A × List Spelled) : Type 0 where
  pub formed : Formed x.0
  pub spelled : ts ≡ onto x.0 x.1

-- tokens that pass a test
abbrev pub Passes : (List Spelled → Bool) → List Spelled → List Spelled × List Spelled → Type 0
Passes test = Taken (λ tokens. IsTrue (test tokens)) (λ tokens r. tokens ++ r)

-- ---- brackets

one_closed_sound : (o : Option (List (List ℕ))) (t : Spelled) (ts : List Spelled) (test : List Spelled → Bool)
    → ((tokens : List Spelled) → test (t ∷ tokens) ≡ is_some_and o (λ awaited. closes awaited tokens))
    → ((awaited : List (List ℕ)) → Ensures (Passes (closes awaited) ts) (closed_at awaited ts))
    → Ensures (Passes test (t ∷ ts)) (o >>= λ awaited. closed_at awaited ts >>= λ closed. Some (t ∷ closed.0, closed.1))
one_closed_sound None t ts test same others = tt
one_closed_sound (Some awaited) t ts test same others =
    then_ensures (Passes (closes awaited) ts) (Passes test (t ∷ ts)) (closed_at awaited ts) _ (others awaited)
    (λ c g. record { formed = same c.0 ∙ g.formed; spelled = ap (λ (u : List Spelled). t ∷ u) g.spelled })

closed_sound : (ts : List Spelled) (awaited : List (List ℕ)) → Ensures (Passes (closes awaited) ts) (closed_at awaited
    ts)
unfolding closed_at
closed_sound [] [] = record { formed = refl; spelled = refl }
closed_sound [] (inner ∷ outer) = tt
closed_sound (t ∷ ts) [] = record { formed = refl; spelled = refl }
closed_sound (t ∷ ts) (inner ∷ outer) = one_closed_sound (awaited_behind t inner outer) t ts (closes (inner ∷ outer))
    (λ tokens. refl) (closed_sound ts)

pub between_sound : (opening closing : List ℕ) (ts : List Spelled) → begins_with opening ts ≡ true
    → Ensures (Passes (are_between opening closing) ts) (between_at closing ts)
between_sound opening closing [] h = tt
between_sound opening closing (t ∷ ts) h =
    then_ensures (Passes (closes (closing ∷ [])) ts) (Passes (are_between opening closing) (t ∷ ts))
    (closed_at (closing ∷ []) ts) _ (closed_sound ts (closing ∷ []))
    (λ c g. record { formed = rw (h, g.formed) refl; spelled = ap (λ (u : List Spelled). t ∷ u) g.spelled })

pub braces_tokens_sound : (ts : List Spelled) → Ensures (Passes are_braces ts) (braces_tokens_at ts)
braces_tokens_sound ts =
    if_ensures (Passes are_braces ts) (begins_with (codes "{") ts) _ _ (between_sound (codes "{") (codes "}") ts)
    (λ none. tt)

-- ---- before the arrow of a lambda

a_name : (name round arrow other : Bool) → round ≡ false → ((name && arrow) || (round && other)) ≡ true → name ≡ true
a_name true round arrow other e h = refl
a_name false true arrow other e h = absurd (false≢true (sym e))
a_name false false arrow other e h = h

one_name : (name other : Bool) → name ≡ true → ((name && true) || other) ≡ true
one_name name other h = rw h refl

in_parentheses : (ps : List Spelled) → are_between (codes "(") (codes ")") ps ≡ true → IsTrue (are_lambda_parameters ps)
in_parentheses [] h = h
in_parentheses (t ∷ ts) h =
    or_right (is_word_name t && has_none ts) (are_between (codes "(") (codes ")") (t ∷ ts)) h

pub parameters_sound : (ts : List Spelled) → begins_lambda ts ≡ true
    → Ensures (Passes are_lambda_parameters ts) (lambda_parameters_at ts)
unfolding begins_lambda lambda_parameters_at
parameters_sound [] h = tt
parameters_sound (t ∷ ts) h =
    let P : List Spelled × List Spelled → Type 0 = Passes are_lambda_parameters (t ∷ ts) in
    if_ensures P (is_sign (codes "(") t) _ _
    (λ round. weaker (Passes (are_between (codes "(") (codes ")")) (t ∷ ts)) P (between_at (codes ")") (t ∷ ts))
    (λ ps g. record { formed = in_parentheses ps.0 g.formed; spelled = g.spelled })
    (between_sound (codes "(") (codes ")") (t ∷ ts) round))
    (λ other. record {
      formed = one_name (is_word_name t) (are_between (codes "(") (codes ")") (t ∷ [])) (a_name (is_word_name t)
          (is_sign (codes "(") t) (begins_with (codes "->") ts) (begins_with (codes "->") (behind 0 ts)) other h);
      spelled = refl;
    })

-- ---- local classes

one_headed_sound : (o : Option (List (List ℕ))) (t : Spelled) (ts : List Spelled) (test : List Spelled → Bool)
    → ((tokens : List Spelled) → test (t ∷ tokens) ≡ is_some_and o (λ more. closes_class more tokens))
    → ((more : List (List ℕ)) → Ensures (Passes (closes_class more) ts) (class_from more ts))
    → Ensures (Passes test (t ∷ ts)) (o >>= λ more. class_from more ts >>= λ others. Some (t ∷ others.0, others.1))
one_headed_sound None t ts test same others = tt
one_headed_sound (Some more) t ts test same others =
    then_ensures (Passes (closes_class more) ts) (Passes test (t ∷ ts)) (class_from more ts) _ (others more)
    (λ c g. record { formed = same c.0 ∙ g.formed; spelled = ap (λ (u : List Spelled). t ∷ u) g.spelled })

headed_sound : (ts : List Spelled) (awaited : List (List ℕ)) → Ensures (Passes (closes_class awaited) ts)
    (class_from awaited ts)
unfolding class_from
headed_sound [] awaited = tt
headed_sound (t ∷ ts) awaited =
    let P : List Spelled × List Spelled → Type 0 = Passes (closes_class awaited) (t ∷ ts) in
    if_ensures P (is_sign (codes "{") t) _ _
    (λ brace. if_ensures P (are_none awaited) _ _
    (λ none. then_ensures (Passes (closes (codes "}" ∷ [])) ts) P (closed_at (codes "}" ∷ []) ts) _
    (closed_sound ts (codes "}" ∷ []))
    (λ c g. record {
      formed = rw (brace, none, g.formed) refl;
      spelled = ap (λ (u : List Spelled). t ∷ u) g.spelled;
    }))
    (λ some. tt))
    (λ other. one_headed_sound (awaited_in_head t awaited) t ts (closes_class awaited) (λ tokens. rw other refl)
    (headed_sound ts))

word_before : (x : List ℕ) (t : Spelled) (ts : List Spelled) → is_class_word t ≡ true → are_class x ts ≡ true
    → are_class x (t ∷ ts) ≡ true
word_before x t [] word h = absurd (false≢true h)
word_before x t (u ∷ ts) word h = rw (word, h) refl

-- it is of this name, and spells what was taken
pub record GotClass (ts : List Spelled) (c : (List ℕ × List Spelled) × List Spelled) : Type 0 where
  pub formed : IsTrue (are_class c.0.0 c.0.1)
  pub spelled : ts ≡ c.0.1 ++ c.1

pub local_class_sound : (ts : List Spelled) → Ensures (GotClass ts) (local_class_at ts)
unfolding local_class_at
local_class_sound [] = tt
local_class_sound (t ∷ ts) =
    let G : (List ℕ × List Spelled) × List Spelled → Type 0 = GotClass (t ∷ ts) in
    if_ensures G (is_class_word t) _ _
    (λ word. then_ensures (GotClass ts) G (local_class_at ts) _ (local_class_sound ts)
    (λ c g. record {
      formed = word_before c.0.0 t c.0.1 word g.formed;
      spelled = ap (λ (u : List Spelled). t ∷ u) g.spelled;
    }))
    (λ other. then_ensures (λ r. t ∷ ts ≡ keyword (codes "class") ∷ r) G (after_keyword (codes "class") (t ∷ ts)) _
    (keyword_taken (codes "class") (t ∷ ts))
    (λ r e. then_ensures (λ x. r ≡ identifier x.0 ∷ x.1) G (after_name r) _ (name_taken r)
    (λ x f. then_ensures (Passes (closes_class []) x.1) G (class_from [] x.1) _ (headed_sound x.1 [])
    (λ others g. record {
      formed = rw (bytes_same x.0, g.formed) refl;
      spelled = e ∙ ap (λ (u : List Spelled). keyword (codes "class") ∷ u) (f ∙ ap (λ (u : List Spelled). identifier x.0
          ∷ u) g.spelled);
    }))))
