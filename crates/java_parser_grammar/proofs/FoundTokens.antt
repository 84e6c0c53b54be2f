-- Balanced tokens are read: the braces of a body, and what stands before the arrow of a lambda.
use Rattle.std.proofs.Common.{◌≡◌, ℕ, true, List, [], ◌∷◌, ◌++◌, Option, Some, None, IsTrue, refl, codes}
use Rattle.std.proofs.lemmas.Bool.{false≢true, and_parts}
use Rattle.java_tree.specs.declared.words.Spelled.{Spelled}
use Rattle.java_tree.specs.Brackets.{is_sign, awaited_behind, is_some_and, closes, are_braces, are_lambda_parameters}
use Rattle.java_tree.specs.Spelling.{tokens_onto}
use Rattle.java_parser_grammar.specs.Taking.{◌>>=◌}
use Rattle.java_parser_grammar.specs.Leads.{begins_with}
use Rattle.java_parser_grammar.specs.BalancedReading.{closed_at, between_at}
use Rattle.java_parser_grammar.specs.ExpressionReading.{lambda_parameters_at}
use Rattle.java_parser_grammar.proofs.LambdaParameters.{lambda_cases}

abbrev put : Spelled → List Spelled × List Spelled → Option (List Spelled × List Spelled)
put t closed = Some (t ∷ closed.0, closed.1)

closed_turn : (t : Spelled) (ts rest : List Spelled) → ((awaited : List (List ℕ)) → closes awaited ts ≡ true
    → closed_at awaited (ts ++ rest) ≡ Some (ts, rest)) → (o : Option (List (List ℕ)))
    → is_some_and o (λ awaited. closes awaited ts) ≡ true → (o >>= λ awaited. closed_at awaited (ts ++ rest)
    >>= put t) ≡ Some (t ∷ ts, rest)
closed_turn t ts rest ih None h = absurd (false≢true h)
closed_turn t ts rest ih (Some awaited) h = rw (ih awaited h) refl

pub closed_found : (ts : List Spelled) (awaited : List (List ℕ)) → closes awaited ts ≡ true → (rest : List Spelled)
    → closed_at awaited (ts ++ rest) ≡ Some (ts, rest)
unfolding closed_at
closed_found [] [] h rest = refl
closed_found [] (inner ∷ outer) h rest = absurd (false≢true h)
closed_found (t ∷ ts) [] h rest = absurd (false≢true h)
closed_found (t ∷ ts) (inner ∷ outer) h rest =
    closed_turn t ts rest (λ awaited e. closed_found ts awaited e rest) (awaited_behind t inner outer) h

pub braces_found : (body : List Spelled) → IsTrue (are_braces body) → (rest : List Spelled)
    → between_at (codes "}") (tokens_onto body rest) ≡ Some (body, rest)
braces_found [] h rest = absurd (false≢true h)
braces_found (t ∷ ts) h rest =
    rw (closed_found ts (codes "}" ∷ []) (and_parts (is_sign (codes "{") t) (closes (codes "}" ∷ []) ts) h).1 rest)
    refl

pub braces_begin : (body : List Spelled) → IsTrue (are_braces body) → (rest : List Spelled)
    → begins_with (codes "{") (tokens_onto body rest) ≡ true
braces_begin [] h rest = absurd (false≢true h)
braces_begin (t ∷ ts) h rest = (and_parts (is_sign (codes "{") t) (closes (codes "}" ∷ []) ts) h).0

pub parameters_found : (ps : List Spelled) → IsTrue (are_lambda_parameters ps) → (rest : List Spelled)
    → lambda_parameters_at (tokens_onto ps rest) ≡ Some (ps, rest)
unfolding lambda_parameters_at
parameters_found ps f rest =
    lambda_cases (λ ps. lambda_parameters_at (tokens_onto ps rest) ≡ Some (ps, rest)) (λ x. refl)
    (λ ts c. rw (closed_found ts (codes ")" ∷ []) c rest) refl) ps f
