-- Variables with commas between them are read, also where they end the tokens.
use Rattle.std.proofs.Common.{◌≡◌, ℕ, ◌≤◌, max, List, [], ◌∷◌, Option, Some, None, IsTrue, refl, ap, ◌∙◌, arith, codes}
use Rattle.java_tree.specs.declared.words.Spelled.{Spelled}
use Rattle.java_tree.specs.Words.{sign}
use Rattle.java_tree.specs.Trees.{Variable}
use Rattle.java_tree.specs.Spelling.{commas_onto, variable_onto}
use Rattle.java_tree.specs.FormedModifiers.{Each, has_some}
use Rattle.java_tree.specs.Formed.{FormedVariable}
use Rattle.java_tree.specs.Nesting.{most_over, variable_nesting}
use Rattle.java_parser_grammar.specs.Taking.{after_sign}
use Rattle.java_parser_grammar.specs.Leads.{lead, pull}
use Rattle.java_parser_grammar.specs.ExpressionReading.{LeavesTypes}
use Rattle.java_parser_grammar.specs.JavaReaders.{method_readers}
use Rattle.java_parser_grammar.specs.StatementReading.{comma_list, variable_at}
use Rattle.java_parser_grammar.proofs.FoundJava.{EndsExpr, java_finds}
use Rattle.java_parser_grammar.proofs.FoundParts.{listed_found}
use Rattle.java_parser_grammar.proofs.FoundExpressions.{nothing_leaves, same_read}
use Rattle.java_parser_grammar.proofs.SoundJava.{java_sound}
use Rattle.java_parser_grammar.proofs.SoundParts.{listed_sound}
use Rattle.java_parser_grammar.proofs.SoundSteps.{GotOne, SomeOf}
use Rattle.java_parser_grammar.proofs.Ensuring.{of_equation}
use Rattle.java_parser_grammar.proofs.Taken.{after_sign_is, pull_nothing}
use Rattle.java_parser_grammar.proofs.TypeFronts.{EndsTy}

pull_equals : (r : List Spelled) → pull (sign (codes "=") ∷ r) ≡ 1
unfolding lead
pull_equals r = refl

-- what does not go on with an expression begins with no `=`
no_equals : (rest : List Spelled) → pull rest ≤ 0 → after_sign (codes "=") rest ≡ None
no_equals rest ends = by_answer (after_sign (codes "=") rest) refl where
  by_answer : (o : Option (List Spelled)) → after_sign (codes "=") rest ≡ o → o ≡ None
  by_answer None e = refl
  by_answer (Some r) e =
      let pulled : pull rest ≡ 1 = ap pull (after_sign_is (codes "=") rest r e) ∙ pull_equals r in absurd (omega arith)

pub variables_are_found : (vs : List Variable) (n : ℕ) (rest : List Spelled) → IsTrue (has_some vs)
    → Each FormedVariable vs → most_over variable_nesting vs ≤ n → pull rest ≤ 0 → LeavesTypes rest
    → after_sign (codes ",") rest ≡ None
    → comma_list (variable_at method_readers n) (commas_onto variable_onto vs rest) ≡ Some (vs, rest)
variables_are_found vs n rest some f fits ends types no_comma =
    listed_found method_readers EndsTy EndsExpr java_finds vs n rest some f fits
    (record { pulls = ends; types = types })
    (no_equals rest ends) no_comma

pub variables_end_tokens : (vs : List Variable) (n : ℕ) → IsTrue (has_some vs) → Each FormedVariable vs
    → most_over variable_nesting vs ≤ n
    → comma_list (variable_at method_readers n) (commas_onto variable_onto vs []) ≡ Some (vs, [])
variables_end_tokens vs n some f fits =
    variables_are_found vs n [] some f fits (omega (arith, pull_nothing)) nothing_leaves refl

pub one_list : (a b : List Variable) → IsTrue (has_some a) → IsTrue (has_some b) → Each FormedVariable a
    → Each FormedVariable b → commas_onto variable_onto a [] ≡ commas_onto variable_onto b [] → a ≡ b
one_list a b some other f g e =
    let n = max (most_over variable_nesting a) (most_over variable_nesting b) in
    same_read a b (a, []) (b, []) (comma_list (variable_at method_readers n)) (commas_onto variable_onto a [])
    (commas_onto variable_onto b []) refl refl e
    (variables_end_tokens a n some f (omega arith))
    (variables_end_tokens b n other g (omega arith))

-- what is read
pub got_variables : (n : ℕ) (ts : List Spelled) (vs : List Variable) (rest : List Spelled)
    → comma_list (variable_at method_readers n) ts ≡ Some (vs, rest)
    → GotOne (SomeOf FormedVariable) (most_over variable_nesting) (commas_onto variable_onto) n ts (vs, rest)
got_variables n ts vs rest e =
    of_equation (GotOne (SomeOf FormedVariable) (most_over variable_nesting) (commas_onto variable_onto) n ts)
    (comma_list (variable_at method_readers n) ts) (vs, rest) (listed_sound method_readers java_sound n ts) e
