-- What goes on from an expression does not go on with its names.
use Rattle.std.proofs.Common.{◌≡◌, ℕ, zero, suc, ◌≤◌, Bool, true, false, cond, List, [], ◌∷◌, Option, Some}
use Rattle.std.proofs.Common.{None, IsTrue, refl, arith, codes}
use Rattle.java_tree.specs.declared.words.Spelled.{Spelled}
use Rattle.std.specs.Prelude.{bytes_eq}
use Rattle.java_tree.specs.Words.{sign, sign_glued, keyword, identifier}
use Rattle.java_tree.specs.Brackets.{is_sign}
use Rattle.java_tree.specs.Operators.{BinaryOperator, Below, LogicalOr, text_of, is_binary, is_assignment, is_step}
use Rattle.java_tree.specs.Operators.{assignment_operators}
use Rattle.java_tree.specs.Trees.{Arguments, Angled, Expr, Lambda, BlockLambda}
use Rattle.java_tree.specs.Spelling.{operator_onto, maybe_angled_onto, referred_onto, expr_onto}
use Rattle.java_tree.specs.Spelling.{tokens_onto}
use Rattle.java_tree.specs.Formed.{level, ends_open, is_lambda, FormedTypes, FormedExpr}
use Rattle.java_tree.specs.Nesting.{maybe_angled_nesting, expr_nesting}
use Rattle.java_parser_grammar.specs.Taking.{after_sign}
use Rattle.java_parser_grammar.specs.TypeReading.{brackets_at, EndsNoTypes}
use Rattle.java_parser_grammar.specs.Leads.{pull, begins_with}
use Rattle.java_parser_grammar.specs.ExpressionReading.{class_at, goes_typed, LeavesTypes, referred_at, lambda_level}
use Rattle.java_parser_grammar.specs.ExpressionReading.{read_at, begins_glued}
use Rattle.java_parser_grammar.proofs.OperatorTexts.{listed_cases, step_cases, binary_cases, assignment_no_class}
use Rattle.java_parser_grammar.proofs.OperatorTexts.{step_no_class, binary_no_class}
use Rattle.java_parser_grammar.proofs.GrammarFronts.{front}
use Rattle.java_parser_grammar.proofs.NoAngles.{operand_front, binary_ends, assignment_ends, step_ends, bracket_shut}
use Rattle.java_parser_grammar.proofs.NoAngles.{ends_no_types}
use Rattle.java_parser_grammar.proofs.Angles.{angled_ends}
use Rattle.java_parser_grammar.proofs.Meetings.{Leaves, Met, alone}
use Rattle.java_parser_grammar.proofs.Taken.{no_arrow}
use Rattle.java_parser_grammar.proofs.NoLambda.{begins_none}
use Rattle.java_parser_grammar.proofs.BalancedTokens.{parameters_begin}
use Rattle.java_parser_grammar.proofs.FoundTokens.{parameters_found, braces_found, braces_begin}
use Rattle.java_parser_grammar.proofs.FoundTypeLists.{types_found}
use Rattle.java_parser_grammar.proofs.Operands.{block_found}

-- ---- operators

operator_untyped : (o : BinaryOperator) (ts : List Spelled) → EndsNoTypes ts → (l : ℕ) → goes_typed l
    (operator_onto (text_of o) ts) ≡ false
operator_untyped Below ts shut l = shut l 0
operator_untyped LogicalOr ts shut l = refl
operator_untyped _ ts shut l = refl

operator_unglued : (op : List ℕ) (ts : List Spelled) → begins_glued (operator_onto op ts) ≡ false
operator_unglued op ts = by_tests (bytes_eq op (codes ">>")) (bytes_eq op (codes ">>>")) where
  by_tests : (b c : Bool) → begins_glued (cond b (sign (codes ">") ∷ sign_glued true (codes ">") ∷ ts) (cond c
      (sign (codes ">") ∷ sign_glued true (codes ">") ∷ sign_glued true (codes ">") ∷ ts) (sign op ∷ ts))) ≡ false
  by_tests true c = refl
  by_tests false true = refl
  by_tests false false = refl

pub binary_leaves : (op : List ℕ) (b : Expr) → IsTrue (is_binary op) → FormedExpr b → (rest : List Spelled)
    → EndsNoTypes rest → Leaves (operator_onto op (expr_onto b rest))
binary_leaves op b is f rest shut =
    let ends : EndsNoTypes (expr_onto b rest) = ends_no_types b f rest shut in
    record {
      unclassed = binary_no_class op (expr_onto b rest) is;
      types = (
        (λ l. binary_cases (λ op. goes_typed l (operator_onto op (expr_onto b rest)) ≡ false)
            (λ o. operator_untyped o (expr_onto b rest) ends l) op is),
        binary_ends (expr_onto b rest) (operand_front b f rest) ends op is,
        operator_unglued op (expr_onto b rest),
      );
    }

pub assignment_leaves : (op : List ℕ) (ts : List Spelled) → IsTrue (is_assignment op) → Leaves (sign op ∷ ts)
assignment_leaves op ts h = record {
  unclassed = assignment_no_class op ts h;
  types = (
    (λ l. listed_cases (λ op. goes_typed l (sign op ∷ ts) ≡ false) assignment_operators op h
        (refl, (refl, (refl, (refl, (refl, (refl, (refl, (refl, (refl, (refl, (refl, (refl, tt))))))))))))),
    assignment_ends op ts h,
    refl,
  );
}

pub step_leaves : (op : List ℕ) (ts : List Spelled) → IsTrue (is_step op) → Leaves (sign op ∷ ts)
step_leaves op ts h = record {
  unclassed = step_no_class op ts h;
  types = ((λ l. step_cases (λ op. goes_typed l (sign op ∷ ts) ≡ false) refl refl op h), step_ends op ts h, refl);
}

pub question_leaves : (b : Expr) → FormedExpr b → (rest : List Spelled) → Leaves (sign (codes "?") ∷ expr_onto b
    (sign (codes ":") ∷ rest))
unfolding class_at
question_leaves b f rest =
    record { unclassed = refl; types = ((λ l. refl), ends_no_types b f (sign (codes ":") ∷ rest) (λ l d. refl), refl) }

pub instance_leaves : (ts : List Spelled) → Leaves (keyword (codes "instanceof") ∷ ts)
unfolding class_at
instance_leaves ts = record { unclassed = refl; types = ((λ l. refl), (λ l d. refl), refl) }

-- ---- selectors

pub field_leaves : (x : List ℕ) (rest : List Spelled) → Leaves rest → Leaves (sign (codes ".") ∷ identifier x ∷ rest)
unfolding class_at
field_leaves x rest l = record { unclassed = rw l.unclassed refl; types = (l.types.0, l.types.1, refl) }

pub none_begins : (text : List ℕ) (ts : List Spelled) → after_sign text ts ≡ None → begins_with text ts ≡ false
none_begins text [] e = refl
none_begins text (t ∷ ts) e = by_test (is_sign text t) e where
  by_test : (b : Bool) → cond b (Some ts) None ≡ None → b ≡ false
  by_test true e = absurd cc
  by_test false e = refl

pub index_leaves : (i : Expr) → FormedExpr i → (rest : List Spelled) → Leaves (sign (codes "[") ∷ expr_onto i
    (sign (codes "]") ∷ rest))
unfolding class_at brackets_at
index_leaves i f rest =
    let r = expr_onto i (sign (codes "]") ∷ rest) in
    let no_close = (front i f (sign (codes "]") ∷ rest)).not_bracket in
    record {
      unclassed = rw no_close refl;
      types = ((λ l. rw (none_begins (codes "]") r no_close) refl), (λ l d. bracket_shut l d r no_close), refl);
    }

pub call_leaves : (types : Option Arguments) → FormedTypes types → (x : List ℕ) (ts : List Spelled)
    → Leaves (sign (codes ".") ∷ maybe_angled_onto types (identifier x ∷ sign (codes "(") ∷ ts))
unfolding class_at
call_leaves None f x ts = record { unclassed = refl; types = ((λ l. refl), (λ l d. refl), refl) }
call_leaves (Some (Angled list g)) f x ts =
    record { unclassed = refl; types = ((λ l. refl), angled_ends (Angled list g) f.0 _ (λ l d. refl), refl) }

pub reference_leaves : (ts : List Spelled) → Leaves (sign (codes "::") ∷ ts)
unfolding class_at
reference_leaves ts = record { unclassed = refl; types = ((λ l. refl), (λ l d. refl), refl) }

-- what a method reference refers to is read
pub referred_found : (types : Option Arguments) (x : Option (List ℕ)) → FormedTypes types → (n : ℕ)
    (rest : List Spelled) → maybe_angled_nesting types ≤ n → referred_at n (referred_onto types x rest) ≡ Some (
      (types, x),
      rest,
    )
unfolding referred_at
referred_found types None f n rest fits = rw (types_found types f n (keyword (codes "new") ∷ rest) fits refl) refl
referred_found types (Some x) f n rest fits = rw (types_found types f n (identifier x ∷ rest) fits refl) refl

-- ---- where a lambda may stand too

block_alone : (ps block : List Spelled) → FormedExpr (BlockLambda ps block) → (n : ℕ) (rest : List Spelled) → 1 ≤ n
    → read_at n 0 (expr_onto (BlockLambda ps block) rest) ≡ Some (BlockLambda ps block, rest)
unfolding read_at
block_alone ps block f zero rest fits = absurd (omega arith)
block_alone ps block f (suc n) rest fits =
    rw (
      parameters_begin ps f.0 (tokens_onto block rest),
      block_found (read_at n 0) ps block (tokens_onto ps (sign (codes "->") ∷ tokens_onto block rest))
          (tokens_onto block rest) rest (parameters_found ps f.0 (sign (codes "->") ∷ tokens_onto block rest))
          (braces_begin block f.1 rest) (braces_found block f.1 rest),
    ) refl

plain_last : (c : Expr) → FormedExpr c → Met c → (n l : ℕ) (rest : List Spelled) → expr_nesting c ≤ n → l ≤ 14
    → l ≤ level c → pull rest ≤ l → (IsTrue (ends_open c) → pull rest ≤ 0) → LeavesTypes rest → is_lambda c ≡ false
    → read_at n (lambda_level l (expr_onto c rest)) (expr_onto c rest) ≡ Some (c, rest)
plain_last c f m n l rest fits most high quiet opens types none =
    rw (begins_none c f none rest (no_arrow rest (omega arith))) (alone c m n l rest fits high quiet opens types)

-- the last part of a conditional, and what is cast to another than a primitive type
pub last_found : (c : Expr) → FormedExpr c → Met c → (n l : ℕ) (rest : List Spelled) → expr_nesting c ≤ n → l ≤ 14
    → (is_lambda c ≡ false → l ≤ level c) → pull rest ≤ l → (IsTrue (ends_open c) → pull rest ≤ 0) → LeavesTypes rest
    → read_at n (lambda_level l (expr_onto c rest)) (expr_onto c rest) ≡ Some (c, rest)
last_found (Lambda ps a) f m n l rest fits most high quiet opens types =
    rw (parameters_begin ps f.0 (expr_onto a rest)) (alone (Lambda ps a) m n 0 rest fits (omega arith) (opens refl)
    opens types)
last_found (BlockLambda ps block) f m n l rest fits most high quiet opens types =
    rw (parameters_begin ps f.0 (tokens_onto block rest)) (block_alone ps block f n rest fits)
last_found c f m n l rest fits most high quiet opens types =
    plain_last c f m n l rest fits most (high refl) quiet opens types refl
