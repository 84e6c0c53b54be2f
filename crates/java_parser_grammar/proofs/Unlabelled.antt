-- No expression begins with a name and `:`, where no `:` stands behind it; and no declaration does.
use Rattle.std.proofs.Common.{◌≡◌, ℕ, zero, suc, List, [], ◌∷◌, None, IsTrue, codes, refl}
use Rattle.std.proofs.lemmas.Bool.{false≢true}
use Rattle.java_lexer.specs.declared.token.TokenKind.{TokenKind}
use Rattle.java_lexer.specs.declared.token.TokenKind.TheVariants as kind
use Rattle.java_tree.specs.declared.words.Spelled.{Spelled}
use Rattle.java_tree.specs.Words.{keyword, identifier, sign, word_of}
use Rattle.java_tree.specs.Brackets.{are_lambda_parameters}
use Rattle.java_tree.specs.Operators.{assignment_operators, is_assignment, is_binary, is_step, text_of}
use Rattle.java_tree.specs.Operators.{BinaryOperator, LogicalOr}
use Rattle.java_tree.specs.Trees.{Ty, Typed, Plain, Named, Parts, no_part, part_then, Bare, Generic, Angled, Expr}
use Rattle.java_tree.specs.Trees.{Assign, Conditional, Binary, InstanceOf, Postfix, Literal, Name, Field, Index}
use Rattle.java_tree.specs.Trees.{CallOn, ClassOf, Lambda, BlockLambda, Reference, TypeReference, PlainClass, ThisOf}
use Rattle.java_tree.specs.Trees.{Modifier, Word, Annotated}
use Rattle.java_tree.specs.Spelling.{operator_onto, brackets_onto, more_parts_onto, tokens_onto, ty_onto, expr_onto}
use Rattle.java_tree.specs.Spelling.{modifiers_onto}
use Rattle.java_tree.specs.Formed.{is_literal, FormedTy, FormedExpr}
use Rattle.java_parser_grammar.specs.Taking.{after_sign}
use Rattle.java_parser_grammar.specs.Lookahead.{name_and_colon}
use Rattle.java_parser_grammar.proofs.OperatorTexts.{binary_cases, listed_cases, step_cases}
use Rattle.java_parser_grammar.proofs.LambdaParameters.{lambda_cases}

abbrev NoColon : List Spelled → Type 0
NoColon ts = after_sign (codes ":") ts ≡ None

-- ---- types

parts_no_colon : (ps : Parts) (arrays : ℕ) (rest : List Spelled) → NoColon rest → NoColon (more_parts_onto ps
    (brackets_onto arrays rest))
parts_no_colon no_part zero rest h = h
parts_no_colon no_part (suc arrays) rest h = refl
parts_no_colon (part_then p ps) arrays rest h = refl

ty_unlabelled : (t : Ty) (rest : List Spelled) → FormedTy t → NoColon rest → name_and_colon (ty_onto t rest) ≡ None
ty_unlabelled (Typed (Plain text) arrays) rest f h = refl
ty_unlabelled (Typed (Named no_part) arrays) rest f h = absurd cc
ty_unlabelled (Typed (Named (part_then (Bare y) ps)) arrays) rest f h = rw (parts_no_colon ps arrays rest h) refl
ty_unlabelled (Typed (Named (part_then (Generic y (Angled list glued)) ps)) arrays) rest f h = refl

pub declared_unlabelled : (ms : List Modifier) (t : Ty) (x : List ℕ) (rest : List Spelled) → FormedTy t
    → name_and_colon (modifiers_onto ms (ty_onto t (identifier x ∷ rest))) ≡ None
declared_unlabelled [] t x rest f = ty_unlabelled t (identifier x ∷ rest) f refl
declared_unlabelled (Word text ∷ ms) t x rest f = refl
declared_unlabelled (Annotated n ∷ ms) t x rest f = refl

-- ---- lambdas

parameters_unlabelled : (ps rest : List Spelled) → IsTrue (are_lambda_parameters ps)
    → name_and_colon (tokens_onto ps (sign (codes "->") ∷ rest)) ≡ None
parameters_unlabelled ps rest f =
    lambda_cases (λ ps. name_and_colon (tokens_onto ps (sign (codes "->") ∷ rest)) ≡ None) (λ x. refl) (λ ts c. refl)
    ps f

-- ---- expressions

assignment_no_colon : (op : List ℕ) (ts : List Spelled) → IsTrue (is_assignment op) → NoColon (sign op ∷ ts)
assignment_no_colon op ts h =
    listed_cases (λ text. NoColon (sign text ∷ ts)) assignment_operators op h
    (refl, (refl, (refl, (refl, (refl, (refl, (refl, (refl, (refl, (refl, (refl, (refl, tt))))))))))))

operator_no_colon : (o : BinaryOperator) (ts : List Spelled) → NoColon (operator_onto (text_of o) ts)
operator_no_colon LogicalOr ts = refl
operator_no_colon _ ts = refl

binary_no_colon : (op : List ℕ) (ts : List Spelled) → IsTrue (is_binary op) → NoColon (operator_onto op ts)
binary_no_colon op ts h = binary_cases (λ text. NoColon (operator_onto text ts)) (λ o. operator_no_colon o ts) op h

step_no_colon : (op : List ℕ) (ts : List Spelled) → IsTrue (is_step op) → NoColon (sign op ∷ ts)
step_no_colon op ts h = step_cases (λ text. NoColon (sign text ∷ ts)) refl refl op h

literal_unlabelled : (k : TokenKind) (text : List ℕ) (rest : List Spelled) → IsTrue (is_literal k)
    → name_and_colon (word_of k text ∷ rest) ≡ None
literal_unlabelled kind.Name text rest h = absurd cc
literal_unlabelled _ text rest h = refl

pub expr_unlabelled : (e : Expr) (rest : List Spelled) → FormedExpr e → NoColon rest
    → name_and_colon (expr_onto e rest) ≡ None
expr_unlabelled (Assign a op b) rest f h = expr_unlabelled a _ f.0 (assignment_no_colon op (expr_onto b rest) f.2)
expr_unlabelled (Conditional a b c) rest f h = expr_unlabelled a _ f.0 refl
expr_unlabelled (Binary a op b) rest f h = expr_unlabelled a _ f.0 (binary_no_colon op (expr_onto b rest) f.2)
expr_unlabelled (InstanceOf a t) rest f h = expr_unlabelled a _ f.0 refl
expr_unlabelled (Postfix a op) rest f h = expr_unlabelled a _ f.0 (step_no_colon op rest f.1)
expr_unlabelled (Literal k text) rest f h = literal_unlabelled k text rest f
expr_unlabelled (Name x) rest f h = rw h refl
expr_unlabelled (Field a x) rest f h = expr_unlabelled a _ f.0 refl
expr_unlabelled (Index a i) rest f h = expr_unlabelled a _ f.0 refl
expr_unlabelled (CallOn a types x all) rest f h = expr_unlabelled a _ f.0 refl
expr_unlabelled (Lambda ps a) rest f h = parameters_unlabelled ps _ f.0
expr_unlabelled (BlockLambda ps block) rest f h = parameters_unlabelled ps _ f.0
expr_unlabelled (Reference a types x) rest f h = expr_unlabelled a _ f.0 refl
expr_unlabelled (TypeReference t types x) rest f h = ty_unlabelled t _ f.0 refl
expr_unlabelled (PlainClass (Typed (Plain text) n)) rest f h = refl
expr_unlabelled (PlainClass (Typed (Named no_part) n)) rest f h = absurd (false≢true f.1)
expr_unlabelled (PlainClass (Typed (Named (part_then (Bare x) ps)) n)) rest f h =
    rw (parts_no_colon ps n (sign (codes ".") ∷ keyword (codes "class") ∷ rest) refl) refl
expr_unlabelled (PlainClass (Typed (Named (part_then (Generic x a) ps)) n)) rest f h = absurd (false≢true f.0)
expr_unlabelled (ThisOf []) rest f h = absurd cc
expr_unlabelled (ThisOf (x ∷ [])) rest f h = refl
expr_unlabelled (ThisOf (x ∷ y ∷ xs)) rest f h = refl
expr_unlabelled (ClassOf []) rest f h = absurd cc
expr_unlabelled (ClassOf (x ∷ [])) rest f h = refl
expr_unlabelled (ClassOf (x ∷ y ∷ xs)) rest f h = refl
expr_unlabelled _ rest f h = refl
