-- A declaration looks like one, and an expression that is run does not.
use Rattle.std.proofs.Common.{◌≡◌, ℕ, ◌≤◌, true, false, ◌||◌, List, [], ◌∷◌, Option, Some, None}
use Rattle.std.proofs.Common.{IsTrue, codes, inl, inr, refl, sym, subst, ◌∙◌, arith}
use Rattle.std.specs.Prelude.{bytes_eq}
use Rattle.std.specs.Cmp.Lexicographic.{bytes_decides}
use Rattle.std.proofs.lemmas.Bool.{false≢true, or_cases}
use Rattle.java_lexer.specs.declared.token.TokenKind.{TokenKind}
use Rattle.java_lexer.specs.declared.token.TokenKind.TheVariants as kind
use Rattle.java_tree.specs.declared.words.Spelled.{Spelled}
use Rattle.java_tree.specs.Words.{keyword, identifier, sign, word_of}
use Rattle.java_tree.specs.Operators.{is_binary, binary_level, primary_level, assignment_operators, is_assignment}
use Rattle.java_tree.specs.Operators.{is_step, text_of, BinaryOperator, LogicalOr}
use Rattle.java_tree.specs.Trees.{Ty, Typed, Plain, Named, Parts, no_part, part_then, Bare, Generic, Angled, Expr}
use Rattle.java_tree.specs.Trees.{Assign, Conditional, Binary, InstanceOf, Prefix, Cast, Postfix, Literal, This}
use Rattle.java_tree.specs.Trees.{Name, Paren, Field, Index, Call, CallOn, ClassOf, New, NewArray, NewItems, NewBody}
use Rattle.java_tree.specs.Trees.{Lambda, BlockLambda, Reference, TypeReference, SuperReference, PlainClass, ThisOf}
use Rattle.java_tree.specs.Trees.{Arguments, Modifier, Word, Annotated}
use Rattle.java_tree.specs.Spelling.{behind_points, brackets_onto, more_parts_onto, ty_onto, maybe_angled_onto}
use Rattle.java_tree.specs.Spelling.{expr_onto, modifiers_onto}
use Rattle.java_tree.specs.FormedModifiers.{FormedVariableModifiers}
use Rattle.java_tree.specs.Formed.{is_literal, is_plain_word, are_bare_parts, is_variable, is_run, level}
use Rattle.java_tree.specs.Formed.{FormedTy, FormedLiteral, FormedExpr}
use Rattle.java_parser_grammar.specs.Leads.{begins_with}
use Rattle.java_parser_grammar.specs.Lookahead.{goes_local, looks_local}
use Rattle.java_parser_grammar.proofs.OperatorTexts.{binary_cases, listed_cases, step_cases}
use Rattle.java_parser_grammar.proofs.StatementFronts.{starts, plain_cases}
use Rattle.java_parser_grammar.proofs.LocalTypes.{brackets_passed, parts_passed, angled_passed}

-- ---- declarations

plain_looks : (text : List ℕ) (rest : List Spelled) → IsTrue (is_plain_word text) → looks_local (keyword text ∷ rest)
    ≡ goes_local 0 rest
plain_looks text rest h =
    plain_cases (λ word. looks_local (keyword word ∷ rest) ≡ goes_local 0 rest) refl refl refl refl refl refl refl refl
    text h

-- a type goes on to what stands behind it
pub ty_looks : (t : Ty) (rest : List Spelled) → FormedTy t → looks_local (ty_onto t rest) ≡ goes_local 0 rest
ty_looks (Typed (Plain text) arrays) rest f =
    plain_looks text (brackets_onto arrays rest) f ∙ brackets_passed arrays 0 rest
ty_looks (Typed (Named no_part) arrays) rest f = absurd (false≢true f.1)
ty_looks (Typed (Named (part_then (Bare y) ps)) arrays) rest f =
    parts_passed ps f.0.1 0 (brackets_onto arrays rest) ∙ brackets_passed arrays 0 rest
ty_looks (Typed (Named (part_then (Generic y a) ps)) arrays) rest f =
    angled_passed a f.0.0 0 (more_parts_onto ps (brackets_onto arrays rest))
    ∙ parts_passed ps f.0.1 0 (brackets_onto arrays rest) ∙ brackets_passed arrays 0 rest

final_looks : (text : List ℕ) (rest : List Spelled) → bytes_eq text (codes "final") ≡ true
    → looks_local (keyword text ∷ rest) ≡ true
final_looks text rest h = rw h refl

pub declared_looks : (ms : List Modifier) (t : Ty) (x : List ℕ) (rest : List Spelled) → FormedVariableModifiers ms
    → FormedTy t → looks_local (modifiers_onto ms (ty_onto t (identifier x ∷ rest))) ≡ true
declared_looks [] t x rest b f = ty_looks t (identifier x ∷ rest) f
declared_looks (Word text ∷ ms) t x rest b f = final_looks text (modifiers_onto ms (ty_onto t (identifier x ∷ rest)))
    b.0.0
declared_looks (Annotated n ∷ ms) t x rest b f = refl

-- ---- expressions

-- names up to a `.class` or a `.this`
names_look : (xs : List (List ℕ)) (rest : List Spelled) → goes_local 0 rest ≡ false → goes_local 0
    (behind_points xs rest) ≡ false
names_look [] rest h = h
names_look (x ∷ xs) rest h = names_look xs rest h

-- the class of a primitive type or `void`
word_looks : (text : List ℕ) (rest : List Spelled) → (is_plain_word text || bytes_eq text (codes "void")) ≡ true
    → goes_local 0 rest ≡ false → looks_local (keyword text ∷ rest) ≡ false
word_looks text rest w h = elim (or_cases (is_plain_word text) (bytes_eq text (codes "void")) w) [
  | inl e ↦ plain_looks text rest e ∙ h
  | inr e ↦ subst (λ text. looks_local (keyword text ∷ rest) ≡ false) (sym ((bytes_decides text (codes "void")).0 e))
      refl
]

bare_parts_look : (ps : Parts) (rest : List Spelled) → IsTrue (are_bare_parts ps) → goes_local 0
    (more_parts_onto ps rest) ≡ goes_local 0 rest
bare_parts_look no_part rest f = refl
bare_parts_look (part_then (Bare x) ps) rest f = bare_parts_look ps rest f
bare_parts_look (part_then (Generic x a) ps) rest f = absurd (false≢true f)

class_looks : (t : Ty) (rest : List Spelled) → FormedLiteral t → looks_local (ty_onto t (sign (codes ".")
    ∷ keyword (codes "class") ∷ rest)) ≡ false
class_looks (Typed (Plain text) n) rest f =
    let r = sign (codes ".") ∷ keyword (codes "class") ∷ rest in
    word_looks text (brackets_onto n r) f (brackets_passed n 0 r)
class_looks (Typed (Named no_part) n) rest f = absurd (false≢true f.1)
class_looks (Typed (Named (part_then (Bare x) ps)) n) rest f =
    let r = sign (codes ".") ∷ keyword (codes "class") ∷ rest in
    bare_parts_look ps (brackets_onto n r) f.0 ∙ brackets_passed n 0 r
class_looks (Typed (Named (part_then (Generic x a) ps)) n) rest f = absurd (false≢true f.0)

selected_looks : (types : Option Arguments) (x : List ℕ) (rest : List Spelled) → goes_local 0 (sign (codes ".")
    ∷ maybe_angled_onto types (identifier x ∷ sign (codes "(") ∷ rest)) ≡ false
selected_looks None x rest = refl
selected_looks (Some (Angled list g)) x rest = refl

literal_looks : (k : TokenKind) (text : List ℕ) (rest : List Spelled) → IsTrue (is_literal k)
    → looks_local (word_of k text ∷ rest) ≡ false
literal_looks kind.Keyword text rest h = absurd cc
literal_looks kind.Name text rest h = absurd cc
literal_looks kind.Sign text rest h = absurd cc
literal_looks _ text rest h = refl

operator_low : (o : BinaryOperator) → primary_level ≤ binary_level (text_of o) → ⊥
operator_low LogicalOr high = omega arith
operator_low _ high = omega arith

binary_low : (op : List ℕ) → IsTrue (is_binary op) → primary_level ≤ binary_level op → ⊥
binary_low = binary_cases (λ op. primary_level ≤ binary_level op → ⊥) operator_low

index_looks : (ts : List Spelled) → begins_with (codes "]") ts ≡ false → goes_local 0 (sign (codes "[") ∷ ts) ≡ false
index_looks [] h = refl
index_looks (t ∷ ts) h = rw h refl

-- what a primary is followed by decides
primary_looks : (p : Expr) (rest : List Spelled) → FormedExpr p → primary_level ≤ level p → goes_local 0
    rest ≡ false → looks_local (expr_onto p rest) ≡ false
primary_looks (Assign a op b) rest f high h = absurd (omega arith)
primary_looks (Conditional a b c) rest f high h = absurd (omega arith)
primary_looks (Binary a op b) rest f high h = absurd (binary_low op f.2 high)
primary_looks (InstanceOf a t) rest f high h = absurd (omega arith)
primary_looks (Prefix op a) rest f high h = absurd (omega arith)
primary_looks (Cast t a) rest f high h = absurd (omega arith)
primary_looks (Postfix a op) rest f high h = absurd (omega arith)
primary_looks (Literal k text) rest f high h = literal_looks k text rest f
primary_looks This rest f high h = refl
primary_looks (Name x) rest f high h = h
primary_looks (Paren a) rest f high h = refl
primary_looks (Field a x) rest f high h = primary_looks a _ f.0 f.1 h
primary_looks (Index a i) rest f high h =
    let r = expr_onto i (sign (codes "]") ∷ rest) in
    primary_looks a (sign (codes "[") ∷ r) f.0 f.2 (index_looks r (starts i (sign (codes "]") ∷ rest) f.1).no_bracket)
primary_looks (Call x all) rest f high h = refl
primary_looks (CallOn a types x all) rest f high h =
    primary_looks a _ f.0 f.3 (selected_looks types x _)
primary_looks (ClassOf []) rest f high h = absurd cc
primary_looks (ClassOf (x ∷ xs)) rest f high h = names_look xs _ refl
primary_looks (New t all) rest f high h = refl
primary_looks (NewArray t lengths n) rest f high h = refl
primary_looks (NewItems t n items) rest f high h = refl
primary_looks (NewBody t all body) rest f high h = refl
primary_looks (Lambda ps a) rest f high h = absurd (omega arith)
primary_looks (BlockLambda ps block) rest f high h = absurd (omega arith)
primary_looks (Reference a types x) rest f high h = primary_looks a _ f.0 f.2 refl
primary_looks (TypeReference t types x) rest f high h = ty_looks t _ f.0
primary_looks (SuperReference types x) rest f high h = refl
primary_looks (PlainClass t) rest f high h = class_looks t rest f
primary_looks (ThisOf []) rest f high h = absurd cc
primary_looks (ThisOf (x ∷ xs)) rest f high h = names_look xs _ refl

variable_looks : (p : Expr) (rest : List Spelled) → FormedExpr p → IsTrue (is_variable p) → goes_local 0
    rest ≡ false → looks_local (expr_onto p rest) ≡ false
variable_looks (Name x) rest f v h = h
variable_looks (Field a x) rest f v h = primary_looks (Field a x) rest f (omega arith) h
variable_looks (Index a i) rest f v h = primary_looks (Index a i) rest f (omega arith) h
variable_looks _ rest f v h = absurd cc

-- an assignment's operator and a step go on with no type
assignment_stops : (op : List ℕ) (rest : List Spelled) → IsTrue (is_assignment op) → goes_local 0 (sign op
    ∷ rest) ≡ false
assignment_stops op rest h =
    listed_cases (λ text. goes_local 0 (sign text ∷ rest) ≡ false) assignment_operators op h
    (refl, (refl, (refl, (refl, (refl, (refl, (refl, (refl, (refl, (refl, (refl, (refl, tt))))))))))))

step_stops : (op : List ℕ) (rest : List Spelled) → IsTrue (is_step op) → goes_local 0 (sign op ∷ rest) ≡ false
step_stops op rest h = step_cases (λ text. goes_local 0 (sign text ∷ rest) ≡ false) refl refl op h

prefix_looks : (op : List ℕ) (rest : List Spelled) → IsTrue (is_step op) → looks_local (sign op ∷ rest) ≡ false
prefix_looks op rest h = step_cases (λ text. looks_local (sign text ∷ rest) ≡ false) refl refl op h

-- an expression that is run, whatever stands behind it
pub run_looks : (e : Expr) (rest : List Spelled) → FormedExpr e → IsTrue (is_run e) → looks_local (expr_onto e rest)
    ≡ false
run_looks (Assign a op b) rest f r = variable_looks a _ f.0 f.3 (assignment_stops op (expr_onto b rest) f.2)
run_looks (Prefix op a) rest f r = prefix_looks op (expr_onto a rest) r
run_looks (Postfix a op) rest f r = variable_looks a _ f.0 f.2 (step_stops op rest f.1)
run_looks (Call x all) rest f r = refl
run_looks (CallOn a types x all) rest f r = primary_looks a _ f.0 f.3 (selected_looks types x _)
run_looks (New t all) rest f r = refl
run_looks (NewBody t all body) rest f r = refl
run_looks _ rest f r = absurd cc
