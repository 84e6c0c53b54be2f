-- No type arguments that are open before a formed expression end in it, where they do not end in what follows: behind a
-- `>` in it stands an operand.
use Rattle.std.proofs.Common.{◌≡◌, ℕ, zero, suc, Bool, true, false, cond, ◌&&◌, ◌||◌, List, [], ◌∷◌}
use Rattle.std.proofs.Common.{Some, None, IsTrue, inl, inr, refl, sym, subst, ◌∙◌, codes}
use Rattle.std.proofs.lemmas.Bool.{false≢true, or_cases}
use Rattle.std.specs.Prelude.{bytes_eq, nat_lt}
use Rattle.std.specs.Cmp.Lexicographic.{bytes_decides}
use Rattle.java_lexer.specs.declared.token.TokenKind.{TokenKind}
use Rattle.java_lexer.specs.declared.token.TokenKind.TheVariants as kind
use Rattle.java_tree.specs.declared.words.Spelled.{Spelled}
use Rattle.java_tree.specs.Words.{sign, sign_glued, keyword, word_of}
use Rattle.java_tree.specs.Brackets.{is_sign, are_lambda_parameters}
use Rattle.java_tree.specs.Operators.{BinaryOperator, Below, Above, ShiftRight, ShiftRightUnsigned, LogicalOr, text_of}
use Rattle.java_tree.specs.Operators.{is_binary, is_assignment, assignment_operators, is_step, is_prefix}
use Rattle.java_tree.specs.Trees.{Typed, Plain, Named, no_part, part_then, Bare, Generic, Expr, Assign}
use Rattle.java_tree.specs.Trees.{Conditional, Binary, InstanceOf, Prefix, Cast, Postfix, Literal, This, Name, Paren}
use Rattle.java_tree.specs.Trees.{Field, Index, Call, CallOn, ClassOf, New, NewArray, NewItems, NewBody, Lambda}
use Rattle.java_tree.specs.Trees.{BlockLambda, Reference, TypeReference, SuperReference, PlainClass, ThisOf}
use Rattle.java_tree.specs.Spelling.{behind_points, brackets_onto, tokens_onto, operator_onto, expr_onto}
use Rattle.java_tree.specs.Spelling.{referred_onto}
use Rattle.java_tree.specs.Formed.{is_plain_word, is_literal, FormedExpr}
use Rattle.java_parser_grammar.specs.Taking.{after_sign}
use Rattle.racer_base.specs.Name.{is_listed}
use Rattle.java_parser_grammar.specs.TypeReading.{opens_word, no_operand_at, closes_angle, closes_bracket, EndsNoTypes}
use Rattle.java_parser_grammar.proofs.OperatorTexts.{listed_cases, prefix_cases, step_cases, binary_cases}
use Rattle.java_parser_grammar.proofs.GrammarFronts.{front}
use Rattle.java_parser_grammar.proofs.LambdaParameters.{lambda_cases}
use Rattle.java_parser_grammar.proofs.Angles.{plain_passes, brackets_pass, bare_pass, ty_ends, angled_ends}

-- ---- an operand stands in front

or_right : (b c : Bool) → c ≡ true → (b || c) ≡ true
or_right true c e = refl
or_right false c e = e

plain_operand : (text : List ℕ) (rest : List Spelled) → is_plain_word text ≡ true → no_operand_at (keyword text
    ∷ rest) ≡ false
plain_operand text rest w =
    let e : opens_word text ≡ true =
    or_right (is_listed (codes "this" ∷ codes "new" ∷ codes "super" ∷ codes "void" ∷ []) text)
    (is_plain_word text) w in
    rw e refl

word_operand : (text : List ℕ) (rest : List Spelled) → (is_plain_word text || bytes_eq text (codes "void")) ≡ true
    → no_operand_at (keyword text ∷ rest) ≡ false
word_operand text rest w = elim (or_cases (is_plain_word text) (bytes_eq text (codes "void")) w) [
  | inl e ↦ plain_operand text rest e
  | inr e ↦ subst (λ text. no_operand_at (keyword text ∷ rest) ≡ false) (sym ((bytes_decides text (codes "void")).0 e))
      refl
]

parameters_operand : (ps rest : List Spelled) → IsTrue (are_lambda_parameters ps) → no_operand_at (tokens_onto ps rest)
    ≡ false
parameters_operand ps rest f =
    lambda_cases (λ ps. no_operand_at (tokens_onto ps rest) ≡ false) (λ x. refl) (λ ts c. refl) ps f

literal_operand : (k : TokenKind) (text : List ℕ) (rest : List Spelled) → is_literal k ≡ true → no_operand_at (word_of k
    text ∷ rest) ≡ false
literal_operand kind.Name text rest h = absurd (false≢true h)
literal_operand kind.Keyword text rest h = absurd (false≢true h)
literal_operand kind.Sign text rest h = absurd (false≢true h)
literal_operand _ text rest h = refl

pub operand_front : (e : Expr) → FormedExpr e → (rest : List Spelled) → no_operand_at (expr_onto e rest) ≡ false
operand_front (Assign a op b) f rest = operand_front a f.0 _
operand_front (Conditional a b c) f rest = operand_front a f.0 _
operand_front (Binary a op b) f rest = operand_front a f.0 _
operand_front (InstanceOf a t) f rest = operand_front a f.0 _
operand_front (Prefix op a) f rest =
    prefix_cases (λ op. no_operand_at (sign op ∷ expr_onto a rest) ≡ false) refl refl refl refl refl refl op f.1
operand_front (Postfix a op) f rest = operand_front a f.0 _
operand_front (Literal k text) f rest = literal_operand k text rest f
operand_front (Field a x) f rest = operand_front a f.0 _
operand_front (Index a i) f rest = operand_front a f.0 _
operand_front (CallOn a types x all) f rest = operand_front a f.0 _
operand_front (ClassOf []) f rest = absurd (false≢true f)
operand_front (Lambda ps a) f rest = parameters_operand ps _ f.0
operand_front (BlockLambda ps block) f rest = parameters_operand ps _ f.0
operand_front (Reference a types x) f rest = operand_front a f.0 _
operand_front (TypeReference (Typed (Plain text) n) types x) f rest =
    plain_operand text (brackets_onto n (sign (codes "::") ∷ referred_onto types x rest)) f.0
operand_front (TypeReference (Typed (Named no_part) n) types x) f rest = absurd (false≢true f.0.1)
operand_front (TypeReference (Typed (Named (part_then (Bare y) ps)) n) types x) f rest = refl
operand_front (TypeReference (Typed (Named (part_then (Generic y a) ps)) n) types x) f rest = refl
operand_front (PlainClass (Typed (Plain text) n)) f rest =
    word_operand text (brackets_onto n (sign (codes ".") ∷ keyword (codes "class") ∷ rest)) f
operand_front (PlainClass (Typed (Named no_part) n)) f rest = absurd (false≢true f.1)
operand_front (PlainClass (Typed (Named (part_then (Bare y) ps)) n)) f rest = refl
operand_front (PlainClass (Typed (Named (part_then (Generic y a) ps)) n)) f rest = absurd (false≢true f.0)
operand_front (ThisOf []) f rest = absurd (false≢true f)
operand_front _ f rest = refl

-- ---- operators

no_room : (b : Bool) → b && false ≡ false
no_room true = refl
no_room false = refl

module _ (ts : List Spelled) (operand : no_operand_at ts ≡ false) (shut : EndsNoTypes ts) where
  -- behind a `>` that closes the last one an operand stands
  above : EndsNoTypes (sign (codes ">") ∷ ts)
  above l zero = operand
  above l (suc d) = shut l d

  above_glued : EndsNoTypes (sign_glued true (codes ">") ∷ ts)
  above_glued l zero = operand
  above_glued l (suc d) = shut l d

  operator_ends : (o : BinaryOperator) → EndsNoTypes (operator_onto (text_of o) ts)
  operator_ends Below l d = rw (shut l (suc d)) (no_room (nat_lt d l))
  operator_ends Above l d = above l d
  operator_ends ShiftRight l zero = refl
  operator_ends ShiftRight l (suc d) = above_glued l d
  operator_ends ShiftRightUnsigned l zero = refl
  operator_ends ShiftRightUnsigned l (suc zero) = refl
  operator_ends ShiftRightUnsigned l (suc (suc d)) = above_glued l d
  operator_ends LogicalOr l d = refl
  operator_ends _ l d = refl

  pub binary_ends : (op : List ℕ) → IsTrue (is_binary op) → EndsNoTypes (operator_onto op ts)
  binary_ends op h = binary_cases (λ op. EndsNoTypes (operator_onto op ts)) operator_ends op h

pub assignment_ends : (op : List ℕ) (ts : List Spelled) → IsTrue (is_assignment op) → EndsNoTypes (sign op ∷ ts)
assignment_ends op ts h l d =
    listed_cases (λ op. closes_angle l d (sign op ∷ ts) ≡ false) assignment_operators op h
    (refl, (refl, (refl, (refl, (refl, (refl, (refl, (refl, (refl, (refl, (refl, (refl, tt))))))))))))

prefix_ends : (op : List ℕ) (ts : List Spelled) → IsTrue (is_prefix op) → EndsNoTypes (sign op ∷ ts)
prefix_ends op ts h l d =
    prefix_cases (λ op. closes_angle l d (sign op ∷ ts) ≡ false) refl refl refl refl refl refl op h

pub step_ends : (op : List ℕ) (ts : List Spelled) → IsTrue (is_step op) → EndsNoTypes (sign op ∷ ts)
step_ends op ts h l d = step_cases (λ op. closes_angle l d (sign op ∷ ts) ≡ false) refl refl op h

-- ---- parts

-- a `[` with no `]` behind it
pub bracket_shut : (l d : ℕ) (ts : List Spelled) → after_sign (codes "]") ts ≡ None → closes_bracket l d ts ≡ false
bracket_shut l d [] e = refl
bracket_shut l d (t ∷ ts) e = by_test (is_sign (codes "]") t) refl e where
  by_test : (b : Bool) → is_sign (codes "]") t ≡ b → cond b (Some ts) None ≡ None → (is_sign (codes "]") t
      && closes_angle l d ts) ≡ false
  by_test true p e = absurd cc
  by_test false p e = rw p refl

-- names and a keyword behind a point that goes on with no type
names_end : (xs : List (List ℕ)) (rest : List Spelled) → EndsNoTypes (sign (codes ".") ∷ rest)
    → EndsNoTypes (behind_points xs (sign (codes ".") ∷ rest))
names_end [] rest q = q
names_end (x ∷ xs) rest q = names_end xs rest q

-- the class of a primitive type or `void`
plain_class_ends : (text : List ℕ) → (is_plain_word text || bytes_eq text (codes "void")) ≡ true → (l d : ℕ)
    (rest : List Spelled) → closes_angle l d rest ≡ false → closes_angle l d (keyword text ∷ rest) ≡ false
plain_class_ends text w l d rest q = elim (or_cases (is_plain_word text) (bytes_eq text (codes "void")) w) [
  | inl e ↦ plain_passes text e l d rest ∙ q
  | inr e ↦ subst (λ text. closes_angle l d (keyword text ∷ rest) ≡ false)
      (sym ((bytes_decides text (codes "void")).0 e))
      refl
]

literal_ends : (k : TokenKind) (text : List ℕ) (rest : List Spelled) → is_literal k ≡ true
    → EndsNoTypes (word_of k text ∷ rest)
literal_ends kind.Name text rest h l d = absurd (false≢true h)
literal_ends kind.Keyword text rest h l d = absurd (false≢true h)
literal_ends kind.Sign text rest h l d = absurd (false≢true h)
literal_ends _ text rest h l d = refl

parameters_end : (ps rest : List Spelled) → IsTrue (are_lambda_parameters ps) → EndsNoTypes (tokens_onto ps
    (sign (codes "->") ∷ rest))
parameters_end ps rest f l d =
    lambda_cases (λ ps. closes_angle l d (tokens_onto ps (sign (codes "->") ∷ rest)) ≡ false) (λ x. refl) (λ ts c. refl)
    ps f

-- ---- expressions

pub ends_no_types : (e : Expr) → FormedExpr e → (rest : List Spelled) → EndsNoTypes rest
    → EndsNoTypes (expr_onto e rest)
ends_no_types (Assign a op b) f rest q = ends_no_types a f.0 _ (assignment_ends op (expr_onto b rest) f.2)
ends_no_types (Conditional a b c) f rest q =
    ends_no_types a f.0 _ (ends_no_types b f.1 (sign (codes ":") ∷ expr_onto c rest) (λ l d. refl))
ends_no_types (Binary a op b) f rest q =
    ends_no_types a f.0 _ (binary_ends (expr_onto b rest) (operand_front b f.1 rest) (ends_no_types b f.1 rest q) op
    f.2)
ends_no_types (InstanceOf a t) f rest q = ends_no_types a f.0 _ (λ l d. refl)
ends_no_types (Prefix op a) f rest q = prefix_ends op (expr_onto a rest) f.1
ends_no_types (Cast ts a) f rest q = λ l d. refl
ends_no_types (Postfix a op) f rest q = ends_no_types a f.0 _ (step_ends op rest f.1)
ends_no_types (Literal k text) f rest q = literal_ends k text rest f
ends_no_types This f rest q = λ l d. refl
ends_no_types (Name x) f rest q = q
ends_no_types (Paren a) f rest q = λ l d. refl
ends_no_types (Field a x) f rest q = ends_no_types a f.0 _ q
ends_no_types (Index a i) f rest q =
    let r = expr_onto i (sign (codes "]") ∷ rest) in
    ends_no_types a f.0 _ (λ l d. bracket_shut l d r (front i f.1 (sign (codes "]") ∷ rest)).not_bracket)
ends_no_types (Call x all) f rest q = λ l d. refl
ends_no_types (CallOn a None x all) f rest q = ends_no_types a f.0 _ (λ l d. refl)
ends_no_types (CallOn a (Some types) x all) f rest q = ends_no_types a f.0 _ (angled_ends types f.1.0 _ (λ l d. refl))
ends_no_types (ClassOf []) f rest q = absurd (false≢true f)
ends_no_types (ClassOf (x ∷ xs)) f rest q = names_end xs _ (λ l d. refl)
ends_no_types (New t all) f rest q = λ l d. refl
ends_no_types (NewArray t lengths n) f rest q = λ l d. refl
ends_no_types (NewItems t n items) f rest q = λ l d. refl
ends_no_types (NewBody t all body) f rest q = λ l d. refl
ends_no_types (Lambda ps a) f rest q = parameters_end ps _ f.0
ends_no_types (BlockLambda ps block) f rest q = parameters_end ps _ f.0
ends_no_types (Reference a types x) f rest q = ends_no_types a f.0 _ (λ l d. refl)
ends_no_types (TypeReference t types x) f rest q = ty_ends t f.0 _ (λ l d. refl)
ends_no_types (SuperReference types x) f rest q = λ l d. refl
ends_no_types (PlainClass (Typed (Plain text) n)) f rest q =
    let r = sign (codes ".") ∷ keyword (codes "class") ∷ rest in
    λ l d. plain_class_ends text f l d (brackets_onto n r) (brackets_pass n l d r)
ends_no_types (PlainClass (Typed (Named no_part) n)) f rest q = absurd (false≢true f.1)
ends_no_types (PlainClass (Typed (Named (part_then (Bare y) ps)) n)) f rest q =
    λ l d. bare_pass ps f.0 l d _ ∙ brackets_pass n l d _
ends_no_types (PlainClass (Typed (Named (part_then (Generic y a) ps)) n)) f rest q = absurd (false≢true f.0)
ends_no_types (ThisOf []) f rest q = absurd (false≢true f)
ends_no_types (ThisOf (x ∷ xs)) f rest q = names_end xs _ (λ l d. refl)
