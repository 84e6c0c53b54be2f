-- A formed expression that is no lambda begins none, where no `->` follows.
use Rattle.std.proofs.Common.{◌≡◌, ℕ, zero, suc, Bool, true, false, not, List, [], ◌∷◌, IsTrue, refl, ap, sym, subst}
use Rattle.std.proofs.Common.{◌∙◌, codes, arith}
use Rattle.std.proofs.lemmas.Bool.{false≢true}
use Rattle.java_lexer.specs.declared.token.TokenKind.{TokenKind}
use Rattle.java_lexer.specs.declared.token.TokenKind.TheVariants as kind
use Rattle.java_tree.specs.declared.words.Spelled.{Spelled}
use Rattle.java_tree.specs.Words.{sign, word_of}
use Rattle.java_tree.specs.Operators.{BinaryOperator, LogicalOr, text_of, is_binary, is_assignment}
use Rattle.java_tree.specs.Operators.{assignment_operators}
use Rattle.java_tree.specs.Trees.{Typed, Plain, Named, Parts, no_part, part_then, Bare, Generic, Angled, Expr, Assign}
use Rattle.java_tree.specs.Trees.{Conditional, Binary, InstanceOf, Prefix, Cast, Postfix, Literal, Name, Paren}
use Rattle.java_tree.specs.Trees.{Field, Index, CallOn, ClassOf, Lambda, BlockLambda, Reference, TypeReference}
use Rattle.java_tree.specs.Trees.{PlainClass, ThisOf}
use Rattle.java_tree.specs.Spelling.{brackets_onto, operator_onto, more_parts_onto, expr_onto}
use Rattle.java_tree.specs.Formed.{is_literal, is_lambda, is_variable, FormedExpr}
use Rattle.java_tree.proofs.Operators.{is_binary-level}
use Rattle.java_parser_grammar.specs.Leads.{lead, begins_with, begins_lambda, behind}
use Rattle.java_parser_grammar.proofs.OperatorTexts.{listed_cases, prefix_cases, step_cases, binary_cases}
use Rattle.java_parser_grammar.proofs.GrammarFronts.{Front, front}
use Rattle.java_parser_grammar.proofs.Levels.{not_lambda, level_variable}
use Rattle.java_parser_grammar.proofs.Behind.{between_balanced, balanced}
use Rattle.java_parser_grammar.proofs.Taken.{sign_is}

-- an expression does not begin with `->`
no_arrow : (signed : Bool) (ts : List Spelled) → Front signed ts → begins_with (codes "->") ts ≡ false
unfolding lead
no_arrow signed [] f = refl
no_arrow signed (t ∷ ts) f = by_test (begins_with (codes "->") (t ∷ ts)) refl where
  by_sign : (u : Spelled) → u ≡ sign (codes "->") → Front signed (u ∷ ts) → true ≡ false
  by_sign u e g =
      let h : Front signed (sign (codes "->") ∷ ts) = subst (λ v. Front signed (v ∷ ts)) e g in
      ap not h.signs ∙ sym h.operand

  by_test : (b : Bool) → begins_with (codes "->") (t ∷ ts) ≡ b → b ≡ false
  by_test false e = refl
  by_test true e = by_sign t (sign_is (codes "->") t e) f

assignment_no_arrow : (op : List ℕ) (ts : List Spelled) → IsTrue (is_assignment op) → begins_with (codes "->")
    (sign op ∷ ts) ≡ false
assignment_no_arrow op ts h =
    listed_cases (λ op. begins_with (codes "->") (sign op ∷ ts) ≡ false) assignment_operators op h
    (refl, (refl, (refl, (refl, (refl, (refl, (refl, (refl, (refl, (refl, (refl, (refl, tt))))))))))))

operator_no_arrow : (o : BinaryOperator) (ts : List Spelled) → begins_with (codes "->") (operator_onto (text_of o) ts)
    ≡ false
operator_no_arrow LogicalOr ts = refl
operator_no_arrow _ ts = refl

binary_no_arrow : (op : List ℕ) (ts : List Spelled) → IsTrue (is_binary op) → begins_with (codes "->")
    (operator_onto op ts) ≡ false
binary_no_arrow op ts h =
    binary_cases (λ op. begins_with (codes "->") (operator_onto op ts) ≡ false) (λ o. operator_no_arrow o ts) op h

parts_no_arrow : (ps : Parts) (m : ℕ) (ts : List Spelled) → begins_with (codes "->") ts ≡ false
    → begins_with (codes "->") (more_parts_onto ps (brackets_onto m ts)) ≡ false
parts_no_arrow no_part zero ts h = h
parts_no_arrow no_part (suc m) ts h = refl
parts_no_arrow (part_then p ps) m ts h = refl

literal_begins : (k : TokenKind) (text : List ℕ) (rest : List Spelled) → is_literal k ≡ true
    → begins_lambda (word_of k text ∷ rest) ≡ false
unfolding begins_lambda
literal_begins kind.Name text rest h = absurd (false≢true h)
literal_begins kind.Keyword text rest h = absurd (false≢true h)
literal_begins kind.Sign text rest h = absurd (false≢true h)
literal_begins _ text rest h = refl

variable_no_lambda : (a : Expr) → IsTrue (is_variable a) → is_lambda a ≡ false
variable_no_lambda a h = not_lambda a (omega (arith, level_variable a h))

pub begins_none : (e : Expr) → FormedExpr e → is_lambda e ≡ false → (rest : List Spelled)
    → begins_with (codes "->") rest ≡ false → begins_lambda (expr_onto e rest) ≡ false
unfolding begins_lambda behind
begins_none (Assign a op b) f l rest h =
    begins_none a f.0 (variable_no_lambda a f.3) _ (assignment_no_arrow op (expr_onto b rest) f.2)
begins_none (Conditional a b c) f l rest h = begins_none a f.0 (not_lambda a (omega (arith, f.3))) _ refl
begins_none (Binary a op b) f l rest h =
    begins_none a f.0 (not_lambda a (omega (arith, f.3, is_binary-level op f.2))) _
    (binary_no_arrow op (expr_onto b rest) f.2)
begins_none (InstanceOf a t) f l rest h = begins_none a f.0 (not_lambda a (omega (arith, f.2))) _ refl
begins_none (Prefix op a) f l rest h =
    prefix_cases (λ op. begins_lambda (sign op ∷ expr_onto a rest) ≡ false) refl refl refl refl refl refl op f.1
begins_none (Cast ts a) f l rest h =
    let r = sign (codes ")") ∷ expr_onto a rest in
    rw (between_balanced ts 0 r) (no_arrow _ (expr_onto a rest) (front a f.2 rest))
begins_none (Postfix a op) f l rest h =
    begins_none a f.0 (variable_no_lambda a f.2) _
    (step_cases (λ op. begins_with (codes "->") (sign op ∷ rest) ≡ false) refl refl op f.1)
begins_none (Literal k text) f l rest h = literal_begins k text rest f
begins_none (Name x) f l rest h = rw h refl
begins_none (Paren a) f l rest h = rw (balanced a f 0 (sign (codes ")") ∷ rest)) h
begins_none (Field a x) f l rest h = begins_none a f.0 (not_lambda a (omega (arith, f.1))) _ refl
begins_none (Index a i) f l rest h = begins_none a f.0 (not_lambda a (omega (arith, f.2))) _ refl
begins_none (CallOn a types x all) f l rest h = begins_none a f.0 (not_lambda a (omega (arith, f.3))) _ refl
begins_none (Reference a types x) f l rest h = begins_none a f.0 (not_lambda a (omega (arith, f.2))) _ refl
begins_none (ClassOf []) f l rest h = absurd (false≢true f)
begins_none (ClassOf (x ∷ [])) f l rest h = refl
begins_none (ClassOf (x ∷ y ∷ xs)) f l rest h = refl
begins_none (ThisOf []) f l rest h = absurd (false≢true f)
begins_none (ThisOf (x ∷ [])) f l rest h = refl
begins_none (ThisOf (x ∷ y ∷ xs)) f l rest h = refl
begins_none (Lambda ps a) f l rest h = absurd cc
begins_none (BlockLambda ps block) f l rest h = absurd cc
begins_none (TypeReference (Typed (Plain text) n) types x) f l rest h = refl
begins_none (TypeReference (Typed (Named no_part) n) types x) f l rest h = absurd (false≢true f.0.1)
begins_none (TypeReference (Typed (Named (part_then (Bare y) ps)) n) types x) f l rest h =
    rw (parts_no_arrow ps n _ refl) refl
begins_none (TypeReference (Typed (Named (part_then (Generic y (Angled list g)) ps)) n) types x) f l rest h = refl
begins_none (PlainClass (Typed (Plain text) n)) f l rest h = refl
begins_none (PlainClass (Typed (Named no_part) n)) f l rest h = absurd (false≢true f.1)
begins_none (PlainClass (Typed (Named (part_then (Bare y) ps)) n)) f l rest h = rw (parts_no_arrow ps n _ refl) refl
begins_none (PlainClass (Typed (Named (part_then (Generic y a) ps)) n)) f l rest h = absurd (false≢true f.0)
begins_none _ f l rest h = refl
