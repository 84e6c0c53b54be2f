-- What an expression, a type and a statement begin with.
use Rattle.std.proofs.Common.{◌≡◌, ℕ, Bool, true, false, ◌&&◌, ◌||◌, List, [], ◌∷◌, ◌++◌, None, IsTrue, codes}
use Rattle.std.proofs.Common.{inl, inr, refl, ap, ◌∙◌, sym, subst}
use Rattle.std.specs.Prelude.{bytes_eq}
use Rattle.std.specs.Cmp.Lexicographic.{bytes_decides}
use Rattle.std.proofs.lemmas.Bool.{false≢true, or_parts, or_cases}
use Rattle.java_lexer.specs.declared.token.TokenKind.{TokenKind}
use Rattle.java_lexer.specs.declared.token.TokenKind.TheVariants as kind
use Rattle.java_tree.specs.declared.words.Spelled.{Spelled}
use Rattle.java_tree.specs.Words.{keyword, identifier, sign, word_of}
use Rattle.racer_base.specs.Name.{is_listed}
use Rattle.java_tree.specs.Brackets.{is_sign_kind, is_sign, are_lambda_parameters, are_class}
use Rattle.java_tree.specs.Operators.{is_prefix}
use Rattle.java_tree.specs.Rows.{is_row}
use Rattle.java_tree.specs.Trees.{Ty, Typed, Plain, Named, no_part, part_then, Bare, Generic, Expr, Assign}
use Rattle.java_tree.specs.Trees.{Conditional, Binary, InstanceOf, Prefix, Postfix, Literal, Field, Index, CallOn}
use Rattle.java_tree.specs.Trees.{ClassOf, Lambda, BlockLambda, Reference, TypeReference, PlainClass, ThisOf, Modifier}
use Rattle.java_tree.specs.Trees.{Word, Annotated, Locals, Stmt, Block, Local, Run, If, IfElse, For, ForEach, Labelled}
use Rattle.java_tree.specs.Trees.{LocalClass, Empty}
use Rattle.java_tree.specs.Trees.{Row}
use Rattle.java_tree.specs.Spelling.{names_onto, brackets_onto, tokens_onto, ty_onto, expr_onto, modifiers_onto}
use Rattle.java_tree.specs.Spelling.{commas_onto}
use Rattle.java_tree.specs.Spelling.{variable_onto}
use Rattle.java_tree.specs.Spelling.{locals_onto, stmt_onto, pieces_onto}
use Rattle.java_tree.specs.FormedModifiers.{has_some, have_no_word, FormedVariableModifiers}
use Rattle.java_tree.specs.Formed.{is_literal, is_plain_word, FormedTy, FormedLiteral, FormedExpr, FormedLocals}
use Rattle.java_tree.specs.Formed.{FormedStmt}
use Rattle.java_tree.specs.Formed.{is_joining}
use Rattle.java_tree.specs.Brackets.{is_keyword_kind, is_keyword}
use Rattle.java_parser_grammar.specs.Taking.{after_sign, after_keyword}
use Rattle.java_parser_grammar.specs.Leads.{begins_with}
use Rattle.java_parser_grammar.specs.Lookahead.{begins_class, begins_row, name_and_colon, Other, statement_lead}
use Rattle.java_parser_grammar.proofs.OperatorTexts.{listed_cases, prefix_cases}
use Rattle.java_parser_grammar.proofs.LambdaParameters.{lambda_cases}
use Rattle.java_parser_grammar.proofs.FoundClasses.{class_begins, first_cases}
use Rattle.java_parser_grammar.proofs.Ensuring.{keyword_is}
use Rattle.java_parser_grammar.proofs.Taken.{sign_is}

-- what holds of each keyword that goes on with a statement
pub joining_cases : (P : List ℕ → Type 0) → P (codes "else") → P (codes "catch") → P (codes "finally")
    → (word : List ℕ) → is_joining word ≡ true → P word
joining_cases P a b c word h =
    by_test (bytes_eq word (codes "else")) (bytes_eq word (codes "catch")) refl refl h where
      equal : (text : List ℕ) → P text → bytes_eq word text ≡ true → P word
      equal text p e = subst P (sym ((bytes_decides word text).0 e)) p

      by_test : (d e : Bool) → bytes_eq word (codes "else") ≡ d → bytes_eq word (codes "catch") ≡ e
          → (d || (e || bytes_eq word (codes "finally"))) ≡ true → P word
      by_test true e is other k = equal (codes "else") a is
      by_test false true is other k = equal (codes "catch") b other
      by_test false false is other k = equal (codes "finally") c k

-- none of these stands in front
abbrev pub NoJoin : List Spelled → Type 0
NoJoin ts = (word : List ℕ) → is_joining word ≡ true → after_keyword word ts ≡ None

-- what no statement begins with
pub record StartsStatement (ts : List Spelled) : Type 0 where
  pub no_join : NoJoin ts
  pub no_case : after_keyword (codes "case") ts ≡ None
  pub no_default : after_keyword (codes "default") ts ≡ None
  pub no_brace : after_sign (codes "}") ts ≡ None

-- what no expression and no type begins with
pub record Starts (ts : List Spelled) : Type 0 where
  pub statement : StartsStatement ts
  pub other : name_and_colon ts ≡ None → statement_lead ts ≡ Other
  pub no_final : after_keyword (codes "final") ts ≡ None
  pub no_semicolon : begins_with (codes ";") ts ≡ false
  pub no_close : begins_with (codes ")") ts ≡ false
  pub no_bracket : begins_with (codes "]") ts ≡ false

-- the keywords that stand only behind a statement
abbrev behind_words : List (List ℕ)
behind_words = codes "else" ∷ codes "catch" ∷ codes "finally" ∷ codes "case" ∷ codes "default" ∷ []

-- the tokens that what stands behind a statement begins with
abbrev is_behind : Spelled → Bool
is_behind t =
    is_sign_kind t.kind && is_listed (codes "}" ∷ []) t.text || is_keyword_kind t.kind && is_listed behind_words t.text

-- these, and those that a statement's form or its end begins with
abbrev is_loud : Spelled → Bool
is_loud t =
    is_behind t || (begins_row t || (is_sign_kind t.kind && is_listed (codes ";" ∷ codes "{" ∷ codes ")" ∷ codes "]"
    ∷ []) t.text || is_keyword_kind t.kind && is_listed (codes "if" ∷ codes "for" ∷ codes "final"
    ∷ codes "abstract" ∷ codes "class" ∷ []) t.text))

not_sign : (test : Spelled → Bool) (text : List ℕ) (t : Spelled) → IsTrue (test (sign text)) → test t ≡ false
    → is_sign text t ≡ false
not_sign test text t loud quiet = by_test (is_sign text t) refl where
  by_test : (b : Bool) → is_sign text t ≡ b → b ≡ false
  by_test true e = let same : test t ≡ true = ap test (sign_is text t e) ∙ loud in absurd cc
  by_test false e = refl

not_keyword : (test : Spelled → Bool) (text : List ℕ) (t : Spelled) → IsTrue (test (keyword text)) → test t ≡ false
    → is_keyword text t ≡ false
not_keyword test text t loud quiet = by_test (is_keyword text t) refl where
  by_test : (b : Bool) → is_keyword text t ≡ b → b ≡ false
  by_test true e = let same : test t ≡ true = ap test (keyword_is text t e) ∙ loud in absurd cc
  by_test false e = refl

starts_with : (t : Spelled) (ts : List Spelled) → is_behind t ≡ false → StartsStatement (t ∷ ts)
starts_with t ts quiet = record {
  no_join =
      joining_cases (λ word. after_keyword word (t ∷ ts) ≡ None)
      (rw (not_keyword is_behind (codes "else") t refl quiet) refl)
      (rw (not_keyword is_behind (codes "catch") t refl quiet) refl)
      (rw (not_keyword is_behind (codes "finally") t refl quiet) refl);
  no_case = rw (not_keyword is_behind (codes "case") t refl quiet) refl;
  no_default = rw (not_keyword is_behind (codes "default") t refl quiet) refl;
  no_brace = rw (not_sign is_behind (codes "}") t refl quiet) refl;
}

starts_quiet : (t : Spelled) (ts : List Spelled) → is_loud t ≡ false → Starts (t ∷ ts)
starts_quiet t ts quiet = record {
  statement = starts_with t ts (or_parts (is_behind t) _ quiet).0;
  other = λ unlabelled.
      rw (
        (or_parts (begins_row t) _ (or_parts (is_behind t) _ quiet).1).0,
        not_sign is_loud (codes ";") t refl quiet,
        not_sign is_loud (codes "{") t refl quiet,
        not_keyword is_loud (codes "if") t refl quiet,
        not_keyword is_loud (codes "for") t refl quiet,
        not_keyword is_loud (codes "class") t refl quiet,
        not_keyword is_loud (codes "final") t refl quiet,
        not_keyword is_loud (codes "abstract") t refl quiet,
        unlabelled,
      ) refl;
  no_final = rw (not_keyword is_loud (codes "final") t refl quiet) refl;
  no_semicolon = not_sign is_loud (codes ";") t refl quiet;
  no_close = not_sign is_loud (codes ")") t refl quiet;
  no_bracket = not_sign is_loud (codes "]") t refl quiet;
}

-- no row begins with what stands behind a statement
starts_row : (word : List ℕ) (ts : List Spelled) → is_row word ≡ true → StartsStatement (keyword word ∷ ts)
starts_row word ts is = starts_with (keyword word) ts (by_test (is_listed behind_words word) refl) where
  by_test : (b : Bool) → is_listed behind_words word ≡ b → b ≡ false
  by_test true e =
      let without : is_row word ≡ false =
      listed_cases (λ other. is_row other ≡ false) behind_words word e (refl, (refl, (refl, (refl, (refl, tt))))) in
      absurd cc
  by_test false e = refl

-- ---- types

-- what holds of each primitive type's word
pub plain_cases : (P : List ℕ → Type 0) → P (codes "boolean") → P (codes "byte") → P (codes "short") → P (codes "int")
    → P (codes "long") → P (codes "char") → P (codes "float") → P (codes "double")
    → (text : List ℕ) → IsTrue (is_plain_word text) → P text
plain_cases P a b c d e f g i text h =
    listed_cases P (codes "boolean" ∷ codes "byte" ∷ codes "short" ∷ codes "int" ∷ codes "long" ∷ codes "char"
    ∷ codes "float" ∷ codes "double" ∷ []) text h
    (a, (b, (c, (d, (e, (f, (g, (i, tt))))))))

pub starts_ty : (t : Ty) (rest : List Spelled) → FormedTy t → Starts (ty_onto t rest)
starts_ty (Typed (Plain text) arrays) rest f =
    starts_quiet (keyword text) (brackets_onto arrays rest) (plain_cases (λ word. is_loud (keyword word) ≡ false) refl
    refl refl refl refl refl refl refl text f)
starts_ty (Typed (Named no_part) arrays) rest f = absurd cc
starts_ty (Typed (Named (part_then (Bare x) ps)) arrays) rest f = starts_quiet _ _ refl
starts_ty (Typed (Named (part_then (Generic x a) ps)) arrays) rest f = starts_quiet _ _ refl

starts_literal_class : (t : Ty) (rest : List Spelled) → FormedLiteral t → Starts (ty_onto t rest)
starts_literal_class (Typed (Plain text) n) rest f =
    elim (or_cases (is_plain_word text) (bytes_eq text (codes "void")) f) [
      | inl e ↦ starts_ty (Typed (Plain text) n) rest e
      | inr e ↦ subst (λ text. Starts (keyword text ∷ brackets_onto n rest))
          (sym ((bytes_decides text (codes "void")).0 e)) (starts_quiet (keyword (codes "void")) _ refl)
    ]
starts_literal_class (Typed (Named no_part) n) rest f = absurd (false≢true f.1)
starts_literal_class (Typed (Named (part_then (Bare x) ps)) n) rest f = starts_quiet _ _ refl
starts_literal_class (Typed (Named (part_then (Generic x a) ps)) n) rest f = starts_quiet _ _ refl

-- ---- expressions

starts_prefix : (op : List ℕ) (rest : List Spelled) → IsTrue (is_prefix op) → Starts (sign op ∷ rest)
starts_prefix op rest h = starts_quiet (sign op) rest (prefix_cases (λ text. is_loud (sign text) ≡ false) refl refl
    refl refl refl refl op h)

starts_literal : (k : TokenKind) (text : List ℕ) (rest : List Spelled) → IsTrue (is_literal k)
    → Starts (word_of k text ∷ rest)
starts_literal kind.Keyword text rest h = absurd cc
starts_literal kind.Name text rest h = absurd cc
starts_literal kind.Sign text rest h = absurd cc
starts_literal _ text rest h = starts_quiet _ rest refl

starts_names : (xs : List (List ℕ)) (rest : List Spelled) → IsTrue (has_some xs) → Starts (names_onto xs rest)
starts_names [] rest f = absurd cc
starts_names (x ∷ xs) rest f = starts_quiet _ _ refl

starts_parameters : (ps rest : List Spelled) → IsTrue (are_lambda_parameters ps) → Starts (tokens_onto ps rest)
starts_parameters ps rest f =
    lambda_cases (λ ps. Starts (tokens_onto ps rest)) (λ x. starts_quiet (identifier x) rest refl)
    (λ ts c. starts_quiet (sign (codes "(")) (ts ++ rest) refl) ps f

pub starts : (e : Expr) (rest : List Spelled) → FormedExpr e → Starts (expr_onto e rest)
starts (Assign a op b) rest f = starts a _ f.0
starts (Conditional a b c) rest f = starts a _ f.0
starts (Binary a op b) rest f = starts a _ f.0
starts (InstanceOf a t) rest f = starts a _ f.0
starts (Prefix op a) rest f = starts_prefix op _ f.1
starts (Postfix a op) rest f = starts a _ f.0
starts (Literal k text) rest f = starts_literal k text rest f
starts (Field a x) rest f = starts a _ f.0
starts (Index a i) rest f = starts a _ f.0
starts (CallOn a types x all) rest f = starts a _ f.0
starts (ClassOf xs) rest f = starts_names xs _ f
starts (Lambda ps a) rest f = starts_parameters ps _ f.0
starts (BlockLambda ps block) rest f = starts_parameters ps _ f.0
starts (Reference a types x) rest f = starts a _ f.0
starts (TypeReference t types x) rest f = starts_ty t _ f.0
starts (PlainClass t) rest f = starts_literal_class t _ f
starts (ThisOf xs) rest f = starts_names xs _ f
starts _ rest f = starts_quiet _ _ refl

-- what a declaration begins with
pub record StartsDeclared (ts : List Spelled) : Type 0 where
  pub statement : StartsStatement ts
  pub other : name_and_colon ts ≡ None → statement_lead ts ≡ Other

no_class_begins : (ms : List Modifier) (t : Ty) (rest : List Spelled) → IsTrue (have_no_word ms) → FormedTy t
    → begins_class (modifiers_onto ms (ty_onto t rest)) ≡ false
no_class_begins [] (Typed (Plain text) n) rest w f =
    plain_cases (λ word. begins_class (keyword word ∷ brackets_onto n rest) ≡ false) refl refl refl refl refl refl refl
    refl text f
no_class_begins [] (Typed (Named no_part) n) rest w f = absurd (false≢true f.1)
no_class_begins [] (Typed (Named (part_then (Bare x) ps)) n) rest w f = refl
no_class_begins [] (Typed (Named (part_then (Generic x a) ps)) n) rest w f = refl
no_class_begins (Word text ∷ ms) t rest w f = absurd (false≢true w)
no_class_begins (Annotated n ∷ ms) t rest w f = refl

starts_final : (ts : List Spelled) → begins_class ts ≡ false → StartsDeclared (keyword (codes "final") ∷ ts)
starts_final ts none = record { statement = starts_with _ _ refl; other = λ unlabelled. rw none refl }

pub starts_declared : (ms : List Modifier) (t : Ty) (rest : List Spelled) → FormedVariableModifiers ms → FormedTy t
    → StartsDeclared (modifiers_onto ms (ty_onto t rest))
starts_declared [] t rest b f =
    let s = starts_ty t rest f in record { statement = s.statement; other = s.other }
starts_declared (Word text ∷ ms) t rest b f =
    subst (λ text. StartsDeclared (keyword text ∷ modifiers_onto ms (ty_onto t rest)))
    (sym ((bytes_decides text (codes "final")).0 b.0.0))
    (starts_final (modifiers_onto ms (ty_onto t rest)) (no_class_begins ms t rest b.1 f))
starts_declared (Annotated n ∷ ms) t rest b f =
    record { statement = starts_with _ _ refl; other = λ unlabelled. refl }

-- ---- statements

starts_locals : (l : Locals) (rest : List Spelled) → FormedLocals l → StartsStatement (locals_onto l rest)
starts_locals l rest f =
    (starts_declared l.modifiers l.kind (commas_onto variable_onto l.variables rest) f.0 f.1).statement

starts_class : (x : List ℕ) (ts rest : List Spelled) → are_class x ts ≡ true → StartsStatement (ts ++ rest)
starts_class x [] rest h = absurd (false≢true h)
starts_class x (t ∷ ts) rest h =
    starts_with t (ts ++ rest) (first_cases (λ t. is_behind t ≡ false) refl refl refl t (ts ++ rest)
    (class_begins x (t ∷ ts) h rest))

pub starts_statement : (s : Stmt) (rest : List Spelled) → FormedStmt s → StartsStatement (stmt_onto s rest)
starts_statement (Local l) rest f = starts_locals l (sign (codes ";") ∷ rest) f
starts_statement (Run e) rest f = (starts e (sign (codes ";") ∷ rest) f.0).statement
starts_statement (Row word ps) rest f = starts_row word (pieces_onto ps rest) f.0
starts_statement (Block ss) rest f = starts_with _ _ refl
starts_statement (If e s) rest f = starts_with _ _ refl
starts_statement (IfElse e s t) rest f = starts_with _ _ refl
starts_statement (For start condition updates s) rest f = starts_with _ _ refl
starts_statement (ForEach ms t x e s) rest f = starts_with _ _ refl
starts_statement (Labelled x s) rest f = starts_with _ _ refl
starts_statement (LocalClass x ts) rest f = starts_class x ts rest f
starts_statement Empty rest f = starts_with _ _ refl
