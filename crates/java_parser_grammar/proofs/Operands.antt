-- What is read where no expression stands at the left, and lists of expressions and of items.
use Rattle.std.proofs.Common.{◌≡◌, ℕ, zero, suc, Bool, true, false, List, [], ◌∷◌, length, Some, None, IsTrue, refl}
use Rattle.std.proofs.Common.{Option, cond, ◌||◌, inl, inr, sym, subst, ap, ◌∙◌, arith, codes}
use Rattle.std.specs.Prelude.{nat_le, bytes_eq}
use Rattle.std.specs.Cmp.Lexicographic.{bytes_decides}
use Rattle.std.proofs.lemmas.Bool.{false≢true, or_cases}
use Rattle.java_lexer.specs.declared.token.TokenKind.{TokenKind}
use Rattle.java_lexer.specs.declared.token.TokenKind.TheVariants as kind
use Rattle.java_tree.specs.declared.words.Spelled.{Spelled}
use Rattle.java_tree.specs.Words.{sign, keyword, identifier, word_of}
use Rattle.java_tree.specs.Operators.{is_prefix, is_step}
use Rattle.java_tree.specs.Trees.{Ty, Typed, Base, Plain, Arguments, Expr, Prefix, Cast, Literal, This, Name, Paren}
use Rattle.java_tree.specs.Trees.{Call, NewBody, Lambda, BlockLambda, TypeReference, SuperReference, PlainClass}
use Rattle.java_tree.specs.Trees.{New, NewArray, NewItems, Exprs, expr_then, Array, Braces, Inits, no_init}
use Rattle.java_tree.specs.Trees.{init_then, Init, Value, Items, pack_exprs, pack_inits}
use Rattle.java_tree.specs.Spelling.{behind_points, brackets_onto}
use Rattle.java_tree.specs.Formed.{is_variable, is_literal, is_named, is_plain_word, is_no_expression, are_plain}
use Rattle.java_parser_grammar.specs.Taking.{after_sign, commas}
use Rattle.java_parser_grammar.specs.TypeReading.{after_brackets, has_diamond, ty_at, between_each}
use Rattle.java_parser_grammar.specs.Leads.{casts, begins_with, ends_expression}
use Rattle.java_parser_grammar.specs.BalancedReading.{Reading, between_at}
use Rattle.java_parser_grammar.specs.ExpressionReading.{NamesEnd, AtClass, AtArray, AtThis, class_at, ended}
use Rattle.java_parser_grammar.specs.ExpressionReading.{goes_typed, referred_at, typed_name_with, plain_word_with}
use Rattle.java_parser_grammar.specs.ExpressionReading.{lambda_parameters_at, lambda_with, lambda_level}
use Rattle.java_parser_grammar.specs.ExpressionReading.{call_arguments_with, name_with, prefix_with}
use Rattle.java_parser_grammar.specs.ExpressionReading.{lengths_with, new_array_with, new_items_with, new_object_with}
use Rattle.java_parser_grammar.specs.ExpressionReading.{new_with, operand_with, init_with, items_with, braces_with}
use Rattle.java_parser_grammar.proofs.FoundTypes.{brackets_found}
use Rattle.java_parser_grammar.proofs.TypeFronts.{brackets_longer}
use Rattle.java_parser_grammar.proofs.OperatorTexts.{listed_cases}

-- ---- names that are no expression

pub class_names : (xs : List (List ℕ)) (rest : List Spelled) → class_at true (behind_points xs (sign (codes ".")
    ∷ keyword (codes "class") ∷ rest)) ≡ Some ((xs, AtClass), rest)
unfolding class_at
class_names [] rest = refl
class_names (x ∷ xs) rest = rw (class_names xs rest) refl

pub this_names : (xs : List (List ℕ)) (rest : List Spelled) → class_at true (behind_points xs (sign (codes ".")
    ∷ keyword (codes "this") ∷ rest)) ≡ Some ((xs, AtThis), rest)
unfolding class_at
this_names [] rest = refl
this_names (x ∷ xs) rest = rw (this_names xs rest) refl

pub array_names : (xs : List (List ℕ)) (m : ℕ) (rest : List Spelled) → class_at true (behind_points xs
    (brackets_onto (suc m) (sign (codes ".") ∷ keyword (codes "class") ∷ rest))) ≡ Some ((xs, AtArray (suc m)), rest)
unfolding class_at
array_names [] m rest =
    let r = sign (codes ".") ∷ keyword (codes "class") ∷ rest in
    rw (brackets_found (length (brackets_onto (suc m) r)) (suc m) r (omega (arith, brackets_longer (suc m) r)) refl)
    refl
array_names (x ∷ xs) m rest = rw (array_names xs m rest) refl

-- ---- arguments and lengths

module _ (read : ℕ → Reading Expr) where
  pub no_arguments : (rest : List Spelled) → call_arguments_with read (sign (codes ")") ∷ rest) ≡ Some ([], rest)
  unfolding call_arguments_with
  no_arguments rest = refl

  pub first_argument : (e : Expr) (es : List Expr) (r s rest : List Spelled) → after_sign (codes ")") r ≡ None
      → read 0 r ≡ Some (e, s) → commas (read 0) (length s) s ≡ Some (es, sign (codes ")") ∷ rest)
      → call_arguments_with read r ≡ Some (e ∷ es, rest)
  unfolding call_arguments_with
  first_argument e es r s rest c first others = rw (c, first, others) refl

module _ (read : Reading Expr) where
  pub lengths_end : (k : ℕ) (rest : List Spelled) → after_sign (codes "[") rest ≡ None → lengths_with read k
      rest ≡ Some ([], rest)
  unfolding lengths_with
  lengths_end zero rest e = refl
  lengths_end (suc k) rest e = rw e refl

  pub lengths_brackets : (k : ℕ) (rest : List Spelled) → lengths_with read k (sign (codes "[") ∷ sign (codes "]")
      ∷ rest) ≡ Some ([], sign (codes "[") ∷ sign (codes "]") ∷ rest)
  unfolding lengths_with
  lengths_brackets zero rest = refl
  lengths_brackets (suc k) rest = refl

  pub lengths_turn : (k : ℕ) (e : Expr) (es : List Expr) (r s rest : List Spelled) → after_sign (codes "]") r ≡ None
      → read r ≡ Some (e, sign (codes "]") ∷ s) → lengths_with read k s ≡ Some (es, rest) → lengths_with read (suc k)
      (sign (codes "[") ∷ r) ≡ Some (e ∷ es, rest)
  unfolding lengths_with
  lengths_turn k e es r s rest c first others = rw (c, first, others) refl

-- ---- operands

module _ (read : ℕ → Reading Expr) (n : ℕ) (made : Reading Base) (array : Reading Array) where
  pub literal_operand : (k : TokenKind) (text : List ℕ) (rest : List Spelled) → is_literal k ≡ true → operand_with
      read n made array (word_of k text ∷ rest) ≡ Some (Literal k text, rest)
  unfolding operand_with
  literal_operand kind.Keyword text rest h = absurd (false≢true h)
  literal_operand kind.Name text rest h = absurd (false≢true h)
  literal_operand kind.Sign text rest h = absurd (false≢true h)
  literal_operand _ text rest h = refl

  pub this_operand : (rest : List Spelled) → operand_with read n made array (keyword (codes "this") ∷ rest) ≡ Some
      (This, rest)
  unfolding operand_with
  this_operand rest = refl

  pub name_operand : (x : List ℕ) (rest : List Spelled) → class_at true rest ≡ None → goes_typed n rest ≡ false
      → after_sign (codes "(") rest ≡ None → operand_with read n made array (identifier x ∷ rest) ≡ Some (Name x, rest)
  unfolding operand_with name_with
  name_operand x rest c g e = rw (c, g, e) refl

  pub call_operand : (x : List ℕ) (all : Exprs) (es : List Expr) (r rest : List Spelled) → pack_exprs es ≡ all
      → call_arguments_with read r ≡ Some (es, rest) → operand_with read n made array (identifier x
      ∷ sign (codes "(") ∷ r) ≡ Some (Call x all, rest)
  unfolding operand_with name_with class_at
  call_operand x all es r rest p e = rw (e, p) refl

  -- a class, or a `this` of one
  pub names_operand : (x : List ℕ) (xs : List (List ℕ)) (end : NamesEnd) (r rest : List Spelled)
      → class_at true r ≡ Some ((xs, end), rest) → operand_with read n made array (identifier x ∷ r) ≡ Some (
        ended (x ∷ xs) end,
        rest,
      )
  unfolding operand_with name_with
  names_operand x xs end r rest e = rw e refl

  -- ---- references to types, and classes of primitive types

  pub type_reference_operand : (x : List ℕ) (t : Ty) (types : Option Arguments) (y : Option (List ℕ)) (q r rest : List
      Spelled) → class_at true q ≡ None → goes_typed n q ≡ true → ty_at n (identifier x ∷ q) ≡ Some (
        t,
        sign (codes "::") ∷ r,
      ) → referred_at n r ≡ Some ((types, y), rest) → is_no_expression t ≡ true → operand_with read n made array
      (identifier x ∷ q) ≡ Some (TypeReference t types y, rest)
  unfolding operand_with name_with typed_name_with
  type_reference_operand x t types y q r rest c g e f is = rw (c, g, e, f, is) refl

  plain_leads : (text : List ℕ) (q : List Spelled) → is_plain_word text ≡ true → operand_with read n made array
      (keyword text ∷ q) ≡ plain_word_with n text q
  unfolding operand_with
  plain_leads text q w =
      listed_cases (λ text. operand_with read n made array (keyword text ∷ q) ≡ plain_word_with n text q)
      (codes "boolean" ∷ codes "byte" ∷ codes "short" ∷ codes "int" ∷ codes "long" ∷ codes "char" ∷ codes "float"
      ∷ codes "double" ∷ []) text w (refl, (refl, (refl, (refl, (refl, (refl, (refl, (refl, tt))))))))

  word_leads : (text : List ℕ) (q : List Spelled) → (is_plain_word text || bytes_eq text (codes "void")) ≡ true
      → operand_with read n made array (keyword text ∷ q) ≡ plain_word_with n text q
  unfolding operand_with
  word_leads text q w = elim (or_cases (is_plain_word text) (bytes_eq text (codes "void")) w) [
    | inl e ↦ plain_leads text q e
    | inr e ↦ subst (λ text. operand_with read n made array (keyword text ∷ q) ≡ plain_word_with n text q)
        (sym ((bytes_decides text (codes "void")).0 e)) refl
  ]

  plain_class_found : (text : List ℕ) (m : ℕ) (rest : List Spelled) → plain_word_with n text (brackets_onto m
      (sign (codes ".") ∷ keyword (codes "class") ∷ rest)) ≡ Some (PlainClass (Typed (Plain text) m), rest)
  unfolding plain_word_with
  plain_class_found text m rest =
      let r = sign (codes ".") ∷ keyword (codes "class") ∷ rest in
      rw (brackets_found (length (brackets_onto m r)) m r (omega (arith, brackets_longer m r)) refl) refl

  pub plain_class_operand : (text : List ℕ) (m : ℕ) (rest : List Spelled) → (is_plain_word text
      || bytes_eq text (codes "void")) ≡ true → operand_with read n made array (keyword text ∷ brackets_onto m
      (sign (codes ".") ∷ keyword (codes "class") ∷ rest)) ≡ Some (PlainClass (Typed (Plain text) m), rest)
  plain_class_operand text m rest w = word_leads text _ w ∙ plain_class_found text m rest

  plain_reference_found : (text : List ℕ) (m : ℕ) (types : Option Arguments) (y : Option (List ℕ)) (r rest : List
      Spelled) → is_plain_word text ≡ true → nat_le 1 n ≡ true → referred_at n r ≡ Some ((types, y), rest)
      → is_no_expression (Typed (Plain text) m) ≡ true → plain_word_with n text (brackets_onto m (sign (codes "::")
      ∷ r)) ≡ Some (TypeReference (Typed (Plain text) m) types y, rest)
  unfolding plain_word_with
  plain_reference_found text m types y r rest w room e is =
      let s = sign (codes "::") ∷ r in
      rw (
        brackets_found (length (brackets_onto m s)) m s (omega (arith, brackets_longer m s)) refl,
        w,
        room,
        e,
        is,
      ) refl

  pub plain_reference_operand : (text : List ℕ) (m : ℕ) (types : Option Arguments) (y : Option (List ℕ)) (r rest : List
      Spelled) → is_plain_word text ≡ true → nat_le 1 n ≡ true → referred_at n r ≡ Some ((types, y), rest)
      → is_no_expression (Typed (Plain text) m) ≡ true → operand_with read n made array (keyword text ∷ brackets_onto m
      (sign (codes "::") ∷ r)) ≡ Some (TypeReference (Typed (Plain text) m) types y, rest)
  plain_reference_operand text m types y r rest w room e is =
      plain_leads text _ w ∙ plain_reference_found text m types y r rest w room e is

  pub super_operand : (types : Option Arguments) (y : Option (List ℕ)) (r rest : List Spelled)
      → referred_at n r ≡ Some ((types, y), rest) → operand_with read n made array (keyword (codes "super")
      ∷ sign (codes "::") ∷ r) ≡ Some (SuperReference types y, rest)
  unfolding operand_with
  super_operand types y r rest e = rw e refl

  -- ---- parentheses and prefixes

  pub paren_operand : (a : Expr) (r rest : List Spelled) → casts r ≡ false → read 0 r ≡ Some (
    a,
    sign (codes ")")
        ∷ rest,
  ) → operand_with read n made array (sign (codes "(") ∷ r) ≡ Some (Paren a, rest)
  unfolding operand_with
  paren_operand a r rest c e = rw (c, e) refl

  pub cast_operand : (types : List Ty) (a : Expr) (r s rest : List Spelled) → casts r ≡ true
      → between_each (codes "&") (ty_at n) r ≡ Some (types, sign (codes ")") ∷ s)
      → read (cond (are_plain types) 12 (lambda_level 12 s)) s ≡ Some (a, rest) → operand_with read n made array
      (sign (codes "(") ∷ r) ≡ Some (Cast types a, rest)
  unfolding operand_with
  cast_operand types a r s rest c e f = rw (c, e, f) refl

  prefix_tested : (op : List ℕ) (a : Expr) (r rest : List Spelled) (step variable : Bool) → is_step op ≡ step
      → is_variable a ≡ variable → (step ≡ true → variable ≡ true) → read 12 r ≡ Some (a, rest) → prefix_with read op
      r ≡ Some (Prefix op a, rest)
  unfolding prefix_with
  prefix_tested op a r rest false v s is h e = rw (e, s) refl
  prefix_tested op a r rest true true s is h e = rw (e, s, is) refl
  prefix_tested op a r rest true false s is h e = absurd (false≢true (h refl))

  pub prefix_operand : (op : List ℕ) (a : Expr) (r rest : List Spelled) → IsTrue (is_prefix op) → (IsTrue (is_step op)
      → IsTrue (is_variable a)) → read 12 r ≡ Some (a, rest) → operand_with read n made array (sign op ∷ r) ≡ Some
      (Prefix op a, rest)
  unfolding operand_with
  prefix_operand op a r rest is h e = rw is (prefix_tested op a r rest (is_step op) (is_variable a) refl refl h e)

  -- ---- behind `new`

  pub object_operand : (b : Base) (t : Ty) (all : Exprs) (es : List Expr) (r s rest : List Spelled) → Typed b 0 ≡ t
      → IsTrue (is_named t) → pack_exprs es ≡ all → made r ≡ Some (b, sign (codes "(") ∷ s) → call_arguments_with read
      s ≡ Some (es, rest) → begins_with (codes "{") rest ≡ false → operand_with read n made array
      (keyword (codes "new") ∷ r) ≡ Some (New t all, rest)
  unfolding operand_with new_with new_object_with
  object_operand b t all es r s rest whole named p e f shut =
      let is : is_named (Typed b 0) ≡ true = ap is_named whole ∙ named in
      rw (e, is, f, shut, p, whole) refl

  pub body_operand : (b : Base) (t : Ty) (all : Exprs) (es : List Expr) (body r s q rest : List Spelled) → Typed b 0 ≡ t
      → IsTrue (is_named t) → pack_exprs es ≡ all → made r ≡ Some (b, sign (codes "(") ∷ s) → call_arguments_with read
      s ≡ Some (es, q) → begins_with (codes "{") q ≡ true → between_at (codes "}") q ≡ Some (body, rest)
      → operand_with read n made array (keyword (codes "new") ∷ r) ≡ Some (NewBody t all body, rest)
  unfolding operand_with new_with new_object_with
  body_operand b t all es body r s q rest whole named p e f opens is_body =
      let is : is_named (Typed b 0) ≡ true = ap is_named whole ∙ named in
      rw (e, is, f, opens, is_body, p, whole) refl

  array_made : (b : Base) (t : Ty) (e : Expr) (es : List Expr) (others : Exprs) (m : ℕ) (r s rest : List Spelled)
      → Typed b 0 ≡ t → pack_exprs es ≡ others → read 0 r ≡ Some (e, sign (codes "]") ∷ s) → lengths_with (read 0)
      (length s) s ≡ Some (es, brackets_onto m rest) → after_brackets rest ≡ None → new_array_with (read 0) b
      (sign (codes "[") ∷ r) ≡ Some (NewArray t (expr_then e others) m, rest)
  unfolding new_array_with
  array_made b t e es others m r s rest whole p first more ends =
      rw (
        first,
        more,
        brackets_found (length (brackets_onto m rest)) m rest (omega (arith, brackets_longer m rest))
            ends,
        p,
        whole,
      ) refl

  pub array_operand : (b : Base) (t : Ty) (e : Expr) (es : List Expr) (others : Exprs) (m : ℕ) (q r s rest : List
      Spelled) → Typed b 0 ≡ t → has_diamond b ≡ false → pack_exprs es ≡ others → made q ≡ Some (
        b,
        sign (codes "[")
            ∷ r,
      ) → after_sign (codes "]") r ≡ None → read 0 r ≡ Some (e, sign (codes "]") ∷ s) → lengths_with (read 0)
      (length s) s ≡ Some (es, brackets_onto m rest) → after_brackets rest ≡ None → operand_with read n made array
      (keyword (codes "new") ∷ q) ≡ Some (NewArray t (expr_then e others) m, rest)
  unfolding operand_with new_with
  array_operand b t e es others m q r s rest whole d p is c first more ends =
      rw (is, d, c) (array_made b t e es others m r s rest whole p first more ends)

  items_made : (b : Base) (t : Ty) (m : ℕ) (items : Array) (s rest : List Spelled) → Typed b 0 ≡ t → after_brackets
      s ≡ None → array s ≡ Some (items, rest) → new_items_with array b (brackets_onto m s) ≡ Some (
        NewItems t (suc m)
            items,
        rest,
      )
  unfolding new_items_with
  items_made b t m items s rest whole ends e =
      rw (brackets_found (length (brackets_onto m s)) m s (omega (arith, brackets_longer m s)) ends, e, whole) refl

  pub items_operand : (b : Base) (t : Ty) (m : ℕ) (items : Array) (q s rest : List Spelled) → Typed b 0 ≡ t
      → has_diamond b ≡ false → made q ≡ Some (b, brackets_onto (suc m) s) → after_brackets s ≡ None → array s ≡ Some
      (items, rest) → operand_with read n made array (keyword (codes "new") ∷ q) ≡ Some (
        NewItems t (suc m) items,
        rest,
      )
  unfolding operand_with new_with
  items_operand b t m items q s rest whole d is ends e = rw (is, d) (items_made b t m items s rest whole ends e)

-- ---- lambdas

module _ (read : Reading Expr) where
  pub lambda_found : (ps : List Spelled) (a : Expr) (q r rest : List Spelled) → lambda_parameters_at q ≡ Some (
    ps,
    sign (codes "->") ∷ r,
  ) → begins_with (codes "{") r ≡ false → read r ≡ Some (a, rest) → ends_expression rest ≡ true
      → lambda_with read q ≡ Some (Lambda ps a, rest)
  unfolding lambda_with
  lambda_found ps a q r rest e shut f ends = rw (e, shut, f, ends) refl

  pub block_found : (ps block q r rest : List Spelled) → lambda_parameters_at q ≡ Some (ps, sign (codes "->") ∷ r)
      → begins_with (codes "{") r ≡ true → between_at (codes "}") r ≡ Some (block, rest)
      → lambda_with read q ≡ Some (BlockLambda ps block, rest)
  unfolding lambda_with
  block_found ps block q r rest e opens f = rw (e, opens, f) refl

-- ---- items

pub value_found : (read : Reading Expr) (array : Reading Array) (e : Expr) (r rest : List Spelled)
    → after_sign (codes "{") r ≡ None → read r ≡ Some (e, rest) → init_with read array r ≡ Some (Value e, rest)
value_found read array e r rest c is = rw (c, is) refl

pub items_found : (read : Reading Expr) (array : Reading Array) (a : Array) (r rest : List Spelled)
    → array (sign (codes "{") ∷ r) ≡ Some (a, rest) → init_with read array (sign (codes "{") ∷ r) ≡ Some (
      Items a,
      rest,
    )
items_found read array a r rest is = rw is refl

module _ (read : Reading Init) where
  pub no_items : (rest : List Spelled) → braces_with read (sign (codes "{") ∷ sign (codes "}") ∷ rest) ≡ Some
      (Braces no_init false, rest)
  unfolding braces_with
  no_items rest = refl

  pub some_items : (i : Init) (is : List Init) (others : Inits) (last : Bool) (r s rest : List Spelled)
      → pack_inits is ≡ others → after_sign (codes "}") r ≡ None → read r ≡ Some (i, s) → items_with read (length s)
      s ≡ Some (is, last, rest) → braces_with read (sign (codes "{") ∷ r) ≡ Some (
        Braces (init_then i others) last,
        rest,
      )
  unfolding braces_with
  some_items i is others last r s rest p c first more = rw (c, first, more, p) refl

  pub items_end : (k : ℕ) (rest : List Spelled) → items_with read (suc k) (sign (codes "}") ∷ rest) ≡ Some (
    [],
    false,
    rest,
  )
  unfolding items_with
  items_end k rest = refl

  pub items_last : (k : ℕ) (rest : List Spelled) → items_with read (suc k) (sign (codes ",") ∷ sign (codes "}")
      ∷ rest) ≡ Some ([], true, rest)
  unfolding items_with
  items_last k rest = refl

  pub items_turn : (k : ℕ) (i : Init) (is : List Init) (last : Bool) (r s rest : List Spelled)
      → after_sign (codes "}") r ≡ None → read r ≡ Some (i, s) → items_with read k s ≡ Some (is, last, rest)
      → items_with read (suc k) (sign (codes ",") ∷ r) ≡ Some (i ∷ is, last, rest)
  unfolding items_with
  items_turn k i is last r s rest c first more = rw (c, first, more) refl
