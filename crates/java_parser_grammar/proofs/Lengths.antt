-- A spelling is longer than what follows it.
use Rattle.std.proofs.Common.{IsTrue, Option, Some, None}
use Rattle.std.proofs.Common.{ℕ, suc, ◌+◌, ◌≤◌, ◌<◌, Bool, true, false, List, [], ◌∷◌, length, arith, codes}
use Rattle.java_tree.specs.declared.words.Spelled.{Spelled}
use Rattle.java_tree.specs.Words.{sign, keyword, identifier}
use Rattle.java_tree.specs.Operators.{BinaryOperator, LogicalOr, text_of, is_binary}
use Rattle.java_tree.specs.Trees.{Expr, Assign, Conditional, Binary, InstanceOf, Prefix, Cast, Postfix, Literal}
use Rattle.java_tree.specs.Trees.{This, Name, Paren, Field, Index, Call, CallOn, ClassOf, New, NewArray, NewItems}
use Rattle.java_tree.specs.Trees.{Exprs, no_expr, expr_then, Array, Braces, Inits, no_init, init_then, Init, Value}
use Rattle.java_tree.specs.Trees.{Items, Ty, Arguments, NewBody, Lambda, BlockLambda, Reference, TypeReference}
use Rattle.java_tree.specs.Trees.{SuperReference, PlainClass, ThisOf}
use Rattle.java_tree.specs.Spelling.{behind_points, names_onto, brackets_onto, last_comma_onto, operator_onto}
use Rattle.java_tree.specs.Spelling.{ty_onto, expr_onto, exprs_onto, more_exprs_onto, lengths_onto, array_onto}
use Rattle.java_tree.specs.Spelling.{behind_sign, between_sign, maybe_angled_onto, referred_onto, tokens_onto}
use Rattle.java_tree.specs.Spelling.{inits_onto, more_inits_onto, init_onto}
use Rattle.java_tree.specs.Formed.{FormedExpr, FormedExprs, FormedArray, FormedInits, FormedInit}
use Rattle.java_parser_grammar.proofs.TypeFronts.{brackets_longer, ty_longer, angled_longer}
use Rattle.java_parser_grammar.proofs.OperatorTexts.{binary_cases}

operator_longer : (o : BinaryOperator) (r : List Spelled) → length r < length (operator_onto (text_of o) r)
operator_longer LogicalOr r = omega arith
operator_longer _ r = omega arith

binary_longer : (op : List ℕ) (r : List Spelled) → IsTrue (is_binary op) → length r < length (operator_onto op r)
binary_longer op r b = binary_cases (λ op. length r < length (operator_onto op r)) (λ o. operator_longer o r) op b

points_longer : (xs : List (List ℕ)) (rest : List Spelled) → length rest ≤ length (behind_points xs rest)
points_longer [] rest = omega arith
points_longer (x ∷ xs) rest = omega (arith, points_longer xs rest)

pub names_longer : (xs : List (List ℕ)) (rest : List Spelled) → length rest ≤ length (names_onto xs rest)
names_longer [] rest = omega arith
names_longer (x ∷ xs) rest = omega (arith, points_longer xs rest)

comma_longer : (last : Bool) (rest : List Spelled) → length rest ≤ length (last_comma_onto last rest)
comma_longer true rest = omega arith
comma_longer false rest = omega arith

signs_longer : (text : List ℕ) (ts : List Ty) (rest : List Spelled) → length rest ≤ length (behind_sign text ts rest)
signs_longer text [] rest = omega arith
signs_longer text (t ∷ ts) rest = omega (arith, signs_longer text ts rest, ty_longer t (behind_sign text ts rest))

pub between_longer : (text : List ℕ) (ts : List Ty) (rest : List Spelled)
    → length rest ≤ length (between_sign text ts rest)
between_longer text [] rest = omega arith
between_longer text (t ∷ ts) rest = omega (arith, signs_longer text ts rest, ty_longer t (behind_sign text ts rest))

maybe_angled_longer : (types : Option Arguments) (rest : List Spelled) → length rest ≤ length (maybe_angled_onto types
    rest)
maybe_angled_longer None rest = omega arith
maybe_angled_longer (Some a) rest = omega (arith, angled_longer a rest)

referred_longer : (types : Option Arguments) (x : Option (List ℕ)) (rest : List Spelled) → length rest ≤ length
    (referred_onto types x rest)
referred_longer types None rest = omega (arith, maybe_angled_longer types (keyword (codes "new") ∷ rest))
referred_longer types (Some x) rest = omega (arith, maybe_angled_longer types (identifier x ∷ rest))

pub tokens_longer : (ts rest : List Spelled) → length rest ≤ length (tokens_onto ts rest)
tokens_longer [] rest = omega arith
tokens_longer (t ∷ ts) rest = omega (arith, tokens_longer ts rest)

unfoldable pub count_exprs : Exprs → ℕ
count_exprs no_expr = 0
count_exprs (expr_then e es) = suc (count_exprs es)

unfoldable pub count_inits : Inits → ℕ
count_inits no_init = 0
count_inits (init_then i is) = suc (count_inits is)

mutual
  unfolding count_exprs count_inits

  pub longer : (e : Expr) → FormedExpr e → (rest : List Spelled) → length rest < length (expr_onto e rest)
  longer (Assign a op b) f rest = omega (arith, longer b f.1 rest, longer a f.0 (sign op ∷ expr_onto b rest))
  longer (Conditional a b c) f rest =
      let r = sign (codes ":") ∷ expr_onto c rest in
      omega (arith, longer c f.2 rest, longer b f.1 r, longer a f.0 (sign (codes "?") ∷ expr_onto b r))
  longer (Binary a op b) f rest = omega (
    arith,
    longer b f.1 rest,
    binary_longer op (expr_onto b rest) f.2,
    longer a f.0 (operator_onto op (expr_onto b rest)),
  )
  longer (InstanceOf a t) f rest =
      omega (arith, ty_longer t rest, longer a f.0 (keyword (codes "instanceof") ∷ ty_onto t rest))
  longer (Prefix op a) f rest = omega (arith, longer a f.0 rest)
  longer (Cast ts a) f rest = omega (
    arith,
    longer a f.2 rest,
    between_longer (codes "&") ts (sign (codes ")") ∷ expr_onto a rest),
  )
  longer (Postfix a op) f rest = omega (arith, longer a f.0 (sign op ∷ rest))
  longer (Literal k text) f rest = omega arith
  longer This f rest = omega arith
  longer (Name x) f rest = omega arith
  longer (Paren a) f rest = omega (arith, longer a f (sign (codes ")") ∷ rest))
  longer (Field a x) f rest = omega (arith, longer a f.0 (sign (codes ".") ∷ identifier x ∷ rest))
  longer (Index a i) f rest =
      let r = sign (codes "]") ∷ rest in
      omega (arith, longer i f.1 r, longer a f.0 (sign (codes "[") ∷ expr_onto i r))
  longer (Call x all) f rest = omega (arith, exprs_longer all f (sign (codes ")") ∷ rest))
  longer (CallOn a types x all) f rest =
      let r = sign (codes ")") ∷ rest in
      let s = identifier x ∷ sign (codes "(") ∷ exprs_onto all r in
      omega (
        arith,
        exprs_longer all f.2 r,
        maybe_angled_longer types s,
        longer a f.0 (sign (codes ".") ∷ maybe_angled_onto types s),
      )
  longer (ClassOf xs) f rest = omega (arith, names_longer xs (sign (codes ".") ∷ keyword (codes "class") ∷ rest))
  longer (New t all) f rest =
      let r = sign (codes ")") ∷ rest in
      omega (arith, exprs_longer all f.1 r, ty_longer t (sign (codes "(") ∷ exprs_onto all r))
  longer (NewArray t lengths n) f rest =
      let r = brackets_onto n rest in
      omega (arith, brackets_longer n rest, lengths_longer lengths f.1 r, ty_longer t (lengths_onto lengths r))
  longer (NewItems t n items) f rest =
      let r = array_onto items rest in
      omega (arith, array_longer items f.2 rest, brackets_longer n r, ty_longer t (brackets_onto n r))
  longer (NewBody t all body) f rest =
      let r = sign (codes ")") ∷ tokens_onto body rest in
      omega (
        arith,
        tokens_longer body rest,
        exprs_longer all f.1 r,
        ty_longer t (sign (codes "(") ∷ exprs_onto all r),
      )
  longer (Lambda ps a) f rest =
      omega (arith, longer a f.1 rest, tokens_longer ps (sign (codes "->") ∷ expr_onto a rest))
  longer (BlockLambda ps block) f rest =
      omega (arith, tokens_longer block rest, tokens_longer ps (sign (codes "->") ∷ tokens_onto block rest))
  longer (Reference a types x) f rest =
      omega (arith, referred_longer types x rest, longer a f.0 (sign (codes "::") ∷ referred_onto types x rest))
  longer (TypeReference t types x) f rest =
      omega (arith, referred_longer types x rest, ty_longer t (sign (codes "::") ∷ referred_onto types x rest))
  longer (SuperReference types x) f rest = omega (arith, referred_longer types x rest)
  longer (PlainClass t) f rest = omega (arith, ty_longer t (sign (codes ".") ∷ keyword (codes "class") ∷ rest))
  longer (ThisOf xs) f rest = omega (arith, names_longer xs (sign (codes ".") ∷ keyword (codes "this") ∷ rest))

  pub exprs_longer : (es : Exprs) → FormedExprs es → (rest : List Spelled) → length rest ≤ length (exprs_onto es rest)
  exprs_longer no_expr f rest = omega arith
  exprs_longer (expr_then e es) f rest =
      omega (arith, longer e f.0 (more_exprs_onto es rest), more_exprs_longer es f.1 rest)

  -- as many expressions as tokens
  pub more_exprs_longer : (es : Exprs) → FormedExprs es → (rest : List Spelled) → count_exprs es + length
      rest ≤ length (more_exprs_onto es rest)
  more_exprs_longer no_expr f rest = omega arith
  more_exprs_longer (expr_then e es) f rest =
      omega (arith, longer e f.0 (more_exprs_onto es rest), more_exprs_longer es f.1 rest)

  pub lengths_longer : (es : Exprs) → FormedExprs es → (rest : List Spelled) → count_exprs es + length rest ≤ length
      (lengths_onto es rest)
  lengths_longer no_expr f rest = omega arith
  lengths_longer (expr_then e es) f rest = omega (
    arith,
    longer e f.0 (sign (codes "]") ∷ lengths_onto es rest),
    lengths_longer es f.1 rest,
  )

  pub array_longer : (a : Array) → FormedArray a → (rest : List Spelled) → length rest < length (array_onto a rest)
  array_longer (Braces items last) f rest =
      let r = sign (codes "}") ∷ rest in
      omega (arith, comma_longer last r, inits_longer items f.0 (last_comma_onto last r))

  inits_longer : (is : Inits) → FormedInits is → (rest : List Spelled) → length rest ≤ length (inits_onto is rest)
  inits_longer no_init f rest = omega arith
  inits_longer (init_then i is) f rest = omega (
    arith,
    init_longer i f.0 (more_inits_onto is rest),
    more_inits_longer
        is f.1 rest,
  )

  -- as many items as tokens
  pub more_inits_longer : (is : Inits) → FormedInits is → (rest : List Spelled) → count_inits is + length
      rest ≤ length (more_inits_onto is rest)
  more_inits_longer no_init f rest = omega arith
  more_inits_longer (init_then i is) f rest =
      omega (arith, init_longer i f.0 (more_inits_onto is rest), more_inits_longer is f.1 rest)

  pub init_longer : (i : Init) → FormedInit i → (rest : List Spelled) → length rest < length (init_onto i rest)
  init_longer (Value e) f rest = longer e f rest
  init_longer (Items a) f rest = array_longer a f rest
