-- A contract of a public call rests on this: reading expressions and array initialisers from tokens (JLS 15, 10.6).
use Rattle.std.specs.Prelude.{◌≡◌, ℕ, zero, suc, Bool, true, false, not, ◌&&◌, ◌||◌, List, [], ◌∷◌, length, Option}
use Rattle.std.specs.Prelude.{Some}
use Rattle.std.specs.Prelude.{None, nat_le, is_some, codes, bytes_eq, if◌then◌else◌}
use Rattle.java_lexer.specs.declared.token.TokenKind.{TokenKind}
use Rattle.java_lexer.specs.declared.token.TokenKind.TheVariants as kind
use Rattle.java_tree.specs.declared.words.Spelled.{Spelled}
use Rattle.java_tree.specs.Brackets.{is_sign, is_keyword, is_word_name}
use Rattle.java_tree.specs.Words.{identifier}
use Rattle.java_tree.specs.Operators.{assignment_level, conditional_level, relational_level, unary_level}
use Rattle.java_tree.specs.Operators.{postfix_level, primary_level, binary_level, is_prefix, is_step}
use Rattle.java_tree.specs.Trees.{Plain, Named, Parts, no_part, part_then, Bare, Arguments, NewBody, Lambda}
use Rattle.java_tree.specs.Trees.{BlockLambda, Reference, TypeReference, SuperReference, PlainClass, ThisOf}
use Rattle.java_tree.specs.Trees.{Ty, Typed, Base, Expr, Assign, Conditional, Binary, InstanceOf, Prefix, Cast}
use Rattle.java_tree.specs.Trees.{Postfix, Literal, This, Name, Paren, Field, Index, Call, CallOn, ClassOf, New}
use Rattle.java_tree.specs.Trees.{NewArray, NewItems, expr_then, Array, Braces, no_init, init_then, Init, Value}
use Rattle.java_tree.specs.Trees.{Items, pack_exprs, pack_inits}
use Rattle.java_tree.specs.Formed.{level, is_variable, makes_array, is_named, are_plain, is_plain_word}
use Rattle.java_tree.specs.Formed.{is_no_expression}
use Rattle.java_tree.specs.Nesting.{expr_nesting}
use Rattle.java_parser_grammar.specs.Taking.{◌>>=◌, match_option, match_number, after_sign, after_keyword, after_name}
use Rattle.java_parser_grammar.specs.Taking.{commas}
use Rattle.java_parser_grammar.specs.BalancedReading.{Reading, between_at, braces_tokens_at}
use Rattle.java_parser_grammar.specs.TypeReading.{after_brackets, brackets_at, has_diamond, ty_at, tested_ty_at}
use Rattle.java_parser_grammar.specs.TypeReading.{made_base_at, closes_angle, EndsNoTypes, types_at, between_each}
use Rattle.java_parser_grammar.specs.Leads.{Lead, Assigns, Asks, Joins, Tests, Steps, Selects, Indexes, Opens, Ends}
use Rattle.java_parser_grammar.specs.Leads.{Refers, Binds, lead, begins_with, ends_expression, begins_lambda, casts}

-- ---- operands

-- what ends names that are no expression: `. class`, one or more `[ ]` and `. class`, or `. this`
pub data NamesEnd : Type 0 where
  AtClass : NamesEnd
  AtArray : (arrays : ℕ) → NamesEnd
  AtThis : NamesEnd

-- `. class` behind brackets, and how many these are
abbrev pub array_class_at : Reading NamesEnd
array_class_at ts =
    let m = brackets_at (length ts) ts in
    after_sign (codes ".") m.1 >>= λ r. after_keyword (codes "class") r >>= λ s. match_number m.0 None
    (λ e. Some (AtArray (suc e), s))

-- the names, each behind a point, and their end; `true` where a point or the end is awaited (JLS 15.8.2, 15.8.4)
unfoldable pub class_at : Bool → Reading (List (List ℕ) × NamesEnd)
class_at point [] = None
class_at true (t ∷ ts) =
    if is_sign (codes ".") t then class_at false ts
    else (if is_sign (codes "[") t then (array_class_at (t ∷ ts) >>= λ end. Some (([], end.0), end.1)) else None)
class_at false (t ∷ ts) =
    if is_keyword (codes "class") t then Some (([], AtClass), ts)
    else (if is_keyword (codes "this") t then Some (([], AtThis), ts)
    else (if is_word_name t then (class_at true ts >>= λ xs. Some ((t.text ∷ xs.0.0, xs.0.1), xs.1)) else None))

-- names as the parts of a type
abbrev pub bare_parts : List (List ℕ) → Parts
bare_parts [] = no_part
bare_parts (x ∷ xs) = part_then (Bare x) (bare_parts xs)

-- the expression that names with such an end are
abbrev pub ended : List (List ℕ) → NamesEnd → Expr
ended xs AtClass = ClassOf xs
ended xs (AtArray n) = PlainClass (Typed (Named (bare_parts xs)) n)
ended xs AtThis = ThisOf xs

abbrev mutual
  -- whether names, at one or behind one, go on as a type with `[ ]` or with type arguments, of which at most `limit`
  -- stand in one another behind the first `<`
  pub goes_typed : (limit : ℕ) → List Spelled → Bool
  goes_typed l [] = false
  goes_typed l (t ∷ ts) =
      if is_sign (codes ".") t then name_goes_typed l ts
      else ((is_sign (codes "[") t && begins_with (codes "]") ts) || (is_sign (codes "<") t && closes_angle l 0 ts))

  pub name_goes_typed : (limit : ℕ) → List Spelled → Bool
  name_goes_typed l [] = false
  name_goes_typed l (t ∷ ts) = is_word_name t && goes_typed l ts

-- with a token that is glued to the one before it
abbrev pub begins_glued : List Spelled → Bool
begins_glued [] = false
begins_glued (t ∷ ts) = t.glued

-- the tokens go on as no type, no type arguments that were begun before end in them, and nothing is glued to what
-- stands before them
abbrev pub LeavesTypes : List Spelled → Type 0
LeavesTypes ts = ((limit : ℕ) → goes_typed limit ts ≡ false) × EndsNoTypes ts × (begins_glued ts ≡ false)

-- ---- method references (JLS 15.13)

-- a name, or `new`
abbrev pub name_or_new_at : Reading (Option (List ℕ))
name_or_new_at ts = match_option (after_keyword (codes "new") ts) (do
  x ← after_name ts
  Some (Some x.0, x.1)) (λ r. Some (None, r))

-- what stands behind `::`
unfoldable pub referred_at : ℕ → Reading (Option Arguments × Option (List ℕ))
referred_at n ts = do
  types ← types_at n ts
  x ← name_or_new_at types.1
  Some ((types.0, x.0), x.1)

-- a reference to a type that was read, behind it
abbrev pub type_reference_at : ℕ → Ty → Reading Expr
type_reference_at n t ts = do
  r ← after_sign (codes "::") ts
  to ← referred_at n r
  if is_no_expression t then Some (TypeReference t to.0.0 to.0.1, to.1) else None

-- the type is the name and what stands behind it
unfoldable pub typed_name_with : ℕ → (name : List ℕ) → Reading Expr
typed_name_with n x ts = do
  t ← ty_at n (identifier x ∷ ts)
  type_reference_at n t.0 t.1

-- behind the word of a primitive type or `void`, and its `[ ]`: `. class`, or a reference
unfoldable pub plain_word_with : ℕ → (word : List ℕ) → Reading Expr
plain_word_with n word ts =
    let m = brackets_at (length ts) ts in
    match_option (after_sign (codes ".") m.1)
    (if is_plain_word word && nat_le 1 n then type_reference_at n (Typed (Plain word) m.0) m.1 else None)
    (λ r. do
      s ← after_keyword (codes "class") r
      Some (PlainClass (Typed (Plain word) m.0), s))

abbrev pub super_with : ℕ → Reading Expr
super_with n ts = do
  r ← after_sign (codes "::") ts
  to ← referred_at n r
  Some (SuperReference to.0.0 to.0.1, to.1)

-- ---- lambdas (JLS 15.27)

-- what stands before the `->`, where a lambda begins
unfoldable pub lambda_parameters_at : Reading (List Spelled)
lambda_parameters_at [] = None
lambda_parameters_at (t ∷ ts) = if is_sign (codes "(") t then between_at (codes ")") (t ∷ ts) else Some (t ∷ [], ts)

-- the expression of a lambda takes all that could go on with the lambda (JLS 15.27.2)
unfoldable pub lambda_with : Reading Expr → Reading Expr
lambda_with read ts = do
  ps ← lambda_parameters_at ts
  r ← after_sign (codes "->") ps.1
  if begins_with (codes "{") r then (do
    block ← braces_tokens_at r
    Some (BlockLambda ps.0 block.0, block.1)) else (do
      a ← read r
      if ends_expression a.1 then Some (Lambda ps.0 a.0, a.1) else None)

-- the level that is read at where a lambda may stand too
abbrev pub lambda_level : (level : ℕ) → List Spelled → ℕ
lambda_level l ts = if begins_lambda ts then assignment_level else l

-- ---- names, parentheses, prefixes

-- the arguments of a call behind its `(`, and the `)`
unfoldable pub call_arguments_with : (ℕ → Reading Expr) → Reading (List Expr)
call_arguments_with read ts =
    match_option (after_sign (codes ")") ts)
    (do
      first ← read assignment_level ts
      others ← commas (read assignment_level) (length first.1) first.1
      r ← after_sign (codes ")") others.1
      Some (first.0 ∷ others.0, r))
    (λ r. Some ([], r))

-- what begins with this name: a class or a `this` of it, a reference to a type, a call or the name
unfoldable pub name_with : (ℕ → Reading Expr) → ℕ → (name : List ℕ) → Reading Expr
name_with read n x ts =
    match_option (class_at true ts)
    (if goes_typed n ts then typed_name_with n x ts
    else match_option (after_sign (codes "(") ts) (Some (Name x, ts)) (λ r. do
      all ← call_arguments_with read r
      Some (Call x (pack_exprs all.0), all.1)))
    (λ names. Some (ended (x ∷ names.0.0) names.0.1, names.1))

abbrev pub parens_with : (ℕ → Reading Expr) → Reading Expr
parens_with read ts = do
  a ← read assignment_level ts
  r ← after_sign (codes ")") a.1
  Some (Paren a.0, r)

abbrev pub cast_with : (ℕ → Reading Expr) → Reading Ty → Reading Expr
cast_with read ty ts = do
  types ← between_each (codes "&") ty ts
  r ← after_sign (codes ")") types.1
  a ← read (if are_plain types.0 then unary_level else lambda_level unary_level r) r
  Some (Cast types.0 a.0, a.1)

-- `++` and `--` stand before what can be assigned alone
unfoldable pub prefix_with : (ℕ → Reading Expr) → (operator : List ℕ) → Reading Expr
prefix_with read op ts = do
  a ← read unary_level ts
  if not (is_step op) || is_variable a.0 then Some (Prefix op a.0, a.1) else None

-- ---- behind `new`

-- lengths, each in brackets, at most m
unfoldable pub lengths_with : Reading Expr → ℕ → Reading (List Expr)
lengths_with read zero ts = Some ([], ts)
lengths_with read (suc m) ts =
    match_option (after_brackets ts)
    (match_option (after_sign (codes "[") ts) (Some ([], ts)) (λ r. do
      first ← read r
      s ← after_sign (codes "]") first.1
      others ← lengths_with read m s
      Some (first.0 ∷ others.0, others.1)))
    (λ r. Some ([], ts))

-- an array of these lengths
unfoldable pub new_array_with : Reading Expr → Base → Reading Expr
new_array_with read b ts = do
  r ← after_sign (codes "[") ts
  first ← read r
  s ← after_sign (codes "]") first.1
  others ← lengths_with read (length s) s
  let m = brackets_at (length others.1) others.1
  Some (NewArray (Typed b 0) (expr_then first.0 (pack_exprs others.0)) m.0, m.1)

-- an array of these items, behind the first `[ ]`
unfoldable pub new_items_with : Reading Array → Base → Reading Expr
new_items_with array b ts = do
  let m = brackets_at (length ts) ts
  items ← array m.1
  Some (NewItems (Typed b 0) (suc m.0) items.0, items.1)

-- an object of this class, behind its `(`; the body of a class of its own may stand behind the `)` (JLS 15.9.5)
unfoldable pub new_object_with : (ℕ → Reading Expr) → Base → Reading Expr
new_object_with read b ts =
    if is_named (Typed b 0) then (do
      all ← call_arguments_with read ts
      if begins_with (codes "{") all.1 then (do
        body ← braces_tokens_at all.1
        Some (NewBody (Typed b 0) (pack_exprs all.0) body.0, body.1)) else
          Some (New (Typed b 0) (pack_exprs all.0), all.1)) else None

unfoldable pub new_with : (ℕ → Reading Expr) → Reading Base → Reading Array → Reading Expr
new_with read made array ts = do
  b ← made ts
  match_option (after_sign (codes "(") b.1)
      (if has_diamond b.0 then None
      else match_option (after_brackets b.1) (new_array_with (read assignment_level) b.0 b.1) (λ r. new_items_with
      array b.0 r))
      (λ r. new_object_with read b.0 r)

-- what begins with this token
abbrev pub operand_of : (ℕ → Reading Expr) → ℕ → Reading Base → Reading Array → TokenKind → List ℕ → Reading Expr
operand_of read n made array kind.Keyword text ts =
    if bytes_eq text (codes "this") then Some (This, ts)
    else (if bytes_eq text (codes "new") then new_with read made array ts
    else (if bytes_eq text (codes "super") then super_with n ts
    else (if is_plain_word text || bytes_eq text (codes "void") then plain_word_with n text ts else None)))
operand_of read n made array kind.Name text ts = name_with read n text ts
operand_of read n made array kind.Sign text ts =
    if is_prefix text then prefix_with read text ts
    else (if bytes_eq text (codes "(") then (if casts ts then cast_with read (ty_at n) ts else parens_with read ts)
    else None)
operand_of read n made array k text ts = Some (Literal k text, ts)

-- an expression with no expression at its left
unfoldable pub operand_with : (ℕ → Reading Expr) → ℕ → Reading Base → Reading Array → Reading Expr
operand_with read n made array [] = None
operand_with read n made array (t ∷ ts) = if t.glued then None else operand_of read n made array t.kind t.text ts

-- ---- what goes on from an expression

-- one turn: the expression is whole, or is the left part of a larger one
pub data Turn : Type 0 where
  Stop : Expr → Turn
  Next : Expr → List Spelled → Turn

-- a larger expression, if it is not nested too deep
abbrev pub grown : ℕ → Expr → List Spelled → Option Turn
grown n e ts = if nat_le (expr_nesting e) (suc n) then Some (Next e ts) else None

unfoldable pub assign_with : (ℕ → Reading Expr) → ℕ → Expr → (operator : List ℕ) → List Spelled → Option Turn
assign_with read n a op ts = do
  b ← read assignment_level ts
  grown n (Assign a op b.0) b.1

unfoldable pub conditional_with : (ℕ → Reading Expr) → ℕ → Expr → List Spelled → Option Turn
conditional_with read n a ts = do
  b ← read assignment_level ts
  r ← after_sign (codes ":") b.1
  c ← read (lambda_level conditional_level r) r
  grown n (Conditional a b.0 c.0) c.1

unfoldable pub binary_with : (ℕ → Reading Expr) → ℕ → Expr → (operator : List ℕ) → List Spelled → Option Turn
binary_with read n a op ts = do
  b ← read (suc (binary_level op)) ts
  grown n (Binary a op b.0) b.1

unfoldable pub instance_with : ℕ → Expr → List Spelled → Option Turn
instance_with n a ts = do
  t ← tested_ty_at n ts
  grown n (InstanceOf a t.0) t.1

unfoldable pub select_with : (ℕ → Reading Expr) → ℕ → Expr → List Spelled → Option Turn
select_with read n a ts = do
  types ← types_at n ts
  x ← after_name types.1
  match_option (after_sign (codes "(") x.1) (if is_some types.0 then None else grown n (Field a x.0) x.1) (λ r. do
    all ← call_arguments_with read r
    grown n (CallOn a types.0 x.0 (pack_exprs all.0)) all.1)

unfoldable pub refer_with : ℕ → Expr → List Spelled → Option Turn
refer_with n a ts = do
  to ← referred_at n ts
  grown n (Reference a to.0.0 to.0.1) to.1

unfoldable pub index_with : (ℕ → Reading Expr) → ℕ → Expr → List Spelled → Option Turn
index_with read n a ts = do
  i ← read assignment_level ts
  r ← after_sign (codes "]") i.1
  grown n (Index a i.0) r

-- a turn with what the first token begins
unfoldable pub turn_with : (ℕ → Reading Expr) → ℕ → ℕ → Expr → Lead → Option Turn
turn_with read n l a (Assigns op r) = if nat_le l assignment_level && is_variable a then assign_with read n a op r
    else Some (Stop a)
turn_with read n l a (Asks r) =
    if nat_le l conditional_level && nat_le (suc conditional_level) (level a) then conditional_with read n a r else
    Some (Stop a)
turn_with read n l a (Joins op r) =
    if nat_le l (binary_level op) && nat_le (binary_level op) (level a) then binary_with read n a op r else Some
    (Stop a)
turn_with read n l a (Tests r) =
    if nat_le l relational_level && nat_le relational_level (level a) then instance_with n a r else Some (Stop a)
turn_with read n l a (Steps op r) = if nat_le l postfix_level && is_variable a then grown n (Postfix a op) r else Some
    (Stop a)
turn_with read n l a (Selects r) = if nat_le primary_level (level a) then select_with read n a r else Some (Stop a)
turn_with read n l a (Indexes r) = if nat_le primary_level (level a) && not (makes_array a) then index_with read n a r
    else Some (Stop a)
turn_with read n l a (Refers r) = if nat_le primary_level (level a) then refer_with n a r else Some (Stop a)
turn_with read n l a Opens = Some (Stop a)
turn_with read n l a Binds = Some (Stop a)
turn_with read n l a Ends = Some (Stop a)

-- what a turn gave: the expression, or what goes on from it
abbrev pub go_on : Turn → List Spelled → (Expr → Reading Expr) → Option (Expr × List Spelled)
go_on (Stop e) ts go = Some (e, ts)
go_on (Next e r) ts go = go e r

-- at most k turns
unfoldable pub climb_with : (ℕ → Reading Expr) → ℕ → ℕ → ℕ → Expr → Reading Expr
climb_with read n l zero a ts = None
climb_with read n l (suc k) a ts = turn_with read n l a (lead ts) >>= λ s. go_on s ts (climb_with read n l k)

-- ---- array initialisers

abbrev pub init_with : Reading Expr → Reading Array → Reading Init
init_with read array ts =
    match_option (after_sign (codes "{") ts)
    (do
      e ← read ts
      Some (Value e.0, e.1))
    (λ r. do
      a ← array ts
      Some (Items a.0, a.1))

-- the items behind the first, whether a last comma stands, and the tokens behind the `}`
unfoldable pub items_with : Reading Init → ℕ → List Spelled → Option (List Init × Bool × List Spelled)
items_with read zero ts = None
items_with read (suc m) ts =
    match_option (after_sign (codes ",") ts)
    (do
      r ← after_sign (codes "}") ts
      Some ([], false, r))
    (λ r.
    match_option (after_sign (codes "}") r)
    (do
      first ← read r
      others ← items_with read m first.1
      Some (first.0 ∷ others.0, others.1, others.2))
    (λ s. Some ([], true, s)))

unfoldable pub braces_with : Reading Init → Reading Array
braces_with read ts = do
  r ← after_sign (codes "{") ts
  match_option (after_sign (codes "}") r)
      (do
        first ← read r
        others ← items_with read (length first.1) first.1
        Some (Braces (init_then first.0 (pack_inits others.0)) others.1, others.2))
      (λ s. Some (Braces no_init false, s))

-- ---- by the nesting that is left

unfoldable mutual
  -- an expression of a level of at least l and a nesting of at most n
  pub read_at : ℕ → ℕ → Reading Expr
  read_at zero l ts = None
  read_at (suc n) l ts =
      if begins_lambda ts then (if nat_le l assignment_level then lambda_with (read_at n assignment_level) ts else None)
      else (operand_with (read_at n) n (made_base_at n) (array_at n) ts >>= λ a. climb_with (read_at n) n l (suc n)
      a.0 a.1)

  -- an array initialiser of a nesting of at most n
  pub array_at : ℕ → Reading Array
  array_at zero ts = None
  array_at (suc n) ts = braces_with (init_with (read_at n assignment_level) (array_at n)) ts

-- an expression or an array initialiser
abbrev pub init_at : ℕ → Reading Init
init_at n = init_with (read_at n assignment_level) (array_at n)
