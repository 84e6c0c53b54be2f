-- What a tree spells before tokens it also spells before these and more.
use Rattle.std.proofs.Common.{◌≡◌, ℕ, zero, suc, Bool, true, false, List, [], ◌∷◌, ◌++◌, refl, ap, sym, ◌∙◌, codes}
use Rattle.std.proofs.Common.{append_assoc, Option, Some, None}
use Rattle.std.specs.Prelude.{bytes_eq, if◌then◌else◌}
use Rattle.java_tree.specs.declared.words.Spelled.{Spelled}
use Rattle.java_tree.specs.Words.{keyword, identifier, sign, sign_glued, word_of}
use Rattle.java_tree.specs.Trees.{Ty, Typed, Base, Plain, Named, Parts, no_part, part_then, Part, Bare, Generic}
use Rattle.java_tree.specs.Trees.{Arguments, Angled, ArgumentList, no_argument, argument_then, Argument, Exact, Any}
use Rattle.java_tree.specs.Trees.{Extends, Super, Expr, Assign, Conditional, Binary, InstanceOf, Prefix, Cast}
use Rattle.java_tree.specs.Trees.{Postfix, Literal, This, Name, Paren, Field, Index, Call, CallOn, ClassOf, New}
use Rattle.java_tree.specs.Trees.{NewArray, NewItems, Exprs, no_expr, expr_then, Array, Braces, Inits, no_init}
use Rattle.java_tree.specs.Trees.{init_then, Init, Value, Items, Annotation, Modifier, Word, Annotated, NewBody}
use Rattle.java_tree.specs.Trees.{Lambda, BlockLambda, Reference, TypeReference, SuperReference, PlainClass, ThisOf}
use Rattle.java_tree.specs.Spelling.{annotation_onto, modifiers_onto, behind_sign, between_sign, maybe_angled_onto}
use Rattle.java_tree.specs.Spelling.{referred_onto, tokens_onto}
use Rattle.java_tree.specs.Spelling.{behind_points, names_onto, brackets_onto, ty_onto, base_onto, parts_onto}
use Rattle.java_tree.specs.Spelling.{more_parts_onto, part_onto, angled_onto, arguments_onto, more_arguments_onto}
use Rattle.java_tree.specs.Spelling.{argument_onto, operator_onto, last_comma_onto, expr_onto, exprs_onto}
use Rattle.java_tree.specs.Spelling.{more_exprs_onto, lengths_onto, array_onto, inits_onto, more_inits_onto, init_onto}

-- it puts the same before more tokens
abbrev pub Appends : (List Spelled → List Spelled) → Type 0
Appends onto = (r s : List Spelled) → onto (r ++ s) ≡ onto r ++ s

-- the first before what the second puts
joins : (f g : List Spelled → List Spelled) → Appends f → Appends g → Appends (λ r. f (g r))
joins f g a b r s = ap f (b r s) ∙ a (g r) s

-- a token before what it puts
leads : (t : Spelled) (f : List Spelled → List Spelled) → Appends f → Appends (λ r. t ∷ f r)
leads t f a r s = ap (λ x. t ∷ x) (a r s)

-- a token behind what it puts
ends : (f : List Spelled → List Spelled) (t : Spelled) → Appends f → Appends (λ r. f (t ∷ r))
ends f t a r s = a (t ∷ r) s

one : (t : Spelled) → Appends (λ r. t ∷ r)
one t r s = refl

abbrev comma : Spelled
comma = sign (codes ",")

-- ---- lists

points_append : (xs : List (List ℕ)) → Appends (behind_points xs)
points_append [] r s = refl
points_append (x ∷ xs) r s = ap (λ l. sign (codes ".") ∷ identifier x ∷ l) (points_append xs r s)

names_append : (xs : List (List ℕ)) → Appends (names_onto xs)
names_append [] r s = refl
names_append (x ∷ xs) r s = ap (λ l. identifier x ∷ l) (points_append xs r s)

brackets_append : (n : ℕ) → Appends (brackets_onto n)
brackets_append zero r s = refl
brackets_append (suc n) r s = ap (λ l. sign (codes "[") ∷ sign (codes "]") ∷ l) (brackets_append n r s)

comma_append : (b : Bool) → Appends (last_comma_onto b)
comma_append true r s = refl
comma_append false r s = refl

operator_append : (op : List ℕ) → Appends (operator_onto op)
operator_append op r s = by_text (bytes_eq op (codes ">>")) (bytes_eq op (codes ">>>")) where
  glued : Spelled
  glued = sign_glued true (codes ">")

  by_text : (a b : Bool) →
      (if a then sign (codes ">") ∷ glued ∷ (r ++ s)
      else (if b then sign (codes ">") ∷ glued ∷ glued ∷ (r ++ s) else sign op ∷ (r ++ s)))
      ≡ (if a then sign (codes ">") ∷ glued ∷ r else (if b then sign
      (codes ">") ∷ glued ∷ glued ∷ r else sign op ∷ r)) ++ s
  by_text true b = refl
  by_text false true = refl
  by_text false false = refl

-- ---- annotations and modifiers

pub annotation_append : (n : Annotation) → Appends (annotation_onto n)
annotation_append n r s =
    ap (λ l. sign (codes "@") ∷ l) (ap (names_onto n.names) (sym (append_assoc n.arguments r s))
    ∙ names_append n.names (n.arguments ++ r) s)

pub modifiers_append : (ms : List Modifier) → Appends (modifiers_onto ms)
modifiers_append [] r s = refl
modifiers_append (Word text ∷ ms) r s = ap (λ l. keyword text ∷ l) (modifiers_append ms r s)
modifiers_append (Annotated n ∷ ms) r s =
    ap (annotation_onto n) (modifiers_append ms r s) ∙ annotation_append n (modifiers_onto ms r) s

-- ---- types

mutual
  pub ty_append : (t : Ty) → Appends (ty_onto t)
  ty_append (Typed base n) = joins (base_onto base) (brackets_onto n) (base_append base) (brackets_append n)

  base_append : (b : Base) → Appends (base_onto b)
  base_append (Plain text) = one (keyword text)
  base_append (Named ps) = parts_append ps

  parts_append : (ps : Parts) → Appends (parts_onto ps)
  parts_append no_part = λ r s. refl
  parts_append (part_then p ps) = joins (part_onto p) (more_parts_onto ps) (part_append p) (more_parts_append ps)

  more_parts_append : (ps : Parts) → Appends (more_parts_onto ps)
  more_parts_append no_part = λ r s. refl
  more_parts_append (part_then p ps) = λ r s.
      ap (λ l. sign (codes ".") ∷ l) (joins (part_onto p) (more_parts_onto ps) (part_append p)
      (more_parts_append ps) r s)

  pub part_append : (p : Part) → Appends (part_onto p)
  part_append (Bare x) = one (identifier x)
  part_append (Generic x a) = leads (identifier x) (angled_onto a) (angled_append a)

  angled_append : (a : Arguments) → Appends (angled_onto a)
  angled_append (Angled list glued) = λ r s.
      ap (λ l. sign (codes "<") ∷ l) (arguments_append list (sign_glued glued (codes ">") ∷ r) s)

  arguments_append : (list : ArgumentList) → Appends (arguments_onto list)
  arguments_append no_argument = λ r s. refl
  arguments_append (argument_then a others) =
      joins (argument_onto a) (more_arguments_onto others) (argument_append a) (more_arguments_append others)

  more_arguments_append : (list : ArgumentList) → Appends (more_arguments_onto list)
  more_arguments_append no_argument = λ r s. refl
  more_arguments_append (argument_then a others) = λ r s.
      ap (λ l. comma ∷ l) (joins (argument_onto a) (more_arguments_onto others) (argument_append a)
      (more_arguments_append
      others) r s)

  argument_append : (a : Argument) → Appends (argument_onto a)
  argument_append (Exact t) = ty_append t
  argument_append Any = one (sign (codes "?"))
  argument_append (Extends t) = λ r s. ap (λ l. sign (codes "?") ∷ keyword (codes "extends") ∷ l) (ty_append t r s)
  argument_append (Super t) = λ r s. ap (λ l. sign (codes "?") ∷ keyword (codes "super") ∷ l) (ty_append t r s)

signs_append : (text : List ℕ) (ts : List Ty) → Appends (behind_sign text ts)
signs_append text [] = λ r s. refl
signs_append text (t ∷ ts) =
    leads (sign text) (λ r. ty_onto t (behind_sign text ts r)) (joins (ty_onto t) (behind_sign text ts) (ty_append t)
    (signs_append text ts))

between_append : (text : List ℕ) (ts : List Ty) → Appends (between_sign text ts)
between_append text [] = λ r s. refl
between_append text (t ∷ ts) = joins (ty_onto t) (behind_sign text ts) (ty_append t) (signs_append text ts)

maybe_angled_append : (types : Option Arguments) → Appends (maybe_angled_onto types)
maybe_angled_append None = λ r s. refl
maybe_angled_append (Some a) = angled_append a

referred_append : (types : Option Arguments) (x : Option (List ℕ)) → Appends (referred_onto types x)
referred_append types None = ends (maybe_angled_onto types) (keyword (codes "new")) (maybe_angled_append types)
referred_append types (Some x) = ends (maybe_angled_onto types) (identifier x) (maybe_angled_append types)

tokens_append : (ts : List Spelled) → Appends (tokens_onto ts)
tokens_append ts r s = sym (append_assoc ts r s)

-- ---- expressions

abbrev call_onto : Exprs → List Spelled → List Spelled
call_onto all r = sign (codes "(") ∷ exprs_onto all (sign (codes ")") ∷ r)

calls : (all : Exprs) → Appends (exprs_onto all) → Appends (call_onto all)
calls all a r s = ap (λ l. sign (codes "(") ∷ l) (a (sign (codes ")") ∷ r) s)

mutual
  expr_append : (e : Expr) → Appends (expr_onto e)
  expr_append (Assign a op b) =
      joins (expr_onto a) (λ r. sign op ∷ expr_onto b r) (expr_append a) (leads (sign op) (expr_onto b)
      (expr_append b))
  expr_append (Conditional a b c) =
      joins (expr_onto a) (λ r. sign (codes "?") ∷ expr_onto b (sign (codes ":") ∷ expr_onto c r)) (expr_append a)
      (leads (sign (codes "?")) (λ r. expr_onto b (sign (codes ":") ∷ expr_onto c r))
      (joins (expr_onto b) (λ r. sign (codes ":") ∷ expr_onto c r) (expr_append b) (leads (sign (codes ":"))
      (expr_onto c)
      (expr_append c))))
  expr_append (Binary a op b) =
      joins (expr_onto a) (λ r. operator_onto op (expr_onto b r)) (expr_append a) (joins (operator_onto op)
      (expr_onto b)
      (operator_append op) (expr_append b))
  expr_append (InstanceOf a t) =
      joins (expr_onto a) (λ r. keyword (codes "instanceof") ∷ ty_onto t r) (expr_append a) (leads (keyword (codes
      "instanceof")) (ty_onto t) (ty_append t))
  expr_append (Prefix op a) = leads (sign op) (expr_onto a) (expr_append a)
  expr_append (Cast ts a) =
      leads (sign (codes "(")) (λ r. between_sign (codes "&") ts (sign (codes ")") ∷ expr_onto a r))
      (joins (between_sign (codes "&") ts) (λ r. sign (codes ")") ∷ expr_onto a r) (between_append (codes "&") ts)
      (leads (sign (codes ")")) (expr_onto a) (expr_append a)))
  expr_append (Postfix a op) = ends (expr_onto a) (sign op) (expr_append a)
  expr_append (Literal k text) = one (word_of k text)
  expr_append This = one (keyword (codes "this"))
  expr_append (Name x) = one (identifier x)
  expr_append (Paren a) =
      leads (sign (codes "(")) (λ r. expr_onto a (sign (codes ")") ∷ r)) (ends (expr_onto a) (sign (codes ")"))
      (expr_append a))
  expr_append (Field a x) = λ r s. expr_append a (sign (codes ".") ∷ identifier x ∷ r) s
  expr_append (Index a i) =
      joins (expr_onto a) (λ r. sign (codes "[") ∷ expr_onto i (sign (codes "]") ∷ r)) (expr_append a)
      (leads (sign (codes "[")) (λ r. expr_onto i (sign (codes "]") ∷ r)) (ends (expr_onto i) (sign (codes "]"))
      (expr_append i)))
  expr_append (Call x all) = leads (identifier x) (call_onto all) (calls all (exprs_append all))
  expr_append (CallOn a types x all) =
      joins (expr_onto a) (λ r. sign (codes ".") ∷ maybe_angled_onto types (identifier x ∷ call_onto all r))
      (expr_append a) (leads (sign (codes ".")) (λ r. maybe_angled_onto types (identifier x ∷ call_onto all r))
      (joins (maybe_angled_onto types) (λ r. identifier x ∷ call_onto all r) (maybe_angled_append types)
      (leads (identifier x) (call_onto all) (calls all (exprs_append all)))))
  expr_append (ClassOf xs) = λ r s. names_append xs (sign (codes ".") ∷ keyword (codes "class") ∷ r) s
  expr_append (New t all) =
      leads (keyword (codes "new")) (λ r. ty_onto t (call_onto all r)) (joins (ty_onto t) (call_onto all) (ty_append t)
      (calls all (exprs_append all)))
  expr_append (NewArray t lengths n) =
      leads (keyword (codes "new")) (λ r. ty_onto t (lengths_onto lengths (brackets_onto n r)))
      (joins (ty_onto t) (λ r. lengths_onto lengths (brackets_onto n r)) (ty_append t) (joins (lengths_onto lengths)
      (brackets_onto n) (lengths_append lengths) (brackets_append n)))
  expr_append (NewItems t n items) =
      leads (keyword (codes "new")) (λ r. ty_onto t (brackets_onto n (array_onto items r)))
      (joins (ty_onto t) (λ r. brackets_onto n (array_onto items r)) (ty_append t) (joins (brackets_onto n)
      (array_onto items) (brackets_append n) (array_append items)))
  expr_append (NewBody t all body) =
      leads (keyword (codes "new")) (λ r. ty_onto t (call_onto all (tokens_onto body r)))
      (joins (ty_onto t) (λ r. call_onto all (tokens_onto body r)) (ty_append t) (joins (call_onto all)
      (tokens_onto body) (calls all (exprs_append all)) (tokens_append body)))
  expr_append (Lambda ps a) =
      joins (tokens_onto ps) (λ r. sign (codes "->") ∷ expr_onto a r) (tokens_append ps) (leads (sign (codes "->"))
      (expr_onto a) (expr_append a))
  expr_append (BlockLambda ps block) =
      joins (tokens_onto ps) (λ r. sign (codes "->") ∷ tokens_onto block r) (tokens_append ps)
      (leads (sign (codes "->")) (tokens_onto block) (tokens_append block))
  expr_append (Reference a types x) =
      joins (expr_onto a) (λ r. sign (codes "::") ∷ referred_onto types x r) (expr_append a)
      (leads (sign (codes "::")) (referred_onto types x) (referred_append types x))
  expr_append (TypeReference t types x) =
      joins (ty_onto t) (λ r. sign (codes "::") ∷ referred_onto types x r) (ty_append t)
      (leads (sign (codes "::")) (referred_onto types x) (referred_append types x))
  expr_append (SuperReference types x) =
      leads (keyword (codes "super")) (λ r. sign (codes "::") ∷ referred_onto types x r)
      (leads (sign (codes "::")) (referred_onto types x) (referred_append types x))
  expr_append (PlainClass t) = λ r s. ty_append t (sign (codes ".") ∷ keyword (codes "class") ∷ r) s
  expr_append (ThisOf xs) = λ r s. names_append xs (sign (codes ".") ∷ keyword (codes "this") ∷ r) s

  exprs_append : (es : Exprs) → Appends (exprs_onto es)
  exprs_append no_expr = λ r s. refl
  exprs_append (expr_then e es) = joins (expr_onto e) (more_exprs_onto es) (expr_append e) (more_exprs_append es)

  more_exprs_append : (es : Exprs) → Appends (more_exprs_onto es)
  more_exprs_append no_expr = λ r s. refl
  more_exprs_append (expr_then e es) =
      leads comma (λ r. expr_onto e (more_exprs_onto es r)) (joins (expr_onto e) (more_exprs_onto es) (expr_append e)
      (more_exprs_append es))

  lengths_append : (es : Exprs) → Appends (lengths_onto es)
  lengths_append no_expr = λ r s. refl
  lengths_append (expr_then e es) =
      leads (sign (codes "[")) (λ r. expr_onto e (sign (codes "]") ∷ lengths_onto es r))
      (joins (expr_onto e) (λ r. sign (codes "]") ∷ lengths_onto es r) (expr_append e) (leads (sign (codes "]"))
      (lengths_onto es) (lengths_append es)))

  array_append : (a : Array) → Appends (array_onto a)
  array_append (Braces items last) =
      leads (sign (codes "{")) (λ r. inits_onto items (last_comma_onto last (sign (codes "}") ∷ r)))
      (joins (inits_onto items) (λ r. last_comma_onto last (sign (codes "}") ∷ r)) (inits_append items)
      (ends (last_comma_onto last) (sign (codes "}")) (comma_append last)))

  inits_append : (is : Inits) → Appends (inits_onto is)
  inits_append no_init = λ r s. refl
  inits_append (init_then i is) = joins (init_onto i) (more_inits_onto is) (init_append i) (more_inits_append is)

  more_inits_append : (is : Inits) → Appends (more_inits_onto is)
  more_inits_append no_init = λ r s. refl
  more_inits_append (init_then i is) =
      leads comma (λ r. init_onto i (more_inits_onto is r)) (joins (init_onto i) (more_inits_onto is) (init_append i)
      (more_inits_append is))

  init_append : (i : Init) → Appends (init_onto i)
  init_append (Value e) = expr_append e
  init_append (Items a) = array_append a

-- what stands behind the equals sign of a variable, before more tokens
pub init_before : (i : Init) (rest : List Spelled) → init_onto i rest ≡ init_onto i [] ++ rest
init_before i rest = init_append i [] rest
