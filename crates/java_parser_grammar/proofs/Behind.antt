-- The parentheses in a spelling are balanced.
use Rattle.std.proofs.Common.{◌≡◌, ◌∙◌, ℕ, zero, suc, Bool, true, false, List, [], ◌∷◌, Option, Some, None}
use Rattle.std.proofs.Common.{refl, codes}
use Rattle.std.proofs.lemmas.Bool.{false≢true}
use Rattle.java_lexer.specs.declared.token.TokenKind.{TokenKind}
use Rattle.java_lexer.specs.declared.token.TokenKind.TheVariants as kind
use Rattle.java_tree.specs.declared.words.Spelled.{Spelled}
use Rattle.java_tree.specs.Words.{sign, sign_glued, word_of}
use Rattle.java_tree.specs.Trees.{Ty, Typed, Base, Plain, Named, Parts, no_part, part_then, Part, Bare, Generic}
use Rattle.java_tree.specs.Trees.{Arguments, Angled, ArgumentList, no_argument, argument_then, Argument, Exact, Any}
use Rattle.java_tree.specs.Trees.{Extends, Super, Expr, Assign, Conditional, Binary, InstanceOf, Prefix, Cast}
use Rattle.java_tree.specs.Trees.{Postfix, Literal, This, Name, Paren, Field, Index, Call, CallOn, ClassOf, New}
use Rattle.java_tree.specs.Trees.{NewArray, NewItems, Exprs, no_expr, expr_then, Array, Braces, Inits, no_init}
use Rattle.java_tree.specs.Trees.{init_then, Init, Value, Items, NewBody, Lambda, BlockLambda, Reference, TypeReference}
use Rattle.java_tree.specs.Trees.{SuperReference, PlainClass, ThisOf}
use Rattle.java_tree.specs.Spelling.{behind_points, names_onto, brackets_onto, last_comma_onto, ty_onto, base_onto}
use Rattle.java_tree.specs.Spelling.{behind_sign, between_sign, maybe_angled_onto, referred_onto}
use Rattle.java_tree.specs.Spelling.{parts_onto, more_parts_onto, part_onto, angled_onto, arguments_onto}
use Rattle.java_tree.specs.Spelling.{more_arguments_onto, argument_onto, expr_onto, exprs_onto, more_exprs_onto}
use Rattle.java_tree.specs.Spelling.{lengths_onto, array_onto, inits_onto, more_inits_onto, init_onto}
use Rattle.java_tree.specs.Formed.{is_literal, FormedExpr, FormedExprs, FormedArray, FormedInits, FormedInit}
use Rattle.java_parser_grammar.specs.Leads.{behind}
use Rattle.java_parser_grammar.proofs.OperatorTexts.{assignment_balanced, prefix_balanced, step_balanced}
use Rattle.java_parser_grammar.proofs.OperatorTexts.{binary_balanced}
use Rattle.java_parser_grammar.proofs.BalancedTokens.{braces_balanced, parameters_balanced}

-- ---- types

pub brackets_balanced : (m d : ℕ) (rest : List Spelled) → behind d (brackets_onto m rest) ≡ behind d rest
unfolding behind
brackets_balanced zero d rest = refl
brackets_balanced (suc m) d rest = brackets_balanced m d rest

angle_balanced : (glued : Bool) (d : ℕ) (rest : List Spelled) → behind d (sign_glued glued (codes ">")
    ∷ rest) ≡ behind d rest
unfolding behind
angle_balanced true d rest = refl
angle_balanced false d rest = refl

mutual
  unfolding behind

  pub ty_balanced : (t : Ty) (d : ℕ) (rest : List Spelled) → behind d (ty_onto t rest) ≡ behind d rest
  ty_balanced (Typed b m) d rest = base_balanced b d _ ∙ brackets_balanced m d rest

  base_balanced : (b : Base) (d : ℕ) (rest : List Spelled) → behind d (base_onto b rest) ≡ behind d rest
  base_balanced (Plain text) d rest = refl
  base_balanced (Named ps) d rest = parts_balanced ps d rest

  parts_balanced : (ps : Parts) (d : ℕ) (rest : List Spelled) → behind d (parts_onto ps rest) ≡ behind d rest
  parts_balanced no_part d rest = refl
  parts_balanced (part_then p ps) d rest = part_balanced p d _ ∙ more_parts_balanced ps d rest

  more_parts_balanced : (ps : Parts) (d : ℕ) (rest : List Spelled) → behind d (more_parts_onto ps rest) ≡ behind d rest
  more_parts_balanced no_part d rest = refl
  more_parts_balanced (part_then p ps) d rest = part_balanced p d _ ∙ more_parts_balanced ps d rest

  part_balanced : (p : Part) (d : ℕ) (rest : List Spelled) → behind d (part_onto p rest) ≡ behind d rest
  part_balanced (Bare x) d rest = refl
  part_balanced (Generic x a) d rest = angled_balanced a d rest

  angled_balanced : (a : Arguments) (d : ℕ) (rest : List Spelled) → behind d (angled_onto a rest) ≡ behind d rest
  angled_balanced (Angled list g) d rest = arguments_balanced list d _ ∙ angle_balanced g d rest

  arguments_balanced : (list : ArgumentList) (d : ℕ) (rest : List Spelled) → behind d (arguments_onto list rest)
      ≡ behind d rest
  arguments_balanced no_argument d rest = refl
  arguments_balanced (argument_then a others) d rest = argument_balanced a d _ ∙ more_arguments_balanced others d rest

  more_arguments_balanced : (list : ArgumentList) (d : ℕ) (rest : List Spelled) → behind d (more_arguments_onto list
      rest) ≡ behind d rest
  more_arguments_balanced no_argument d rest = refl
  more_arguments_balanced (argument_then a others) d rest =
      argument_balanced a d _ ∙ more_arguments_balanced others d rest

  argument_balanced : (a : Argument) (d : ℕ) (rest : List Spelled) → behind d (argument_onto a rest) ≡ behind d rest
  argument_balanced (Exact t) d rest = ty_balanced t d rest
  argument_balanced Any d rest = refl
  argument_balanced (Extends t) d rest = ty_balanced t d rest
  argument_balanced (Super t) d rest = ty_balanced t d rest

signs_balanced : (ts : List Ty) (d : ℕ) (rest : List Spelled) → behind d (behind_sign (codes "&") ts rest) ≡ behind d
    rest
unfolding behind
signs_balanced [] d rest = refl
signs_balanced (t ∷ ts) d rest = ty_balanced t d _ ∙ signs_balanced ts d rest

-- the types of a cast
pub between_balanced : (ts : List Ty) (d : ℕ) (rest : List Spelled) → behind d (between_sign (codes "&") ts rest)
    ≡ behind d rest
between_balanced [] d rest = refl
between_balanced (t ∷ ts) d rest = ty_balanced t d _ ∙ signs_balanced ts d rest

maybe_angled_balanced : (types : Option Arguments) (d : ℕ) (rest : List Spelled) → behind d (maybe_angled_onto types
    rest) ≡ behind d rest
maybe_angled_balanced None d rest = refl
maybe_angled_balanced (Some a) d rest = angled_balanced a d rest

referred_balanced : (types : Option Arguments) (x : Option (List ℕ)) (d : ℕ) (rest : List Spelled)
    → behind d (referred_onto types x rest) ≡ behind d rest
unfolding behind
referred_balanced types None d rest = maybe_angled_balanced types d _
referred_balanced types (Some x) d rest = maybe_angled_balanced types d _

-- ---- expressions and array initialisers

points_balanced : (xs : List (List ℕ)) (d : ℕ) (rest : List Spelled) → behind d (behind_points xs rest) ≡ behind d rest
unfolding behind
points_balanced [] d rest = refl
points_balanced (x ∷ xs) d rest = points_balanced xs d rest

names_balanced : (xs : List (List ℕ)) (d : ℕ) (rest : List Spelled) → behind d (names_onto xs rest) ≡ behind d rest
unfolding behind
names_balanced [] d rest = refl
names_balanced (x ∷ xs) d rest = points_balanced xs d rest

literal_balanced : (k : TokenKind) (text : List ℕ) (d : ℕ) (rest : List Spelled) → is_literal k ≡ true
    → behind d (word_of k text ∷ rest) ≡ behind d rest
unfolding behind
literal_balanced kind.Sign text d rest f = absurd (false≢true f)
literal_balanced _ text d rest f = refl

comma_balanced : (last : Bool) (d : ℕ) (rest : List Spelled) → behind d (last_comma_onto last (sign (codes "}")
    ∷ rest)) ≡ behind d rest
unfolding behind
comma_balanced true d rest = refl
comma_balanced false d rest = refl

mutual
  unfolding behind

  pub balanced : (e : Expr) → FormedExpr e → (d : ℕ) (rest : List Spelled) → behind d (expr_onto e rest) ≡ behind d rest
  balanced (Assign a op b) f d rest = balanced a f.0 d _ ∙ assignment_balanced op d (expr_onto b rest) f.2
      ∙ balanced b f.1 d rest
  balanced (Conditional a b c) f d rest = balanced a f.0 d _ ∙ balanced b f.1 d _ ∙ balanced c f.2 d rest
  balanced (Binary a op b) f d rest = balanced a f.0 d _ ∙ binary_balanced op d (expr_onto b rest) f.2
      ∙ balanced b f.1 d rest
  balanced (InstanceOf a t) f d rest = balanced a f.0 d _ ∙ ty_balanced t d rest
  balanced (Prefix op a) f d rest = prefix_balanced op d (expr_onto a rest) f.1 ∙ balanced a f.0 d rest
  balanced (Cast ts a) f d rest = between_balanced ts (suc d) _ ∙ balanced a f.2 d rest
  balanced (Postfix a op) f d rest = balanced a f.0 d _ ∙ step_balanced op d rest f.1
  balanced (Literal k text) f d rest = literal_balanced k text d rest f
  balanced This f d rest = refl
  balanced (Name x) f d rest = refl
  balanced (Paren a) f d rest = balanced a f (suc d) _
  balanced (Field a x) f d rest = balanced a f.0 d _
  balanced (Index a i) f d rest = balanced a f.0 d _ ∙ balanced i f.1 d _
  balanced (Call x all) f d rest = exprs_balanced all f (suc d) _
  balanced (CallOn a types x all) f d rest =
      balanced a f.0 d _ ∙ maybe_angled_balanced types d _ ∙ exprs_balanced all f.2 (suc d) _
  balanced (ClassOf xs) f d rest = names_balanced xs d _
  balanced (New t all) f d rest = ty_balanced t d _ ∙ exprs_balanced all f.1 (suc d) _
  balanced (NewArray t lengths n) f d rest = ty_balanced t d _ ∙ lengths_balanced lengths f.1 d _ ∙ brackets_balanced
      n d rest
  balanced (NewItems t n items) f d rest = ty_balanced t d _ ∙ brackets_balanced n d _ ∙ array_balanced items f.2 d rest
  balanced (NewBody t all body) f d rest =
      ty_balanced t d _ ∙ exprs_balanced all f.1 (suc d) _ ∙ braces_balanced body f.2 d rest
  balanced (Lambda ps a) f d rest = parameters_balanced ps f.0 d _ ∙ balanced a f.1 d rest
  balanced (BlockLambda ps block) f d rest = parameters_balanced ps f.0 d _ ∙ braces_balanced block f.1 d rest
  balanced (Reference a types x) f d rest = balanced a f.0 d _ ∙ referred_balanced types x d rest
  balanced (TypeReference t types x) f d rest = ty_balanced t d _ ∙ referred_balanced types x d rest
  balanced (SuperReference types x) f d rest = referred_balanced types x d rest
  balanced (PlainClass t) f d rest = ty_balanced t d _
  balanced (ThisOf xs) f d rest = names_balanced xs d _

  exprs_balanced : (es : Exprs) → FormedExprs es → (d : ℕ) (rest : List Spelled) → behind d (exprs_onto es rest)
      ≡ behind d rest
  exprs_balanced no_expr f d rest = refl
  exprs_balanced (expr_then e es) f d rest = balanced e f.0 d _ ∙ more_exprs_balanced es f.1 d rest

  more_exprs_balanced : (es : Exprs) → FormedExprs es → (d : ℕ) (rest : List Spelled) → behind d (more_exprs_onto es
      rest) ≡ behind d rest
  more_exprs_balanced no_expr f d rest = refl
  more_exprs_balanced (expr_then e es) f d rest = balanced e f.0 d _ ∙ more_exprs_balanced es f.1 d rest

  lengths_balanced : (es : Exprs) → FormedExprs es → (d : ℕ) (rest : List Spelled) → behind d (lengths_onto es rest)
      ≡ behind d rest
  lengths_balanced no_expr f d rest = refl
  lengths_balanced (expr_then e es) f d rest = balanced e f.0 d _ ∙ lengths_balanced es f.1 d rest

  array_balanced : (a : Array) → FormedArray a → (d : ℕ) (rest : List Spelled) → behind d (array_onto a rest) ≡ behind
      d rest
  array_balanced (Braces items last) f d rest = inits_balanced items f.0 d _ ∙ comma_balanced last d rest

  inits_balanced : (is : Inits) → FormedInits is → (d : ℕ) (rest : List Spelled) → behind d (inits_onto is rest)
      ≡ behind d rest
  inits_balanced no_init f d rest = refl
  inits_balanced (init_then i is) f d rest = init_balanced i f.0 d _ ∙ more_inits_balanced is f.1 d rest

  more_inits_balanced : (is : Inits) → FormedInits is → (d : ℕ) (rest : List Spelled) → behind d (more_inits_onto is
      rest) ≡ behind d rest
  more_inits_balanced no_init f d rest = refl
  more_inits_balanced (init_then i is) f d rest = init_balanced i f.0 d _ ∙ more_inits_balanced is f.1 d rest

  init_balanced : (i : Init) → FormedInit i → (d : ℕ) (rest : List Spelled) → behind d (init_onto i rest) ≡ behind d
      rest
  init_balanced (Value e) f d rest = balanced e f d rest
  init_balanced (Items a) f d rest = array_balanced a f d rest
