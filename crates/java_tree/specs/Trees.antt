-- A contract of a public call rests on this: trees without places and without memory, one constructor for each
-- form. Each has the name of its type in the code without `Tree` or `Type`, and a long word is cut short: `Ty` is of
-- `TypeTree`, `Expr` of `Expression`, `Init` of `Initialiser`, `Stmt` of `Statement`, `Method` of `MethodTree`.
use Rattle.std.specs.Prelude.{ℕ, Bool, List, [], ◌∷◌, Option}
use Rattle.java_lexer.specs.declared.token.TokenKind.{TokenKind}
use Rattle.java_tree.specs.declared.words.Spelled.{Spelled}

-- ---- types (JLS 4)

mutual
  -- what stands before the `[ ]`, and the number of these
  pub data Ty : Type 0 where
    Typed : Base → (arrays : ℕ) → Ty

  pub data Base : Type 0 where
    Plain : (text : List ℕ) → Base
    Named : Parts → Base

  pub data Parts : Type 0 where
    no_part : Parts
    part_then : Part → Parts → Parts

  -- a name with or without type arguments
  pub data Part : Type 0 where
    Bare : (name : List ℕ) → Part
    Generic : (name : List ℕ) → Arguments → Part

  pub data Arguments : Type 0 where
    Angled : ArgumentList → (glued : Bool) → Arguments

  pub data ArgumentList : Type 0 where
    no_argument : ArgumentList
    argument_then : Argument → ArgumentList → ArgumentList

  pub data Argument : Type 0 where
    Exact : Ty → Argument
    Any : Argument
    Extends : Ty → Argument
    Super : Ty → Argument

-- ---- expressions (JLS 15) and array initialisers (JLS 10.6)

mutual
  pub data Expr : Type 0 where
    Assign : Expr → (operator : List ℕ) → Expr → Expr
    Conditional : Expr → Expr → Expr → Expr
    Binary : Expr → (operator : List ℕ) → Expr → Expr
    InstanceOf : Expr → Ty → Expr
    Prefix : (operator : List ℕ) → Expr → Expr
    Cast : List Ty → Expr → Expr
    Postfix : Expr → (operator : List ℕ) → Expr
    Literal : TokenKind → (text : List ℕ) → Expr
    This : Expr
    Name : (name : List ℕ) → Expr
    Paren : Expr → Expr
    Field : Expr → (name : List ℕ) → Expr
    Index : Expr → Expr → Expr
    Call : (name : List ℕ) → Exprs → Expr
    CallOn : Expr → Option Arguments → (name : List ℕ) → Exprs → Expr
    ClassOf : (names : List (List ℕ)) → Expr
    New : Ty → Exprs → Expr
    NewArray : Ty → (lengths : Exprs) → (arrays : ℕ) → Expr
    NewItems : Ty → (arrays : ℕ) → Array → Expr
    -- with the tokens of its braces, these included
    NewBody : Ty → Exprs → (body : List Spelled) → Expr
    -- with the tokens before its `->`; then an expression, or braces and their tokens
    Lambda : (parameters : List Spelled) → Expr → Expr
    BlockLambda : (parameters block : List Spelled) → Expr
    -- to a method of this name, or to a constructor where none stands
    Reference : Expr → Option Arguments → (name : Option (List ℕ)) → Expr
    TypeReference : Ty → Option Arguments → (name : Option (List ℕ)) → Expr
    SuperReference : Option Arguments → (name : Option (List ℕ)) → Expr
    -- `.class` behind another type than names; `void` is a primitive type here
    PlainClass : Ty → Expr
    ThisOf : (names : List (List ℕ)) → Expr

  pub data Exprs : Type 0 where
    no_expr : Exprs
    expr_then : Expr → Exprs → Exprs

  -- an array initialiser
  pub data Array : Type 0 where
    Braces : Inits → (last_comma : Bool) → Array

  pub data Inits : Type 0 where
    no_init : Inits
    init_then : Init → Inits → Inits

  pub data Init : Type 0 where
    Value : Expr → Init
    Items : Array → Init

abbrev pub pack_exprs : List Expr → Exprs
pack_exprs [] = no_expr
pack_exprs (e ∷ es) = expr_then e (pack_exprs es)

abbrev pub pack_inits : List Init → Inits
pack_inits [] = no_init
pack_inits (i ∷ is) = init_then i (pack_inits is)

abbrev pub pack_parts : List Part → Parts
pack_parts [] = no_part
pack_parts (p ∷ ps) = part_then p (pack_parts ps)

abbrev pub pack_arguments : List Argument → ArgumentList
pack_arguments [] = no_argument
pack_arguments (a ∷ rest) = argument_then a (pack_arguments rest)

-- ---- modifiers (JLS 8.4.3, 9.7, 14.4)

-- names joined by `.`, and the tokens of the parentheses, these included
pub record Annotation : Type 0 where
  pub names : List (List ℕ)
  pub arguments : List Spelled

pub data Modifier : Type 0 where
  Word : (text : List ℕ) → Modifier
  Annotated : Annotation → Modifier

-- ---- statements (JLS 14)

-- a variable, with the number of the `[ ]` behind its name, and what it begins with
pub record Variable : Type 0 where
  pub name : List ℕ
  pub arrays : ℕ
  pub initialiser : Option Init

-- a declaration of variables, without its `;`
pub record Locals : Type 0 where
  pub modifiers : List Modifier
  pub kind : Ty
  pub variables : List Variable

-- what stands before the first `;` of a `for`
pub data Start : Type 0 where
  Declares : Locals → Start
  Runs : Exprs → Start

-- `final T x = e` in the parentheses of a `try`
pub record Resource : Type 0 where
  pub modifiers : List Modifier
  pub kind : Ty
  pub name : List ℕ
  pub value : Expr

-- those parentheses, and whether a `;` stands behind the last one
pub record Resources : Type 0 where
  pub items : List Resource
  pub last : Bool

-- the parameter of a `catch`, with its types
pub record CatchParameter : Type 0 where
  pub modifiers : List Modifier
  pub types : List Ty
  pub name : List ℕ

-- `case e :` or `default :`
pub data Label : Type 0 where
  Case : Expr → Label
  Default : Label

mutual
  pub data Stmt : Type 0 where
    Block : Stmts → Stmt
    Local : Locals → Stmt
    Run : Expr → Stmt
    If : Expr → Stmt → Stmt
    IfElse : Expr → Stmt → Stmt → Stmt
    For : Start → (condition : Option Expr) → (updates : Exprs) → Stmt → Stmt
    ForEach : List Modifier → Ty → (name : List ℕ) → Expr → Stmt → Stmt
    Labelled : (name : List ℕ) → Stmt → Stmt
    -- with all of its tokens
    LocalClass : (name : List ℕ) → List Spelled → Stmt
    Empty : Stmt
    -- the keyword that it begins with, and what stands behind it; `Rows` says which there are
    Row : (word : List ℕ) → Pieces → Stmt

  pub data Stmts : Type 0 where
    no_stmt : Stmts
    stmt_then : Stmt → Stmts → Stmts

  pub data Pieces : Type 0 where
    no_piece : Pieces
    a_token : Spelled → Pieces → Pieces
    an_expr : Expr → Pieces → Pieces
    maybe_an_expr : Option Expr → Pieces → Pieces
    maybe_a_name : Option (List ℕ) → Pieces → Pieces
    -- this sign and an expression, or nothing
    maybe_behind : (text : List ℕ) → Option Expr → Pieces → Pieces
    -- an expression in parentheses
    a_condition : Expr → Pieces → Pieces
    -- a statement that is no declaration
    a_body : Stmt → Pieces → Pieces
    a_block : Stmts → Pieces → Pieces
    maybe_resources : Option Resources → Pieces → Pieces
    -- a parameter in parentheses
    a_catch_parameter : CatchParameter → Pieces → Pieces
    -- rows, each behind this keyword
    a_list : (word : List ℕ) → Several → Pieces → Pieces
    -- a row behind this keyword, and no row, which such a keyword would begin
    present : (word : List ℕ) → Pieces → Pieces → Pieces
    absent : (word : List ℕ) → Pieces → Pieces
    -- one of the parts behind it that may be left out stands; no token
    some_part : Pieces → Pieces
    -- groups in braces
    a_switch : Groups → Pieces → Pieces

  -- statements behind their labels
  pub data Groups : Type 0 where
    no_group : Groups
    group_then : List Label → Stmts → Groups → Groups

  pub data Several : Type 0 where
    no_row : Several
    row_then : Pieces → Several → Several

abbrev pub pack_stmts : List Stmt → Stmts
pack_stmts [] = no_stmt
pack_stmts (s ∷ ss) = stmt_then s (pack_stmts ss)

-- ---- methods (JLS 8.4, 8.8)

pub data Result : Type 0 where
  NoResult : Result
  VoidResult : Result
  TypeResult : Ty → Result

-- with whether `...` stands before its name, and the number of the `[ ]` behind it
pub record Parameter : Type 0 where
  pub modifiers : List Modifier
  pub kind : Ty
  pub any_number : Bool
  pub name : List ℕ
  pub arrays : ℕ

-- with its bounds
pub record TypeParameter : Type 0 where
  pub annotations : List Annotation
  pub name : List ℕ
  pub bounds : List Ty

-- in angle brackets, and the modifiers behind these
pub record TypeParameters : Type 0 where
  pub items : List TypeParameter
  pub glued : Bool
  pub modifiers : List Modifier

-- with the number of the `[ ]` behind its parameters
pub record Method : Type 0 where
  pub modifiers : List Modifier
  pub type_parameters : Option TypeParameters
  pub result : Result
  pub name : List ℕ
  pub parameters : List Parameter
  pub arrays : ℕ
  pub throws : List Ty
  pub body : Stmts
