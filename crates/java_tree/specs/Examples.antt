-- A contract of a public call rests on this: worked readings, tokens as a reader writes them and small trees.
use Rattle.std.specs.Prelude.{◌≡◌, ℕ, Bool, true, false, ◌&&◌, List, [], ◌∷◌, ◌++◌, Option, None, codes, ◌==◌, map}
use Rattle.std.specs.Prelude.{if◌then◌else◌}
use Rattle.racer_base.specs.Name.{is_word, is_listed}
use Rattle.java_lexer.specs.declared.token.TokenKind.{TokenKind}
use Rattle.java_lexer.specs.declared.token.TokenKind.TheVariants as kind
use Rattle.java_lexer.specs.Kinds.{word_kind}
use Rattle.java_lexer.specs.Numbers.{begins_number}
use Rattle.java_lexer.specs.Signs.{shifts}
use Rattle.java_tree.specs.declared.words.Spelled.{Spelled}
use Rattle.java_tree.specs.Words.{sign_glued, word_of}
use Rattle.java_tree.specs.Brackets.{is_sign_kind}
use Rattle.java_tree.specs.Operators.{is_signed}
use Rattle.java_tree.specs.Trees.{Ty, Typed, Plain, Named, no_part, part_then, Bare, Generic, Angled, ArgumentList}
use Rattle.java_tree.specs.Trees.{no_argument, argument_then, Exact, Expr, Assign, Binary, Literal, Name, Postfix}
use Rattle.java_tree.specs.Trees.{Cast, CallOn, ForEach, Word, Annotated, Exprs}
use Rattle.java_tree.specs.Trees.{Call, ClassOf, no_expr, Init, Variable, Locals, Stmt, Block, Run, Empty, Stmts}
use Rattle.java_tree.specs.Trees.{no_stmt, stmt_then, Annotation, Modifier, Result, VoidResult, Parameter, Method}
use Rattle.java_tree.specs.Spelling.{stmt_onto}
use Rattle.java_tree.specs.Formed.{FormedStmt}

-- ---- tokens, with one space between two; the `>` of a `>>` or `>>>` are glued

abbrev pub onto_first : ℕ → List (List ℕ) → List (List ℕ)
onto_first b [] = (b ∷ []) ∷ []
onto_first b (word ∷ words) = (b ∷ word) ∷ words

abbrev pub space : ℕ
space = 32

abbrev pub double_quote : ℕ
double_quote = 34

abbrev pub single_quote : ℕ
single_quote = 39

-- what stands between the spaces
abbrev pub between_spaces : List ℕ → List (List ℕ)
between_spaces [] = [] ∷ []
between_spaces (b ∷ bs) = if b == space then [] ∷ between_spaces bs else onto_first b (between_spaces bs)

-- of a literal by its quote, and else a sign
abbrev pub quoted_kind : List ℕ → TokenKind
quoted_kind [] = kind.Sign
quoted_kind (b ∷ bs) = if b == single_quote then kind.Character else (if b == double_quote then kind.Text else
    kind.Sign)

abbrev pub kind_of : List ℕ → TokenKind
kind_of text = if is_word text then word_kind text else (if begins_number text then kind.Number else quoted_kind text)

-- as many `>`; each but the first is glued
abbrev pub angles : Bool → List ℕ → List Spelled
angles glued [] = []
angles glued (b ∷ bs) = sign_glued glued (codes ">") ∷ angles true bs

abbrev pub token_of : List ℕ → List Spelled
token_of text = if is_listed shifts text then angles false text else word_of (kind_of text) text ∷ []

abbrev pub tokens_of_all : List (List ℕ) → List Spelled
tokens_of_all [] = []
tokens_of_all (text ∷ texts) = token_of text ++ tokens_of_all texts

abbrev pub tokens_of : List ℕ → List Spelled
tokens_of text = tokens_of_all (between_spaces text)

-- whether the first of the tokens is `+`, `-`, `++` or `--`
abbrev pub opens_signed : List Spelled → Bool
opens_signed [] = false
opens_signed (t ∷ ts) = is_sign_kind t.kind && is_signed t.text

-- ---- what a text is read as

-- the statement is formed and spells the text's tokens
pub record Reads (text : List ℕ) (tree : Stmt) : Type 0 where
  pub spelled : stmt_onto tree [] ≡ tokens_of text
  pub formed : FormedStmt tree

-- the statement spells the text's tokens and is not formed
pub record ReadsNot (text : List ℕ) (tree : Stmt) : Type 0 where
  pub spelled : stmt_onto tree [] ≡ tokens_of text
  pub unformed : FormedStmt tree → ⊥

-- ---- small trees

abbrev pub a : Expr
a = Name (codes "a")

abbrev pub b : Expr
b = Name (codes "b")

abbrev pub c : Expr
c = Name (codes "c")

abbrev pub d : Expr
d = Name (codes "d")

abbrev pub e : Expr
e = Name (codes "e")

-- `f()`
abbrev pub f_call : Expr
f_call = Call (codes "f") no_expr

-- `(T) e`
abbrev pub cast : Ty → Expr → Expr
cast t e = Cast (t ∷ []) e

-- `e.x(..)`
abbrev pub call_on : Expr → List ℕ → Exprs → Expr
call_on e x all = CallOn e None x all

-- `a++`
abbrev pub a_up : Expr
a_up = Postfix a (codes "++")

-- `.class` behind no name, which is not formed
abbrev pub no_class : Expr
no_class = ClassOf []

abbrev pub one : Expr
one = Literal kind.Number (codes "1")

abbrev pub difference : Expr → Expr → Expr
difference left right = Binary left (codes "-") right

-- `int` with as many `[ ]`
abbrev pub ints : ℕ → Ty
ints n = Typed (Plain (codes "int")) n

-- a keyword that is no type, which is not formed
abbrev pub no_type : Ty
no_type = Typed (Plain (codes "void")) 0

-- a name as a type
abbrev pub class_named : List ℕ → Ty
class_named name = Typed (Named (part_then (Bare name) no_part)) 0

abbrev pub class_a : Ty
class_a = class_named (codes "A")

abbrev pub class_b : Ty
class_b = class_named (codes "B")

-- a name with type arguments; whether the `>` is glued
abbrev pub generic : List ℕ → ArgumentList → Bool → Ty
generic name list glued = Typed (Named (part_then (Generic name (Angled list glued)) no_part)) 0

abbrev pub only : Ty → ArgumentList
only t = argument_then (Exact t) no_argument

-- `A` with these arguments
abbrev pub a_of : ArgumentList → Ty
a_of list = generic (codes "A") list false

-- `A<B>`
abbrev pub a_of_b : Ty
a_of_b = a_of (only class_b)

abbrev pub variable : List ℕ → Option Init → Variable
variable name initialiser = record { name = name; arrays = 0; initialiser = initialiser }

-- `final`, where it stands
abbrev pub final_where : Bool → List Modifier
final_where false = []
final_where true = Word (codes "final") ∷ []

abbrev pub locals : Bool → Ty → List Variable → Locals
locals is_final kind variables =
    record { modifiers = final_where is_final; kind = kind; variables = variables }

-- one variable of this type
abbrev pub local_of : Ty → Locals
local_of kind = locals false kind (variable (codes "v") None ∷ [])

-- `name = value;`
abbrev pub assigns : List ℕ → Expr → Stmt
assigns name value = Run (Assign (Name name) (codes "=") value)

-- `for (T x : e) s`, and whether `final` stands
abbrev pub for_each : Bool → Ty → List ℕ → Expr → Stmt → Stmt
for_each is_final t x e s = ForEach (final_where is_final) t x e s

-- `{ ; }`
abbrev pub one_deep : Stmt
one_deep = Block (stmt_then Empty no_stmt)

abbrev pub annotation : List (List ℕ) → List ℕ → Annotation
annotation names arguments = record { names = names; arguments = tokens_of arguments }

-- an annotation without parentheses
abbrev pub bare_annotation : List ℕ → Annotation
bare_annotation name = record { names = name ∷ []; arguments = [] }

-- which is not formed
abbrev pub nameless_annotation : Annotation
nameless_annotation = record { names = []; arguments = [] }

abbrev pub parameter : Bool → List Annotation → Ty → Parameter
parameter is_final annotations kind = record {
  modifiers = final_where is_final ++ map Annotated annotations;
  kind = kind;
  any_number = false;
  name = codes "x";
  arrays = 0;
}

-- a parameter of this type
abbrev pub formal : Ty → Parameter
formal kind = parameter false [] kind

abbrev pub method : List Modifier → Result → List ℕ → List Parameter → List Ty → Stmts → Method
method modifiers result name parameters throws body =
    record {
      modifiers = modifiers;
      type_parameters = None;
      result = result;
      name = name;
      parameters = parameters;
      arrays = 0;
      throws = throws;
      body = body;
    }

-- a method `f` without a value
abbrev pub void_f : List Modifier → List Parameter → List Ty → Stmts → Method
void_f modifiers parameters throws body = method modifiers VoidResult (codes "f") parameters throws body
