-- A contract of a public call rests on this: the formed trees, those that stand for a method of this subset of
-- Java. Each condition on a level, and each one that is no level, stands with its form; so two formed trees never
-- have one spelling.
use Rattle.std.specs.Prelude.{◌≡◌, ℕ, zero, suc, ◌≤◌, Bool, true, false, not, ◌&&◌, List, [], ◌∷◌, Option, Some}
use Rattle.std.specs.Prelude.{None, IsTrue, codes, if◌then◌else◌, bytes_eq, ◌||◌}
use Rattle.racer_base.specs.Name.{is_listed}
use Rattle.java_lexer.specs.declared.token.TokenKind.{TokenKind}
use Rattle.java_lexer.specs.declared.token.TokenKind.TheVariants as kind
use Rattle.java_tree.specs.Brackets.{are_braces, are_lambda_parameters, are_class}
use Rattle.java_tree.specs.FormedModifiers.{Each, has_some, FormedVariableModifiers}
use Rattle.java_tree.specs.Operators.{conditional_level, relational_level, unary_level, postfix_level}
use Rattle.java_tree.specs.Operators.{primary_level, assignment_level, is_binary, binary_level, is_assignment}
use Rattle.java_tree.specs.Operators.{is_prefix, is_step, is_signed}
use Rattle.java_tree.specs.Trees.{Ty, Typed, Base, Plain, Named, Parts, no_part, part_then, Part, Bare, Generic}
use Rattle.java_tree.specs.Trees.{Arguments, Angled, ArgumentList, no_argument, argument_then, Argument, Exact, Any}
use Rattle.java_tree.specs.Trees.{Extends, Super, Expr, Assign, Conditional, Binary, InstanceOf, Prefix, Cast}
use Rattle.java_tree.specs.Trees.{Postfix, Literal, This, Name, Paren, Field, Index, Call, CallOn, ClassOf, New}
use Rattle.java_tree.specs.Trees.{NewBody, Lambda, BlockLambda, Reference, TypeReference, SuperReference, PlainClass}
use Rattle.java_tree.specs.Trees.{ThisOf, LocalClass}
use Rattle.java_tree.specs.Trees.{NewArray, NewItems, Exprs, no_expr, expr_then, Array, Braces, Inits, no_init}
use Rattle.java_tree.specs.Trees.{init_then, Init, Value, Items, Variable, Locals, Start, Declares, Runs, Stmt}
use Rattle.java_tree.specs.Trees.{Block, Local, Run, If, IfElse, For, ForEach, Labelled, Empty, Stmts}
use Rattle.java_tree.specs.Trees.{no_stmt, stmt_then, Row, Pieces, no_piece}
use Rattle.java_tree.specs.Trees.{a_token, an_expr}
use Rattle.java_tree.specs.Trees.{maybe_an_expr, maybe_a_name, maybe_behind, a_condition, a_body, a_block}
use Rattle.java_tree.specs.Trees.{maybe_resources, a_catch_parameter, a_list, present, absent, some_part, a_switch}
use Rattle.java_tree.specs.Trees.{Several, no_row, row_then, Groups, no_group, group_then, Label, Case, Default}
use Rattle.java_tree.specs.Trees.{Resource, Resources, CatchParameter}
use Rattle.java_tree.specs.Words.{keyword, sign}
use Rattle.java_tree.specs.Rows.{AKeyword, ASign, AnExpr, Until, MaybeName, MaybeBehind, ACondition, ABody, ABlock}
use Rattle.java_tree.specs.Rows.{ASwitch, MaybeResources, ACatchParameter, Again, Perhaps, SomePart, Slots, no_slot}
use Rattle.java_tree.specs.Rows.{◌▹◌}
use Rattle.java_tree.specs.Rows.{is_row, row_of}

-- ---- types (JLS 4)

-- the primitive types (JLS 4.2)
abbrev pub is_plain_word : List ℕ → Bool
is_plain_word text =
    is_listed
    (codes "boolean" ∷ codes "byte" ∷ codes "short" ∷ codes "int" ∷ codes "long" ∷ codes "char" ∷ codes "float"
    ∷ codes "double" ∷ [])
    text

abbrev pub has_part : Parts → Bool
has_part no_part = false
has_part (part_then p ps) = true

abbrev pub has_argument : ArgumentList → Bool
has_argument no_argument = false
has_argument (argument_then a others) = true

abbrev mutual
  pub FormedTy : Ty → Type 0
  FormedTy (Typed base arrays) = FormedBase base

  pub FormedBase : Base → Type 0
  FormedBase (Plain text) = IsTrue (is_plain_word text)
  FormedBase (Named ps) = FormedParts ps × IsTrue (has_part ps)

  pub FormedParts : Parts → Type 0
  FormedParts no_part = Unit {0}
  FormedParts (part_then p ps) = FormedPart p × FormedParts ps

  pub FormedPart : Part → Type 0
  FormedPart (Bare x) = Unit {0}
  FormedPart (Generic x a) = FormedAngled a

  -- `< >` is formed behind `new` alone
  pub FormedAngled : Arguments → Type 0
  FormedAngled (Angled list glued) = FormedArguments list × IsTrue (has_argument list)

  pub FormedArguments : ArgumentList → Type 0
  FormedArguments no_argument = Unit {0}
  FormedArguments (argument_then a others) = FormedArgument a × FormedArguments others

  pub FormedArgument : Argument → Type 0
  FormedArgument (Exact t) = FormedTy t
  FormedArgument Any = Unit {0}
  FormedArgument (Extends t) = FormedTy t
  FormedArgument (Super t) = FormedTy t

abbrev pub arrays_of : Ty → ℕ
arrays_of (Typed base arrays) = arrays

abbrev pub is_named : Ty → Bool
is_named (Typed (Plain text) arrays) = false
is_named (Typed (Named ps) arrays) = true

-- a primitive type without `[ ]`
abbrev pub is_plain : Ty → Bool
is_plain (Typed (Plain text) zero) = true
is_plain _ = false

-- the last part of a class that is made may have `< >` (JLS 15.9)
abbrev pub FormedLastPart : Part → Type 0
FormedLastPart (Bare x) = Unit {0}
FormedLastPart (Generic x (Angled list glued)) = FormedArguments list

abbrev pub FormedClassParts : Parts → Type 0
FormedClassParts no_part = Unit {0}
FormedClassParts (part_then p no_part) = FormedLastPart p
FormedClassParts (part_then p (part_then q ps)) = FormedPart p × FormedClassParts (part_then q ps)

-- the class that a `new` makes an object of: a named type without `[ ]` (JLS 15.9)
abbrev pub FormedClass : Ty → Type 0
FormedClass (Typed (Plain text) arrays) = ⊥
FormedClass (Typed (Named ps) arrays) = FormedClassParts ps × IsTrue (has_part ps) × (arrays ≡ 0)

-- the type of the elements that a `new` makes an array of (JLS 15.10.1)
abbrev pub FormedElement : Ty → Type 0
FormedElement t = FormedTy t × (arrays_of t ≡ 0)

abbrev pub is_bare_part : Part → Bool
is_bare_part (Bare x) = true
is_bare_part (Generic x a) = false

abbrev pub are_bare_parts : Parts → Bool
are_bare_parts no_part = true
are_bare_parts (part_then p ps) = is_bare_part p && are_bare_parts ps

-- a type before `.class` that is not names alone: a primitive one or `void`, or names and `[ ]` (JLS 15.8.2)
abbrev pub FormedLiteral : Ty → Type 0
FormedLiteral (Typed (Plain text) arrays) = IsTrue (is_plain_word text || bytes_eq text (codes "void"))
FormedLiteral (Typed (Named ps) arrays) = IsTrue (are_bare_parts ps) × IsTrue (has_part ps) × (1 ≤ arrays)

-- a type that is no expression: one with `[ ]` or with type arguments (JLS 15.13)
abbrev pub is_no_expression : Ty → Bool
is_no_expression (Typed base (suc n)) = true
is_no_expression (Typed (Plain text) zero) = false
is_no_expression (Typed (Named ps) zero) = not (are_bare_parts ps)

-- what the method of a reference or of a call takes: types alone, no wildcards (JLS 15.12, 15.13)
abbrev pub are_exact : ArgumentList → Bool
are_exact no_argument = true
are_exact (argument_then (Exact t) others) = are_exact others
are_exact (argument_then _ others) = false

abbrev pub are_types : Arguments → Bool
are_types (Angled list glued) = are_exact list

abbrev pub FormedTypes : Option Arguments → Type 0
FormedTypes None = Unit {0}
FormedTypes (Some a) = FormedAngled a × IsTrue (are_types a)

-- a cast to one primitive type
abbrev pub are_plain : List Ty → Bool
are_plain (t ∷ []) = is_plain t
are_plain _ = false

-- ---- expressions (JLS 15)

abbrev pub level : Expr → ℕ
level (Assign a op b) = assignment_level
level (Conditional a b c) = conditional_level
level (Binary a op b) = binary_level op
level (InstanceOf a t) = relational_level
level (Prefix op a) = unary_level
level (Cast t a) = unary_level
level (Postfix a op) = postfix_level
level (Lambda ps a) = assignment_level
level (BlockLambda ps block) = assignment_level
level _ = primary_level

-- what may stand left of `=` and beside `++`: a name, a field or an element (JLS 15.26)
abbrev pub is_variable : Expr → Bool
is_variable (Name x) = true
is_variable (Field a x) = true
is_variable (Index a i) = true
is_variable _ = false

-- an array creation, which takes no `[` (JLS 15.10.3)
abbrev pub makes_array : Expr → Bool
makes_array (NewArray t lengths n) = true
makes_array (NewItems t n items) = true
makes_array _ = false

-- what may be a statement with a `;` behind it (JLS 14.8)
abbrev pub is_run : Expr → Bool
is_run (Assign a op b) = true
is_run (Prefix op a) = is_step op
is_run (Postfix a op) = true
is_run (Call x all) = true
is_run (CallOn a types x all) = true
is_run (New t all) = true
is_run (NewBody t all body) = true
is_run _ = false

-- whether the spelling begins with `+`, `-`, `++` or `--`
abbrev pub begins_signed : Expr → Bool
begins_signed (Assign a op b) = begins_signed a
begins_signed (Conditional a b c) = begins_signed a
begins_signed (Binary a op b) = begins_signed a
begins_signed (InstanceOf a t) = begins_signed a
begins_signed (Prefix op a) = is_signed op
begins_signed (Postfix a op) = begins_signed a
begins_signed (Field a x) = begins_signed a
begins_signed (Index a i) = begins_signed a
begins_signed (CallOn a types x all) = begins_signed a
begins_signed (Reference a types x) = begins_signed a
begins_signed _ = false

abbrev pub is_lambda : Expr → Bool
is_lambda (Lambda ps a) = true
is_lambda (BlockLambda ps block) = true
is_lambda _ = false

-- whether it ends in the expression of a lambda, which goes on as far as it can (JLS 15.27.2)
abbrev pub ends_open : Expr → Bool
ends_open (Assign a op b) = ends_open b
ends_open (Conditional a b c) = ends_open c
ends_open (Binary a op b) = ends_open b
ends_open (Prefix op a) = ends_open a
ends_open (Cast ts a) = ends_open a
ends_open (Lambda ps a) = true
ends_open _ = false

-- the level at the end of a conditional, where a lambda may stand too (JLS 15.25)
abbrev pub last_level : Expr → ℕ
last_level c = if is_lambda c then assignment_level else conditional_level

-- the level behind a cast, where a lambda may stand too: it is no primitive value (JLS 15.16)
abbrev pub cast_level : List Ty → Expr → ℕ
cast_level ts a = if is_lambda a && not (are_plain ts) then assignment_level else unary_level

-- the literals that are no names, keywords or signs (JLS 15.8.1)
abbrev pub is_literal : TokenKind → Bool
is_literal kind.Number = true
is_literal kind.Character = true
is_literal kind.Text = true
is_literal kind.Fixed = true
is_literal _ = false

abbrev pub has_expr : Exprs → Bool
has_expr no_expr = false
has_expr (expr_then e es) = true

abbrev pub has_init : Inits → Bool
has_init no_init = false
has_init (init_then i is) = true

abbrev mutual
  pub FormedExpr : Expr → Type 0
  FormedExpr (Assign a op b) = FormedExpr a × FormedExpr b × IsTrue (is_assignment op) × IsTrue (is_variable a)
  FormedExpr (Conditional a b c) =
      FormedExpr a × FormedExpr b × FormedExpr c × (suc conditional_level ≤ level a) × (last_level c ≤ level c)
      × IsTrue (not (ends_open a))
  FormedExpr (Binary a op b) =
      FormedExpr a × FormedExpr b × IsTrue (is_binary op) × (binary_level op ≤ level a)
      × (suc (binary_level op) ≤ level b) × IsTrue (not (ends_open a))
  FormedExpr (InstanceOf a t) = FormedExpr a × FormedTy t × (relational_level ≤ level a) × IsTrue (not (ends_open a))
  FormedExpr (Prefix op a) =
      FormedExpr a × IsTrue (is_prefix op) × (unary_level ≤ level a) × (IsTrue (is_step op) → IsTrue (is_variable a))
  FormedExpr (Cast ts a) =
      Each FormedTy ts × IsTrue (has_some ts) × FormedExpr a × (cast_level ts a ≤ level a)
      × (IsTrue (begins_signed a) → IsTrue (are_plain ts))
  FormedExpr (Postfix a op) = FormedExpr a × IsTrue (is_step op) × IsTrue (is_variable a)
  FormedExpr (Literal k text) = IsTrue (is_literal k)
  FormedExpr This = Unit {0}
  FormedExpr (Name x) = Unit {0}
  FormedExpr (Paren a) = FormedExpr a
  FormedExpr (Field a x) = FormedExpr a × (primary_level ≤ level a)
  FormedExpr (Index a i) = FormedExpr a × FormedExpr i × (primary_level ≤ level a) × IsTrue (not (makes_array a))
  FormedExpr (Call x all) = FormedExprs all
  FormedExpr (CallOn a types x all) =
      FormedExpr a × FormedTypes types × FormedExprs all × (primary_level ≤ level a)
  FormedExpr (ClassOf xs) = IsTrue (has_some xs)
  FormedExpr (New t all) = FormedClass t × FormedExprs all
  FormedExpr (NewArray t lengths n) = FormedElement t × FormedExprs lengths × IsTrue (has_expr lengths)
  FormedExpr (NewItems t n items) = FormedElement t × (1 ≤ n) × FormedArray items
  FormedExpr (NewBody t all body) = FormedClass t × FormedExprs all × IsTrue (are_braces body)
  FormedExpr (Lambda ps a) = IsTrue (are_lambda_parameters ps) × FormedExpr a
  FormedExpr (BlockLambda ps block) = IsTrue (are_lambda_parameters ps) × IsTrue (are_braces block)
  FormedExpr (Reference a types x) = FormedExpr a × FormedTypes types × (primary_level ≤ level a)
  FormedExpr (TypeReference t types x) = FormedTy t × FormedTypes types × IsTrue (is_no_expression t)
  FormedExpr (SuperReference types x) = FormedTypes types
  FormedExpr (PlainClass t) = FormedLiteral t
  FormedExpr (ThisOf xs) = IsTrue (has_some xs)

  pub FormedExprs : Exprs → Type 0
  FormedExprs no_expr = Unit {0}
  FormedExprs (expr_then e es) = FormedExpr e × FormedExprs es

  -- a last comma stands behind an item: JLS 10.6 also has `{ , }`, which is left out here
  pub FormedArray : Array → Type 0
  FormedArray (Braces items last_comma) = FormedInits items × (IsTrue last_comma → IsTrue (has_init items))

  pub FormedInits : Inits → Type 0
  FormedInits no_init = Unit {0}
  FormedInits (init_then i is) = FormedInit i × FormedInits is

  pub FormedInit : Init → Type 0
  FormedInit (Value e) = FormedExpr e
  FormedInit (Items items) = FormedArray items

abbrev pub FormedMaybeExpr : Option Expr → Type 0
FormedMaybeExpr None = Unit {0}
FormedMaybeExpr (Some e) = FormedExpr e

-- an expression that is run for what it does
abbrev pub FormedRun : Expr → Type 0
FormedRun e = FormedExpr e × IsTrue (is_run e)

abbrev pub FormedRuns : Exprs → Type 0
FormedRuns no_expr = Unit {0}
FormedRuns (expr_then e es) = FormedRun e × FormedRuns es

-- ---- statements (JLS 14)

abbrev pub FormedMaybeInit : Option Init → Type 0
FormedMaybeInit None = Unit {0}
FormedMaybeInit (Some i) = FormedInit i

abbrev pub FormedVariable : Variable → Type 0
FormedVariable v = FormedMaybeInit v.initialiser

abbrev pub FormedLocals : Locals → Type 0
FormedLocals l =
    FormedVariableModifiers l.modifiers × FormedTy l.kind × IsTrue (has_some l.variables)
    × Each FormedVariable l.variables

abbrev pub FormedStart : Start → Type 0
FormedStart (Declares l) = FormedLocals l
FormedStart (Runs all) = FormedRuns all

-- a declaration is no body of an `if`, a loop or a label (JLS 14.5)
abbrev pub is_body : Stmt → Bool
is_body (Local l) = false
is_body (LocalClass x ts) = false
is_body _ = true

abbrev pub is_last : Pieces → Bool
is_last no_piece = true
is_last _ = false

-- no token stands for these pieces
abbrev pub are_left_out : Pieces → Bool
are_left_out no_piece = true
are_left_out (a_list word no_row ps) = are_left_out ps
are_left_out (absent word ps) = are_left_out ps
are_left_out _ = false

-- one of these that may be left out stands
abbrev pub some_stands : Pieces → Bool
some_stands no_piece = false
some_stands (maybe_resources (Some rs) ps) = true
some_stands (maybe_resources None ps) = some_stands ps
some_stands (a_list word (row_then sub more) ps) = true
some_stands (a_list word no_row ps) = some_stands ps
some_stands (present word sub ps) = true
some_stands (absent word ps) = some_stands ps
some_stands (a_token t ps) = some_stands ps
some_stands (an_expr e ps) = some_stands ps
some_stands (maybe_an_expr e ps) = some_stands ps
some_stands (maybe_a_name x ps) = some_stands ps
some_stands (maybe_behind text e ps) = some_stands ps
some_stands (a_condition e ps) = some_stands ps
some_stands (a_body s ps) = some_stands ps
some_stands (a_block ss ps) = some_stands ps
some_stands (a_catch_parameter c ps) = some_stands ps
some_stands (some_part ps) = some_stands ps
some_stands (a_switch gs ps) = some_stands ps

-- the keywords that go on with a statement
abbrev pub is_joining : List ℕ → Bool
is_joining word = bytes_eq word (codes "else") || (bytes_eq word (codes "catch") || bytes_eq word (codes "finally"))

abbrev mutual
  -- whether this keyword behind the statement would belong to it (JLS 14.5, 14.20)
  pub goes_on : (word : List ℕ) → Stmt → Bool
  goes_on word (If e s) = bytes_eq word (codes "else") || goes_on word s
  goes_on word (IfElse e s t) = goes_on word t
  goes_on word (For start condition updates s) = goes_on word s
  goes_on word (ForEach ms t x e s) = goes_on word s
  goes_on word (Labelled x s) = goes_on word s
  goes_on word (Row w ps) = go_on word ps
  goes_on word _ = false

  -- the same of what stands behind the keyword of a row
  pub go_on : (word : List ℕ) → Pieces → Bool
  go_on word no_piece = false
  go_on word (a_token t ps) = go_on word ps
  go_on word (an_expr e ps) = go_on word ps
  go_on word (maybe_an_expr e ps) = go_on word ps
  go_on word (maybe_a_name x ps) = go_on word ps
  go_on word (maybe_behind text e ps) = go_on word ps
  go_on word (a_condition e ps) = go_on word ps
  go_on word (a_body s ps) = if is_last ps then goes_on word s else go_on word ps
  go_on word (a_block ss ps) = go_on word ps
  go_on word (maybe_resources rs ps) = go_on word ps
  go_on word (a_catch_parameter c ps) = go_on word ps
  go_on word (a_list w more ps) = (are_left_out ps && bytes_eq word w) || go_on word ps
  go_on word (present w sub ps) = go_on word ps
  go_on word (absent w ps) = (are_left_out ps && bytes_eq word w) || go_on word ps
  go_on word (some_part ps) = go_on word ps
  go_on word (a_switch gs ps) = go_on word ps

abbrev pub ends_in_if : Stmt → Bool
ends_in_if s = goes_on (codes "else") s

-- an exception is no primitive type (JLS 8.4.6, 14.20)
abbrev pub FormedThrown : Ty → Type 0
FormedThrown t = FormedTy t × IsTrue (is_named t)

abbrev pub FormedResource : Resource → Type 0
FormedResource r = FormedVariableModifiers r.modifiers × FormedTy r.kind × FormedExpr r.value

abbrev pub FormedMaybeResources : Option Resources → Type 0
FormedMaybeResources None = Unit {0}
FormedMaybeResources (Some rs) = IsTrue (has_some rs.items) × Each FormedResource rs.items

abbrev pub FormedCatchParameter : CatchParameter → Type 0
FormedCatchParameter c =
    FormedVariableModifiers c.modifiers × IsTrue (has_some c.types) × Each FormedThrown c.types

-- no assignment stands behind `case` (JLS 14.11)
abbrev pub FormedLabel : Label → Type 0
FormedLabel (Case e) = FormedExpr e × (conditional_level ≤ level e)
FormedLabel Default = Unit {0}

abbrev pub has_stmt : Stmts → Bool
has_stmt no_stmt = false
has_stmt (stmt_then s ss) = true

abbrev pub has_group : Groups → Bool
has_group no_group = false
has_group (group_then labels ss gs) = true

abbrev mutual
  pub FormedStmt : Stmt → Type 0
  FormedStmt (Block ss) = FormedStmts ss
  FormedStmt (Local l) = FormedLocals l
  FormedStmt (Run e) = FormedRun e
  FormedStmt (If e s) = FormedExpr e × FormedStmt s × IsTrue (is_body s)
  FormedStmt (IfElse e s t) =
      FormedExpr e × FormedStmt s × FormedStmt t × IsTrue (is_body s) × IsTrue (is_body t)
      × IsTrue (not (ends_in_if s))
  FormedStmt (For start condition updates s) =
      FormedStart start × FormedMaybeExpr condition × FormedRuns updates × FormedStmt s × IsTrue (is_body s)
  FormedStmt (ForEach ms t x e s) =
      FormedVariableModifiers ms × FormedTy t × FormedExpr e × FormedStmt s × IsTrue (is_body s)
  FormedStmt (Labelled x s) = FormedStmt s × IsTrue (is_body s)
  FormedStmt (LocalClass x ts) = IsTrue (are_class x ts)
  FormedStmt Empty = Unit {0}
  FormedStmt (Row word ps) = IsTrue (is_row word) × Fits ps (row_of word)

  pub FormedStmts : Stmts → Type 0
  FormedStmts no_stmt = Unit {0}
  FormedStmts (stmt_then s ss) = FormedStmt s × FormedStmts ss

  -- the pieces are those of the row, each formed
  pub Fits : Pieces → Slots → Type 0
  Fits no_piece no_slot = Unit {0}
  Fits (a_token t ps) (AKeyword text ▹ row) = (t ≡ keyword text) × Fits ps row
  Fits (a_token t ps) (ASign text ▹ row) = (t ≡ sign text) × Fits ps row
  Fits (an_expr e ps) (AnExpr ▹ row) = FormedExpr e × Fits ps row
  Fits (maybe_an_expr e ps) (Until end ▹ row) = FormedMaybeExpr e × Fits ps row
  Fits (maybe_a_name x ps) (MaybeName ▹ row) = Fits ps row
  Fits (maybe_behind t e ps) (MaybeBehind text ▹ row) = ((t ≡ text) × FormedMaybeExpr e) × Fits ps row
  Fits (a_condition e ps) (ACondition ▹ row) = FormedExpr e × Fits ps row
  Fits (a_body s ps) (ABody ▹ row) = (FormedStmt s × IsTrue (is_body s)) × Fits ps row
  Fits (a_block ss ps) (ABlock ▹ row) = FormedStmts ss × Fits ps row
  Fits (maybe_resources rs ps) (MaybeResources ▹ row) = FormedMaybeResources rs × Fits ps row
  Fits (a_catch_parameter c ps) (ACatchParameter ▹ row) = FormedCatchParameter c × Fits ps row
  Fits (a_list w more ps) (Again word sub ▹ row) = ((w ≡ word) × EachFits more sub) × Fits ps row
  Fits (present w one ps) (Perhaps word sub ▹ row) = ((w ≡ word) × Fits one sub) × Fits ps row
  Fits (absent w ps) (Perhaps word sub ▹ row) = (w ≡ word) × Fits ps row
  Fits (some_part ps) (SomePart ▹ row) = IsTrue (some_stands ps) × Fits ps row
  Fits (a_switch gs ps) (ASwitch ▹ row) = FormedGroups gs × Fits ps row
  Fits _ _ = ⊥

  -- only the last group has no statement (JLS 14.11)
  pub FormedGroups : Groups → Type 0
  FormedGroups no_group = Unit {0}
  FormedGroups (group_then labels ss gs) =
      (IsTrue (has_some labels) × Each FormedLabel labels) × FormedStmts ss
      × (IsTrue (has_group gs) → IsTrue (has_stmt ss)) × FormedGroups gs

  pub EachFits : Several → Slots → Type 0
  EachFits no_row sub = Unit {0}
  EachFits (row_then ps more) sub = Fits ps sub × EachFits more sub
