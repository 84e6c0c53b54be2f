-- A contract of a public call rests on this: the spelling of a tree, its tokens and then the rest.
use Rattle.std.specs.Prelude.{ℕ, zero, suc, Bool, true, false, List, [], ◌∷◌, ◌++◌, Option, Some, None, codes}
use Rattle.std.specs.Prelude.{bytes_eq, if◌then◌else◌}
use Rattle.java_tree.specs.declared.words.Spelled.{Spelled}
use Rattle.java_tree.specs.Words.{keyword, identifier, sign, sign_glued, word_of}
use Rattle.java_tree.specs.Trees.{Ty, Typed, Base, Plain, Named, Parts, no_part, part_then, Part, Bare, Generic}
use Rattle.java_tree.specs.Trees.{Arguments, Angled, ArgumentList, no_argument, argument_then, Argument, Exact, Any}
use Rattle.java_tree.specs.Trees.{Extends, Super, Expr, Assign, Conditional, Binary, InstanceOf, Prefix, Cast}
use Rattle.java_tree.specs.Trees.{Postfix, Literal, This, Name, Paren, Field, Index, Call, CallOn, ClassOf, New}
use Rattle.java_tree.specs.Trees.{NewBody, Lambda, BlockLambda, Reference, TypeReference, SuperReference, PlainClass}
use Rattle.java_tree.specs.Trees.{ThisOf, LocalClass, TypeParameter, TypeParameters}
use Rattle.java_tree.specs.Trees.{NewArray, NewItems, Exprs, no_expr, expr_then, Array, Braces, Inits, no_init}
use Rattle.java_tree.specs.Trees.{init_then, Init, Value, Items, Variable, Locals, Start, Declares, Runs, Stmt}
use Rattle.java_tree.specs.Trees.{Block, Local, Run, If, IfElse, For, ForEach, Labelled, Empty, Stmts}
use Rattle.java_tree.specs.Trees.{no_stmt, stmt_then, Annotation, Modifier, Word, Annotated, Result, NoResult}
use Rattle.java_tree.specs.Trees.{VoidResult, TypeResult, Parameter, Method, Row, Pieces, no_piece, a_token, an_expr}
use Rattle.java_tree.specs.Trees.{maybe_an_expr, maybe_a_name, maybe_behind, a_condition, a_body, a_block}
use Rattle.java_tree.specs.Trees.{maybe_resources, a_catch_parameter, a_list, present, absent, some_part, a_switch}
use Rattle.java_tree.specs.Trees.{Several, no_row, row_then, Groups, no_group, group_then, Label, Case, Default}
use Rattle.java_tree.specs.Trees.{Resource, Resources, CatchParameter}

-- ---- lists

-- each behind a comma
abbrev pub behind_commas : {A : Type 0} → (A → List Spelled → List Spelled) → List A → List Spelled → List Spelled
behind_commas onto [] rest = rest
behind_commas onto (x ∷ xs) rest = sign (codes ",") ∷ onto x (behind_commas onto xs rest)

-- with commas between them
abbrev pub commas_onto : {A : Type 0} → (A → List Spelled → List Spelled) → List A → List Spelled → List Spelled
commas_onto onto [] rest = rest
commas_onto onto (x ∷ xs) rest = onto x (behind_commas onto xs rest)

-- each behind a point
abbrev pub behind_points : List (List ℕ) → List Spelled → List Spelled
behind_points [] rest = rest
behind_points (x ∷ xs) rest = sign (codes ".") ∷ identifier x ∷ behind_points xs rest

-- with points between them
abbrev pub names_onto : List (List ℕ) → List Spelled → List Spelled
names_onto [] rest = rest
names_onto (x ∷ xs) rest = identifier x ∷ behind_points xs rest

-- as many `[ ]`
abbrev pub brackets_onto : ℕ → List Spelled → List Spelled
brackets_onto zero rest = rest
brackets_onto (suc n) rest = sign (codes "[") ∷ sign (codes "]") ∷ brackets_onto n rest

-- the sign, where it stands
abbrev pub sign_where : Bool → (text : List ℕ) → List Spelled → List Spelled
sign_where true text rest = sign text ∷ rest
sign_where false text rest = rest

-- these tokens
abbrev pub tokens_onto : List Spelled → List Spelled → List Spelled
tokens_onto ts rest = ts ++ rest

-- ---- types (JLS 4)

abbrev mutual
  pub ty_onto : Ty → List Spelled → List Spelled
  ty_onto (Typed base arrays) rest = base_onto base (brackets_onto arrays rest)

  pub base_onto : Base → List Spelled → List Spelled
  base_onto (Plain text) rest = keyword text ∷ rest
  base_onto (Named ps) rest = parts_onto ps rest

  -- with points between them
  pub parts_onto : Parts → List Spelled → List Spelled
  parts_onto no_part rest = rest
  parts_onto (part_then p ps) rest = part_onto p (more_parts_onto ps rest)

  -- each behind a point
  pub more_parts_onto : Parts → List Spelled → List Spelled
  more_parts_onto no_part rest = rest
  more_parts_onto (part_then p ps) rest = sign (codes ".") ∷ part_onto p (more_parts_onto ps rest)

  pub part_onto : Part → List Spelled → List Spelled
  part_onto (Bare x) rest = identifier x ∷ rest
  part_onto (Generic x a) rest = identifier x ∷ angled_onto a rest

  pub angled_onto : Arguments → List Spelled → List Spelled
  angled_onto (Angled list glued) rest = sign (codes "<") ∷ arguments_onto list (sign_glued glued (codes ">") ∷ rest)

  -- with commas between them
  pub arguments_onto : ArgumentList → List Spelled → List Spelled
  arguments_onto no_argument rest = rest
  arguments_onto (argument_then a others) rest = argument_onto a (more_arguments_onto others rest)

  -- each behind a comma
  pub more_arguments_onto : ArgumentList → List Spelled → List Spelled
  more_arguments_onto no_argument rest = rest
  more_arguments_onto (argument_then a others) rest =
      sign (codes ",") ∷ argument_onto a (more_arguments_onto others rest)

  -- JLS 4.5.1
  pub argument_onto : Argument → List Spelled → List Spelled
  argument_onto (Exact t) rest = ty_onto t rest
  argument_onto Any rest = sign (codes "?") ∷ rest
  argument_onto (Extends t) rest = sign (codes "?") ∷ keyword (codes "extends") ∷ ty_onto t rest
  argument_onto (Super t) rest = sign (codes "?") ∷ keyword (codes "super") ∷ ty_onto t rest

-- each behind this sign
abbrev pub behind_sign : (text : List ℕ) → List Ty → List Spelled → List Spelled
behind_sign text [] rest = rest
behind_sign text (t ∷ ts) rest = sign text ∷ ty_onto t (behind_sign text ts rest)

-- with this sign between them
abbrev pub between_sign : (text : List ℕ) → List Ty → List Spelled → List Spelled
between_sign text [] rest = rest
between_sign text (t ∷ ts) rest = ty_onto t (behind_sign text ts rest)

abbrev pub maybe_angled_onto : Option Arguments → List Spelled → List Spelled
maybe_angled_onto None rest = rest
maybe_angled_onto (Some a) rest = angled_onto a rest

-- ---- expressions (JLS 15) and array initialisers (JLS 10.6)

-- what a method reference refers to, behind its `::` (JLS 15.13)
abbrev pub referred_onto : Option Arguments → (name : Option (List ℕ)) → List Spelled → List Spelled
referred_onto types None rest = maybe_angled_onto types (keyword (codes "new") ∷ rest)
referred_onto types (Some x) rest = maybe_angled_onto types (identifier x ∷ rest)

-- the shifts to the right are two or three `>`, each but the first glued
abbrev pub operator_onto : List ℕ → List Spelled → List Spelled
operator_onto text rest =
    if bytes_eq text (codes ">>") then sign (codes ">") ∷ sign_glued true (codes ">") ∷ rest
    else (if bytes_eq text (codes ">>>") then sign (codes ">") ∷ sign_glued true (codes ">")
    ∷ sign_glued true (codes ">") ∷ rest
    else sign text ∷ rest)

-- the last comma of an array initialiser, where it stands
abbrev pub last_comma_onto : Bool → List Spelled → List Spelled
last_comma_onto stands rest = sign_where stands (codes ",") rest

abbrev mutual
  pub expr_onto : Expr → List Spelled → List Spelled
  expr_onto (Assign a op b) rest = expr_onto a (sign op ∷ expr_onto b rest)
  expr_onto (Conditional a b c) rest =
      expr_onto a (sign (codes "?") ∷ expr_onto b (sign (codes ":") ∷ expr_onto c rest))
  expr_onto (Binary a op b) rest = expr_onto a (operator_onto op (expr_onto b rest))
  expr_onto (InstanceOf a t) rest = expr_onto a (keyword (codes "instanceof") ∷ ty_onto t rest)
  expr_onto (Prefix op a) rest = sign op ∷ expr_onto a rest
  expr_onto (Cast ts a) rest = sign (codes "(") ∷ between_sign (codes "&") ts (sign (codes ")") ∷ expr_onto a rest)
  expr_onto (Postfix a op) rest = expr_onto a (sign op ∷ rest)
  expr_onto (Literal k text) rest = word_of k text ∷ rest
  expr_onto This rest = keyword (codes "this") ∷ rest
  expr_onto (Name x) rest = identifier x ∷ rest
  expr_onto (Paren a) rest = sign (codes "(") ∷ expr_onto a (sign (codes ")") ∷ rest)
  expr_onto (Field a x) rest = expr_onto a (sign (codes ".") ∷ identifier x ∷ rest)
  expr_onto (Index a i) rest = expr_onto a (sign (codes "[") ∷ expr_onto i (sign (codes "]") ∷ rest))
  expr_onto (Call x all) rest = identifier x ∷ sign (codes "(") ∷ exprs_onto all (sign (codes ")") ∷ rest)
  expr_onto (CallOn a types x all) rest =
      expr_onto a (sign (codes ".") ∷
      maybe_angled_onto types (identifier x ∷ sign (codes "(") ∷ exprs_onto all (sign (codes ")") ∷ rest)))
  expr_onto (ClassOf xs) rest = names_onto xs (sign (codes ".") ∷ keyword (codes "class") ∷ rest)
  expr_onto (New t all) rest = keyword (codes "new") ∷ ty_onto t (sign (codes "(") ∷ exprs_onto all (sign (codes ")")
      ∷ rest))
  expr_onto (NewArray t lengths n) rest =
      keyword (codes "new") ∷ ty_onto t (lengths_onto lengths (brackets_onto n rest))
  expr_onto (NewItems t n items) rest = keyword (codes "new") ∷ ty_onto t (brackets_onto n (array_onto items rest))
  expr_onto (NewBody t all body) rest = keyword (codes "new") ∷ ty_onto t (sign (codes "(") ∷ exprs_onto all
      (sign (codes ")") ∷ tokens_onto body rest))
  expr_onto (Lambda ps a) rest = tokens_onto ps (sign (codes "->") ∷ expr_onto a rest)
  expr_onto (BlockLambda ps block) rest = tokens_onto ps (sign (codes "->") ∷ tokens_onto block rest)
  expr_onto (Reference a types x) rest = expr_onto a (sign (codes "::") ∷ referred_onto types x rest)
  expr_onto (TypeReference t types x) rest = ty_onto t (sign (codes "::") ∷ referred_onto types x rest)
  expr_onto (SuperReference types x) rest = keyword (codes "super") ∷ sign (codes "::") ∷ referred_onto types x rest
  expr_onto (PlainClass t) rest = ty_onto t (sign (codes ".") ∷ keyword (codes "class") ∷ rest)
  expr_onto (ThisOf xs) rest = names_onto xs (sign (codes ".") ∷ keyword (codes "this") ∷ rest)

  -- with commas between them
  pub exprs_onto : Exprs → List Spelled → List Spelled
  exprs_onto no_expr rest = rest
  exprs_onto (expr_then e es) rest = expr_onto e (more_exprs_onto es rest)

  -- each behind a comma
  pub more_exprs_onto : Exprs → List Spelled → List Spelled
  more_exprs_onto no_expr rest = rest
  more_exprs_onto (expr_then e es) rest = sign (codes ",") ∷ expr_onto e (more_exprs_onto es rest)

  -- each in brackets
  pub lengths_onto : Exprs → List Spelled → List Spelled
  lengths_onto no_expr rest = rest
  lengths_onto (expr_then e es) rest = sign (codes "[") ∷ expr_onto e (sign (codes "]") ∷ lengths_onto es rest)

  pub array_onto : Array → List Spelled → List Spelled
  array_onto (Braces items last_comma) rest =
      sign (codes "{") ∷ inits_onto items (last_comma_onto last_comma (sign (codes "}") ∷ rest))

  -- with commas between them
  pub inits_onto : Inits → List Spelled → List Spelled
  inits_onto no_init rest = rest
  inits_onto (init_then i is) rest = init_onto i (more_inits_onto is rest)

  -- each behind a comma
  pub more_inits_onto : Inits → List Spelled → List Spelled
  more_inits_onto no_init rest = rest
  more_inits_onto (init_then i is) rest = sign (codes ",") ∷ init_onto i (more_inits_onto is rest)

  pub init_onto : Init → List Spelled → List Spelled
  init_onto (Value e) rest = expr_onto e rest
  init_onto (Items items) rest = array_onto items rest

abbrev pub maybe_expr_onto : Option Expr → List Spelled → List Spelled
maybe_expr_onto None rest = rest
maybe_expr_onto (Some e) rest = expr_onto e rest

-- ---- modifiers (JLS 8.4.3, 9.7, 14.4)

-- JLS 9.7
abbrev pub annotation_onto : Annotation → List Spelled → List Spelled
annotation_onto n rest = sign (codes "@") ∷ names_onto n.names (n.arguments ++ rest)

abbrev pub annotations_onto : List Annotation → List Spelled → List Spelled
annotations_onto [] rest = rest
annotations_onto (n ∷ ns) rest = annotation_onto n (annotations_onto ns rest)

abbrev pub modifier_onto : Modifier → List Spelled → List Spelled
modifier_onto (Word text) rest = keyword text ∷ rest
modifier_onto (Annotated n) rest = annotation_onto n rest

abbrev pub modifiers_onto : List Modifier → List Spelled → List Spelled
modifiers_onto [] rest = rest
modifiers_onto (m ∷ ms) rest = modifier_onto m (modifiers_onto ms rest)

-- ---- statements (JLS 14)

-- `=` and what a variable begins with, where it stands
abbrev pub maybe_init_onto : Option Init → List Spelled → List Spelled
maybe_init_onto None rest = rest
maybe_init_onto (Some i) rest = sign (codes "=") ∷ init_onto i rest

abbrev pub variable_onto : Variable → List Spelled → List Spelled
variable_onto v rest = identifier v.name ∷ brackets_onto v.arrays (maybe_init_onto v.initialiser rest)

abbrev pub locals_onto : Locals → List Spelled → List Spelled
locals_onto l rest = modifiers_onto l.modifiers (ty_onto l.kind (commas_onto variable_onto l.variables rest))

abbrev pub start_onto : Start → List Spelled → List Spelled
start_onto (Declares l) rest = locals_onto l rest
start_onto (Runs all) rest = exprs_onto all rest

abbrev pub resource_onto : Resource → List Spelled → List Spelled
resource_onto r rest =
    modifiers_onto r.modifiers (ty_onto r.kind (identifier r.name ∷ sign (codes "=") ∷ expr_onto r.value rest))

-- each behind a `;`
abbrev pub more_resources_onto : List Resource → List Spelled → List Spelled
more_resources_onto [] rest = rest
more_resources_onto (r ∷ rs) rest = sign (codes ";") ∷ resource_onto r (more_resources_onto rs rest)

-- with `;` between them
abbrev pub resource_list_onto : List Resource → List Spelled → List Spelled
resource_list_onto [] rest = rest
resource_list_onto (r ∷ rs) rest = resource_onto r (more_resources_onto rs rest)

-- the last `;`, where it stands
abbrev pub last_semicolon_onto : Bool → List Spelled → List Spelled
last_semicolon_onto stands rest = sign_where stands (codes ";") rest

abbrev pub resources_onto : Resources → List Spelled → List Spelled
resources_onto rs rest =
    sign (codes "(") ∷ resource_list_onto rs.items (last_semicolon_onto rs.last (sign (codes ")") ∷ rest))

abbrev pub maybe_resources_onto : Option Resources → List Spelled → List Spelled
maybe_resources_onto None rest = rest
maybe_resources_onto (Some rs) rest = resources_onto rs rest

abbrev pub catch_parameter_onto : CatchParameter → List Spelled → List Spelled
catch_parameter_onto c rest =
    sign (codes "(") ∷
    modifiers_onto c.modifiers (between_sign (codes "|") c.types (identifier c.name ∷ sign (codes ")") ∷ rest))

abbrev pub label_onto : Label → List Spelled → List Spelled
label_onto (Case e) rest = keyword (codes "case") ∷ expr_onto e (sign (codes ":") ∷ rest)
label_onto Default rest = keyword (codes "default") ∷ sign (codes ":") ∷ rest

abbrev pub labels_onto : List Label → List Spelled → List Spelled
labels_onto [] rest = rest
labels_onto (l ∷ ls) rest = label_onto l (labels_onto ls rest)

abbrev pub maybe_name_onto : Option (List ℕ) → List Spelled → List Spelled
maybe_name_onto None rest = rest
maybe_name_onto (Some x) rest = identifier x ∷ rest

abbrev pub maybe_behind_onto : (text : List ℕ) → Option Expr → List Spelled → List Spelled
maybe_behind_onto text None rest = rest
maybe_behind_onto text (Some e) rest = sign text ∷ expr_onto e rest

abbrev mutual
  pub stmt_onto : Stmt → List Spelled → List Spelled
  stmt_onto (Block ss) rest = sign (codes "{") ∷ stmts_onto ss (sign (codes "}") ∷ rest)
  stmt_onto (Local l) rest = locals_onto l (sign (codes ";") ∷ rest)
  stmt_onto (Run e) rest = expr_onto e (sign (codes ";") ∷ rest)
  stmt_onto (If e s) rest = keyword (codes "if") ∷ sign (codes "(") ∷ expr_onto e (sign (codes ")")
      ∷ stmt_onto s rest)
  stmt_onto (IfElse e s t) rest =
      keyword (codes "if") ∷ sign (codes "(") ∷ expr_onto e (sign (codes ")") ∷ stmt_onto s (keyword (codes "else")
      ∷ stmt_onto t rest))
  stmt_onto (For start condition updates s) rest =
      keyword (codes "for") ∷ sign (codes "(") ∷
      start_onto start (sign (codes ";") ∷ maybe_expr_onto condition (sign (codes ";") ∷ exprs_onto updates
      (sign (codes ")") ∷ stmt_onto s rest)))
  stmt_onto (ForEach ms t x e s) rest =
      keyword (codes "for") ∷ sign (codes "(") ∷
      modifiers_onto ms (ty_onto t (identifier x ∷ sign (codes ":") ∷ expr_onto e (sign (codes ")")
      ∷ stmt_onto s rest)))
  stmt_onto (Labelled x s) rest = identifier x ∷ sign (codes ":") ∷ stmt_onto s rest
  stmt_onto (LocalClass x ts) rest = tokens_onto ts rest
  stmt_onto Empty rest = sign (codes ";") ∷ rest
  stmt_onto (Row word ps) rest = keyword word ∷ pieces_onto ps rest

  pub stmts_onto : Stmts → List Spelled → List Spelled
  stmts_onto no_stmt rest = rest
  stmts_onto (stmt_then s ss) rest = stmt_onto s (stmts_onto ss rest)

  pub pieces_onto : Pieces → List Spelled → List Spelled
  pieces_onto no_piece rest = rest
  pieces_onto (a_token t ps) rest = t ∷ pieces_onto ps rest
  pieces_onto (an_expr e ps) rest = expr_onto e (pieces_onto ps rest)
  pieces_onto (maybe_an_expr e ps) rest = maybe_expr_onto e (pieces_onto ps rest)
  pieces_onto (a_condition e ps) rest = sign (codes "(") ∷ expr_onto e (sign (codes ")") ∷ pieces_onto ps rest)
  pieces_onto (a_body s ps) rest = stmt_onto s (pieces_onto ps rest)
  pieces_onto (a_block ss ps) rest = sign (codes "{") ∷ stmts_onto ss (sign (codes "}") ∷ pieces_onto ps rest)
  pieces_onto (maybe_a_name x ps) rest = maybe_name_onto x (pieces_onto ps rest)
  pieces_onto (maybe_behind text e ps) rest = maybe_behind_onto text e (pieces_onto ps rest)
  pieces_onto (maybe_resources rs ps) rest = maybe_resources_onto rs (pieces_onto ps rest)
  pieces_onto (a_catch_parameter c ps) rest = catch_parameter_onto c (pieces_onto ps rest)
  pieces_onto (a_list word more ps) rest = several_onto word more (pieces_onto ps rest)
  pieces_onto (present word sub ps) rest = keyword word ∷ pieces_onto sub (pieces_onto ps rest)
  pieces_onto (absent word ps) rest = pieces_onto ps rest
  pieces_onto (some_part ps) rest = pieces_onto ps rest
  pieces_onto (a_switch gs ps) rest = sign (codes "{") ∷ groups_onto gs (sign (codes "}") ∷ pieces_onto ps rest)

  pub groups_onto : Groups → List Spelled → List Spelled
  groups_onto no_group rest = rest
  groups_onto (group_then labels ss gs) rest = labels_onto labels (stmts_onto ss (groups_onto gs rest))

  pub several_onto : (word : List ℕ) → Several → List Spelled → List Spelled
  several_onto word no_row rest = rest
  several_onto word (row_then ps more) rest = keyword word ∷ pieces_onto ps (several_onto word more rest)

abbrev pub block_onto : Stmts → List Spelled → List Spelled
block_onto ss rest = sign (codes "{") ∷ stmts_onto ss (sign (codes "}") ∷ rest)

-- ---- methods (JLS 8.4, 8.8)

abbrev pub result_onto : Result → List Spelled → List Spelled
result_onto NoResult rest = rest
result_onto VoidResult rest = keyword (codes "void") ∷ rest
result_onto (TypeResult t) rest = ty_onto t rest

-- JLS 8.4.1
abbrev pub parameter_onto : Parameter → List Spelled → List Spelled
parameter_onto p rest =
    modifiers_onto p.modifiers (ty_onto p.kind (sign_where p.any_number (codes "...") (identifier p.name
    ∷ brackets_onto p.arrays rest)))

-- JLS 4.4
abbrev pub bounds_onto : List Ty → List Spelled → List Spelled
bounds_onto [] rest = rest
bounds_onto (t ∷ ts) rest = keyword (codes "extends") ∷ between_sign (codes "&") (t ∷ ts) rest

abbrev pub type_parameter_onto : TypeParameter → List Spelled → List Spelled
type_parameter_onto p rest = annotations_onto p.annotations (identifier p.name ∷ bounds_onto p.bounds rest)

-- JLS 8.4.4
abbrev pub type_parameters_onto : Option TypeParameters → List Spelled → List Spelled
type_parameters_onto None rest = rest
type_parameters_onto (Some ps) rest =
    sign (codes "<") ∷
    commas_onto type_parameter_onto ps.items (sign_glued ps.glued (codes ">") ∷ modifiers_onto ps.modifiers rest)

-- JLS 8.4.6
abbrev pub throws_onto : List Ty → List Spelled → List Spelled
throws_onto [] rest = rest
throws_onto (t ∷ ts) rest = keyword (codes "throws") ∷ commas_onto ty_onto (t ∷ ts) rest

abbrev pub method_onto : Method → List Spelled → List Spelled
method_onto m rest =
    modifiers_onto m.modifiers (type_parameters_onto m.type_parameters (result_onto m.result (identifier m.name
    ∷ sign (codes "(") ∷
    commas_onto parameter_onto m.parameters (sign (codes ")") ∷ brackets_onto m.arrays (throws_onto m.throws
    (block_onto m.body rest))))))

-- the tokens of a method
abbrev pub spelling : Method → List Spelled
spelling m = method_onto m []
