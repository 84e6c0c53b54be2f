-- The marks of a statement have the shape that its view tells.
use Rattle.std.proofs.Common.{◌≡◌, true, List, [], ◌∷◌, Option, Some, None, map, option_map, if◌then◌else◌}
use Rattle.std.proofs.Common.{refl, sym, ap, subst, ◌∙◌, rules}
use Rattle.std.specs.Global.{Vec}
use Rattle.java_lexer.specs.declared.token.TokenKind.TheVariants as kind
use Rattle.java_tree.specs.declared.statements.VariableTree.{VariableTree}
use Rattle.java_tree.specs.declared.statements.LocalsTree.{LocalsTree}
use Rattle.java_tree.specs.declared.statements.StartTree.{StartTree}
use Rattle.java_tree.specs.declared.statements.StartTree.TheVariants as start
use Rattle.java_tree.specs.declared.statements.ResourceTree.{ResourceTree}
use Rattle.java_tree.specs.declared.statements.ResourcesTree.{ResourcesTree}
use Rattle.java_tree.specs.declared.statements.CatchParameterTree.{CatchParameterTree}
use Rattle.java_tree.specs.declared.statements.LabelTree.{LabelTree}
use Rattle.java_tree.specs.declared.statements.LabelTree.TheVariants as label
use Rattle.java_tree.specs.declared.statements.Statement.{Statement, roll-Statement, map-Statement}
use Rattle.java_tree.specs.declared.statements.CatchTree.{CatchTree, roll-CatchTree, map-CatchTree}
use Rattle.java_tree.specs.declared.statements.GroupTree.{GroupTree, roll-GroupTree, map-GroupTree}
use Rattle.java_tree.specs.declared.statements.TryTree.{TryTree, roll-TryTree, map-TryTree}
use Rattle.java_tree.specs.declared.statements.Statement.TheOpen as statement
use Rattle.java_tree.specs.declared.statements.Statement.TheFolds.{ind-Statement, the_lemmas}
use Rattle.java_tree.specs.KeptPlaces.{Marks, Puts, is_kept, some_onto, no_places, each_puts, maybe_puts, name_places}
use Rattle.java_tree.specs.KeptPlaces.{ty_places, types_places, expr_places, init_places, variable_places}
use Rattle.java_tree.specs.KeptPlaces.{locals_places}
use Rattle.java_tree.specs.KeptPlaces.{start_places, resource_places, resources_places, catch_parameter_places}
use Rattle.java_tree.specs.KeptPlaces.{label_places, stmt_places, catch_places, group_places, try_places, behind_name}
use Rattle.java_tree.specs.KeptPlaces as kept
use Rattle.java_tree.specs.Trees.{Variable, Locals, Start, Declares, Runs, Resource, Resources, CatchParameter, Label}
use Rattle.java_tree.specs.Trees.{Case, Default, Stmt, Block, Local, Run, If, IfElse, For, ForEach, Labelled}
use Rattle.java_tree.specs.Trees.{LocalClass}
use Rattle.java_tree.specs.Trees.{Empty, Row, no_stmt, stmt_then, Pieces, no_piece, a_token, an_expr, maybe_an_expr}
use Rattle.java_tree.specs.Trees.{maybe_a_name, maybe_behind, a_condition, a_body, a_block, maybe_resources}
use Rattle.java_tree.specs.Trees.{a_catch_parameter, a_list, present, absent, some_part, a_switch, no_group, group_then}
use Rattle.java_tree.specs.Trees.{Several, no_row, row_then, pack_stmts}
use Rattle.java_tree.specs.Trees as view
use Rattle.java_tree.specs.View.{Group, name_of, ty_of, expr_of, init_of, modifier_of, variable_of, locals_of, start_of}
use Rattle.java_tree.specs.View.{resource_of, resources_of, catch_parameter_of, label_of, stmt_of, catch_of, group_of}
use Rattle.java_tree.specs.View.{try_of, pack_rows, pack_groups}
use Rattle.java_tree.specs.View as viewed
use Rattle.java_parser_expressions.proofs.MarkShapes.{Shape, shape_of, Fits, lacking, named, each_shape, maybe_shape}
use Rattle.java_parser_expressions.proofs.MarkShapes.{modifier_shape, ty_shape, ty_fits, tys_fit, tokens_fit, each_fits}
use Rattle.java_parser_expressions.proofs.MarkShapes.{maybe_fits, modifiers_fit}
use Rattle.java_parser_expressions.proofs.ViewShapes.{expr_shape, exprs_shape, init_shape}
use Rattle.java_parser_expressions.proofs.ExpressionShapes.{expr_fits, init_fits, all_fit}

-- ---- shapes

abbrev variable_shape : Variable → Shape → Shape
variable_shape v rest = true ∷ maybe_shape init_shape v.initialiser rest

abbrev locals_shape : Locals → Shape → Shape
locals_shape l rest =
    each_shape modifier_shape l.modifiers (ty_shape l.kind (each_shape variable_shape l.variables rest))

abbrev start_shape : Start → Shape → Shape
start_shape (Declares l) rest = locals_shape l rest
start_shape (Runs es) rest = exprs_shape es rest

abbrev resource_shape : Resource → Shape → Shape
resource_shape r rest =
    each_shape modifier_shape r.modifiers (ty_shape r.kind (true ∷ expr_shape r.value rest))

abbrev resources_shape : Resources → Shape → Shape
resources_shape rs rest = each_shape resource_shape rs.items rest

abbrev catch_parameter_shape : CatchParameter → Shape → Shape
catch_parameter_shape p rest =
    each_shape modifier_shape p.modifiers (each_shape ty_shape p.types (true ∷ rest))

abbrev label_shape : Label → Shape → Shape
label_shape (Case e) rest = expr_shape e rest
label_shape Default rest = rest

abbrev mutual
  pub stmt_shape : Stmt → Shape → Shape
  stmt_shape (Block ss) rest = stmts_shape ss rest
  stmt_shape (Local l) rest = locals_shape l rest
  stmt_shape (Run e) rest = expr_shape e rest
  stmt_shape (If e s) rest = expr_shape e (stmt_shape s rest)
  stmt_shape (IfElse e s t) rest = expr_shape e (stmt_shape s (stmt_shape t rest))
  stmt_shape (For i condition updates s) rest =
      start_shape i (maybe_shape expr_shape condition (exprs_shape updates (stmt_shape s rest)))
  stmt_shape (ForEach ms t x e s) rest =
      each_shape modifier_shape ms (ty_shape t (true ∷ expr_shape e (stmt_shape s rest)))
  stmt_shape (Labelled x s) rest = true ∷ stmt_shape s rest
  stmt_shape (LocalClass x ts) rest = true ∷ each_shape lacking (behind_name ts) rest
  stmt_shape Empty rest = rest
  stmt_shape (Row word ps) rest =
      if is_kept kind.Keyword word then true ∷ pieces_shape ps rest else pieces_shape ps rest

  pub stmts_shape : view.Stmts → Shape → Shape
  stmts_shape no_stmt rest = rest
  stmts_shape (stmt_then s ss) rest = stmt_shape s (stmts_shape ss rest)

  pieces_shape : Pieces → Shape → Shape
  pieces_shape no_piece rest = rest
  pieces_shape (a_token t ps) rest = pieces_shape ps rest
  pieces_shape (an_expr e ps) rest = expr_shape e (pieces_shape ps rest)
  pieces_shape (maybe_an_expr e ps) rest = maybe_shape expr_shape e (pieces_shape ps rest)
  pieces_shape (maybe_a_name x ps) rest = maybe_shape named x (pieces_shape ps rest)
  pieces_shape (maybe_behind text e ps) rest = maybe_shape expr_shape e (pieces_shape ps rest)
  pieces_shape (a_condition e ps) rest = expr_shape e (pieces_shape ps rest)
  pieces_shape (a_body s ps) rest = stmt_shape s (pieces_shape ps rest)
  pieces_shape (a_block ss ps) rest = stmts_shape ss (pieces_shape ps rest)
  pieces_shape (maybe_resources rs ps) rest = maybe_shape resources_shape rs (pieces_shape ps rest)
  pieces_shape (a_catch_parameter p ps) rest = catch_parameter_shape p (pieces_shape ps rest)
  pieces_shape (a_list word more ps) rest = several_shape more (pieces_shape ps rest)
  pieces_shape (present word one ps) rest = pieces_shape one (pieces_shape ps rest)
  pieces_shape (absent word ps) rest = pieces_shape ps rest
  pieces_shape (some_part ps) rest = pieces_shape ps rest
  pieces_shape (a_switch gs ps) rest = groups_shape gs (pieces_shape ps rest)

  groups_shape : view.Groups → Shape → Shape
  groups_shape no_group rest = rest
  groups_shape (group_then ls ss gs) rest = each_shape label_shape ls (stmts_shape ss (groups_shape gs rest))

  several_shape : Several → Shape → Shape
  several_shape no_row rest = rest
  several_shape (row_then ps more) rest = pieces_shape ps (several_shape more rest)

abbrev group_shape : Group → Shape → Shape
group_shape g rest = each_shape label_shape g.0 (stmts_shape g.1 rest)

-- ---- parts of statements

variable_fits : (v : VariableTree) → Fits (variable_places v) (variable_shape (variable_of v))
variable_fits v rest =
    ap (λ (s : Shape). true ∷ s) (maybe_fits init_of init_places init_shape init_fits v.initialiser rest)

locals_fit : (l : LocalsTree) → Fits (locals_places l) (locals_shape (locals_of l))
locals_fit l rest =
    let last = each_puts (map variable_places l.variables) rest in
    modifiers_fit l.modifiers (some_onto (ty_places l.kind) last)
    ∙ ap (each_shape modifier_shape (map modifier_of l.modifiers)) (ty_fits l.kind last ∙ ap (ty_shape (ty_of l.kind))
    (each_fits variable_of variable_places variable_shape variable_fits l.variables rest))

start_fits : (i : StartTree) → Fits (start_places i) (start_shape (start_of i))
start_fits (start.Local l) rest = locals_fit l rest
start_fits (start.Expressions all) rest = all_fit all rest

resource_fits : (r : ResourceTree) → Fits (resource_places r) (resource_shape (resource_of r))
resource_fits r rest =
    let last = Some r.name.place ∷ expr_places r.value rest in
    modifiers_fit r.modifiers (some_onto (ty_places r.kind) last)
    ∙ ap (each_shape modifier_shape (map modifier_of r.modifiers)) (ty_fits r.kind last
    ∙ ap (λ (s : Shape). ty_shape (ty_of r.kind) (true ∷ s)) (expr_fits r.value rest))

resources_fit : (rs : ResourcesTree) → Fits (resources_places rs) (resources_shape (resources_of rs))
resources_fit rs = each_fits resource_of resource_places resource_shape resource_fits rs.items

parameter_fits : (p : CatchParameterTree)
    → Fits (catch_parameter_places p) (catch_parameter_shape (catch_parameter_of p))
parameter_fits p rest =
    let last = Some p.name.place ∷ rest in
    modifiers_fit p.modifiers (types_places p.types last)
    ∙ ap (each_shape modifier_shape (map modifier_of p.modifiers)) (tys_fit p.types last)

label_fits : (l : LabelTree) → Fits (label_places l) (label_shape (label_of l))
label_fits (label.Case e) rest = expr_fits e rest
label_fits label.Default rest = refl

-- ---- trees with what holds of them

abbrev pub HasStatement : Statement → Type 0
HasStatement s = Fits (stmt_places s) (stmt_shape (stmt_of s))

abbrev HasCatch : CatchTree → Type 0
HasCatch c = Fits (catch_places c) (pieces_shape (catch_of c))

abbrev HasGroup : GroupTree → Type 0
HasGroup g = Fits (group_places g) (group_shape (group_of g))

abbrev HasTry : TryTree → Type 0
HasTry t = Fits (try_places t) (stmt_shape (try_of t))

abbrev Stmts : Type 0
Stmts = (s : Statement) × HasStatement s

abbrev Catches : Type 0
Catches = (c : CatchTree) × HasCatch c

abbrev Groups : Type 0
Groups = (g : GroupTree) × HasGroup g

abbrev Tries : Type 0
Tries = (t : TryTree) × HasTry t

abbrev plain_stmts : List Stmts → List Statement
plain_stmts ss = map (λ s. s.0) ss

abbrev plain_catches : List Catches → List CatchTree
plain_catches cs = map (λ c. c.0) cs

abbrev plain_groups : List Groups → List GroupTree
plain_groups gs = map (λ g. g.0) gs

stmts_fit : (ss : List Stmts)
    → Fits (each_puts (map stmt_places (plain_stmts ss))) (stmts_shape (pack_stmts (map stmt_of (plain_stmts ss))))
stmts_fit [] rest = refl
stmts_fit (s ∷ ss) rest =
    s.1 (each_puts (map stmt_places (plain_stmts ss)) rest) ∙ ap (stmt_shape (stmt_of s.0)) (stmts_fit ss rest)

catches_fit : (cs : List Catches)
    → Fits (each_puts (map catch_places (plain_catches cs))) (several_shape (pack_rows (map catch_of
    (plain_catches cs))))
catches_fit [] rest = refl
catches_fit (c ∷ cs) rest =
    c.1 (each_puts (map catch_places (plain_catches cs)) rest) ∙ ap (pieces_shape (catch_of c.0)) (catches_fit cs rest)

groups_fit : (gs : List Groups)
    → Fits (each_puts (map group_places (plain_groups gs))) (groups_shape (pack_groups (map group_of
    (plain_groups gs))))
groups_fit [] rest = refl
groups_fit (g ∷ gs) rest =
    g.1 (each_puts (map group_places (plain_groups gs)) rest) ∙ ap (group_shape (group_of g.0)) (groups_fit gs rest)

-- ---- statements

abbrev StatementLayer : Type 0
StatementLayer = statement.Statement-F Stmts Catches Groups Tries

abbrev StatementPlain : Type 0
StatementPlain = statement.Statement-F Statement CatchTree GroupTree TryTree

abbrev plain_stmt : StatementLayer → StatementPlain
plain_stmt y =
    map-Statement Stmts Catches Groups Tries Statement CatchTree GroupTree TryTree (λ s. s.0) (λ c. c.0) (λ g. g.0)
    (λ t. t.0) y

abbrev stmt_puts : StatementPlain → Puts
stmt_puts x =
    kept.stmt_step (map-Statement Statement CatchTree GroupTree TryTree Puts Puts Puts Puts stmt_places catch_places
    group_places try_places x)

abbrev stmt_view : StatementPlain → Stmt
stmt_view x =
    viewed.stmt_step (map-Statement Statement CatchTree GroupTree TryTree Stmt Pieces Group Stmt stmt_of catch_of
    group_of try_of x)

stmt_layer : (y : StatementLayer) → Fits (stmt_puts (plain_stmt y)) (stmt_shape (stmt_view (plain_stmt y)))
stmt_layer (statement.Block ss) rest = stmts_fit ss.items rest
stmt_layer (statement.Local l) rest = locals_fit l rest
stmt_layer (statement.Expr e) rest = expr_fits e rest
stmt_layer (statement.If e s None) rest =
    expr_fits e (stmt_places s.value.0 rest) ∙ ap (expr_shape (expr_of e)) (s.value.1 rest)
stmt_layer (statement.If e s (Some t)) rest =
    expr_fits e (stmt_places s.value.0 (stmt_places t.value.0 rest))
    ∙ ap (expr_shape (expr_of e)) (s.value.1 (stmt_places t.value.0 rest)
    ∙ ap (stmt_shape (stmt_of s.value.0)) (t.value.1 rest))
stmt_layer (statement.While e s) rest =
    expr_fits e (stmt_places s.value.0 rest) ∙ ap (expr_shape (expr_of e)) (s.value.1 rest)
stmt_layer (statement.For i condition updates s) rest =
    let last = stmt_places s.value.0 rest in
    let third = each_puts (map expr_places updates.items) last in
    start_fits i (maybe_puts (option_map expr_places condition) third)
    ∙ ap (start_shape (start_of i)) (maybe_fits expr_of expr_places expr_shape expr_fits condition third
    ∙ ap (maybe_shape expr_shape (option_map expr_of condition)) (all_fit updates.items last
    ∙ ap (exprs_shape (view.pack_exprs (map expr_of updates.items))) (s.value.1 rest)))
stmt_layer (statement.ForEach v e s) rest =
    let last = Some v.name.place ∷ expr_places e (stmt_places s.value.0 rest) in
    modifiers_fit v.modifiers (some_onto (ty_places v.kind) last)
    ∙ ap (each_shape modifier_shape (map modifier_of v.modifiers)) (ty_fits v.kind last
    ∙ ap (λ (s : Shape). ty_shape (ty_of v.kind) (true ∷ s)) (expr_fits e (stmt_places s.value.0 rest)
    ∙ ap (expr_shape (expr_of e)) (s.value.1 rest)))
stmt_layer (statement.Sync place e ss) rest =
    ap (λ (s : Shape). true ∷ s) (expr_fits e (each_puts (map stmt_places (plain_stmts ss.items)) rest)
    ∙ ap (expr_shape (expr_of e)) (stmts_fit ss.items rest))
stmt_layer (statement.Return e) rest = maybe_fits expr_of expr_places expr_shape expr_fits e rest
stmt_layer statement.Empty rest = refl
stmt_layer (statement.Do s e) rest =
    s.value.1 (expr_places e rest) ∙ ap (stmt_shape (stmt_of s.value.0)) (expr_fits e rest)
stmt_layer (statement.Throw place e) rest = ap (λ (s : Shape). true ∷ s) (expr_fits e rest)
stmt_layer (statement.Break x) rest = maybe_fits name_of name_places named (λ y left. refl) x rest
stmt_layer (statement.Continue x) rest = maybe_fits name_of name_places named (λ y left. refl) x rest
stmt_layer (statement.Labelled x s) rest = ap (λ (s : Shape). true ∷ s) (s.value.1 rest)
stmt_layer (statement.Assert e f) rest =
    expr_fits e (maybe_puts (option_map expr_places f) rest)
    ∙ ap (expr_shape (expr_of e)) (maybe_fits expr_of expr_places expr_shape expr_fits f rest)
stmt_layer (statement.LocalClass x ts) rest = ap (λ (s : Shape). true ∷ s) (tokens_fit (behind_name ts) rest)
stmt_layer (statement.Switch e gs) rest =
    expr_fits e (each_puts (map group_places (plain_groups gs.items)) rest)
    ∙ ap (expr_shape (expr_of e)) (groups_fit gs.items rest)
stmt_layer (statement.Try t) rest = t.value.1 rest

stmt_has : (x : StatementPlain) (y : StatementLayer) → plain_stmt y ≡ x → HasStatement (roll-Statement x)
stmt_has x y is =
    let places : stmt_places (roll-Statement (plain_stmt y)) ≡ stmt_puts (plain_stmt y) = search (rules, the_lemmas) in
    let seen : stmt_of (roll-Statement (plain_stmt y)) ≡ stmt_view (plain_stmt y) = search (rules, the_lemmas) in
    subst (λ z. HasStatement (roll-Statement z)) is (λ rest. ap (λ (f : Puts). shape_of (f rest)) places
    ∙ (stmt_layer y rest ∙ ap (λ (v : Stmt). stmt_shape v (shape_of rest)) (sym seen)))

-- ---- catch clauses

abbrev CatchLayer : Type 0
CatchLayer = statement.CatchTree-F Stmts Catches Groups Tries

abbrev CatchPlain : Type 0
CatchPlain = statement.CatchTree-F Statement CatchTree GroupTree TryTree

abbrev plain_catch : CatchLayer → CatchPlain
plain_catch y =
    map-CatchTree Stmts Catches Groups Tries Statement CatchTree GroupTree TryTree (λ s. s.0) (λ c. c.0) (λ g. g.0)
    (λ t. t.0) y

abbrev catch_puts : CatchPlain → Puts
catch_puts x =
    kept.catch_step (map-CatchTree Statement CatchTree GroupTree TryTree Puts Puts Puts Puts stmt_places catch_places
    group_places try_places x)

abbrev catch_view : CatchPlain → Pieces
catch_view x =
    viewed.catch_step (map-CatchTree Statement CatchTree GroupTree TryTree Stmt Pieces Group Stmt stmt_of catch_of
    group_of try_of x)

catch_layer : (y : CatchLayer) → Fits (catch_puts (plain_catch y)) (pieces_shape (catch_view (plain_catch y)))
catch_layer y rest =
    parameter_fits y.parameter (each_puts (map stmt_places (plain_stmts y.body.items)) rest)
    ∙ ap (catch_parameter_shape (catch_parameter_of y.parameter)) (stmts_fit y.body.items rest)

catch_has : (x : CatchPlain) (y : CatchLayer) → plain_catch y ≡ x → HasCatch (roll-CatchTree x)
catch_has x y is =
    let places : catch_places (roll-CatchTree (plain_catch y)) ≡ catch_puts (plain_catch y) =
    search (rules, the_lemmas) in
    let seen : catch_of (roll-CatchTree (plain_catch y)) ≡ catch_view (plain_catch y) = search (rules, the_lemmas) in
    subst (λ z. HasCatch (roll-CatchTree z)) is (λ rest. ap (λ (f : Puts). shape_of (f rest)) places
    ∙ (catch_layer y rest ∙ ap (λ (v : Pieces). pieces_shape v (shape_of rest)) (sym seen)))

-- ---- groups

abbrev GroupLayer : Type 0
GroupLayer = statement.GroupTree-F Stmts Catches Groups Tries

abbrev GroupPlain : Type 0
GroupPlain = statement.GroupTree-F Statement CatchTree GroupTree TryTree

abbrev plain_group : GroupLayer → GroupPlain
plain_group y =
    map-GroupTree Stmts Catches Groups Tries Statement CatchTree GroupTree TryTree (λ s. s.0) (λ c. c.0) (λ g. g.0)
    (λ t. t.0) y

abbrev group_puts : GroupPlain → Puts
group_puts x =
    kept.group_step (map-GroupTree Statement CatchTree GroupTree TryTree Puts Puts Puts Puts stmt_places catch_places
    group_places try_places x)

abbrev group_view : GroupPlain → Group
group_view x =
    viewed.group_step (map-GroupTree Statement CatchTree GroupTree TryTree Stmt Pieces Group Stmt stmt_of catch_of
    group_of try_of x)

group_layer : (y : GroupLayer) → Fits (group_puts (plain_group y)) (group_shape (group_view (plain_group y)))
group_layer y rest =
    each_fits label_of label_places label_shape label_fits y.labels
    (each_puts (map stmt_places (plain_stmts y.body.items)) rest)
    ∙ ap (each_shape label_shape (map label_of y.labels)) (stmts_fit y.body.items rest)

group_has : (x : GroupPlain) (y : GroupLayer) → plain_group y ≡ x → HasGroup (roll-GroupTree x)
group_has x y is =
    let places : group_places (roll-GroupTree (plain_group y)) ≡ group_puts (plain_group y) =
    search (rules, the_lemmas) in
    let seen : group_of (roll-GroupTree (plain_group y)) ≡ group_view (plain_group y) = search (rules, the_lemmas) in
    subst (λ z. HasGroup (roll-GroupTree z)) is (λ rest. ap (λ (f : Puts). shape_of (f rest)) places
    ∙ (group_layer y rest ∙ ap (λ (v : Group). group_shape v (shape_of rest)) (sym seen)))

-- ---- a `try`

abbrev TryLayer : Type 0
TryLayer = statement.TryTree-F Stmts Catches Groups Tries

abbrev TryPlain : Type 0
TryPlain = statement.TryTree-F Statement CatchTree GroupTree TryTree

abbrev plain_try : TryLayer → TryPlain
plain_try y =
    map-TryTree Stmts Catches Groups Tries Statement CatchTree GroupTree TryTree (λ s. s.0) (λ c. c.0) (λ g. g.0)
    (λ t. t.0) y

abbrev try_puts : TryPlain → Puts
try_puts x =
    kept.try_step (map-TryTree Statement CatchTree GroupTree TryTree Puts Puts Puts Puts stmt_places catch_places
    group_places try_places x)

abbrev try_view : TryPlain → Stmt
try_view x =
    viewed.try_step (map-TryTree Statement CatchTree GroupTree TryTree Stmt Pieces Group Stmt stmt_of catch_of
    group_of try_of x)

abbrev of_parts : Option ResourcesTree → Vec Stmts → Vec Catches → Option (Vec Stmts) → TryLayer
of_parts rs body cs finally = record { resources = rs; body = body; clauses = cs; finally = finally }

try_case : (rs : Option ResourcesTree) (body : Vec Stmts) (cs : Vec Catches) (finally : Option (Vec Stmts))
    → Fits (try_puts (plain_try (of_parts rs body cs finally)))
    (stmt_shape (try_view (plain_try (of_parts rs body cs finally))))
try_case rs body cs None rest =
    let clauses = each_puts (map catch_places (plain_catches cs.items)) rest in
    maybe_fits resources_of resources_places resources_shape resources_fit rs
    (each_puts (map stmt_places (plain_stmts body.items)) clauses)
    ∙ ap (maybe_shape resources_shape (option_map resources_of rs)) (stmts_fit body.items clauses
    ∙ ap (stmts_shape (pack_stmts (map stmt_of (plain_stmts body.items)))) (catches_fit cs.items rest))
try_case rs body cs (Some finally) rest =
    let last = each_puts (map stmt_places (plain_stmts finally.items)) rest in
    let clauses = each_puts (map catch_places (plain_catches cs.items)) last in
    maybe_fits resources_of resources_places resources_shape resources_fit rs
    (each_puts (map stmt_places (plain_stmts body.items)) clauses)
    ∙ ap (maybe_shape resources_shape (option_map resources_of rs)) (stmts_fit body.items clauses
    ∙ ap (stmts_shape (pack_stmts (map stmt_of (plain_stmts body.items)))) (catches_fit cs.items last
    ∙ ap (several_shape (pack_rows (map catch_of (plain_catches cs.items)))) (stmts_fit finally.items rest)))

try_layer : (y : TryLayer) → Fits (try_puts (plain_try y)) (stmt_shape (try_view (plain_try y)))
try_layer y = try_case y.resources y.body y.clauses y.finally

try_has : (x : TryPlain) (y : TryLayer) → plain_try y ≡ x → HasTry (roll-TryTree x)
try_has x y is =
    let places : try_places (roll-TryTree (plain_try y)) ≡ try_puts (plain_try y) = search (rules, the_lemmas) in
    let seen : try_of (roll-TryTree (plain_try y)) ≡ try_view (plain_try y) = search (rules, the_lemmas) in
    subst (λ z. HasTry (roll-TryTree z)) is (λ rest. ap (λ (f : Puts). shape_of (f rest)) places
    ∙ (try_layer y rest ∙ ap (λ (v : Stmt). stmt_shape v (shape_of rest)) (sym seen)))

-- ---- all

pub stmt_fits : (s : Statement) → HasStatement s
stmt_fits = ind-Statement HasStatement HasCatch HasGroup HasTry stmt_has catch_has group_has try_has

pub all_stmts_fit : (ss : List Statement)
    → Fits (each_puts (map stmt_places ss)) (stmts_shape (pack_stmts (map stmt_of ss)))
all_stmts_fit [] rest = refl
all_stmts_fit (s ∷ ss) rest =
    stmt_fits s (each_puts (map stmt_places ss) rest) ∙ ap (stmt_shape (stmt_of s)) (all_stmts_fit ss rest)
