-- Statements are made from those without places, and the places that are kept.
use Rattle.std.proofs.Common.{◌≡◌, true, false, List, [], ◌∷◌, Option, Some, None, map, refl, ap, sym, ◌∙◌}
use Rattle.std.proofs.Common.{subst, rules}
use Rattle.std.specs.Prelude.{option_map, Vec}
use Rattle.std.specs.Global.{Global}
use Rattle.java_tree.specs.declared.statements.ResourcesTree.{ResourcesTree}
use Rattle.java_tree.specs.declared.statements.CatchTree.{CatchTree, roll-CatchTree, map-CatchTree}
use Rattle.java_tree.specs.declared.statements.GroupTree.{GroupTree, roll-GroupTree, map-GroupTree}
use Rattle.java_tree.specs.declared.statements.TryTree.{TryTree, roll-TryTree, map-TryTree}
use Rattle.java_tree.specs.declared.statements.Statement.{Statement, roll-Statement, map-Statement}
use Rattle.java_tree.specs.declared.statements.Statement.TheOpen as statement
use Rattle.java_tree.specs.declared.statements.Statement.TheFolds.{ind-Statement, the_lemmas}
use Rattle.java_tree.specs.KeptPlaces.{Marks, some_onto, modifier_marks, types_places, behind_name}
use Rattle.java_tree.specs.KeptPlaces.{Places, Puts, each_puts, maybe_puts, expr_places, init_places}
use Rattle.java_tree.specs.KeptPlaces.{variable_places, locals_places, start_places, stmt_places, all_places}
use Rattle.java_tree.specs.KeptPlaces.{ty_places, name_places, resource_places, resources_places, label_places}
use Rattle.java_tree.specs.KeptPlaces as kept
use Rattle.java_tree.specs.Trees as view
use Rattle.java_tree.specs.View.{ty_of}
use Rattle.java_tree.specs.View as viewed
use Rattle.java_tree.proofs.TypeCounts.{ty_count}
use Rattle.core_lowering_rules.specs.Conditions.{kept_of}
use Rattle.core_lowering_rules.specs.Trees.{Variable, Declares, Runs, Resource, Stmt, Run, Local, If, IfElse, While, Do}
use Rattle.core_lowering_rules.specs.Trees.{For, ForEach, Sync, Return, Block, Throw, Labelled, Assert, Switch, Empty}
use Rattle.core_lowering_rules.specs.Trees.{expr_then}
use Rattle.core_lowering_rules.specs.Trees.{Expr, group_then, put_before, pack_exprs, pack_stmts, pack_catches}
use Rattle.core_lowering_rules.specs.Trees.{pack_groups}
use Rattle.core_lowering_rules.specs.Trees as trees
use Rattle.core_lowering_rules.specs.TreesOf.{expr_of, init_of, condition_of, is_true_in, variable_of, start_of}
use Rattle.core_lowering_rules.specs.TreesOf.{resource_of, resources_of, label_of, tried, stmt_of}
use Rattle.core_lowering_rules.specs.TreesOf as lowered
use Rattle.core_lowering_rules.proofs.FilledTrees.{ident, one, two, behind, skip, caught, caught_then}
use Rattle.core_lowering_rules.proofs.FilledTrees.{Filled, filled, one-is, two-is, three-is, four-is, expr, exprs}
use Rattle.core_lowering_rules.proofs.FilledTrees.{each, maybe, stmt, stmts, clauses}
use Rattle.core_lowering_rules.proofs.FilledTrees.{clause, condition, jumped}
use Rattle.core_lowering_rules.proofs.FilledTrees.{label, groups}
use Rattle.core_lowering_rules.proofs.FilledExpressions.{type-behind, types-passed, expr-is}
use Rattle.core_lowering_rules.proofs.KeptMarks.{each-passed, modifier-passed, tokens-passed}
use Rattle.core_lowering_rules.proofs.FilledParts.{some-filled, all-filled, locals-filled, start-filled, condition-is}
use Rattle.core_lowering_rules.proofs.FilledParts.{maybe-condition, name-filled, resources-filled, labels-filled}

-- ---- statements

abbrev pub HasStmt : Statement → Type 0
HasStmt s = (rest : Marks) → stmt (viewed.stmt_of s) (kept_of (stmt_places s rest)) ≡ filled (stmt_of s) (kept_of rest)

-- catch clauses, groups, and a `try` of its parts
abbrev HasCatch : CatchTree → Type 0
HasCatch c =
    (rest : Marks) → clause (viewed.catch_of c) (kept_of (kept.catch_places c rest))
    ≡ filled (lowered.catch_of c) (kept_of rest)

abbrev group_seen : viewed.Group → Places → Filled lowered.Group
group_seen g ps = two (λ ls ss. (ls, ss)) (each label g.0 ps) (stmts g.1)

abbrev HasGroup : GroupTree → Type 0
HasGroup g =
    (rest : Marks) → group_seen (viewed.group_of g) (kept_of (kept.group_places g rest))
    ≡ filled (lowered.group_of g) (kept_of rest)

abbrev HasTry : TryTree → Type 0
HasTry t =
    (rest : Marks) → stmt (viewed.try_of t) (kept_of (kept.try_places t rest))
    ≡ filled (lowered.try_of t) (kept_of rest)

abbrev Stmts : Type 0
Stmts = (s : Statement) × HasStmt s

abbrev Catches : Type 0
Catches = (c : CatchTree) × HasCatch c

abbrev Groups : Type 0
Groups = (g : GroupTree) × HasGroup g

abbrev Tries : Type 0
Tries = (t : TryTree) × HasTry t

abbrev Layer : Type 0
Layer = statement.Statement-F Stmts Catches Groups Tries

abbrev Plain : Type 0
Plain = statement.Statement-F Statement CatchTree GroupTree TryTree

abbrev plain : Layer → Plain
plain y =
    map-Statement Stmts Catches Groups Tries Statement CatchTree GroupTree TryTree (λ s. s.0) (λ c. c.0) (λ g. g.0)
    (λ t. t.0) y

abbrev places_in : Plain → Puts
places_in x =
    kept.stmt_step
    (map-Statement Statement CatchTree GroupTree TryTree Puts Puts Puts Puts stmt_places kept.catch_places
    kept.group_places kept.try_places x)

abbrev viewed_in : Plain → view.Stmt
viewed_in x =
    viewed.stmt_step
    (map-Statement Statement CatchTree GroupTree TryTree view.Stmt view.Pieces viewed.Group view.Stmt viewed.stmt_of
    viewed.catch_of viewed.group_of viewed.try_of x)

abbrev lowered_in : Plain → Stmt
lowered_in x =
    lowered.stmt_step
    (map-Statement Statement CatchTree GroupTree TryTree Stmt lowered.Clause lowered.Group Stmt stmt_of lowered.catch_of
    lowered.group_of
    lowered.try_of x)

abbrev plain_all : List Stmts → List Statement
plain_all ss = map (λ s. s.0) ss

abbrev of : Stmts → Places → Filled Stmt
of s = stmt (viewed.stmt_of s.0)

-- ---- one layer

parts-filled : (ss : List Stmts) (rest : Marks)
    → stmts (view.pack_stmts (map viewed.stmt_of (plain_all ss)))
    (kept_of (each_puts (map stmt_places (plain_all ss)) rest))
    ≡ filled (pack_stmts (map stmt_of (plain_all ss))) (kept_of rest)
parts-filled [] rest = refl
parts-filled (s ∷ ss) rest =
    two-is put_before (stmts (view.pack_stmts (map viewed.stmt_of (plain_all ss))))
    (s.1 (each_puts (map stmt_places (plain_all ss)) rest)) (parts-filled ss rest)

abbrev plain_groups : List Groups → List GroupTree
plain_groups gs = map (λ g. g.0) gs

abbrev before_groups : lowered.Group → trees.Groups → trees.Groups
before_groups g gs = group_then g.0 g.1 gs

groups-filled : (gs : List Groups) (rest : Marks)
    → groups (viewed.pack_groups (map viewed.group_of (plain_groups gs)))
    (kept_of (each_puts (map kept.group_places (plain_groups gs)) rest))
    ≡ filled (pack_groups (map lowered.group_of (plain_groups gs))) (kept_of rest)
groups-filled [] rest = refl
groups-filled (g ∷ gs) rest =
    two-is before_groups (groups (viewed.pack_groups (map viewed.group_of (plain_groups gs))))
    (g.1 (each_puts (map kept.group_places (plain_groups gs)) rest)) (groups-filled gs rest)

stmt-filled : (y : Layer) (rest : Marks)
    → stmt (viewed_in (plain y)) (kept_of (places_in (plain y) rest)) ≡ filled (lowered_in (plain y)) (kept_of rest)
stmt-filled (statement.Block ss) rest = one-is Block (parts-filled ss.items rest)
stmt-filled (statement.Local l) rest = one-is (Local (ty_of l.kind)) (locals-filled l rest)
stmt-filled (statement.Expr e) rest = one-is Run (expr-is e rest)
stmt-filled (statement.If e s None) rest =
    two-is If (of s.value) (expr-is e (stmt_places s.value.0 rest)) (s.value.1 rest)
stmt-filled (statement.If e s (Some t)) rest =
    three-is IfElse (of s.value) (of t.value) (expr-is e (stmt_places s.value.0 (stmt_places t.value.0 rest)))
    (s.value.1 (stmt_places t.value.0 rest)) (t.value.1 rest)
stmt-filled (statement.While e s) rest =
    two-is While (of s.value) (condition-is e (stmt_places s.value.0 rest)) (s.value.1 rest)
stmt-filled (statement.For i c updates s) rest =
    let last = stmt_places s.value.0 rest in
    let third = each_puts (map expr_places updates.items) last in
    four-is For (maybe condition (option_map viewed.expr_of c))
    (exprs (view.pack_exprs (map viewed.expr_of updates.items))) (of s.value)
    (start-filled i (maybe_puts (option_map expr_places c) third)) (maybe-condition c third)
    (all-filled updates.items last) (s.value.1 rest)
stmt-filled (statement.ForEach v e s) rest =
    let last = name_places v.name (expr_places e (stmt_places s.value.0 rest)) in
    let each_of = λ (ps : Places). two (ForEach (ty_of v.kind) (ident v.name.text ps))
    (expr (viewed.expr_of e) (behind ps)) (of s.value) in
    ap (λ ps. each_of (skip (ty_count (ty_of v.kind)) ps))
    (each-passed modifier_marks modifier-passed v.modifiers (some_onto (ty_places v.kind) last))
    ∙ type-behind v.kind each_of last
    (two-is (ForEach (ty_of v.kind) v.name) (of s.value) (expr-is e (stmt_places s.value.0 rest)) (s.value.1 rest))
stmt-filled (statement.Sync place e ss) rest =
    two-is (Sync place) (stmts (view.pack_stmts (map viewed.stmt_of (plain_all ss.items))))
    (expr-is e (each_puts (map stmt_places (plain_all ss.items)) rest)) (parts-filled ss.items rest)
stmt-filled (statement.Return e) rest = one-is Return (some-filled e rest)
stmt-filled statement.Empty rest = refl
stmt-filled (statement.LocalClass x ts) rest = ap (filled Empty) (tokens-passed (behind_name ts) rest)
stmt-filled (statement.Do s e) rest =
    two-is Do (condition (viewed.expr_of e)) (s.value.1 (expr_places e rest)) (condition-is e rest)
stmt-filled (statement.Throw place e) rest = one-is (Throw place) (expr-is e rest)
stmt-filled (statement.Break x) rest = one-is (jumped true) (name-filled x rest)
stmt-filled (statement.Continue x) rest = one-is (jumped false) (name-filled x rest)
stmt-filled (statement.Labelled x s) rest = one-is (Labelled x) (s.value.1 rest)
stmt-filled (statement.Assert e f) rest =
    two-is Assert (maybe expr (option_map viewed.expr_of f)) (expr-is e (maybe_puts (option_map expr_places f) rest))
    (some-filled f rest)
stmt-filled (statement.Switch e gs) rest =
    two-is Switch (groups (viewed.pack_groups (map viewed.group_of (plain_groups gs.items))))
    (expr-is e (each_puts (map kept.group_places (plain_groups gs.items)) rest)) (groups-filled gs.items rest)
stmt-filled (statement.Try t) rest = t.value.1 rest

pub stmt-case : (y : Layer) → HasStmt (roll-Statement (plain y))
stmt-case y rest =
    let places : stmt_places (roll-Statement (plain y)) ≡ places_in (plain y) = search (rules, the_lemmas) in
    let seen : viewed.stmt_of (roll-Statement (plain y)) ≡ viewed_in (plain y) = search (rules, the_lemmas) in
    let lower : stmt_of (roll-Statement (plain y)) ≡ lowered_in (plain y) = search (rules, the_lemmas) in
    ap (λ (f : Puts). stmt (viewed.stmt_of (roll-Statement (plain y))) (kept_of (f rest))) places
    ∙ ap (λ v. stmt v (kept_of (places_in (plain y) rest))) seen ∙ stmt-filled y rest
    ∙ ap (λ (t : Stmt). filled t (kept_of rest)) (sym lower)

pub stmt-has : (x : Plain) (y : Layer) → plain y ≡ x → HasStmt (roll-Statement x)
stmt-has x y is = subst (λ z. HasStmt (roll-Statement z)) is (stmt-case y)

-- ---- catch clauses

abbrev CatchLayer : Type 0
CatchLayer = statement.CatchTree-F Stmts Catches Groups Tries

abbrev PlainCatch : Type 0
PlainCatch = statement.CatchTree-F Statement CatchTree GroupTree TryTree

abbrev plain_catch : CatchLayer → PlainCatch
plain_catch y =
    map-CatchTree Stmts Catches Groups Tries Statement CatchTree GroupTree TryTree (λ s. s.0) (λ c. c.0) (λ g. g.0)
    (λ t. t.0) y

abbrev catch_places_in : PlainCatch → Puts
catch_places_in x =
    kept.catch_step
    (map-CatchTree Statement CatchTree GroupTree TryTree Puts Puts Puts Puts stmt_places kept.catch_places
    kept.group_places kept.try_places x)

abbrev catch_viewed_in : PlainCatch → view.Pieces
catch_viewed_in x =
    viewed.catch_step
    (map-CatchTree Statement CatchTree GroupTree TryTree view.Stmt view.Pieces viewed.Group view.Stmt viewed.stmt_of
    viewed.catch_of viewed.group_of viewed.try_of x)

abbrev catch_lowered_in : PlainCatch → lowered.Clause
catch_lowered_in x =
    lowered.catch_step
    (map-CatchTree Statement CatchTree GroupTree TryTree Stmt lowered.Clause lowered.Group Stmt stmt_of lowered.catch_of
    lowered.group_of lowered.try_of x)

catch-filled : (y : CatchLayer) (rest : Marks)
    → clause (catch_viewed_in (plain_catch y)) (kept_of (catch_places_in (plain_catch y) rest))
    ≡ filled (catch_lowered_in (plain_catch y)) (kept_of rest)
catch-filled y rest =
    let p = y.parameter in
    let body = each_puts (map stmt_places (plain_all y.body.items)) rest in
    let seen = stmts (view.pack_stmts (map viewed.stmt_of (plain_all y.body.items))) in
    let from = types_places p.types (name_places p.name body) in
    ap (λ qs. clause (catch_viewed_in (plain_catch y)) qs) (each-passed modifier_marks modifier-passed p.modifiers from)
    ∙ ap (λ qs. one (caught (ident p.name.text qs)) (seen (behind qs))) (types-passed p.types (name_places p.name body))
    ∙ one-is (caught p.name) (parts-filled y.body.items rest)

pub catch-case : (y : CatchLayer) → HasCatch (roll-CatchTree (plain_catch y))
catch-case y rest =
    let x = plain_catch y in
    let places : kept.catch_places (roll-CatchTree x) ≡ catch_places_in x = search (rules, the_lemmas) in
    let seen : viewed.catch_of (roll-CatchTree x) ≡ catch_viewed_in x = search (rules, the_lemmas) in
    let lower : lowered.catch_of (roll-CatchTree x) ≡ catch_lowered_in x = search (rules, the_lemmas) in
    ap (λ (f : Puts). clause (viewed.catch_of (roll-CatchTree x)) (kept_of (f rest))) places
    ∙ ap (λ v. clause v (kept_of (catch_places_in x rest))) seen
    ∙ catch-filled y rest
    ∙ ap (λ (c : lowered.Clause). filled c (kept_of rest)) (sym lower)

pub catch-has : (x : PlainCatch) (y : CatchLayer) → plain_catch y ≡ x → HasCatch (roll-CatchTree x)
catch-has x y is = subst (λ z. HasCatch (roll-CatchTree z)) is (catch-case y)

-- ---- groups

abbrev GroupLayer : Type 0
GroupLayer = statement.GroupTree-F Stmts Catches Groups Tries

abbrev PlainGroup : Type 0
PlainGroup = statement.GroupTree-F Statement CatchTree GroupTree TryTree

abbrev plain_group : GroupLayer → PlainGroup
plain_group y =
    map-GroupTree Stmts Catches Groups Tries Statement CatchTree GroupTree TryTree (λ s. s.0) (λ c. c.0) (λ g. g.0)
    (λ t. t.0) y

abbrev group_places_in : PlainGroup → Puts
group_places_in x =
    kept.group_step
    (map-GroupTree Statement CatchTree GroupTree TryTree Puts Puts Puts Puts stmt_places kept.catch_places
    kept.group_places kept.try_places x)

abbrev group_viewed_in : PlainGroup → viewed.Group
group_viewed_in x =
    viewed.group_step
    (map-GroupTree Statement CatchTree GroupTree TryTree view.Stmt view.Pieces viewed.Group view.Stmt viewed.stmt_of
    viewed.catch_of viewed.group_of viewed.try_of x)

abbrev group_lowered_in : PlainGroup → lowered.Group
group_lowered_in x =
    lowered.group_step
    (map-GroupTree Statement CatchTree GroupTree TryTree Stmt lowered.Clause lowered.Group Stmt stmt_of
    lowered.catch_of lowered.group_of lowered.try_of x)

group-filled : (y : GroupLayer) (rest : Marks)
    → group_seen (group_viewed_in (plain_group y)) (kept_of (group_places_in (plain_group y) rest))
    ≡ filled (group_lowered_in (plain_group y)) (kept_of rest)
group-filled y rest =
    two-is (λ (ls : List (Option Expr)) (ss : trees.Stmts). (ls, ss))
    (stmts (view.pack_stmts (map viewed.stmt_of (plain_all y.body.items))))
    (labels-filled y.labels (each_puts (map stmt_places (plain_all y.body.items)) rest))
    (parts-filled y.body.items rest)

group-case : (y : GroupLayer) → HasGroup (roll-GroupTree (plain_group y))
group-case y rest =
    let x = plain_group y in
    let places : kept.group_places (roll-GroupTree x) ≡ group_places_in x = search (rules, the_lemmas) in
    let seen : viewed.group_of (roll-GroupTree x) ≡ group_viewed_in x = search (rules, the_lemmas) in
    let lower : lowered.group_of (roll-GroupTree x) ≡ group_lowered_in x = search (rules, the_lemmas) in
    ap (λ (f : Puts). group_seen (viewed.group_of (roll-GroupTree x)) (kept_of (f rest))) places
    ∙ ap (λ (v : viewed.Group). group_seen v (kept_of (group_places_in x rest))) seen ∙ group-filled y rest
    ∙ ap (λ (g : lowered.Group). filled g (kept_of rest)) (sym lower)

group-has : (x : PlainGroup) (y : GroupLayer) → plain_group y ≡ x → HasGroup (roll-GroupTree x)
group-has x y is = subst (λ z. HasGroup (roll-GroupTree z)) is (group-case y)

-- ---- a `try`

abbrev TryLayer : Type 0
TryLayer = statement.TryTree-F Stmts Catches Groups Tries

abbrev PlainTry : Type 0
PlainTry = statement.TryTree-F Statement CatchTree GroupTree TryTree

abbrev plain_try : TryLayer → PlainTry
plain_try y =
    map-TryTree Stmts Catches Groups Tries Statement CatchTree GroupTree TryTree (λ s. s.0) (λ c. c.0) (λ g. g.0)
    (λ t. t.0) y

abbrev try_places_in : PlainTry → Puts
try_places_in x =
    kept.try_step
    (map-TryTree Statement CatchTree GroupTree TryTree Puts Puts Puts Puts stmt_places kept.catch_places
    kept.group_places kept.try_places x)

abbrev try_viewed_in : PlainTry → view.Stmt
try_viewed_in x =
    viewed.try_step
    (map-TryTree Statement CatchTree GroupTree TryTree view.Stmt view.Pieces viewed.Group view.Stmt viewed.stmt_of
    viewed.catch_of viewed.group_of viewed.try_of x)

abbrev try_lowered_in : PlainTry → Stmt
try_lowered_in x =
    lowered.try_step
    (map-TryTree Statement CatchTree GroupTree TryTree Stmt lowered.Clause lowered.Group Stmt stmt_of lowered.catch_of
    lowered.group_of lowered.try_of x)

abbrev plain_catches : List Catches → List CatchTree
plain_catches cs = map (λ c. c.0) cs

clauses-filled : (cs : List Catches) (rest : Marks)
    → clauses (viewed.pack_rows (map viewed.catch_of (plain_catches cs)))
    (kept_of (each_puts (map kept.catch_places (plain_catches cs)) rest))
    ≡ filled (pack_catches (map lowered.catch_of (plain_catches cs))) (kept_of rest)
clauses-filled [] rest = refl
clauses-filled (c ∷ cs) rest =
    two-is caught_then (clauses (viewed.pack_rows (map viewed.catch_of (plain_catches cs))))
    (c.1 (each_puts (map kept.catch_places (plain_catches cs)) rest)) (clauses-filled cs rest)

abbrev of_parts : Option ResourcesTree → Vec Stmts Global → Vec Catches Global → Option (Vec Stmts Global) → TryLayer
of_parts rs body cs finally = record { resources = rs; body = body; clauses = cs; finally = finally }

abbrev TryFilled : TryLayer → Type 0
TryFilled y =
    (rest : Marks)
    → stmt (try_viewed_in (plain_try y)) (kept_of (try_places_in (plain_try y) rest))
    ≡ filled (try_lowered_in (plain_try y)) (kept_of rest)

parts-tried : (rs : Option ResourcesTree) (body : Vec Stmts Global) (cs : Vec Catches Global)
    (finally : Option (Vec Stmts Global)) → TryFilled (of_parts rs body cs finally)
parts-tried rs body cs (Some finally) rest =
    let last = each_puts (map stmt_places (plain_all finally.items)) rest in
    let third = each_puts (map kept.catch_places (plain_catches cs.items)) last in
    let block = stmts (view.pack_stmts (map viewed.stmt_of (plain_all finally.items))) in
    four-is tried (stmts (view.pack_stmts (map viewed.stmt_of (plain_all body.items))))
    (clauses (viewed.pack_rows (map viewed.catch_of (plain_catches cs.items)))) (λ ps. one Some (block ps))
    (resources-filled rs (each_puts (map stmt_places (plain_all body.items)) third))
    (parts-filled body.items third) (clauses-filled cs.items last)
    (one-is Some (parts-filled finally.items rest))
parts-tried rs body cs None rest =
    let third = each_puts (map kept.catch_places (plain_catches cs.items)) rest in
    four-is tried (stmts (view.pack_stmts (map viewed.stmt_of (plain_all body.items))))
    (clauses (viewed.pack_rows (map viewed.catch_of (plain_catches cs.items)))) (λ ps. filled None ps)
    (resources-filled rs (each_puts (map stmt_places (plain_all body.items)) third))
    (parts-filled body.items third) (clauses-filled cs.items rest) refl

try-filled : (y : TryLayer) → TryFilled y
try-filled y = parts-tried y.resources y.body y.clauses y.finally

pub try-case : (y : TryLayer) → HasTry (roll-TryTree (plain_try y))
try-case y rest =
    let x = plain_try y in
    let places : kept.try_places (roll-TryTree x) ≡ try_places_in x = search (rules, the_lemmas) in
    let seen : viewed.try_of (roll-TryTree x) ≡ try_viewed_in x = search (rules, the_lemmas) in
    let lower : lowered.try_of (roll-TryTree x) ≡ try_lowered_in x = search (rules, the_lemmas) in
    ap (λ (f : Puts). stmt (viewed.try_of (roll-TryTree x)) (kept_of (f rest))) places
    ∙ ap (λ v. stmt v (kept_of (try_places_in x rest))) seen ∙ try-filled y rest
    ∙ ap (λ (t : Stmt). filled t (kept_of rest)) (sym lower)

pub try-has : (x : PlainTry) (y : TryLayer) → plain_try y ≡ x → HasTry (roll-TryTree x)
try-has x y is = subst (λ z. HasTry (roll-TryTree z)) is (try-case y)

-- ---- all

pub stmt-is : (s : Statement) → HasStmt s
stmt-is = ind-Statement HasStmt HasCatch HasGroup HasTry stmt-has catch-has group-has try-has

pub stmts-are : (ss : List Statement) (rest : Marks)
    → stmts (view.pack_stmts (map viewed.stmt_of ss)) (kept_of (each_puts (map stmt_places ss) rest))
    ≡ filled (pack_stmts (map stmt_of ss)) (kept_of rest)
stmts-are [] rest = refl
stmts-are (s ∷ ss) rest =
    two-is put_before (stmts (view.pack_stmts (map viewed.stmt_of ss)))
    (stmt-is s (each_puts (map stmt_places ss) rest)) (stmts-are ss rest)
