-- Statements that are lowered are placed where the places that the code's trees keep are.
use Rattle.std.proofs.Common.{◌≡◌, Bool, List, [], ◌∷◌, Option, Some, None, map}
use Rattle.std.proofs.Common.{sym, subst, rules}
use Rattle.std.specs.Prelude.{option_map, Vec}
use Rattle.std.specs.Global.{Global}
use Rattle.java_tree.specs.declared.statements.ResourcesTree.{ResourcesTree}
use Rattle.racer_base.specs.declared.ids.Place.{Place}
use Rattle.java_tree.specs.declared.statements.Statement.{Statement, roll-Statement, map-Statement}
use Rattle.java_tree.specs.declared.statements.CatchTree.{CatchTree, roll-CatchTree, map-CatchTree}
use Rattle.java_tree.specs.declared.statements.GroupTree.{GroupTree, roll-GroupTree, map-GroupTree}
use Rattle.java_tree.specs.declared.statements.TryTree.{TryTree, roll-TryTree, map-TryTree}
use Rattle.java_tree.specs.declared.statements.Statement.TheOpen as statement
use Rattle.java_tree.specs.declared.statements.Statement.TheFolds.{ind-Statement}
use Rattle.java_tree.specs.declared.statements.Statement.TheFolds as statements
use Rattle.java_tree.specs.KeptPlaces.{Puts, each_puts, maybe_puts, name_places, ty_places, expr_places, init_places}
use Rattle.java_tree.specs.KeptPlaces.{array_places, variable_places, locals_places, start_places, stmt_places}
use Rattle.java_tree.specs.KeptPlaces.{all_places, catch_places, group_places, try_places, label_places}
use Rattle.java_tree.specs.KeptPlaces.{resource_places, resources_places, some_onto, no_places, behind_name}
use Rattle.java_tree.specs.KeptPlaces as kept
use Rattle.core_lowering_rules.specs.Trees.{Stmt, pack_stmts, pack_groups}
use Rattle.core_lowering_rules.specs.TreesOf.{access_of, literal, is_assignment, is_logical}
use Rattle.core_lowering_rules.specs.TreesOf.{is_count}
use Rattle.core_lowering_rules.specs.TreesOf.{expr_of, init_of, condition_of, variable_of, start_of, resource_of}
use Rattle.core_lowering_rules.specs.TreesOf.{resources_of}
use Rattle.core_lowering_rules.specs.TreesOf.{stmt_of}
use Rattle.core_lowering_rules.specs.TreesOf.{catch_of, group_of, try_of}
use Rattle.core_lowering_rules.specs.TreesOf as lowered
use Rattle.core_lowering_rules.proofs.PlacedTrees.{PlacedStmt}
use Rattle.core_lowering_rules.proofs.PlacedTrees.{PlacedStmts, PlacedGroups}
use Rattle.core_lowering_rules.proofs.PlacedTrees.{put-placed}
use Rattle.core_lowering_rules.proofs.KeptTrees.{Splits, behind, behind_tokens, behind_modifiers, front, after}
use Rattle.core_lowering_rules.proofs.KeptTrees.{all-kept}
use Rattle.core_lowering_rules.proofs.KeptTrees.{some-kept, locals-kept}
use Rattle.core_lowering_rules.proofs.KeptTrees.{start-kept, tested-kept, resources-kept, labels-kept, name-kept}
use Rattle.core_lowering_rules.proofs.KeptTrees.{expr-kept}

module _ (test : Place → Bool) where
  -- ---- statements

  abbrev pub HasStmt : Statement → Type 0
  HasStmt s = Splits test (stmt_places s) (PlacedStmt test (stmt_of s))

  abbrev HasCatch : CatchTree → Type 0
  HasCatch c = Splits test (catch_places c) (Unit {0})

  abbrev HasGroup : GroupTree → Type 0
  HasGroup g = Splits test (group_places g) (PlacedStmts test (group_of g).1)

  abbrev HasTry : TryTree → Type 0
  HasTry t = Splits test (try_places t) (PlacedStmt test (try_of t))

  abbrev Stmts : Type 0
  Stmts = (s : Statement) × HasStmt s

  abbrev Catches : Type 0
  Catches = (c : CatchTree) × HasCatch c

  abbrev Groups : Type 0
  Groups = (g : GroupTree) × HasGroup g

  abbrev Tries : Type 0
  Tries = (t : TryTree) × HasTry t

  abbrev StmtLayer : Type 0
  StmtLayer = statement.Statement-F Stmts Catches Groups Tries

  abbrev PlainStmt : Type 0
  PlainStmt = statement.Statement-F Statement CatchTree GroupTree TryTree

  abbrev plain_stmt : StmtLayer → PlainStmt
  plain_stmt y =
      map-Statement Stmts Catches Groups Tries Statement CatchTree GroupTree TryTree (λ s. s.0) (λ c. c.0) (λ g. g.0)
      (λ t. t.0) y

  abbrev stmt_places_in : PlainStmt → Puts
  stmt_places_in x =
      kept.stmt_step
      (map-Statement Statement CatchTree GroupTree TryTree Puts Puts Puts Puts stmt_places catch_places group_places
      try_places x)

  abbrev stmt_lowered_in : PlainStmt → Stmt
  stmt_lowered_in x =
      lowered.stmt_step
      (map-Statement Statement CatchTree GroupTree TryTree Stmt lowered.Clause lowered.Group Stmt stmt_of catch_of
      group_of try_of x)

  abbrev plain_all : List Stmts → List Statement
  plain_all ss = map (λ s. s.0) ss

  abbrev plain_groups : List Groups → List GroupTree
  plain_groups gs = map (λ g. g.0) gs

  abbrev plain_catches : List Catches → List CatchTree
  plain_catches cs = map (λ c. c.0) cs

  stmts-split : (ss : List Stmts) →
      Splits test (each_puts (map stmt_places (plain_all ss)))
      (PlacedStmts test (pack_stmts (map stmt_of (plain_all ss))))
  stmts-split [] rest h = (tt, h)
  stmts-split (s ∷ ss) rest h =
      let p = s.1 (each_puts (map stmt_places (plain_all ss)) rest) h in
      let q = stmts-split ss rest p.1 in
      (put-placed test (stmt_of s.0) (pack_stmts (map stmt_of (plain_all ss))) p.0 q.0, q.1)

  groups-split : (gs : List Groups) →
      Splits test (each_puts (map group_places (plain_groups gs)))
      (PlacedGroups test (pack_groups (map group_of (plain_groups gs))))
  groups-split [] rest h = (tt, h)
  groups-split (g ∷ gs) rest h =
      let p = g.1 (each_puts (map group_places (plain_groups gs)) rest) h in
      let q = groups-split gs rest p.1 in ((p.0, q.0), q.1)

  clauses-split : (cs : List Catches) → Splits test (each_puts (map catch_places (plain_catches cs))) (Unit {0})
  clauses-split [] rest h = (tt, h)
  clauses-split (c ∷ cs) rest h =
      let p = c.1 (each_puts (map catch_places (plain_catches cs)) rest) h in clauses-split cs rest p.1

  stmt-split : (y : StmtLayer) →
      Splits test (stmt_places_in (plain_stmt y)) (PlacedStmt test (stmt_lowered_in (plain_stmt y)))
  stmt-split (statement.Block ss) rest h = stmts-split ss.items rest h
  stmt-split (statement.Local l) rest h = locals-kept test l rest h
  stmt-split (statement.Expr e) rest h = expr-kept test e rest h
  stmt-split (statement.If e s None) rest h =
      let p = expr-kept test e (stmt_places s.value.0 rest) h in
      let q = s.value.1 rest p.1 in ((p.0, q.0), q.1)
  stmt-split (statement.If e s (Some t)) rest h =
      let p = expr-kept test e (stmt_places s.value.0 (stmt_places t.value.0 rest)) h in
      let q = s.value.1 (stmt_places t.value.0 rest) p.1 in
      let r = t.value.1 rest q.1 in ((p.0, q.0, r.0), r.1)
  stmt-split (statement.While e s) rest h =
      let p = expr-kept test e (stmt_places s.value.0 rest) h in
      let q = s.value.1 rest p.1 in ((p.0, q.0), q.1)
  stmt-split (statement.For i condition updates s) rest h =
      let last = stmt_places s.value.0 rest in
      let third = each_puts (map expr_places updates.items) last in
      let a = start-kept test i (maybe_puts (option_map expr_places condition) third) h in
      let b = tested-kept test condition third a.1 in
      let c = all-kept test updates.items last b.1 in
      let d = s.value.1 rest c.1 in ((a.0, b.0, c.0, d.0), d.1)
  stmt-split (statement.ForEach v e s) rest h =
      let last = stmt_places s.value.0 rest in
      let name = Some v.name.place ∷ expr_places e last in
      let p = expr-kept test e last
      (after test v.name.place (expr_places e last)
      (behind test (ty_places v.kind) name
      (behind_modifiers test v.modifiers (some_onto (ty_places v.kind) name) h))) in
      let q = s.value.1 rest p.1 in ((p.0, q.0), q.1)
  stmt-split (statement.Sync place e ss) rest h =
      let last = each_puts (map stmt_places (plain_all ss.items)) rest in
      let p = expr-kept test e last (after test place (expr_places e last) h) in
      let q = stmts-split ss.items rest p.1 in ((front test place (expr_places e last) h, p.0, q.0), q.1)
  stmt-split (statement.Return e) rest h = some-kept test e rest h
  stmt-split statement.Empty rest h = (tt, h)
  stmt-split (statement.Do s e) rest h =
      let p = s.value.1 (expr_places e rest) h in
      let q = expr-kept test e rest p.1 in ((q.0, p.0), q.1)
  stmt-split (statement.Throw place e) rest h =
      let p = expr-kept test e rest (after test place (expr_places e rest) h) in
      ((front test place (expr_places e rest) h, p.0), p.1)
  stmt-split (statement.Break x) rest h = name-kept test x rest h
  stmt-split (statement.Continue x) rest h = name-kept test x rest h
  stmt-split (statement.Labelled x s) rest h = s.value.1 rest (after test x.place (stmt_places s.value.0 rest) h)
  stmt-split (statement.Assert e f) rest h =
      let p = expr-kept test e (maybe_puts (option_map expr_places f) rest) h in
      let q = some-kept test f rest p.1 in (p.0, q.1)
  stmt-split (statement.LocalClass x ts) rest h =
      (tt, behind_tokens test (behind_name ts) rest (after test x.place (no_places (behind_name ts) rest) h))
  stmt-split (statement.Switch e gs) rest h =
      let p = expr-kept test e (each_puts (map group_places (plain_groups gs.items)) rest) h in
      let q = groups-split gs.items rest p.1 in ((p.0, q.0), q.1)
  stmt-split (statement.Try t) rest h = t.value.1 rest h

  stmt-has : (x : PlainStmt) (y : StmtLayer) → plain_stmt y ≡ x → HasStmt (roll-Statement x)
  stmt-has x y is =
      let places : stmt_places (roll-Statement (plain_stmt y)) ≡ stmt_places_in (plain_stmt y) =
      search (rules, statements.the_lemmas) in
      let lower : stmt_of (roll-Statement (plain_stmt y)) ≡ stmt_lowered_in (plain_stmt y) =
      search (rules, statements.the_lemmas) in
      subst (λ z. HasStmt (roll-Statement z)) is
      (subst (λ (f : Puts). Splits test f (PlacedStmt test (stmt_of (roll-Statement (plain_stmt y))))) (sym places)
      (subst (λ (t : Stmt). Splits test (stmt_places_in (plain_stmt y)) (PlacedStmt test t)) (sym lower)
      (stmt-split y)))

  -- ---- catch clauses

  abbrev CatchLayer : Type 0
  CatchLayer = statement.CatchTree-F Stmts Catches Groups Tries

  abbrev PlainCatch : Type 0
  PlainCatch = statement.CatchTree-F Statement CatchTree GroupTree TryTree

  abbrev plain_catch : CatchLayer → PlainCatch
  plain_catch y =
      map-CatchTree Stmts Catches Groups Tries Statement CatchTree GroupTree TryTree (λ s. s.0) (λ c. c.0) (λ g. g.0)
      (λ t. t.0) y

  abbrev catch_places_in : PlainCatch → Puts
  catch_places_in x =
      kept.catch_step
      (map-CatchTree Statement CatchTree GroupTree TryTree Puts Puts Puts Puts stmt_places catch_places group_places
      try_places x)

  catch-split : (y : CatchLayer) → Splits test (catch_places_in (plain_catch y)) (Unit {0})
  catch-split y rest h =
      let p = y.parameter in
      let last = each_puts (map stmt_places (plain_all y.body.items)) rest in
      let q = stmts-split y.body.items rest
      (after test p.name.place last (behind test (all_places (map ty_places p.types)) (Some p.name.place ∷ last)
      (behind_modifiers test p.modifiers
      (some_onto (all_places (map ty_places p.types)) (Some p.name.place ∷ last)) h))) in
      (tt, q.1)

  catch-has : (x : PlainCatch) (y : CatchLayer) → plain_catch y ≡ x → HasCatch (roll-CatchTree x)
  catch-has x y is =
      let places : catch_places (roll-CatchTree (plain_catch y)) ≡ catch_places_in (plain_catch y) =
      search (rules, statements.the_lemmas) in
      subst (λ z. HasCatch (roll-CatchTree z)) is
      (subst (λ (f : Puts). Splits test f (Unit {0})) (sym places) (catch-split y))

  -- ---- groups

  abbrev GroupLayer : Type 0
  GroupLayer = statement.GroupTree-F Stmts Catches Groups Tries

  abbrev PlainGroup : Type 0
  PlainGroup = statement.GroupTree-F Statement CatchTree GroupTree TryTree

  abbrev plain_group : GroupLayer → PlainGroup
  plain_group y =
      map-GroupTree Stmts Catches Groups Tries Statement CatchTree GroupTree TryTree (λ s. s.0) (λ c. c.0) (λ g. g.0)
      (λ t. t.0) y

  abbrev group_places_in : PlainGroup → Puts
  group_places_in x =
      kept.group_step
      (map-GroupTree Statement CatchTree GroupTree TryTree Puts Puts Puts Puts stmt_places catch_places group_places
      try_places x)

  abbrev group_lowered_in : PlainGroup → lowered.Group
  group_lowered_in x =
      lowered.group_step
      (map-GroupTree Statement CatchTree GroupTree TryTree Stmt lowered.Clause lowered.Group Stmt stmt_of catch_of
      group_of try_of x)

  group-split : (y : GroupLayer) →
      Splits test (group_places_in (plain_group y)) (PlacedStmts test (group_lowered_in (plain_group y)).1)
  group-split y rest h =
      let p = labels-kept test y.labels (each_puts (map stmt_places (plain_all y.body.items)) rest) h in
      stmts-split y.body.items rest p.1

  group-has : (x : PlainGroup) (y : GroupLayer) → plain_group y ≡ x → HasGroup (roll-GroupTree x)
  group-has x y is =
      let places : group_places (roll-GroupTree (plain_group y)) ≡ group_places_in (plain_group y) =
      search (rules, statements.the_lemmas) in
      let lower : group_of (roll-GroupTree (plain_group y)) ≡ group_lowered_in (plain_group y) =
      search (rules, statements.the_lemmas) in
      subst (λ z. HasGroup (roll-GroupTree z)) is
      (subst (λ (f : Puts). Splits test f (PlacedStmts test (group_of (roll-GroupTree (plain_group y))).1)) (sym places)
      (subst (λ (g : lowered.Group). Splits test (group_places_in (plain_group y)) (PlacedStmts test g.1)) (sym lower)
      (group-split y)))

  -- ---- a `try`

  abbrev TryLayer : Type 0
  TryLayer = statement.TryTree-F Stmts Catches Groups Tries

  abbrev PlainTry : Type 0
  PlainTry = statement.TryTree-F Statement CatchTree GroupTree TryTree

  abbrev plain_try : TryLayer → PlainTry
  plain_try y =
      map-TryTree Stmts Catches Groups Tries Statement CatchTree GroupTree TryTree (λ s. s.0) (λ c. c.0) (λ g. g.0)
      (λ t. t.0) y

  abbrev try_places_in : PlainTry → Puts
  try_places_in x =
      kept.try_step
      (map-TryTree Statement CatchTree GroupTree TryTree Puts Puts Puts Puts stmt_places catch_places group_places
      try_places x)

  abbrev try_lowered_in : PlainTry → Stmt
  try_lowered_in x =
      lowered.try_step
      (map-TryTree Statement CatchTree GroupTree TryTree Stmt lowered.Clause lowered.Group Stmt stmt_of catch_of
      group_of try_of x)

  abbrev of_parts : Option ResourcesTree → Vec Stmts Global → Vec Catches Global → Option (Vec Stmts Global) → TryLayer
  of_parts rs body cs finally = record { resources = rs; body = body; clauses = cs; finally = finally }

  abbrev TrySplit : TryLayer → Type 0
  TrySplit y = Splits test (try_places_in (plain_try y)) (PlacedStmt test (try_lowered_in (plain_try y)))

  parts-split : (rs : Option ResourcesTree) (body : Vec Stmts Global) (cs : Vec Catches Global)
      (finally : Option (Vec Stmts Global)) → TrySplit (of_parts rs body cs finally)
  parts-split rs body cs (Some finally) rest h =
      let last = each_puts (map stmt_places (plain_all finally.items)) rest in
      let third = each_puts (map catch_places (plain_catches cs.items)) last in
      let o = resources-kept test rs (each_puts (map stmt_places (plain_all body.items)) third) h in
      let p = stmts-split body.items third o.1 in
      let q = clauses-split cs.items last p.1 in
      let r = stmts-split finally.items rest q.1 in ((o.0, p.0, r.0), r.1)
  parts-split rs body cs None rest h =
      let third = each_puts (map catch_places (plain_catches cs.items)) rest in
      let o = resources-kept test rs (each_puts (map stmt_places (plain_all body.items)) third) h in
      let p = stmts-split body.items third o.1 in
      let q = clauses-split cs.items rest p.1 in ((o.0, p.0), q.1)

  try-split : (y : TryLayer) → TrySplit y
  try-split y = parts-split y.resources y.body y.clauses y.finally

  try-has : (x : PlainTry) (y : TryLayer) → plain_try y ≡ x → HasTry (roll-TryTree x)
  try-has x y is =
      let places : try_places (roll-TryTree (plain_try y)) ≡ try_places_in (plain_try y) =
      search (rules, statements.the_lemmas) in
      let lower : try_of (roll-TryTree (plain_try y)) ≡ try_lowered_in (plain_try y) =
      search (rules, statements.the_lemmas) in
      subst (λ z. HasTry (roll-TryTree z)) is
      (subst (λ (f : Puts). Splits test f (PlacedStmt test (try_of (roll-TryTree (plain_try y))))) (sym places)
      (subst (λ (t : Stmt). Splits test (try_places_in (plain_try y)) (PlacedStmt test t)) (sym lower) (try-split y)))

  -- ---- all

  stmt-kept : (s : Statement) → HasStmt s
  stmt-kept = ind-Statement HasStmt HasCatch HasGroup HasTry stmt-has catch-has group-has try-has

  pub stmts-kept : (ss : List Statement) →
      Splits test (each_puts (map stmt_places ss)) (PlacedStmts test (pack_stmts (map stmt_of ss)))
  stmts-kept [] rest h = (tt, h)
  stmts-kept (s ∷ ss) rest h =
      let p = stmt-kept s (each_puts (map stmt_places ss) rest) h in
      let q = stmts-kept ss rest p.1 in (put-placed test (stmt_of s) (pack_stmts (map stmt_of ss)) p.0 q.0, q.1)
