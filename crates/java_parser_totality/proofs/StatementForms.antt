-- The forms of statements: how each is seen, and which places it keeps.
use Rattle.std.proofs.Common.{◌≡◌, ◌<◌, List, ◌∷◌, Option, Some, None, map, length, ap, ◌∙◌, rules}
use Rattle.std.specs.Prelude.{option_map}
use Rattle.std.specs.Global.{Vec}
use Rattle.java_tree.specs.declared.words.Ident.{Ident}
use Rattle.java_tree.specs.declared.words.Spelled.{Spelled}
use Rattle.java_tree.specs.declared.methods.ModifierTree.{ModifierTree}
use Rattle.java_tree.specs.declared.types.TypeTree.{TypeTree}
use Rattle.java_tree.specs.declared.expressions.Expression.{Expression}
use Rattle.java_tree.specs.declared.statements.LocalsTree.{LocalsTree}
use Rattle.java_tree.specs.declared.statements.StartTree.{StartTree}
use Rattle.java_tree.specs.declared.statements.LabelTree.{LabelTree}
use Rattle.java_tree.specs.declared.statements.ResourcesTree.{ResourcesTree}
use Rattle.java_tree.specs.declared.statements.CatchParameterTree.{CatchParameterTree}
use Rattle.java_tree.specs.declared.statements.Statement.{Statement, roll-Statement, map-Statement}
use Rattle.java_tree.specs.declared.statements.TryTree.{TryTree, roll-TryTree}
use Rattle.java_tree.specs.declared.statements.CatchTree.{CatchTree, roll-CatchTree}
use Rattle.java_tree.specs.declared.statements.GroupTree.{GroupTree, roll-GroupTree}
use Rattle.java_tree.specs.declared.statements.Statement.TheOpen as statement
use Rattle.java_tree.specs.declared.statements.Statement.TheFolds.{the_lemmas}
use Rattle.java_tree.specs.KeptPlaces.{Marks, Puts, each_marks, modifier_marks, some_onto, name_places, no_places}
use Rattle.java_tree.specs.KeptPlaces.{behind_name, each_puts, maybe_puts, ty_places, expr_places, locals_places}
use Rattle.java_tree.specs.KeptPlaces.{start_places, stmt_places, try_places, catch_places, group_places, label_places}
use Rattle.java_tree.specs.KeptPlaces.{resources_places, catch_parameter_places}
use Rattle.java_tree.specs.KeptPlaces as places
use Rattle.java_tree.specs.Trees.{Stmt, Block, Local, Run, If, IfElse, For, ForEach, Labelled, LocalClass, Empty}
use Rattle.java_tree.specs.Trees.{Pieces, pack_exprs, pack_stmts}
use Rattle.java_tree.specs.Rows.{Try}
use Rattle.java_tree.specs.View.{modifier_of, ty_of, name_of, expr_of, locals_of, start_of, label_of, resources_of}
use Rattle.java_tree.specs.View.{catch_parameter_of, Catch, Finally, pack_rows, Group, stmt_of, try_of, catch_of}
use Rattle.java_tree.specs.View.{group_of}
use Rattle.java_tree.specs.View as view
use Rattle.java_parser_totality.specs.Totality.{most}
use Rattle.java_parser_totality.proofs.Vectors.{boxed, vector, vector-items}

abbrev Layer : Type 0
Layer = statement.Statement-F Statement CatchTree GroupTree TryTree

pub places-of : (x : Layer) → stmt_places (roll-Statement x)
    ≡ places.stmt_step (map-Statement Statement CatchTree GroupTree TryTree Puts Puts Puts Puts stmt_places catch_places
    group_places try_places x)
places-of x = search (rules, the_lemmas)

pub view-of : (x : Layer) → stmt_of (roll-Statement x)
    ≡ view.stmt_step (map-Statement Statement CatchTree GroupTree TryTree Stmt Pieces Group Stmt stmt_of catch_of
    group_of try_of x)
view-of x = search (rules, the_lemmas)

abbrev pub a_block : (all : List Statement) → Statement
a_block all = roll-Statement (statement.Block (vector all))

pub block-is : (all : List Statement) → length all < most → stmt_of (a_block all) ≡ Block (pack_stmts (map stmt_of all))
block-is all few =
    view-of (statement.Block (vector all))
    ∙ ap (λ (l : List Statement). Block (pack_stmts (map stmt_of l))) (vector-items all few)

pub block-at : (all : List Statement) → length all < most → (ps : Marks)
    → stmt_places (a_block all) ps ≡ each_puts (map stmt_places all) ps
block-at all few ps =
    ap (λ (g : Puts). g ps) (places-of (statement.Block (vector all)))
    ∙ ap (λ (l : List Statement). each_puts (map stmt_places l) ps) (vector-items all few)

abbrev pub a_local : (l : LocalsTree) → Statement
a_local l = roll-Statement (statement.Local l)

pub local-is : (l : LocalsTree) → stmt_of (a_local l) ≡ Local (locals_of l)
local-is l = view-of (statement.Local l)

pub local-at : (l : LocalsTree) (ps : Marks) → stmt_places (a_local l) ps ≡ locals_places l ps
local-at l ps = ap (λ (g : Puts). g ps) (places-of (statement.Local l))

abbrev pub a_run : (e : Expression) → Statement
a_run e = roll-Statement (statement.Expr e)

pub run-is : (e : Expression) → stmt_of (a_run e) ≡ Run (expr_of e)
run-is e = view-of (statement.Expr e)

pub run-at : (e : Expression) (ps : Marks) → stmt_places (a_run e) ps ≡ expr_places e ps
run-at e ps = ap (λ (g : Puts). g ps) (places-of (statement.Expr e))

abbrev pub a_one_if : (e : Expression) (s : Statement) → Statement
a_one_if e s = roll-Statement (statement.If e (boxed s) None)

pub one_if-is : (e : Expression) (s : Statement) → stmt_of (a_one_if e s) ≡ If (expr_of e) (stmt_of s)
one_if-is e s = view-of (statement.If e (boxed s) None)

pub one_if-at : (e : Expression) (s : Statement) (ps : Marks)
    → stmt_places (a_one_if e s) ps ≡ expr_places e (stmt_places s ps)
one_if-at e s ps = ap (λ (g : Puts). g ps) (places-of (statement.If e (boxed s) None))

abbrev pub a_if_else : (e : Expression) (s t : Statement) → Statement
a_if_else e s t = roll-Statement (statement.If e (boxed s) (Some (boxed t)))

pub if_else-is : (e : Expression) (s t : Statement) → stmt_of (a_if_else e s t)
    ≡ IfElse (expr_of e) (stmt_of s) (stmt_of t)
if_else-is e s t = view-of (statement.If e (boxed s) (Some (boxed t)))

pub if_else-at : (e : Expression) (s t : Statement) (ps : Marks)
    → stmt_places (a_if_else e s t) ps ≡ expr_places e (stmt_places s (stmt_places t ps))
if_else-at e s t ps = ap (λ (g : Puts). g ps) (places-of (statement.If e (boxed s) (Some (boxed t))))

abbrev pub a_for : (i : StartTree) (c : Option Expression) (all : List Expression) (s : Statement) → Statement
a_for i c all s = roll-Statement (statement.For i c (vector all) (boxed s))

pub for-is : (i : StartTree) (c : Option Expression) (all : List Expression) (s : Statement) → length all < most
    → stmt_of (a_for i c all s) ≡ For (start_of i) (option_map expr_of c) (pack_exprs (map expr_of all)) (stmt_of s)
for-is i c all s few =
    view-of (statement.For i c (vector all) (boxed s))
    ∙ ap (λ (l : List Expression). For (start_of i) (option_map expr_of c) (pack_exprs (map expr_of l))
    (stmt_of s)) (vector-items all few)

pub for-at : (i : StartTree) (c : Option Expression) (all : List Expression) (s : Statement) → length all < most
    → (ps : Marks) → stmt_places (a_for i c all s) ps
    ≡ start_places i (maybe_puts (option_map expr_places c) (each_puts (map expr_places all) (stmt_places s ps)))
for-at i c all s few ps =
    ap (λ (g : Puts). g ps) (places-of (statement.For i c (vector all) (boxed s)))
    ∙ ap (λ (l : List Expression). start_places i (maybe_puts (option_map expr_places c) (each_puts
    (map expr_places l) (stmt_places s ps)))) (vector-items all few)

abbrev pub a_for_each : (ms : List ModifierTree) (t : TypeTree) (x : Ident) (e : Expression) (s : Statement) → Statement
a_for_each ms t x e s =
    roll-Statement (statement.ForEach (record { modifiers = ms; kind = t; name = x }) e (boxed s))

pub for_each-is : (ms : List ModifierTree) (t : TypeTree) (x : Ident) (e : Expression) (s : Statement)
    → stmt_of (a_for_each ms t x e s)
    ≡ ForEach (map modifier_of ms) (ty_of t) (name_of x) (expr_of e) (stmt_of s)
for_each-is ms t x e s = view-of (statement.ForEach (record { modifiers = ms; kind = t; name = x }) e (boxed s))

pub for_each-at : (ms : List ModifierTree) (t : TypeTree) (x : Ident) (e : Expression) (s : Statement) (ps : Marks)
    → stmt_places (a_for_each ms t x e s) ps
    ≡ each_marks modifier_marks ms (some_onto (ty_places t) (Some x.place ∷ expr_places e (stmt_places s ps)))
for_each-at ms t x e s ps =
    ap (λ (g : Puts). g ps) (places-of (statement.ForEach (record { modifiers = ms; kind = t; name = x }) e (boxed s)))

abbrev pub a_local_class : (x : Ident) (ts : List Spelled) → Statement
a_local_class x ts = roll-Statement (statement.LocalClass x ts)

pub local_class-is : (x : Ident) (ts : List Spelled) → stmt_of (a_local_class x ts) ≡ LocalClass (name_of x) ts
local_class-is x ts = view-of (statement.LocalClass x ts)

pub local_class-at : (x : Ident) (ts : List Spelled) (ps : Marks) → stmt_places (a_local_class x ts) ps
    ≡ Some x.place ∷ no_places (behind_name ts) ps
local_class-at x ts ps = ap (λ (g : Puts). g ps) (places-of (statement.LocalClass x ts))

abbrev pub a_labelled : (x : Ident) (s : Statement) → Statement
a_labelled x s = roll-Statement (statement.Labelled x (boxed s))

pub labelled-is : (x : Ident) (s : Statement) → stmt_of (a_labelled x s) ≡ Labelled (name_of x) (stmt_of s)
labelled-is x s = view-of (statement.Labelled x (boxed s))

pub labelled-at : (x : Ident) (s : Statement) (ps : Marks)
    → stmt_places (a_labelled x s) ps ≡ Some x.place ∷ stmt_places s ps
labelled-at x s ps = ap (λ (g : Puts). g ps) (places-of (statement.Labelled x (boxed s)))

abbrev pub a_empty : Statement
a_empty = roll-Statement (statement.Empty)

pub empty-is : stmt_of a_empty ≡ Empty
empty-is = view-of (statement.Empty)

pub empty-at : (ps : Marks) → stmt_places a_empty ps ≡ ps
empty-at ps = ap (λ (g : Puts). g ps) (places-of (statement.Empty))

-- ---- the parts of `switch` and `try`

abbrev pub a_group : (labels : List LabelTree) (all : List Statement) → GroupTree
a_group labels all = roll-GroupTree (record { labels = labels; body = vector all })

pub group-is : (labels : List LabelTree) (all : List Statement) → length all < most
    → group_of (a_group labels all) ≡ (map label_of labels, pack_stmts (map stmt_of all))
group-is labels all few =
    let seen : group_of (a_group labels all) ≡ (map label_of labels, pack_stmts (map stmt_of (vector all).items)) =
    search (rules, the_lemmas) in
    seen ∙ ap (λ (l : List Statement). (map label_of labels, pack_stmts (map stmt_of l))) (vector-items all few)

pub group-at : (labels : List LabelTree) (all : List Statement) → length all < most → (ps : Marks)
    → group_places (a_group labels all) ps ≡ each_puts (map label_places labels) (each_puts (map stmt_places all) ps)
group-at labels all few ps =
    let at : group_places (a_group labels all)
    ≡ (λ rest. each_puts (map label_places labels) (each_puts (map stmt_places (vector all).items) rest)) =
    search (rules, the_lemmas) in
    ap (λ (g : Puts). g ps) at
    ∙ ap (λ (l : List Statement). each_puts (map label_places labels) (each_puts (map stmt_places l) ps))
    (vector-items all few)

abbrev pub a_clause : (p : CatchParameterTree) (all : List Statement) → CatchTree
a_clause p all = roll-CatchTree (record { parameter = p; body = vector all })

pub clause-is : (p : CatchParameterTree) (all : List Statement) → length all < most
    → catch_of (a_clause p all) ≡ Catch (catch_parameter_of p) (pack_stmts (map stmt_of all))
clause-is p all few =
    let seen : catch_of (a_clause p all) ≡ Catch (catch_parameter_of p) (pack_stmts (map stmt_of (vector all).items)) =
    search (rules, the_lemmas) in
    seen ∙ ap (λ (l : List Statement). Catch (catch_parameter_of p) (pack_stmts (map stmt_of l)))
    (vector-items all few)

pub clause-at : (p : CatchParameterTree) (all : List Statement) → length all < most → (ps : Marks)
    → catch_places (a_clause p all) ps ≡ catch_parameter_places p (each_puts (map stmt_places all) ps)
clause-at p all few ps =
    let at : catch_places (a_clause p all)
    ≡ (λ rest. catch_parameter_places p (each_puts (map stmt_places (vector all).items) rest)) =
    search (rules, the_lemmas) in
    ap (λ (g : Puts). g ps) at
    ∙ ap (λ (l : List Statement). catch_parameter_places p (each_puts (map stmt_places l) ps)) (vector-items all few)

-- a `try`, from the vectors in it
pub try-view : (rs : Option ResourcesTree) (body : Vec Statement) (clauses : Vec CatchTree)
    (last : Option (Vec Statement))
    → stmt_of (roll-Statement (statement.Try (boxed (roll-TryTree (record {
      resources = rs;
      body = body;
      clauses = clauses;
      finally = last;
    }))))) ≡ Try (option_map resources_of rs) (pack_stmts (map stmt_of body.items))
    (pack_rows (map catch_of clauses.items)) (option_map (λ ss. Finally (pack_stmts (map stmt_of ss.items))) last)
try-view rs body clauses None = search (rules, the_lemmas)
try-view rs body clauses (Some ss) = search (rules, the_lemmas)

pub try-places : (rs : Option ResourcesTree) (body : Vec Statement) (clauses : Vec CatchTree)
    (last : Option (Vec Statement))
    → stmt_places (roll-Statement (statement.Try (boxed (roll-TryTree (record {
      resources = rs;
      body = body;
      clauses = clauses;
      finally = last;
    }))))) ≡ (λ rest. maybe_puts (option_map resources_places rs) (each_puts (map stmt_places body.items)
    (each_puts (map catch_places clauses.items)
    (maybe_puts (option_map (λ ss. each_puts (map stmt_places ss.items)) last) rest))))
try-places rs body clauses None = search (rules, the_lemmas)
try-places rs body clauses (Some ss) = search (rules, the_lemmas)
