-- The tree that is lowered, made from a tree without places and the places that its tokens kept.
use Rattle.std.specs.Prelude.{Bool, false, codes, bytes_eq, if◌then◌else◌}
use Rattle.std.proofs.Common.{◌≡◌, ℕ, suc, zero, List, [], ◌∷◌, ◌++◌, Option, Some, None, length, refl, ap, ◌∙◌}
use Rattle.racer_base.specs.declared.ids.Place.{Place}
use Rattle.java_tree.specs.declared.words.Ident.{Ident}
use Rattle.java_tree.specs.KeptPlaces.{Places}
use Rattle.java_tree.specs.Trees.{Ty, Typed, Named as NamedType, no_part, Arguments}
use Rattle.java_tree.specs.Trees as view
use Rattle.java_tree.specs.View as viewed
use Rattle.java_tree.proofs.TypeCounts.{ty_count, angled_count}
use Rattle.core_lowering_rules.specs.Trees.{Expr, This, ClassOf, Read, Unary, Cast, Conditional, Count, Call, CallOn}
use Rattle.core_lowering_rules.specs.Trees.{New, NewBody, ThisOf, Refer, Referee, ToExpr, ToType, Unknown}
use Rattle.core_lowering_rules.specs.Trees.{NewArray, NewItems, Paren, Named, Selected, Element, Exprs, no_expr}
use Rattle.core_lowering_rules.specs.Trees.{expr_then}
use Rattle.core_lowering_rules.specs.Trees.{Init, Value, Items, Inits, no_init, init_then, Variable, Start, Declares}
use Rattle.core_lowering_rules.specs.Trees.{Runs}
use Rattle.core_lowering_rules.specs.Trees.{Condition, Resource, Stmt, Run, Local, If, IfElse, While, Do, For, ForEach}
use Rattle.core_lowering_rules.specs.Trees.{Sync, Return, Block, Empty, Throw, Break, Continue, Labelled, Assert}
use Rattle.core_lowering_rules.specs.Trees.{Switch}
use Rattle.core_lowering_rules.specs.Trees.{Stmts, no_stmt, put_before, Groups, no_group, group_then, Catches, no_catch}
use Rattle.core_lowering_rules.specs.Trees.{catch_then}
use Rattle.core_lowering_rules.specs.TreesOf.{access_of, assignment, binary, prefix, literal, tried}

-- ---- what is made, and the places that are left

pub record Filled (A : Type 0) : Type 0 where
  pub tree : A
  pub left : Places

abbrev pub filled : {A : Type 0} → A → Places → Filled A
filled x ps = record { tree = x; left = ps }

abbrev nowhere : Place
nowhere = record { file = record { 0 = 0 }; line = 0; column = 0 }

abbrev pub first : Places → Place
first [] = nowhere
first (p ∷ ps) = p

abbrev pub behind : Places → Places
behind [] = []
behind (p ∷ ps) = ps

abbrev pub skip : ℕ → Places → Places
skip zero ps = ps
skip (suc n) ps = skip n (behind ps)

abbrev pub ident : List ℕ → Places → Ident
ident x ps = record { text = x; place = first ps }

abbrev pub one : {A B : Type 0} → (A → B) → Filled A → Filled B
one f g = filled (f g.tree) g.left

abbrev pub two : {A B C : Type 0} → (A → B → C) → Filled A → (Places → Filled B) → Filled C
two f g h = one (f g.tree) (h g.left)

abbrev pub three : {A B C D : Type 0} → (A → B → C → D) → Filled A → (Places → Filled B) → (Places → Filled C)
    → Filled D
three f g h k = two (f g.tree) (h g.left) k

abbrev pub four : {A B C D E : Type 0} → (A → B → C → D → E) → Filled A → (Places → Filled B) → (Places → Filled C)
    → (Places → Filled D) → Filled E
four f g h k l = three (f g.tree) (h g.left) k l

-- one behind which so many places are passed over
abbrev pub passing : {A : Type 0} → ℕ → Filled A → Filled A
passing n g = filled g.tree (skip n g.left)

pub one-is : {A B : Type 0} (f : A → B) {g : Filled A} {a : A} {rest : Places} → g ≡ filled a rest
    → one f g ≡ filled (f a) rest
one-is f e = ap (one f) e

pub two-is : {A B C : Type 0} (f : A → B → C) {g : Filled A} (h : Places → Filled B) {a : A} {b : B} {ps rest : Places}
    → g ≡ filled a ps → h ps ≡ filled b rest → two f g h ≡ filled (f a b) rest
two-is f h {a = a} e k = ap (λ x. two f x h) e ∙ ap (one (f a)) k

pub three-is : {A B C D : Type 0} (f : A → B → C → D) {g : Filled A} (h : Places → Filled B) (k : Places → Filled C)
    {a : A} {b : B} {c : C} {ps qs rest : Places} → g ≡ filled a ps → h ps ≡ filled b qs → k qs ≡ filled c rest
    → three f g h k ≡ filled (f a b c) rest
three-is f h k {a = a} d e i = ap (λ x. three f x h k) d ∙ two-is (f a) k e i

pub four-is : {A B C D E : Type 0} (f : A → B → C → D → E) {g : Filled A} (h : Places → Filled B)
    (k : Places → Filled C) (l : Places → Filled D) {a : A} {b : B} {c : C} {d : D} {ps qs rs rest : Places}
    → g ≡ filled a ps → h ps ≡ filled b qs → k qs ≡ filled c rs → l rs ≡ filled d rest
    → four f g h k l ≡ filled (f a b c d) rest
four-is f h k l {a = a} i j m n = ap (λ x. four f x h k l) i ∙ three-is (f a) k l j m n

pub skip-is : (xs ys : Places) (n : ℕ) → length xs ≡ n → skip n (xs ++ ys) ≡ ys
skip-is [] ys zero e = refl
skip-is [] ys (suc n) e = absurd cc
skip-is (x ∷ xs) ys zero e = absurd cc
skip-is (x ∷ xs) ys (suc n) e = skip-is xs ys n cc

pub passing-is : {A : Type 0} (n : ℕ) {g : Filled A} {a : A} (xs rest : Places) → length xs ≡ n
    → g ≡ filled a (xs ++ rest) → passing n g ≡ filled a rest
passing-is n {a = a} xs rest long e = ap (passing n) e ∙ ap (filled a) (skip-is xs rest n long)

-- ---- expressions

abbrev pub filled_names : List (List ℕ) → Places → Filled (List Ident)
filled_names [] ps = filled [] ps
filled_names (x ∷ xs) ps = one (λ (l : List Ident). ident x ps ∷ l) (filled_names xs (behind ps))

-- a name behind a tree
abbrev pub then_name : {A B : Type 0} → (A → Ident → B) → List ℕ → Filled A → Filled B
then_name f x g = filled (f g.tree (ident x g.left)) (behind g.left)

abbrev pub skip_types : List Ty → Places → Places
skip_types [] ps = ps
skip_types (t ∷ ts) ps = skip_types ts (skip (ty_count t) ps)

abbrev pub first_seen : List Ty → Ty
first_seen [] = Typed (NamedType no_part) 0
first_seen (t ∷ ts) = t

-- the types in angle brackets behind a tree
abbrev pub skip_angled : Option Arguments → Places → Places
skip_angled None ps = ps
skip_angled (Some types) ps = skip (angled_count types) ps

abbrev pub behind_angled : {A : Type 0} → Option Arguments → Filled A → Filled A
behind_angled types g = filled g.tree (skip_angled types g.left)

-- and the name that may stand behind these
abbrev pub skip_name : Option (List ℕ) → Places → Places
skip_name None ps = ps
skip_name (Some x) ps = behind ps

abbrev pub refers : Option Arguments → Option (List ℕ) → Filled Referee → Filled Expr
refers types x g = filled (Refer g.tree) (skip_name x (skip_angled types g.left))

-- a name and arguments behind a tree
abbrev pub called : Filled Expr → List ℕ → (Places → Filled Exprs) → Filled Expr
called g x h = one (CallOn g.tree (ident x g.left)) (h (behind g.left))

abbrev mutual
  pub expr : view.Expr → Places → Filled Expr
  expr (view.Assign a op b) ps = two (λ x y. assignment op (access_of x) y) (expr a ps) (expr b)
  expr (view.Conditional a b c) ps = three Conditional (expr a ps) (expr b) (expr c)
  expr (view.Binary a op b) ps = two (binary op) (expr a ps) (expr b)
  expr (view.InstanceOf a t) ps = passing (ty_count t) (one Unary (expr a ps))
  expr (view.Prefix op a) ps = one (prefix op) (expr a ps)
  expr (view.Cast ts a) ps = one (Cast (first_seen ts)) (expr a (skip_types ts ps))
  expr (view.Postfix a op) ps = one (λ x. Count (access_of x)) (expr a ps)
  expr (view.Literal k text) ps = filled (literal k text) ps
  expr view.This ps = filled This ps
  expr (view.Name x) ps = filled (Read (Named (ident x ps))) (behind ps)
  expr (view.Paren a) ps = one Paren (expr a ps)
  expr (view.Field a x) ps = then_name (λ t i. Read (Selected t i)) x (expr a ps)
  expr (view.Index a i) ps = two (λ x y. Read (Element x y)) (expr a ps) (expr i)
  expr (view.Call x all) ps = one (Call (ident x ps)) (exprs all (behind ps))
  expr (view.CallOn a types x all) ps = called (behind_angled types (expr a ps)) x (exprs all)
  expr (view.ClassOf xs) ps = one ClassOf (filled_names xs ps)
  expr (view.New t all) ps = one (New (first ps) t) (exprs all (skip (ty_count t) (behind ps)))
  expr (view.NewArray t lengths n) ps = one (NewArray (first ps)) (exprs lengths (skip (ty_count t) (behind ps)))
  expr (view.NewItems t n items) ps = one (NewItems (first ps)) (array items (skip (ty_count t) (behind ps)))
  expr (view.NewBody t all body) ps = one (NewBody (first ps) t) (exprs all (skip (ty_count t) (behind ps)))
  expr (view.Lambda parameters a) ps = one (λ x. Unknown) (expr a ps)
  expr (view.BlockLambda parameters block) ps = filled Unknown ps
  expr (view.Reference a types x) ps = refers types x (one ToExpr (expr a ps))
  expr (view.TypeReference t types x) ps = refers types x (filled ToType (skip (ty_count t) ps))
  expr (view.SuperReference types x) ps = refers types x (filled ToType ps)
  expr (view.PlainClass t) ps = filled Unknown (skip (ty_count t) ps)
  expr (view.ThisOf xs) ps = one ThisOf (filled_names xs ps)

  pub exprs : view.Exprs → Places → Filled Exprs
  exprs view.no_expr ps = filled no_expr ps
  exprs (view.expr_then e es) ps = two expr_then (expr e ps) (exprs es)

  pub array : view.Array → Places → Filled Inits
  array (view.Braces is comma) ps = inits is ps

  pub inits : view.Inits → Places → Filled Inits
  inits view.no_init ps = filled no_init ps
  inits (view.init_then i is) ps = two init_then (init i ps) (inits is)

  pub init : view.Init → Places → Filled Init
  init (view.Value e) ps = one Value (expr e ps)
  init (view.Items items) ps = one Items (array items ps)

-- what stands behind the arrow of a lambda, and before a `::`
abbrev pub gives : viewed.Behind → Places → Filled Expr
gives (viewed.Gives a) ps = one (λ x. Unknown) (expr a ps)
gives (viewed.Does block) ps = filled Unknown ps

abbrev pub referred : viewed.Before → Places → Filled Referee
referred (viewed.OfExpr a) ps = one ToExpr (expr a ps)
referred (viewed.OfType t) ps = filled ToType (skip (ty_count t) ps)
referred viewed.OfSuper ps = filled ToType ps

-- ---- statements

abbrev pub each : {A B : Type 0} → (A → Places → Filled B) → List A → Places → Filled (List B)
each f [] ps = filled [] ps
each f (x ∷ xs) ps = two (λ y ys. y ∷ ys) (f x ps) (each f xs)

abbrev pub maybe : {A B : Type 0} → (A → Places → Filled B) → Option A → Places → Filled (Option B)
maybe f None ps = filled None ps
maybe f (Some x) ps = one Some (f x ps)

abbrev pub begun : Ident → ℕ → Option Init → Variable
begun x arrays i = record { name = x; arrays = arrays; initialiser = i }

abbrev pub variable : view.Variable → Places → Filled Variable
variable v ps = one (begun (ident v.name ps) v.arrays) (maybe init v.initialiser (behind ps))

abbrev pub variables : view.Locals → Places → Filled (List Variable)
variables l ps = each variable l.variables (skip (ty_count l.kind) ps)

abbrev pub start : view.Start → Places → Filled Start
start (view.Declares l) ps = one (Declares l.kind) (variables l ps)
start (view.Runs es) ps = one Runs (exprs es ps)

abbrev pub caught : Ident → Stmts → Ident × Stmts
caught x ss = (x, ss)

abbrev pub caught_then : Ident × Stmts → Catches → Catches
caught_then c cs = catch_then c.0 c.1 cs

-- the condition of a loop
abbrev pub is_true_seen : view.Expr → Bool
is_true_seen (view.Literal k text) = bytes_eq text (codes "true")
is_true_seen _ = false

abbrev pub tested : Bool → Expr → Condition
tested b e = record { on = e; is_true = b }

abbrev pub condition : view.Expr → Places → Filled Condition
condition e ps = one (tested (is_true_seen e)) (expr e ps)

abbrev pub named : List ℕ → Places → Filled Ident
named x ps = filled (ident x ps) (behind ps)

-- `break` or `continue`
abbrev pub jumped : Bool → Option Ident → Stmt
jumped b x = if b then Break x else Continue x

abbrev pub resourced : Ty → Ident → Expr → Resource
resourced t x e = record { kind = t; name = x; value = e }

abbrev pub resource : view.Resource → Places → Filled Resource
resource r ps =
    one (resourced r.kind (ident r.name (skip (ty_count r.kind) ps)))
    (expr r.value (behind (skip (ty_count r.kind) ps)))

abbrev pub resources : Option view.Resources → Places → Filled (List Resource)
resources None ps = filled [] ps
resources (Some rs) ps = each resource rs.items ps

abbrev pub label : view.Label → Places → Filled (Option Expr)
label (view.Case e) ps = one Some (expr e ps)
label view.Default ps = filled None ps

abbrev mutual
  pub stmt : view.Stmt → Places → Filled Stmt
  stmt (view.Block ss) ps = one Block (stmts ss ps)
  stmt (view.Local l) ps = one (Local l.kind) (variables l ps)
  stmt (view.Run e) ps = one Run (expr e ps)
  stmt (view.If e s) ps = two If (expr e ps) (stmt s)
  stmt (view.IfElse e s t) ps = three IfElse (expr e ps) (stmt s) (stmt t)
  stmt (view.For i c updates s) ps = four For (start i ps) (maybe condition c) (exprs updates) (stmt s)
  stmt (view.ForEach ms t x e s) ps =
      two (ForEach t (ident x (skip (ty_count t) ps))) (expr e (behind (skip (ty_count t) ps))) (stmt s)
  stmt (view.Labelled x s) ps = one (Labelled (ident x ps)) (stmt s (behind ps))
  stmt (view.LocalClass x ts) ps = filled Empty (behind ps)
  stmt view.Empty ps = filled Empty ps
  -- by what stands behind the keyword: no two rows have the same, but `break` and `continue`
  stmt (view.Row word (view.a_condition e (view.a_body s rest))) ps = two While (condition e ps) (stmt s)
  stmt (view.Row word (view.a_condition e (view.a_block ss rest))) ps =
      two (Sync (first ps)) (expr e (behind ps)) (stmts ss)
  stmt (view.Row word (view.a_condition e (view.a_switch gs rest))) ps = two Switch (expr e ps) (groups gs)
  stmt (view.Row word (view.maybe_an_expr e rest)) ps = one Return (maybe expr e ps)
  stmt (view.Row word (view.maybe_a_name x rest)) ps = one (jumped (bytes_eq word (codes "break"))) (maybe named x ps)
  stmt (view.Row word (view.an_expr e (view.a_token t rest))) ps = one (Throw (first ps)) (expr e (behind ps))
  stmt (view.Row word (view.an_expr e (view.maybe_behind text f rest))) ps = two Assert (expr e ps) (maybe expr f)
  stmt (view.Row word (view.a_body s (view.a_token t (view.a_condition e rest)))) ps = two Do (stmt s ps) (condition e)
  stmt (view.Row word (view.some_part (view.maybe_resources rs (view.a_block ss
      (view.a_list catch several last))))) ps =
      four tried (resources rs ps) (stmts ss) (clauses several) (last_block last)
  stmt (view.Row word _) ps = filled Empty ps

  pub stmts : view.Stmts → Places → Filled Stmts
  stmts view.no_stmt ps = filled no_stmt ps
  stmts (view.stmt_then s ss) ps = two put_before (stmt s ps) (stmts ss)

  pub groups : view.Groups → Places → Filled Groups
  groups view.no_group ps = filled no_group ps
  groups (view.group_then labels ss gs) ps = three group_then (each label labels ps) (stmts ss) (groups gs)

  pub clauses : view.Several → Places → Filled Catches
  clauses view.no_row ps = filled no_catch ps
  clauses (view.row_then row more) ps = two caught_then (clause row ps) (clauses more)

  pub clause : view.Pieces → Places → Filled (Ident × Stmts)
  clause (view.a_catch_parameter p (view.a_block ss rest)) ps =
      one (caught (ident p.name (skip_types p.types ps))) (stmts ss (behind (skip_types p.types ps)))
  clause _ ps = filled (ident [] ps, no_stmt) ps

  -- the block of a `finally`
  pub last_block : view.Pieces → Places → Filled (Option Stmts)
  last_block (view.present word (view.a_block ss rest) more) ps = one Some (stmts ss ps)
  last_block _ ps = filled None ps
