-- Lowered statements are kinded: whichever ends are asked for, their code leaves the empty stack empty. No instance of
-- LoweredFacts, since it asks for the variables of the whole method at each declaration.
use Rattle.std.proofs.Common.{◌≡◌, ℕ, zero, suc, Bool, true, false, cond, ◌&&◌, List, [], ◌∷◌, ◌++◌, Option, Some, None}
use Rattle.std.proofs.Common.{map, length, refl, sym, subst, append-nil, append_assoc}
use Rattle.std.specs.Prelude.{take, drop, ◌/◌, is_some, slice_get}
use Rattle.std.specs.Option.{option_and_then}
use Rattle.racer_base.specs.declared.ids.VarId.{VarId}
use Rattle.racer_base.specs.declared.ids.Kind.{Kind}
use Rattle.racer_base.specs.declared.ids.Kind.TheVariants as types
use Rattle.racer_base.specs.declared.ids.Place.{Place}
use Rattle.java_tree.specs.Trees.{Ty}
use Rattle.java_tree.specs.declared.words.Ident.{Ident}
use Rattle.java_resolver.specs.declared.scope.ScopeVariable.{ScopeVariable}
use Rattle.core_code.specs.declared.code.LockKind.TheVariants.{Own, Explicit}
use Rattle.core_code.specs.declared.code.Op.TheVariants.{Push, PushPrim, Drop, Outside, Throw as ThrowOp}
use Rattle.core_code.proofs.KindLemmas.{class_same}
use Rattle.core_code.specs.Core.{Core, Method}
use Rattle.core_code.specs.Kinds.{StackKind, Plain, Declared, Opaque, fits, kind_of}
use Rattle.core_code.specs.KindCheck.{variable_at}
use Rattle.core_lowering_drafts.specs.Drafts.{Exit, has, Op, Leave}
use Rattle.core_lowering_rules.specs.Trees.{Expr, Exprs, no_expr, expr_then, Init, Variable, Condition, Resource, Start}
use Rattle.core_lowering_rules.specs.Trees.{Declares, Runs as RunsAll, Stmt, Run, Local, If, IfElse, While, Do, For}
use Rattle.core_lowering_rules.specs.Trees.{ForEach, Sync, Return, Block, Empty, Throw, Break, Continue, Labelled}
use Rattle.core_lowering_rules.specs.Trees.{Assert}
use Rattle.core_lowering_rules.specs.Trees.{Switch, Locked, Try, Finally, Stmts, no_stmt, stmt_then, Groups, no_group}
use Rattle.core_lowering_rules.specs.Trees.{group_then}
use Rattle.core_lowering_rules.specs.Context.{Context, Guard, Result, Itself, Nothing, Value, Code, ends_of, op}
use Rattle.core_lowering_rules.specs.Context.{type_kind, variable_kind_in, within}
use Rattle.core_lowering_rules.specs.Expressions.{kind, stored, init_kind}
use Rattle.core_lowering_rules.specs.Scopes.{next_variable, declared, all_declared, started, back_in, after, after_all}
use Rattle.core_lowering_rules.specs.Scopes.{after_groups, new_variables, in_loop, in_switch, in_labelled, with_label}
use Rattle.core_lowering_rules.specs.Scopes.{is_loop, break_to, continue_to, in_guard, out_of_guard, returned_variable}
use Rattle.core_lowering_rules.specs.Scopes.{with_variable, after_return, after_last, with_resource, with_resources}
use Rattle.core_lowering_rules.specs.Scopes.{unlocked_in, caught_behind, back_from}
use Rattle.core_lowering_rules.specs.Statements.{run, gone_over, run_all, set, begun, begun_all, start, tested, is_endless}
use Rattle.core_lowering_rules.specs.Statements.{closed, jump, returned_nothing, returned_value, variable_in, returned, broken}
use Rattle.core_lowering_rules.specs.Statements.{one_round, entered, does_fall, forked_by, has_default, last_of}
use Rattle.core_lowering_rules.specs.Statements.{begun_resources, kept_null, stmt, stmts, options}
use Rattle.core_lowering_rules.proofs.Suits.{suits-own}
use Rattle.core_lowering_rules.proofs.Runs.{Runs, followed, once, outside, comes, tree_once}
use Rattle.core_lowering_rules.proofs.KindedDrafts.{Keeps, keeps-op, keeps-nothing, keeps-both, keeps-three}
use Rattle.core_lowering_rules.proofs.KindedDrafts.{keeps-value}
use Rattle.core_lowering_rules.proofs.KindedDrafts.{keeps-choice, keeps-loop, keeps-leave, keeps-never, keeps-if}
use Rattle.core_lowering_rules.proofs.KindedDrafts.{keeps-within, keeps-ending, keeps-guarded, keeps-locked, IsThere}
use Rattle.core_lowering_rules.proofs.KindedDrafts.{keeps-returned}
use Rattle.core_lowering_rules.proofs.FoundElements.{Each, each-append}
use Rattle.core_lowering_rules.proofs.Stands.{Stands, IsVariable, IsGuard, IsResult}
use Rattle.core_lowering_rules.proofs.ScopeSteps.{sides_of, return_in}
use Rattle.core_lowering_rules.proofs.KindedAccesses.{pushes, sets}
use Rattle.core_lowering_rules.proofs.KindedTouches.{looked-runs}
use Rattle.core_lowering_rules.proofs.KindedExpressions.{code-leaves, is-stored, init-leaves}
use Rattle.core_lowering_rules.proofs.GrownScopes.{Grows, HasKinds, has-earlier, grows-after, grows-after_all}
use Rattle.core_lowering_rules.proofs.GrownScopes.{grows-all}
use Rattle.core_lowering_rules.proofs.GrownScopes.{grows-groups, grows-resources, grows-last, declared-there, each-drop}
use Rattle.core_lowering_rules.proofs.GrownScopes.{declared-stands, back-stands, sides-stand, guard-stands, out-stands}
use Rattle.core_lowering_rules.proofs.GrownScopes.{given-there, started-stands, resources-stand, resource-stands}
use Rattle.core_lowering_rules.proofs.GrownScopes.{clauses-stand, after-stands, after_all-stands, groups-stand}
use Rattle.core_lowering_rules.proofs.LoweredStatements.{sent_by}

fits-opaque : (k : Kind) → fits k Opaque ≡ true
fits-opaque types.Plain = refl
fits-opaque (types.Declared c) = refl
fits-opaque types.Other = refl

fits-own : (k : Kind) → fits k (kind_of k) ≡ true
fits-own types.Plain = refl
fits-own (types.Declared c) = class_same c
fits-own types.Other = refl

each-take : {A : Type 0} (P : A → Type 0) (n : ℕ) (xs : List A) → Each P xs → Each P (take n xs)
each-take P zero xs all = tt
each-take P (suc n) [] all = tt
each-take P (suc n) (x ∷ xs) all = (all.0, each-take P n xs all.1)

module _ (core : Core) (m : Method) where
  abbrev Kept : Code → Type 0
  Kept a = Keeps core m a

  both : {a b : Code} → Kept a → Kept b → Kept (a ++ b)
  both x y = keeps-both core m x y

  three : {a b c : Code} → Kept a → Kept b → Kept c → Kept (a ++ b ++ c)
  three x y z = keeps-three core m x y z

  none : Kept []
  none = keeps-nothing core m

  -- ---- values

  run-runs : (context : Context) → Stands core m context → (e : Expr) → Runs core m (run context e) [] []
  run-runs context s e =
      let value = (code-leaves core m context s e).leaves [] in
      followed core m value.2 (once core m context.place Drop (value.0 ∷ []) [] [] refl refl refl refl)

  run-keeps : (context : Context) → Stands core m context → (e : Expr) → Kept (run context e)
  run-keeps context s e = keeps-value core m (run-runs context s e)

  gone-keeps : (context : Context) → Stands core m context → (e : Expr) → Kept (gone_over context e)
  gone-keeps context s e =
      keeps-value core m (looked-runs core m context s (stored context e) (is-stored core m context s e) (run context e)
      (run-runs context s e))

  run_all-keeps : (context : Context) → Stands core m context → (es : Exprs) → Kept (run_all context es)
  run_all-keeps context s no_expr = none
  run_all-keeps context s (expr_then e es) = both (run-keeps context s e) (run_all-keeps context s es)

  tested-keeps : (context : Context) → Stands core m context → (o : Option Condition) → Kept (tested context o)
  tested-keeps context s None = none
  tested-keeps context s (Some c) = run-keeps context s c.on

  -- a value is set and dropped
  set-drops : (context : Context) → Stands core m context → (v : VarId) (k : Kind) (s : StackKind) →
      variable_at m v ≡ Some k → fits k s ≡ true → Runs core m (set context v) (s ∷ []) []
  set-drops context stands v k s there h =
      followed core m (sets core m context stands context.place v k s [] there h) (once core m context.place Drop
      (s ∷ []) [] [] refl refl refl refl)

  begun-keeps : (context : Context) → Stands core m context → (v : VarId) (k : Kind) → variable_at m v ≡ Some k →
      (o : Option Init) → Kept (begun context v k o)
  begun-keeps context s v k there None = none
  begun-keeps context s v k there (Some i) =
      let value = (init-leaves core m context s i).leaves [] in
      let c = comes core m context k (init_kind context i) value.0 [] value.1 in
      keeps-value core m
      (followed core m (followed core m value.2 c.runs) (set-drops context s v k c.to there c.fitting))

  begun_all-keeps : (context : Context) (t : Ty) (vs : List Variable) → Stands core m context →
      HasKinds m (all_declared context t vs) → Kept (begun_all context t vs)
  begun_all-keeps context t [] s h = none
  begun_all-keeps context t (v ∷ vs) s h =
      let k = variable_kind_in context t v.arrays in
      let inside = declared context k v.name in
      let own = has-earlier m inside (all_declared inside t vs) (grows-all inside t vs) h in
      let stands = declared-stands core m context k v.name s own in
      both (begun-keeps inside stands (next_variable context) k.kind
      (declared-there m context k v.name own) v.initialiser) (begun_all-keeps inside t vs stands h)

  start-keeps : (context : Context) (i : Start) → Stands core m context → HasKinds m (started context i) →
      Kept (start context i)
  start-keeps context (Declares t vs) s h = begun_all-keeps context t vs s h
  start-keeps context (RunsAll es) s h = run_all-keeps context s es

  -- ---- ends of blocks

  all-there : (vs : List ScopeVariable) → Each (IsVariable m) vs →
      Each (IsThere core m) (map (λ (v : ScopeVariable). v.id) vs)
  all-there [] all = tt
  all-there (v ∷ vs) all = ((v.kind, all.0), all-there vs all.1)

  pub closed-keeps : (before inside : Context) → Stands core m inside → {a : Code} → Kept a →
      Kept (closed before inside a)
  closed-keeps before inside t k =
      let vs = drop (length before.scope.variables) inside.scope.variables in
      keeps-ending core m before.place (new_variables before inside)
      (all-there vs (each-drop (IsVariable m) (length before.scope.variables) inside.scope.variables t.variables)) k

  -- ---- returns

  -- one value, which the method may give
  abbrev Gives : Code → Type 0
  Gives a = (s : StackKind) × (fits m.result s ≡ true) × Runs core m a [] (s ∷ [])

  itself-gives : (context : Context) → Stands core m context → IsResult m Itself →
      Gives (op context (Push (record { 0 = 0 })))
  itself-gives context s g = (
    Declared g.0,
    subst (λ k. fits k (Declared g.0) ≡ true) (sym g.2) (suits-own (types.Declared g.0)),
    pushes core m context s context.place (record { 0 = 0 }) (types.Declared g.0) [] g.1,
  )

  number-gives : (context : Context) → m.result ≡ types.Plain → Gives (op context PushPrim)
  number-gives context e = (
    Plain,
    subst (λ k. fits k Plain ≡ true) (sym e) refl,
    once core m context.place PushPrim [] (Plain ∷ []) [] refl refl refl refl,
  )

  unknown-gives : (context : Context) → Gives (op context (Outside 0))
  unknown-gives context = (Opaque, fits-opaque m.result, outside core m context.place [] [] 0 refl)

  behind-run : (context : Context) → Stands core m context → (e : Expr) {a : Code} → Gives a →
      Gives (run context e ++ a)
  behind-run context s e g = (g.0, g.1, followed core m (run-runs context s e) g.2)

  nothing-gives : (context : Context) → Stands core m context → (r : Result) → IsResult m r →
      Gives (returned_nothing context r)
  nothing-gives context s Itself g = itself-gives context s g
  nothing-gives context s Nothing g = number-gives context g
  nothing-gives context s (Value types.Plain) g = number-gives context g
  nothing-gives context s (Value (types.Declared c)) g = unknown-gives context
  nothing-gives context s (Value types.Other) g = unknown-gives context

  value-gives : (context : Context) → Stands core m context → (r : Result) → IsResult m r → (e : Expr) →
      Gives (returned_value context r e)
  value-gives context s Itself g e = behind-run context s e (itself-gives context s g)
  value-gives context s Nothing g e = behind-run context s e (number-gives context g)
  value-gives context s (Value k) g e =
      let value = (code-leaves core m context s e).leaves [] in
      let c = comes core m context k (kind context e) value.0 [] value.1 in
      (c.to, subst (λ k. fits k c.to ≡ true) (sym g) c.fitting, followed core m value.2 c.runs)

  -- the variable of what is returned, where there is one
  abbrev IsOwn : Option VarId → Type 0
  IsOwn o = elim o [ None ↦ Unit {0} | Some v ↦ variable_at m v ≡ Some m.result ]

  variable-there : (context : Context) → Stands core m context → (guard : Guard) (outer : List Guard) →
      IsGuard m guard → HasKinds m (return_in context (guard ∷ outer)) →
      variable_at m (variable_in context guard) ≡ Some m.result
  variable-there context s guard outer own h = by guard.variable own h
    where
      by : (o : Option VarId) → IsOwn o → HasKinds m (cond (is_some o) context (with_variable context guard outer)) →
          variable_at m (elim o [ None ↦ next_variable context | Some v ↦ v ]) ≡ Some m.result
      by None g k = given-there core m context s guard outer k
      by (Some v) g k = g

  sent-keeps : (context : Context) → Stands core m context → {a : Code} → Gives a → (all : List Guard) →
      Each (IsGuard m) all → HasKinds m (return_in context all) → Kept (a ++ sent_by context all)
  sent-keeps context s {a} g [] each h = keeps-returned core m context.place g.0 g.2 g.1
  sent-keeps context s {a} g (guard ∷ outer) each h =
      let v = variable_in context guard in
      subst (λ (c : Code). Kept c) (append_assoc a (set context v) (Leave guard.exit ∷ []))
      (both (keeps-value core m (followed core m g.2 (set-drops context s v m.result g.0
      (variable-there context s guard outer each.0 h) g.1))) (keeps-leave core m guard.exit))

  pub returned-keeps : (context : Context) → Stands core m context → HasKinds m (after_return context) →
      (o : Option Expr) → Kept (returned context o)
  returned-keeps context s h None =
      sent-keeps context s (nothing-gives context s context.result s.gives) context.guards s.guards h
  returned-keeps context s h (Some e) =
      sent-keeps context s (value-gives context s context.result s.gives e) context.guards s.guards h

  own-variable : (all : List Guard) → Each (IsGuard m) all →
      IsOwn (option_and_then (λ (g : Guard). g.variable) (slice_get all 0))
  own-variable [] each = tt
  own-variable (guard ∷ outer) each = each.0

  last-keeps : (context : Context) → Stands core m context → (o : Option VarId) → IsOwn o →
      HasKinds m (after_last o context) → Kept (last_of context o)
  last-keeps context s None own h = none
  last-keeps context s (Some v) own h =
      sent-keeps context s
      (kind_of m.result, fits-own m.result, pushes core m context s context.place v m.result [] own) context.guards
      s.guards h

  null-keeps : (context : Context) (o : Option VarId) → IsOwn o → {a : Code} → Kept a → Kept (kept_null context o a)
  null-keeps context None own k = k
  null-keeps context (Some v) own k = keeps-ending core m context.place (v ∷ []) ((m.result, own), tt) k

  -- ---- jumps and loops

  jump-keeps : (o : Option ℕ) → Kept (jump o)
  jump-keeps None = none
  jump-keeps (Some exit) = keeps-leave core m exit

  broken-keeps : (context : Context) (endless : Bool) (body : Code) {turns : Code} → Kept turns →
      Kept (broken context endless body turns)
  broken-keeps context endless body k =
      keeps-within core m context.exits (both k
      (keeps-if core m (endless && has (ends_of body) (Exit context.exits)) (keeps-never core m) none))

  round-keeps : (context : Context) {body : Code} → Kept body → Kept (one_round context body)
  round-keeps context k = keeps-within core m (suc context.exits) k

  loop-stands : (context : Context) → Stands core m context → Stands core m (in_loop context)
  loop-stands context s = sides-stand core m context (sides_of (in_loop context)) s

  -- ---- groups

  forks-keep : (n : ℕ) (all : List Code) → Each Kept all → Kept (forked_by n all)
  forks-keep zero all each = none
  forks-keep (suc n) [] each = none
  forks-keep (suc n) (a ∷ []) each = each.0
  forks-keep (suc n) (a ∷ b ∷ all) each =
      let half = length (a ∷ b ∷ all) / 2 in
      keeps-choice core m (forks-keep n (take half (a ∷ b ∷ all)) (each-take Kept half (a ∷ b ∷ all) each))
      (forks-keep n (drop half (a ∷ b ∷ all)) (each-drop Kept half (a ∷ b ∷ all) each))

  abbrev SomeKept : Option Code → Type 0
  SomeKept None = Unit {0}
  SomeKept (Some a) = Kept a

  entered-keeps : (o : Option Code) → SomeKept o → Kept (entered o)
  entered-keeps None k = none
  entered-keeps (Some a) k = keeps-choice core m k none

  each-if : (b : Bool) (xs ys : List Code) → Each Kept xs → Each Kept ys → Each Kept (cond b xs ys)
  each-if true xs ys p q = p
  each-if false xs ys p q = q

  default-keeps : (b : Bool) → Each Kept (cond b [] ([] ∷ []))
  default-keeps true = tt
  default-keeps false = (none, tt)

  -- ---- resources

  resources-keep : (context : Context) (rs : List Resource) → Stands core m context →
      HasKinds m (with_resources context rs) → Kept (begun_resources context rs)
  resources-keep context [] s h = none
  resources-keep context (r ∷ rs) s h =
      let k = type_kind context r.kind in
      let inside = with_resource context r in
      let own = has-earlier m inside (with_resources inside rs) (grows-resources inside rs) h in
      let stands = resource-stands core m context r s own in
      let known = variable_kind_in context r.kind 0 in
      let there : HasKinds m (declared context known r.name) = record { rest = own.rest; all = own.all } in
      let value = (code-leaves core m inside stands r.value).leaves [] in
      let c = comes core m inside k (kind inside r.value) value.0 [] value.1 in
      both (keeps-value core m (followed core m (followed core m value.2 c.runs)
      (set-drops inside stands (next_variable context) k c.to (declared-there m context known r.name there) c.fitting)))
      (resources-keep inside rs stands h)

  -- ---- statements

  throws : (context : Context) (place : Place) → Kept (Op place ThrowOp ∷ [])
  throws context place =
      keeps-op core m place ThrowOp (tree_once core m place ThrowOp [] [] [] refl refl refl refl)

  -- as a loop or another statement
  labelled-keeps : (context : Context) (x : Ident) (b : Stmt) (t : Bool) →
      HasKinds m (cond t (after (with_label context x) b) (back_from context (after (in_labelled context x) b))) →
      (HasKinds m (after (with_label context x) b) → Kept (stmt (with_label context x) b)) →
      (HasKinds m (after (in_labelled context x) b) → Kept (stmt (in_labelled context x) b)) →
      Kept (cond t (stmt (with_label context x) b) (within context.exits (stmt (in_labelled context x) b)))
  labelled-keeps context x b true h loops other = loops h
  labelled-keeps context x b false h loops other =
      keeps-within core m context.exits (other (record { rest = h.rest; all = h.all }))

  block-by : (context : Context) → Stands core m context → (ss : Stmts) → HasKinds m (after_all context ss) →
      Kept (stmts context ss) → Kept (closed context (after_all context ss) (stmts context ss))
  block-by context s ss h k = closed-keeps context (after_all context ss) (after_all-stands core m context ss s h) k

  same-grows : (context : Context) → Grows context context
  same-grows context = record { more = []; longer = sym (append-nil context.kinds) }

  mutual
    pub stmt-keeps : (context : Context) → Stands core m context → (s : Stmt) → HasKinds m (after context s) →
        Kept (stmt context s)
    stmt-keeps context s (Run e) h = run-keeps context s e
    stmt-keeps context s (Local t vs) h = begun_all-keeps context t vs s h
    stmt-keeps context s (If e b) h =
        both (run-keeps context s e) (keeps-choice core m (stmt-keeps context s b h) none)
    stmt-keeps context s (IfElse e a b) h =
        let first = has-earlier m (after context a) (after (after context a) b) (grows-after (after context a) b) h in
        both (run-keeps context s e) (keeps-choice core m (stmt-keeps context s a first)
        (stmt-keeps (after context a) (after-stands core m context a s first) b h))
    stmt-keeps context s (While c b) h =
        let inside = in_loop context in
        let stands = loop-stands context s in
        let own : HasKinds m (after inside b) = record { rest = h.rest; all = h.all } in
        both (run-keeps context s c.on) (broken-keeps context c.is_true (stmt inside b) (keeps-loop core m
        (both (round-keeps context (stmt-keeps inside stands b own))
        (run-keeps (after inside b) (after-stands core m inside b stands own) c.on))))
    stmt-keeps context s (Do b c) h =
        let inside = in_loop context in
        let stands = loop-stands context s in
        let own : HasKinds m (after inside b) = record { rest = h.rest; all = h.all } in
        let turn = both (round-keeps context (stmt-keeps inside stands b own))
        (run-keeps (after inside b) (after-stands core m inside b stands own) c.on) in
        broken-keeps context c.is_true (stmt inside b) (both turn (keeps-loop core m turn))
    stmt-keeps context s (For i c updates b) h =
        let outer = started context i in
        let inside = in_loop outer in
        let behind = after inside b in
        let own : HasKinds m behind = record { rest = h.rest; all = h.all } in
        let inner = has-earlier m inside behind (grows-after inside b) own in
        let begins : HasKinds m outer = record { rest = inner.rest; all = inner.all } in
        let outer_stands = started-stands core m context i s begins in
        let stands = loop-stands outer outer_stands in
        let ends = after-stands core m inside b stands own in
        let turn = three (round-keeps outer (stmt-keeps inside stands b own)) (run_all-keeps behind ends updates)
        (tested-keeps behind ends c) in
        closed-keeps context behind ends (three (start-keeps context i s begins) (tested-keeps outer outer_stands c)
        (broken-keeps outer (is_endless c) (stmt inside b) (keeps-loop core m turn)))
    stmt-keeps context s (ForEach t x e b) h =
        let known = variable_kind_in context t 0 in
        let k = known.kind in
        let outer = declared context known x in
        let inside = in_loop outer in
        let behind = after inside b in
        let own : HasKinds m behind = record { rest = h.rest; all = h.all } in
        let inner = has-earlier m inside behind (grows-after inside b) own in
        let begins : HasKinds m outer = record { rest = inner.rest; all = inner.all } in
        let outer_stands = declared-stands core m context known x s begins in
        let stands = loop-stands outer outer_stands in
        let first = keeps-value core m (followed core m (outside core m context.place [] [] 0 refl)
        (set-drops context s (next_variable context) k Opaque (declared-there m context known x begins)
        (fits-opaque k))) in
        closed-keeps context behind (after-stands core m inside b stands own) (both (gone-keeps context s e)
        (broken-keeps outer false (stmt inside b) (keeps-loop core m
        (both first (round-keeps outer (stmt-keeps inside stands b own))))))
    stmt-keeps context s (Sync place e ss) h =
        let own : HasKinds m (after_all context ss) = record { rest = h.rest; all = h.all } in
        let value = (code-leaves core m context s e).leaves [] in
        keeps-locked core m Own place value.0 value.2 (block-by context s ss own (stmts-keep context s ss own))
    stmt-keeps context s (Return e) h = returned-keeps context s h e
    stmt-keeps context s (Block ss) h =
        let own : HasKinds m (after_all context ss) = record { rest = h.rest; all = h.all } in
        block-by context s ss own (stmts-keep context s ss own)
    stmt-keeps context s Empty h = none
    stmt-keeps context s (Throw place e) h = both (run-keeps context s e) (throws context place)
    stmt-keeps context s (Break o) h = jump-keeps (break_to context o)
    stmt-keeps context s (Continue o) h = jump-keeps (continue_to context o)
    stmt-keeps context s (Labelled x b) h =
        labelled-keeps context x b (is_loop b) h
        (λ k. stmt-keeps (with_label context x) (sides-stand core m context (sides_of (with_label context x)) s) b k)
        (λ k. stmt-keeps (in_labelled context x) (sides-stand core m context (sides_of (in_labelled context x)) s) b k)
    stmt-keeps context s (Assert e told) h = keeps-choice core m (run-keeps context s e) none
    stmt-keeps context s (Switch e gs) h =
        let inside = in_switch context in
        let stands = sides-stand core m context (sides_of inside) s in
        let own : HasKinds m (after_groups inside gs) = record { rest = h.rest; all = h.all } in
        let rest : List Code = cond (has_default gs) [] ([] ∷ []) in
        let all = options inside None gs ++ rest in
        both (run-keeps context s e) (closed-keeps context (after_groups inside gs)
        (groups-stand core m inside gs stands own) (keeps-within core m context.exits (forks-keep (length all) all
        (each-append Kept (options inside None gs) rest (options-keep inside stands None tt gs own)
        (default-keeps (has_default gs))))))
    stmt-keeps context s (Locked place e ss catches) h =
        let own : HasKinds m (after_all context ss) = record { rest = h.rest; all = h.all } in
        let value = (code-leaves core m context s e).leaves [] in
        keeps-locked core m Explicit place value.0 value.2 (block-by context s ss own (stmts-keep context s ss own))
    stmt-keeps context s (Try rs ss catches) h =
        let inside = with_resources context rs in
        let end = after_all inside ss in
        let own : HasKinds m end = record { rest = h.rest; all = h.all } in
        let begins = has-earlier m inside end (grows-after_all inside ss) own in
        let stands = resources-stand core m context rs s begins in
        closed-keeps context inside stands (both (resources-keep context rs s begins)
        (block-by inside stands ss own (stmts-keep inside stands ss own)))
    stmt-keeps context s (Finally rs ss catches finally) h =
        let guarded_in = in_guard context in
        let guard_stands = guard-stands core m context s in
        let inside = with_resources guarded_in rs in
        let end = after_all inside ss in
        let out = back_in context (out_of_guard context end) in
        let behind = unlocked_in (caught_behind out catches) finally in
        let last_inside = after_all behind finally in
        let last_context = back_in behind last_inside in
        let variable = returned_variable end in
        let at_last = has-earlier m last_context (after_last variable last_context)
        (grows-last variable last_context last_context (same-grows last_context)) h in
        let in_last : HasKinds m last_inside = record { rest = at_last.rest; all = at_last.all } in
        let at_behind = has-earlier m behind last_inside (grows-after_all behind finally) in_last in
        let at_end : HasKinds m end = record { rest = at_behind.rest; all = at_behind.all } in
        let begins = has-earlier m inside end (grows-after_all inside ss) at_end in
        let stands = resources-stand core m guarded_in rs guard_stands begins in
        let end_stands = after_all-stands core m inside ss stands at_end in
        let out_stands = back-stands core m context (out_of_guard context end) s
        (out-stands core m context end end_stands) in
        let caught_stands = clauses-stand core m out catches out_stands in
        let behind_stands = sides-stand core m (caught_behind out catches) (sides_of behind) caught_stands in
        let last_stands = back-stands core m behind last_inside behind_stands
        (after_all-stands core m behind finally behind_stands in_last) in
        let own = own-variable end.guards end_stands.guards in
        null-keeps context variable own (keeps-guarded core m context.exits
        (closed-keeps context inside stands (both (resources-keep guarded_in rs guard_stands begins)
        (block-by inside stands ss at_end (stmts-keep inside stands ss at_end))))
        (block-by behind behind_stands finally in_last (stmts-keep behind behind_stands finally in_last))
        (last-keeps last_context last_stands variable own h))

    pub stmts-keep : (context : Context) → Stands core m context → (ss : Stmts) → HasKinds m (after_all context ss) →
        Kept (stmts context ss)
    stmts-keep context s no_stmt h = none
    stmts-keep context s (stmt_then b ss) h =
        let first = has-earlier m (after context b) (after_all (after context b) ss) (grows-after_all
        (after context b) ss) h
        in
        both (stmt-keeps context s b first) (stmts-keep (after context b)
        (after-stands core m context b s first) ss h)

    options-keep : (context : Context) → Stands core m context → (o : Option Code) → SomeKept o → (gs : Groups) →
        HasKinds m (after_groups context gs) → Each Kept (options context o gs)
    options-keep context s o k no_group h = tt
    options-keep context s o k (group_then labels ss gs) h =
        let behind = after_all context ss in
        let first = has-earlier m behind (after_groups behind gs) (grows-groups behind gs) h in
        let stands = after_all-stands core m context ss s first in
        let a = entered o ++ stmts context ss in
        let group = both (entered-keeps o k) (stmts-keep context s ss first) in
        each-if (does_fall a gs) (options behind (Some a) gs) (a ∷ options behind None gs)
        (options-keep behind stands (Some a) group gs h) (group, options-keep behind stands None tt gs h)

  pub block-keeps : (context : Context) → Stands core m context → (ss : Stmts) → HasKinds m (after_all context ss) →
      Kept (closed context (after_all context ss) (stmts context ss))
  block-keeps context s ss h = block-by context s ss h (stmts-keep context s ss h)
