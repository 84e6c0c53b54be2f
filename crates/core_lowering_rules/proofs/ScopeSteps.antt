-- What holds of each step of a scope holds of all that declarations and statements do to it: one induction, of two
-- contexts side by side. Where one is enough the other is not looked at.
use Rattle.std.proofs.Common.{◌≡◌, ℕ, Bool, true, false, cond, ◌||◌, List, [], ◌∷◌, Option, None, Some, refl}
use Rattle.std.proofs.Common.{ap, subst}
use Rattle.std.specs.Prelude.{is_some}
use Rattle.racer_base.specs.declared.ids.Kind.{Kind}
use Rattle.java_tree.specs.declared.words.Ident.{Ident}
use Rattle.java_tree.specs.declared.methods.ParameterTree.{ParameterTree}
use Rattle.java_tree.specs.Trees.{Ty}
use Rattle.java_tree.specs.View.{ty_of}
use Rattle.java_resolver.specs.Declarations.{further_arrays}
use Rattle.core_code.specs.declared.code.Reason.{Reason}
use Rattle.core_lowering_rules.specs.Trees.{Variable, Start, Declares, Runs, Stmt, Run, Local, If, IfElse, While, Do}
use Rattle.core_lowering_rules.specs.Trees.{For}
use Rattle.core_lowering_rules.specs.Trees.{ForEach, Sync, Return, Block, Empty, Throw, Break, Continue, Labelled}
use Rattle.core_lowering_rules.specs.Trees.{Assert}
use Rattle.core_lowering_rules.specs.Trees.{Switch, Locked, Try, Finally, Resource, Stmts, no_stmt, stmt_then, Groups}
use Rattle.core_lowering_rules.specs.Trees.{no_group, group_then, Catches, no_catch, catch_then, Expr}
use Rattle.core_lowering_rules.specs.Locks.{is_stored_in, lock_kept, lock_noted}
use Rattle.core_lowering_rules.specs.Context.{Context, Guard, Target, type_kind}
use Rattle.core_lowering_rules.specs.Scopes.{of_type, of_catch, all_declared, started, back_in, back_from, in_loop}
use Rattle.core_lowering_rules.specs.Scopes.{in_switch}
use Rattle.core_lowering_rules.specs.Scopes.{in_labelled, with_label, is_loop, break_to, continue_to, jumped, in_guard}
use Rattle.core_lowering_rules.specs.Scopes.{out_of_guard, returned_variable, with_variable, after_return, after_last}
use Rattle.core_lowering_rules.specs.Scopes.{is_closed_by}
use Rattle.core_lowering_rules.specs.Scopes.{with_resource, with_resources, unlocked_in, after, after_all, after_groups}
use Rattle.core_lowering_rules.specs.Scopes.{caught, caught_behind}
use Rattle.racer_base.specs.declared.ids.Kind.TheVariants as kinds
use Rattle.core_lowering_rules.specs.Methods.{parameters_declared}
use Rattle.core_lowering_rules.proofs.StatusesUnseen.{with_statuses}

-- what of a context is neither variables nor returns
pub record Sides : Type 0 where
  pub exits : ℕ
  pub labels : List (List ℕ)
  pub targets : List Target
  pub other_lock : Bool
  pub is_apart : Bool

abbrev pub sides_of : Context → Sides
sides_of c =
    record {
      exits = c.exits;
      labels = c.labels;
      targets = c.targets;
      other_lock = c.other_lock;
      is_apart = c.is_apart;
    }

abbrev pub with_sides : Context → Sides → Context
with_sides c s =
    record c {
      exits = s.exits;
      labels = s.labels;
      targets = s.targets;
      other_lock = s.other_lock;
      is_apart = s.is_apart;
    }

-- what does not depend on which methods are analysed
abbrev pub IsBlind : (Context → Sides) → Type 0
IsBlind f = (statuses : List (Option Reason)) (c : Context) → f (with_statuses statuses c) ≡ f c

abbrev pub AreBlind : (Context → Context → Sides) → Type 0
AreBlind f =
    (statuses : List (Option Reason)) (c d : Context) →
    f (with_statuses statuses c) (with_statuses statuses d) ≡ f c d

-- from the contexts x and c to y and d
pub record ScopeFact : Type 1 where
  pub Goes : (x c y d : Context) → Type 0
  pub stays : (x c : Context) → Goes x c x c
  pub further : (x c y d z e : Context) → Goes x c y d → Goes y d z e → Goes x c z e
  pub declares : (x c : Context) (t : Ty) (n : ℕ) (name : Ident) → Goes x c (of_type x t n name) (of_type c t n name)
  pub names : (x c : Context) (name : Ident) → Goes x c (of_catch x name) (of_catch c name)
  pub backs : (x c y d : Context) → Goes x c y d → Goes x c (back_in x y) (back_in c d)
  -- sides change: of the context, of the context behind by both, and of the context before by both
  pub notes : (x c : Context) (f : Context → Sides) → IsBlind f → Goes x c (with_sides x (f x)) (with_sides c (f c))
  pub turns : (x c y d : Context) (f : Context → Context → Sides) → AreBlind f → Goes x c y d →
      Goes x c (with_sides y (f x y)) (with_sides d (f c d))
  pub keeps : (x c y d : Context) (f : Context → Context → Sides) → AreBlind f → Goes x c y d →
      Goes x c (with_sides x (f x y)) (with_sides c (f c d))
  -- a `try` with a `finally` begins and ends; a return
  pub guards : (x c : Context) → Goes x c (in_guard x) (in_guard c)
  pub unguards : (x c y d : Context) → Goes x c y d → Goes x c (out_of_guard x y) (out_of_guard c d)
  pub returns : (x c : Context) → Goes x c (after_return x) (after_return c)
  pub lasts : (x c y d z e : Context) → Goes x c y d → Goes x c z e →
      Goes x c (after_last (returned_variable y) z) (after_last (returned_variable d) e)

-- a return, by what stands round it
abbrev pub return_in : Context → List Guard → Context
return_in context guards = elim guards [
  | [] ↦ context
  | ◌∷◌ guard outer ↦ cond (is_some guard.variable) context (with_variable context guard outer)
]

-- ---- sides of steps

abbrev loop_sides : Context → Sides
loop_sides c = sides_of (in_loop c)

abbrev switch_sides : Context → Sides
switch_sides c = sides_of (in_switch c)

abbrev labelled_sides : Ident → Context → Sides
labelled_sides x c = sides_of (in_labelled c x)

abbrev label_sides : Ident → Context → Sides
label_sides x c = sides_of (with_label c x)

abbrev broken_sides : Option Ident → Context → Sides
broken_sides x c = sides_of (jumped c (break_to c x))

abbrev continued_sides : Option Ident → Context → Sides
continued_sides x c = sides_of (jumped c (continue_to c x))

abbrev noted_sides : Expr → Bool → Context → Sides
noted_sides e is_stored c = sides_of (lock_noted c e is_stored)

abbrev unlocked_sides : Stmts → Context → Sides
unlocked_sides ss c = sides_of (unlocked_in c ss)

-- of a resource, from before and behind its declaration
abbrev resource_sides : Ty → Context → Context → Sides
resource_sides t c d = record (sides_of d) { is_apart = c.is_apart || is_closed_by c (type_kind c t) }

abbrev back_sides : Context → Context → Sides
back_sides c d = sides_of (back_from c d)

abbrev kept_sides : Context → Context → Sides
kept_sides c d = sides_of (lock_kept c d)

jumped-same : (c : Context) (o : Option ℕ) → with_sides c (sides_of (jumped c o)) ≡ jumped c o
jumped-same c None = refl
jumped-same c (Some exit) = refl

jumped-blind : (statuses : List (Option Reason)) (c : Context) (o : Option ℕ) →
    sides_of (jumped (with_statuses statuses c) o) ≡ sides_of (jumped c o)
jumped-blind statuses c None = refl
jumped-blind statuses c (Some exit) = refl

closed-blind : (statuses : List (Option Reason)) (c : Context) (k : Kind) →
    is_closed_by (with_statuses statuses c) k ≡ is_closed_by c k
closed-blind statuses c kinds.Plain = refl
closed-blind statuses c (kinds.Declared i) = refl
closed-blind statuses c kinds.Other = refl

module _ (f : ScopeFact) where
  pub goes-all : (x c : Context) (t : Ty) (vs : List Variable) →
      f.Goes x c (all_declared x t vs) (all_declared c t vs)
  goes-all x c t [] = f.stays x c
  goes-all x c t (v ∷ vs) =
      let y = of_type x t v.arrays v.name in
      let d = of_type c t v.arrays v.name in
      f.further x c y d (all_declared y t vs) (all_declared d t vs) (f.declares x c t v.arrays v.name)
      (goes-all y d t vs)

  pub goes-parameters : (x c : Context) (ps : List ParameterTree) →
      f.Goes x c (parameters_declared x ps) (parameters_declared c ps)
  goes-parameters x c [] = f.stays x c
  goes-parameters x c (p ∷ ps) =
      let further = further_arrays p in
      let y = of_type x (ty_of p.kind) further p.name in
      let d = of_type c (ty_of p.kind) further p.name in
      f.further x c y d (parameters_declared y ps) (parameters_declared d ps)
      (f.declares x c (ty_of p.kind) further p.name) (goes-parameters y d ps)

  pub goes-started : (x c : Context) (i : Start) → f.Goes x c (started x i) (started c i)
  goes-started x c (Declares t vs) = goes-all x c t vs
  goes-started x c (Runs es) = f.stays x c

  -- ---- jumps

  pub goes-loop : (x c : Context) → f.Goes x c (in_loop x) (in_loop c)
  goes-loop x c = f.notes x c loop_sides (λ statuses d. refl)

  pub goes-switch : (x c : Context) → f.Goes x c (in_switch x) (in_switch c)
  goes-switch x c = f.notes x c switch_sides (λ statuses d. refl)

  pub goes-labelled : (x c : Context) (name : Ident) → f.Goes x c (in_labelled x name) (in_labelled c name)
  goes-labelled x c name = f.notes x c (labelled_sides name) (λ statuses d. refl)

  pub goes-label : (x c : Context) (name : Ident) → f.Goes x c (with_label x name) (with_label c name)
  goes-label x c name = f.notes x c (label_sides name) (λ statuses d. refl)

  pub goes-back : (x c y d : Context) → f.Goes x c y d → f.Goes x c (back_from x y) (back_from c d)
  goes-back x c y d p = f.turns x c y d back_sides (λ statuses c d. refl) p

  moved : (x c : Context) (y z d e : Context) → y ≡ z → d ≡ e → f.Goes x c y d → f.Goes x c z e
  moved x c y z d e p q g =
      subst (λ (s : Context). f.Goes x c s e) p (subst (λ (s : Context). f.Goes x c y s) q g)

  goes-break : (x c : Context) (o : Option Ident) →
      f.Goes x c (jumped x (break_to x o)) (jumped c (break_to c o))
  goes-break x c o =
      moved x c (with_sides x (broken_sides o x)) (jumped x (break_to x o)) (with_sides c (broken_sides o c))
      (jumped c (break_to c o)) (jumped-same x (break_to x o)) (jumped-same c (break_to c o))
      (f.notes x c (broken_sides o) (λ statuses d. jumped-blind statuses d (break_to d o)))

  goes-continue : (x c : Context) (o : Option Ident) →
      f.Goes x c (jumped x (continue_to x o)) (jumped c (continue_to c o))
  goes-continue x c o =
      moved x c (with_sides x (continued_sides o x)) (jumped x (continue_to x o)) (with_sides c (continued_sides o c))
      (jumped c (continue_to c o)) (jumped-same x (continue_to x o)) (jumped-same c (continue_to c o))
      (f.notes x c (continued_sides o) (λ statuses d. jumped-blind statuses d (continue_to d o)))

  -- ---- resources and locks

  pub goes-resource : (x c : Context) (r : Resource) → f.Goes x c (with_resource x r) (with_resource c r)
  goes-resource x c r =
      f.turns x c (of_type x r.kind 0 r.name) (of_type c r.kind 0 r.name) (resource_sides r.kind)
      (λ statuses d e. ap (λ (b : Bool). record (sides_of e) { is_apart = d.is_apart || b })
      (closed-blind statuses d (type_kind d r.kind)))
      (f.declares x c r.kind 0 r.name)

  pub goes-resources : (x c : Context) (rs : List Resource) → f.Goes x c (with_resources x rs) (with_resources c rs)
  goes-resources x c [] = f.stays x c
  goes-resources x c (r ∷ rs) =
      f.further x c (with_resource x r) (with_resource c r) (with_resources (with_resource x r) rs)
      (with_resources (with_resource c r) rs) (goes-resource x c r)
      (goes-resources (with_resource x r) (with_resource c r) rs)

  goes-kept : (x c y d : Context) → f.Goes x c y d → f.Goes x c (lock_kept x y) (lock_kept c d)
  goes-kept x c y d p = f.keeps x c y d kept_sides (λ statuses c d. refl) p

  goes-noted : (x c : Context) (e : Expr) (is_stored : Bool) →
      f.Goes x c (lock_noted x e is_stored) (lock_noted c e is_stored)
  goes-noted x c e is_stored = f.notes x c (noted_sides e is_stored) (λ statuses d. refl)

  pub goes-unlocked : (x c : Context) (ss : Stmts) → f.Goes x c (unlocked_in x ss) (unlocked_in c ss)
  goes-unlocked x c ss = f.notes x c (unlocked_sides ss) (λ statuses d. refl)

  -- ---- statements

  by-loop : (b : Bool) (x c y d z e : Context) → f.Goes x c y d → f.Goes x c z e →
      f.Goes x c (cond b y z) (cond b d e)
  by-loop true x c y d z e p q = p
  by-loop false x c y d z e p q = q

  mutual
    pub goes-after : (x c : Context) (s : Stmt) → f.Goes x c (after x s) (after c s)
    goes-after x c (Run e) = f.stays x c
    goes-after x c (Local t vs) = goes-all x c t vs
    goes-after x c (If e s) = goes-after x c s
    goes-after x c (IfElse e s t) =
        f.further x c (after x s) (after c s) (after (after x s) t) (after (after c s) t) (goes-after x c s)
        (goes-after (after x s) (after c s) t)
    goes-after x c (While e s) =
        let y = in_loop x in
        let d = in_loop c in
        goes-back x c (after y s) (after d s)
        (f.further x c y d (after y s) (after d s) (goes-loop x c) (goes-after y d s))
    goes-after x c (Do s e) =
        let y = in_loop x in
        let d = in_loop c in
        goes-back x c (after y s) (after d s)
        (f.further x c y d (after y s) (after d s) (goes-loop x c) (goes-after y d s))
    goes-after x c (For i e updates s) =
        let y = started x i in
        let d = started c i in
        let z = after (in_loop y) s in
        let n = after (in_loop d) s in
        f.backs x c (back_from y z) (back_from d n)
        (f.further x c y d (back_from y z) (back_from d n) (goes-started x c i)
        (goes-back y d z n (f.further y d (in_loop y) (in_loop d) z n (goes-loop y d)
        (goes-after (in_loop y) (in_loop d) s))))
    goes-after x c (ForEach t name e s) =
        let y = of_type x t 0 name in
        let d = of_type c t 0 name in
        let z = after (in_loop y) s in
        let n = after (in_loop d) s in
        f.backs x c (back_from y z) (back_from d n)
        (f.further x c y d (back_from y z) (back_from d n) (f.declares x c t 0 name)
        (goes-back y d z n (f.further y d (in_loop y) (in_loop d) z n (goes-loop y d)
        (goes-after (in_loop y) (in_loop d) s))))
    goes-after x c (Sync place e ss) = f.backs x c (after_all x ss) (after_all c ss) (goes-after_all x c ss)
    goes-after x c (Return e) = f.returns x c
    goes-after x c (Block ss) = f.backs x c (after_all x ss) (after_all c ss) (goes-after_all x c ss)
    goes-after x c Empty = f.stays x c
    goes-after x c (Throw place e) = f.stays x c
    goes-after x c (Break o) = goes-break x c o
    goes-after x c (Continue o) = goes-continue x c o
    goes-after x c (Labelled name s) =
        let y = with_label x name in
        let d = with_label c name in
        let z = in_labelled x name in
        let n = in_labelled c name in
        by-loop (is_loop s) x c (after y s) (after d s) (back_from x (after z s)) (back_from c (after n s))
        (f.further x c y d (after y s) (after d s) (goes-label x c name) (goes-after y d s))
        (goes-back x c (after z s) (after n s)
        (f.further x c z n (after z s) (after n s) (goes-labelled x c name) (goes-after z n s)))
    goes-after x c (Assert e told) = f.stays x c
    goes-after x c (Switch e gs) =
        let y = in_switch x in
        let d = in_switch c in
        f.backs x c (back_from x (after_groups y gs)) (back_from c (after_groups d gs))
        (goes-back x c (after_groups y gs) (after_groups d gs)
        (f.further x c y d (after_groups y gs) (after_groups d gs) (goes-switch x c) (goes-groups y d gs)))
    goes-after x c (Locked place e ss catches) =
        let y = back_in x (after_all x ss) in
        let d = back_in c (after_all c ss) in
        let z = lock_noted y e (is_stored_in e ss) in
        let n = lock_noted d e (is_stored_in e ss) in
        f.further x c z n (lock_kept z (caught z catches)) (lock_kept n (caught n catches))
        (f.further x c y d z n (f.backs x c (after_all x ss) (after_all c ss) (goes-after_all x c ss))
        (goes-noted y d e (is_stored_in e ss)))
        (goes-kept z n (caught z catches) (caught n catches) (goes-caught z n catches))
    goes-after x c (Try rs ss catches) =
        let y = with_resources x rs in
        let d = with_resources c rs in
        let z = back_in x (after_all y ss) in
        let n = back_in c (after_all d ss) in
        f.further x c z n (lock_kept z (caught z catches)) (lock_kept n (caught n catches))
        (f.backs x c (after_all y ss) (after_all d ss)
        (f.further x c y d (after_all y ss) (after_all d ss) (goes-resources x c rs) (goes-after_all y d ss)))
        (goes-kept z n (caught z catches) (caught n catches) (goes-caught z n catches))
    goes-after x c (Finally rs ss catches finally) =
        let g = in_guard x in
        let h = in_guard c in
        let y = with_resources g rs in
        let d = with_resources h rs in
        let z = after_all y ss in
        let n = after_all d ss in
        let first = f.further x c g h z n (f.guards x c)
        (f.further g h y d z n (goes-resources g h rs) (goes-after_all y d ss)) in
        let u = back_in x (out_of_guard x z) in
        let v = back_in c (out_of_guard c n) in
        let k = lock_kept u (caught u catches) in
        let l = lock_kept v (caught v catches) in
        let i = unlocked_in k finally in
        let j = unlocked_in l finally in
        let begins = f.further x c u v i j
        (f.backs x c (out_of_guard x z) (out_of_guard c n) (f.unguards x c z n first))
        (f.further u v k l i j (goes-kept u v (caught u catches) (caught v catches) (goes-caught u v catches))
        (goes-unlocked k l finally)) in
        f.lasts x c z n (back_in i (after_all i finally)) (back_in j (after_all j finally)) first
        (f.further x c i j (back_in i (after_all i finally)) (back_in j (after_all j finally)) begins
        (f.backs i j (after_all i finally) (after_all j finally) (goes-after_all i j finally)))

    pub goes-after_all : (x c : Context) (ss : Stmts) → f.Goes x c (after_all x ss) (after_all c ss)
    goes-after_all x c no_stmt = f.stays x c
    goes-after_all x c (stmt_then s ss) =
        f.further x c (after x s) (after c s) (after_all (after x s) ss) (after_all (after c s) ss) (goes-after x c s)
        (goes-after_all (after x s) (after c s) ss)

    pub goes-groups : (x c : Context) (gs : Groups) → f.Goes x c (after_groups x gs) (after_groups c gs)
    goes-groups x c no_group = f.stays x c
    goes-groups x c (group_then labels ss gs) =
        f.further x c (after_all x ss) (after_all c ss) (after_groups (after_all x ss) gs)
        (after_groups (after_all c ss) gs) (goes-after_all x c ss) (goes-groups (after_all x ss) (after_all c ss) gs)

    pub goes-caught : (x c : Context) (catches : Catches) → f.Goes x c (caught x catches) (caught c catches)
    goes-caught x c no_catch = f.stays x c
    goes-caught x c (catch_then name ss catches) =
        let y = of_catch x name in
        let d = of_catch c name in
        let z = lock_kept x (after_all y ss) in
        let n = lock_kept c (after_all d ss) in
        f.further x c z n (caught z catches) (caught n catches)
        (goes-kept x c (after_all y ss) (after_all d ss)
        (f.further x c y d (after_all y ss) (after_all d ss) (f.names x c name) (goes-after_all y d ss)))
        (goes-caught z n catches)

  -- behind the catch clauses of a `try`
  pub goes-clauses : (x c : Context) (catches : Catches) →
      f.Goes x c (caught_behind x catches) (caught_behind c catches)
  goes-clauses x c catches = goes-kept x c (caught x catches) (caught c catches) (goes-caught x c catches)
