-- What statements stand in, out of the steps in which it is made.
use Rattle.std.proofs.Common.{◌≡◌, ℕ, false, List, length, take, drop, refl, ap, ◌∙◌}
use Rattle.racer_base.specs.declared.ids.Kind.{Kind}
use Rattle.racer_base.specs.declared.ids.Kind.TheVariants.{Other}
use Rattle.racer_base.specs.declared.ids.Place.{Place}
use Rattle.java_tree.specs.declared.words.Ident.{Ident}
use Rattle.java_tree.specs.Trees.{Ty}
use Rattle.java_resolver.specs.declared.scope.Scope.{Scope}
use Rattle.core_lowering_rules.specs.Trees.{Expr, Stmt, Stmts, Start, Groups, Resource, Catches, no_catch, catch_then}
use Rattle.core_lowering_rules.specs.Trees.{Block, Locked, Try}
use Rattle.core_lowering_rules.specs.Locks.{is_stored_in, lock_kept, lock_noted}
use Rattle.core_lowering_rules.specs.Context.{Folder, Context, Result, Target, variable_kind_in}
use Rattle.core_lowering_rules.specs.Scopes.{of_type, of_catch, started, back_in, back_from, in_loop, in_switch}
use Rattle.core_lowering_rules.specs.Scopes.{in_guard}
use Rattle.core_lowering_rules.specs.Scopes.{in_labelled, out_of_guard, with_resources, unlocked_in, after, after_all}
use Rattle.core_lowering_rules.specs.Scopes.{after_groups, caught, caught_behind}
use Rattle.core_lowering_rules.proofs.ScopeSteps.{sides_of}
use Rattle.core_lowering_context.specs.Beginning.{left_at}
use Rattle.core_lowering_context.specs.Restored.{left_target, left_guard, kept, restored}
use Rattle.core_lowering_methods.specs.StatementSteps.{behind_first, passed_by}
use Rattle.core_lowering_parts.proofs.Inside.{Inside, inside-same}
use Rattle.core_lowering_methods.proofs.InsideStatements.{inside-then, inside-sides, inside-declared, inside-back}
use Rattle.core_lowering_methods.proofs.InsideStatements.{inside-started, inside-after, inside-after_all}
use Rattle.core_lowering_methods.proofs.InsideStatements.{inside-after_groups, inside-resources, left-back}
use Rattle.core_lowering_methods.proofs.InsideStatements.{same_scope, same_kinds}
use Rattle.core_lowering_methods.proofs.Levels.{Level, level-after, level-after_all, level-after_groups, target-left}

-- ---- ends of blocks

pub left-made : (before inside a b : Context) (n : ℕ) → n ≡ length before.scope.variables → a ≡ inside →
    Inside before inside → b ≡ left_at n a → b ≡ back_in before inside
left-made before inside a b n k p i made =
    made ∙ ap (λ (m : ℕ). left_at m a) k ∙ ap (left_at (length before.scope.variables)) p ∙ left-back before inside i

-- ---- statements that jumps lead behind

pub inside-loop : (context : Context) (s : Stmt) → Inside context (back_from context (after (in_loop context) s))
inside-loop context s =
    let entered = in_loop context in
    let inside = after entered s in
    inside-sides context inside (sides_of (back_from context inside))
    (inside-then context entered inside (inside-sides context context (sides_of entered) (inside-same context))
    (inside-after entered s))

pub inside-for : (context : Context) (i : Start) (s : Stmt) →
    Inside context (back_from (started context i) (after (in_loop (started context i)) s))
inside-for context i s =
    let first = started context i in
    inside-then context first (back_from first (after (in_loop first) s)) (inside-started context i)
    (inside-loop first s)

pub inside-each : (context : Context) (t : Ty) (x : Ident) (s : Stmt) →
    Inside context (back_from (of_type context t 0 x) (after (in_loop (of_type context t 0 x)) s))
inside-each context t x s =
    let first = of_type context t 0 x in
    inside-then context first (back_from first (after (in_loop first) s))
    (inside-declared context (variable_kind_in context t 0) x)
    (inside-loop first s)

pub inside-switch : (context : Context) (gs : Groups) →
    Inside context (back_from context (after_groups (in_switch context) gs))
inside-switch context gs =
    let entered = in_switch context in
    let inside = after_groups entered gs in
    inside-sides context inside (sides_of (back_from context inside))
    (inside-then context entered inside (inside-sides context context (sides_of entered) (inside-same context))
    (inside-after_groups entered gs))

-- behind a loop
pub loop-left : (a inside b : Context) (s : Stmt) (exit : ℕ) → exit ≡ a.exits → inside ≡ after (in_loop a) s →
    b ≡ left_target exit inside → b ≡ back_from a (after (in_loop a) s)
loop-left a inside b s exit p q made =
    made ∙ ap (left_target exit) q
    ∙ target-left a (after (in_loop a) s) exit p (ap (drop 1) (level-after (in_loop a) s))

-- behind a labelled statement
pub label-left : (a inside b : Context) (s : Stmt) (x : Ident) (exit : ℕ) → exit ≡ a.exits →
    inside ≡ after (in_labelled a x) s → b ≡ left_target exit inside → b ≡ back_from a (after (in_labelled a x) s)
label-left a inside b s x exit p q made =
    made ∙ ap (left_target exit) q
    ∙ target-left a (after (in_labelled a x) s) exit p (ap (drop 1) (level-after (in_labelled a x) s))

-- behind a `switch`
pub switch-left : (a inside b : Context) (gs : Groups) (exit n : ℕ) → exit ≡ a.exits →
    n ≡ length a.scope.variables → inside ≡ after_groups (in_switch a) gs →
    b ≡ left_at n (left_target exit inside) → b ≡ back_in a (back_from a (after_groups (in_switch a) gs))
switch-left a inside b gs exit n p k q made =
    let end = after_groups (in_switch a) gs in
    left-made a (back_from a end) (left_target exit inside) b n k
    (ap (left_target exit) q ∙ target-left a end exit p (ap (drop 1) (level-after_groups (in_switch a) gs)))
    (inside-switch a gs) made

-- ---- `try`

pub inside-first : (context : Context) (rs : List Resource) (ss : Stmts) →
    Inside context (back_in (with_resources context rs) (after_all (with_resources context rs) ss))
inside-first context rs ss =
    let first = with_resources context rs in
    inside-then context first (back_in first (after_all first ss)) (inside-resources context rs)
    (inside-back first (after_all first ss) (inside-after_all first ss))

-- the place of the method, behind resources and the block
pub first-place : (context : Context) (rs : List Resource) (ss : Stmts) →
    (behind_first context rs ss).place ≡ context.place
first-place context rs ss = (inside-first context rs ss).place

-- behind the resources and the block
pub first-left : (a b c d : Context) (rs : List Resource) (ss : Stmts) (n : ℕ) → n ≡ length a.scope.variables →
    b ≡ with_resources a rs → c ≡ back_in b (after_all b ss) → d ≡ left_at n c → d ≡ behind_first a rs ss
first-left a b c d rs ss n k p q made =
    let first = with_resources a rs in
    left-made a (back_in first (after_all first ss)) c d n k
    (q ∙ ap (λ (x : Context). back_in x (after_all x ss)) p) (inside-first a rs ss) made

-- ---- catch clauses

context_of : Folder → Place → Result → Kind → Scope → List Kind → List Target → (kept inside : Context) → Context
context_of folder place result given scope kinds targets kept inside =
    record {
      folder = folder;
      place = place;
      result = result;
      given = given;
      scope = scope;
      kinds = kinds;
      exits = kept.exits;
      labels = kept.labels;
      targets = targets;
      guards = kept.guards;
      other_lock = inside.other_lock;
      is_apart = kept.is_apart;
    }

-- what was there before is left, but for what is known of locks
kept-locks : (before inside : Context) → Inside before inside → Level before inside →
    restored (kept before) inside ≡ lock_kept before inside
unfolding context_of
kept-locks before inside p level =
    let scope : Scope =
    record inside.scope { variables = take (length before.scope.variables) inside.scope.variables } in
    let kinds = take (length before.kinds) inside.kinds in
    let ts = inside.targets in
    ap (λ f. context_of f inside.place inside.result inside.given scope kinds ts before inside) p.folder
    ∙ ap (λ q. context_of before.folder q inside.result inside.given scope kinds ts before inside) p.place
    ∙ ap (λ r. context_of before.folder before.place r inside.given scope kinds ts before inside) p.result
    ∙ ap (λ k. context_of before.folder before.place before.result k scope kinds ts before inside) p.given
    ∙ ap (λ s. context_of before.folder before.place before.result before.given s kinds ts before inside)
    (same_scope before inside p)
    ∙ ap (λ ks. context_of before.folder before.place before.result before.given before.scope ks ts before inside)
    (same_kinds before inside p)
    ∙ ap (λ t. context_of before.folder before.place before.result before.given before.scope before.kinds t before
    inside) level

inside-caught : (context : Context) (x : Ident) → Inside context (of_catch context x)
inside-caught context x = inside-declared context (record { kind = Other; is_lock = false }) x

-- behind a catch clause
pub clause-passed : (before inside : Context) (x : Ident) (ss : Stmts) →
    inside ≡ after_all (of_catch before x) ss → restored (kept before) inside ≡ passed_by before (x, ss)
clause-passed before inside x ss is =
    let first = of_catch before x in
    let last = after_all first ss in
    ap (restored (kept before)) is
    ∙ kept-locks before last
    (inside-then before first last (inside-caught before x) (inside-after_all first ss))
    (level-after_all first ss)

-- of catch clauses nothing but what is known of locks is left
pub caught-kept : (context : Context) (catches : Catches) → caught context catches ≡ caught_behind context catches
caught-kept context no_catch = refl
caught-kept context (catch_then x ss catches) =
    caught-kept (lock_kept context (after_all (of_catch context x) ss)) catches

-- behind a locked try
pub locked-left : (a b noted new : Context) (place : Place) (e : Expr) (ss : Stmts) (catches : Catches) →
    b ≡ after a (Block ss) → noted ≡ lock_noted b e (is_stored_in e ss) → new ≡ caught noted catches →
    new ≡ after a (Locked place e ss catches)
locked-left a b noted new place e ss catches p q made =
    made
    ∙ ap (λ (x : Context). caught x catches) (q ∙ ap (λ (x : Context). lock_noted x e (is_stored_in e ss)) p)
    ∙ caught-kept (lock_noted (after a (Block ss)) e (is_stored_in e ss)) catches

-- behind a `try` without `finally`
pub try-left : (a first new : Context) (rs : List Resource) (ss : Stmts) (catches : Catches) →
    first ≡ behind_first a rs ss → new ≡ caught first catches → new ≡ after a (Try rs ss catches)
try-left a first new rs ss catches p made =
    made ∙ ap (λ (x : Context). caught x catches) p ∙ caught-kept (behind_first a rs ss) catches

-- ---- `try` with `finally`

-- before the `finally`
abbrev pub behind_clauses : Context → List Resource → Stmts → Catches → Context
behind_clauses a rs ss catches =
    caught_behind (back_in a (out_of_guard a (after_all (with_resources (in_guard a) rs) ss))) catches

pub guard-left : (a first b : Context) (rs : List Resource) (ss : Stmts) (catches : Catches) (exit : ℕ) →
    exit ≡ a.exits → first ≡ behind_first (in_guard a) rs ss → b ≡ caught (left_guard exit first) catches →
    b ≡ behind_clauses a rs ss catches
guard-left a first b rs ss catches exit p q made =
    made ∙ ap (λ (x : Context). caught (left_guard exit x) catches) q
    ∙ ap (λ (e : ℕ). caught (left_guard e (behind_first (in_guard a) rs ss)) catches) p
    ∙ caught-kept (left_guard a.exits (behind_first (in_guard a) rs ss)) catches

-- the place is that of the method, also behind the `finally`
pub finally-place : (a : Context) (rs : List Resource) (ss : Stmts) (catches : Catches) (finally : Stmts) →
    (after_all (unlocked_in (behind_clauses a rs ss catches) finally) finally).place ≡ a.place
finally-place a rs ss catches finally =
    (inside-after_all (unlocked_in (behind_clauses a rs ss catches) finally) finally).place
    ∙ first-place (in_guard a) rs ss
