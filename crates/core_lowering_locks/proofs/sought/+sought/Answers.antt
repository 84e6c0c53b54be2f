use Rattle.std.proofs.Common.{◌≡◌, ◌||◌, Bool, true, false, List, map, sym, ap, ◌∙◌, rules, arith}
use Rattle.java_tree.specs.declared.statements.Statement.{Statement}
use Rattle.java_tree.specs.declared.statements.Statement.TheFolds.{the_lemmas}
use Rattle.java_tree.proofs.statements.Statement.TheLaws.{the_size}
use borrow.Author.Sizes.{sizes}
use Rattle.core_lowering_rules.specs.Trees.{Stmts, pack_stmts}
use Rattle.core_lowering_rules.specs.TreesOf.{stmt_of}
use Rattle.core_lowering_rules.specs.Sought.{Sought, does_stmt_stand, do_any_stand}
use Rattle.core_lowering_locks_pairs.specs.Seen.{item_seen}
use Rattle.core_lowering_locks.specs.Seen.{sought_seen}
use Rattle.core_lowering_locks.proofs.sought.+sought.Goals as goal

abbrev any_of : Sought → List Statement → Bool
any_of sought statements = do_any_stand sought (pack_stmts (map stmt_of statements))

pub do_any_stand-loop-item-preserved : goal.do_any_stand-loop-item-preserved
do_any_stand-loop-item-preserved t c =
    let sought : Sought = sought_seen c.args.sought in
    let rest = any_of sought c.in-Some.behind.now in
    let opened : any_of sought c.loop-item.rest.now ≡ (does_stmt_stand sought (item_seen c.in-Some.item) || rest) =
    ap (λ (ss : Stmts). do_any_stand sought ss) c.in-Some.ensures.is in
    let one : does_stmt_stand sought (item_seen c.in-Some.item) ≡ false =
    sym c.does_item_stand.ensures ∙ c.if-does_item_stand.false in
    record {
      same = sym (opened ∙ ap (λ (b : Bool). b || rest) one) ∙ c.loop-item.invariant.same;
      fits = omega (arith, c.in-Some.ensures.rest_fits, c.loop-item.invariant.fits);
    }

pub do_any_stand-returns-then-does_item_stand : goal.do_any_stand-returns-then-does_item_stand
do_any_stand-returns-then-does_item_stand t c =
    let sought : Sought = sought_seen c.args.sought in
    let rest = any_of sought c.in-Some.behind.now in
    let one : does_stmt_stand sought (item_seen c.in-Some.item) ≡ true =
    sym c.does_item_stand.ensures ∙ c.if-does_item_stand.true in
    sym (sym c.loop-item.invariant.same
    ∙ ap (λ (ss : Stmts). do_any_stand sought ss) c.in-Some.ensures.is
    ∙ ap (λ (b : Bool). b || rest) one)

pub do_any_stand-returns : goal.do_any_stand-returns
do_any_stand-returns t c =
    sym (ap (any_of (sought_seen c.args.sought)) c.in_default.ensures) ∙ c.loop-item.invariant.same

pub does_locked_stand-do_any_stand-requires : goal.does_locked_stand-do_any_stand-requires
does_locked_stand-do_any_stand-requires t c =
    search (rules, sizes, the_size, the_lemmas, c.as_slice.ensures, c.decreases)

pub does_locked_stand-do_clauses_stand-requires : goal.does_locked_stand-do_clauses_stand-requires
does_locked_stand-do_clauses_stand-requires t c =
    search (rules, sizes, the_size, the_lemmas, c.as_slice-else-do_any_stand.ensures, c.decreases)
