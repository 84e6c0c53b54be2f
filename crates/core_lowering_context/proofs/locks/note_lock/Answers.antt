use Rattle.std.proofs.Common.{◌≡◌, Bool, true, false, not, ◌||◌, sym, ap, ◌∙◌}
use Rattle.std.proofs.Math.Bool.{or-false, or-true}
use Rattle.core_lowering_rules.specs.Trees.{Expr}
use Rattle.core_lowering_rules.specs.TreesOf.{expr_of}
use Rattle.core_lowering_rules.specs.Context.{Context}
use Rattle.core_lowering_rules.specs.Locks.{is_lock, lock_noted}
use Rattle.core_lowering_context.specs.Beginning.{with_other_lock}
use Rattle.core_lowering_context.proofs.locks.note_lock.Goals as goal

abbrev with_lock : Context → Bool → Context
with_lock context b = record context { other_lock = b }

kept : (context : Context) (e : Expr) (is_stored : Bool) → is_lock context e is_stored ≡ true →
    context ≡ lock_noted context e is_stored
kept context e is_stored h =
    sym (ap (λ (b : Bool). with_lock context (context.other_lock || not b)) h
    ∙ ap (with_lock context) (or-false context.other_lock))

noted : (context : Context) (e : Expr) (is_stored : Bool) → is_lock context e is_stored ≡ false →
    with_other_lock context ≡ lock_noted context e is_stored
noted context e is_stored h =
    sym (ap (λ (b : Bool). with_lock context (context.other_lock || not b)) h
    ∙ ap (with_lock context) (or-true context.other_lock))

pub returns-then-is_lock : goal.returns-then-is_lock
returns-then-is_lock c =
    kept c.args.context.now (expr_of c.args.e.now) c.args.is_stored (sym c.is_lock.ensures ∙ c.if-is_lock.true)

pub returns : goal.returns
returns c =
    c.note_other_lock.ensures
    ∙ noted c.args.context.now (expr_of c.args.e.now) c.args.is_stored (sym c.is_lock.ensures ∙ c.if-is_lock.false)
