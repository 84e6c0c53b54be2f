use Rattle.std.proofs.Common.{sym, ◌∙◌}
use Rattle.java_resolver_parts.proofs.LockParts.{bare-first}
use Rattle.java_resolver_parts.proofs.locks.are_lock_parts.Goals as goal

pub loop-part-preserved : goal.loop-part-preserved
loop-part-preserved c =
    bare-first c.in-Some.part.now c.in-Some.behind.now c.loop-part.rest.now c.in-Some.ensures.cases.0
    c.if-is_empty.ensures (sym c.is_bare.ensures ∙ c.if-not-is_bare.false) ∙ c.loop-part.invariant
