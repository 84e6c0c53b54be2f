use Rattle.std.proofs.Common.{◌≡◌, ◌+◌, List, Some, drop, slice_get, sym, ap, ◌∙◌}
use Rattle.std.proofs.lemmas.Option.{slice_get_within}
use Rattle.core_semantics.specs.declared.pending.Pending.{Pending}
use Rattle.core_semantics.specs.View.{todo_of}
use Rattle.core_semantics.specs.Weights.{part_weight, pending_weight}
use Rattle.core_semantics.proofs.Unfolding.{kept, weighs, lighter, lighter_by_one, lighter_by_none}
use Rattle.racer_base.proofs.Lists.{no_first}
use Rattle.core_semantics.proofs.pending.unfold_next.Goals as goal

pub returns-clause-next : goal.returns-clause-next
returns-clause-next c = ap todo_of (no_first c.loop-part.pending (sym c.first.ensures ∙ c.in_default.is))

pub returns-in-Next-clause-next : goal.returns-in-Next-clause-next
returns-in-Next-clause-next c =
    let pending = c.loop-part.pending in
    let found : slice_get pending 0 ≡ Some c.in-Some.part = sym c.first.ensures ∙ c.in-Some.is in (
      slice_get_within pending 0 c.in-Some.part found,
      sym (kept pending c.in-Some.part found) ∙ c.in-Next.ensures.same (todo_of (drop 1 pending)),
    )

pub loop-part-preserved : goal.loop-part-preserved
loop-part-preserved c =
    let pending = c.loop-part.pending in
    ap todo_of c.in-Ok-replace_by_two.ensures.ok
    ∙ sym (c.in-Two.ensures.same (todo_of (drop 1 pending)))
    ∙ kept pending c.in-Some.part (sym c.first.ensures ∙ c.in-Some.is)
    ∙ c.loop-part.invariant

pub loop-part-preserved-in-Ok-1 : goal.loop-part-preserved-in-Ok-1
loop-part-preserved-in-Ok-1 c =
    let pending = c.loop-part.pending in
    ap todo_of c.in-Ok.ensures.ok
    ∙ sym (c.in-One.ensures.same (todo_of (drop 1 pending)))
    ∙ kept pending c.in-Some.part (sym c.first.ensures ∙ c.in-Some.is)
    ∙ c.loop-part.invariant

pub loop-part-preserved-in-Nothing : goal.loop-part-preserved-in-Nothing
loop-part-preserved-in-Nothing c =
    let pending = c.loop-part.pending in
    ap todo_of c.cut.ensures
    ∙ sym (c.in-Nothing.ensures.same (todo_of (drop 1 pending)))
    ∙ kept pending c.in-Some.part (sym c.first.ensures ∙ c.in-Some.is)
    ∙ c.loop-part.invariant

pub replace_by_two-requires : goal.replace_by_two-requires
replace_by_two-requires c =
    slice_get_within c.loop-part.pending 0 c.in-Some.part (sym c.first.ensures ∙ c.in-Some.is)

pub returns-in_default-replace_by_two-clause-same : goal.returns-in_default-replace_by_two-clause-same
returns-in_default-replace_by_two-clause-same c =
    ap todo_of c.in_default-replace_by_two.ensures.err ∙ c.loop-part.invariant

pub returns-in_default-replace-clause-same : goal.returns-in_default-replace-clause-same
returns-in_default-replace-clause-same c = ap todo_of c.in_default-replace.ensures.err ∙ c.loop-part.invariant

pub loop-part-smaller : goal.loop-part-smaller
loop-part-smaller c =
    let pending = c.loop-part.pending in
    lighter (pending_weight c.replace_by_two.new.self) (pending_weight pending) (part_weight c.in-Two.part)
    (part_weight c.in-Two.rest) (pending_weight (drop 1 pending)) (part_weight c.in-Some.part)
    (ap pending_weight c.in-Ok-replace_by_two.ensures.ok)
    (weighs pending c.in-Some.part (sym c.first.ensures ∙ c.in-Some.is)) c.in-Two.ensures.smaller

pub loop-part-smaller-in-Ok-1 : goal.loop-part-smaller-in-Ok-1
loop-part-smaller-in-Ok-1 c =
    let pending = c.loop-part.pending in
    lighter_by_one (pending_weight c.replace.new.self) (pending_weight pending) (part_weight c.in-One.part)
    (pending_weight (drop 1 pending)) (part_weight c.in-Some.part) (ap pending_weight c.in-Ok.ensures.ok)
    (weighs pending c.in-Some.part (sym c.first.ensures ∙ c.in-Some.is)) c.in-One.ensures.smaller

pub loop-part-smaller-in-Nothing : goal.loop-part-smaller-in-Nothing
loop-part-smaller-in-Nothing c =
    let pending = c.loop-part.pending in
    lighter_by_none (pending_weight c.cut.new.self) (pending_weight pending) (part_weight c.in-Some.part)
    (weighs pending c.in-Some.part (sym c.first.ensures ∙ c.in-Some.is)
    ∙ ap (λ (ls : List Pending). part_weight c.in-Some.part + pending_weight ls) (sym c.cut.ensures))
    c.in-Nothing.ensures.smaller
