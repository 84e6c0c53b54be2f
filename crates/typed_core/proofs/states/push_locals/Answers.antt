use Rattle.std.proofs.Common.{◌+◌, ◌∙◌, ◌++◌, [], ◌∷◌, List, ap, sym, map, drop}
use Rattle.std.proofs.lemmas.List.{append_assoc, at_drop_more}
use Rattle.racer_base.specs.declared.ids.Kind.{Kind}
use Rattle.racer_base.specs.declared.ids.Kind.TheVariants.{Other}
use Rattle.typed_core.specs.declared.kinds.TypedKind.{TypedKind}
use Rattle.typed_core.specs.declared.kinds.TypedKind.TheVariants.{Unset}
use Rattle.typed_core.proofs.states.push_locals.Goals as goal

pub loop-number-preserved : goal.loop-number-preserved
loop-number-preserved c =
    let vars = c.loop-number.vars.items in
    let rest = map (λ (local : Kind). Unset) (drop (c.loop-number._number + 1) c.args.variables.now) in
    ap (λ (made : List TypedKind). made ++ rest) c.in_ok-push.ensures.items
    ∙ append_assoc vars (Unset ∷ []) rest
    ∙ ap (λ (left : List TypedKind). vars ++ left)
    (sym (at_drop_more (map (λ (local : Kind). Unset)) c.args.variables.now c.loop-number._number Other
    c.loop-number-test.true))
    ∙ c.loop-number.invariant
