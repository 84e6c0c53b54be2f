use Rattle.std.proofs.Common.{◌≡◌, ℕ, ◌+◌, ◌-◌, List, Option, None, ◌++◌, replicate, sym, ap, ◌∙◌, arith}
use Rattle.std.proofs.lemmas.List.{append-nil}
use Rattle.transfer.specs.Callees.{SharedFinished}
use Rattle.owner_domain.proofs.Stacks.{replicate-turn}
use Rattle.edit_session.proofs.work.no_methods.Goals as goal

pub loop-place-preserved : goal.loop-place-preserved
loop-place-preserved c =
    let n = c.args.count in
    let i = c.loop-place._place in
    ap (λ (places : List (Option SharedFinished)). places ++ replicate (n - (i + 1)) None) c.in-Ok-push.ensures.items
    ∙ replicate-turn c.loop-place.places.items n i None c.loop-place-test.true
    ∙ c.loop-place.invariant

pub loop-place-init : goal.loop-place-init
loop-place-init c =
    let n = c.args.count in
    let whole : n - 0 ≡ n = omega arith in
    (λ i. c.in-Ok.ensures.items i ++ replicate (whole i) None)

pub returns : goal.returns
returns c =
    let n = c.args.count in
    let made = c.loop-place.places.items in
    let none : n - c.loop-place._place ≡ 0 = omega (arith, c.loop-place-test.false) in
    sym (append-nil made)
    ∙ ap (λ (k : ℕ). made ++ replicate k None) (sym none)
    ∙ c.loop-place.invariant
