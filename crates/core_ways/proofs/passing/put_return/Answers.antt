use Rattle.std.proofs.Common.{◌≡◌, ℕ, ◌+◌, ◌-◌, suc, List, [], ◌∷◌, ◌++◌, replicate, sym, ap, ◌∙◌, append_assoc, arith}
use Rattle.std.proofs.lemmas.List.{append-nil}
use Rattle.core_ways.specs.declared.part.WayPart.{WayPart}
use Rattle.core_ways.specs.declared.part.WayPart.TheVariants.{Step}
use Rattle.core_ways.proofs.passing.put_return.Goals as goal

pub loop-step-init : goal.loop-step-init
loop-step-init c =
    let n = c.args.locks in
    let whole : n - 0 ≡ n = omega arith in
    (λ i. c.in-Ok.ensures.items i ++ replicate (whole i) Step)

pub loop-step-preserved : goal.loop-step-preserved
loop-step-preserved c =
    let at = c.loop-step in
    let n = c.args.locks in
    let one : n - at.step ≡ suc (n - (at.step + 1)) = omega (arith, c.loop-step-test.true) in
    ap (λ (ps : List WayPart). ps ++ replicate (n - (at.step + 1)) Step) c.in-Ok-push.ensures.items
    ∙ append_assoc at.parts.items (Step ∷ []) (replicate (n - (at.step + 1)) Step)
    ∙ ap (λ (k : ℕ). at.parts.items ++ replicate k Step) (sym one)
    ∙ at.invariant

pub returns-clause-parts : goal.returns-clause-parts
returns-clause-parts c =
    let at = c.loop-step in
    let n = c.args.locks in
    let none : n - at.step ≡ 0 = omega (arith, c.loop-step-test.false) in
    sym (append-nil at.parts.items)
    ∙ ap (λ (k : ℕ). at.parts.items ++ replicate k Step) (sym none)
    ∙ at.invariant
    ∙ append_assoc c.args.parts.now.items (Step ∷ []) (replicate n Step)
