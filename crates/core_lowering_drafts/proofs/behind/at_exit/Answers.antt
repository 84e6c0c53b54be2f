use Rattle.std.proofs.Common.{◌≡◌, true, false, [], ◌∷◌, sym, ◌∙◌, filter}
use Rattle.std.proofs.lemmas.Result.{IfOk-weaker}
use Rattle.core_lowering_drafts.specs.Drafts.{Exit, SameEnds, has, is_same}
use Rattle.core_lowering_drafts.specs.EndSets.{seen}
use Rattle.core_lowering_drafts.proofs.DraftEnds.{copy-same}
use Rattle.core_lowering_drafts.proofs.StandingBranches.{at-exit-found, at-exit-none}
use Rattle.core_lowering_drafts.proofs.behind.at_exit.Goals as goal

pub returns-then-has : goal.returns-then-has
returns-then-has c =
    let k = c.args.exit.0 in
    let B = seen c.args.body.now in
    let found : has B (Exit k) ≡ true = sym c.has.ensures ∙ c.if-has.true in
    IfOk-weaker c.of_exit.result (λ x. seen x ≡ Exit k ∷ []) (λ x. SameEnds (seen x) (filter (is_same (Exit k)) B))
    (λ x s. copy-same (seen x) (Exit k ∷ []) (filter (is_same (Exit k)) B) s (at-exit-found k B found))
    c.of_exit.ensures

pub returns : goal.returns
returns c =
    let k = c.args.exit.0 in
    let B = seen c.args.body.now in
    let none : has B (Exit k) ≡ false = sym c.has.ensures ∙ c.if-has.false in
    copy-same (seen c.none.result) [] (filter (is_same (Exit k)) B) c.none.ensures (at-exit-none k B none)
