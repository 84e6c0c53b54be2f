use Rattle.std.proofs.Common.{◌≡◌, List, [], ◌∷◌, ◌++◌, filter, map, refl, sym, ap, ◌∙◌, subst}
use Rattle.core_lowering_drafts.specs.declared.behind.Branch.{Branch as CodeBranch}
use Rattle.core_lowering_drafts.specs.declared.behind.Tail.TheVariants.{AtExit, Kept, Turned}
use Rattle.core_lowering_drafts.specs.Branches.{AreAlike, all_branches, branch_of}
use Rattle.core_lowering_drafts.specs.EndSets.{seen}
use Rattle.core_lowering_drafts.specs.Only.{Branch, does_stand}
use Rattle.core_lowering_drafts.proofs.StandingBranches.{standing-alike, three-kept}
use Rattle.core_lowering_drafts.proofs.behind.standing.Goals as goal

pub returns : goal.returns
returns c =
    let after = c.args.after in
    let all = all_branches c.args.exit.0 (seen c.args.body.now) after in
    let f = branch_of after in
    let a : CodeBranch = record { by = c.in_ok-by.by; tail = AtExit } in
    let b : CodeBranch = record { by = c.in_ok-by-2.by; tail = Kept } in
    let d : CodeBranch = record { by = c.in_ok-by-3.by; tail = Turned } in
    let one = map f c.add_branch.new.branches.items in
    let two = map f c.add_branch-2.new.branches.items in
    let three = map f c.add_branch-3.new.branches.items in
    let first : one ≡ filter does_stand (f a ∷ []) =
    c.in_ok-add_branch.ensures
    ∙ ap (λ (xs : List CodeBranch). map f xs ++ filter does_stand (f a ∷ [])) c.new-all.ensures.items in
    let found : three ≡ filter does_stand (f a ∷ f b ∷ f d ∷ []) =
    three-kept (f a) (f b) (f d) three one two first c.in_ok-add_branch-2.ensures c.in_ok-add_branch-3.ensures in
    subst (λ (bs : List Branch). AreAlike bs (filter does_stand all)) (sym found)
    (standing-alike (f a ∷ f b ∷ f d ∷ []) all (
      c.in_ok-by.ensures,
      refl,
      refl,
      (c.in_ok-by-2.ensures, refl, refl, (c.in_ok-by-3.ensures, refl, refl, tt)),
    ))
