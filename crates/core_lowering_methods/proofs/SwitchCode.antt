-- The code of a `switch` out of the steps in which it is made.
use Rattle.std.proofs.Common.{◌≡◌, ℕ, ◌++◌, List, None, length, take, drop, map, ap, ◌∙◌}
use Rattle.java_tree.specs.declared.statements.GroupTree.{GroupTree, out-GroupTree}
use Rattle.java_tree.specs.declared.statements.Statement.TheFolds.{the_lemmas}
use Rattle.core_lowering_rules.specs.Trees.{Expr, Groups, Switch}
use Rattle.core_lowering_rules.specs.TreesOf.{label_of, group_of}
use Rattle.core_lowering_rules.specs.Context.{Context, Code, within}
use Rattle.core_lowering_rules.specs.Scopes.{in_switch, back_from, after_groups}
use Rattle.core_lowering_rules.specs.Statements.{run, stmt, options}
use Rattle.core_lowering_parts.specs.StatementParts.{Becomes, closed_from, fork_of}
use Rattle.core_lowering_parts.proofs.Becoming.{grown-behind}
use Rattle.core_lowering_methods.specs.StatementSteps.{statements_of}
use Rattle.core_lowering_methods.proofs.InsideStatements.{closed-there}
use Rattle.core_lowering_context.proofs.Pieces.{before_seam, behind_seam}
use Rattle.core_lowering_methods.proofs.StatementContexts.{inside-switch}

-- the labels of a group and its statements
pub group-form : (g : GroupTree) → group_of g ≡ (map label_of (out-GroupTree g).labels, statements_of g)
group-form g = search (the_lemmas)

-- what is taken is what was put behind
pub taken-back : (old second kept made : Code) (at : ℕ) → at ≡ length old → second ≡ old ++ made →
    kept ≡ take at second → kept ≡ old
taken-back old second kept made at here is left =
    left ∙ ap (λ (n : ℕ). take n second) here ∙ before_seam old second made is

pub taken-made : (old second body made : Code) (at : ℕ) → at ≡ length old → second ≡ old ++ made →
    body ≡ drop at second → body ≡ made
taken-made old second body made at here is taken =
    taken ∙ ap (λ (n : ℕ). drop n second) here ∙ behind_seam old second made is

pub switch-made : (a entered inside : Context) (e : Expr) (gs : Groups) (all : List Code)
    (old one second third new : Code) (exit n at : ℕ) → n ≡ length a.scope.variables → one ≡ old ++ run a e →
    at ≡ length one → exit ≡ a.exits → entered ≡ in_switch a → inside ≡ after_groups entered gs → second ≡ one →
    all ≡ options entered None gs → third ≡ second ++ fork_of gs all →
    Becomes at (λ body. closed_from n inside (within exit body)) third new → new ≡ old ++ stmt a (Switch e gs)
switch-made a entered inside e gs all old one second third new exit n at k runs here x p q same is forks made =
    let start = in_switch a in
    let end = after_groups start gs in
    let fork = fork_of gs (options start None gs) in
    let forked : third ≡ one ++ fork =
    forks ∙ ap (λ (c : Code). c ++ fork_of gs all) same ∙ ap (λ (cs : List Code). one ++ fork_of gs cs) is
    ∙ ap (λ (y : Context). one ++ fork_of gs (options y None gs)) p in
    grown-behind (λ (body : Code). closed_from n inside (within exit body)) old one third new (run a e) fork at runs
    here forked made
    ∙ ap (λ (m : ℕ). old ++ (run a e ++ closed_from m inside (within exit fork))) k
    ∙ ap (λ (m : ℕ). old ++ (run a e ++ closed_from (length a.scope.variables) inside (within m fork))) x
    ∙ ap (λ (y : Context). old ++ (run a e ++ closed_from (length a.scope.variables) y (within a.exits fork)))
    (q ∙ ap (λ (y : Context). after_groups y gs) p)
    ∙ ap (λ (c : Code). old ++ (run a e ++ c))
    (closed-there a (back_from a end) (within a.exits fork) (inside-switch a gs))
