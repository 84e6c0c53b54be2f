use Rattle.std.proofs.Common.{◌≡◌, ℕ, List, [], ◌∷◌, ◌++◌, sym, ap, subst, ◌∙◌}
use Rattle.core_lowering_context.specs.Seen.{FindsAll, variable}
use Rattle.core_lowering_context.proofs.NamedVariables.{finds-added}
use Rattle.core_lowering_context.proofs.variables.declare.Goals as goal

pub returns-clause-finds : goal.returns-clause-finds
returns-clause-finds c =
    let all = c.args.list.now.items in
    let v = variable c.args.name.now c.args.id c.args.known in
    let items : c.push.new.self.items ≡ all ++ v ∷ [] =
    c.in_ok-push.ensures.items
    ∙ ap (λ (n : List ℕ). all ++ variable n c.args.id c.args.known ∷ [])
    c.in_ok-name.ensures in
    subst (FindsAll c.add.new.index) (sym items)
    (finds-added c.args.by_name.now c.add.new.index all v c.requires c.in_ok-add.ensures)
