use Rattle.std.proofs.Common.{◌≡◌, List, [], ◌∷◌, ◌++◌, sym, ap, subst, ◌∙◌}
use Rattle.core_semantics.specs.declared.object.StartPath.{StartPath}
use Rattle.core_ways.specs.Gathered.{HasObjectsOf}
use Rattle.core_ways.proofs.Gathering.{objects-added}
use Rattle.core_ways.proofs.objects.Objects.add.Goals as goal

pub invariant_of-self-2 : goal.invariant_of-self-2
invariant_of-self-2 c =
    let path : StartPath = c.args.path in
    let paths : List StartPath = c.self.inside.paths.items in
    let new = c.put.new.index in
    let grown : c.put.new.paths.items ≡ paths ++ path ∷ [] =
    c.in-Ok-put.ensures.paths ∙ ap (λ (p : StartPath). paths ++ p ∷ []) c.in-Ok.ensures in
    subst (HasObjectsOf new.keys) (sym grown)
    (objects-added c.self.inside.index new paths path c.self.invariant c.in-Ok-put.ensures.added)
