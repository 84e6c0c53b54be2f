use Rattle.std.proofs.Common.{List, [], ◌∷◌, ◌++◌, sym, ap, ◌∙◌, append_assoc}
use Rattle.access_paths.specs.declared.path.Path.{Path}
use Rattle.wobbly_paths.proofs.wobbly.copies.Goals as goal

pub loop-path-preserved : goal.loop-path-preserved
loop-path-preserved c =
    let made = c.loop-path.copies.items in
    let rest : List Path = c.next.new.self in
    ap (λ (ps : List Path). ps ++ rest) c.in_ok-push.ensures.items
    ∙ append_assoc made (c.in_ok-copied.field-0 ∷ []) rest
    ∙ ap (λ (p : Path). made ++ p ∷ rest) c.in_ok-copied.ensures
    ∙ ap (λ (ps : List Path). made ++ ps) (sym c.in-Some.ensures.steps)
    ∙ c.loop-path.invariant
