use Rattle.std.proofs.Common.{◌++◌, Bool, List, is_some, ap, ◌∙◌}
use Rattle.core_code.specs.Tree.{tree_of}
use Rattle.core_ways.specs.declared.part.WayPart.{WayPart}
use Rattle.core_ways.specs.Paths.{path_where}
use Rattle.core_ways.proofs.SitePaths.{reached-along}
use Rattle.core_ways.proofs.reaching.follow_to.Goals as goal

pub returns-clause-parts : goal.returns-clause-parts
returns-clause-parts c =
    let code = tree_of c.args.code.now in
    let site = c.args.site in
    let path = c.as_slice.ensures.value ∙ c.in_ok-op.ensures.path
    ∙ ap (λ (p : List Bool). p ++ path_where site code) c.new-path.ensures.items in
    c.in_ok-follow.ensures
    ∙ ap (λ (ps : List WayPart). c.args.parts.now.items ++ ps)
    (reached-along code site c.as_slice.result.now c.in_ok-op.field-0 path c.in_ok-op.ensures.there
    (ap is_some c.in-Some.is))
