use Rattle.std.proofs.Common.{◌≡◌, List, Bool, OnOk, ◌++◌, ap, ◌∙◌, subst, reverse}
use Rattle.std.proofs.lemmas.List.{reverse-reverse}
use Rattle.core_code.specs.Tree.{Tree, tree_of}
use Rattle.core_ways.specs.declared.part.WayPart.{WayPart}
use Rattle.core_ways.specs.declared.passing.PathEnd.TheVariants.{Behind}
use Rattle.core_ways.specs.Exits.{exit_path}
use Rattle.core_ways.specs.Paths.{followed}
use Rattle.core_ways.proofs.ReturnedCode.{exit-followed}
use Rattle.core_ways.proofs.returning.come_back.Goals as goal

pub returns : goal.returns
returns c =
    let code : Tree = tree_of c.args.code.now in
    let path : c.as_slice.result.now ≡ exit_path code =
    c.as_slice.ensures.value ∙ c.reverse.ensures.items ∙ ap (λ (p : List Bool). reverse p) c.in_ok-path.ensures.path
    ∙ reverse-reverse (exit_path code) in
    subst (λ (ps : List WayPart). OnOk c.follow.result (c.follow.new.parts.items ≡ c.args.parts.now.items ++ ps))
    (ap (λ (p : List Bool). followed Behind 0 p code) path ∙ exit-followed 0 code) c.follow.ensures
