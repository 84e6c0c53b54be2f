use Rattle.std.proofs.Common.{◌≡◌, map, ap, sym, ◌∙◌, rules}
use Rattle.core_code.specs.declared.code.Code.TheFolds.{the_lemmas}
use Rattle.core_code.specs.Tree.{in_sequence, tree_of}
use Rattle.transfer_ties.specs.Shapes as shape
use Rattle.transfer_ties.proofs.Layers.{not_locked}
use Rattle.transfer_ties.proofs.shapes.locked.Goals as goal

pub returns-in-Seq : goal.returns-in-Seq
returns-in-Seq c =
    let parts = map tree_of c.in-Seq.field-0.items in
    let is : tree_of c.args.code.now ≡ in_sequence parts = search (rules, the_lemmas) in
    not_locked parts ∙ ap shape.locked (sym is)
