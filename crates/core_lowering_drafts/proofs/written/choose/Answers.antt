use Rattle.std.proofs.Common.{◌≡◌, take, drop, ap, ◌∙◌, rules}
use Rattle.core_code.specs.declared.code.Code.TheFolds.{the_lemmas}
use Rattle.core_code.specs.declared.code.Code.TheVariants as code
use Rattle.core_code.specs.Tree.{tree_of}
use Rattle.core_code.specs.Tree as tree
use Rattle.core_lowering_drafts.specs.Sites.{whole_of}
use Rattle.core_lowering_drafts.proofs.Pushed.{pushed}
use Rattle.core_lowering_drafts.proofs.written.choose.Goals as goal

pub returns : goal.returns
returns c =
    let old = c.args.parts.now.items in
    let front = c.taken.new.parts.items in
    let first = c.in_ok-first.first in
    let second = c.in_ok-second.second in
    let shape : tree_of (code.Choice first second) ≡ tree.Choice (tree_of first.value) (tree_of second.value) =
    search (rules, the_lemmas) in
    pushed c.taken-2.new.parts.items c.push.new.self.items (take c.args.left (take c.args.right old))
    (code.Choice first second) (tree.Choice (tree_of first.value) (tree_of second.value))
    (tree.Choice (whole_of (drop c.args.left (take c.args.right old))) (whole_of (drop c.args.right old)))
    c.in_ok-push.ensures.items (c.in_ok-first.ensures.kept ∙ ap (take c.args.left) c.in_ok-second.ensures.kept) shape
    (ap (λ x. tree.Choice x (tree_of second.value)) (c.in_ok-first.ensures.taken
    ∙ ap (λ xs. whole_of (drop c.args.left xs)) c.in_ok-second.ensures.kept)
    ∙ ap (tree.Choice (whole_of (drop c.args.left (take c.args.right old)))) c.in_ok-second.ensures.taken)
