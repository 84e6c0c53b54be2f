use Rattle.std.proofs.Common.{◌≡◌, take, drop, ap, rules}
use Rattle.core_code.specs.declared.code.Code.TheFolds.{the_lemmas}
use Rattle.core_code.specs.declared.code.Code.TheVariants as code
use Rattle.core_code.specs.Tree.{tree_of}
use Rattle.core_code.specs.Tree as tree
use Rattle.core_lowering_drafts.specs.Sites.{whole_of}
use Rattle.core_lowering_drafts.proofs.Pushed.{pushed}
use Rattle.core_lowering_drafts.proofs.written.repeat.Goals as goal

pub returns : goal.returns
returns c =
    let old = c.args.parts.now.items in
    let body = c.in_ok-body.body in
    let shape : tree_of (code.Loop body) ≡ tree.Loop (tree_of body.value) = search (rules, the_lemmas) in
    pushed c.taken.new.parts.items c.push.new.self.items (take c.args.at old) (code.Loop body)
    (tree.Loop (tree_of body.value))
    (tree.Loop (whole_of (drop c.args.at old))) c.in_ok-push.ensures.items c.in_ok-body.ensures.kept shape
    (ap tree.Loop c.in_ok-body.ensures.taken)
