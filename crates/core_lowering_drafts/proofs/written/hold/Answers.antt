use Rattle.std.proofs.Common.{◌≡◌, take, drop, ap, rules}
use Rattle.core_code.specs.declared.code.Code.TheFolds.{the_lemmas}
use Rattle.core_code.specs.declared.code.Code.TheVariants as code
use Rattle.core_code.specs.Tree.{tree_of}
use Rattle.core_code.specs.Tree as tree
use Rattle.core_lowering_drafts.specs.Sites.{lock_at}
use Rattle.core_lowering_drafts.specs.Sites.{whole_of}
use Rattle.core_lowering_drafts.proofs.Pushed.{pushed}
use Rattle.core_lowering_drafts.proofs.written.hold.Goals as goal

pub returns : goal.returns
returns c =
    let old = c.args.parts.now.items in
    let body = c.in_ok-body.body in
    let lock = lock_at c.args.kind c.args.place in
    let shape : tree_of (code.Sync c.args.place c.args.kind body) ≡ tree.Sync lock (tree_of body.value) =
    search (rules, the_lemmas) in
    pushed c.taken.new.parts.items c.push.new.self.items (take c.args.at old) (code.Sync c.args.place c.args.kind body)
    (tree.Sync lock (tree_of body.value)) (tree.Sync lock (whole_of (drop c.args.at old)))
    c.in_ok-push.ensures.items c.in_ok-body.ensures.kept shape (ap (tree.Sync lock) c.in_ok-body.ensures.taken)
