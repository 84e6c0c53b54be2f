use Rattle.std.proofs.Common.{◌&&◌, ◌∙◌}
use Rattle.std.specs.Prelude.{slice_get}
use Rattle.core_code.specs.Core.{method_of}
use Rattle.core_code.specs.Program.{core}
use Rattle.core_code.specs.Tree.{tree_of}
use Rattle.transfer_ties.specs.Forms.{same_code, same_form}
use Rattle.transfer_ties.proofs.OneToOne.{both_found, left_past, right_past}
use Rattle.transfer_ties.proofs.Seen.{past, there}
use Rattle.transfer_ties.proofs.Tied.{tied_head}
use Rattle.transfer_ties.proofs.codes.same_form.Goals as goal

pub returns-in_default : goal.returns-in_default
returns-in_default c =
    let p = core c.args.old.now in
    let q = core c.args.new.now in
    left_past (same_form p q) (slice_get p.methods c.args.before.0) (slice_get q.methods c.args.method.0)
    (past c.methods.result.now p.methods c.methods.ensures c.args.before.0 c.in_default.ensures.lookup.0)

pub returns-in_default-get : goal.returns-in_default-get
returns-in_default-get c =
    let p = core c.args.old.now in
    let q = core c.args.new.now in
    right_past (same_form p q) (slice_get p.methods c.args.before.0) (slice_get q.methods c.args.method.0)
    (past c.methods-2.result.now q.methods c.methods-2.ensures c.args.method.0 c.in_default-get.ensures.lookup.0)

pub returns : goal.returns
returns c =
    let p = core c.args.old.now in
    let q = core c.args.new.now in
    let olds = c.in-Some.olds.now in
    let news = c.in-Some-get.news.now in
    both_found (same_form p q) (slice_get p.methods c.args.before.0) (slice_get q.methods c.args.method.0)
    (method_of olds) (method_of news) c.same_methods.result
    (there c.methods.result.now p.methods c.methods.ensures c.args.before.0 olds c.in-Some.ensures.lookup.0
    c.in-Some.ensures.lookup.1)
    (there c.methods-2.result.now q.methods c.methods-2.ensures c.args.method.0 news c.in-Some-get.ensures.lookup.0
    c.in-Some-get.ensures.lookup.1)
    (c.same_methods.ensures
    ∙ (λ i. tied_head p q c.args.ties.now c.requires (method_of olds) (method_of news) i
    && same_code p q (tree_of olds.code) (tree_of news.code)))
