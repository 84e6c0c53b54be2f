use Rattle.std.proofs.Common.{◌∙◌}
use Rattle.std.specs.Prelude.{slice_get}
use Rattle.core_code.specs.Core.{method_of}
use Rattle.core_code.specs.Program.{core}
use Rattle.transfer_ties.specs.Ties.{same_callee}
use Rattle.transfer_ties.proofs.OneToOne.{both_found, left_past, right_past}
use Rattle.transfer_ties.proofs.Seen.{past, there}
use Rattle.transfer_ties.proofs.Tied.{tied_called}
use Rattle.transfer_ties.proofs.codes.same_callee.Goals as goal

pub returns-in_default : goal.returns-in_default
returns-in_default c =
    let p = core c.args.both.older.now in
    let q = core c.args.both.newer.now in
    left_past (same_callee p q) (slice_get p.methods c.args.old.0) (slice_get q.methods c.args.new.0)
    (past c.methods.result.now p.methods c.methods.ensures c.args.old.0 c.in_default.ensures.lookup.0)

pub returns-in_default-get : goal.returns-in_default-get
returns-in_default-get c =
    let p = core c.args.both.older.now in
    let q = core c.args.both.newer.now in
    right_past (same_callee p q) (slice_get p.methods c.args.old.0) (slice_get q.methods c.args.new.0)
    (past c.methods-2.result.now q.methods c.methods-2.ensures c.args.new.0 c.in_default-get.ensures.lookup.0)

pub returns : goal.returns
returns c =
    let p = core c.args.both.older.now in
    let q = core c.args.both.newer.now in
    let before = c.in-Some.before.now in
    let method = c.in-Some-get.method.now in
    both_found (same_callee p q) (slice_get p.methods c.args.old.0) (slice_get q.methods c.args.new.0)
    (method_of before) (method_of method) c.same_called.result
    (there c.methods.result.now p.methods c.methods.ensures c.args.old.0 before c.in-Some.ensures.lookup.0
    c.in-Some.ensures.lookup.1)
    (there c.methods-2.result.now q.methods c.methods-2.ensures c.args.new.0 method c.in-Some-get.ensures.lookup.0
    c.in-Some-get.ensures.lookup.1)
    (c.same_called.ensures
    ∙ tied_called p q c.args.both.ties.now c.requires (method_of before) (method_of method))
