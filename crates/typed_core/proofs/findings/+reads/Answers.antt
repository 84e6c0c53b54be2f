use Rattle.std.proofs.Common.{◌≡◌, ◌+◌, map, drop, refl, sym, subst, arith, rules, OnOk}
use Rattle.std.proofs.lemmas.List.{at_drop_all}
use Rattle.racer_base.proofs.Lists.{on_ok}
use Rattle.core_code.specs.declared.code.Code.TheFolds.{the_lemmas}
use Rattle.core_code.specs.Program.{core}
use Rattle.core_code.specs.Tree.{Tree, Op, Choice, in_sequence, tree_of}
use Rattle.core_code.proofs.PartsLeft.{parts-turn}
use Rattle.typed_core.specs.Reaching.{AreRead}
use Rattle.typed_core.proofs.ReadClasses.{reads-turn, reads-end, reads-choice, reads-op}
use Rattle.typed_core.proofs.findings.+reads.Goals as goal

pub push_all_reads-loop-part-init : goal.push_all_reads-loop-part-init
push_all_reads-loop-part-init n c = λ d. refl

pub push_all_reads-loop-part-preserved : goal.push_all_reads-loop-part-preserved
push_all_reads-loop-part-preserved n c =
    let i = c.loop-part.part-index in
    let parts = c.args.parts.now in
    reads-turn (core c.args.program.now) (tree_of c.part-item.result) (in_sequence (map tree_of (drop (i + 1) parts)))
    (in_sequence (map tree_of (drop i parts))) (in_sequence (map tree_of parts)) c.args.reads.now.items
    c.loop-part.reads.items c.push_reads.new.reads.items
    (parts-turn parts i c.part-item.result c.loop-part-test.true c.part-item.is) c.loop-part.invariant
    c.in_ok-push_reads.ensures

pub push_all_reads-returns : goal.push_all_reads-returns
push_all_reads-returns n c =
    let i = c.loop-part.part-index in
    let parts = c.args.parts.now in
    reads-end (core c.args.program.now) (in_sequence (map tree_of (drop i parts))) (in_sequence (map tree_of parts))
    c.args.reads.now.items c.loop-part.reads.items
    (at_drop_all (λ ps. in_sequence (map tree_of ps)) parts i (omega (arith, c.loop-part-test.false)))
    c.loop-part.invariant

pub push_reads-returns-in-Op : goal.push_reads-returns-in-Op
push_reads-returns-in-Op n c =
    let program = core c.args.program.now in
    let old = c.args.reads.now.items in
    let new = c.push_read.new.reads.items in
    let is : tree_of c.args.code.now ≡ Op c.in-Op.field-0 c.in-Op.field-1 c.in-Op.op = search (rules, the_lemmas) in
    subst (λ (code : Tree). OnOk c.push_read.result (AreRead program code old new)) (sym is)
    (on_ok c.push_read.result _ _
    (λ put. reads-op program c.in-Op.field-0 c.in-Op.field-1 c.in-Op.op c.class_read.result old new
    c.class_read.ensures put) c.push_read.ensures)

pub push_reads-returns-in_ok-push_reads-in-Choice : goal.push_reads-returns-in_ok-push_reads-in-Choice
push_reads-returns-in_ok-push_reads-in-Choice n c =
    let program = core c.args.program.now in
    let old = c.args.reads.now.items in
    let mid = c.push_reads.new.reads.items in
    let new = c.push_reads-in-Choice.new.reads.items in
    let left = tree_of c.deref.result.now in
    let right = tree_of c.deref-in-Choice.result.now in
    let sides : tree_of c.args.code.now ≡ Choice left right = search (rules, the_lemmas) in
    subst (λ (code : Tree). OnOk c.push_reads-in-Choice.result (AreRead program code old new)) (sym sides)
    (on_ok c.push_reads-in-Choice.result _ _
    (λ put. reads-choice program left right old mid new c.in_ok-push_reads-in-Choice.ensures put)
    c.push_reads-in-Choice.ensures)
