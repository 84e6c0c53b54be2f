use Rattle.std.proofs.Common.{◌≡◌, List, [], ◌∷◌, ◌++◌, take, refl, ap, ◌∙◌, subst}
use Rattle.std.proofs.Math.Seq.{take-length}
use Rattle.std.proofs.lemmas.Result.{IfOk-weaker}
use Rattle.core_lowering_drafts.specs.Drafts.{Normal, SameEnds, ends_behind, ends_within, part_ends}
use Rattle.core_lowering_drafts.specs.EndSets.{seen}
use Rattle.core_lowering_drafts.specs.Groups.{fallen}
use Rattle.core_lowering_drafts.specs.Lists.{Parts, ends_of}
use Rattle.core_lowering_drafts.specs.Pieces.{part_of}
use Rattle.core_lowering_drafts.proofs.SameEnds.{append-same, behind-same, first-same, within-same}
use Rattle.core_lowering_drafts.proofs.DraftEnds.{equal-same, kept-ends, part-arm}
use Rattle.core_lowering_drafts.proofs.joined.part_ends.Goals as goal

pub returns-in-Choice : goal.returns-in-Choice
returns-in-Choice c =
    let l = seen c.ends.result.now in
    let r = seen c.ends-in-Choice.result.now in
    let a = c.in-Choice.left.value in
    let b = c.in-Choice.right.value in
    IfOk-weaker c.either_ends.result (λ x. SameEnds (seen x) (l ++ r))
    (λ x. SameEnds (seen x) (part_ends (part_of c.args.part.now)))
    (λ x s. part-arm (seen x) (l ++ r) c.args.part.now _ c.in-Choice.is s
    (append-same l (ends_of a) r (ends_of b) (kept-ends l c.deref.result.now a c.deref.ensures c.ends.ensures)
    (kept-ends r c.deref-in-Choice.result.now b c.deref-in-Choice.ensures c.ends-in-Choice.ensures)))
    c.either_ends.ensures

pub returns-in-Loop : goal.returns-in-Loop
returns-in-Loop c =
    let l = seen c.ends-in-Loop.result.now in
    let a = c.in-Loop.body.value in
    let d = c.deref-in-Loop.ensures in
    IfOk-weaker c.loop_ends.result (λ x. SameEnds (seen x) (Normal ∷ l))
    (λ x. SameEnds (seen x) (part_ends (part_of c.args.part.now)))
    (λ x s. part-arm (seen x) (Normal ∷ l) c.args.part.now _ c.in-Loop.is s
    (first-same Normal l (ends_of a) (kept-ends l c.deref-in-Loop.result.now a d c.ends-in-Loop.ensures)))
    c.loop_ends.ensures

pub returns-in-Sync : goal.returns-in-Sync
returns-in-Sync c =
    let l = seen c.ends-in-Sync.result.now in
    let a = c.in-Sync.body.value in
    let d = c.deref-in-Sync.ensures in
    IfOk-weaker c.copied.result (λ x. seen x ≡ l)
    (λ x. SameEnds (seen x) (part_ends (part_of c.args.part.now)))
    (λ x s. part-arm (seen x) l c.args.part.now _ c.in-Sync.is (equal-same (seen x) l s)
    (kept-ends l c.deref-in-Sync.result.now a d c.ends-in-Sync.ensures))
    c.copied.ensures

pub returns-in-Within : goal.returns-in-Within
returns-in-Within c =
    let l = seen c.ends-in-Within.result.now in
    let a = c.in-Within.body.value in
    let d = c.deref-in-Within.ensures in
    let k = c.in-Within.exit.0 in
    IfOk-weaker c.within_ends.result (λ x. SameEnds (seen x) (ends_within k l))
    (λ x. SameEnds (seen x) (part_ends (part_of c.args.part.now)))
    (λ x s. part-arm (seen x) (ends_within k l) c.args.part.now _ c.in-Within.is s
    (within-same k l (ends_of a) (kept-ends l c.deref-in-Within.result.now a d c.ends-in-Within.ensures)))
    c.within_ends.ensures

pub returns-in-Ending : goal.returns-in-Ending
returns-in-Ending c =
    let l = seen c.ends-in-Ending.result.now in
    let a = c.in-Ending.body.value in
    let d = c.deref-in-Ending.ensures in
    IfOk-weaker c.copied-in-Ending.result (λ x. seen x ≡ l)
    (λ x. SameEnds (seen x) (part_ends (part_of c.args.part.now)))
    (λ x s. part-arm (seen x) l c.args.part.now _ c.in-Ending.is (equal-same (seen x) l s)
    (kept-ends l c.deref-in-Ending.result.now a d c.ends-in-Ending.ensures))
    c.copied-in-Ending.ensures

pub returns-in-Behind : goal.returns-in-Behind
returns-in-Behind c =
    let l = seen c.ends-in-Behind.result.now in
    let m = seen c.ends-in-Behind-2.result.now in
    let n = seen c.ends-in-Behind-3.result.now in
    let a = c.in-Behind.body.value in
    let b = c.in-Behind.finally.value in
    let d = c.in-Behind.last.value in
    let k = c.in-Behind.exit.0 in
    IfOk-weaker c.behind_ends.result (λ x. SameEnds (seen x) (ends_behind k l m n))
    (λ x. SameEnds (seen x) (part_ends (part_of c.args.part.now)))
    (λ x s. part-arm (seen x) (ends_behind k l m n) c.args.part.now _ c.in-Behind.is s
    (behind-same k l (ends_of a) m (ends_of b) n (ends_of d)
    (kept-ends l c.deref-in-Behind.result.now a c.deref-in-Behind.ensures c.ends-in-Behind.ensures)
    (kept-ends m c.deref-in-Behind-2.result.now b c.deref-in-Behind-2.ensures c.ends-in-Behind-2.ensures)
    (kept-ends n c.deref-in-Behind-3.result.now d c.deref-in-Behind-3.ensures c.ends-in-Behind-3.ensures)))
    c.behind_ends.ensures

pub returns-in-Entered : goal.returns-in-Entered
returns-in-Entered c =
    let groups = c.in-Entered.groups in
    let E = ends_of (fallen groups) ++ Normal ∷ [] in
    IfOk-weaker c.entered_ends.result
    (λ x. SameEnds (seen x) (ends_of (fallen (take c.len.result groups)) ++ Normal ∷ []))
    (λ x. SameEnds (seen x) (part_ends (part_of c.args.part.now)))
    (λ x s. part-arm (seen x) E c.args.part.now _ c.in-Entered.is
    (subst (λ (gs : List Parts). SameEnds (seen x) (ends_of (fallen gs) ++ Normal ∷ []))
    (ap (λ n. take n groups) c.len.ensures ∙ take-length groups) s) (λ e. refl))
    c.entered_ends.ensures
