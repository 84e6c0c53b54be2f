use Rattle.core_lowering_drafts.specs.EndSets.{seen}
use Rattle.core_lowering_drafts.proofs.Falling.{ends-step, so_far-step}
use Rattle.core_lowering_drafts.proofs.groups.ends_of_each.Goals as goal

pub loop-draft-preserved : goal.loop-draft-preserved
loop-draft-preserved c =
    let drafts = c.args.drafts.now in
    let i = c.loop-draft.draft-index in
    let x = c.draft-item.result in
    let old = seen c.loop-draft.ends in
    let new = seen c.go_on.new.self in
    let here = seen c.ends.result.now in
    record {
      all =
          ends-step drafts i x c.loop-draft-test.true c.draft-item.is old new here c.loop-draft.invariant.ends
          c.ends.ensures c.in_ok-go_on.ensures c.loop-draft.all.items c.push.new.self.items c.in_ok-copied.field-0
          c.loop-draft.invariant.all c.in_ok-push.ensures.items c.in_ok-copied.ensures;
      ends =
          so_far-step drafts i x c.loop-draft-test.true c.draft-item.is old new here c.loop-draft.invariant.ends
          c.ends.ensures c.in_ok-go_on.ensures;
    }
