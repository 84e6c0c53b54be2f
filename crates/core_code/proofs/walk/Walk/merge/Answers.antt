use Rattle.core_code.proofs.WalkParts.{merged_more, all_before}
use Rattle.core_code.proofs.walk.Walk.merge.Goals as goal

pub loop-self-preserved : goal.loop-self-preserved
loop-self-preserved c =
    let behind = c.begins_behind.ensures.yes c.loop-self-test.true in
    merged_more c.args.place c.args.self.now c.loop-self.self c.pop_group.new.self behind.0 behind.1
    c.loop-self.invariant behind.2 behind.3 c.pop_group.ensures

pub returns-clause-before : goal.returns-clause-before
returns-clause-before c rows kept =
    all_before rows c.args.place c.loop-self.self kept (c.begins_behind.ensures.no c.loop-self-test.false)
