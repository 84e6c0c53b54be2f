use Rattle.std.proofs.Common.{◌≤◌, ◌<◌, ◌-◌, ◌∙◌, ap, arith, take, drop, length, length-take}
use Rattle.std.proofs.lemmas.Grind.{common_steps}
use Rattle.racer_base.specs.Outside.{taken_and}
use Rattle.racer_run.proofs.Written.{taken_and-more}
use Rattle.racer_run.proofs.writing.write_all.Goals as goal

pub loop-at-preserved : goal.loop-at-preserved
loop-at-preserved g c =
    let n = c.in_ok-at.field-0 in
    let text = c.args.text.now in
    let left = length text - c.loop-at.at in
    let piece = take left (drop c.loop-at.at text) in
    let fits : n ≤ left = omega (arith, c.in_ok-at.ensures.most, length-take left (drop c.loop-at.at text)) in
    record {
      within = omega arith;
      taken = c.in_ok-at.ensures.taken ∙ ap (λ taken. taken_and taken (take n piece)) c.loop-at.invariant.taken
          ∙ taken_and-more _ _ _ _ _ fits;
      no_fault = c.in_ok-at.ensures.count ∙ c.loop-at.invariant.no_fault;
      room = λ enough.
          let before = c.loop-at.invariant.room enough in
          let some : 0 < g.S.Sink.room c.loop-at.sink = omega arith in
          omega (arith, c.in_ok-at.ensures.room some);
    }

pub returns-clause-whole : goal.returns-clause-whole
returns-clause-whole g c = grind (arith, common_steps)
