use Rattle.std.proofs.Common.{◌+◌, List, Option, refl, ap, subst, ◌∙◌}
use Rattle.std.specs.Borrow.{Bor}
use Rattle.core_code.specs.Program.{core}
use Rattle.core_semantics.specs.declared.answer.Turn.{Turn}
use Rattle.core_semantics.specs.View.{state_of}
use Rattle.witness_build_walks.specs.declared.walk.Walk.{Walk}
use Rattle.core_semantics.specs.declared.changes.Sight.{Sight}
use Rattle.witness_build_walks.specs.Walks.{IsTurned, listed}
use Rattle.witness_build_walks.proofs.Sights.{change-seen, look-seen}
use Rattle.witness_build_walks.proofs.WalkSteps.{stayed, went-on}
use Rattle.witness_build_walks.proofs.walk.step_on.Goals as goal

pub returns-in_default-clause-walk : goal.returns-in_default-clause-walk
returns-in_default-clause-walk c =
    let program = core c.args.program.now in
    let old = c.args.walk.now in
    let new : Walk =
    record {
      machine = c.turn_on.new.machine;
      thread = old.thread;
      method = old.method;
      steps = old.steps;
      turns = c.turn_on.new.turns;
      given = old.given;
      reads = c.add_look.new.reads;
      writes = old.writes;
      is_loud = old.is_loud;
    } in
    let stays =
    subst (λ (left : Option (Bor (List Turn))). IsTurned program old.thread c.args.rest.now (state_of old.machine)
    (state_of new.machine) old.turns.items new.turns.items left) c.in_default.is c.in_ok-left.ensures in
    stayed program old new c.next_sight-sight.result.look c.requires.walk
    (record { thread = refl; method = refl; steps_are = refl; turns_are = stays.2 })
    (record {
      state = stays.1;
      given = refl;
      reads = c.in_ok-add_look.ensures;
      writes = refl;
      loud = refl;
    })

pub returns-clause-walk : goal.returns-clause-walk
returns-clause-walk c =
    let program = core c.args.program.now in
    let old = c.args.walk.now in
    let new : Walk =
    record {
      machine = c.turn_on.new.machine;
      thread = old.thread;
      method = old.method;
      steps = old.steps + 1;
      turns = c.turn_on.new.turns;
      given = c.add_read.new.self;
      reads = c.add_look.new.reads;
      writes = c.add_change.new.writes;
      is_loud = c.is_loud_behind-walk.result;
    } in
    let turned =
    subst (λ (left : Option (Bor (List Turn))). IsTurned program old.thread c.args.rest.now (state_of old.machine)
    (state_of new.machine) old.turns.items new.turns.items left) c.in-Some.is c.in_ok-left.ensures in
    let seen_look =
    ap (λ (sight : Sight). listed sight.look) c.next_sight-sight.ensures
    ∙ look-seen program (state_of old.machine) old.thread in
    let seen_change =
    ap (λ (sight : Sight). sight.change) c.next_sight-sight.ensures
    ∙ change-seen program (state_of old.machine) old.thread in
    went-on program old new turned.used c.next_sight-sight.result.look c.next_sight-sight.result.change
    c.in_ok-value.value c.requires.walk
    (record { thread = refl; method = refl; steps_are = refl; turns_are = turned.behind }) turned.made
    (record {
      value_is = c.in_ok-value.ensures;
      given = c.in_ok-add_read.ensures;
      look_is = seen_look;
      reads = c.in_ok-add_look.ensures;
      change_is = seen_change;
      writes = c.in_ok-add_change.ensures;
      loud = c.is_loud_behind-walk.ensures;
    })
