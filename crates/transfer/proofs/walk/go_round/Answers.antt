use Rattle.core_code.specs.Tree.{tree_of}
use Rattle.transfer_steps.specs.Contexts.{given}
use Rattle.transfer.proofs.RoundsNumbered.{ended-state, ended-found, ended-sound, ended-high, ended-unchanged}
use Rattle.transfer.proofs.RoundsNumbered.{round-ready}
use Rattle.transfer.proofs.RoundsNumbered.{met-state, met-unchanged, met-found, met-sound, met-high, met-numbers}
use Rattle.std.proofs.lemmas.Bool.{not-false, not-true}
use Rattle.transfer.proofs.walk.go_round.Goals as goal

pub returns-then-not-passed-clause-state : goal.returns-then-not-passed-clause-state
returns-then-not-passed-clause-state c =
    ended-state
    (given c.args.context.now) (tree_of c.args.body.now) c.args.context.now.locked c.args.notes.now.table
    c.resume.new.table
    c.in-Ok-resume.ensures.table c.args.state.now c.in-Ok.end c.resume.new.state c.args.heads.now.items
    c.resume.new.heads.items c.in-Ok-resume.passed c.args.notes.now.found c.in-Ok.ensures c.requires.numbers
    c.in-Ok-resume.ensures.resumed c.in-Ok-resume.ensures.numbers c.requires.high c.requires.sound
    (not-true c.in-Ok-resume.passed.goes_on c.if-not-passed.true)

pub returns-then-not-passed-clause-unchanged : goal.returns-then-not-passed-clause-unchanged
returns-then-not-passed-clause-unchanged c = λ _.
    ended-unchanged
    (given c.args.context.now) (tree_of c.args.body.now) c.args.context.now.locked c.args.notes.now.table
    c.resume.new.table
    c.in-Ok-resume.ensures.table c.args.state.now c.in-Ok.end c.resume.new.state c.args.heads.now.items
    c.resume.new.heads.items c.in-Ok-resume.passed c.args.notes.now.found c.in-Ok.ensures c.requires.numbers
    c.in-Ok-resume.ensures.resumed c.in-Ok-resume.ensures.numbers c.requires.high c.requires.sound

pub returns-then-not-passed-clause-found : goal.returns-then-not-passed-clause-found
returns-then-not-passed-clause-found c =
    ended-found
    (given c.args.context.now) (tree_of c.args.body.now) c.args.context.now.locked c.args.notes.now.table
    c.resume.new.table
    c.in-Ok-resume.ensures.table c.args.state.now c.in-Ok.end c.resume.new.state c.args.heads.now.items
    c.resume.new.heads.items c.in-Ok-resume.passed c.args.notes.now.found c.in-Ok.ensures c.requires.numbers
    c.in-Ok-resume.ensures.resumed c.in-Ok-resume.ensures.numbers c.requires.high c.requires.sound
    (not-true c.in-Ok-resume.passed.goes_on c.if-not-passed.true)

pub returns-then-not-passed-clause-sound : goal.returns-then-not-passed-clause-sound
returns-then-not-passed-clause-sound c =
    ended-sound
    (given c.args.context.now) (tree_of c.args.body.now) c.args.context.now.locked c.args.notes.now.table
    c.resume.new.table
    c.in-Ok-resume.ensures.table c.args.state.now c.in-Ok.end c.resume.new.state c.args.heads.now.items
    c.resume.new.heads.items c.in-Ok-resume.passed c.args.notes.now.found c.in-Ok.ensures c.requires.numbers
    c.in-Ok-resume.ensures.resumed c.in-Ok-resume.ensures.numbers c.requires.high c.requires.sound
    (not-true c.in-Ok-resume.passed.goes_on c.if-not-passed.true)

pub returns-then-not-passed-clause-high : goal.returns-then-not-passed-clause-high
returns-then-not-passed-clause-high c =
    ended-high
    (given c.args.context.now) (tree_of c.args.body.now) c.args.context.now.locked c.args.notes.now.table
    c.resume.new.table
    c.in-Ok-resume.ensures.table c.args.state.now c.in-Ok.end c.resume.new.state c.args.heads.now.items
    c.resume.new.heads.items c.in-Ok-resume.passed c.args.notes.now.found c.in-Ok.ensures c.requires.numbers
    c.in-Ok-resume.ensures.resumed c.in-Ok-resume.ensures.numbers c.requires.high c.requires.sound

pub returns-then-not-passed-clause-numbers : goal.returns-then-not-passed-clause-numbers
returns-then-not-passed-clause-numbers c =
    round-ready
    (given c.args.context.now) (tree_of c.args.body.now) c.args.context.now.locked c.args.notes.now.table
    c.resume.new.table
    c.in-Ok-resume.ensures.table c.args.state.now c.in-Ok.end c.resume.new.state c.args.heads.now.items
    c.resume.new.heads.items c.in-Ok-resume.passed c.args.notes.now.found c.in-Ok.ensures c.requires.numbers
    c.in-Ok-resume.ensures.resumed c.in-Ok-resume.ensures.numbers c.requires.high c.requires.sound

pub returns-clause-state : goal.returns-clause-state
returns-clause-state c =
    met-state
    (given c.args.context.now) (tree_of c.args.body.now) c.args.context.now.locked c.args.notes.now.table
    c.resume.new.table
    c.in-Ok-resume.ensures.table c.args.state.now c.in-Ok.end c.resume.new.state c.args.heads.now.items
    c.resume.new.heads.items c.in-Ok-resume.passed c.args.notes.now.found c.in-Ok.ensures c.requires.numbers
    c.in-Ok-resume.ensures.resumed c.in-Ok-resume.ensures.numbers c.requires.high c.requires.sound
    (not-false c.in-Ok-resume.passed.goes_on c.if-not-passed.false) c.meet.new.state c.meet.new.found c.meet.result
    c.meet.ensures.state

pub returns-clause-unchanged : goal.returns-clause-unchanged
returns-clause-unchanged c =
    met-unchanged
    (given c.args.context.now) (tree_of c.args.body.now) c.args.context.now.locked c.args.notes.now.table
    c.resume.new.table
    c.in-Ok-resume.ensures.table c.args.state.now c.in-Ok.end c.resume.new.state c.args.heads.now.items
    c.resume.new.heads.items c.in-Ok-resume.passed c.args.notes.now.found c.in-Ok.ensures c.requires.numbers
    c.in-Ok-resume.ensures.resumed c.in-Ok-resume.ensures.numbers c.requires.high c.requires.sound
    (not-false c.in-Ok-resume.passed.goes_on c.if-not-passed.false) c.meet.new.state c.meet.new.found c.meet.result
    c.meet.ensures.unchanged

pub returns-clause-found : goal.returns-clause-found
returns-clause-found c =
    met-found
    (given c.args.context.now) (tree_of c.args.body.now) c.args.context.now.locked c.args.notes.now.table
    c.resume.new.table
    c.in-Ok-resume.ensures.table c.args.state.now c.in-Ok.end c.resume.new.state c.args.heads.now.items
    c.resume.new.heads.items c.in-Ok-resume.passed c.args.notes.now.found c.in-Ok.ensures c.requires.numbers
    c.in-Ok-resume.ensures.resumed c.in-Ok-resume.ensures.numbers c.requires.high c.requires.sound
    (not-false c.in-Ok-resume.passed.goes_on c.if-not-passed.false) c.meet.new.state c.meet.new.found c.meet.result
    c.meet.ensures.found

pub returns-clause-sound : goal.returns-clause-sound
returns-clause-sound c =
    met-sound
    (given c.args.context.now) (tree_of c.args.body.now) c.args.context.now.locked c.args.notes.now.table
    c.resume.new.table
    c.in-Ok-resume.ensures.table c.args.state.now c.in-Ok.end c.resume.new.state c.args.heads.now.items
    c.resume.new.heads.items c.in-Ok-resume.passed c.args.notes.now.found c.in-Ok.ensures c.requires.numbers
    c.in-Ok-resume.ensures.resumed c.in-Ok-resume.ensures.numbers c.requires.high c.requires.sound
    (not-false c.in-Ok-resume.passed.goes_on c.if-not-passed.false) c.meet.new.state c.meet.new.found c.meet.result
    c.meet.ensures.state

pub returns-clause-high : goal.returns-clause-high
returns-clause-high c =
    met-high
    (given c.args.context.now) (tree_of c.args.body.now) c.args.context.now.locked c.args.notes.now.table
    c.resume.new.table
    c.in-Ok-resume.ensures.table c.args.state.now c.in-Ok.end c.resume.new.state c.args.heads.now.items
    c.resume.new.heads.items c.in-Ok-resume.passed c.args.notes.now.found c.in-Ok.ensures c.requires.numbers
    c.in-Ok-resume.ensures.resumed c.in-Ok-resume.ensures.numbers c.requires.high c.requires.sound
    (not-false c.in-Ok-resume.passed.goes_on c.if-not-passed.false) c.meet.new.state c.meet.new.found c.meet.result
    c.meet.ensures.state

pub returns-clause-numbers : goal.returns-clause-numbers
returns-clause-numbers c =
    met-numbers
    (given c.args.context.now) (tree_of c.args.body.now) c.args.context.now.locked c.args.notes.now.table
    c.resume.new.table
    c.in-Ok-resume.ensures.table c.args.state.now c.in-Ok.end c.resume.new.state c.args.heads.now.items
    c.resume.new.heads.items c.in-Ok-resume.passed c.args.notes.now.found c.in-Ok.ensures c.requires.numbers
    c.in-Ok-resume.ensures.resumed c.in-Ok-resume.ensures.numbers c.requires.high c.requires.sound
    (not-false c.in-Ok-resume.passed.goes_on c.if-not-passed.false) c.meet.new.state c.meet.new.found c.meet.result
    c.meet.ensures.numbers
