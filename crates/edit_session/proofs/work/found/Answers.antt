use Rattle.transfer.proofs.Every.{held-none, held-some, past-end}
use Rattle.edit_session.proofs.work.found.Goals as goal

pub returns-in-None : goal.returns-in-None
returns-in-None c =
    let read = c.in-Some.ensures.lookup in
    held-none c.args.table.now c.args.method c.in-Some.place.now read.0 read.1 c.in-None.is

pub returns-in_default : goal.returns-in_default
returns-in_default c = past-end c.args.table.now c.args.method c.in_default.ensures.lookup.0

pub returns-in_ok-clone-in-Some-place : goal.returns-in_ok-clone-in-Some-place
returns-in_ok-clone-in-Some-place c =
    let read = c.in-Some.ensures.lookup in
    held-some c.args.table.now c.args.method c.in-Some.place.now c.in_ok-clone-in-Some-place.field-0
    c.in-Some-place.finished read.0 read.1 c.in-Some-place.is c.in_ok-clone-in-Some-place.ensures.cases
