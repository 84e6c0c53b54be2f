use Rattle.core_code.specs.Program.{core}
use Rattle.core_semantics.specs.View.{frames_of}
use Rattle.core_semantics.proofs.Entries.{entry_of, no_entry}
use Rattle.core_semantics.proofs.machine.thread_at.Goals as goal

pub returns : goal.returns
returns c =
    entry_of (core c.args.program.now) c.methods.result.now c.args.thread c.args.method c.in-Some.method.now
    (frames_of c.in-Ok.running) c.new-2.result c.methods.ensures c.in-Some.ensures.lookup.0
    c.in-Some.ensures.lookup.1 c.in-Ok.ensures c.new-2.ensures

pub returns-in_default : goal.returns-in_default
returns-in_default c =
    no_entry (core c.args.program.now) c.methods.result.now c.args.thread c.args.method c.new.result
    c.methods.ensures c.in_default.ensures.lookup.0 c.new.ensures
