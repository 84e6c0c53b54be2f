use Rattle.core_code.specs.Program.{core}
use Rattle.core_semantics.specs.View.{state_of}
use Rattle.core_ways.proofs.LookedReads.{same_reads, same_step}
use Rattle.core_ways.proofs.driving.advance.Goals as goal

pub returns-clause-step : goal.returns-clause-step
returns-clause-step c =
    same_step (core c.args.program.now) c.args.thread c.args.turns.now (state_of c.args.machine.now)
    (state_of c.gather.new.machine) (state_of c.advance.new.self) c.advance.result c.in_ok-gather.ensures.same
    c.advance.ensures

pub returns-clause-reads : goal.returns-clause-reads
returns-clause-reads c =
    same_reads (core c.args.program.now) c.args.thread (state_of c.args.machine.now) c.args.objects.now
    c.gather.new.objects c.advance.result c.in_ok-gather.ensures.reads
