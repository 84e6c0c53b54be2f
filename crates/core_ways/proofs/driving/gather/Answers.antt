use Rattle.std.proofs.Common.{sym, ◌∙◌}
use Rattle.core_code.specs.Program.{core}
use Rattle.core_semantics.specs.View.{state_of}
use Rattle.core_ways.proofs.LookedReads.{turned_reads, read_reads, other_reads}
use Rattle.core_ways.proofs.driving.gather.Goals as goal

pub returns-in-Read-clause-reads : goal.returns-in-Read-clause-reads
returns-in-Read-clause-reads c =
    read_reads (core c.args.program.now) c.args.thread (state_of c.args.machine.now) (state_of c.look.new.self)
    c.args.objects.now c.add_read.new.objects c.add_read.result c.in_ok-look.ensures.same
    (sym c.in_ok-look.ensures.look ∙ c.in-Read.is) c.add_read.ensures

pub returns-in-Turn-clause-reads : goal.returns-in-Turn-clause-reads
returns-in-Turn-clause-reads c =
    turned_reads (core c.args.program.now) c.args.thread (state_of c.args.machine.now) c.args.objects.now
    (sym c.in_ok-look.ensures.look ∙ c.in-Turn.is)

pub returns-in-Other-clause-reads : goal.returns-in-Other-clause-reads
returns-in-Other-clause-reads c =
    other_reads (core c.args.program.now) c.args.thread (state_of c.args.machine.now) c.args.objects.now
    (sym c.in_ok-look.ensures.look ∙ c.in-Other.is)
