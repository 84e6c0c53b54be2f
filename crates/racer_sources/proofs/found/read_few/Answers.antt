use Rattle.std.proofs.Common.{arith}
use Rattle.racer_sources.proofs.Together.{few_refused_of}
use Rattle.racer_sources.proofs.found.read_few.Goals as goal

pub returns-clause-refused : goal.returns-clause-refused
returns-clause-refused g c =
    few_refused_of (g.F.Folder.told c.args.folder.now) c.args.names.now c.read_all.result
    (let few = c.if-names-gt-MAX_FILES.false in omega arith) c.read_all.ensures.refused
