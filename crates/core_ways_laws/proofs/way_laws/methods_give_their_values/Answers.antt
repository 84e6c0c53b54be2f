use Rattle.std.proofs.Common.{suc, arith}
use Rattle.core_code.specs.Calls.{rank_of}
use Rattle.core_code.specs.Program.{core}
use Rattle.core_ways_laws.proofs.CalledValues.{method-goes}
use Rattle.core_ways_laws.proofs.way_laws.methods_give_their_values.Goals as goal

pub returns : goal.returns
returns c p m analysed =
    method-goes (core p) (record { ranks = p.ranks_there; calls = p.calls_right; ends = p.ends_by_return })
    (suc (rank_of (core p) m)) m (omega arith) analysed
