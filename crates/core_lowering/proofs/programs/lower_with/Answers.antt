use Rattle.std.proofs.Common.{true, map, string_bytes}
use Rattle.core_lowering_rules.specs.Programs.{draft_of}
use Rattle.core_lowering_rules.proofs.NumbersInRange.{numbers-in_range}
use Rattle.core_lowering.proofs.LowRows.{rows-low}
use Rattle.core_lowering.proofs.programs.lower_with.Goals as goal

pub find_edges-requires-clause-low : goal.find_edges-requires-clause-low
find_edges-requires-clause-low c =
    let files = map (λ file. string_bytes file) c.args.files.now in
    rows-low (draft_of c.args.containers files c.args.units.now)
    (numbers-in_range c.args.containers files c.args.units.now (λ m. true) c.requires.placed)
