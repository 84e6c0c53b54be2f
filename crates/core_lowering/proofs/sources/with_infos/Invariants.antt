use Rattle.std.proofs.Common.{◌≡◌, ◌++◌, map, drop, length}
use Rattle.core_lowering_context.specs.Sources.{source_of}
use Rattle.core_lowering.specs.Parts.{part_of, with_infos}
use Rattle.core_lowering.proofs.sources.with_infos.Given as goal

abbrev pub invariant-loop-part : goal.invariant-loop-part
invariant-loop-part l =
    let so_far = length l.yielded in
    map source_of l.sources.items ++ with_infos (map part_of (drop so_far l.parts)) (drop so_far l.infos) ≡
    with_infos (map part_of l.parts) l.infos
