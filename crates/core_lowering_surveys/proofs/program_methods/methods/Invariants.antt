use Rattle.std.proofs.Common.{◌≡◌, ◌++◌, map, drop, length}
use Rattle.core_code.specs.Core.{method_of}
use Rattle.core_lowering_rules.specs.Programs.{method_cores}
use Rattle.core_lowering_context.specs.Views.{folder_of}
use Rattle.core_lowering_surveys.specs.Surveys.{seen}
use Rattle.core_lowering_surveys.proofs.program_methods.methods.Given as goal

abbrev pub invariant-loop-one : goal.invariant-loop-one
invariant-loop-one l =
    let folder = folder_of l.table l.cells l.statuses in
    let so_far = length l.yielded in
    map method_of l.methods ++ method_cores folder (map seen (drop so_far l.surveyed)) (drop so_far l.statuses) ≡
    method_cores folder (map seen l.surveyed) l.statuses
