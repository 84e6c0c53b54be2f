use Rattle.std.proofs.Common.{◌≡◌, ◌++◌, drop, map, string_bytes}
use Rattle.core_code.specs.Program.{core}
use Rattle.race_report_parts.specs.Texts as said
use Rattle.race_report_parts.proofs.wobbly.path_texts.Given as goal

-- the texts so far, and then those of the paths that are left
abbrev pub invariant-loop-path : goal.invariant-loop-path
invariant-loop-path l =
    map string_bytes l.texts.items ++ map (said.path_text (core l.program)) (drop l.path-index l.paths)
    ≡ map (said.path_text (core l.program)) l.paths
