use Rattle.std.proofs.Common.{◌≡◌, drop, map, string_bytes}
use Rattle.std.specs.List.{list_any}
use Rattle.racer_base.specs.Outside.{same_name}
use Rattle.racer_sources.proofs.source_files.SourceFiles.number_of.Given as goal

abbrev pub invariant-loop-number : goal.invariant-loop-number
invariant-loop-number l =
    list_any (same_name l.name) (map string_bytes (drop l.number l.self.names.items))
    ≡ list_any (same_name l.name) (map string_bytes l.self.names.items)
