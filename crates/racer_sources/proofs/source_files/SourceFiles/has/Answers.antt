use Rattle.std.proofs.Common.{◌∙◌, map, string_bytes}
use Rattle.racer_sources.proofs.Replaced.{has_number}
use Rattle.racer_sources.proofs.source_files.SourceFiles.has.Goals as goal

pub returns : goal.returns
returns c =
    c.is_some.ensures
    ∙ has_number (map string_bytes c.args.self.now.names.items) c.args.name.now c.number_of.result c.number_of.ensures
