use Rattle.std.proofs.Common.{ap, ◌∙◌, string_bytes}
use Rattle.std.proofs.Math.Dec.{eqb}
use Rattle.std.specs.Cmp.Lexicographic.{pointwise, texts_ties}
use Rattle.racer_memory.proofs.memory_folder.MemoryFolder.has_name.Goals as goal

pub returns-clause-same : goal.returns-clause-same
returns-clause-same c =
    c.eq.ensures ∙ ap (pointwise eqb c.args.name.now) c.as_str.ensures.value
    ∙ texts_ties c.args.name.now (string_bytes c.args.self.now.name)
