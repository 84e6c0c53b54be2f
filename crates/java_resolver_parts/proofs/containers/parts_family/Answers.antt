use Rattle.std.proofs.Common.{ap, ◌∙◌}
use Rattle.container_cells.specs.Table.{family_of}
use Rattle.java_resolver_parts.proofs.LastParts.{last_family}
use Rattle.java_resolver_parts.proofs.containers.parts_family.Goals as goal

pub returns-in-len1-up : goal.returns-in-len1-up
returns-in-len1-up c =
    c.family_of.ensures
    ∙ ap family_of c.as_str.ensures
    ∙ last_family c.args.parts.now c.last-item.result c.in-len1-up.len_at_least c.last-item.is
