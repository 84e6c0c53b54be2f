use Rattle.std.proofs.Common.{option_copied}
use Rattle.java_resolver.specs.Declarations.{class_names}
use Rattle.java_resolver.specs.Hidden.{hidden_by}
use Rattle.java_resolver.proofs.PartKinds.{many_parts}
use Rattle.java_resolver.proofs.kinds.named_kind.Goals as goal

pub returns-in_default-2 : goal.returns-in_default-2
returns-in_default-2 c =
    many_parts (hidden_by (option_copied c.args.hidden)) (class_names c.args.classes.now) c.args.parts.now
    c.in_default.len_at_least
