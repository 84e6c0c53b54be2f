-- No public contract rests on this: what the code says of the parts of a `try`, without places.
use Rattle.std.specs.Prelude.{Vec, map, option_map}
use Rattle.std.specs.Global.{Global}
use Rattle.java_tree.specs.declared.statements.Statement.{Statement}
use Rattle.java_tree.specs.KeptPlaces.{Puts, maybe_puts, each_puts, catch_places, stmt_places}
use Rattle.java_tree.specs.Trees.{Stmts, pack_stmts}
use Rattle.java_tree.specs.View.{stmt_of}
use Rattle.java_parser_methods.specs.declared.try_parts.TryParts.{TryParts}

-- the statements of a block
abbrev pub block_of : Vec Statement Global → Stmts
block_of ss = pack_stmts (map stmt_of ss.items)

-- their places, and then the rest
abbrev pub parts_places : TryParts → Puts
parts_places parts rest = each_puts (map catch_places parts.clauses.items) (maybe_puts (option_map (λ ss. each_puts
    (map stmt_places ss.items)) parts.last) rest)
