-- No public contract rests on this: what is read where it takes all of the tokens.
use Rattle.std.specs.Prelude.{List, Option}
use Rattle.java_tree.specs.declared.words.Spelled.{Spelled}
use Rattle.java_parser_grammar.specs.Taking.{◌>>=◌}
use Rattle.java_parser_grammar.specs.MethodReading.{if_ended}

-- what was read, where no tokens are left behind it
abbrev pub all_of : {A : Type 0} → Option (A × List Spelled) → Option A
all_of read = read >>= λ x. if_ended x.0 x.1
