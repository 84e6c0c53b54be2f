-- No public contract rests on this: what was read before, and what is still read.
use Rattle.std.specs.Prelude.{List, ◌++◌, Option}
use Rattle.java_tree.specs.declared.words.Spelled.{Spelled}
use Rattle.java_parser_grammar.specs.Taking.{◌>>=◌}

-- ends with what was read, the items in front before it
abbrev pub finished : {A B : Type 0} → (List A × List Spelled → Option B) → List A → Option (List A × List Spelled)
    → Option B
finished finish front read = read >>= λ x. finish (front ++ x.0, x.1)
