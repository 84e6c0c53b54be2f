-- No public contract rests on this: what a sign begins that is in no table of operators.
use Rattle.std.specs.Prelude.{ℕ, List, codes, bytes_eq, if◌then◌else◌}
use Rattle.java_tree.specs.declared.words.Spelled.{Spelled}
use Rattle.java_parser_grammar.specs.TypeReading.{opens}
use Rattle.java_parser_grammar.specs.Leads.{Lead, Asks, Selects, Indexes, Refers, Opens, Binds, Ends, lead_of_angle}
use Rattle.java_parser_grammar.specs.Leads.{binds}

-- one that goes on with no names and no elements
abbrev pub lead_of_last_mark : List ℕ → List Spelled → Lead
lead_of_last_mark text ts =
    if bytes_eq text (codes "::") then Refers ts
    else (if binds text then Binds
    else (if opens text then Opens else Ends))

abbrev pub lead_of_mark : List ℕ → List Spelled → Lead
lead_of_mark text ts =
    if bytes_eq text (codes ">") then lead_of_angle ts
    else (if bytes_eq text (codes "?") then Asks ts
    else (if bytes_eq text (codes ".") then Selects ts
    else (if bytes_eq text (codes "[") then Indexes ts
    else lead_of_last_mark text ts)))
