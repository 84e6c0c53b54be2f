-- A contract of a public call rests on this: whether an expression goes on with what the first token begins.
use Rattle.std.specs.Prelude.{ℕ, suc, Bool, false, not, ◌&&◌, nat_le}
use Rattle.java_tree.specs.Trees.{Expr}
use Rattle.java_tree.specs.Operators.{assignment_level, conditional_level, relational_level, postfix_level}
use Rattle.java_tree.specs.Operators.{primary_level, binary_level}
use Rattle.java_tree.specs.Formed.{level, is_variable, makes_array}
use Rattle.java_parser_grammar.specs.Leads.{Lead, Assigns, Asks, Joins, Tests, Steps, Selects, Indexes, Opens, Ends}
use Rattle.java_parser_grammar.specs.Leads.{Refers, Binds}

-- whether an expression of a level of at least l does
abbrev pub goes_on : ℕ → Expr → Lead → Bool
goes_on l a (Assigns op r) = nat_le l assignment_level && is_variable a
goes_on l a (Asks r) = nat_le l conditional_level && nat_le (suc conditional_level) (level a)
goes_on l a (Joins op r) = nat_le l (binary_level op) && nat_le (binary_level op) (level a)
goes_on l a (Tests r) = nat_le l relational_level && nat_le relational_level (level a)
goes_on l a (Steps op r) = nat_le l postfix_level && is_variable a
goes_on l a (Selects r) = nat_le primary_level (level a)
goes_on l a (Indexes r) = nat_le primary_level (level a) && not (makes_array a)
goes_on l a (Refers r) = nat_le primary_level (level a)
goes_on l a Opens = false
goes_on l a Binds = false
goes_on l a Ends = false
