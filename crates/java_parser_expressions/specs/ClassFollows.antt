-- No public contract rests on this: names that are no expression, by what ends them.
use Rattle.std.specs.Prelude.{ℕ, Bool, true, List, ◌++◌, Option, Some, None, is_some, codes, if◌then◌else◌}
use Rattle.java_tree.specs.Trees.{Expr}
use Rattle.java_tree.specs.declared.words.Spelled.{Spelled}
use Rattle.java_parser_grammar.specs.Taking.{◌>>=◌, match_option, after_sign, after_keyword}
use Rattle.java_parser_grammar.specs.Leads.{begins_with}
use Rattle.java_parser_grammar.specs.BalancedReading.{Reading}
use Rattle.java_parser_grammar.specs.ExpressionReading.{NamesEnd, AtClass, AtArray, AtThis, array_class_at, class_at}
use Rattle.java_parser_grammar.specs.ExpressionReading.{ended}
use Rattle.java_parser_expressions.specs.declared.class_names.NamesEnd as ends
use Rattle.java_parser_expressions.specs.declared.class_names.NamesEnd.TheVariants as end

-- the end as the code has it
abbrev pub end_of : ends.NamesEnd → NamesEnd
end_of end.Class = AtClass
end_of (end.Array n) = AtArray n
end_of end.This = AtThis

-- the end of names, where one stands behind them
abbrev pub names_end_at : Reading NamesEnd
names_end_at ts =
    match_option (after_sign (codes ".") ts) (if begins_with (codes "[") ts then array_class_at ts else None)
    (λ r. match_option (after_keyword (codes "class") r)
    (match_option (after_keyword (codes "this") r) None (λ s. Some (AtThis, s))) (λ s. Some (AtClass, s)))

-- whether names, each behind a point, and their end follow
abbrev pub class_follows : List Spelled → Bool
class_follows ts = is_some (class_at true ts)

-- what names with their end are, these in front before them
abbrev pub class_behind : (front : List (List ℕ)) → Option ((List (List ℕ) × NamesEnd) × List Spelled)
    → Option (Expr × List Spelled)
class_behind front read = read >>= λ x. Some (ended (front ++ x.0.0) x.0.1, x.1)
