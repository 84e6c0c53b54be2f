-- No public contract rests on this: what is made of items at their end.
use Rattle.std.specs.Prelude.{ℕ, Bool, true, false, not, ◌||◌, List, [], ◌++◌, length, Option, Some, None, codes}
use Rattle.std.specs.Prelude.{if◌then◌else◌}
use Rattle.java_tree.specs.declared.words.Spelled.{Spelled}
use Rattle.java_tree.specs.Trees.{Typed, Base, Named, Part, Arguments, Angled, Argument, Expr, Prefix, NewArray}
use Rattle.java_tree.specs.Trees.{Array, Braces, Init, Stmt, Stmts, pack_parts, pack_arguments, pack_exprs}
use Rattle.java_tree.specs.Trees.{pack_inits, pack_stmts}
use Rattle.java_tree.specs.Operators.{is_step}
use Rattle.java_tree.specs.Formed.{is_variable}
use Rattle.java_parser_grammar.specs.Taking.{◌>>=◌, match_option, after_sign, after_angle}
use Rattle.java_parser_grammar.specs.TypeReading.{after_brackets, brackets_at}

-- a base of these parts
abbrev pub named_end : List Part × List Spelled → Option (Base × List Spelled)
named_end x = Some (Named (pack_parts x.0), x.1)

-- these type arguments, and the `>` behind them
abbrev pub angled_end : List Argument × List Spelled → Option (Arguments × List Spelled)
angled_end x = after_angle x.1 >>= λ angle. Some (Angled (pack_arguments x.0) angle.0, angle.1)

-- these arguments, and the `)` behind them
abbrev pub call_end : List Expr × List Spelled → Option (List Expr × List Spelled)
call_end x = after_sign (codes ")") x.1 >>= λ r. Some (x.0, r)

-- an array of these lengths, and the `[ ]` behind them
abbrev pub lengths_end : Base → List Expr × List Spelled → Option (Expr × List Spelled)
lengths_end b x = let m = brackets_at (length x.1) x.1 in Some (NewArray (Typed b 0) (pack_exprs x.0) m.0, m.1)

-- the tokens behind the `[` of one more length
abbrev pub length_behind : List Spelled → Option (List Spelled)
length_behind ts = match_option (after_brackets ts) (after_sign (codes "[") ts) (λ r. None)

-- an array initialiser of these items, and whether a last comma stands behind them
abbrev pub items_end : List Init → Option (List Init × Bool × List Spelled) → Option (Array × List Spelled)
items_end front read = read >>= λ x. Some (Braces (pack_inits (front ++ x.0)) x.1, x.2)

-- the tokens behind the comma before one more item
abbrev pub item_behind : List Spelled → Option (List Spelled)
item_behind ts = match_option (after_sign (codes ",") ts) None (λ r. match_option (after_sign (codes "}") r) (Some r)
    (λ s. None))

-- no further item, whether a last comma stands, and the tokens behind the `}`
abbrev pub items_close : List Spelled → Option (List Init × Bool × List Spelled)
items_close ts =
    match_option (after_sign (codes ",") ts)
    (after_sign (codes "}") ts >>= λ r. Some ([], false, r))
    (λ r. after_sign (codes "}") r >>= λ s. Some ([], true, s))

-- the items as they are
abbrev pub as_they_are : {A : Type 0} → List A × List Spelled → Option (List A × List Spelled)
as_they_are x = Some x

-- the statements of a block
abbrev pub block_end : List Stmt × List Spelled → Option (Stmts × List Spelled)
block_end x = Some (pack_stmts x.0, x.1)

-- this operator before what was read: `++` and `--` stand before what can be assigned alone
abbrev pub prefix_end : (operator : List ℕ) → Expr × List Spelled → Option (Expr × List Spelled)
prefix_end op x = if not (is_step op) || is_variable x.0 then Some (Prefix op x.0, x.1) else None
