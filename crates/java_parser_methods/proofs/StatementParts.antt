-- A `do`, a `switch`, a statement behind a name, a clause and a group, by their parts.
use Rattle.std.proofs.Common.{◌≡◌, ℕ, Bool, true, false, List, length, map, codes, Option, Some, None, if◌then◌else◌}
use Rattle.std.proofs.Common.{refl}
use Rattle.std.proofs.Common.{sym, subst, rules}
use Rattle.std.specs.Global.{Vec}
use Rattle.java_tree.specs.declared.statements.CatchParameterTree.{CatchParameterTree}
use Rattle.java_tree.specs.declared.statements.LabelTree.{LabelTree}
use Rattle.java_tree.specs.declared.statements.Statement.{Statement}
use Rattle.java_tree.specs.declared.statements.CatchTree.{roll-CatchTree}
use Rattle.java_tree.specs.declared.statements.GroupTree.{roll-GroupTree}
use Rattle.java_tree.specs.declared.statements.Statement.TheFolds.{the_lemmas}
use Rattle.java_tree.specs.KeptPlaces.{Places, Puts, each_puts, stmt_places, catch_parameter_places, catch_places}
use Rattle.java_tree.specs.KeptPlaces.{label_places, group_places}
use Rattle.java_parser_types.specs.LedPlaces.{Leads}
use Rattle.java_parser_types.proofs.LedMarks.{both_led}
use Rattle.java_tree.specs.declared.words.Spelled.{Spelled}
use Rattle.java_tree.specs.Formed.{is_body}
use Rattle.java_tree.specs.Rows.{Switch}
use Rattle.java_tree.specs.Trees.{Expr, Stmt, Stmts, Labelled, Groups}
use Rattle.java_parser_grammar.specs.BalancedReading.{Reading}
use Rattle.java_parser_grammar.specs.Taking.{◌>>=◌, after_sign, after_keyword}
use Rattle.java_parser_grammar.specs.Readers.{Readers}
use Rattle.java_parser_grammar.specs.StatementReading.{body_at, condition_at, groups_at, pieces_at, row_at}
use Rattle.java_parser_parts.specs.Parts.{switch_front_at}
use Rattle.java_parser_methods.specs.RowReading.{do_end_at, labelled_at, labelled_with}

module _ (readers : Readers) (read : Reading Stmt) (block : Reading Stmts) (n : ℕ) where
  -- ---- a `do` behind its body

  module _ (s : Stmt) (ts r : List Spelled) (b : body_at readers read ts ≡ Some (s, r)) where
    abbrev Same : Type 0
    Same = row_at readers read block n (codes "do") ts ≡ do_end_at readers n s r

    by_semicolon : (k : List Spelled) (e : Expr) (c : List Spelled) (o : Option (List Spelled))
        → after_sign (codes ";") c ≡ o → condition_at readers n k ≡ Some (e, c)
        → after_keyword (codes "while") r ≡ Some k → Same
    unfolding pieces_at
    by_semicolon k e c None h g f = rw (b, f, g, h) refl
    by_semicolon k e c (Some q) h g f = rw (b, f, g, h) refl

    by_condition : (k : List Spelled) (o : Option (Expr × List Spelled)) → condition_at readers n k ≡ o
        → after_keyword (codes "while") r ≡ Some k → Same
    unfolding pieces_at
    by_condition k None g f = rw (b, f, g) refl
    by_condition k (Some x) g f = by_semicolon k x.0 x.1 (after_sign (codes ";") x.1) refl g f

    by_while : (o : Option (List Spelled)) → after_keyword (codes "while") r ≡ o → Same
    unfolding pieces_at
    by_while None f = rw (b, f) refl
    by_while (Some k) f = by_condition k (condition_at readers n k) refl f

    pub do_by_end : row_at readers read block n (codes "do") ts ≡ do_end_at readers n s r
    do_by_end = by_while (after_keyword (codes "while") r) refl

  -- ---- a `switch` behind the `{` of its groups

  abbrev switched : Expr × List Spelled → Option (Stmt × List Spelled)
  switched v = do
    gs ← groups_at readers read n (length v.1) v.1
    Some (Switch v.0 gs.0, gs.1)

  module _ (ts : List Spelled) where
    abbrev Alike : Type 0
    Alike = row_at readers read block n (codes "switch") ts ≡ (switch_front_at readers n ts >>= switched)

    by_groups : (e : Expr) (a q : List Spelled) (o : Option (Groups × List Spelled)) → groups_at readers read n
        (length q) q ≡ o → after_sign (codes "{") a ≡ Some q → condition_at readers n ts ≡ Some (e, a) → Alike
    unfolding pieces_at
    by_groups e a q None h g f = rw (f, g, h) refl
    by_groups e a q (Some x) h g f = rw (f, g, h) refl

    by_brace : (e : Expr) (a : List Spelled) (o : Option (List Spelled)) → after_sign (codes "{") a ≡ o
        → condition_at readers n ts ≡ Some (e, a) → Alike
    unfolding pieces_at
    by_brace e a None g f = rw (f, g) refl
    by_brace e a (Some q) g f = by_groups e a q (groups_at readers read n (length q) q) refl g f

    by_value : (o : Option (Expr × List Spelled)) → condition_at readers n ts ≡ o → Alike
    unfolding pieces_at
    by_value None f = rw f refl
    by_value (Some x) f = by_brace x.0 x.1 (after_sign (codes "{") x.1) refl f

    pub switch_by_front : row_at readers read block n (codes "switch") ts ≡ (switch_front_at readers n ts >>= λ v.
        groups_at readers read n (length v.1) v.1 >>= λ gs. Some (Switch v.0 gs.0, gs.1))
    switch_by_front = by_value (condition_at readers n ts) refl

-- ---- behind a name

abbrev named : (x : List ℕ) → Stmt × List Spelled → Option (Stmt × List Spelled)
named x y = Some (Labelled x y.0, y.1)

body_or_none : (x : List ℕ) (y : Stmt × List Spelled) (b : Bool) → ((if b then Some y else None) >>= named x)
    ≡ (if b then named x y else None)
body_or_none x y true = refl
body_or_none x y false = refl

pub label_by_body : (readers : Readers) (read : Reading Stmt) (x : List ℕ) (s : Stmt) (ts r : List Spelled)
    → read ts ≡ Some (s, r) → labelled_at readers read x ts ≡ labelled_with x s r
label_by_body readers read x s ts r e = rw e (body_or_none x (s, r) (is_body s))

-- ---- from the places of parts to those behind them

pub catch_led : (p : CatchParameterTree) (body : Vec Statement) (here at left : Places)
    → Leads (catch_parameter_places p) here at → Leads (each_puts (map stmt_places body.items)) at left
    → Leads (catch_places (roll-CatchTree (record { parameter = p; body = body }))) here left
catch_led p body here at left first second =
    let parts : Puts = λ rest. catch_parameter_places p (each_puts (map stmt_places body.items) rest) in
    let same : catch_places (roll-CatchTree (record { parameter = p; body = body })) ≡ parts =
    search (rules, the_lemmas) in
    subst (λ (f : Puts). Leads f here left) (sym same) (both_led (catch_parameter_places p)
    (each_puts (map stmt_places body.items)) here at left first second)

pub group_led : (labels : List LabelTree) (body : Vec Statement) (here at left : Places)
    → Leads (each_puts (map label_places labels)) here at → Leads (each_puts (map stmt_places body.items)) at left
    → Leads (group_places (roll-GroupTree (record { labels = labels; body = body }))) here left
group_led labels body here at left first second =
    let parts : Puts = λ rest. each_puts (map label_places labels) (each_puts (map stmt_places body.items) rest) in
    let same : group_places (roll-GroupTree (record { labels = labels; body = body })) ≡ parts =
    search (rules, the_lemmas) in
    subst (λ (f : Puts). Leads f here left) (sym same) (both_led (each_puts (map label_places labels))
    (each_puts (map stmt_places body.items)) here at left first second)
