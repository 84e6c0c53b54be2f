-- A contract of a public call rests on this: reading statements, over readers of expressions, types and initialisers.
-- A number that is handed down is the nesting that is left.
use Rattle.std.specs.Prelude.{ℕ, zero, suc, Bool, true, false, List, [], ◌∷◌, length, Option, Some, None, codes}
use Rattle.std.specs.Prelude.{if◌then◌else◌, is_some, ◌||◌}
use Rattle.java_tree.specs.declared.words.Spelled.{Spelled}
use Rattle.java_tree.specs.Operators.{assignment_level, conditional_level}
use Rattle.java_tree.specs.Trees.{Modifier, LocalClass}
use Rattle.java_tree.specs.Trees.{Ty, Expr, pack_exprs, Variable, Locals, Start, Declares, Runs, Resource}
use Rattle.java_tree.specs.Trees.{Resources, CatchParameter, Label, Case, Default, Stmt, Block, Local, Run, If}
use Rattle.java_tree.specs.Trees.{IfElse, For, ForEach, Labelled, Empty, Stmts, pack_stmts, Row, Pieces, no_piece}
use Rattle.java_tree.specs.Trees.{a_token, an_expr, maybe_an_expr, maybe_a_name, maybe_behind, a_condition, a_body}
use Rattle.java_tree.specs.Trees.{a_block, maybe_resources, a_catch_parameter, a_list, present, absent, some_part}
use Rattle.java_tree.specs.Trees.{a_switch, Several, no_row, row_then, Groups, no_group, group_then}
use Rattle.java_tree.specs.Words.{keyword, identifier, sign}
use Rattle.java_tree.specs.Rows.{AKeyword, ASign, AnExpr, Until, MaybeName, MaybeBehind, ACondition, ABody, ABlock}
use Rattle.java_tree.specs.Rows.{ASwitch, MaybeResources, ACatchParameter, Again, Perhaps, SomePart, Slots, no_slot}
use Rattle.java_tree.specs.Rows.{◌▹◌, row_of}
use Rattle.java_tree.specs.FormedModifiers.{has_some}
use Rattle.java_tree.specs.Formed.{is_named, is_run, is_body, some_stands}
use Rattle.java_parser_grammar.specs.BalancedReading.{Reading}
use Rattle.java_parser_grammar.specs.Taking.{◌>>=◌, match_option, after_sign, after_keyword, after_name, commas}
use Rattle.java_parser_grammar.specs.Readers.{Readers}
use Rattle.java_parser_grammar.specs.Leads.{begins_with}
use Rattle.java_parser_grammar.specs.BalancedReading.{between_at, before_type_at}
use Rattle.java_parser_grammar.specs.TypeReading.{brackets_at, between_each}
use Rattle.java_tree.specs.Brackets.{is_sign, is_class_word, are_none, awaited_in_head}
use Rattle.java_parser_grammar.specs.Lookahead.{looks_local, name_and_colon, StatementLead, Semicolon}
use Rattle.java_parser_grammar.specs.Lookahead.{Brace, IfWord, ForWord, RowWord, LabelWord, ClassWord, Other}
use Rattle.java_parser_grammar.specs.Lookahead.{statement_lead}

-- one, and each behind a comma
abbrev pub comma_list : {A : Type 0} → Reading A → Reading (List A)
comma_list read ts = do
  first ← read ts
  others ← commas read (length first.1) first.1
  Some (first.0 ∷ others.0, others.1)

-- ---- local classes (JLS 14.3)

-- the tokens of a local class from behind its name on, where these closing brackets are awaited
unfoldable pub class_from : List (List ℕ) → Reading (List Spelled)
class_from awaited [] = None
class_from awaited (t ∷ ts) =
    if is_sign (codes "{") t then (if are_none awaited then between_at (codes "}") (t ∷ ts) else None) else (do
      more ← awaited_in_head t awaited
      others ← class_from more ts
      Some (t ∷ others.0, others.1))

-- its name and its tokens
unfoldable pub local_class_at : Reading (List ℕ × List Spelled)
local_class_at [] = None
local_class_at (t ∷ ts) =
    if is_class_word t then (do
      c ← local_class_at ts
      Some ((c.0.0, t ∷ c.0.1), c.1))
    else (do
      r ← after_keyword (codes "class") (t ∷ ts)
      x ← after_name r
      others ← class_from [] x.1
      Some ((x.0, keyword (codes "class") ∷ identifier x.0 ∷ others.0), others.1))

module _ (readers : Readers) where
  -- ---- variables

  unfoldable pub variable_at : ℕ → Reading Variable
  variable_at n ts = do
    x ← after_name ts
    let m = brackets_at (length x.1) x.1
    match_option (after_sign (codes "=") m.1) (Some (record { name = x.0; arrays = m.0; initialiser = None }, m.1))
        (λ r. do
          i ← readers.init n r
          Some (record { name = x.0; arrays = m.0; initialiser = Some i.0 }, i.1))

  -- the variables of a declaration, behind its type
  unfoldable pub variables_at : ℕ → List Modifier → Ty → Reading Locals
  variables_at n ms kind ts = do
    vs ← comma_list (variable_at n) ts
    Some (record { modifiers = ms; kind = kind; variables = vs.0 }, vs.1)

  -- a declaration without its `;`
  unfoldable pub locals_at : ℕ → Reading Locals
  locals_at n ts = do
    ms ← before_type_at ts
    t ← readers.ty n ms.1
    variables_at n ms.0 t.0 t.1

  -- ---- expressions in statements

  -- `( E )`
  unfoldable pub condition_at : ℕ → Reading Expr
  condition_at n ts = do
    r ← after_sign (codes "(") ts
    e ← readers.expr n assignment_level r
    s ← after_sign (codes ")") e.1
    Some (e.0, s)

  -- an expression, where the sign that ends it does not stand here
  abbrev pub expr_until : ℕ → List ℕ → Reading (Option Expr)
  expr_until n end ts = if begins_with end ts then Some (None, ts) else do
    e ← readers.expr n assignment_level ts
    Some (Some e.0, e.1)

  -- an expression that is run for what it does
  abbrev pub run_at : ℕ → Reading Expr
  run_at n ts = do
    e ← readers.expr n assignment_level ts
    if is_run e.0 then Some e else None

  -- such expressions with commas between them, where the sign that ends them does not stand here
  abbrev pub runs_until : ℕ → List ℕ → Reading (List Expr)
  runs_until n end ts = if begins_with end ts then Some ([], ts) else comma_list (run_at n) ts

  -- ---- the forms of statements, over a reader of those inside

  -- a statement that is no declaration
  abbrev pub body_at : Reading Stmt → Reading Stmt
  body_at read ts = do
    s ← read ts
    if is_body s.0 then Some s else None

  -- statements and the `}` behind them
  unfoldable pub stmts_at : Reading Stmt → ℕ → Reading (List Stmt)
  stmts_at read zero ts = None
  stmts_at read (suc m) ts = match_option (after_sign (codes "}") ts) (do
    s ← read ts
    ss ← stmts_at read m s.1
    Some (s.0 ∷ ss.0, ss.1)) (λ r. Some ([], r))

  -- the same behind a `{`
  abbrev pub braces_at : Reading Stmt → Reading Stmts
  braces_at read ts = do
    ss ← stmts_at read (length ts) ts
    Some (pack_stmts ss.0, ss.1)

  unfoldable pub if_at : Reading Stmt → ℕ → Reading Stmt
  if_at read n ts = do
    e ← condition_at n ts
    s ← body_at read e.1
    match_option (after_keyword (codes "else") s.1) (Some (If e.0 s.0, s.1)) (λ r. do
      t ← body_at read r
      Some (IfElse e.0 s.0 t.0, t.1))

  -- a `for` from its first `;` on
  unfoldable pub for_from : Reading Stmt → ℕ → Start → Reading Stmt
  for_from read n start ts = do
    a ← after_sign (codes ";") ts
    condition ← expr_until n (codes ";") a
    b ← after_sign (codes ";") condition.1
    updates ← runs_until n (codes ")") b
    c ← after_sign (codes ")") updates.1
    s ← body_at read c
    Some (For start condition.0 (pack_exprs updates.0) s.0, s.1)

  -- a `for` over the elements of something, from behind its `:`
  unfoldable pub each_from : Reading Stmt → ℕ → List Modifier → Ty → List ℕ → Reading Stmt
  each_from read n ms t x ts = do
    e ← readers.expr n assignment_level ts
    r ← after_sign (codes ")") e.1
    s ← body_at read r
    Some (ForEach ms t x e.0 s.0, s.1)

  abbrev pub for_declared : Reading Stmt → ℕ → List Modifier → Ty → Reading Stmt
  for_declared read n ms t ts = match_option (name_and_colon ts) (do
    l ← variables_at n ms t ts
    for_from read n (Declares l.0) l.1) (λ x. each_from read n ms t x.0 x.1)

  -- a `for` whose head begins with a declaration
  unfoldable pub for_typed : Reading Stmt → ℕ → Reading Stmt
  for_typed read n ts = do
    ms ← before_type_at ts
    t ← readers.ty n ms.1
    for_declared read n ms.0 t.0 t.1

  -- a `for` whose head begins with expressions or with nothing
  unfoldable pub for_run : Reading Stmt → ℕ → Reading Stmt
  for_run read n ts = do
    es ← runs_until n (codes ";") ts
    for_from read n (Runs (pack_exprs es.0)) es.1

  -- behind `for`
  unfoldable pub for_at : Reading Stmt → ℕ → Reading Stmt
  for_at read n ts = do
    r ← after_sign (codes "(") ts
    if looks_local r then for_typed read n r else for_run read n r

  -- a declaration and the `;`
  unfoldable pub local_at : ℕ → Reading Stmt
  local_at n ts = do
    l ← locals_at n ts
    r ← after_sign (codes ";") l.1
    Some (Local l.0, r)

  -- an expression and the `;`
  unfoldable pub run_line_at : ℕ → Reading Stmt
  run_line_at n ts = do
    e ← run_at n ts
    r ← after_sign (codes ";") e.1
    Some (Run e.0, r)

  abbrev pub simple_at : ℕ → Reading Stmt
  simple_at n ts = if looks_local ts then local_at n ts else run_line_at n ts

  -- ---- rows

  -- a name, where one stands here
  abbrev pub maybe_name_at : Reading (Option (List ℕ))
  maybe_name_at ts = match_option (after_name ts) (Some (None, ts)) (λ x. Some (Some x.0, x.1))

  -- an expression behind this sign, where it stands here
  abbrev pub maybe_behind_at : ℕ → (text : List ℕ) → Reading (Option Expr)
  maybe_behind_at n text ts = match_option (after_sign text ts) (Some (None, ts)) (λ r. do
    e ← readers.expr n assignment_level r
    Some (Some e.0, e.1))

  unfoldable pub resource_at : ℕ → Reading Resource
  resource_at n ts = do
    ms ← before_type_at ts
    t ← readers.ty n ms.1
    x ← after_name t.1
    r ← after_sign (codes "=") x.1
    e ← readers.expr n assignment_level r
    Some (record { modifiers = ms.0; kind = t.0; name = x.0; value = e.0 }, e.1)

  -- what stands behind a resource, with its `)`: more resources, each behind a `;`, and whether a last `;` stands
  unfoldable pub more_resources_at : ℕ → ℕ → Reading (List Resource × Bool)
  more_resources_at n zero ts = None
  more_resources_at n (suc m) ts = match_option (after_sign (codes ")") ts) (do
    r ← after_sign (codes ";") ts
    match_option (after_sign (codes ")") r) (do
      first ← resource_at n r
      others ← more_resources_at n m first.1
      Some ((first.0 ∷ others.0.0, others.0.1), others.1)) (λ s. Some (([], true), s))) (λ s. Some (([], false), s))

  -- resources in parentheses, where a `(` stands here
  abbrev pub maybe_resources_at : ℕ → Reading (Option Resources)
  maybe_resources_at n ts = match_option (after_sign (codes "(") ts) (Some (None, ts)) (λ r. do
    first ← resource_at n r
    others ← more_resources_at n (suc (length first.1)) first.1
    Some (Some (record { items = first.0 ∷ others.0.0; last = others.0.1 }), others.1))

  -- a type that is not primitive
  abbrev pub named_at : ℕ → Reading Ty
  named_at n ts = do
    t ← readers.ty n ts
    if is_named t.0 then Some t else None

  -- the parameter of a `catch`, in parentheses
  unfoldable pub catch_parameter_at : ℕ → Reading CatchParameter
  catch_parameter_at n ts = do
    r ← after_sign (codes "(") ts
    ms ← before_type_at r
    types ← between_each (codes "|") (named_at n) ms.1
    x ← after_name types.1
    s ← after_sign (codes ")") x.1
    Some (record { modifiers = ms.0; types = types.0; name = x.0 }, s)

  -- whether a label stands here
  abbrev pub begins_label : List Spelled → Bool
  begins_label ts = is_some (after_keyword (codes "case") ts) || is_some (after_keyword (codes "default") ts)

  unfoldable pub label_at : ℕ → Reading Label
  label_at n ts = match_option (after_keyword (codes "case") ts) (do
    r ← after_keyword (codes "default") ts
    c ← after_sign (codes ":") r
    Some (Default, c)) (λ r. do
      e ← readers.expr n conditional_level r
      c ← after_sign (codes ":") e.1
      Some (Case e.0, c))

  -- labels, as long as one stands here, at most m times
  unfoldable pub labels_at : ℕ → ℕ → Reading (List Label)
  labels_at n zero ts = Some ([], ts)
  labels_at n (suc m) ts = if begins_label ts then (do
    l ← label_at n ts
    ls ← labels_at n m l.1
    Some (l.0 ∷ ls.0, ls.1)) else Some ([], ts)

  -- statements, until a label or a `}` stands here
  unfoldable pub group_stmts_at : Reading Stmt → ℕ → Reading (List Stmt)
  group_stmts_at read zero ts = None
  group_stmts_at read (suc m) ts = if begins_label ts || is_some (after_sign (codes "}") ts) then Some ([], ts) else (do
    s ← read ts
    ss ← group_stmts_at read m s.1
    Some (s.0 ∷ ss.0, ss.1))

  -- groups of statements behind their labels, and the `}` behind them
  unfoldable pub groups_at : Reading Stmt → ℕ → ℕ → Reading Groups
  groups_at read n zero ts = None
  groups_at read n (suc m) ts = match_option (after_sign (codes "}") ts) (do
    ls ← labels_at n (length ts) ts
    if has_some ls.0 then (do
      ss ← group_stmts_at read (suc (length ls.1)) ls.1
      gs ← groups_at read n m ss.1
      Some (group_then ls.0 (pack_stmts ss.0) gs.0, gs.1)) else None) (λ r. Some (no_group, r))

  -- the same behind a `{`
  abbrev pub switch_at : Reading Stmt → ℕ → Reading Groups
  switch_at read n ts = do
    r ← after_sign (codes "{") ts
    groups_at read n (length r) r

  -- rows, each behind this keyword, fewer than m
  unfoldable pub again_at : Reading Pieces → (word : List ℕ) → ℕ → Reading Several
  again_at one word zero ts = None
  again_at one word (suc m) ts = match_option (after_keyword word ts) (Some (no_row, ts)) (λ r. do
    ps ← one r
    more ← again_at one word m ps.1
    Some (row_then ps.0 more.0, more.1))

  -- what stands behind the keyword of a row
  unfoldable pub pieces_at : Reading Stmt → Reading Stmts → ℕ → Slots → Reading Pieces
  pieces_at read block n no_slot ts = Some (no_piece, ts)
  pieces_at read block n (AKeyword text ▹ row) ts = do
    r ← after_keyword text ts
    ps ← pieces_at read block n row r
    Some (a_token (keyword text) ps.0, ps.1)
  pieces_at read block n (ASign text ▹ row) ts = do
    r ← after_sign text ts
    ps ← pieces_at read block n row r
    Some (a_token (sign text) ps.0, ps.1)
  pieces_at read block n (AnExpr ▹ row) ts = do
    e ← readers.expr n assignment_level ts
    ps ← pieces_at read block n row e.1
    Some (an_expr e.0 ps.0, ps.1)
  pieces_at read block n (Until end ▹ row) ts = do
    e ← expr_until n end ts
    ps ← pieces_at read block n row e.1
    Some (maybe_an_expr e.0 ps.0, ps.1)
  pieces_at read block n (ACondition ▹ row) ts = do
    e ← condition_at n ts
    ps ← pieces_at read block n row e.1
    Some (a_condition e.0 ps.0, ps.1)
  pieces_at read block n (ABody ▹ row) ts = do
    s ← body_at read ts
    ps ← pieces_at read block n row s.1
    Some (a_body s.0 ps.0, ps.1)
  pieces_at read block n (ABlock ▹ row) ts = do
    ss ← block ts
    ps ← pieces_at read block n row ss.1
    Some (a_block ss.0 ps.0, ps.1)
  pieces_at read block n (MaybeName ▹ row) ts = do
    x ← maybe_name_at ts
    ps ← pieces_at read block n row x.1
    Some (maybe_a_name x.0 ps.0, ps.1)
  pieces_at read block n (MaybeBehind text ▹ row) ts = do
    e ← maybe_behind_at n text ts
    ps ← pieces_at read block n row e.1
    Some (maybe_behind text e.0 ps.0, ps.1)
  pieces_at read block n (ASwitch ▹ row) ts = do
    gs ← switch_at read n ts
    ps ← pieces_at read block n row gs.1
    Some (a_switch gs.0 ps.0, ps.1)
  pieces_at read block n (MaybeResources ▹ row) ts = do
    rs ← maybe_resources_at n ts
    ps ← pieces_at read block n row rs.1
    Some (maybe_resources rs.0 ps.0, ps.1)
  pieces_at read block n (ACatchParameter ▹ row) ts = do
    p ← catch_parameter_at n ts
    ps ← pieces_at read block n row p.1
    Some (a_catch_parameter p.0 ps.0, ps.1)
  pieces_at read block n (Perhaps word sub ▹ row) ts = match_option (after_keyword word ts) (do
    ps ← pieces_at read block n row ts
    Some (absent word ps.0, ps.1)) (λ r. do
      one ← pieces_at read block n sub r
      ps ← pieces_at read block n row one.1
      Some (present word one.0 ps.0, ps.1))
  pieces_at read block n (SomePart ▹ row) ts = do
    ps ← pieces_at read block n row ts
    if some_stands ps.0 then Some (some_part ps.0, ps.1) else None
  pieces_at read block n (Again word sub ▹ row) ts = do
    several ← again_at (pieces_at read block n sub) word (suc (length ts)) ts
    ps ← pieces_at read block n row several.1
    Some (a_list word several.0 ps.0, ps.1)

  -- behind this keyword
  abbrev pub row_at : Reading Stmt → Reading Stmts → ℕ → (word : List ℕ) → Reading Stmt
  row_at read block n word ts = do
    ps ← pieces_at read block n (row_of word) ts
    Some (Row word ps.0, ps.1)

  -- ---- statements

  abbrev pub by_lead : Reading Stmt → Reading Stmts → ℕ → StatementLead → Reading Stmt
  by_lead read block n (Semicolon r) ts = Some (Empty, r)
  by_lead read block n (Brace r) ts = do
    ss ← braces_at read r
    Some (Block ss.0, ss.1)
  by_lead read block n (IfWord r) ts = if_at read n r
  by_lead read block n (ForWord r) ts = for_at read n r
  by_lead read block n (RowWord word r) ts = row_at read block n word r
  by_lead read block n (LabelWord x r) ts = do
    s ← body_at read r
    Some (Labelled x s.0, s.1)
  by_lead read block n (ClassWord r) ts = do
    c ← local_class_at r
    Some (LocalClass c.0.0 c.0.1, c.1)
  by_lead read block n Other ts = simple_at n ts

  unfoldable mutual
    pub stmt_at : ℕ → Reading Stmt
    stmt_at zero ts = None
    stmt_at (suc n) ts = by_lead (stmt_at n) (block_at n) n (statement_lead ts) ts

    -- a block, which is a statement
    pub block_at : ℕ → Reading Stmts
    block_at zero ts = None
    block_at (suc n) ts = do
      r ← after_sign (codes "{") ts
      braces_at (stmt_at n) r
