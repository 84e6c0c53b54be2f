-- The statements of rows: what the code makes of the parts of a row, how that is seen, and which places it keeps.
use Rattle.std.proofs.Common.{◌≡◌, ℕ, ◌+◌, ◌<◌, ◌≤◌, Bool, true, false, ◌&&◌, cond, List, [], ◌∷◌, Option, Some, None}
use Rattle.std.proofs.Common.{map, length, refl, sym, ap, ◌∙◌, subst, codes, IsTrue, not, arith}
use Rattle.std.specs.Prelude.{bytes_eq, option_map}
use Rattle.std.specs.Cmp.Lexicographic.{bytes_decides}
use Rattle.std.specs.Global.{Vec}
use Rattle.std.proofs.lemmas.Bool.{and_parts}
use Rattle.racer_base.specs.declared.ids.Place.{Place}
use Rattle.java_lexer.specs.declared.token.TokenKind.TheVariants as kind
use Rattle.java_tree.specs.declared.words.Ident.{Ident}
use Rattle.java_tree.specs.declared.expressions.Expression.{Expression}
use Rattle.java_tree.specs.declared.statements.ResourcesTree.{ResourcesTree}
use Rattle.java_tree.specs.declared.statements.CatchParameterTree.{CatchParameterTree}
use Rattle.java_tree.specs.declared.statements.Statement.{Statement, roll-Statement}
use Rattle.java_tree.specs.declared.statements.Statement.TheOpen as statement
use Rattle.java_tree.specs.declared.statements.TryTree.{roll-TryTree}
use Rattle.java_tree.specs.declared.statements.CatchTree.{CatchTree}
use Rattle.java_tree.specs.declared.statements.GroupTree.{GroupTree}
use Rattle.java_tree.specs.Words.{keyword, sign}
use Rattle.java_tree.specs.KeptPlaces.{Marks, Puts, is_kept, each_puts, maybe_puts, name_places, expr_places}
use Rattle.java_tree.specs.KeptPlaces.{resources_places, catch_parameter_places, stmt_places, catch_places}
use Rattle.java_tree.specs.KeptPlaces.{group_places}
use Rattle.java_tree.specs.Trees.{Row, Pieces, no_piece, a_token, an_expr, maybe_an_expr, maybe_a_name, maybe_behind}
use Rattle.java_tree.specs.Trees.{a_condition, a_body, a_block, maybe_resources, a_catch_parameter, a_list, some_part}
use Rattle.java_tree.specs.Trees.{a_switch, Several, no_row, row_then, pack_stmts}
use Rattle.java_tree.specs.Rows.{AKeyword, ASign, AnExpr, Until, MaybeName, MaybeBehind, ACondition, ABody, ABlock}
use Rattle.java_tree.specs.Rows.{ASwitch, MaybeResources, ACatchParameter, Again, Perhaps, SomePart, Slots, no_slot}
use Rattle.java_tree.specs.Rows.{◌▹◌, perhaps, rows, has_row, find_row, is_row, row_of, do_row, throw_row, while_row}
use Rattle.java_tree.specs.Rows.{return_row, sync_row, break_row, continue_row, assert_row, switch_row, catch_row}
use Rattle.java_tree.specs.Rows.{finally_row, try_row, Sync, Switch, Try}
use Rattle.java_tree.specs.View.{name_of, expr_of, resources_of, catch_parameter_of, stmt_of, catch_of, group_of}
use Rattle.java_tree.specs.View.{Finally, pack_rows, pack_groups}
use Rattle.java_parser_totality.specs.Totality.{most}
use Rattle.java_parser_totality.proofs.Vectors.{boxed, vector, vector-items}
use Rattle.java_parser_totality.proofs.StatementForms.{view-of, places-of, a_clause, clause-is, clause-at, try-view}
use Rattle.java_parser_totality.proofs.StatementForms.{try-places}

-- ---- the parts of a row

abbrev pub all_seen : {A : Type 0} → (A → Pieces) → List A → Several
all_seen see [] = no_row
all_seen see (x ∷ xs) = row_then (see x) (all_seen see xs)

abbrev pub all_count : {A : Type 0} → (A → ℕ) → List A → ℕ
all_count count [] = 0
all_count count (x ∷ xs) = 1 + (count x + all_count count xs)

abbrev pub maybe_count : {A : Type 0} → (A → ℕ) → Option A → ℕ
maybe_count count None = 0
maybe_count count (Some x) = count x

abbrev pub Values : Slots → Type 0
Values no_slot = Unit {0}
Values (AKeyword text ▹ row) = Values row
Values (ASign text ▹ row) = Values row
Values (AnExpr ▹ row) = Expression × Values row
Values (Until end ▹ row) = Option Expression × Values row
Values (MaybeName ▹ row) = Option Ident × Values row
Values (MaybeBehind text ▹ row) = Option Expression × Values row
Values (ACondition ▹ row) = Expression × Values row
Values (ABody ▹ row) = Statement × Values row
Values (ABlock ▹ row) = List Statement × Values row
Values (ASwitch ▹ row) = List GroupTree × Values row
Values (MaybeResources ▹ row) = Option ResourcesTree × Values row
Values (ACatchParameter ▹ row) = CatchParameterTree × Values row
Values (Again word sub ▹ row) = List (Values sub) × Values row
Values (Perhaps word sub ▹ row) = Option (Values sub) × Values row
Values (SomePart ▹ row) = Values row

abbrev pub seen : (row : Slots) → Values row → Pieces
seen no_slot x = no_piece
seen (AKeyword text ▹ row) x = a_token (keyword text) (seen row x)
seen (ASign text ▹ row) x = a_token (sign text) (seen row x)
seen (AnExpr ▹ row) x = an_expr (expr_of x.0) (seen row x.1)
seen (Until end ▹ row) x = maybe_an_expr (option_map expr_of x.0) (seen row x.1)
seen (MaybeName ▹ row) x = maybe_a_name (option_map name_of x.0) (seen row x.1)
seen (MaybeBehind text ▹ row) x = maybe_behind text (option_map expr_of x.0) (seen row x.1)
seen (ACondition ▹ row) x = a_condition (expr_of x.0) (seen row x.1)
seen (ABody ▹ row) x = a_body (stmt_of x.0) (seen row x.1)
seen (ABlock ▹ row) x = a_block (pack_stmts (map stmt_of x.0)) (seen row x.1)
seen (ASwitch ▹ row) x = a_switch (pack_groups (map group_of x.0)) (seen row x.1)
seen (MaybeResources ▹ row) x = maybe_resources (option_map resources_of x.0) (seen row x.1)
seen (ACatchParameter ▹ row) x = a_catch_parameter (catch_parameter_of x.0) (seen row x.1)
seen (Again word sub ▹ row) x = a_list word (all_seen (seen sub) x.0) (seen row x.1)
seen (Perhaps word sub ▹ row) x = perhaps word (option_map (seen sub) x.0) (seen row x.1)
seen (SomePart ▹ row) x = some_part (seen row x)

abbrev pub kept_of : (row : Slots) → Values row → Puts
kept_of no_slot x ps = ps
kept_of (AKeyword text ▹ row) x ps = kept_of row x ps
kept_of (ASign text ▹ row) x ps = kept_of row x ps
kept_of (AnExpr ▹ row) x ps = expr_places x.0 (kept_of row x.1 ps)
kept_of (Until end ▹ row) x ps = maybe_puts (option_map expr_places x.0) (kept_of row x.1 ps)
kept_of (MaybeName ▹ row) x ps = maybe_puts (option_map name_places x.0) (kept_of row x.1 ps)
kept_of (MaybeBehind text ▹ row) x ps = maybe_puts (option_map expr_places x.0) (kept_of row x.1 ps)
kept_of (ACondition ▹ row) x ps = expr_places x.0 (kept_of row x.1 ps)
kept_of (ABody ▹ row) x ps = stmt_places x.0 (kept_of row x.1 ps)
kept_of (ABlock ▹ row) x ps = each_puts (map stmt_places x.0) (kept_of row x.1 ps)
kept_of (ASwitch ▹ row) x ps = each_puts (map group_places x.0) (kept_of row x.1 ps)
kept_of (MaybeResources ▹ row) x ps = maybe_puts (option_map resources_places x.0) (kept_of row x.1 ps)
kept_of (ACatchParameter ▹ row) x ps = catch_parameter_places x.0 (kept_of row x.1 ps)
kept_of (Again word sub ▹ row) x ps = each_puts (map (kept_of sub) x.0) (kept_of row x.1 ps)
kept_of (Perhaps word sub ▹ row) x ps = maybe_puts (option_map (kept_of sub) x.0) (kept_of row x.1 ps)
kept_of (SomePart ▹ row) x ps = kept_of row x ps

-- how many elements lists in it have
abbrev pub count_of : (row : Slots) → Values row → ℕ
count_of no_slot x = 0
count_of (AKeyword text ▹ row) x = count_of row x
count_of (ASign text ▹ row) x = count_of row x
count_of (AnExpr ▹ row) x = count_of row x.1
count_of (Until end ▹ row) x = count_of row x.1
count_of (MaybeName ▹ row) x = count_of row x.1
count_of (MaybeBehind text ▹ row) x = count_of row x.1
count_of (ACondition ▹ row) x = count_of row x.1
count_of (ABody ▹ row) x = count_of row x.1
count_of (ABlock ▹ row) x = length x.0 + count_of row x.1
count_of (ASwitch ▹ row) x = length x.0 + count_of row x.1
count_of (MaybeResources ▹ row) x = count_of row x.1
count_of (ACatchParameter ▹ row) x = count_of row x.1
count_of (Again word sub ▹ row) x = all_count (count_of sub) x.0 + count_of row x.1
count_of (Perhaps word sub ▹ row) x = maybe_count (count_of sub) x.0 + count_of row x.1
count_of (SomePart ▹ row) x = count_of row x

-- ---- the place of the keyword, where it is kept

abbrev pub PlaceIf : Bool → Type 0
PlaceIf true = Place
PlaceIf false = Unit {0}

abbrev pub place_if : (b : Bool) → PlaceIf b → Puts
place_if true p ps = Some p ∷ ps
place_if false p ps = ps

abbrev pub PlaceOf : List ℕ → Type 0
PlaceOf word = PlaceIf (is_kept kind.Keyword word)

abbrev pub place_of : (word : List ℕ) → PlaceOf word → Puts
place_of word = place_if (is_kept kind.Keyword word)

-- ---- statements of the code

pub record Builds (word : List ℕ) (row : Slots) : Type 0 where
  pub make : PlaceOf word → Values row → Statement
  pub is : (p : PlaceOf word) (x : Values row) → count_of row x < most → stmt_of (make p x) ≡ Row word (seen row x)
  pub at : (p : PlaceOf word) (x : Values row) → count_of row x < most → (ps : Marks)
      → stmt_places (make p x) ps ≡ place_of word p (kept_of row x ps)

while-builds : Builds (codes "while") while_row
while-builds = record {
  make = λ p x. roll-Statement (statement.While x.0 (boxed x.1.0));
  is = λ p x few. view-of (statement.While x.0 (boxed x.1.0));
  at = λ p x few ps. ap (λ (g : Puts). g ps) (places-of (statement.While x.0 (boxed x.1.0)));
}

do-builds : Builds (codes "do") do_row
do-builds = record {
  make = λ p x. roll-Statement (statement.Do (boxed x.0) x.1.0);
  is = λ p x few. view-of (statement.Do (boxed x.0) x.1.0);
  at = λ p x few ps. ap (λ (g : Puts). g ps) (places-of (statement.Do (boxed x.0) x.1.0));
}

return-builds : Builds (codes "return") return_row
return-builds = record {
  make = λ p x. roll-Statement (statement.Return x.0);
  is = λ p x few. view-of (statement.Return x.0);
  at = λ p x few ps. ap (λ (g : Puts). g ps) (places-of (statement.Return x.0));
}

break-builds : Builds (codes "break") break_row
break-builds = record {
  make = λ p x. roll-Statement (statement.Break x.0);
  is = λ p x few. view-of (statement.Break x.0);
  at = λ p x few ps. ap (λ (g : Puts). g ps) (places-of (statement.Break x.0));
}

continue-builds : Builds (codes "continue") continue_row
continue-builds = record {
  make = λ p x. roll-Statement (statement.Continue x.0);
  is = λ p x few. view-of (statement.Continue x.0);
  at = λ p x few ps. ap (λ (g : Puts). g ps) (places-of (statement.Continue x.0));
}

throw-builds : Builds (codes "throw") throw_row
throw-builds = record {
  make = λ p x. roll-Statement (statement.Throw p x.0);
  is = λ p x few. view-of (statement.Throw p x.0);
  at = λ p x few ps. ap (λ (g : Puts). g ps) (places-of (statement.Throw p x.0));
}

sync-builds : Builds (codes "synchronized") sync_row
sync-builds = record {
  make = λ p x. roll-Statement (statement.Sync p x.0 (vector x.1.0));
  is = λ p x few. view-of (statement.Sync p x.0 (vector x.1.0))
      ∙ ap (λ (l : List Statement). Sync (expr_of x.0) (pack_stmts (map stmt_of l)))
      (vector-items x.1.0 (omega (arith, few)));
  at = λ p x few ps. ap (λ (g : Puts). g ps) (places-of (statement.Sync p x.0 (vector x.1.0)))
      ∙ ap (λ (l : List Statement). Some p ∷ expr_places x.0 (each_puts (map stmt_places l) ps))
      (vector-items x.1.0 (omega (arith, few)));
}

switch-builds : Builds (codes "switch") switch_row
switch-builds = record {
  make = λ p x. roll-Statement (statement.Switch x.0 (vector x.1.0));
  is = λ p x few. view-of (statement.Switch x.0 (vector x.1.0))
      ∙ ap (λ (l : List GroupTree). Switch (expr_of x.0) (pack_groups (map group_of l)))
      (vector-items x.1.0 (omega (arith, few)));
  at = λ p x few ps. ap (λ (g : Puts). g ps) (places-of (statement.Switch x.0 (vector x.1.0)))
      ∙ ap (λ (l : List GroupTree). expr_places x.0 (each_puts (map group_places l) ps))
      (vector-items x.1.0 (omega (arith, few)));
}

assert-builds : Builds (codes "assert") assert_row
assert-builds = record {
  make = λ p x. roll-Statement (statement.Assert x.0 x.1.0);
  is = λ p x few. view-of (statement.Assert x.0 x.1.0);
  at = λ p x few ps. ap (λ (g : Puts). g ps) (places-of (statement.Assert x.0 x.1.0));
}

-- ---- `try`

abbrev clause_of : Values catch_row → CatchTree
clause_of x = a_clause x.0 x.1.0

clauses-are : (xs : List (Values catch_row)) → all_count (count_of catch_row) xs < most
    → pack_rows (map catch_of (map clause_of xs)) ≡ all_seen (seen catch_row) xs
clauses-are [] few = refl
clauses-are (x ∷ xs) few =
    ap (λ (c : Pieces). row_then c (pack_rows (map catch_of (map clause_of xs))))
    (clause-is x.0 x.1.0 (omega (arith, few)))
    ∙ ap (row_then (seen catch_row x)) (clauses-are xs (omega (arith, few)))

clauses-at : (xs : List (Values catch_row)) → all_count (count_of catch_row) xs < most → (ps : Marks)
    → each_puts (map catch_places (map clause_of xs)) ps ≡ each_puts (map (kept_of catch_row) xs) ps
clauses-at [] few ps = refl
clauses-at (x ∷ xs) few ps =
    clause-at x.0 x.1.0 (omega (arith, few)) (each_puts (map catch_places (map clause_of xs)) ps)
    ∙ ap (kept_of catch_row x) (clauses-at xs (omega (arith, few)) ps)

clauses-few : (xs : List (Values catch_row)) → all_count (count_of catch_row) xs < most
    → length (map clause_of xs) < most
clauses-few xs few = omega (arith, few, fewer xs) where
  fewer : (xs : List (Values catch_row)) → length (map clause_of xs) ≤ all_count (count_of catch_row) xs
  fewer [] = omega arith
  fewer (x ∷ xs) = omega (arith, fewer xs)

abbrev last_of : Option (Values finally_row) → Option (Vec Statement)
last_of = option_map (λ x. vector x.0)

last-is : (o : Option (Values finally_row)) → maybe_count (count_of finally_row) o < most
    → option_map (λ ss. Finally (pack_stmts (map stmt_of ss.items))) (last_of o) ≡ option_map (seen finally_row) o
last-is None few = refl
last-is (Some x) few =
    ap (λ (l : List Statement). Some (Finally (pack_stmts (map stmt_of l)))) (vector-items x.0 (omega (arith, few)))

last-at : (o : Option (Values finally_row)) → maybe_count (count_of finally_row) o < most → (ps : Marks)
    → maybe_puts (option_map (λ ss. each_puts (map stmt_places ss.items)) (last_of o)) ps
    ≡ maybe_puts (option_map (kept_of finally_row) o) ps
last-at None few ps = refl
last-at (Some x) few ps =
    ap (λ (l : List Statement). each_puts (map stmt_places l) ps) (vector-items x.0 (omega (arith, few)))

-- resources, the block, the clauses and the last block
abbrev a_try : Option ResourcesTree → List Statement → List (Values catch_row) → Option (Values finally_row)
    → Statement
a_try rs body clauses last =
    roll-Statement (statement.Try (boxed (roll-TryTree (record {
      resources = rs;
      body = vector body;
      clauses = vector (map clause_of clauses);
      finally = last_of last;
    }))))

try-is : (rs : Option ResourcesTree) (body : List Statement) (clauses : List (Values catch_row))
    (last : Option (Values finally_row)) → length body < most → all_count (count_of catch_row) clauses < most
    → maybe_count (count_of finally_row) last < most
    → stmt_of (a_try rs body clauses last) ≡ Try (option_map resources_of rs) (pack_stmts (map stmt_of body))
    (all_seen (seen catch_row) clauses) (option_map (seen finally_row) last)
try-is rs body clauses last b c l =
    try-view rs (vector body) (vector (map clause_of clauses)) (last_of last)
    ∙ ap (λ (ss : List Statement). Try (option_map resources_of rs) (pack_stmts (map stmt_of ss))
    (pack_rows (map catch_of (vector (map clause_of clauses)).items))
    (option_map (λ ss. Finally (pack_stmts (map stmt_of ss.items))) (last_of last))) (vector-items body b)
    ∙ ap (λ (cs : List CatchTree). Try (option_map resources_of rs) (pack_stmts (map stmt_of body))
    (pack_rows (map catch_of cs))
    (option_map (λ ss. Finally (pack_stmts (map stmt_of ss.items))) (last_of last)))
    (vector-items (map clause_of clauses) (clauses-few clauses c))
    ∙ ap (λ (cs : Several). Try (option_map resources_of rs) (pack_stmts (map stmt_of body)) cs
    (option_map (λ ss. Finally (pack_stmts (map stmt_of ss.items))) (last_of last))) (clauses-are clauses c)
    ∙ ap (Try (option_map resources_of rs) (pack_stmts (map stmt_of body)) (all_seen (seen catch_row) clauses))
    (last-is last l)

try-at : (rs : Option ResourcesTree) (body : List Statement) (clauses : List (Values catch_row))
    (last : Option (Values finally_row)) → length body < most → all_count (count_of catch_row) clauses < most
    → maybe_count (count_of finally_row) last < most → (ps : Marks)
    → stmt_places (a_try rs body clauses last) ps ≡ maybe_puts (option_map resources_places rs)
    (each_puts (map stmt_places body) (each_puts (map (kept_of catch_row) clauses)
    (maybe_puts (option_map (kept_of finally_row) last) ps)))
try-at rs body clauses last b c l ps =
    let end : Marks = maybe_puts (option_map (λ ss. each_puts (map stmt_places ss.items)) (last_of last)) ps in
    let front : Puts = λ rest. maybe_puts (option_map resources_places rs) (each_puts (map stmt_places body) rest) in
    ap (λ (g : Puts). g ps) (try-places rs (vector body) (vector (map clause_of clauses)) (last_of last))
    ∙ ap (λ (ss : List Statement). maybe_puts (option_map resources_places rs) (each_puts (map stmt_places ss)
    (each_puts (map catch_places (vector (map clause_of clauses)).items) end))) (vector-items body b)
    ∙ ap (λ (cs : List CatchTree). front (each_puts (map catch_places cs) end))
    (vector-items (map clause_of clauses) (clauses-few clauses c))
    ∙ ap front (clauses-at clauses c end)
    ∙ ap (λ (qs : Marks). front (each_puts (map (kept_of catch_row) clauses) qs)) (last-at last l ps)

try-builds : Builds (codes "try") try_row
try-builds = record {
  make = λ p x. a_try x.0 x.1.0 x.1.1.0 x.1.1.1.0;
  is = λ p x few. try-is x.0 x.1.0 x.1.1.0 x.1.1.1.0 (omega (arith, few)) (omega (arith, few)) (omega (arith, few));
  at = λ p x few ps. try-at x.0 x.1.0 x.1.1.0 x.1.1.1.0 (omega (arith, few)) (omega (arith, few))
      (omega (arith, few)) ps;
}

-- ---- all rows

abbrev EachBuilds : List (List ℕ × Slots) → Type 0
EachBuilds [] = Unit {0}
EachBuilds (r ∷ rs) = Builds r.0 r.1 × EachBuilds rs

all-build : EachBuilds rows
all-build = (
  while-builds,
  (
    do-builds,
    (
      return-builds,
      (
        break-builds,
        (
          continue-builds,
          (
            throw-builds,
            (sync-builds, (switch-builds, (try-builds, (assert-builds, tt)))),
          ),
        ),
      ),
    ),
  ),
)

found-builds : (rs : List (List ℕ × Slots)) → EachBuilds rs → (word : List ℕ) → has_row rs word ≡ true
    → Builds word (find_row rs word)
found-builds [] all word h = absurd cc
found-builds (r ∷ rs) all word h =
    by_test (bytes_eq word r.0) refl h (λ k. found-builds rs all.1 word k) where
      by_test : (b : Bool) → bytes_eq word r.0 ≡ b → cond b true (has_row rs word) ≡ true
          → (has_row rs word ≡ true → Builds word (find_row rs word)) → Builds word (cond b r.1 (find_row rs word))
      by_test true e k others = subst (λ w. Builds w r.1) (sym ((bytes_decides word r.0).0 e)) all.0
      by_test false e k others = others k

pub builds : (word : List ℕ) → IsTrue (is_row word) → Builds word (row_of word)
builds word h = found-builds rows all-build word h

-- ---- no place of a keyword inside is kept

abbrev pub are_unkept : Slots → Bool
are_unkept no_slot = true
are_unkept (AKeyword text ▹ row) = not (is_kept kind.Keyword text) && are_unkept row
are_unkept (Again word sub ▹ row) = not (is_kept kind.Keyword word) && (are_unkept sub && are_unkept row)
are_unkept (Perhaps word sub ▹ row) = not (is_kept kind.Keyword word) && (are_unkept sub && are_unkept row)
are_unkept (_ ▹ row) = are_unkept row

abbrev all_unkept : List (List ℕ × Slots) → Bool
all_unkept [] = true
all_unkept (r ∷ rs) = are_unkept r.1 && all_unkept rs

pub unkept : (a b : Bool) → (not a && b) ≡ true → (a ≡ false) × (b ≡ true)
unkept true b h = absurd cc
unkept false b h = (refl, h)

found-unkept : (rs : List (List ℕ × Slots)) → all_unkept rs ≡ true → (word : List ℕ)
    → are_unkept (find_row rs word) ≡ true
found-unkept [] all word = refl
found-unkept (r ∷ rs) all word =
    let first = and_parts _ _ all in by_test (bytes_eq word r.0) first.0 (found-unkept rs first.1 word) where
      by_test : (b : Bool) → are_unkept r.1 ≡ true → are_unkept (find_row rs word) ≡ true
          → are_unkept (cond b r.1 (find_row rs word)) ≡ true
      by_test true row others = row
      by_test false row others = others

pub row-unkept : (word : List ℕ) → are_unkept (row_of word) ≡ true
row-unkept word = found-unkept rows refl word
