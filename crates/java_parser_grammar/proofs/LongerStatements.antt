-- A statement has a token at least.
use Rattle.std.proofs.Common.{IsTrue, ◌+◌, ◌≤◌, ◌<◌, Bool, true, false, List, [], ◌∷◌, length, Option, Some, None}
use Rattle.std.proofs.Common.{codes, arith, ℕ}
use Rattle.std.proofs.lemmas.Bool.{false≢true}
use Rattle.java_tree.specs.declared.words.Spelled.{Spelled}
use Rattle.java_tree.specs.Brackets.{are_class}
use Rattle.java_tree.specs.Words.{keyword, identifier, sign}
use Rattle.java_tree.specs.Trees.{Expr, Exprs, no_expr, expr_then, Init, Variable, Locals, Start, Declares}
use Rattle.java_tree.specs.Trees.{Runs, Resource, Resources, CatchParameter, Label, Case, Default, Stmt, Block}
use Rattle.java_tree.specs.Trees.{Local, Run, If, IfElse, For, ForEach, Labelled, LocalClass, Empty, Row, Stmts}
use Rattle.java_tree.specs.Trees.{no_stmt}
use Rattle.java_tree.specs.Trees.{stmt_then, Pieces, no_piece, a_token, an_expr, maybe_an_expr, maybe_a_name}
use Rattle.java_tree.specs.Trees.{maybe_behind, a_condition, a_body, a_block, maybe_resources, a_catch_parameter}
use Rattle.java_tree.specs.Trees.{a_list, present, absent, some_part, a_switch, Several, no_row, row_then, Groups}
use Rattle.java_tree.specs.Trees.{no_group, group_then}
use Rattle.java_tree.specs.Spelling.{behind_commas, commas_onto, tokens_onto, ty_onto, between_sign, expr_onto}
use Rattle.java_tree.specs.Spelling.{exprs_onto}
use Rattle.java_tree.specs.Spelling.{maybe_expr_onto, maybe_init_onto, variable_onto, locals_onto, start_onto}
use Rattle.java_tree.specs.Spelling.{resource_onto, more_resources_onto, last_semicolon_onto, maybe_resources_onto}
use Rattle.java_tree.specs.Spelling.{catch_parameter_onto, label_onto, labels_onto}
use Rattle.java_tree.specs.Spelling.{maybe_name_onto, maybe_behind_onto, stmt_onto, stmts_onto, pieces_onto}
use Rattle.java_tree.specs.Spelling.{groups_onto, several_onto}
use Rattle.java_tree.specs.FormedModifiers.{has_some, Each}
use Rattle.java_tree.specs.Formed.{FormedExprs, FormedMaybeExpr, FormedRuns, FormedMaybeInit}
use Rattle.java_tree.specs.Formed.{FormedVariable, FormedLocals, FormedStart, FormedResource, FormedMaybeResources}
use Rattle.java_tree.specs.Formed.{FormedLabel, FormedStmt, FormedStmts, Fits, EachFits, FormedGroups}
use Rattle.java_tree.specs.Rows.{AKeyword, ASign, AnExpr, Until, MaybeName, MaybeBehind, ACondition, ABody, ABlock}
use Rattle.java_tree.specs.Rows.{ASwitch, MaybeResources, ACatchParameter, Again, Perhaps, SomePart, Slots, no_slot}
use Rattle.java_tree.specs.Rows.{◌▹◌, row_of}
use Rattle.java_parser_grammar.proofs.Lengths.{longer, exprs_longer, init_longer, between_longer, tokens_longer}
use Rattle.java_parser_grammar.proofs.Annotations.{modifiers_fit}
use Rattle.java_parser_grammar.proofs.ReadableRows.{rows_of, groups_of}
use Rattle.java_parser_grammar.proofs.TypeFronts.{ty_longer, brackets_longer}

maybe_longer : (e : Option Expr) → FormedMaybeExpr e → (r : List Spelled) → length r ≤ length (maybe_expr_onto e r)
maybe_longer None f r = omega arith
maybe_longer (Some e) f r = omega (arith, longer e f r)

maybe_init_longer : (i : Option Init) → FormedMaybeInit i → (r : List Spelled) → length r ≤ length (maybe_init_onto i r)
maybe_init_longer None f r = omega arith
maybe_init_longer (Some i) f r = omega (arith, init_longer i f r)

pub variable_longer : (v : Variable) → FormedVariable v → (r : List Spelled) → length r ≤ length (variable_onto v r)
variable_longer v f r =
    omega (arith, brackets_longer v.arrays (maybe_init_onto v.initialiser r), maybe_init_longer v.initialiser f r)

variables_longer : (vs : List Variable) → Each FormedVariable vs → (r : List Spelled) → length r ≤ length
    (behind_commas variable_onto vs r)
variables_longer [] f r = omega arith
variables_longer (v ∷ vs) f r =
    omega (arith, variables_longer vs f.1 r, variable_longer v f.0 (behind_commas variable_onto vs r))

pub list_shorter : (vs : List Variable) → IsTrue (has_some vs) → Each FormedVariable vs → (r : List Spelled)
    → length r < length (commas_onto variable_onto vs r)
list_shorter [] some f r = absurd cc
list_shorter (v ∷ vs) some f r =
    let others = behind_commas variable_onto vs r in
    omega (
      arith,
      variables_longer vs f.1 r,
      brackets_longer v.arrays (maybe_init_onto v.initialiser others),
      maybe_init_longer v.initialiser f.0 others,
    )

list_longer : (vs : List Variable) → Each FormedVariable vs → (r : List Spelled) → length r ≤ length
    (commas_onto variable_onto vs r)
list_longer [] f r = omega arith
list_longer (v ∷ vs) f r =
    omega (arith, variables_longer vs f.1 r, variable_longer v f.0 (behind_commas variable_onto vs r))

locals_longer : (l : Locals) → FormedLocals l → (r : List Spelled) → length r ≤ length (locals_onto l r)
locals_longer l f r =
    let variables = commas_onto variable_onto l.variables r in
    omega (
      arith,
      list_longer l.variables f.3 r,
      ty_longer l.kind variables,
      modifiers_fit l.modifiers (ty_onto l.kind variables),
    )

-- what is run is formed
pub runs_formed : (es : Exprs) → FormedRuns es → FormedExprs es
runs_formed no_expr f = tt
runs_formed (expr_then e es) f = (f.0.0, runs_formed es f.1)

start_longer : (s : Start) → FormedStart s → (r : List Spelled) → length r ≤ length (start_onto s r)
start_longer (Declares l) f r = locals_longer l f r
start_longer (Runs all) f r = exprs_longer all (runs_formed all f) r

-- ---- resources, parameters and labels

resource_longer : (r : Resource) → FormedResource r → (rest : List Spelled)
    → length rest ≤ length (resource_onto r rest)
resource_longer r f rest =
    let named = identifier r.name ∷ sign (codes "=") ∷ expr_onto r.value rest in
    omega (arith, longer r.value f.2 rest, ty_longer r.kind named, modifiers_fit r.modifiers (ty_onto r.kind named))

-- there are no more resources than tokens
pub resources_fit : (rs : List Resource) → Each FormedResource rs → (rest : List Spelled) → length rs + length
    rest ≤ length (more_resources_onto rs rest)
resources_fit [] f rest = omega arith
resources_fit (r ∷ rs) f rest =
    omega (arith, resource_longer r f.0 (more_resources_onto rs rest), resources_fit rs f.1 rest)

last_longer : (last : Bool) (rest : List Spelled) → length rest ≤ length (last_semicolon_onto last rest)
last_longer true rest = omega arith
last_longer false rest = omega arith

list_of_resources_longer : (rs : List Resource) (last : Bool) → FormedMaybeResources (Some (record {
  items = rs;
  last = last;
})) → (rest : List Spelled) → length rest ≤ length (maybe_resources_onto (Some (record {
  items = rs;
  last = last;
})) rest)
list_of_resources_longer [] last f rest = absurd cc
list_of_resources_longer (r ∷ rs) last f rest =
    let closed = last_semicolon_onto last (sign (codes ")") ∷ rest) in
    omega (
      arith,
      resource_longer r f.1.0 (more_resources_onto rs closed),
      resources_fit rs f.1.1 closed,
      last_longer last (sign (codes ")") ∷ rest),
    )

maybe_resources_longer : (rs : Option Resources) → FormedMaybeResources rs → (rest : List Spelled)
    → length rest ≤ length (maybe_resources_onto rs rest)
maybe_resources_longer None f rest = omega arith
maybe_resources_longer (Some rs) f rest = list_of_resources_longer rs.items rs.last f rest

catch_parameter_longer : (c : CatchParameter) (rest : List Spelled) → length rest ≤ length (catch_parameter_onto c rest)
catch_parameter_longer c rest =
    let named = identifier c.name ∷ sign (codes ")") ∷ rest in
    omega (
      arith,
      between_longer (codes "|") c.types named,
      modifiers_fit c.modifiers (between_sign (codes "|") c.types named),
    )

pub label_longer : (l : Label) → FormedLabel l → (rest : List Spelled) → length rest < length (label_onto l rest)
label_longer (Case e) f rest = omega (arith, longer e f.0 (sign (codes ":") ∷ rest))
label_longer Default f rest = omega arith

-- there are no more labels than tokens
pub labels_fit : (ls : List Label) → Each FormedLabel ls → (rest : List Spelled) → length ls + length rest ≤ length
    (labels_onto ls rest)
labels_fit [] f rest = omega arith
labels_fit (l ∷ ls) f rest = omega (arith, label_longer l f.0 (labels_onto ls rest), labels_fit ls f.1 rest)

maybe_name_longer : (x : Option (List ℕ)) (rest : List Spelled) → length rest ≤ length (maybe_name_onto x rest)
maybe_name_longer None rest = omega arith
maybe_name_longer (Some x) rest = omega arith

maybe_behind_longer : (text : List ℕ) (e : Option Expr) → FormedMaybeExpr e → (rest : List Spelled)
    → length rest ≤ length (maybe_behind_onto text e rest)
maybe_behind_longer text None f rest = omega arith
maybe_behind_longer text (Some e) f rest = omega (arith, longer e f rest)

-- ---- statements

class_longer : (x : List ℕ) (ts : List Spelled) → IsTrue (are_class x ts) → (rest : List Spelled) → length rest < length
    (tokens_onto ts rest)
class_longer x [] f rest = absurd (false≢true f)
class_longer x (t ∷ ts) f rest = omega (arith, tokens_longer ts rest)

mutual
  pub stmt_longer : (s : Stmt) → FormedStmt s → (rest : List Spelled) → length rest < length (stmt_onto s rest)
  stmt_longer (Block ss) f rest = omega (arith, stmts_longer ss f (sign (codes "}") ∷ rest))
  stmt_longer (Local l) f rest = omega (arith, locals_longer l f (sign (codes ";") ∷ rest))
  stmt_longer (Run e) f rest = omega (arith, longer e f.0 (sign (codes ";") ∷ rest))
  stmt_longer (If e s) f rest =
      omega (arith, stmt_longer s f.1 rest, longer e f.0 (sign (codes ")") ∷ stmt_onto s rest))
  stmt_longer (IfElse e s t) f rest =
      let r = keyword (codes "else") ∷ stmt_onto t rest in
      omega (arith, stmt_longer t f.2 rest, stmt_longer s f.1 r, longer e f.0 (sign (codes ")") ∷ stmt_onto s r))
  stmt_longer (For start condition updates s) f rest =
      let c = sign (codes ")") ∷ stmt_onto s rest in
      let b = sign (codes ";") ∷ exprs_onto updates c in
      let a = sign (codes ";") ∷ maybe_expr_onto condition b in
      omega (
        arith,
        stmt_longer s f.3 rest,
        exprs_longer updates (runs_formed updates f.2) c,
        maybe_longer condition
            f.1 b,
        start_longer start f.0 a,
      )
  stmt_longer (ForEach ms t x e s) f rest =
      let b = sign (codes ")") ∷ stmt_onto s rest in
      let a = identifier x ∷ sign (codes ":") ∷ expr_onto e b in
      omega (arith, stmt_longer s f.3 rest, longer e f.2 b, ty_longer t a, modifiers_fit ms (ty_onto t a))
  stmt_longer (Labelled x s) f rest = omega (arith, stmt_longer s f.0 rest)
  stmt_longer (LocalClass x ts) f rest = class_longer x ts f rest
  stmt_longer Empty f rest = omega arith
  stmt_longer (Row word ps) f rest = omega (arith, pieces_longer ps (row_of word) f.1 rest)

  stmts_longer : (ss : Stmts) → FormedStmts ss → (rest : List Spelled) → length rest ≤ length (stmts_onto ss rest)
  stmts_longer no_stmt f rest = omega arith
  stmts_longer (stmt_then s ss) f rest = omega (arith, stmt_longer s f.0 (stmts_onto ss rest), stmts_longer ss f.1 rest)

  pieces_longer : (ps : Pieces) (row : Slots) → Fits ps row → (rest : List Spelled) → length rest ≤ length
      (pieces_onto ps rest)
  pieces_longer no_piece no_slot f rest = omega arith
  pieces_longer (a_token t ps) (AKeyword text ▹ row) f rest = omega (arith, pieces_longer ps row f.1 rest)
  pieces_longer (a_token t ps) (ASign text ▹ row) f rest = omega (arith, pieces_longer ps row f.1 rest)
  pieces_longer (an_expr e ps) (AnExpr ▹ row) f rest =
      omega (arith, pieces_longer ps row f.1 rest, longer e f.0 (pieces_onto ps rest))
  pieces_longer (maybe_an_expr e ps) (Until end ▹ row) f rest =
      omega (arith, pieces_longer ps row f.1 rest, maybe_longer e f.0 (pieces_onto ps rest))
  pieces_longer (a_condition e ps) (ACondition ▹ row) f rest =
      omega (arith, pieces_longer ps row f.1 rest, longer e f.0 (sign (codes ")") ∷ pieces_onto ps rest))
  pieces_longer (a_body s ps) (ABody ▹ row) f rest =
      omega (arith, pieces_longer ps row f.1 rest, stmt_longer s f.0.0 (pieces_onto ps rest))
  pieces_longer (a_block ss ps) (ABlock ▹ row) f rest =
      omega (arith, pieces_longer ps row f.1 rest, stmts_longer ss f.0 (sign (codes "}") ∷ pieces_onto ps rest))
  pieces_longer (maybe_a_name x ps) (MaybeName ▹ row) f rest =
      omega (arith, pieces_longer ps row f rest, maybe_name_longer x (pieces_onto ps rest))
  pieces_longer (maybe_behind t e ps) (MaybeBehind text ▹ row) f rest =
      omega (arith, pieces_longer ps row f.1 rest, maybe_behind_longer t e f.0.1 (pieces_onto ps rest))
  pieces_longer (maybe_resources rs ps) (MaybeResources ▹ row) f rest =
      omega (arith, pieces_longer ps row f.1 rest, maybe_resources_longer rs f.0 (pieces_onto ps rest))
  pieces_longer (a_catch_parameter c ps) (ACatchParameter ▹ row) f rest =
      omega (arith, pieces_longer ps row f.1 rest, catch_parameter_longer c (pieces_onto ps rest))
  pieces_longer (a_list w more ps) (Again word sub ▹ row) f rest =
      omega (arith, pieces_longer ps row f.1 rest, several_longer more sub f.0.1 w (pieces_onto ps rest))
  pieces_longer (present w one ps) (Perhaps word sub ▹ row) f rest =
      omega (arith, pieces_longer ps row f.1 rest, pieces_longer one sub f.0.1 (pieces_onto ps rest))
  pieces_longer (absent w ps) (Perhaps word sub ▹ row) f rest = pieces_longer ps row f.1 rest
  pieces_longer (some_part ps) (SomePart ▹ row) f rest = pieces_longer ps row f.1 rest
  pieces_longer (a_switch gs ps) (ASwitch ▹ row) f rest =
      omega (arith, pieces_longer ps row f.1 rest, groups_longer gs f.0 (sign (codes "}") ∷ pieces_onto ps rest))
  pieces_longer _ _ f rest = absurd f

  groups_longer : (gs : Groups) → FormedGroups gs → (rest : List Spelled) → length rest ≤ length (groups_onto gs rest)
  groups_longer no_group f rest = omega arith
  groups_longer (group_then labels ss gs) f rest =
      let behind = groups_onto gs rest in
      omega (
        arith,
        groups_longer gs f.3 rest,
        stmts_longer ss f.1 behind,
        labels_fit labels f.0.1 (stmts_onto ss behind),
      )

  several_longer : (more : Several) (sub : Slots) → EachFits more sub → (word : List ℕ) (rest : List Spelled)
      → length rest ≤ length (several_onto word more rest)
  several_longer no_row sub f word rest = omega arith
  several_longer (row_then ps more) sub f word rest =
      omega (arith, pieces_longer ps sub f.0 (several_onto word more rest), several_longer more sub f.1 word rest)

has_length : {A : Type 0} (xs : List A) → IsTrue (has_some xs) → 1 ≤ length xs
has_length [] h = absurd cc
has_length (x ∷ xs) h = omega arith

-- there are no more groups than tokens
pub groups_fit : (gs : Groups) → FormedGroups gs → (rest : List Spelled) → groups_of gs + length rest ≤ length
    (groups_onto gs rest)
unfolding groups_of
groups_fit no_group f rest = omega arith
groups_fit (group_then labels ss gs) f rest =
    let behind = groups_onto gs rest in
    omega (
      arith,
      has_length labels f.0.0,
      groups_fit gs f.3 rest,
      stmts_longer ss f.1 behind,
      labels_fit labels f.0.1 (stmts_onto ss behind),
    )

-- there are no more rows than tokens
pub rows_fit : (more : Several) (sub : Slots) → EachFits more sub → (word : List ℕ) (rest : List Spelled)
    → rows_of more + length rest ≤ length (several_onto word more rest)
unfolding rows_of
rows_fit no_row sub f word rest = omega arith
rows_fit (row_then ps more) sub f word rest =
    omega (arith, pieces_longer ps sub f.0 (several_onto word more rest), rows_fit more sub f.1 word rest)

unfoldable pub unpack_stmts : Stmts → List Stmt
unpack_stmts no_stmt = []
unpack_stmts (stmt_then s ss) = s ∷ unpack_stmts ss

-- there are no more statements than tokens
pub stmts_fit : (ss : Stmts) → FormedStmts ss → (rest : List Spelled) → length (unpack_stmts ss) + length
    rest ≤ length (stmts_onto ss rest)
unfolding unpack_stmts
stmts_fit no_stmt f rest = omega arith
stmts_fit (stmt_then s ss) f rest = omega (arith, stmt_longer s f.0 (stmts_onto ss rest), stmts_fit ss f.1 rest)
