-- A contract of a public call rests on this: the forms of statements that begin with a keyword of their own, a row each
-- (JLS 14). The tree of a form, its spelling, nesting, equality and reading all follow from its row.
use Rattle.std.specs.Prelude.{ℕ, Bool, true, false, List, [], ◌∷◌, Option, Some, None, codes, bytes_eq, if◌then◌else◌}
use Rattle.java_tree.specs.Words.{keyword, sign}
use Rattle.java_tree.specs.Trees.{Expr, Resources, CatchParameter, Stmt, Row, Stmts, Several, Groups, Pieces, no_piece}
use Rattle.java_tree.specs.Trees.{a_token}
use Rattle.java_tree.specs.Trees.{an_expr, maybe_an_expr, maybe_a_name, maybe_behind, a_condition, a_body, a_block}
use Rattle.java_tree.specs.Trees.{maybe_resources, a_catch_parameter, a_list, present, absent, some_part, a_switch}

-- what stands at one place of a row
infixr 30 ◌▹◌
mutual
  pub data Slot : Type 0 where
    AKeyword : (text : List ℕ) → Slot
    ASign : (text : List ℕ) → Slot
    AnExpr : Slot
    -- an expression or nothing, before this sign
    Until : (end : List ℕ) → Slot
    -- a name or nothing
    MaybeName : Slot
    -- this sign and an expression, or nothing
    MaybeBehind : (text : List ℕ) → Slot
    -- an expression in parentheses
    ACondition : Slot
    -- a statement that is no declaration
    ABody : Slot
    -- statements in braces
    ABlock : Slot
    -- groups of statements behind labels, in braces
    ASwitch : Slot
    -- resources in parentheses, or nothing
    MaybeResources : Slot
    -- the parameter of a `catch`, in parentheses
    ACatchParameter : Slot
    -- rows, each behind this keyword
    Again : (word : List ℕ) → Slots → Slot
    -- one row behind this keyword, or nothing
    Perhaps : (word : List ℕ) → Slots → Slot
    -- no token: of the parts behind it that may be left out one stands
    SomePart : Slot

  pub data Slots : Type 0 where
    no_slot : Slots
    ◌▹◌ : Slot → Slots → Slots

-- a tree, from the parts that its row has
abbrev pub Takes : Slots → Type 0
Takes no_slot = Stmt
Takes (AKeyword text ▹ row) = Takes row
Takes (ASign text ▹ row) = Takes row
Takes (AnExpr ▹ row) = Expr → Takes row
Takes (Until end ▹ row) = Option Expr → Takes row
Takes (ACondition ▹ row) = Expr → Takes row
Takes (ABody ▹ row) = Stmt → Takes row
Takes (ABlock ▹ row) = Stmts → Takes row
Takes (MaybeName ▹ row) = Option (List ℕ) → Takes row
Takes (MaybeBehind text ▹ row) = Option Expr → Takes row
Takes (ASwitch ▹ row) = Groups → Takes row
Takes (MaybeResources ▹ row) = Option Resources → Takes row
Takes (ACatchParameter ▹ row) = CatchParameter → Takes row
Takes (Again word sub ▹ row) = Several → Takes row
Takes (Perhaps word sub ▹ row) = Option Pieces → Takes row
Takes (SomePart ▹ row) = Takes row

-- a row that may be left out
abbrev pub perhaps : (word : List ℕ) → Option Pieces → Pieces → Pieces
perhaps word None ps = absent word ps
perhaps word (Some sub) ps = present word sub ps

abbrev pub filled : (row : Slots) → (Pieces → Stmt) → Takes row
filled no_slot make = make no_piece
filled (AKeyword text ▹ row) make = filled row (λ ps. make (a_token (keyword text) ps))
filled (ASign text ▹ row) make = filled row (λ ps. make (a_token (sign text) ps))
filled (AnExpr ▹ row) make = λ e. filled row (λ ps. make (an_expr e ps))
filled (Until end ▹ row) make = λ e. filled row (λ ps. make (maybe_an_expr e ps))
filled (ACondition ▹ row) make = λ e. filled row (λ ps. make (a_condition e ps))
filled (ABody ▹ row) make = λ s. filled row (λ ps. make (a_body s ps))
filled (ABlock ▹ row) make = λ ss. filled row (λ ps. make (a_block ss ps))
filled (MaybeName ▹ row) make = λ x. filled row (λ ps. make (maybe_a_name x ps))
filled (MaybeBehind text ▹ row) make = λ e. filled row (λ ps. make (maybe_behind text e ps))
filled (ASwitch ▹ row) make = λ gs. filled row (λ ps. make (a_switch gs ps))
filled (MaybeResources ▹ row) make = λ rs. filled row (λ ps. make (maybe_resources rs ps))
filled (ACatchParameter ▹ row) make = λ c. filled row (λ ps. make (a_catch_parameter c ps))
filled (Again word sub ▹ row) make = λ more. filled row (λ ps. make (a_list word more ps))
filled (Perhaps word sub ▹ row) make = λ one. filled row (λ ps. make (perhaps word one ps))
filled (SomePart ▹ row) make = filled row (λ ps. make (some_part ps))

-- ---- the rows, each behind its keyword

-- `do s while (a);` (JLS 14.13)
abbrev pub do_row : Slots
do_row = ABody ▹ AKeyword (codes "while") ▹ ACondition ▹ ASign (codes ";") ▹ no_slot

abbrev pub Do : Stmt → Expr → Stmt
Do = filled do_row (Row (codes "do"))

-- `throw a;` (JLS 14.18)
abbrev pub throw_row : Slots
throw_row = AnExpr ▹ ASign (codes ";") ▹ no_slot

abbrev pub Throw : Expr → Stmt
Throw = filled throw_row (Row (codes "throw"))

-- `while (a) s` (JLS 14.12)
abbrev pub while_row : Slots
while_row = ACondition ▹ ABody ▹ no_slot

abbrev pub While : Expr → Stmt → Stmt
While = filled while_row (Row (codes "while"))

-- `return;` and `return a;` (JLS 14.17)
abbrev pub return_row : Slots
return_row = Until (codes ";") ▹ ASign (codes ";") ▹ no_slot

abbrev pub Return : Option Expr → Stmt
Return = filled return_row (Row (codes "return"))

-- `synchronized (a) { .. }` (JLS 14.19)
abbrev pub sync_row : Slots
sync_row = ACondition ▹ ABlock ▹ no_slot

abbrev pub Sync : Expr → Stmts → Stmt
Sync = filled sync_row (Row (codes "synchronized"))

-- `break;` and `break x;` (JLS 14.15)
abbrev pub break_row : Slots
break_row = MaybeName ▹ ASign (codes ";") ▹ no_slot

abbrev pub Break : Option (List ℕ) → Stmt
Break = filled break_row (Row (codes "break"))

-- `continue;` and `continue x;` (JLS 14.16)
abbrev pub continue_row : Slots
continue_row = MaybeName ▹ ASign (codes ";") ▹ no_slot

abbrev pub Continue : Option (List ℕ) → Stmt
Continue = filled continue_row (Row (codes "continue"))

-- `assert a;` and `assert a : b;` (JLS 14.10)
abbrev pub assert_row : Slots
assert_row = AnExpr ▹ MaybeBehind (codes ":") ▹ ASign (codes ";") ▹ no_slot

abbrev pub Assert : Expr → Option Expr → Stmt
Assert = filled assert_row (Row (codes "assert"))

-- `switch (a) { case b : default : s .. }` (JLS 14.11)
abbrev pub switch_row : Slots
switch_row = ACondition ▹ ASwitch ▹ no_slot

abbrev pub Switch : Expr → Groups → Stmt
Switch = filled switch_row (Row (codes "switch"))

-- `catch (final T | U x) { .. }`, behind its keyword
abbrev pub catch_row : Slots
catch_row = ACatchParameter ▹ ABlock ▹ no_slot

-- `finally { .. }`, behind its keyword
abbrev pub finally_row : Slots
finally_row = ABlock ▹ no_slot

-- `try (..) { .. } catch (..) { .. } .. finally { .. }` (JLS 14.20)
abbrev pub try_row : Slots
try_row =
    SomePart ▹ MaybeResources ▹ ABlock ▹ Again (codes "catch") catch_row ▹ Perhaps (codes "finally") finally_row ▹
    no_slot

abbrev pub Try : Option Resources → Stmts → Several → Option Pieces → Stmt
Try = filled try_row (Row (codes "try"))

abbrev pub rows : List (List ℕ × Slots)
rows =
    (codes "while", while_row) ∷ (codes "do", do_row) ∷ (codes "return", return_row) ∷ (codes "break", break_row)
    ∷ (codes "continue", continue_row) ∷ (codes "throw", throw_row) ∷ (codes "synchronized", sync_row)
    ∷ (codes "switch", switch_row) ∷ (codes "try", try_row) ∷ (codes "assert", assert_row) ∷ []

-- ---- looking a row up

abbrev pub has_row : List (List ℕ × Slots) → List ℕ → Bool
has_row [] word = false
has_row (r ∷ rs) word = if bytes_eq word r.0 then true else has_row rs word

abbrev pub find_row : List (List ℕ × Slots) → List ℕ → Slots
find_row [] word = no_slot
find_row (r ∷ rs) word = if bytes_eq word r.0 then r.1 else find_row rs word

-- whether a form begins with this keyword
abbrev pub is_row : List ℕ → Bool
is_row word = has_row rows word

-- what stands behind it
abbrev pub row_of : List ℕ → Slots
row_of word = find_row rows word
