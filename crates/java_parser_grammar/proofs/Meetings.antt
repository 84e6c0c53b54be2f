-- What it is for reading to come to an expression.
use Rattle.std.proofs.Common.{IsTrue, false, sym}
use Rattle.std.proofs.lemmas.Bool.{false≢true}
use Rattle.std.proofs.Common.{◌≡◌, ℕ, zero, suc, ◌+◌, ◌-◌, ◌≤◌, true, List, Some, None, refl, ap, ◌∙◌, arith}
use Rattle.java_tree.specs.declared.words.Spelled.{Spelled}
use Rattle.java_tree.specs.Operators.{binary_level, is_binary}
use Rattle.java_tree.specs.Trees.{Expr}
use Rattle.java_tree.specs.Spelling.{operator_onto, expr_onto}
use Rattle.java_tree.specs.Formed.{level, ends_open}
use Rattle.java_tree.specs.Nesting.{expr_nesting}
use Rattle.java_parser_grammar.specs.Taking.{after_glued}
use Rattle.java_parser_grammar.specs.TypeReading.{made_base_at}
use Rattle.java_parser_grammar.specs.Leads.{lead, pull, pull_of, begins_lambda}
use Rattle.java_parser_grammar.specs.ExpressionReading.{class_at, operand_with, Next, turn_with, climb_with, read_at}
use Rattle.java_parser_grammar.specs.ExpressionReading.{array_at, LeavesTypes, lambda_with}
use Rattle.java_parser_grammar.proofs.OperatorTexts.{binary_leads}
use Rattle.java_parser_grammar.proofs.Levels.{bears, turns, turns_below, level_bears, level_most}
use Rattle.java_parser_grammar.proofs.Taken.{no_point, no_bracket, no_class}
use Rattle.java_parser_grammar.proofs.Steps.{stop_here, next_here}

-- what stands behind an expression does not go on with its names
pub record Leaves (rest : List Spelled) : Type 0 where
  pub unclassed : class_at true rest ≡ None
  pub types : LeavesTypes rest

-- reading comes to the expression after as many turns as make it
pub record Met (e : Expr) : Type 0 where
  pub by : (n l : ℕ) (rest : List Spelled) (k : ℕ) → expr_nesting e ≤ suc n → l ≤ level e → pull rest ≤ bears e
      → (IsTrue (ends_open e) → pull rest ≤ 0) → Leaves rest → k + turns e ≡ suc n → read_at (suc n) l
      (expr_onto e rest) ≡ climb_with (read_at n) n l k e rest

-- the expression alone is read, where the rest does not go on with it
pub alone : (e : Expr) → Met e → (n l : ℕ) (rest : List Spelled) → expr_nesting e ≤ n → l ≤ level e → pull rest ≤ l
    → (IsTrue (ends_open e) → pull rest ≤ 0) → LeavesTypes rest → read_at n l (expr_onto e rest) ≡ Some (e, rest)
alone e m zero l rest fits low quiet opens types = absurd (omega (arith, turns_below e))
alone e m (suc n) l rest fits low quiet opens types =
    let most = level_most e in
    let high = level_bears e in
    let below = turns_below e in
    let none = no_class rest (no_point rest (omega arith)) (no_bracket rest (omega arith)) in
    m.by n l rest (suc (n - turns e)) fits low (omega arith) opens
    (record { unclassed = none; types = types }) (omega arith)
    ∙ stop_here (read_at n) n l (n - turns e) e rest (omega arith) quiet

-- what begins with an operand
pub from_operand : (n l k : ℕ) (e : Expr) (ts rest : List Spelled) → begins_lambda ts ≡ false → operand_with
    (read_at n) n (made_base_at n) (array_at n) ts ≡ Some (e, rest) → k ≡ suc n → read_at (suc n) l ts
    ≡ climb_with (read_at n) n l k e rest
unfolding read_at
from_operand n l k e ts rest none is q = rw (none, is, q) refl

-- a lambda
pub from_lambda : (n k : ℕ) (e : Expr) (ts rest : List Spelled) → begins_lambda ts ≡ true
    → lambda_with (read_at n 0) ts ≡ Some (e, rest) → pull rest ≤ 0 → k ≡ suc n → read_at (suc n) 0 ts
    ≡ climb_with (read_at n) n 0 k e rest
unfolding read_at
from_lambda n k e ts rest begins is quiet q =
    rw (begins, is, q, stop_here (read_at n) n 0 n e rest (omega arith) quiet) refl

-- what goes on from a smaller expression that does not end in the expression of a lambda
pub from_turn : (n l k : ℕ) (a e : Expr) (ts rest : List Spelled) → Met a → expr_nesting a ≤ suc n → l ≤ level a
    → pull ts ≤ bears a → ends_open a ≡ false → Leaves ts → k + suc (turns a) ≡ suc n → turn_with (read_at n) n l a
    (lead ts) ≡ Some (Next e rest) → read_at (suc n) l (expr_onto a ts) ≡ climb_with (read_at n) n l k e rest
from_turn n l k a e ts rest m fits low quiet shut leaves count is =
    m.by n l ts (suc k) fits low quiet (λ opens. absurd (false≢true (sym shut ∙ opens))) leaves (omega arith)
    ∙ next_here (read_at n) n l k a e ts rest is

pub pull_operator : (op : List ℕ) (r : List Spelled) → IsTrue (is_binary op) → after_glued r ≡ None
    → pull (operator_onto op r) ≡ suc (binary_level op)
pull_operator op r is unglued = ap pull_of (binary_leads op r is unglued)
