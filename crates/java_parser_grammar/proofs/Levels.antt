-- Levels, and what a whole expression bears behind it.
use Rattle.std.proofs.Common.{◌≡◌, ℕ, suc, ◌≤◌, ◌<◌, Bool, true, false, not, cond, List, [], ◌∷◌, IsTrue, refl, arith}
use Rattle.std.specs.Prelude.{bytes_eq}
use Rattle.java_tree.specs.Operators.{BinaryOperator, LogicalOr, binary_operators, text_of, level_of, level_among}
use Rattle.java_tree.specs.Operators.{binary_level, is_binary}
use Rattle.java_tree.specs.Trees.{Expr, Assign, Conditional, Binary, InstanceOf, Prefix, Cast, Postfix, Name, Field}
use Rattle.java_tree.specs.Trees.{Index, CallOn, NewArray, NewItems, Lambda, BlockLambda, Reference}
use Rattle.java_tree.specs.Formed.{level, is_variable, makes_array, is_lambda, ends_open}
use Rattle.java_tree.specs.Nesting.{expr_nesting}
use Rattle.java_tree.proofs.Operators.{is_binary-level}

-- ---- levels of binary operators

least_of : (o : BinaryOperator) → 2 ≤ binary_level (text_of o)
least_of LogicalOr = omega arith
least_of _ = omega arith

most_of : (o : BinaryOperator) → level_of o ≤ 11
most_of LogicalOr = omega arith
most_of _ = omega arith

most_choice : (b : Bool) (m n : ℕ) → m ≤ 11 → n ≤ 11 → cond b m n ≤ 11
most_choice true m n h k = h
most_choice false m n h k = k

most_among : (os : List BinaryOperator) (op : List ℕ) → level_among os op ≤ 11
most_among [] op = omega arith
most_among (o ∷ os) op = most_choice (bytes_eq op (text_of o)) (level_of o) (level_among os op) (most_of o)
    (most_among os op)

pub binary_most : (op : List ℕ) → binary_level op ≤ 11
binary_most op = most_among binary_operators op

-- ---- what an expression bears

-- the strongest pull behind it that leaves an expression as it is read
abbrev pub bears : Expr → ℕ
bears (Assign a op b) = 0
bears (Conditional a b c) = 1
bears (Binary a op b) = suc (binary_level op)
bears (InstanceOf a t) = 9
bears (Prefix op a) = 12
bears (Cast t a) = 12
bears (Postfix a op) = 14
bears (NewArray t lengths n) = 15
bears (NewItems t n items) = 15
bears (Lambda ps a) = 0
bears (BlockLambda ps block) = 0
bears _ = 16

-- how many turns make the expression
abbrev pub turns : Expr → ℕ
turns (Assign a op b) = suc (turns a)
turns (Conditional a b c) = suc (turns a)
turns (Binary a op b) = suc (turns a)
turns (InstanceOf a t) = suc (turns a)
turns (Postfix a op) = suc (turns a)
turns (Field a x) = suc (turns a)
turns (Index a i) = suc (turns a)
turns (CallOn a types x all) = suc (turns a)
turns (Reference a types x) = suc (turns a)
turns _ = 0

pub turns_below : (e : Expr) → turns e < expr_nesting e
turns_below (Assign a op b) = omega (arith, turns_below a)
turns_below (Conditional a b c) = omega (arith, turns_below a)
turns_below (Binary a op b) = omega (arith, turns_below a)
turns_below (InstanceOf a t) = omega (arith, turns_below a)
turns_below (Postfix a op) = omega (arith, turns_below a)
turns_below (Field a x) = omega (arith, turns_below a)
turns_below (Index a i) = omega (arith, turns_below a)
turns_below (CallOn a types x all) = omega (arith, turns_below a)
turns_below (Reference a types x) = omega (arith, turns_below a)
turns_below _ = omega arith

pub level_bears : (e : Expr) → level e ≤ bears e
level_bears (Assign a op b) = omega arith
level_bears (Binary a op b) = omega arith
level_bears _ = omega arith

pub level_most : (e : Expr) → level e ≤ 14
level_most (Assign a op b) = omega arith
level_most (Binary a op b) = omega (arith, binary_most op)
level_most _ = omega arith

pub bears_operator : (a : Expr) (op : List ℕ) → IsTrue (is_binary op) → binary_level op ≤ level a
    → suc (binary_level op) ≤ bears a
bears_operator (Assign a o b) op is h = absurd (omega (arith, is_binary-level op is))
bears_operator (Conditional a b c) op is h = absurd (omega (arith, is_binary-level op is))
bears_operator (Binary a o b) op is h = omega arith
bears_operator (InstanceOf a t) op is h = omega arith
bears_operator (Lambda ps b) op is h = absurd (omega (arith, is_binary-level op is))
bears_operator (BlockLambda ps b) op is h = absurd (omega (arith, is_binary-level op is))
bears_operator _ op is h = omega (arith, binary_most op)

pub bears_instance : (a : Expr) → 8 ≤ level a → 9 ≤ bears a
bears_instance (Assign a o b) h = absurd (omega arith)
bears_instance (Conditional a b c) h = absurd (omega arith)
bears_instance (Binary a o b) h = omega arith
bears_instance (Lambda ps b) h = absurd (omega arith)
bears_instance (BlockLambda ps b) h = absurd (omega arith)
bears_instance _ h = omega arith

pub bears_primary : (a : Expr) → 14 ≤ level a → 15 ≤ bears a
bears_primary (Assign a o b) h = absurd (omega arith)
bears_primary (Conditional a b c) h = absurd (omega arith)
bears_primary (Binary a o b) h = absurd (omega (arith, binary_most o))
bears_primary (InstanceOf a t) h = absurd (omega arith)
bears_primary (Prefix op a) h = absurd (omega arith)
bears_primary (Cast t a) h = absurd (omega arith)
bears_primary (Postfix a op) h = absurd (omega arith)
bears_primary (Lambda ps b) h = absurd (omega arith)
bears_primary (BlockLambda ps b) h = absurd (omega arith)
bears_primary _ h = omega arith

pub bears_index : (a : Expr) → 14 ≤ level a → IsTrue (not (makes_array a)) → 16 ≤ bears a
bears_index (Assign a o b) h m = absurd (omega arith)
bears_index (Conditional a b c) h m = absurd (omega arith)
bears_index (Binary a o b) h m = absurd (omega (arith, binary_most o))
bears_index (InstanceOf a t) h m = absurd (omega arith)
bears_index (Prefix op a) h m = absurd (omega arith)
bears_index (Cast t a) h m = absurd (omega arith)
bears_index (Postfix a op) h m = absurd (omega arith)
bears_index (Lambda ps b) h m = absurd (omega arith)
bears_index (BlockLambda ps b) h m = absurd (omega arith)
bears_index (NewArray t lengths n) h m = absurd cc
bears_index (NewItems t n items) h m = absurd cc
bears_index _ h m = omega arith

pub level_variable : (a : Expr) → IsTrue (is_variable a) → level a ≡ 14
level_variable (Name x) h = refl
level_variable (Field a x) h = refl
level_variable (Index a i) h = refl
level_variable _ h = absurd cc

-- ---- lambdas stand at the lowest level alone

pub not_lambda : (a : Expr) → 1 ≤ level a → is_lambda a ≡ false
not_lambda (Lambda ps b) h = absurd (omega arith)
not_lambda (BlockLambda ps b) h = absurd (omega arith)
not_lambda _ h = refl

-- a primary expression does not end in the expression of a lambda
pub primary_shut : (a : Expr) → 14 ≤ level a → ends_open a ≡ false
primary_shut (Assign a o b) h = absurd (omega arith)
primary_shut (Conditional a b c) h = absurd (omega arith)
primary_shut (Binary a o b) h = absurd (omega (arith, binary_most o))
primary_shut (Prefix op a) h = absurd (omega arith)
primary_shut (Cast t a) h = absurd (omega arith)
primary_shut (Lambda ps b) h = absurd (omega arith)
primary_shut _ h = refl
