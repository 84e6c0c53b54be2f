-- Each formed expression and array initialiser is read, whatever follows that does not go on with it.
use Rattle.std.proofs.Common.{◌≡◌, ℕ, ◌≤◌, max, List, [], Option, Some, IsTrue, refl, sym, ap, ◌∙◌, arith}
use Rattle.std.proofs.lemmas.Bool.{false≢true}
use Rattle.java_tree.specs.declared.words.Spelled.{Spelled}
use Rattle.java_tree.specs.Trees.{Expr, Assign, Conditional, Binary, InstanceOf, Prefix, Cast, Postfix, Literal}
use Rattle.java_tree.specs.Trees.{This, Name, Paren, Field, Index, Call, CallOn, ClassOf, New, NewArray, NewItems}
use Rattle.java_tree.specs.Trees.{NewBody, Lambda, BlockLambda, Reference, TypeReference, SuperReference, PlainClass}
use Rattle.java_tree.specs.Trees.{ThisOf}
use Rattle.java_tree.specs.Trees.{Exprs, no_expr, expr_then, Array, Braces, Inits, no_init, init_then, Init, Value}
use Rattle.java_tree.specs.Trees.{Items}
use Rattle.java_tree.specs.Spelling.{expr_onto, array_onto, init_onto}
use Rattle.java_tree.specs.Formed.{level, ends_open, FormedExpr, FormedExprs, FormedArray, FormedInits, FormedInit}
use Rattle.java_tree.specs.Nesting.{expr_nesting, array_nesting, init_nesting}
use Rattle.java_parser_grammar.specs.Leads.{pull}
use Rattle.java_parser_grammar.specs.ExpressionReading.{LeavesTypes, read_at, array_at, init_at}
use Rattle.java_parser_grammar.proofs.Taken.{pull_nothing}
use Rattle.java_parser_grammar.proofs.Meetings.{Met, alone}
use Rattle.java_parser_grammar.proofs.MetLists.{MetArguments, GivenMore, given_none, given_some, more_none, more_some}
use Rattle.java_parser_grammar.proofs.MetLists.{Measured}
use Rattle.java_parser_grammar.proofs.MetLists.{measured_none, measured_some, Filled, filled_none, filled_some, Begun}
use Rattle.java_parser_grammar.proofs.MetLists.{begun_value, begun_items, FilledMore, filled_more_none}
use Rattle.java_parser_grammar.proofs.MetLists.{filled_more_some}
use Rattle.java_parser_grammar.proofs.MetForms.{assign_met, conditional_met, binary_met, instance_met, prefix_met}
use Rattle.java_parser_grammar.proofs.MetForms.{cast_met, postfix_met, literal_met, this_met, name_met, paren_met}
use Rattle.java_parser_grammar.proofs.MetForms.{field_met, index_met, call_met, call_on_met, class_met, new_met}
use Rattle.java_parser_grammar.proofs.MetForms.{array_met, items_met, body_met, lambda_met, block_met, reference_met}
use Rattle.java_parser_grammar.proofs.MetForms.{type_reference_met, super_met}
use Rattle.java_parser_grammar.proofs.MetForms.{class_literal_met, this_of_met}

mutual
  pub met : (e : Expr) → FormedExpr e → Met e
  met (Assign a op b) f = assign_met a op b f (met a f.0) (met b f.1)
  met (Conditional a b c) f = conditional_met a b c f (met a f.0) (met b f.1) (met c f.2)
  met (Binary a op b) f = binary_met a op b f (met a f.0) (met b f.1)
  met (InstanceOf a t) f = instance_met a t f (met a f.0)
  met (Prefix op a) f = prefix_met op a f (met a f.0)
  met (Cast ts a) f = cast_met ts a f (met a f.2)
  met (Postfix a op) f = postfix_met a op f (met a f.0)
  met (Literal k text) f = literal_met k text f
  met This f = this_met
  met (Name x) f = name_met x
  met (Paren a) f = paren_met a f (met a f)
  met (Field a x) f = field_met a x f.1 (met a f.0)
  met (Index a i) f = index_met a i f (met a f.0) (met i f.1)
  met (Call x all) f = call_met x all f (given all f)
  met (CallOn a types x all) f = call_on_met a types x all f.1 f.3 (met a f.0) (given all f.2)
  met (ClassOf xs) f = class_met xs f
  met (New t all) f = new_met t all f (given all f.1)
  met (NewArray t no_expr m) f = absurd (false≢true f.2)
  met (NewArray t (expr_then e es) m) f = array_met t e es m f (met e f.1.0) (measured es f.1.1)
  met (NewItems t m items) f = items_met t m items f (filled items f.2)
  met (NewBody t all body) f = body_met t all body f (given all f.1)
  met (Lambda ps a) f = lambda_met ps a f (met a f.1)
  met (BlockLambda ps block) f = block_met ps block f
  met (Reference a types x) f = reference_met a types x f.1 f.2 (met a f.0)
  met (TypeReference t types x) f = type_reference_met t types x f
  met (SuperReference types x) f = super_met types x f
  met (PlainClass t) f = class_literal_met t f
  met (ThisOf xs) f = this_of_met xs f

  given : (all : Exprs) → FormedExprs all → MetArguments all
  given no_expr f = given_none
  given (expr_then e es) f = given_some e es f (met e f.0) (more_given es f.1)

  more_given : (es : Exprs) → FormedExprs es → GivenMore es
  more_given no_expr f = more_none
  more_given (expr_then e es) f = more_some e es f.1 (met e f.0) (more_given es f.1)

  measured : (es : Exprs) → FormedExprs es → Measured es
  measured no_expr f = measured_none
  measured (expr_then e es) f = measured_some e es f.0 (met e f.0) (measured es f.1)

  pub filled : (a : Array) → FormedArray a → Filled a
  filled (Braces no_init last) f = filled_none last f.1
  filled (Braces (init_then i is) last) f = filled_some i is last f.0 (begun i f.0.0) (filled_more is f.0.1)

  filled_more : (is : Inits) → FormedInits is → FilledMore is
  filled_more no_init f = filled_more_none
  filled_more (init_then i is) f = filled_more_some i is f (begun i f.0) (filled_more is f.1)

  pub begun : (i : Init) → FormedInit i → Begun i
  begun (Value e) f = begun_value e f (met e f)
  begun (Items a) f = begun_items a (filled a f)

-- a formed expression is read, where the rest does not go on with it
pub expression_found : (e : Expr) → FormedExpr e → (n l : ℕ) (rest : List Spelled) → expr_nesting e ≤ n → l ≤ level e
    → pull rest ≤ l → (IsTrue (ends_open e) → pull rest ≤ 0) → LeavesTypes rest
    → read_at n l (expr_onto e rest) ≡ Some (e, rest)
expression_found e f n l rest fits low quiet opens types = alone e (met e f) n l rest fits low quiet opens types

-- a formed array initialiser is read
pub array_found : (a : Array) → FormedArray a → (n : ℕ) (rest : List Spelled) → array_nesting a ≤ n
    → array_at n (array_onto a rest) ≡ Some (a, rest)
array_found a f n rest fits = (filled a f).by n rest fits

-- what a variable begins with is read
pub init_found : (i : Init) → FormedInit i → (n : ℕ) (rest : List Spelled) → init_nesting i ≤ n → pull rest ≤ 0
    → LeavesTypes rest → init_at n (init_onto i rest) ≡ Some (i, rest)
init_found i f n rest fits quiet types = (begun i f).by n rest fits quiet types

-- ---- unique reading

pub nothing_leaves : LeavesTypes []
nothing_leaves = ((λ l. refl), (λ l d. refl), refl)

pub same_read : {A : Type 0} (a b : A) (p q : A × List Spelled) (read : List Spelled → Option (A × List Spelled))
    (r s : List Spelled) → p.0 ≡ a → q.0 ≡ b → r ≡ s → read r ≡ Some p → read s ≡ Some q → a ≡ b
same_read {A = A} a b p q read r s first second e found found' =
    let both : Some p ≡ Some q = sym found ∙ ap read e ∙ found' in
    let same : p ≡ q = cc in
    sym first ∙ ap (λ (p : A × List Spelled). p.0) same ∙ second

-- two formed expressions with one spelling are equal
pub one_expression : (a b : Expr) → FormedExpr a → FormedExpr b → expr_onto a [] ≡ expr_onto b [] → a ≡ b
one_expression a b f g e =
    let n = max (expr_nesting a) (expr_nesting b) in
    same_read a b (a, []) (b, []) (read_at n 0) (expr_onto a []) (expr_onto b []) refl refl e
    (expression_found a f n 0 [] (omega arith) (omega arith) (omega (arith, pull_nothing))
    (λ o. omega (arith, pull_nothing)) nothing_leaves)
    (expression_found b g n 0 [] (omega arith) (omega arith) (omega (arith, pull_nothing))
    (λ o. omega (arith, pull_nothing)) nothing_leaves)

-- two formed array initialisers with one spelling are equal
pub one_array : (a b : Array) → FormedArray a → FormedArray b → array_onto a [] ≡ array_onto b [] → a ≡ b
one_array a b f g e =
    let n = max (array_nesting a) (array_nesting b) in
    same_read a b (a, []) (b, []) (array_at n) (array_onto a []) (array_onto b []) refl refl e
    (array_found a f n [] (omega arith))
    (array_found b g n [] (omega arith))

-- the same of what a variable begins with
pub one_init : (a b : Init) → FormedInit a → FormedInit b → init_onto a [] ≡ init_onto b [] → a ≡ b
one_init a b f g e =
    let n = max (init_nesting a) (init_nesting b) in
    same_read a b (a, []) (b, []) (init_at n) (init_onto a []) (init_onto b []) refl refl e
    (init_found a f n [] (omega arith) (omega (arith, pull_nothing)) nothing_leaves)
    (init_found b g n [] (omega arith) (omega (arith, pull_nothing)) nothing_leaves)
