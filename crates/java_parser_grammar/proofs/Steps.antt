-- What one turn of reading does behind an expression.
use Rattle.std.proofs.Common.{◌≡◌, ℕ, suc, ◌≤◌, Bool, true, false, cond, not, ◌&&◌, List, ◌∷◌, Option, Some, None}
use Rattle.std.proofs.Common.{IsTrue}
use Rattle.std.proofs.Common.{refl, ◌∙◌, arith, le-leb, codes}
use Rattle.std.proofs.lemmas.Bool.{lt-leb}
use Rattle.java_tree.specs.declared.words.Spelled.{Spelled}
use Rattle.java_tree.specs.Words.{sign, keyword, identifier}
use Rattle.java_tree.specs.Operators.{binary_level, is_binary, is_assignment, is_step}
use Rattle.java_tree.specs.Trees.{Ty, Expr, Assign, Conditional, Binary, InstanceOf, Postfix, Field, Index, CallOn}
use Rattle.java_tree.specs.Trees.{Exprs, Arguments, Reference, pack_exprs}
use Rattle.java_tree.specs.Spelling.{operator_onto}
use Rattle.java_tree.specs.Formed.{level, is_variable, makes_array}
use Rattle.java_tree.specs.Nesting.{expr_nesting}
use Rattle.java_parser_grammar.specs.Taking.{after_sign, after_glued}
use Rattle.java_parser_grammar.specs.TypeReading.{tested_ty_at, types_at}
use Rattle.java_parser_grammar.specs.Leads.{Lead, Assigns, Asks, Joins, Tests, Steps, Selects, Indexes, Opens, Ends}
use Rattle.java_parser_grammar.specs.Leads.{Refers, Binds, lead}
use Rattle.java_parser_grammar.specs.Leads.{pull, pull_of}
use Rattle.java_parser_grammar.specs.BalancedReading.{Reading}
use Rattle.java_parser_grammar.specs.ExpressionReading.{call_arguments_with, Stop, Next, grown, assign_with}
use Rattle.java_parser_grammar.specs.ExpressionReading.{conditional_with, binary_with, instance_with, select_with}
use Rattle.java_parser_grammar.specs.ExpressionReading.{index_with, refer_with, referred_at, lambda_level, turn_with}
use Rattle.java_parser_grammar.specs.ExpressionReading.{climb_with}
use Rattle.java_parser_grammar.proofs.OperatorTexts.{assignment_leads, step_leads, binary_leads}

passed : {A : Type 0} (b c : Bool) (x y : A) → b ≡ true → c ≡ true → cond (b && c) x y ≡ x
passed b c x y p q = rw (p, q) refl

failed : {A : Type 0} (b c : Bool) (x y : A) → b ≡ false → cond (b && c) x y ≡ y
failed b c x y p = rw p refl

module _ (read : ℕ → Reading Expr) (n : ℕ) where
  -- nothing goes on that pulls no more than the level that is read
  stops : (l : ℕ) (a : Expr) (d : Lead) → l ≤ 14 → pull_of d ≤ l → turn_with read n l a d ≡ Some (Stop a)
  unfolding turn_with
  stops l a (Assigns op r) le h = failed _ _ _ _ (lt-leb l 0 h)
  stops l a (Asks r) le h = failed _ _ _ _ (lt-leb l 1 h)
  stops l a (Joins op r) le h = failed _ _ _ _ (lt-leb l (binary_level op) h)
  stops l a (Tests r) le h = failed _ _ _ _ (lt-leb l 8 h)
  stops l a (Steps op r) le h = failed _ _ _ _ (lt-leb l 13 h)
  stops l a (Selects r) le h = absurd (omega arith)
  stops l a (Indexes r) le h = absurd (omega arith)
  stops l a (Refers r) le h = absurd (omega arith)
  stops l a Opens le h = refl
  stops l a Binds le h = refl
  stops l a Ends le h = refl

  grows : (e : Expr) (rest : List Spelled) → expr_nesting e ≤ suc n → grown n e rest ≡ Some (Next e rest)
  grows e rest h = rw (le-leb (expr_nesting e) (suc n) h) refl

  -- ---- what is behind the sign

  assign_grows : (a : Expr) (op : List ℕ) (b : Expr) (r rest : List Spelled) → expr_nesting (Assign a op b) ≤ suc n
      → read 0 r ≡ Some (b, rest) → assign_with read n a op r ≡ Some (Next (Assign a op b) rest)
  unfolding assign_with
  assign_grows a op b r rest small e = rw e (grows (Assign a op b) rest small)

  conditional_grows : (a b c : Expr) (r s rest : List Spelled) → expr_nesting (Conditional a b c) ≤ suc n
      → read 0 r ≡ Some (b, sign (codes ":") ∷ s) → read (lambda_level 1 s) s ≡ Some (c, rest)
      → conditional_with read n a r ≡ Some (Next (Conditional a b c) rest)
  unfolding conditional_with
  conditional_grows a b c r s rest small e f = rw (e, f) (grows (Conditional a b c) rest small)

  binary_grows : (a : Expr) (op : List ℕ) (b : Expr) (r rest : List Spelled) → expr_nesting (Binary a op b) ≤ suc n
      → read (suc (binary_level op)) r ≡ Some (b, rest) → binary_with read n a op r ≡ Some (Next (Binary a op b) rest)
  unfolding binary_with
  binary_grows a op b r rest small e = rw e (grows (Binary a op b) rest small)

  instance_grows : (a : Expr) (t : Ty) (r rest : List Spelled) → expr_nesting (InstanceOf a t) ≤ suc n
      → tested_ty_at n r ≡ Some (t, rest) → instance_with n a r ≡ Some (Next (InstanceOf a t) rest)
  unfolding instance_with
  instance_grows a t r rest small e = rw e (grows (InstanceOf a t) rest small)

  field_grows : (a : Expr) (x : List ℕ) (rest : List Spelled) → expr_nesting (Field a x) ≤ suc n
      → after_sign (codes "(") rest ≡ None → select_with read n a (identifier x ∷ rest) ≡ Some (Next (Field a x) rest)
  unfolding select_with types_at
  field_grows a x rest small e = rw e (grows (Field a x) rest small)

  call_grows : (a : Expr) (types : Option Arguments) (x : List ℕ) (all : Exprs) (es : List Expr) (q r rest : List
      Spelled) → expr_nesting (CallOn a types x all) ≤ suc n → pack_exprs es ≡ all → types_at n q ≡ Some (
        types,
        identifier x ∷ sign (codes "(") ∷ r,
      ) → call_arguments_with read r ≡ Some (es, rest) → select_with read n a q ≡ Some (Next (CallOn a types x all)
      rest)
  unfolding select_with
  call_grows a types x all es q r rest small p t e = rw (t, e, p) (grows (CallOn a types x all) rest small)

  refer_grows : (a : Expr) (types : Option Arguments) (x : Option (List ℕ)) (r rest : List Spelled) → expr_nesting
      (Reference a types x) ≤ suc n → referred_at n r ≡ Some ((types, x), rest) → refer_with n a r ≡ Some
      (Next (Reference a types x) rest)
  unfolding refer_with
  refer_grows a types x r rest small e = rw e (grows (Reference a types x) rest small)

  index_grows : (a i : Expr) (r rest : List Spelled) → expr_nesting (Index a i) ≤ suc n → read 0 r ≡ Some (
    i,
    sign (codes "]") ∷ rest,
  ) → index_with read n a r ≡ Some (Next (Index a i) rest)
  unfolding index_with
  index_grows a i r rest small e = rw e (grows (Index a i) rest small)

  -- ---- turns

  pub assign_step : (l : ℕ) (a : Expr) (op : List ℕ) (b : Expr) (r rest : List Spelled) → l ≤ 0
      → IsTrue (is_variable a) → IsTrue (is_assignment op) → expr_nesting (Assign a op b) ≤ suc n → read 0 r ≡ Some
      (b, rest) → turn_with read n l a (lead (sign op ∷ r)) ≡ Some (Next (Assign a op b) rest)
  unfolding turn_with
  assign_step l a op b r rest low variable is small e =
      rw (assignment_leads op r is) (passed _ _ _ _ (le-leb l 0 low) variable ∙ assign_grows a op b r rest small e)

  pub conditional_step : (l : ℕ) (a b c : Expr) (r s rest : List Spelled) → l ≤ 1 → 2 ≤ level a → expr_nesting
      (Conditional a b c) ≤ suc n → read 0 r ≡ Some (b, sign (codes ":") ∷ s)
      → read (lambda_level 1 s) s ≡ Some (c, rest) → turn_with read n l a (lead (sign (codes "?") ∷ r)) ≡ Some (Next
      (Conditional a b c) rest)
  unfolding turn_with lead
  conditional_step l a b c r s rest low fits small e f = passed _ _ _ _ (le-leb l 1 low) (le-leb 2 (level a) fits)
      ∙ conditional_grows a b c r s rest small e f

  pub binary_step : (l : ℕ) (a : Expr) (op : List ℕ) (b : Expr) (r rest : List Spelled) → l ≤ binary_level op
      → binary_level op ≤ level a → IsTrue (is_binary op) → expr_nesting (Binary a op b) ≤ suc n → after_glued r ≡ None
      → read (suc (binary_level op)) r ≡ Some (b, rest) → turn_with read n l a (lead (operator_onto op r)) ≡ Some
      (Next (Binary a op b) rest)
  unfolding turn_with
  binary_step l a op b r rest low fits is small unglued e =
      rw (binary_leads op r is unglued) (passed _ _ _ _ (le-leb l (binary_level op) low) (le-leb (binary_level op)
      (level a) fits) ∙ binary_grows a op b r rest small e)

  pub instance_step : (l : ℕ) (a : Expr) (t : Ty) (r rest : List Spelled) → l ≤ 8 → 8 ≤ level a → expr_nesting
      (InstanceOf a t) ≤ suc n → tested_ty_at n r ≡ Some (t, rest) → turn_with read n l a
      (lead (keyword (codes "instanceof") ∷ r)) ≡ Some (Next (InstanceOf a t) rest)
  unfolding turn_with lead
  instance_step l a t r rest low fits small e = passed _ _ _ _ (le-leb l 8 low) (le-leb 8 (level a) fits)
      ∙ instance_grows a t r rest small e

  pub postfix_step : (l : ℕ) (a : Expr) (op : List ℕ) (rest : List Spelled) → l ≤ 13 → IsTrue (is_variable a)
      → IsTrue (is_step op) → expr_nesting (Postfix a op) ≤ suc n → turn_with read n l a (lead (sign op ∷ rest))
      ≡ Some (Next (Postfix a op) rest)
  unfolding turn_with
  postfix_step l a op rest low variable is small =
      rw (step_leads op rest is) (passed _ _ _ _ (le-leb l 13 low) variable ∙ grows (Postfix a op) rest small)

  pub field_step : (l : ℕ) (a : Expr) (x : List ℕ) (rest : List Spelled) → 14 ≤ level a → expr_nesting
      (Field a x) ≤ suc n → after_sign (codes "(") rest ≡ None → turn_with read n l a (lead (sign (codes ".")
      ∷ identifier x ∷ rest)) ≡ Some (Next (Field a x) rest)
  unfolding turn_with lead
  field_step l a x rest fits small e = rw (le-leb 14 (level a) fits) (field_grows a x rest small e)

  pub call_step : (l : ℕ) (a : Expr) (types : Option Arguments) (x : List ℕ) (all : Exprs) (es : List Expr) (q r rest
      : List Spelled) → 14 ≤ level a → expr_nesting (CallOn a types x all) ≤ suc n → pack_exprs es ≡ all
      → types_at n q ≡ Some (types, identifier x ∷ sign (codes "(") ∷ r) → call_arguments_with read r ≡ Some
      (es, rest) → turn_with read n l a (lead (sign (codes ".") ∷ q)) ≡ Some (Next (CallOn a types x all) rest)
  unfolding turn_with lead
  call_step l a types x all es q r rest fits small p t e =
      rw (le-leb 14 (level a) fits) (call_grows a types x all es q r rest small p t e)

  pub refer_step : (l : ℕ) (a : Expr) (types : Option Arguments) (x : Option (List ℕ)) (r rest : List Spelled)
      → 14 ≤ level a → expr_nesting (Reference a types x) ≤ suc n → referred_at n r ≡ Some ((types, x), rest)
      → turn_with read n l a (lead (sign (codes "::") ∷ r)) ≡ Some (Next (Reference a types x) rest)
  unfolding turn_with lead
  refer_step l a types x r rest fits small e =
      rw (le-leb 14 (level a) fits) (refer_grows a types x r rest small e)

  pub index_step : (l : ℕ) (a i : Expr) (r rest : List Spelled) → 14 ≤ level a → IsTrue (not (makes_array a))
      → expr_nesting (Index a i) ≤ suc n → read 0 r ≡ Some (i, sign (codes "]") ∷ rest) → turn_with read n l a
      (lead (sign (codes "[") ∷ r)) ≡ Some (Next (Index a i) rest)
  unfolding turn_with lead
  index_step l a i r rest fits takes small e = passed _ _ _ _ (le-leb 14 (level a) fits) takes ∙ index_grows a i r
      rest small e

  pub stop_here : (l k : ℕ) (a : Expr) (rest : List Spelled) → l ≤ 14 → pull rest ≤ l → climb_with read n l (suc k) a
      rest ≡ Some (a, rest)
  unfolding climb_with
  stop_here l k a rest le h = rw (stops l a (lead rest) le h) refl

  pub next_here : (l k : ℕ) (a e : Expr) (ts rest : List Spelled) → turn_with read n l a (lead ts) ≡ Some
      (Next e rest) → climb_with read n l (suc k) a ts ≡ climb_with read n l k e rest
  unfolding climb_with
  next_here l k a e ts rest is = rw is refl
