-- Reading comes to an expression, where it comes to the expressions in it.
use Rattle.std.proofs.Common.{◌≡◌, ℕ, zero, suc, ◌≤◌, Bool, true, false, cond, not, ◌&&◌, List, [], ◌∷◌, length}
use Rattle.std.proofs.Common.{Option, Some, None, le-leb, IsTrue, refl, sym, subst, ◌∙◌, ap, arith, codes}
use Rattle.std.proofs.lemmas.Bool.{false≢true}
use Rattle.java_lexer.specs.declared.token.TokenKind.{TokenKind}
use Rattle.java_tree.specs.declared.words.Spelled.{Spelled}
use Rattle.java_tree.specs.Words.{sign, keyword, identifier}
use Rattle.java_tree.specs.Operators.{binary_level}
use Rattle.java_tree.specs.Trees.{Ty, Typed, Plain, Named, Parts, no_part, part_then, Bare, Generic}
use Rattle.java_tree.specs.Trees.{PlainClass, TypeReference}
use Rattle.java_tree.specs.Trees.{Arguments, Expr, Assign, Conditional, Binary, InstanceOf, Prefix, Cast, Postfix}
use Rattle.java_tree.specs.Trees.{Literal, This, Name, Paren, Field, Index, Call, CallOn, ClassOf, New, NewArray}
use Rattle.java_tree.specs.Trees.{NewItems, NewBody, Lambda, BlockLambda, Reference, SuperReference, ThisOf, Exprs}
use Rattle.java_tree.specs.Trees.{expr_then, Array, Braces}
use Rattle.java_tree.specs.Spelling.{behind_points, brackets_onto, operator_onto, ty_onto, expr_onto, exprs_onto}
use Rattle.java_tree.specs.Spelling.{lengths_onto, array_onto, between_sign, maybe_angled_onto, referred_onto}
use Rattle.java_tree.specs.Spelling.{tokens_onto, more_parts_onto, angled_onto}
use Rattle.java_tree.specs.Formed.{level, ends_open, is_lambda, are_plain, cast_level, FormedExpr, FormedExprs}
use Rattle.java_tree.specs.Formed.{FormedTy, FormedTypes}
use Rattle.java_tree.specs.Nesting.{ty_nesting, expr_nesting}
use Rattle.java_parser_grammar.specs.TypeReading.{after_brackets, made_base_at, ty_at}
use Rattle.java_parser_grammar.specs.Leads.{lead, pull, pull_of, begins_with, begins_lambda}
use Rattle.java_parser_grammar.specs.ExpressionReading.{AtClass, AtThis, AtArray, LeavesTypes, class_at, goes_typed}
use Rattle.java_parser_grammar.specs.ExpressionReading.{operand_with, lambda_level, climb_with, read_at}
use Rattle.java_parser_grammar.specs.ExpressionReading.{array_at}
use Rattle.java_parser_grammar.proofs.FoundTested.{leaves_less, tested_found}
use Rattle.java_parser_grammar.proofs.FoundTypeLists.{types_found, between_found}
use Rattle.java_parser_grammar.proofs.FoundTokens.{parameters_found, braces_found, braces_begin}
use Rattle.java_parser_grammar.proofs.FoundMadeTypes.{base_of, made_found, whole_type, made_class, class_arrays}
use Rattle.java_parser_grammar.proofs.FoundMadeTypes.{class_named, made_element, element_diamond}
use Rattle.java_parser_grammar.proofs.BalancedTokens.{parameters_begin}
use Rattle.java_parser_grammar.proofs.OperatorTexts.{assignment_leads, step_leads}
use Rattle.java_parser_grammar.proofs.GrammarFronts.{front}
use Rattle.java_parser_grammar.proofs.Levels.{level_bears, bears_operator, bears_instance, bears_primary}
use Rattle.java_parser_grammar.proofs.Levels.{bears_index, level_variable, primary_shut}
use Rattle.java_parser_grammar.proofs.Taken.{not_pulled, no_arrow, no_open, no_point, no_bracket, no_brackets}
use Rattle.java_parser_grammar.proofs.Taken.{pull_close, pull_bracket, no_operand_stands, ends_here}
use Rattle.java_parser_grammar.proofs.Steps.{assign_step, conditional_step, binary_step, instance_step, postfix_step}
use Rattle.java_parser_grammar.proofs.Steps.{field_step, call_step, refer_step, index_step}
use Rattle.java_parser_grammar.proofs.Operands.{class_names, this_names, literal_operand, this_operand, name_operand}
use Rattle.java_parser_grammar.proofs.Operands.{call_operand, names_operand, super_operand, paren_operand, cast_operand}
use Rattle.java_parser_grammar.proofs.Operands.{prefix_operand, object_operand, body_operand, array_operand}
use Rattle.java_parser_grammar.proofs.Operands.{items_operand, lambda_found, block_found, plain_class_operand}
use Rattle.java_parser_grammar.proofs.Operands.{plain_reference_operand}
use Rattle.java_parser_grammar.proofs.Operands.{type_reference_operand}
use Rattle.java_parser_grammar.proofs.FoundTypes.{ty_found}
use Rattle.java_parser_grammar.proofs.TypeFronts.{EndsTy}
use Rattle.java_parser_grammar.proofs.TypeNames.{parts_no_class, angled_no_class, angled_goes, parts_go, typed_parts}
use Rattle.java_parser_grammar.proofs.TypeNames.{names_of, bare_named, bare_names}
use Rattle.java_parser_grammar.proofs.Lengths.{lengths_longer}
use Rattle.java_parser_grammar.proofs.Casts.{parens_no_cast, signed_cast}
use Rattle.java_parser_grammar.proofs.NoLambda.{begins_none}
use Rattle.java_parser_grammar.proofs.Meetings.{Met, alone, from_operand, from_lambda, from_turn, pull_operator}
use Rattle.java_parser_grammar.proofs.LeavesForms.{binary_leaves, assignment_leaves, step_leaves, question_leaves}
use Rattle.java_parser_grammar.proofs.LeavesForms.{instance_leaves, field_leaves, index_leaves, call_leaves}
use Rattle.java_parser_grammar.proofs.LeavesForms.{reference_leaves, none_begins, referred_found, last_found}
use Rattle.java_parser_grammar.proofs.MetLists.{MetArguments, Measured, Filled}
use Rattle.java_parser_grammar.proofs.FoundLists.{unpack_exprs, pack-unpack_exprs}

-- ---- form by form

-- an operand begins no lambda
none_begun : (e : Expr) → FormedExpr e → is_lambda e ≡ false → (rest : List Spelled) → pull rest ≤ 16
    → begins_lambda (expr_onto e rest) ≡ false
none_begun e f l rest quiet = begins_none e f l rest (no_arrow rest quiet)

no_brace : (rest : List Spelled) → pull rest ≤ 16 → begins_with (codes "{") rest ≡ false
unfolding lead
no_brace rest quiet = none_begins (codes "{") rest (not_pulled (codes "{") 16 rest (λ ts. omega arith) quiet)

no_brace_front : (a : Expr) → FormedExpr a → (rest : List Spelled) → begins_with (codes "{") (expr_onto a rest) ≡ false
no_brace_front a f rest = none_begins (codes "{") (expr_onto a rest) (front a f rest).not_brace

shut_level : (b : Bool) (m n k : ℕ) → cond b m n ≤ k → b ≡ false → n ≤ k
shut_level true m n k h e = absurd cc
shut_level false m n k h e = h

is_shut : (b : Bool) → IsTrue (not b) → b ≡ false
is_shut true h = absurd cc
is_shut false h = refl

pub field_met : (a : Expr) (x : List ℕ) → 14 ≤ level a → Met a → Met (Field a x)
unfolding lead
field_met a x high m = record {
  by = λ n l rest k fits low quiet opens leaves eq.
      from_turn n l k a (Field a x) (sign (codes ".") ∷ identifier x ∷ rest) rest m (omega arith) (omega arith)
      (omega (arith, bears_primary a high)) (primary_shut a high) (field_leaves x rest leaves) (omega arith)
      (field_step (read_at n) n l a x rest high fits (no_open rest quiet));
}

pub binary_met : (a : Expr) (op : List ℕ) (b : Expr) → FormedExpr (Binary a op b) → Met a → Met b → Met (Binary a op b)
binary_met a op b f m m' = record {
  by = λ n l rest k fits low quiet opens leaves eq.
      let unglued = (front b f.1 rest).unglued in
      let above = bears_operator a op f.2 f.3 in
      let pulls = pull_operator op (expr_onto b rest) f.2 unglued in
      from_turn n l k a (Binary a op b) (operator_onto op (expr_onto b rest)) rest m (omega arith) (omega arith)
      (omega arith) (is_shut (ends_open a) f.5) (binary_leaves op b f.2 f.1 rest leaves.types.1) (omega arith)
      (binary_step (read_at n) n l a op b (expr_onto b rest) rest low f.3 f.2 fits unglued
      (alone b m' n (suc (binary_level op)) rest (omega arith) f.4 quiet opens leaves.types));
}

-- what is cast is read at the level that its types leave
cast_found : (ts : List Ty) (a : Expr) → FormedExpr a → Met a → (n : ℕ) (rest : List Spelled) → expr_nesting a ≤ n
    → cast_level ts a ≤ level a → pull rest ≤ 12 → (IsTrue (ends_open a) → pull rest ≤ 0) → LeavesTypes rest
    → read_at n (cond (are_plain ts) 12 (lambda_level 12 (expr_onto a rest))) (expr_onto a rest) ≡ Some (a, rest)
cast_found ts a f m n rest fits high quiet opens types = by_plain (are_plain ts) (is_lambda a) refl high where
  by_plain : (plain lambda : Bool) → is_lambda a ≡ lambda → cond (lambda && not plain) 0 12 ≤ level a
      → read_at n (cond plain 12 (lambda_level 12 (expr_onto a rest))) (expr_onto a rest) ≡ Some (a, rest)
  by_plain true true is h = alone a m n 12 rest fits h quiet opens types
  by_plain true false is h = alone a m n 12 rest fits h quiet opens types
  by_plain false true is h = last_found a f m n 12 rest fits (omega arith) (λ e. absurd (false≢true (sym e ∙ is))) quiet
      opens types
  by_plain false false is h = last_found a f m n 12 rest fits (omega arith) (λ e. h) quiet opens types

pub cast_met : (ts : List Ty) (a : Expr) → FormedExpr (Cast ts a) → Met a → Met (Cast ts a)
cast_met [] a f m = absurd (false≢true f.1)
cast_met (t ∷ ts) a f m = record {
  by = λ n l rest k fits low quiet opens leaves eq.
      from_operand n l k (Cast (t ∷ ts) a) _ rest (none_begun (Cast (t ∷ ts) a) f refl rest (omega arith))
      (cast_operand (read_at n) n (made_base_at n) (array_at n) (t ∷ ts) a (between_sign (codes "&") (t ∷ ts)
      (sign (codes ")") ∷ expr_onto a rest)) (expr_onto a rest) rest
      (signed_cast (t ∷ ts) a f.0 f.2 f.4 rest)
      (between_found (codes "&") refl EndsTy (λ s. record { less = refl; point = refl; brackets = refl }) FormedTy n
      (ty_at n) (λ t g s. ty_found t g n s) t ts f.0 (sign (codes ")") ∷ expr_onto a rest) (omega arith) refl (record {
        less = refl;
        point = refl;
        brackets = refl;
      }))
      (cast_found (t ∷ ts) a f.2 m n rest (omega arith) f.3 quiet opens leaves.types)) (omega arith);
}

pub assign_met : (a : Expr) (op : List ℕ) (b : Expr) → FormedExpr (Assign a op b) → Met a → Met b → Met (Assign a op b)
assign_met a op b f m m' = record {
  by = λ n l rest k fits low quiet opens leaves eq.
      let primary = level_variable a f.3 in
      let pulls = ap pull_of (assignment_leads op (expr_onto b rest) f.2) in
      from_turn n l k a (Assign a op b) (sign op ∷ expr_onto b rest) rest m (omega arith) (omega arith)
      (omega (arith, level_bears a)) (primary_shut a (omega arith)) (assignment_leaves op (expr_onto b rest) f.2)
      (omega arith)
      (assign_step (read_at n) n l a op b (expr_onto b rest) rest low f.3 f.2 fits (alone b m' n 0 rest (omega arith)
      (omega arith) quiet opens leaves.types));
}

pub conditional_met : (a b c : Expr) → FormedExpr (Conditional a b c) → Met a → Met b → Met c → Met (Conditional a b c)
unfolding lead
conditional_met a b c f m m' m'' = record {
  by = λ n l rest k fits low quiet opens leaves eq.
      let r = sign (codes ":") ∷ expr_onto c rest in
      from_turn n l k a (Conditional a b c) (sign (codes "?") ∷ expr_onto b r) rest m (omega arith) (omega arith)
      (omega (arith, level_bears a)) (is_shut (ends_open a) f.5) (question_leaves b f.1 (expr_onto c rest))
      (omega arith)
      (conditional_step (read_at n) n l a b c (expr_onto b r) (expr_onto c rest) rest low f.3 fits (alone b m' n 0 r
      (omega arith) (omega arith) (omega arith) (λ o. omega arith) ((λ l. refl), (λ l d. refl), refl))
      (last_found c f.2 m'' n 1 rest (omega arith) (omega arith) (shut_level (is_lambda c) 0 1 (level c) f.4) quiet
      opens leaves.types));
}

pub instance_met : (a : Expr) (t : Ty) → FormedExpr (InstanceOf a t) → Met a → Met (InstanceOf a t)
unfolding lead
instance_met a t f m = record {
  by = λ n l rest k fits low quiet opens leaves eq.
      from_turn n l k a (InstanceOf a t) (keyword (codes "instanceof") ∷ ty_onto t rest) rest m (omega arith)
      (omega arith) (omega (arith, bears_instance a f.2)) (is_shut (ends_open a) f.3)
      (instance_leaves (ty_onto t rest)) (omega arith)
      (instance_step (read_at n) n l a t (ty_onto t rest) rest low f.2 fits (tested_found t f.1 n rest (omega arith)
      (record {
        less = λ l. leaves_less rest l (leaves.types.0 l) (no_point rest (omega arith));
        operand = no_operand_stands rest quiet leaves.types.2;
        point = no_point rest (omega arith);
        brackets = no_brackets rest (omega arith);
      })));
}

pub prefix_met : (op : List ℕ) (a : Expr) → FormedExpr (Prefix op a) → Met a → Met (Prefix op a)
prefix_met op a f m = record {
  by = λ n l rest k fits low quiet opens leaves eq.
      from_operand n l k (Prefix op a) _ rest (none_begun (Prefix op a) f refl rest (omega arith))
      (prefix_operand (read_at n) n (made_base_at n) (array_at n) op a (expr_onto a rest) rest f.1 f.3
      (alone a m n 12 rest (omega arith) f.2 quiet opens leaves.types)) (omega arith);
}

pub postfix_met : (a : Expr) (op : List ℕ) → FormedExpr (Postfix a op) → Met a → Met (Postfix a op)
postfix_met a op f m = record {
  by = λ n l rest k fits low quiet opens leaves eq.
      let primary = level_variable a f.2 in
      let pulls = ap pull_of (step_leads op rest f.1) in
      from_turn n l k a (Postfix a op) (sign op ∷ rest) rest m (omega arith) (omega arith)
      (omega (arith, level_bears a)) (primary_shut a (omega arith)) (step_leaves op rest f.1) (omega arith)
      (postfix_step (read_at n) n l a op rest low f.2 f.1 fits);
}

pub literal_met : (k : TokenKind) (text : List ℕ) → FormedExpr (Literal k text) → Met (Literal k text)
literal_met kind text f = record {
  by = λ n l rest k fits low quiet opens leaves eq.
      from_operand n l k (Literal kind text) _ rest (none_begun (Literal kind text) f refl rest quiet)
      (literal_operand (read_at n) n (made_base_at n) (array_at n) kind text rest f) (omega arith);
}

pub this_met : Met This
this_met = record {
  by = λ n l rest k fits low quiet opens leaves eq.
      from_operand n l k This _ rest (none_begun This tt refl rest quiet)
      (this_operand (read_at n) n (made_base_at n) (array_at n) rest) (omega arith);
}

pub name_met : (x : List ℕ) → Met (Name x)
name_met x = record {
  by = λ n l rest k fits low quiet opens leaves eq.
      from_operand n l k (Name x) _ rest (none_begun (Name x) tt refl rest quiet)
      (name_operand (read_at n) n (made_base_at n) (array_at n) x rest leaves.unclassed (leaves.types.0 n)
      (no_open rest quiet)) (omega arith);
}

pub class_met : (xs : List (List ℕ)) → FormedExpr (ClassOf xs) → Met (ClassOf xs)
class_met [] f = absurd cc
class_met (x ∷ xs) f = record {
  by = λ n l rest k fits low quiet opens leaves eq.
      let r = behind_points xs (sign (codes ".") ∷ keyword (codes "class") ∷ rest) in
      from_operand n l k (ClassOf (x ∷ xs)) _ rest (none_begun (ClassOf (x ∷ xs)) f refl rest quiet)
      (names_operand (read_at n) n (made_base_at n) (array_at n) x xs AtClass r rest (class_names xs rest))
      (omega arith);
}

pub this_of_met : (xs : List (List ℕ)) → FormedExpr (ThisOf xs) → Met (ThisOf xs)
this_of_met [] f = absurd cc
this_of_met (x ∷ xs) f = record {
  by = λ n l rest k fits low quiet opens leaves eq.
      let r = behind_points xs (sign (codes ".") ∷ keyword (codes "this") ∷ rest) in
      from_operand n l k (ThisOf (x ∷ xs)) _ rest (none_begun (ThisOf (x ∷ xs)) f refl rest quiet)
      (names_operand (read_at n) n (made_base_at n) (array_at n) x xs AtThis r rest (this_names xs rest)) (omega arith);
}

pub paren_met : (a : Expr) → FormedExpr a → Met a → Met (Paren a)
paren_met a f m = record {
  by = λ n l rest k fits low quiet opens leaves eq.
      let r = sign (codes ")") ∷ rest in
      from_operand n l k (Paren a) _ rest (none_begun (Paren a) f refl rest quiet)
      (paren_operand (read_at n) n (made_base_at n) (array_at n) a (expr_onto a r) rest (parens_no_cast a f rest quiet)
      (alone a m n 0 r (omega arith) (omega arith) (omega (arith, pull_close rest)) (λ o. omega (
        arith,
        pull_close
            rest,
      )) ((λ l. refl), (λ l d. refl), refl))) (omega arith);
}

pub index_met : (a i : Expr) → FormedExpr (Index a i) → Met a → Met i → Met (Index a i)
unfolding lead
index_met a i f m m' = record {
  by = λ n l rest k fits low quiet opens leaves eq.
      let r = sign (codes "]") ∷ rest in
      from_turn n l k a (Index a i) (sign (codes "[") ∷ expr_onto i r) rest m (omega arith) (omega arith)
      (omega (arith, bears_index a f.2 f.3)) (primary_shut a f.2) (index_leaves i f.1 rest) (omega arith)
      (index_step (read_at n) n l a i (expr_onto i r) rest f.2 f.3 fits (alone i m' n 0 r (omega arith) (omega arith)
      (omega arith) (λ o. omega arith) ((λ l. refl), (λ l d. refl), refl)));
}

pub call_met : (x : List ℕ) (all : Exprs) → FormedExprs all → MetArguments all → Met (Call x all)
call_met x all f g = record {
  by = λ n l rest k fits low quiet opens leaves eq.
      from_operand n l k (Call x all) _ rest (none_begun (Call x all) f refl rest quiet)
      (call_operand (read_at n) n (made_base_at n) (array_at n) x all (unpack_exprs all)
      (exprs_onto all (sign (codes ")") ∷ rest)) rest (pack-unpack_exprs all) (g.by n rest (omega arith)))
      (omega arith);
}

pub call_on_met : (a : Expr) (types : Option Arguments) (x : List ℕ) (all : Exprs) → FormedTypes types → 14 ≤ level a
    → Met a → MetArguments all → Met (CallOn a types x all)
unfolding lead
call_on_met a types x all f high m g = record {
  by = λ n l rest k fits low quiet opens leaves eq.
      let r = exprs_onto all (sign (codes ")") ∷ rest) in
      let q = maybe_angled_onto types (identifier x ∷ sign (codes "(") ∷ r) in
      from_turn n l k a (CallOn a types x all) (sign (codes ".") ∷ q) rest m (omega arith)
      (omega arith) (omega (arith, bears_primary a high)) (primary_shut a high) (call_leaves types f x r) (omega arith)
      (call_step (read_at n) n l a types x all (unpack_exprs all) q r rest high fits (pack-unpack_exprs all)
      (types_found types f n (identifier x ∷ sign (codes "(") ∷ r) (omega arith) refl)
      (g.by n rest (omega arith)));
}

pub reference_met : (a : Expr) (types : Option Arguments) (x : Option (List ℕ)) → FormedTypes types → 14 ≤ level a
    → Met a → Met (Reference a types x)
unfolding lead
reference_met a types x f high m = record {
  by = λ n l rest k fits low quiet opens leaves eq.
      let r = referred_onto types x rest in
      from_turn n l k a (Reference a types x) (sign (codes "::") ∷ r) rest m (omega arith)
      (omega arith) (omega (arith, bears_primary a high)) (primary_shut a high) (reference_leaves r) (omega arith)
      (refer_step (read_at n) n l a types x r rest high fits (referred_found types x f n rest (omega arith)));
}

pub super_met : (types : Option Arguments) (x : Option (List ℕ)) → FormedTypes types → Met (SuperReference types x)
super_met types x f = record {
  by = λ n l rest k fits low quiet opens leaves eq.
      from_operand n l k (SuperReference types x) _ rest (none_begun (SuperReference types x) f refl rest quiet)
      (super_operand (read_at n) n (made_base_at n) (array_at n) types x (referred_onto types x rest) rest
      (referred_found types x f n rest (omega arith))) (omega arith);
}

plain_class_met : (text : List ℕ) (m : ℕ) → FormedExpr (PlainClass (Typed (Plain text) m))
    → Met (PlainClass (Typed (Plain text) m))
plain_class_met text m f = record {
  by = λ n l rest k fits low quiet opens leaves eq.
      let e = PlainClass (Typed (Plain text) m) in
      from_operand n l k e _ rest (none_begun e f refl rest quiet)
      (plain_class_operand (read_at n) n (made_base_at n) (array_at n) text m rest f) (omega arith);
}

plain_reference_met : (text : List ℕ) (m : ℕ) (types : Option Arguments) (x : Option (List ℕ))
    → FormedExpr (TypeReference (Typed (Plain text) m) types x) → Met (TypeReference (Typed (Plain text) m) types x)
plain_reference_met text m types x f = record {
  by = λ n l rest k fits low quiet opens leaves eq.
      let e = TypeReference (Typed (Plain text) m) types x in
      from_operand n l k e _ rest (none_begun e f refl rest quiet)
      (plain_reference_operand (read_at n) n (made_base_at n) (array_at n) text m types x (referred_onto types x rest)
      rest f.0 (le-leb 1 n (omega arith)) (referred_found types x f.1 n rest (omega arith)) f.2) (omega arith);
}

pub array_class_met : (ps : Parts) (m : ℕ) → FormedExpr (PlainClass (Typed (Named ps) m))
    → Met (PlainClass (Typed (Named ps) m))
array_class_met no_part m f = absurd (false≢true f.1)
array_class_met (part_then (Generic x a) ps) m f = absurd (false≢true f.0)
array_class_met (part_then (Bare x) ps) zero f = absurd (omega (arith, f.2))
array_class_met (part_then (Bare x) ps) (suc m) f = record {
  by = λ n l rest k fits low quiet opens leaves eq.
      let e = PlainClass (Typed (Named (part_then (Bare x) ps)) (suc m)) in
      let r = brackets_onto (suc m) (sign (codes ".") ∷ keyword (codes "class") ∷ rest) in
      from_operand n l k e _ rest (none_begun e f refl rest quiet)
      (names_operand (read_at n) n (made_base_at n) (array_at n) x (names_of ps) (AtArray (suc m))
      (more_parts_onto ps r) rest (bare_names ps f.0 m rest)
      ∙ ap (λ (qs : Parts). Some (PlainClass (Typed (Named (part_then (Bare x) qs)) (suc m)), rest))
      (bare_named ps f.0)) (omega arith);
}

named_reference : (x : List ℕ) (t : Ty) (types : Option Arguments) (y : Option (List ℕ)) (q : List Spelled → List
    Spelled) → FormedExpr (TypeReference t types y) → ((rest : List Spelled) → ty_onto t rest ≡ identifier x ∷ q rest)
    → ((ts : List Spelled) → class_at true (q (sign (codes "::") ∷ ts)) ≡ None)
    → ((l : ℕ) (ts : List Spelled) → ty_nesting t ≤ l → goes_typed l (q (sign (codes "::") ∷ ts)) ≡ true)
    → Met (TypeReference t types y)
named_reference x t types y q f spelled unclassed typed = record {
  by = λ n l rest k fits low quiet opens leaves eq.
      let e = TypeReference t types y in
      let r = referred_onto types y rest in
      let s = sign (codes "::") ∷ r in
      from_operand n l k e _ rest (none_begun e f refl rest quiet)
      (ap (operand_with (read_at n) n (made_base_at n) (array_at n)) (spelled s)
      ∙ type_reference_operand (read_at n) n (made_base_at n) (array_at n) x t types y (q s) r rest (unclassed r)
      (typed n r (omega arith)) (ap (ty_at n) (sym (spelled s)) ∙ ty_found t f.0 n s (omega arith) (record {
        less = refl;
        point = refl;
        brackets = refl;
      })) (referred_found types y f.1 n rest (omega arith)) f.2) (omega arith);
}

pub type_reference_met : (t : Ty) (types : Option Arguments) (y : Option (List ℕ))
    → FormedExpr (TypeReference t types y) → Met (TypeReference t types y)
type_reference_met (Typed (Plain text) m) types y f = plain_reference_met text m types y f
type_reference_met (Typed (Named no_part) m) types y f = absurd (false≢true f.0.1)
type_reference_met (Typed (Named (part_then (Bare x) ps)) m) types y f =
    named_reference x (Typed (Named (part_then (Bare x) ps)) m) types y
    (λ ts. more_parts_onto ps (brackets_onto m ts)) f (λ ts. refl) (parts_no_class ps m)
    (λ l ts fits. parts_go ps f.0.0.1 m (typed_parts (part_then (Bare x) ps) m f.2) l ts (omega (arith, fits)))
type_reference_met (Typed (Named (part_then (Generic x a) ps)) m) types y f =
    named_reference x (Typed (Named (part_then (Generic x a) ps)) m) types y
    (λ ts. angled_onto a (more_parts_onto ps (brackets_onto m ts))) f (λ ts. refl)
    (λ ts. angled_no_class a (more_parts_onto ps (brackets_onto m (sign (codes "::") ∷ ts))))
    (λ l ts fits. angled_goes a f.0.0.0 ps m l ts (omega (arith, fits)))

pub class_literal_met : (t : Ty) → FormedExpr (PlainClass t) → Met (PlainClass t)
class_literal_met (Typed (Plain text) m) f = plain_class_met text m f
class_literal_met (Typed (Named ps) m) f = array_class_met ps m f

pub body_met : (t : Ty) (all : Exprs) (body : List Spelled) → FormedExpr (NewBody t all body) → MetArguments all
    → Met (NewBody t all body)
body_met t all body f g = record {
  by = λ n l rest k fits low quiet opens leaves eq.
      let q = tokens_onto body rest in
      let s = exprs_onto all (sign (codes ")") ∷ q) in
      let r = sign (codes "(") ∷ s in
      from_operand n l k (NewBody t all body) _ rest (none_begun (NewBody t all body) f refl rest quiet)
      (body_operand (read_at n) n (made_base_at n) (array_at n) (base_of t) t all (unpack_exprs all) body
      (ty_onto t r) s q rest (whole_type t (class_arrays t f.0)) (class_named t f.0) (pack-unpack_exprs all)
      (made_found t (made_class t f.0) (class_arrays t f.0) n r (omega arith) (record { less = refl; point = refl }))
      (g.by n q (omega arith)) (braces_begin body f.2 rest) (braces_found body f.2 rest)) (omega arith);
}

pub lambda_met : (ps : List Spelled) (a : Expr) → FormedExpr (Lambda ps a) → Met a → Met (Lambda ps a)
lambda_met ps a f m = record {
  by = λ n l rest k fits low quiet opens leaves eq.
      let r = expr_onto a rest in
      let q = tokens_onto ps (sign (codes "->") ∷ r) in
      let none : l ≡ 0 = omega arith in
      subst (λ l. read_at (suc n) l q ≡ climb_with (read_at n) n l k (Lambda ps a) rest) (sym none)
      (from_lambda n k (Lambda ps a) q rest (parameters_begin ps f.0 r)
      (lambda_found (read_at n 0) ps a q r rest (parameters_found ps f.0 (sign (codes "->") ∷ r))
      (no_brace_front a f.1 rest)
      (alone a m n 0 rest (omega arith) (omega arith) quiet (λ o. quiet) leaves.types) (ends_here rest quiet)) quiet
      (omega arith));
}

pub block_met : (ps block : List Spelled) → FormedExpr (BlockLambda ps block) → Met (BlockLambda ps block)
block_met ps block f = record {
  by = λ n l rest k fits low quiet opens leaves eq.
      let r = tokens_onto block rest in
      let q = tokens_onto ps (sign (codes "->") ∷ r) in
      let none : l ≡ 0 = omega arith in
      subst (λ l. read_at (suc n) l q ≡ climb_with (read_at n) n l k (BlockLambda ps block) rest) (sym none)
      (from_lambda n k (BlockLambda ps block) q rest (parameters_begin ps f.0 r)
      (block_found (read_at n 0) ps block q r rest (parameters_found ps f.0 (sign (codes "->") ∷ r))
      (braces_begin block f.1 rest) (braces_found block f.1 rest)) quiet
      (omega arith));
}

pub new_met : (t : Ty) (all : Exprs) → FormedExpr (New t all) → MetArguments all → Met (New t all)
new_met t all f g = record {
  by = λ n l rest k fits low quiet opens leaves eq.
      let s = exprs_onto all (sign (codes ")") ∷ rest) in
      let r = sign (codes "(") ∷ s in
      from_operand n l k (New t all) _ rest (none_begun (New t all) f refl rest quiet)
      (object_operand (read_at n) n (made_base_at n) (array_at n) (base_of t) t all (unpack_exprs all)
      (ty_onto t r) s rest (whole_type t (class_arrays t f.0)) (class_named t f.0) (pack-unpack_exprs all)
      (made_found t (made_class t f.0) (class_arrays t f.0) n r (omega arith) (record { less = refl; point = refl }))
      (g.by n rest (omega arith)) (no_brace rest quiet)) (omega arith);
}

array_no_brackets : (a : Array) (rest : List Spelled) → after_brackets (array_onto a rest) ≡ None
array_no_brackets (Braces items last) rest = refl

pub items_met : (t : Ty) (m : ℕ) (items : Array) → FormedExpr (NewItems t m items) → Filled items
    → Met (NewItems t m items)
items_met t zero items f i = absurd (omega arith)
items_met t (suc m) items f i = record {
  by = λ n l rest k fits low quiet opens leaves eq.
      let s = array_onto items rest in
      let r = brackets_onto (suc m) s in
      from_operand n l k (NewItems t (suc m) items) _ rest (none_begun (NewItems t (suc m) items) f refl rest
      (omega arith))
      (items_operand (read_at n) n (made_base_at n) (array_at n) (base_of t) t m items (ty_onto t r) s rest
      (whole_type t f.0.1) (element_diamond t f.0.0)
      (made_found t (made_element t f.0.0) f.0.1 n r (omega arith) (record { less = refl; point = refl }))
      (array_no_brackets items rest) (i.by n rest (omega arith))) (omega arith);
}

pub array_met : (t : Ty) (e : Expr) (es : Exprs) (m : ℕ) → FormedExpr (NewArray t (expr_then e es) m) → Met e
    → Measured es → Met (NewArray t (expr_then e es) m)
array_met t e es m f met measured = record {
  by = λ n l rest k fits low quiet opens leaves eq.
      let s = lengths_onto es (brackets_onto m rest) in
      let b = sign (codes "]") ∷ s in
      let r = expr_onto e b in
      from_operand n l k (NewArray t (expr_then e es) m) _ rest (none_begun (NewArray t (expr_then e es) m) f refl rest
      (omega arith))
      (array_operand (read_at n) n (made_base_at n) (array_at n) (base_of t) t e (unpack_exprs es) es m
      (ty_onto t (sign (codes "[") ∷ r)) r s rest (whole_type t f.0.1) (element_diamond t f.0.0) (pack-unpack_exprs es)
      (made_found t (made_element t f.0.0) f.0.1 n (sign (codes "[") ∷ r) (omega arith) (record {
        less = refl;
        point = refl;
      }))
      (front e f.1.0 b).not_bracket
      (alone e met n 0 b (omega arith) (omega arith) (omega (arith, pull_bracket s)) (λ o. omega
      (arith, pull_bracket s))
      ((λ l. refl), (λ l d. refl), refl))
      (measured.by n (length s) m rest (omega arith) (omega (arith, lengths_longer es f.1.1 (brackets_onto m rest)))
      (no_bracket rest quiet))
      (no_brackets rest quiet)) (omega arith);
}
