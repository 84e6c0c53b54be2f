-- A contract of a public call rests on this: reading methods, over readers of expressions, types and initialisers.
use Rattle.std.specs.Prelude.{ℕ, zero, suc, Bool, true, false, List, [], ◌∷◌, length, Option, Some, None, codes}
use Rattle.std.specs.Prelude.{if◌then◌else◌}
use Rattle.java_tree.specs.declared.words.Spelled.{Spelled}
use Rattle.java_tree.specs.FormedMethods.{is_any_number_last}
use Rattle.java_tree.specs.Formed.{is_named}
use Rattle.java_tree.specs.Trees.{Ty, Modifier, Word, Annotated, Result, NoResult, VoidResult}
use Rattle.java_tree.specs.Trees.{TypeResult, Parameter, TypeParameter, TypeParameters, Method}
use Rattle.java_parser_grammar.specs.BalancedReading.{Reading}
use Rattle.java_parser_grammar.specs.Taking.{◌>>=◌, match_option, after_sign, after_keyword, after_name, after_angle}
use Rattle.java_parser_grammar.specs.BalancedReading.{annotation_at, annotations_at, before_type_at}
use Rattle.java_parser_grammar.specs.TypeReading.{between_each, brackets_at}
use Rattle.java_parser_grammar.specs.Readers.{Readers}
use Rattle.java_parser_grammar.specs.Leads.{begins_with}
use Rattle.java_parser_grammar.specs.Lookahead.{is_constructor, after_modifier}
use Rattle.java_parser_grammar.specs.StatementReading.{comma_list, block_at}

-- ---- the head of a method

-- words and annotations, as long as they come
unfoldable pub modifiers_at : ℕ → Reading (List Modifier)
modifiers_at zero ts = None
modifiers_at (suc m) ts = match_option (after_sign (codes "@") ts) (match_option (after_modifier ts) (Some ([], ts))
    (λ w. do
      others ← modifiers_at m w.1
      Some (Word w.0 ∷ others.0, others.1))) (λ r. do
        first ← annotation_at r
        others ← modifiers_at m first.1
        Some (Annotated first.0 ∷ others.0, others.1))

-- whether `...` stands here
abbrev pub any_number_at : List Spelled → Bool × List Spelled
any_number_at ts = match_option (after_sign (codes "...") ts) (false, ts) (λ r. (true, r))

-- the number of the `[ ]` behind the parameters, which stand where a method has a type
abbrev pub arrays_behind : Result → List Spelled → ℕ × List Spelled
arrays_behind (TypeResult t) ts = brackets_at (length ts) ts
arrays_behind _ ts = (0, ts)

-- what was read, where no tokens are left
abbrev pub if_ended : {A : Type 0} → A → List Spelled → Option A
if_ended x [] = Some x
if_ended x (t ∷ ts) = None

module _ (readers : Readers) where
  -- what a method gives
  unfoldable pub result_at : ℕ → Reading Result
  result_at n ts = if is_constructor ts then Some (NoResult, ts) else match_option (after_keyword (codes "void") ts) (do
    t ← readers.ty n ts
    Some (TypeResult t.0, t.1)) (λ r. Some (VoidResult, r))

  unfoldable pub parameter_at : ℕ → Reading Parameter
  parameter_at n ts = do
    ms ← before_type_at ts
    t ← readers.ty n ms.1
    let more = any_number_at t.1
    x ← after_name more.1
    let m = brackets_at (length x.1) x.1
    Some (record { modifiers = ms.0; kind = t.0; any_number = more.0; name = x.0; arrays = m.0 }, m.1)

  -- the parameters, up to the `)`
  abbrev pub parameters_at : ℕ → Reading (List Parameter)
  parameters_at n ts = if begins_with (codes ")") ts then Some ([], ts) else (do
    ps ← comma_list (parameter_at n) ts
    if is_any_number_last ps.0 then Some ps else None)

  unfoldable pub type_parameter_at : ℕ → Reading TypeParameter
  type_parameter_at n ts = do
    ns ← annotations_at (length ts) ts
    x ← after_name ns.1
    bounds ← match_option (after_keyword (codes "extends") x.1) (Some ([], x.1)) (between_each (codes "&")
        (readers.ty n))
    Some (record { annotations = ns.0; name = x.0; bounds = bounds.0 }, bounds.1)

  -- type parameters, where they stand, and the modifiers behind them
  unfoldable pub type_parameters_at : ℕ → Reading (Option TypeParameters)
  type_parameters_at n ts = match_option (after_sign (codes "<") ts) (Some (None, ts)) (λ r. do
    ps ← comma_list (type_parameter_at n) r
    angle ← after_angle ps.1
    ms ← modifiers_at (length angle.1) angle.1
    Some (Some (record { items = ps.0; glued = angle.0; modifiers = ms.0 }), ms.1))

  -- an exception's type
  abbrev pub thrown_at : ℕ → Reading Ty
  thrown_at n ts = do
    t ← readers.ty n ts
    if is_named t.0 then Some t else None

  unfoldable pub throws_at : ℕ → Reading (List Ty)
  throws_at n ts = match_option (after_keyword (codes "throws") ts) (Some ([], ts)) (λ r. comma_list (thrown_at n) r)

  -- ---- methods

  -- a method from its name on
  unfoldable pub named_at : ℕ → List Modifier → Option TypeParameters → Result → Reading Method
  named_at n modifiers type_parameters result ts = do
    x ← after_name ts
    a ← after_sign (codes "(") x.1
    parameters ← parameters_at n a
    b ← after_sign (codes ")") parameters.1
    let m = arrays_behind result b
    throws ← throws_at n m.1
    body ← block_at readers n throws.1
    Some (
      record {
        modifiers = modifiers;
        type_parameters = type_parameters;
        result = result;
        name = x.0;
        parameters = parameters.0;
        arrays = m.0;
        throws = throws.0;
        body = body.0;
      },
      body.1,
    )

  -- a method and the tokens behind it
  unfoldable pub method_from : ℕ → Reading Method
  method_from n ts = do
    modifiers ← modifiers_at (length ts) ts
    types ← type_parameters_at n modifiers.1
    result ← result_at n types.1
    named_at n modifiers.0 types.0 result.0 result.1

  -- the method that all these tokens are
  abbrev pub method_at : ℕ → List Spelled → Option Method
  method_at n ts = do
    m ← method_from n ts
    if_ended m.0 m.1
