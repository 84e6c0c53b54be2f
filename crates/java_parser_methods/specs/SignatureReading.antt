-- No public contract rests on this: reading a whole method in parts: up to its name, from there up to its body, and its
-- body.
use Rattle.std.specs.Prelude.{ℕ, List, ◌∷◌, length, map, Option, Some, codes, option_map}
use Rattle.java_tree.specs.declared.words.Spelled.{Spelled}
use Rattle.java_tree.specs.Trees.{Ty, Modifier, TypeParameters, Result, Parameter, Stmts, Method}
use Rattle.java_tree.specs.KeptPlaces.{all_places, ty_places}
use Rattle.java_tree.specs.KeptPlaces.{Marks, some_onto, each_marks, maybe_marks, modifier_marks}
use Rattle.java_tree.specs.MethodPlaces.{type_parameters_marks, result_places, parameter_marks}
use Rattle.java_tree.specs.View.{name_of, ty_of, modifier_of, type_parameters_of, result_of, parameter_of}
use Rattle.java_parser_grammar.specs.BalancedReading.{Reading}
use Rattle.java_parser_grammar.specs.Taking.{◌>>=◌, after_sign, after_name}
use Rattle.java_parser_grammar.specs.TypeReading.{brackets_at}
use Rattle.java_parser_grammar.specs.Readers.{Readers}
use Rattle.java_parser_grammar.specs.StatementReading.{block_at}
use Rattle.java_parser_grammar.specs.MethodReading.{parameters_at, throws_at, modifiers_at, type_parameters_at}
use Rattle.java_parser_grammar.specs.MethodReading.{result_at}
use Rattle.java_parser_grammar.specs.MethodReading.{any_number_at, arrays_behind, if_ended}
use Rattle.java_parser_methods.specs.declared.methods.Front as fronts
use Rattle.java_parser_methods.specs.declared.signatures.Signature as signatures

-- ---- up to its name

pub record Front : Type 0 where
  pub modifiers : List Modifier
  pub type_parameters : Option TypeParameters
  pub result : Result

abbrev pub front_of : fronts.Front → Front
front_of f =
    record {
      modifiers = map modifier_of f.modifiers;
      type_parameters = option_map type_parameters_of f.type_parameters;
      result = result_of f.given;
    }

-- the places that it keeps, and then the rest
abbrev pub front_marks : fronts.Front → Marks → Marks
front_marks f rest =
    each_marks modifier_marks f.modifiers (maybe_marks type_parameters_marks f.type_parameters (some_onto
    (result_places f.given) rest))

-- ---- from its name up to its body

pub record Signature : Type 0 where
  pub name : List ℕ
  pub parameters : List Parameter
  pub arrays : ℕ
  pub throws : List Ty

abbrev pub signature_of : signatures.Signature → Signature
signature_of s =
    record {
      name = name_of s.name;
      parameters = map parameter_of s.parameters.items;
      arrays = s.arrays;
      throws = map ty_of s.throws.items;
    }

-- the places that it keeps, and then the rest
abbrev pub signature_marks : signatures.Signature → Marks → Marks
signature_marks s rest =
    Some s.name.place ∷ each_marks parameter_marks s.parameters.items (some_onto
    (all_places (map ty_places s.throws.items)) rest)

-- a parameter behind these modifiers and this type
unfoldable pub parameter_from : List Modifier × Ty → Reading Parameter
parameter_from front ts =
    let more = any_number_at ts in after_name more.1 >>= λ x. let m = brackets_at (length x.1) x.1 in Some (
      record {
        modifiers = front.0;
        kind = front.1;
        any_number = more.0;
        name = x.0;
        arrays = m.0;
      },
      m.1,
    )

abbrev pub method_with : Front → Signature → Stmts → Method
method_with front s body =
    record {
      modifiers = front.modifiers;
      type_parameters = front.type_parameters;
      result = front.result;
      name = s.name;
      parameters = s.parameters;
      arrays = s.arrays;
      throws = s.throws;
      body = body;
    }

module _ (readers : Readers) where
  unfoldable pub front_at : ℕ → Reading Front
  front_at n ts = do
    modifiers ← modifiers_at (length ts) ts
    types ← type_parameters_at readers n modifiers.1
    result ← result_at readers n types.1
    Some (record { modifiers = modifiers.0; type_parameters = types.0; result = result.0 }, result.1)

  -- the parameters in their parentheses
  unfoldable pub parameter_list_at : ℕ → Reading (List Parameter)
  parameter_list_at n ts = do
    a ← after_sign (codes "(") ts
    parameters ← parameters_at readers n a
    b ← after_sign (codes ")") parameters.1
    Some (parameters.0, b)

  -- of a method that gives this
  unfoldable pub signature_at : ℕ → Result → Reading Signature
  signature_at n result ts = do
    x ← after_name ts
    parameters ← parameter_list_at n x.1
    let m = arrays_behind result parameters.1
    throws ← throws_at readers n m.1
    Some (record { name = x.0; parameters = parameters.0; arrays = m.0; throws = throws.0 }, throws.1)

  -- a block with no tokens behind it
  unfoldable pub last_block_at : ℕ → List Spelled → Option Stmts
  last_block_at n ts = do
    body ← block_at readers n ts
    if_ended body.0 body.1

  -- a whole method from its name on
  unfoldable pub whole_named_at : ℕ → Front → List Spelled → Option Method
  whole_named_at n front ts = do
    s ← signature_at n front.result ts
    body ← last_block_at n s.1
    Some (method_with front s.0 body)

  unfoldable pub whole_method_at : ℕ → List Spelled → Option Method
  whole_method_at n ts = do
    front ← front_at n ts
    whole_named_at n front.0 front.1
