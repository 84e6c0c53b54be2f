-- Each formed method is read.
use Rattle.std.proofs.Common.{◌≡◌, ℕ, zero, suc, ◌≤◌, ◌<◌, max, Bool, true, false, not, List, [], ◌∷◌, length, Option}
use Rattle.std.proofs.Common.{Some, None, IsTrue, codes, refl, sym, ap, ◌∙◌, arith}
use Rattle.java_tree.specs.declared.words.Spelled.{Spelled}
use Rattle.java_tree.specs.Words.{keyword, identifier, sign, sign_glued}
use Rattle.java_tree.specs.Trees.{Ty, Typed, Plain, Named, Parts, no_part, part_then, Bare, Generic, Angled, Stmts}
use Rattle.java_tree.specs.Trees.{Modifier, Word, Annotated, Result, NoResult, VoidResult, TypeResult, Parameter}
use Rattle.java_tree.specs.Trees.{TypeParameter, TypeParameters, Method}
use Rattle.java_tree.specs.Spelling.{commas_onto, behind_commas, brackets_onto, sign_where, ty_onto, more_parts_onto}
use Rattle.java_tree.specs.Spelling.{block_onto, annotations_onto, modifiers_onto, result_onto, parameter_onto}
use Rattle.java_tree.specs.Spelling.{bounds_onto, type_parameter_onto, type_parameters_onto, throws_onto, method_onto}
use Rattle.java_tree.specs.Spelling.{spelling}
use Rattle.java_tree.specs.FormedMethods.{FormedResult, FormedParameter, is_any_number_last, FormedTypeParameter}
use Rattle.java_tree.specs.FormedMethods.{FormedTypeParameters, is_typed, FormedMethod}
use Rattle.java_tree.specs.FormedModifiers.{Each}
use Rattle.java_tree.specs.Formed.{FormedTy, FormedThrown}
use Rattle.java_tree.specs.Nesting.{most_over, ty_nesting, result_nesting, parameter_nesting}
use Rattle.java_tree.specs.Nesting.{type_parameter_nesting, type_parameters_nesting, method_nesting}
use Rattle.java_parser_grammar.specs.Taking.{match_option, after_sign, after_keyword}
use Rattle.java_parser_grammar.specs.TypeReading.{after_brackets, between_each}
use Rattle.java_parser_grammar.specs.Readers.{Readers}
use Rattle.java_parser_grammar.specs.Leads.{begins_with}
use Rattle.java_parser_grammar.specs.Lookahead.{is_constructor}
use Rattle.java_parser_grammar.specs.MethodReading.{any_number_at, arrays_behind, result_at, parameter_at}
use Rattle.java_parser_grammar.specs.MethodReading.{parameters_at, type_parameter_at, type_parameters_at, thrown_at}
use Rattle.java_parser_grammar.specs.MethodReading.{throws_at, named_at, method_from, method_at}
use Rattle.java_parser_grammar.proofs.Annotations.{EndsModifiers, annotations_found, annotations_fit, modifiers_found}
use Rattle.java_parser_grammar.proofs.Annotations.{modifiers_fit, ends_name, ends_void, ends_type, before_type_found}
use Rattle.java_parser_grammar.proofs.FindingReaders.{Finds}
use Rattle.java_parser_grammar.proofs.FoundLists.{IsRead, list_found}
use Rattle.java_parser_grammar.proofs.FoundTypes.{brackets_found}
use Rattle.java_parser_grammar.proofs.FoundTypeLists.{between_found}
use Rattle.java_parser_grammar.proofs.FoundStatements.{body_block_found}
use Rattle.java_parser_grammar.proofs.Lengths.{between_longer}
use Rattle.java_parser_grammar.proofs.TypeFronts.{ty_front, ty_longer, brackets_longer}
use Rattle.java_parser_grammar.proofs.StatementFronts.{plain_cases, starts_ty}

-- ---- results

-- behind a part of a result's type no `(` stands
behind_part : (ps : Parts) (arrays : ℕ) (x : List ℕ) (rest : List Spelled) → begins_with (codes "(") (more_parts_onto
    ps (brackets_onto arrays (identifier x ∷ rest))) ≡ false
behind_part no_part zero x rest = refl
behind_part no_part (suc arrays) x rest = refl
behind_part (part_then p ps) arrays x rest = refl

type_before_name : (t : Ty) (x : List ℕ) (rest : List Spelled) → FormedTy t → is_constructor (ty_onto t (identifier x
    ∷ rest)) ≡ false
type_before_name (Typed (Plain text) arrays) x rest f = refl
type_before_name (Typed (Named no_part) arrays) x rest f = absurd cc
type_before_name (Typed (Named (part_then (Bare y) ps)) arrays) x rest f = behind_part ps arrays x rest
type_before_name (Typed (Named (part_then (Generic y (Angled list glued)) ps)) arrays) x rest f = refl

no_void : (t : Ty) (rest : List Spelled) → FormedTy t → after_keyword (codes "void") (ty_onto t rest) ≡ None
no_void (Typed (Plain text) arrays) rest f =
    plain_cases (λ word. after_keyword (codes "void") (keyword word ∷ brackets_onto arrays rest) ≡ None) refl refl
    refl refl refl refl refl refl text f
no_void (Typed (Named no_part) arrays) rest f = absurd cc
no_void (Typed (Named (part_then (Bare x) ps)) arrays) rest f = refl
no_void (Typed (Named (part_then (Generic x a) ps)) arrays) rest f = refl

-- no modifiers go on with a result and the name
ends_result : (r : Result) (x : List ℕ) (rest : List Spelled) → FormedResult r → EndsModifiers
    (result_onto r (identifier x ∷ rest))
ends_result NoResult x rest f = ends_name x rest
ends_result VoidResult x rest f = ends_void (identifier x ∷ rest)
ends_result (TypeResult t) x rest f = ends_type t (identifier x ∷ rest) f

-- no type parameters stand before a result and the name
result_shut : (r : Result) (x : List ℕ) (rest : List Spelled) → FormedResult r → after_sign (codes "<") (result_onto r
    (identifier x ∷ rest)) ≡ None
result_shut NoResult x rest f = refl
result_shut VoidResult x rest f = refl
result_shut (TypeResult t) x rest f = (ty_front t (identifier x ∷ rest) f).no_sign (codes "<")

-- no modifiers go on with type parameters, a result and the name
ends_types : (types : Option TypeParameters) (rest : List Spelled) → EndsModifiers rest → EndsModifiers
    (type_parameters_onto types rest)
ends_types None rest e = e
ends_types (Some ps) rest e =
    record { annotation = record { no_point = refl; no_open = refl }; no_at = refl; no_word = refl }

-- ---- lengths

where_longer : (stands : Bool) (text : List ℕ) (r : List Spelled) → length r ≤ length (sign_where stands text r)
where_longer true text r = omega arith
where_longer false text r = omega arith

parameter_longer : (p : Parameter) (r : List Spelled) → length r ≤ length (parameter_onto p r)
parameter_longer p r =
    let named = identifier p.name ∷ brackets_onto p.arrays r in
    let typed = sign_where p.any_number (codes "...") named in
    omega (
      arith,
      brackets_longer p.arrays r,
      where_longer p.any_number (codes "...") named,
      ty_longer p.kind typed,
      modifiers_fit p.modifiers (ty_onto p.kind typed),
    )

bounds_longer : (ts : List Ty) (r : List Spelled) → length r ≤ length (bounds_onto ts r)
bounds_longer [] r = omega arith
bounds_longer (t ∷ ts) r = omega (arith, between_longer (codes "&") (t ∷ ts) r)

type_parameter_longer : (p : TypeParameter) (r : List Spelled) → length r ≤ length (type_parameter_onto p r)
type_parameter_longer p r =
    omega (
      arith,
      bounds_longer p.bounds r,
      annotations_fit p.annotations (identifier p.name ∷ bounds_onto p.bounds r),
    )

behind_longer : (ps : List TypeParameter) (r : List Spelled) → length r ≤ length
    (behind_commas type_parameter_onto ps r)
behind_longer [] r = omega arith
behind_longer (p ∷ ps) r =
    omega (arith, behind_longer ps r, type_parameter_longer p (behind_commas type_parameter_onto ps r))

listed_longer : (ps : List TypeParameter) (r : List Spelled) → length r ≤ length (commas_onto type_parameter_onto ps r)
listed_longer [] r = omega arith
listed_longer (p ∷ ps) r =
    omega (arith, behind_longer ps r, type_parameter_longer p (behind_commas type_parameter_onto ps r))

types_longer : (types : Option TypeParameters) (r : List Spelled) → length r ≤ length (type_parameters_onto types r)
types_longer None r = omega arith
types_longer (Some ps) r =
    let tail = modifiers_onto ps.modifiers r in
    omega (arith, modifiers_fit ps.modifiers r, listed_longer ps.items (sign_glued ps.glued (codes ">") ∷ tail))

result_longer : (r : Result) (rest : List Spelled) → length rest ≤ length (result_onto r rest)
result_longer NoResult rest = omega arith
result_longer VoidResult rest = omega arith
result_longer (TypeResult t) rest = ty_longer t rest

module _ (readers : Readers) (EndsTy EndsExpr : List Spelled → Type 0) (finds : Finds readers EndsTy EndsExpr) where
  result_found : (r : Result) (n : ℕ) (x : List ℕ) (rest : List Spelled) → FormedResult r → result_nesting r ≤ n
      → result_at readers n (result_onto r (identifier x ∷ sign (codes "(") ∷ rest)) ≡ Some (
        r,
        identifier x
            ∷ sign (codes "(") ∷ rest,
      )
  unfolding result_at
  result_found NoResult n x rest f fits = refl
  result_found VoidResult n x rest f fits = refl
  result_found (TypeResult t) n x rest f fits =
      let r = sign (codes "(") ∷ rest in
      rw (
        type_before_name t x r f,
        no_void t (identifier x ∷ r) f,
        finds.ty t f n (identifier x ∷ r) fits
            (finds.name_ends_ty x r),
      ) refl

  -- ---- parameters

  -- what does not go on with a parameter
  abbrev EndsParameter : List Spelled → Type 0
  EndsParameter rest = after_brackets rest ≡ None

  any_number_found : (any_number : Bool) (x : List ℕ) (r : List Spelled) → any_number_at (sign_where any_number
      (codes "...") (identifier x ∷ r)) ≡ (any_number, identifier x ∷ r)
  any_number_found true x r = refl
  any_number_found false x r = refl

  any_number_ends : (any_number : Bool) (x : List ℕ) (r : List Spelled) → EndsTy (sign_where any_number (codes "...")
      (identifier x ∷ r))
  any_number_ends true x r = finds.points_end_ty _
  any_number_ends false x r = finds.name_ends_ty x r

  -- a parameter is read
  parameter_found : (p : Parameter) (n : ℕ) (r : List Spelled) → FormedParameter p → parameter_nesting p ≤ n
      → EndsParameter r → parameter_at readers n (parameter_onto p r) ≡ Some (p, r)
  unfolding parameter_at
  parameter_found p n r f fits ends =
      let arrays = brackets_onto p.arrays r in
      let typed = sign_where p.any_number (codes "...") (identifier p.name ∷ arrays) in
      rw (
        before_type_found p.modifiers p.kind typed f.0 f.1,
        finds.ty p.kind f.1 n typed fits (any_number_ends p.any_number p.name arrays),
        any_number_found p.any_number p.name arrays,
        brackets_found (length arrays) p.arrays r (omega (arith, brackets_longer p.arrays r)) ends,
      ) refl

  parameters_read : (ps : List Parameter) (n : ℕ) → Each FormedParameter ps → most_over parameter_nesting ps ≤ n
      → Each (IsRead parameter_onto (parameter_at readers n) EndsParameter) ps
  parameters_read [] n f fits = tt
  parameters_read (p ∷ ps) n f fits = (
    record {
      found = λ r ends. parameter_found p n r f.0 (omega arith) ends;
      longer = parameter_longer p;
      behind = λ r ends. refl;
    },
    parameters_read ps n f.1 (omega arith),
  )

  modifiers_open : (ms : List Modifier) (t : Ty) (rest : List Spelled) → FormedTy t → begins_with (codes ")")
      (modifiers_onto ms (ty_onto t rest)) ≡ false
  modifiers_open [] t rest f = (starts_ty t rest f).no_close
  modifiers_open (Word text ∷ ms) t rest f = refl
  modifiers_open (Annotated n ∷ ms) t rest f = refl

  parameters_found : (ps : List Parameter) (n : ℕ) (rest : List Spelled) → Each FormedParameter ps
      → IsTrue (is_any_number_last ps) → most_over parameter_nesting ps ≤ n
      → parameters_at readers n (commas_onto parameter_onto ps (sign (codes ")") ∷ rest)) ≡ Some (
        ps,
        sign (codes ")")
            ∷ rest,
      )
  parameters_found [] n rest f last fits = refl
  parameters_found (p ∷ ps) n rest f last fits =
      rw (
        modifiers_open p.modifiers p.kind _ f.0.1,
        list_found parameter_onto (parameter_at readers n) EndsParameter (p ∷ ps) (sign (codes ")") ∷ rest) refl
            (parameters_read (p ∷ ps) n f fits) (record { here = refl; no_comma = refl }),
        last,
      ) refl

  -- ---- type parameters

  -- what does not go on with a type parameter
  record EndsTypeParameter (rest : List Spelled) : Type 0 where
    ty : EndsTy rest
    no_and : after_sign (codes "&") rest ≡ None
    no_extends : after_keyword (codes "extends") rest ≡ None

  angle_ends : (glued : Bool) (r : List Spelled) → EndsTypeParameter (sign_glued glued (codes ">") ∷ r)
  angle_ends true r = record { ty = finds.angle_ends_ty true r; no_and = refl; no_extends = refl }
  angle_ends false r = record { ty = finds.angle_ends_ty false r; no_and = refl; no_extends = refl }

  bounds_found : (ts : List Ty) (n : ℕ) (r : List Spelled) → Each FormedTy ts → most_over ty_nesting ts ≤ n
      → EndsTypeParameter r → match_option (after_keyword (codes "extends") (bounds_onto ts r)) (Some (
        [],
        bounds_onto ts r,
      )) (between_each (codes "&") (readers.ty n)) ≡ Some (ts, r)
  bounds_found [] n r f fits e = rw e.no_extends refl
  bounds_found (t ∷ ts) n r f fits e =
      between_found (codes "&") refl EndsTy finds.and_ends_ty FormedTy n (readers.ty n)
      (λ t g r fits ends. finds.ty t g n r fits ends) t ts f r fits e.no_and e.ty

  type_parameter_found : (p : TypeParameter) (n : ℕ) (r : List Spelled) → FormedTypeParameter p
      → type_parameter_nesting p ≤ n → EndsTypeParameter r
      → type_parameter_at readers n (type_parameter_onto p r) ≡ Some (p, r)
  unfolding type_parameter_at
  type_parameter_found p n r f fits e =
      let bounds = bounds_onto p.bounds r in
      let named = identifier p.name ∷ bounds in
      rw (
        annotations_found p.annotations (length (annotations_onto p.annotations named)) named f.0
            (ends_name p.name bounds) (omega (arith, annotations_fit p.annotations named)),
        bounds_found p.bounds n r f.1 fits e,
      ) refl

  type_parameters_read : (ps : List TypeParameter) (n : ℕ) → Each FormedTypeParameter ps
      → most_over type_parameter_nesting ps ≤ n
      → Each (IsRead type_parameter_onto (type_parameter_at readers n) EndsTypeParameter) ps
  type_parameters_read [] n f fits = tt
  type_parameters_read (p ∷ ps) n f fits = (
    record {
      found = λ r ends. type_parameter_found p n r f.0 (omega arith) ends;
      longer = type_parameter_longer p;
      behind = λ r ends. record { ty = finds.comma_ends_ty _; no_and = refl; no_extends = refl };
    },
    type_parameters_read ps n f.1 (omega arith),
  )

  no_comma_at : (glued : Bool) (r : List Spelled) → after_sign (codes ",") (sign_glued glued (codes ">") ∷ r) ≡ None
  no_comma_at true r = refl
  no_comma_at false r = refl

  -- type parameters are read, before what begins with none and with no modifiers
  type_parameters_found : (types : Option TypeParameters) (n : ℕ) (rest : List Spelled) → FormedTypeParameters types
      → type_parameters_nesting types ≤ n → after_sign (codes "<") rest ≡ None → EndsModifiers rest → 1 ≤ length rest
      → type_parameters_at readers n (type_parameters_onto types rest) ≡ Some (types, rest)
  unfolding type_parameters_at
  type_parameters_found None n rest f fits none e room = rw none refl
  type_parameters_found (Some ps) n rest f fits none e room =
      let tail = modifiers_onto ps.modifiers rest in
      let closed = sign_glued ps.glued (codes ">") ∷ tail in
      rw (
        list_found type_parameter_onto (type_parameter_at readers n) EndsTypeParameter ps.items closed f.0
            (type_parameters_read ps.items n f.1 fits) (record {
              here = angle_ends ps.glued tail;
              no_comma = no_comma_at ps.glued tail;
            }),
        modifiers_found ps.modifiers (length tail) rest f.2 e (omega (arith, modifiers_fit ps.modifiers rest)),
      ) refl

  -- ---- exceptions

  thrown_found : (t : Ty) (n : ℕ) (r : List Spelled) → FormedThrown t → ty_nesting t ≤ n → EndsTy r
      → thrown_at readers n (ty_onto t r) ≡ Some (t, r)
  thrown_found t n r f fits ends = rw (finds.ty t f.0 n r fits ends, f.1) refl

  thrown_read : (ts : List Ty) (n : ℕ) → Each FormedThrown ts → most_over ty_nesting ts ≤ n
      → Each (IsRead ty_onto (thrown_at readers n) EndsTy) ts
  thrown_read [] n f fits = tt
  thrown_read (t ∷ ts) n f fits = (
    record {
      found = λ r ends. thrown_found t n r f.0 (omega arith) ends;
      longer = ty_longer t;
      behind = λ r ends. finds.comma_ends_ty _;
    },
    thrown_read ts n f.1 (omega arith),
  )

  throws_found : (ts : List Ty) (n : ℕ) (ss : Stmts) (rest : List Spelled) → Each FormedThrown ts
      → most_over ty_nesting ts ≤ n → throws_at readers n (throws_onto ts (block_onto ss rest)) ≡ Some (
        ts,
        block_onto ss rest,
      )
  unfolding throws_at
  throws_found [] n ss rest f fits = refl
  throws_found (t ∷ ts) n ss rest f fits =
      rw (list_found ty_onto (thrown_at readers n) EndsTy (t ∷ ts) (block_onto ss rest) refl (thrown_read (t ∷ ts) n f
      fits)
      (record { here = finds.brace_ends_ty _; no_comma = refl })) refl

  -- ---- methods

  -- behind the parameters
  abbrev pub closed_onto : Method → List Spelled → List Spelled
  closed_onto m rest = throws_onto m.throws (block_onto m.body rest)

  -- a method from its name on
  abbrev pub named_onto : Method → List Spelled → List Spelled
  named_onto m rest = identifier m.name ∷ sign (codes "(") ∷ commas_onto parameter_onto m.parameters (sign (codes ")")
      ∷ brackets_onto m.arrays (closed_onto m rest))

  no_brackets_behind : (ts : List Ty) (ss : Stmts) (rest : List Spelled) → after_brackets (throws_onto ts
      (block_onto ss rest)) ≡ None
  no_brackets_behind [] ss rest = refl
  no_brackets_behind (t ∷ ts) ss rest = refl

  -- `[ ]` behind the parameters, where the method has a type
  arrays_are_found : (result : Result) (m : ℕ) (r : List Spelled) → (IsTrue (not (is_typed result)) → m ≡ 0)
      → after_brackets r ≡ None → arrays_behind result (brackets_onto m r) ≡ (m, r)
  arrays_are_found NoResult m r none ends = rw (none refl) refl
  arrays_are_found VoidResult m r none ends = rw (none refl) refl
  arrays_are_found (TypeResult t) m r none ends =
      brackets_found (length (brackets_onto m r)) m r (omega (arith, brackets_longer m r)) ends

  named_found : (m : Method) (n : ℕ) (rest : List Spelled) → FormedMethod m → method_nesting m ≤ n → named_at readers
      n m.modifiers m.type_parameters m.result (named_onto m rest) ≡ Some (m, rest)
  unfolding named_at
  named_found m n rest f fits =
      rw (
        parameters_found m.parameters n (brackets_onto m.arrays (closed_onto m rest)) f.3 f.4 (omega arith),
        arrays_are_found m.result m.arrays (closed_onto m rest) f.5 (no_brackets_behind m.throws m.body rest),
        throws_found m.throws n m.body rest f.6 (omega arith),
        body_block_found readers EndsTy EndsExpr finds m.body n rest f.7 (omega arith),
      ) refl

  pub method_from_found : (m : Method) (n : ℕ) (rest : List Spelled) → FormedMethod m → method_nesting m ≤ n
      → method_from readers n (method_onto m rest) ≡ Some (m, rest)
  unfolding method_from
  method_from_found m n rest f fits =
      let named = named_onto m rest in
      let resulting = result_onto m.result named in
      let headed = type_parameters_onto m.type_parameters resulting in
      let long : 1 ≤ length resulting = omega (arith, result_longer m.result named) in
      let room : length m.modifiers < length (method_onto m rest) =
      omega (arith, long, types_longer m.type_parameters resulting, modifiers_fit m.modifiers headed) in
      let ends : EndsModifiers resulting = ends_result m.result m.name _ f.2 in
      rw (
        modifiers_found m.modifiers (length (method_onto m rest)) headed f.0 (ends_types m.type_parameters resulting
            ends) room,
        type_parameters_found m.type_parameters n resulting f.1 (omega arith) (result_shut m.result m.name _ f.2) ends
            long,
        result_found m.result n m.name _ f.2 (omega arith),
      ) (named_found m n rest f fits)

  pub method_found : (m : Method) (n : ℕ) → FormedMethod m → method_nesting m ≤ n → method_at readers n
      (spelling m) ≡ Some m
  method_found m n f fits = rw (method_from_found m n [] f fits) refl

  some_is : (a b : Method) → Some a ≡ Some b → a ≡ b
  some_is a b e = cc

  -- two formed methods with one spelling are equal
  pub one_method : (a b : Method) → FormedMethod a → FormedMethod b → spelling a ≡ spelling b → a ≡ b
  one_method a b f g e =
      let n = max (method_nesting a) (method_nesting b) in
      some_is a b (sym (method_found a n f (omega arith)) ∙ ap (method_at readers n) e ∙ method_found b n g
      (omega arith))
