-- A method of the code is made of the tokens of a formed method.
use Rattle.std.proofs.Common.{◌≡◌, ℕ, ◌<◌, Bool, true, false, List, [], ◌∷◌, Option, Some, None, map, length, refl}
use Rattle.std.proofs.Common.{sym, ap, subst, arith, codes}
use Rattle.std.specs.Prelude.{option_map}
use Rattle.racer_base.proofs.Lists.{same_3}
use Rattle.java_lexer.specs.declared.token.Token.{Token}
use Rattle.java_tree.specs.declared.words.Spelled.{Spelled}
use Rattle.java_tree.specs.declared.methods.ResultTree.{ResultTree}
use Rattle.java_tree.specs.declared.methods.ResultTree.TheVariants as result
use Rattle.java_tree.specs.declared.methods.ParameterTree.{ParameterTree}
use Rattle.java_tree.specs.declared.methods.TypeParameterTree.{TypeParameterTree}
use Rattle.java_tree.specs.declared.methods.TypeParametersTree.{TypeParametersTree}
use Rattle.java_tree.specs.declared.methods.MethodTree.{MethodTree}
use Rattle.java_tree.specs.Words.{sign, keyword}
use Rattle.java_tree.specs.KeptPlaces.{kept, some_onto, each_marks, maybe_marks, AreAt}
use Rattle.java_tree.specs.MethodPlaces.{result_places, parameter_marks, type_parameter_marks, type_parameters_marks}
use Rattle.java_tree.specs.MethodPlaces.{method_marks}
use Rattle.java_tree.specs.Trees.{Ty, Stmts, Annotation, Modifier, Result, NoResult, VoidResult, TypeResult}
use Rattle.java_tree.specs.Trees.{Parameter, TypeParameter, TypeParameters, Method}
use Rattle.java_tree.specs.Spelling.{behind_commas, commas_onto, sign_where, between_sign, ty_onto, result_onto}
use Rattle.java_tree.specs.Spelling.{parameter_onto, bounds_onto, type_parameter_onto, type_parameters_onto}
use Rattle.java_tree.specs.Spelling.{throws_onto, spelling}
use Rattle.java_tree.specs.FormedMethods.{FormedResult, FormedParameter, FormedTypeParameter, FormedTypeParameters}
use Rattle.java_tree.specs.FormedMethods.{FormedMethod}
use Rattle.java_tree.specs.FormedModifiers.{Each}
use Rattle.java_tree.specs.Formed.{FormedTy, FormedThrown}
use Rattle.java_tree.specs.View.{result_of, parameter_of, type_parameter_of, type_parameters_of, method_of}
use Rattle.java_parser_grammar.specs.Tokens.{plain_all}
use Rattle.java_parser_grammar.specs.Heads.{has_synchronized}
use Rattle.java_parser_totality.specs.Totality.{most}
use Rattle.java_parser_totality.proofs.Parts.{Made, Makes, Maker, maker, nothing, nothing-made, and, as-made, no_tokens}
use Rattle.java_parser_totality.proofs.MadeMarks.{by2, Marked-Part, a_word, a_sign, a_glued, a_name, a_type}
use Rattle.java_parser_totality.proofs.MadeMarks.{some_brackets, annotations_part, annotations-made, modifiers_part}
use Rattle.java_parser_totality.proofs.MadeMarks.{modifiers-made, types_part, types-put, between-made}
use Rattle.java_parser_totality.proofs.MadeStatements.{stmts_part, stmts-made}

abbrev result_part : Result → Marked-Part
result_part r =
    record {
      X = ResultTree;
      ok = λ x. result_of x ≡ r;
      put = λ x ms. some_onto (result_places x) ms;
      size = λ _. 0;
      onto = result_onto r;
    }

result-made : (r : Result) → FormedResult r → Makes AreAt (result_part r)
result-made NoResult f =
    as-made AreAt (maker AreAt (nothing AreAt) (nothing-made AreAt)) (result_part NoResult) (λ x. result.Constructor)
    (record { ok = λ x s h. refl; put = λ x s ps. refl; size = λ x. omega arith; onto = λ rest. refl })
result-made VoidResult f =
    as-made AreAt (a_word (keyword (codes "void")) refl) (result_part VoidResult) (λ x. result.Void)
    (record { ok = λ x s h. refl; put = λ x s ps. refl; size = λ x. omega arith; onto = λ rest. refl })
result-made (TypeResult t) f =
    as-made AreAt (a_type t f) (result_part (TypeResult t)) result.Of
    (record { ok = λ x s h. ap TypeResult h; put = λ x s ps. refl; size = λ x. omega arith; onto = λ rest. refl })

-- ---- parameters

abbrev where_part : Bool → List ℕ → Marked-Part
where_part stands text =
    record { X = Unit {0}; ok = λ _. Unit {0}; put = λ _ ms. ms; size = λ _. 0; onto = sign_where stands text }

where-made : (stands : Bool) (text : List ℕ) → Makes AreAt (where_part stands text)
where-made true text =
    as-made AreAt (a_sign text) (where_part true text) (λ x. tt)
    (record { ok = λ x s h. tt; put = λ x s ps. refl; size = λ x. omega arith; onto = λ rest. refl })
where-made false text =
    as-made AreAt (maker AreAt (nothing AreAt) (nothing-made AreAt)) (where_part false text) (λ x. tt)
    (record { ok = λ x s h. tt; put = λ x s ps. refl; size = λ x. omega arith; onto = λ rest. refl })

abbrev parameter_part : Parameter → Marked-Part
parameter_part p =
    record {
      X = ParameterTree;
      ok = λ x. parameter_of x ≡ p;
      put = parameter_marks;
      size = λ _. 1;
      onto = parameter_onto p;
    }

parameter-made : (p : Parameter) → FormedParameter p → Makes AreAt (parameter_part p)
parameter-made p f =
    as-made AreAt (and AreAt (maker AreAt (modifiers_part p.modifiers) (modifiers-made p.modifiers)) (and AreAt
    (a_type p.kind f.1) (and AreAt (maker AreAt (where_part p.any_number (codes "...")) (where-made p.any_number
    (codes "..."))) (and AreAt (a_name p.name) (some_brackets p.arrays))))) (parameter_part p)
    (λ x. record { modifiers = x.0; kind = x.1.0; any_number = p.any_number; name = x.1.1.1.0; arrays = p.arrays })
    (record {
      ok = λ x s h. same_3 (λ (ms : List Modifier) (t : Ty) (y : List ℕ). record {
        modifiers = ms;
        kind = t;
        any_number = p.any_number;
        name = y;
        arrays = p.arrays;
      }) h.0 h.1.0 h.1.1.1.0;
      put = λ x s ps. refl;
      size = λ x. omega arith;
      onto = λ rest. refl;
    })

abbrev parameters_part : (List Parameter → List Spelled → List Spelled) → List Parameter → Marked-Part
parameters_part onto ps =
    record {
      X = List ParameterTree;
      ok = λ xs. map parameter_of xs ≡ ps;
      put = λ xs ms. each_marks parameter_marks xs ms;
      size = λ xs. length xs;
      onto = onto ps;
    }

more-parameters-made : (ps : List Parameter) → Each FormedParameter ps
    → Makes AreAt (parameters_part (behind_commas parameter_onto) ps)
more-parameters-made [] f =
    as-made AreAt (maker AreAt (nothing AreAt) (nothing-made AreAt)) (parameters_part (behind_commas parameter_onto)
    []) (λ x. []) (record { ok = λ x s h. refl; put = λ x s ps. refl; size = λ x. omega arith; onto = λ rest. refl })
more-parameters-made (p ∷ ps) f =
    as-made AreAt (and AreAt (a_word (sign (codes ",")) refl) (and AreAt (maker AreAt (parameter_part p)
    (parameter-made p f.0)) (maker AreAt (parameters_part (behind_commas parameter_onto) ps) (more-parameters-made ps
    f.1)))) (parameters_part (behind_commas parameter_onto) (p ∷ ps)) (λ x. x.1.0 ∷ x.1.1) (record {
      ok = λ x s h. by2 (λ (y : Parameter) (ys : List Parameter). y ∷ ys) h.1.0 h.1.1;
      put = λ x s ps. refl;
      size = λ x. omega arith;
      onto = λ rest. refl;
    })

parameters-made : (ps : List Parameter) → Each FormedParameter ps
    → Makes AreAt (parameters_part (commas_onto parameter_onto) ps)
parameters-made [] f =
    as-made AreAt (maker AreAt (nothing AreAt) (nothing-made AreAt)) (parameters_part (commas_onto parameter_onto) [])
    (λ x. []) (record { ok = λ x s h. refl; put = λ x s ps. refl; size = λ x. omega arith; onto = λ rest. refl })
parameters-made (p ∷ ps) f =
    as-made AreAt (and AreAt (maker AreAt (parameter_part p) (parameter-made p f.0)) (maker AreAt (parameters_part
    (behind_commas parameter_onto) ps) (more-parameters-made ps f.1))) (parameters_part (commas_onto parameter_onto)
    (p ∷ ps)) (λ x. x.0 ∷ x.1) (record {
      ok = λ x s h. by2 (λ (y : Parameter) (ys : List Parameter). y ∷ ys) h.0 h.1;
      put = λ x s ps. refl;
      size = λ x. omega arith;
      onto = λ rest. refl;
    })

-- ---- exceptions

more-types-made : (ts : List Ty) → Each FormedThrown ts → Makes AreAt (types_part (behind_commas ty_onto) ts)
more-types-made [] f =
    as-made AreAt (maker AreAt (nothing AreAt) (nothing-made AreAt)) (types_part (behind_commas ty_onto) [])
    (λ x. []) (record { ok = λ x s h. refl; put = λ x s ps. refl; size = λ x. omega arith; onto = λ rest. refl })
more-types-made (t ∷ ts) f =
    as-made AreAt (and AreAt (a_word (sign (codes ",")) refl) (and AreAt (a_type t f.0.0) (maker AreAt (types_part
    (behind_commas ty_onto) ts) (more-types-made ts f.1)))) (types_part (behind_commas ty_onto) (t ∷ ts))
    (λ x. x.1.0 ∷ x.1.1) (record {
      ok = λ x s h. by2 (λ (y : Ty) (ys : List Ty). y ∷ ys) h.1.0 h.1.1;
      put = λ x s ps. types-put x.1.0 x.1.1 ps;
      size = λ x. omega arith;
      onto = λ rest. refl;
    })

throws-made : (ts : List Ty) → Each FormedThrown ts → Makes AreAt (types_part throws_onto ts)
throws-made [] f =
    as-made AreAt (maker AreAt (nothing AreAt) (nothing-made AreAt)) (types_part throws_onto [])
    (λ x. []) (record { ok = λ x s h. refl; put = λ x s ps. refl; size = λ x. omega arith; onto = λ rest. refl })
throws-made (t ∷ ts) f =
    as-made AreAt (and AreAt (a_word (keyword (codes "throws")) refl) (and AreAt (a_type t f.0.0) (maker AreAt
    (types_part (behind_commas ty_onto) ts) (more-types-made ts f.1)))) (types_part throws_onto (t ∷ ts))
    (λ x. x.1.0 ∷ x.1.1) (record {
      ok = λ x s h. by2 (λ (y : Ty) (ys : List Ty). y ∷ ys) h.1.0 h.1.1;
      put = λ x s ps. types-put x.1.0 x.1.1 ps;
      size = λ x. omega arith;
      onto = λ rest. refl;
    })

-- ---- type parameters

bounds-made : (ts : List Ty) → Each FormedTy ts → Makes AreAt (types_part bounds_onto ts)
bounds-made [] f =
    as-made AreAt (maker AreAt (nothing AreAt) (nothing-made AreAt)) (types_part bounds_onto []) (λ x. [])
    (record { ok = λ x s h. refl; put = λ x s ps. refl; size = λ x. omega arith; onto = λ rest. refl })
bounds-made (t ∷ ts) f =
    as-made AreAt (and AreAt (a_word (keyword (codes "extends")) refl) (maker AreAt (types_part
    (between_sign (codes "&")) (t ∷ ts)) (between-made (codes "&") (t ∷ ts) f))) (types_part bounds_onto (t ∷ ts))
    (λ x. x.1)
    (record { ok = λ x s h. h.1; put = λ x s ps. refl; size = λ x. omega arith; onto = λ rest. refl })

abbrev type_parameter_part : TypeParameter → Marked-Part
type_parameter_part p =
    record {
      X = TypeParameterTree;
      ok = λ x. type_parameter_of x ≡ p;
      put = type_parameter_marks;
      size = λ _. 1;
      onto = type_parameter_onto p;
    }

type-parameter-made : (p : TypeParameter) → FormedTypeParameter p → Makes AreAt (type_parameter_part p)
type-parameter-made p f =
    as-made AreAt (and AreAt (maker AreAt (annotations_part p.annotations) (annotations-made p.annotations)) (and AreAt
    (a_name p.name) (maker AreAt (types_part bounds_onto p.bounds) (bounds-made p.bounds f.1))))
    (type_parameter_part p) (λ x. record { annotations = x.0; name = x.1.0; bounds = x.1.1 }) (record {
      ok = λ x s h. same_3 (λ (ns : List Annotation) (y : List ℕ) (ts : List Ty). record {
        annotations = ns;
        name = y;
        bounds = ts;
      }) h.0 h.1.0 h.1.1;
      put = λ x s ps. refl;
      size = λ x. omega arith;
      onto = λ rest. refl;
    })

abbrev type_list_part : (List TypeParameter → List Spelled → List Spelled) → List TypeParameter → Marked-Part
type_list_part onto ps =
    record {
      X = List TypeParameterTree;
      ok = λ xs. map type_parameter_of xs ≡ ps;
      put = λ xs ms. each_marks type_parameter_marks xs ms;
      size = λ xs. length xs;
      onto = onto ps;
    }

more-type-parameters-made : (ps : List TypeParameter) → Each FormedTypeParameter ps
    → Makes AreAt (type_list_part (behind_commas type_parameter_onto) ps)
more-type-parameters-made [] f =
    as-made AreAt (maker AreAt (nothing AreAt) (nothing-made AreAt)) (type_list_part (behind_commas
    type_parameter_onto) []) (λ x. [])
    (record { ok = λ x s h. refl; put = λ x s ps. refl; size = λ x. omega arith; onto = λ rest. refl })
more-type-parameters-made (p ∷ ps) f =
    as-made AreAt (and AreAt (a_sign (codes ",")) (and AreAt (maker AreAt (type_parameter_part p) (type-parameter-made
    p f.0)) (maker AreAt (type_list_part (behind_commas type_parameter_onto) ps) (more-type-parameters-made ps f.1))))
    (type_list_part (behind_commas type_parameter_onto) (p ∷ ps)) (λ x. x.1.0 ∷ x.1.1) (record {
      ok = λ x s h. by2 (λ (y : TypeParameter) (ys : List TypeParameter). y ∷ ys) h.1.0 h.1.1;
      put = λ x s ps. refl;
      size = λ x. omega arith;
      onto = λ rest. refl;
    })

type-list-made : (ps : List TypeParameter) → Each FormedTypeParameter ps
    → Makes AreAt (type_list_part (commas_onto type_parameter_onto) ps)
type-list-made [] f =
    as-made AreAt (maker AreAt (nothing AreAt) (nothing-made AreAt)) (type_list_part (commas_onto type_parameter_onto)
    []) (λ x. []) (record { ok = λ x s h. refl; put = λ x s ps. refl; size = λ x. omega arith; onto = λ rest. refl })
type-list-made (p ∷ ps) f =
    as-made AreAt (and AreAt (maker AreAt (type_parameter_part p) (type-parameter-made p f.0)) (maker AreAt
    (type_list_part (behind_commas type_parameter_onto) ps) (more-type-parameters-made ps f.1)))
    (type_list_part (commas_onto type_parameter_onto) (p ∷ ps)) (λ x. x.0 ∷ x.1) (record {
      ok = λ x s h. by2 (λ (y : TypeParameter) (ys : List TypeParameter). y ∷ ys) h.0 h.1;
      put = λ x s ps. refl;
      size = λ x. omega arith;
      onto = λ rest. refl;
    })

abbrev type_parameters_part : Option TypeParameters → Marked-Part
type_parameters_part o =
    record {
      X = Option TypeParametersTree;
      ok = λ x. option_map type_parameters_of x ≡ o;
      put = maybe_marks type_parameters_marks;
      size = λ _. 0;
      onto = type_parameters_onto o;
    }

type-parameters-made : (o : Option TypeParameters) → FormedTypeParameters o → Makes AreAt (type_parameters_part o)
type-parameters-made None f =
    as-made AreAt (maker AreAt (nothing AreAt) (nothing-made AreAt)) (type_parameters_part None) (λ x. None)
    (record { ok = λ x s h. refl; put = λ x s ps. refl; size = λ x. omega arith; onto = λ rest. refl })
type-parameters-made (Some ps) f =
    as-made AreAt (and AreAt (a_sign (codes "<")) (and AreAt (maker AreAt (type_list_part
    (commas_onto type_parameter_onto) ps.items) (type-list-made ps.items f.1)) (and AreAt (a_glued ps.glued
    (codes ">")) (maker AreAt (modifiers_part ps.modifiers) (modifiers-made ps.modifiers)))))
    (type_parameters_part (Some ps)) (λ x. Some (record { items = x.1.0; glued = ps.glued; modifiers = x.1.1.1 }))
    (record {
      ok = λ x s h. by2 (λ (items : List TypeParameter) (ms : List Modifier). Some (record {
        items = items;
        glued = ps.glued;
        modifiers = ms;
      })) h.1.0 h.1.1.1;
      put = λ x s ps. refl;
      size = λ x. omega arith;
      onto = λ rest. refl;
    })

-- ---- methods

abbrev a_whole : (m : Method) → FormedMethod m → Maker AreAt
a_whole m f =
    and AreAt (maker AreAt (modifiers_part m.modifiers) (modifiers-made m.modifiers)) (and AreAt (maker AreAt
    (type_parameters_part m.type_parameters) (type-parameters-made m.type_parameters f.1)) (and AreAt (maker AreAt
    (result_part m.result) (result-made m.result f.2)) (and AreAt (a_name m.name) (and AreAt (a_sign (codes "("))
    (and AreAt (maker AreAt (parameters_part (commas_onto parameter_onto) m.parameters) (parameters-made m.parameters
    f.3)) (and AreAt (a_sign (codes ")")) (and AreAt (some_brackets m.arrays) (and AreAt (maker AreAt
    (types_part throws_onto m.throws) (throws-made m.throws f.6)) (and AreAt (a_sign (codes "{")) (and AreAt
    (maker AreAt (stmts_part m.body) (stmts-made m.body f.7)) (a_sign (codes "}"))))))))))))

same-method : (m : Method) {a : List Modifier} {o : Option TypeParameters} {b : Result} {c : List ℕ}
    {d : List Parameter} {e : List Ty} {g : Stmts} → a ≡ m.modifiers → o ≡ m.type_parameters → b ≡ m.result
    → c ≡ m.name → d ≡ m.parameters → e ≡ m.throws → g ≡ m.body → ◌≡◌ {A = Method} (record {
      modifiers = a;
      type_parameters = o;
      result = b;
      name = c;
      parameters = d;
      arrays = m.arrays;
      throws = e;
      body = g;
    }) m
same-method m p v q r s t u = λ i. record {
  modifiers = p i;
  type_parameters = v i;
  result = q i;
  name = r i;
  parameters = s i;
  arrays = m.arrays;
  throws = t i;
  body = u i;
}

pub method-made : (ts : List Token) (m : Method) → length ts < most → FormedMethod m → plain_all ts ≡ spelling m
    → (tree : MethodTree) × (method_of tree ≡ m) × AreAt (method_marks tree) (kept ts)
    × (tree.has_synchronized ≡ has_synchronized ts) × (tree.tokens ≡ length ts)
method-made ts m few f e = of ((a_whole m f).made ts [] few e) where
  of : (h : Made AreAt (a_whole m f).part ts []) → (tree : MethodTree) × (method_of tree ≡ m)
      × AreAt (method_marks tree) (kept ts) × (tree.has_synchronized ≡ has_synchronized ts)
      × (tree.tokens ≡ length ts)
  of h =
      let x = h.tree in
      let is = h.is in
      let left : [] ≡ kept h.behind = sym (ap kept (no_tokens h.behind h.spelled)) in (
        record {
          modifiers = x.0;
          type_parameters = x.1.0;
          result = x.1.1.0;
          name = x.1.1.1.0;
          parameters = x.1.1.1.1.1.0;
          arrays = m.arrays;
          throws = x.1.1.1.1.1.1.1.1.0;
          body = x.1.1.1.1.1.1.1.1.1.1.0;
          has_synchronized = has_synchronized ts;
          tokens = length ts;
        },
        same-method m is.0 is.1.0 is.1.1.0 is.1.1.1.0 is.1.1.1.1.1.0 is.1.1.1.1.1.1.1.1.0
            is.1.1.1.1.1.1.1.1.1.1.0,
        h.fits [] (subst (AreAt []) left tt),
        refl,
        refl,
      )
