-- An expression of the code is made of the tokens of a formed expression.
use Rattle.std.proofs.Common.{◌≡◌, List, [], ◌∷◌, Option, map, length}
use Rattle.std.proofs.Common.{refl, ap, ◌∙◌, arith, codes}
use Rattle.java_tree.specs.declared.words.Spelled.{Spelled}
use Rattle.java_tree.specs.declared.expressions.Expression.{Expression}
use Rattle.java_tree.specs.declared.expressions.Initialiser.{Initialiser}
use Rattle.java_tree.specs.declared.expressions.ArrayTree.{ArrayTree}
use Rattle.java_tree.specs.Words.{keyword, word_of}
use Rattle.java_tree.specs.KeptPlaces.{AreAt, each_puts, expr_places}
use Rattle.java_tree.specs.KeptPlaces.{init_places, array_places}
use Rattle.java_tree.specs.Trees.{Expr, Assign, Conditional, Binary, InstanceOf, Prefix, Cast, Postfix, Literal, This}
use Rattle.java_tree.specs.Trees.{Name, Paren, Field, Index, Call, CallOn, ClassOf, New, NewArray, NewItems, Exprs}
use Rattle.java_tree.specs.Trees.{no_expr, expr_then, Array, Braces, Inits, no_init, init_then, Init, Value, Items}
use Rattle.java_tree.specs.Trees.{NewBody, Lambda, BlockLambda, Reference, TypeReference, SuperReference, PlainClass}
use Rattle.java_tree.specs.Trees.{ThisOf}
use Rattle.java_tree.specs.Trees.{Arguments}
use Rattle.java_tree.specs.Trees.{pack_exprs, pack_inits}
use Rattle.java_tree.specs.Spelling.{names_onto, between_sign}
use Rattle.java_tree.specs.Spelling.{expr_onto}
use Rattle.java_tree.specs.Spelling.{exprs_onto}
use Rattle.java_tree.specs.Spelling.{more_exprs_onto, lengths_onto, array_onto, inits_onto, more_inits_onto, init_onto}
use Rattle.java_tree.specs.Formed.{FormedExpr, FormedExprs}
use Rattle.java_tree.specs.Formed.{FormedArray, FormedInits, FormedInit}
use Rattle.java_tree.specs.View.{name_of, expr_of, init_of, array_of}
use Rattle.java_parser_totality.proofs.Parts.{Makes, maker, word, word-made, nothing, nothing-made, and, as-made}
use Rattle.java_parser_totality.proofs.MadeTypes.{literal-made}
use Rattle.java_parser_totality.proofs.MadeMarks.{by2, Marked-Part, a_sign, a_keyword, a_name, a_type, a_class}
use Rattle.java_parser_totality.proofs.MadeMarks.{a_placed, all_passed, all-passed-made, some_brackets}
use Rattle.java_parser_totality.proofs.MadeMarks.{marked_ty, marked-made, types_part, between-made}
use Rattle.java_parser_totality.proofs.MadeReferred.{is_glued, some_types, a_referred}
use Rattle.java_parser_totality.proofs.MadeWords.{literal-unkept, operator, names_part, names-made}
use Rattle.java_parser_totality.proofs.MadeWords.{comma_part, comma-made}
use Rattle.java_parser_totality.proofs.ExpressionForms as form
use Rattle.java_parser_totality.proofs.ExpressionForms.{assign-at, assign-is, binary-at, binary-is, braces-at}
use Rattle.java_parser_totality.proofs.ExpressionForms.{braces-is}
use Rattle.java_parser_totality.proofs.ExpressionForms.{call-at, call-is, call_on-at, call_on-is, cast-at, cast-is}
use Rattle.java_parser_totality.proofs.ExpressionForms.{class_of-at, class_of-is, conditional-at, conditional-is}
use Rattle.java_parser_totality.proofs.ExpressionForms.{element-at}
use Rattle.java_parser_totality.proofs.ExpressionForms.{element-is, field-at, field-is, instance-at, instance-is}
use Rattle.java_parser_totality.proofs.ExpressionForms.{items-at}
use Rattle.java_parser_totality.proofs.ExpressionForms.{items-is, itself-at, itself-is, literal-at, literal-is, name-at}
use Rattle.java_parser_totality.proofs.ExpressionForms.{name-is, new-at, new-is, new_array-at, new_array-is}
use Rattle.java_parser_totality.proofs.ExpressionForms.{new_items-at}
use Rattle.java_parser_totality.proofs.ExpressionForms.{new_items-is, paren-at, paren-is, postfix-at, postfix-is}
use Rattle.java_parser_totality.proofs.ExpressionForms.{prefix-at}
use Rattle.java_parser_totality.proofs.ExpressionForms.{prefix-is, value-at, value-is, this_of-at, this_of-is}
use Rattle.java_parser_totality.proofs.ExpressionForms.{plain_class-at}
use Rattle.java_parser_totality.proofs.ExpressionForms.{plain_class-is, new_body-at, new_body-is, lambda-at, lambda-is}
use Rattle.java_parser_totality.proofs.ExpressionForms.{block_lambda-at, block_lambda-is, reference-at, reference-is}
use Rattle.java_parser_totality.proofs.ExpressionForms.{type_reference-at, type_reference-is, super_reference-at}
use Rattle.java_parser_totality.proofs.ExpressionForms.{super_reference-is}
use Rattle.racer_base.proofs.Lists.{same_3}

-- ---- expressions

abbrev pub expr_part : Expr → Marked-Part
expr_part e =
    record { X = Expression; ok = λ x. expr_of x ≡ e; put = expr_places; size = λ _. 1; onto = expr_onto e }

abbrev pub exprs_part : (Exprs → List Spelled → List Spelled) → Exprs → Marked-Part
exprs_part onto es =
    record {
      X = List Expression;
      ok = λ xs. pack_exprs (map expr_of xs) ≡ es;
      put = λ xs. each_puts (map expr_places xs);
      size = λ xs. length xs;
      onto = onto es;
    }

abbrev array_part : Array → Marked-Part
array_part a =
    record { X = ArrayTree; ok = λ x. array_of x ≡ a; put = array_places; size = λ _. 1; onto = array_onto a }

abbrev pub init_part : Init → Marked-Part
init_part i =
    record { X = Initialiser; ok = λ x. init_of x ≡ i; put = init_places; size = λ _. 1; onto = init_onto i }

abbrev inits_part : (Inits → List Spelled → List Spelled) → Inits → Marked-Part
inits_part onto is =
    record {
      X = List Initialiser;
      ok = λ xs. pack_inits (map init_of xs) ≡ is;
      put = λ xs. each_puts (map init_places xs);
      size = λ xs. length xs;
      onto = onto is;
    }

mutual
  pub made : (e : Expr) → FormedExpr e → Makes AreAt (expr_part e)
  made (Assign a op b) f =
      as-made AreAt (and AreAt (maker AreAt (expr_part a) (made a f.0)) (and AreAt (a_sign op) (maker AreAt
      (expr_part b)
      (made b f.1))))
      (expr_part (Assign a op b)) (λ x. form.assign x.0 op x.1.1) (record {
        ok = λ x s h. assign-is x.0 op x.1.1 ∙ by2 (λ u v. Assign u op v) h.0 h.1.1;
        put = λ x s ps. assign-at x.0 op x.1.1 ps;
        size = λ x. omega arith;
        onto = λ rest. refl;
      })
  made (Conditional a b c) f =
      as-made AreAt (and AreAt (maker AreAt (expr_part a) (made a f.0)) (and AreAt (a_sign (codes "?")) (and AreAt
      (maker AreAt (expr_part b) (made b f.1)) (and AreAt (a_sign (codes ":")) (maker AreAt (expr_part c)
      (made c f.2))))))
      (expr_part (Conditional a b c)) (λ x. form.conditional x.0 x.1.1.0 x.1.1.1.1) (record {
        ok = λ x s h. conditional-is x.0 x.1.1.0 x.1.1.1.1 ∙ same_3 Conditional h.0 h.1.1.0 h.1.1.1.1;
        put = λ x s ps. conditional-at x.0 x.1.1.0 x.1.1.1.1 ps;
        size = λ x. omega arith;
        onto = λ rest. refl;
      })
  made (Binary a op b) f =
      as-made AreAt (and AreAt (maker AreAt (expr_part a) (made a f.0)) (and AreAt (operator op) (maker AreAt
      (expr_part b) (made b f.1))))
      (expr_part (Binary a op b)) (λ x. form.binary x.0 op x.1.1) (record {
        ok = λ x s h. binary-is x.0 op x.1.1 ∙ by2 (λ u v. Binary u op v) h.0 h.1.1;
        put = λ x s ps. binary-at x.0 op x.1.1 ps;
        size = λ x. omega arith;
        onto = λ rest. refl;
      })
  made (InstanceOf a t) f =
      as-made AreAt (and AreAt (maker AreAt (expr_part a) (made a f.0)) (and AreAt (a_keyword (codes "instanceof") refl)
      (a_type t f.1)))
      (expr_part (InstanceOf a t)) (λ x. form.instance x.0 x.1.1) (record {
        ok = λ x s h. instance-is x.0 x.1.1 ∙ by2 InstanceOf h.0 h.1.1;
        put = λ x s ps. instance-at x.0 x.1.1 ps;
        size = λ x. omega arith;
        onto = λ rest. refl;
      })
  made (Prefix op a) f =
      as-made AreAt (and AreAt (a_sign op) (maker AreAt (expr_part a) (made a f.0)))
      (expr_part (Prefix op a)) (λ x. form.prefix op x.1) (record {
        ok = λ x s h. prefix-is op x.1 ∙ ap (Prefix op) h.1;
        put = λ x s ps. prefix-at op x.1 ps;
        size = λ x. omega arith;
        onto = λ rest. refl;
      })
  made (Cast ts a) f =
      as-made AreAt (and AreAt (a_sign (codes "(")) (and AreAt (maker AreAt (types_part (between_sign (codes "&")) ts)
      (between-made (codes "&") ts f.0)) (and AreAt (a_sign (codes ")")) (maker AreAt (expr_part a) (made a f.2)))))
      (expr_part (Cast ts a)) (λ x. form.cast x.1.0 x.1.1.1) (record {
        ok = λ x s h. cast-is x.1.0 x.1.1.1 ∙ by2 Cast h.1.0 h.1.1.1;
        put = λ x s ps. cast-at x.1.0 x.1.1.1 ps;
        size = λ x. omega arith;
        onto = λ rest. refl;
      })
  made (Postfix a op) f =
      as-made AreAt (and AreAt (maker AreAt (expr_part a) (made a f.0)) (a_sign op))
      (expr_part (Postfix a op)) (λ x. form.postfix x.0 op) (record {
        ok = λ x s h. postfix-is x.0 op ∙ ap (λ u. Postfix u op) h.0;
        put = λ x s ps. postfix-at x.0 op ps;
        size = λ x. omega arith;
        onto = λ rest. refl;
      })
  made (Literal k text) f =
      as-made AreAt (maker AreAt (word AreAt (word_of k text)) (word-made AreAt (word_of k text)
      (literal-unkept k text f)))
      (expr_part (Literal k text)) (λ x. form.literal k text) (record {
        ok = λ x s h. literal-is k text;
        put = λ x s ps. literal-at k text ps;
        size = λ x. omega arith;
        onto = λ rest. refl;
      })
  made This f =
      as-made AreAt (a_keyword (codes "this") refl)
      (expr_part (This)) (λ x. form.itself) (record {
        ok = λ x s h. itself-is;
        put = λ x s ps. itself-at ps;
        size = λ x. omega arith;
        onto = λ rest. refl;
      })
  made (Name x) f =
      as-made AreAt (a_name x)
      (expr_part (Name x)) (λ x. form.name x) (record {
        ok = λ x s h. name-is x ∙ ap Name h;
        put = λ x s ps. name-at x ps;
        size = λ x. omega arith;
        onto = λ rest. refl;
      })
  made (Paren a) f =
      as-made AreAt (and AreAt (a_sign (codes "(")) (and AreAt (maker AreAt (expr_part a) (made a f)) (a_sign
      (codes ")"))))
      (expr_part (Paren a)) (λ x. form.paren x.1.0) (record {
        ok = λ x s h. paren-is x.1.0 ∙ ap Paren h.1.0;
        put = λ x s ps. paren-at x.1.0 ps;
        size = λ x. omega arith;
        onto = λ rest. refl;
      })
  made (Field a x) f =
      as-made AreAt (and AreAt (maker AreAt (expr_part a) (made a f.0)) (and AreAt (a_sign (codes ".")) (a_name x)))
      (expr_part (Field a x)) (λ x. form.field x.0 x.1.1) (record {
        ok = λ x s h. field-is x.0 x.1.1 ∙ by2 Field h.0 h.1.1;
        put = λ x s ps. field-at x.0 x.1.1 ps;
        size = λ x. omega arith;
        onto = λ rest. refl;
      })
  made (Index a i) f =
      as-made AreAt (and AreAt (maker AreAt (expr_part a) (made a f.0)) (and AreAt (a_sign (codes "[")) (and AreAt
      (maker AreAt (expr_part i) (made i f.1)) (a_sign (codes "]")))))
      (expr_part (Index a i)) (λ x. form.element x.0 x.1.1.0) (record {
        ok = λ x s h. element-is x.0 x.1.1.0 ∙ by2 Index h.0 h.1.1.0;
        put = λ x s ps. element-at x.0 x.1.1.0 ps;
        size = λ x. omega arith;
        onto = λ rest. refl;
      })
  made (Call x all) f =
      as-made AreAt (and AreAt (a_name x) (and AreAt (a_sign (codes "(")) (and AreAt (maker AreAt
      (exprs_part exprs_onto all) (exprs-made all f)) (a_sign (codes ")")))))
      (expr_part (Call x all)) (λ x. form.call x.0 x.1.1.0) (record {
        ok = λ x s h. call-is x.0 x.1.1.0 (omega (arith, s)) ∙ by2 Call h.0 h.1.1.0;
        put = λ x s ps. call-at x.0 x.1.1.0 (omega (arith, s)) ps;
        size = λ x. omega arith;
        onto = λ rest. refl;
      })
  made (CallOn a types x all) f =
      as-made AreAt (and AreAt (maker AreAt (expr_part a) (made a f.0)) (and AreAt (a_sign (codes ".")) (and AreAt
      (some_types types f.1) (and AreAt (a_name x) (and AreAt (a_sign (codes "(")) (and AreAt (maker AreAt
      (exprs_part exprs_onto all) (exprs-made all f.2)) (a_sign (codes ")"))))))))
      (expr_part (CallOn a types x all)) (λ x. form.call_on x.0 x.1.1.0 (is_glued types) x.1.1.1.0 x.1.1.1.1.1.0)
      (record {
        ok = λ x s h.
            call_on-is x.0 x.1.1.0 (is_glued types) x.1.1.1.0 x.1.1.1.1.1.0 (omega (arith, s))
            ∙ by2 (λ (u : Expr) (v : Option Arguments). CallOn u v (name_of x.1.1.1.0)
            (pack_exprs (map expr_of x.1.1.1.1.1.0))) h.0 h.1.1.0 ∙ by2 (CallOn a types) h.1.1.1.0 h.1.1.1.1.1.0;
        put = λ x s ps. call_on-at x.0 x.1.1.0 (is_glued types) x.1.1.1.0 x.1.1.1.1.1.0 (omega (arith, s)) ps;
        size = λ x. omega arith;
        onto = λ rest. refl;
      })
  made (ClassOf xs) f =
      as-made AreAt (and AreAt (maker AreAt (names_part names_onto xs) (names-made xs)) (and AreAt (a_sign (codes "."))
      (a_keyword (codes "class") refl)))
      (expr_part (ClassOf xs)) (λ x. form.class_of x.0) (record {
        ok = λ x s h. class_of-is x.0 (omega (arith, s)) ∙ ap ClassOf h.0;
        put = λ x s ps. class_of-at x.0 (omega (arith, s)) ps;
        size = λ x. omega arith;
        onto = λ rest. refl;
      })
  made (New t all) f =
      as-made AreAt (and AreAt (a_placed (keyword (codes "new")) refl) (and AreAt (a_class t f.0) (and AreAt (a_sign
      (codes "(")) (and AreAt (maker AreAt (exprs_part exprs_onto all)
      (exprs-made all f.1)) (a_sign (codes ")"))))))
      (expr_part (New t all)) (λ x. form.new x.0 x.1.0 x.1.1.1.0) (record {
        ok = λ x s h. new-is x.0 x.1.0 x.1.1.1.0 (omega (arith, s)) ∙ by2 New h.1.0 h.1.1.1.0;
        put = λ x s ps. new-at x.0 x.1.0 x.1.1.1.0 (omega (arith, s)) ps;
        size = λ x. omega arith;
        onto = λ rest. refl;
      })
  made (NewArray t lengths n) f =
      as-made AreAt (and AreAt (a_placed (keyword (codes "new")) refl) (and AreAt (a_type t f.0.0) (and AreAt
      (maker AreAt
      (exprs_part lengths_onto lengths) (lengths-made lengths f.1)) (some_brackets n))))
      (expr_part (NewArray t lengths n)) (λ x. form.new_array x.0 x.1.0 x.1.1.0 n) (record {
        ok = λ x s h. new_array-is x.0 x.1.0 x.1.1.0 n (omega (arith, s)) ∙ by2 (λ u v. NewArray u v n) h.1.0 h.1.1.0;
        put = λ x s ps. new_array-at x.0 x.1.0 x.1.1.0 n (omega (arith, s)) ps;
        size = λ x. omega arith;
        onto = λ rest. refl;
      })
  made (NewItems t n items) f =
      as-made AreAt (and AreAt (a_placed (keyword (codes "new")) refl) (and AreAt (a_type t f.0.0) (and AreAt
      (some_brackets n) (maker AreAt (array_part items) (array-made items f.2)))))
      (expr_part (NewItems t n items)) (λ x. form.new_items x.0 x.1.0 n x.1.1.1) (record {
        ok = λ x s h. new_items-is x.0 x.1.0 n x.1.1.1 ∙ by2 (λ u v. NewItems u n v) h.1.0 h.1.1.1;
        put = λ x s ps. new_items-at x.0 x.1.0 n x.1.1.1 ps;
        size = λ x. omega arith;
        onto = λ rest. refl;
      })
  made (NewBody t all body) f =
      as-made AreAt (and AreAt (a_placed (keyword (codes "new")) refl) (and AreAt (a_class t f.0) (and AreAt
      (a_sign (codes "(")) (and AreAt (maker AreAt (exprs_part exprs_onto all) (exprs-made all f.1)) (and AreAt
      (a_sign (codes ")")) (maker AreAt (all_passed body) (all-passed-made body)))))))
      (expr_part (NewBody t all body)) (λ x. form.new_body x.0 x.1.0 x.1.1.1.0 body) (record {
        ok = λ x s h. new_body-is x.0 x.1.0 x.1.1.1.0 body (omega (arith, s))
            ∙ by2 (λ u v. NewBody u v body) h.1.0 h.1.1.1.0;
        put = λ x s ps. new_body-at x.0 x.1.0 x.1.1.1.0 body (omega (arith, s)) ps;
        size = λ x. omega arith;
        onto = λ rest. refl;
      })
  made (Lambda ps a) f =
      as-made AreAt (and AreAt (maker AreAt (all_passed ps) (all-passed-made ps)) (and AreAt (a_sign (codes "->"))
      (maker AreAt (expr_part a) (made a f.1))))
      (expr_part (Lambda ps a)) (λ x. form.lambda ps x.1.1) (record {
        ok = λ x s h. lambda-is ps x.1.1 ∙ ap (Lambda ps) h.1.1;
        put = λ x s qs. lambda-at ps x.1.1 qs;
        size = λ x. omega arith;
        onto = λ rest. refl;
      })
  made (BlockLambda ps block) f =
      as-made AreAt (and AreAt (maker AreAt (all_passed ps) (all-passed-made ps)) (and AreAt (a_sign (codes "->"))
      (maker AreAt (all_passed block) (all-passed-made block))))
      (expr_part (BlockLambda ps block)) (λ x. form.block_lambda ps block) (record {
        ok = λ x s h. block_lambda-is ps block;
        put = λ x s qs. block_lambda-at ps block qs;
        size = λ x. omega arith;
        onto = λ rest. refl;
      })
  made (Reference a types n) f =
      as-made AreAt (and AreAt (maker AreAt (expr_part a) (made a f.0)) (and AreAt (a_sign (codes "::"))
      (a_referred types n f.1)))
      (expr_part (Reference a types n)) (λ x. form.reference x.0 x.1.1.0 (is_glued types) x.1.1.1) (record {
        ok = λ x s h. reference-is x.0 x.1.1.0 (is_glued types) x.1.1.1 ∙ same_3 Reference h.0 h.1.1.0 h.1.1.1;
        put = λ x s ps. reference-at x.0 x.1.1.0 (is_glued types) x.1.1.1 ps;
        size = λ x. omega arith;
        onto = λ rest. refl;
      })
  made (TypeReference t types n) f =
      as-made AreAt (and AreAt (a_type t f.0) (and AreAt (a_sign (codes "::")) (a_referred types n f.1)))
      (expr_part (TypeReference t types n)) (λ x. form.type_reference x.0 x.1.1.0 (is_glued types) x.1.1.1) (record {
        ok = λ x s h. type_reference-is x.0 x.1.1.0 (is_glued types) x.1.1.1
            ∙ same_3 TypeReference h.0 h.1.1.0 h.1.1.1;
        put = λ x s ps. type_reference-at x.0 x.1.1.0 (is_glued types) x.1.1.1 ps;
        size = λ x. omega arith;
        onto = λ rest. refl;
      })
  made (SuperReference types n) f =
      as-made AreAt (and AreAt (a_keyword (codes "super") refl) (and AreAt (a_sign (codes "::"))
      (a_referred types n f)))
      (expr_part (SuperReference types n)) (λ x. form.super_reference x.1.1.0 (is_glued types) x.1.1.1) (record {
        ok = λ x s h. super_reference-is x.1.1.0 (is_glued types) x.1.1.1 ∙ by2 SuperReference h.1.1.0 h.1.1.1;
        put = λ x s ps. super_reference-at x.1.1.0 (is_glued types) x.1.1.1 ps;
        size = λ x. omega arith;
        onto = λ rest. refl;
      })
  made (PlainClass t) f =
      as-made AreAt (and AreAt (maker AreAt (marked_ty t) (marked-made t (literal-made t f))) (and AreAt
      (a_sign (codes ".")) (a_keyword (codes "class") refl)))
      (expr_part (PlainClass t)) (λ x. form.plain_class x.0) (record {
        ok = λ x s h. plain_class-is x.0 ∙ ap PlainClass h.0;
        put = λ x s ps. plain_class-at x.0 ps;
        size = λ x. omega arith;
        onto = λ rest. refl;
      })
  made (ThisOf xs) f =
      as-made AreAt (and AreAt (maker AreAt (names_part names_onto xs) (names-made xs)) (and AreAt (a_sign (codes "."))
      (a_keyword (codes "this") refl)))
      (expr_part (ThisOf xs)) (λ x. form.this_of x.0) (record {
        ok = λ x s h. this_of-is x.0 (omega (arith, s)) ∙ ap ThisOf h.0;
        put = λ x s ps. this_of-at x.0 (omega (arith, s)) ps;
        size = λ x. omega arith;
        onto = λ rest. refl;
      })

  pub exprs-made : (es : Exprs) → FormedExprs es → Makes AreAt (exprs_part exprs_onto es)
  exprs-made no_expr f =
      as-made AreAt (maker AreAt (nothing AreAt) (nothing-made AreAt)) (exprs_part exprs_onto no_expr) (λ x. [])
      (record { ok = λ x s h. refl; put = λ x s ps. refl; size = λ x. omega arith; onto = λ rest. refl })
  exprs-made (expr_then e es) f =
      as-made AreAt (and AreAt (maker AreAt (expr_part e) (made e f.0)) (maker AreAt (exprs_part more_exprs_onto es)
      (more-exprs-made es f.1)))
      (exprs_part exprs_onto (expr_then e es)) (λ x. x.0 ∷ x.1) (record {
        ok = λ x s h. by2 expr_then h.0 h.1;
        put = λ x s ps. refl;
        size = λ x. omega arith;
        onto = λ rest. refl;
      })

  more-exprs-made : (es : Exprs) → FormedExprs es → Makes AreAt (exprs_part more_exprs_onto es)
  more-exprs-made no_expr f =
      as-made AreAt (maker AreAt (nothing AreAt) (nothing-made AreAt)) (exprs_part more_exprs_onto no_expr) (λ x. [])
      (record { ok = λ x s h. refl; put = λ x s ps. refl; size = λ x. omega arith; onto = λ rest. refl })
  more-exprs-made (expr_then e es) f =
      as-made AreAt (and AreAt (a_sign (codes ",")) (and AreAt (maker AreAt (expr_part e) (made e f.0)) (maker AreAt
      (exprs_part more_exprs_onto es) (more-exprs-made es f.1))))
      (exprs_part more_exprs_onto (expr_then e es)) (λ x. x.1.0 ∷ x.1.1) (record {
        ok = λ x s h. by2 expr_then h.1.0 h.1.1;
        put = λ x s ps. refl;
        size = λ x. omega arith;
        onto = λ rest. refl;
      })

  lengths-made : (es : Exprs) → FormedExprs es → Makes AreAt (exprs_part lengths_onto es)
  lengths-made no_expr f =
      as-made AreAt (maker AreAt (nothing AreAt) (nothing-made AreAt)) (exprs_part lengths_onto no_expr) (λ x. [])
      (record { ok = λ x s h. refl; put = λ x s ps. refl; size = λ x. omega arith; onto = λ rest. refl })
  lengths-made (expr_then e es) f =
      as-made AreAt (and AreAt (a_sign (codes "[")) (and AreAt (maker AreAt (expr_part e) (made e f.0)) (and AreAt
      (a_sign
      (codes "]")) (maker AreAt (exprs_part lengths_onto es) (lengths-made es f.1)))))
      (exprs_part lengths_onto (expr_then e es)) (λ x. x.1.0 ∷ x.1.1.1) (record {
        ok = λ x s h. by2 expr_then h.1.0 h.1.1.1;
        put = λ x s ps. refl;
        size = λ x. omega arith;
        onto = λ rest. refl;
      })

  array-made : (a : Array) → FormedArray a → Makes AreAt (array_part a)
  array-made (Braces items last) f =
      as-made AreAt (and AreAt (a_sign (codes "{")) (and AreAt (maker AreAt (inits_part inits_onto items)
      (inits-made items f.0)) (and AreAt (maker AreAt (comma_part last) (comma-made last)) (a_sign (codes "}")))))
      (array_part (Braces items last)) (λ x. form.braces x.1.0 last) (record {
        ok = λ x s h. braces-is x.1.0 last (omega (arith, s)) ∙ ap (λ u. Braces u last) h.1.0;
        put = λ x s ps. braces-at x.1.0 last (omega (arith, s)) ps;
        size = λ x. omega arith;
        onto = λ rest. refl;
      })

  inits-made : (es : Inits) → FormedInits es → Makes AreAt (inits_part inits_onto es)
  inits-made no_init f =
      as-made AreAt (maker AreAt (nothing AreAt) (nothing-made AreAt)) (inits_part inits_onto no_init) (λ x. [])
      (record { ok = λ x s h. refl; put = λ x s ps. refl; size = λ x. omega arith; onto = λ rest. refl })
  inits-made (init_then e es) f =
      as-made AreAt (and AreAt (maker AreAt (init_part e) (init-made e f.0)) (maker AreAt
      (inits_part more_inits_onto es)
      (more-inits-made es f.1)))
      (inits_part inits_onto (init_then e es)) (λ x. x.0 ∷ x.1) (record {
        ok = λ x s h. by2 init_then h.0 h.1;
        put = λ x s ps. refl;
        size = λ x. omega arith;
        onto = λ rest. refl;
      })

  more-inits-made : (es : Inits) → FormedInits es → Makes AreAt (inits_part more_inits_onto es)
  more-inits-made no_init f =
      as-made AreAt (maker AreAt (nothing AreAt) (nothing-made AreAt)) (inits_part more_inits_onto no_init) (λ x. [])
      (record { ok = λ x s h. refl; put = λ x s ps. refl; size = λ x. omega arith; onto = λ rest. refl })
  more-inits-made (init_then e es) f =
      as-made AreAt (and AreAt (a_sign (codes ",")) (and AreAt (maker AreAt (init_part e) (init-made e f.0))
      (maker AreAt
      (inits_part more_inits_onto es) (more-inits-made es f.1))))
      (inits_part more_inits_onto (init_then e es)) (λ x. x.1.0 ∷ x.1.1) (record {
        ok = λ x s h. by2 init_then h.1.0 h.1.1;
        put = λ x s ps. refl;
        size = λ x. omega arith;
        onto = λ rest. refl;
      })

  pub init-made : (i : Init) → FormedInit i → Makes AreAt (init_part i)
  init-made (Value e) f =
      as-made AreAt (maker AreAt (expr_part e) (made e f))
      (init_part (Value e)) (λ x. form.value x) (record {
        ok = λ x s h. value-is x ∙ ap Value h;
        put = λ x s ps. value-at x ps;
        size = λ x. omega arith;
        onto = λ rest. refl;
      })
  init-made (Items items) f =
      as-made AreAt (maker AreAt (array_part items) (array-made items f))
      (init_part (Items items)) (λ x. form.items x) (record {
        ok = λ x s h. items-is x ∙ ap Items h;
        put = λ x s ps. items-at x ps;
        size = λ x. omega arith;
        onto = λ rest. refl;
      })
