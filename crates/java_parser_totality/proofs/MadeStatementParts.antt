-- Parts of statements, without statements inside, are made of the tokens of formed ones.
use Rattle.std.proofs.Common.{◌≡◌, ℕ, List, [], ◌∷◌, Option, Some, None, map, length}
use Rattle.std.proofs.Common.{refl, ap, arith, codes}
use Rattle.std.specs.Prelude.{option_map}
use Rattle.java_tree.specs.declared.words.Spelled.{Spelled}
use Rattle.java_tree.specs.declared.expressions.Expression.{Expression}
use Rattle.java_tree.specs.declared.expressions.Initialiser.{Initialiser}
use Rattle.java_tree.specs.declared.statements.VariableTree.{VariableTree}
use Rattle.java_tree.specs.declared.statements.LocalsTree.{LocalsTree}
use Rattle.java_tree.specs.declared.statements.StartTree.{StartTree}
use Rattle.java_tree.specs.declared.statements.StartTree.TheVariants as start
use Rattle.java_tree.specs.KeptPlaces.{AreAt, each_puts, maybe_puts, expr_places, init_places, variable_places}
use Rattle.java_tree.specs.KeptPlaces.{locals_places, start_places}
use Rattle.java_tree.specs.Trees.{Ty, Expr, Exprs, Init, Modifier, Variable, Locals, Start, Declares, Runs}
use Rattle.java_tree.specs.Spelling.{behind_commas, commas_onto, exprs_onto, maybe_expr_onto}
use Rattle.java_tree.specs.Spelling.{maybe_init_onto, variable_onto, locals_onto, start_onto}
use Rattle.java_tree.specs.FormedModifiers.{Each}
use Rattle.java_tree.specs.Formed.{FormedExpr, FormedMaybeExpr, FormedRuns, FormedMaybeInit}
use Rattle.java_tree.specs.Formed.{FormedVariable, FormedLocals, FormedStart}
use Rattle.java_tree.specs.View.{expr_of, init_of, variable_of, locals_of, start_of}
use Rattle.java_parser_totality.proofs.Parts.{Makes, Maker, maker, nothing, nothing-made, and, as-made}
use Rattle.java_parser_totality.proofs.MadeMarks.{by2, Marked-Part, a_sign, a_name, a_type, some_brackets}
use Rattle.java_parser_totality.proofs.MadeMarks.{modifiers_part}
use Rattle.java_parser_totality.proofs.MadeMarks.{modifiers-made}
use Rattle.java_parser_totality.proofs.MadeExpressions.{expr_part, exprs_part, init_part, made, exprs-made}
use Rattle.java_parser_totality.proofs.MadeExpressions.{init-made}
use Rattle.java_parser_grammar.proofs.LongerStatements.{runs_formed}
use Rattle.racer_base.proofs.Lists.{same_3}

abbrev pub an_expr_of : (e : Expr) → FormedExpr e → Maker AreAt
an_expr_of e f = maker AreAt (expr_part e) (made e f)

-- ---- variables

abbrev maybe_init_part : Option Init → Marked-Part
maybe_init_part o =
    record {
      X = Option Initialiser;
      ok = λ x. option_map init_of x ≡ o;
      put = λ x. maybe_puts (option_map init_places x);
      size = λ _. 0;
      onto = maybe_init_onto o;
    }

maybe-init-made : (o : Option Init) → FormedMaybeInit o → Makes AreAt (maybe_init_part o)
maybe-init-made None f =
    as-made AreAt (maker AreAt (nothing AreAt) (nothing-made AreAt)) (maybe_init_part None) (λ x. None)
    (record { ok = λ x s h. refl; put = λ x s ps. refl; size = λ x. omega arith; onto = λ rest. refl })
maybe-init-made (Some i) f =
    as-made AreAt (and AreAt (a_sign (codes "=")) (maker AreAt (init_part i) (init-made i f))) (maybe_init_part
    (Some i))
    (λ x. Some x.1)
    (record { ok = λ x s h. ap Some h.1; put = λ x s ps. refl; size = λ x. omega arith; onto = λ rest. refl })

abbrev variable_part : Variable → Marked-Part
variable_part v =
    record {
      X = VariableTree;
      ok = λ x. variable_of x ≡ v;
      put = variable_places;
      size = λ _. 1;
      onto = variable_onto v;
    }

variable-made : (v : Variable) → FormedVariable v → Makes AreAt (variable_part v)
variable-made v f =
    as-made AreAt (and AreAt (a_name v.name) (and AreAt (some_brackets v.arrays) (maker AreAt
    (maybe_init_part v.initialiser) (maybe-init-made v.initialiser f)))) (variable_part v)
    (λ x. record { name = x.0; arrays = v.arrays; initialiser = x.1.1 }) (record {
      ok = λ x s h. by2 (λ (n : List ℕ) (i : Option Init). record { name = n; arrays = v.arrays; initialiser = i }) h.0
          h.1.1;
      put = λ x s ps. refl;
      size = λ x. omega arith;
      onto = λ rest. refl;
    })

abbrev variables_part : (List Variable → List Spelled → List Spelled) → List Variable → Marked-Part
variables_part onto vs =
    record {
      X = List VariableTree;
      ok = λ xs. map variable_of xs ≡ vs;
      put = λ xs. each_puts (map variable_places xs);
      size = λ xs. length xs;
      onto = onto vs;
    }

more-variables-made : (vs : List Variable) → Each FormedVariable vs
    → Makes AreAt (variables_part (behind_commas variable_onto) vs)
more-variables-made [] f =
    as-made AreAt (maker AreAt (nothing AreAt) (nothing-made AreAt)) (variables_part (behind_commas variable_onto) [])
    (λ x. []) (record { ok = λ x s h. refl; put = λ x s ps. refl; size = λ x. omega arith; onto = λ rest. refl })
more-variables-made (v ∷ vs) f =
    as-made AreAt (and AreAt (a_sign (codes ",")) (and AreAt (maker AreAt (variable_part v) (variable-made v f.0))
    (maker AreAt (variables_part (behind_commas variable_onto) vs) (more-variables-made vs f.1))))
    (variables_part (behind_commas variable_onto) (v ∷ vs)) (λ x. x.1.0 ∷ x.1.1) (record {
      ok = λ x s h. by2 (λ (y : Variable) (ys : List Variable). y ∷ ys) h.1.0 h.1.1;
      put = λ x s ps. refl;
      size = λ x. omega arith;
      onto = λ rest. refl;
    })

variables-made : (vs : List Variable) → Each FormedVariable vs
    → Makes AreAt (variables_part (commas_onto variable_onto) vs)
variables-made [] f =
    as-made AreAt (maker AreAt (nothing AreAt) (nothing-made AreAt)) (variables_part (commas_onto variable_onto) [])
    (λ x. []) (record { ok = λ x s h. refl; put = λ x s ps. refl; size = λ x. omega arith; onto = λ rest. refl })
variables-made (v ∷ vs) f =
    as-made AreAt (and AreAt (maker AreAt (variable_part v) (variable-made v f.0)) (maker AreAt (variables_part
    (behind_commas variable_onto) vs) (more-variables-made vs f.1))) (variables_part (commas_onto variable_onto)
    (v ∷ vs)) (λ x. x.0 ∷ x.1) (record {
      ok = λ x s h. by2 (λ (y : Variable) (ys : List Variable). y ∷ ys) h.0 h.1;
      put = λ x s ps. refl;
      size = λ x. omega arith;
      onto = λ rest. refl;
    })

abbrev pub locals_part : Locals → Marked-Part
locals_part l =
    record {
      X = LocalsTree;
      ok = λ x. locals_of x ≡ l;
      put = locals_places;
      size = λ _. 0;
      onto = locals_onto l;
    }

pub locals-made : (l : Locals) → FormedLocals l → Makes AreAt (locals_part l)
locals-made l f =
    as-made AreAt (and AreAt (maker AreAt (modifiers_part l.modifiers) (modifiers-made l.modifiers)) (and AreAt
    (a_type l.kind f.1) (maker AreAt (variables_part (commas_onto variable_onto) l.variables)
    (variables-made l.variables f.3)))) (locals_part l)
    (λ x. record { modifiers = x.0; kind = x.1.0; variables = x.1.1 }) (record {
      ok = λ x s h. same_3 (λ (ms : List Modifier) (t : Ty) (vs : List Variable). record {
        modifiers = ms;
        kind = t;
        variables = vs;
      }) h.0 h.1.0 h.1.1;
      put = λ x s ps. refl;
      size = λ x. omega arith;
      onto = λ rest. refl;
    })

abbrev pub a_locals : (l : Locals) → FormedLocals l → Maker AreAt
a_locals l f = maker AreAt (locals_part l) (locals-made l f)

-- ---- parts of statements

abbrev pub maybe_expr_part : Option Expr → Marked-Part
maybe_expr_part o =
    record {
      X = Option Expression;
      ok = λ x. option_map expr_of x ≡ o;
      put = λ x. maybe_puts (option_map expr_places x);
      size = λ _. 0;
      onto = maybe_expr_onto o;
    }

pub maybe-expr-made : (o : Option Expr) → FormedMaybeExpr o → Makes AreAt (maybe_expr_part o)
maybe-expr-made None f =
    as-made AreAt (maker AreAt (nothing AreAt) (nothing-made AreAt)) (maybe_expr_part None) (λ x. None)
    (record { ok = λ x s h. refl; put = λ x s ps. refl; size = λ x. omega arith; onto = λ rest. refl })
maybe-expr-made (Some e) f =
    as-made AreAt (an_expr_of e f) (maybe_expr_part (Some e)) Some
    (record { ok = λ x s h. ap Some h; put = λ x s ps. refl; size = λ x. omega arith; onto = λ rest. refl })

abbrev pub some_runs : (es : Exprs) → FormedRuns es → Maker AreAt
some_runs es f = maker AreAt (exprs_part exprs_onto es) (exprs-made es (runs_formed es f))

abbrev pub start_part : Start → Marked-Part
start_part i =
    record {
      X = StartTree;
      ok = λ x. start_of x ≡ i;
      put = start_places;
      size = λ _. 0;
      onto = start_onto i;
    }

pub start-made : (i : Start) → FormedStart i → Makes AreAt (start_part i)
start-made (Declares l) f =
    as-made AreAt (a_locals l f) (start_part (Declares l)) start.Local
    (record { ok = λ x s h. ap Declares h; put = λ x s ps. refl; size = λ x. omega arith; onto = λ rest. refl })
start-made (Runs all) f =
    as-made AreAt (some_runs all f) (start_part (Runs all)) start.Expressions
    (record { ok = λ x s h. ap Runs h; put = λ x s ps. refl; size = λ x. omega arith; onto = λ rest. refl })
