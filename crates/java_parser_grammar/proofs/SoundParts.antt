-- What is read of the parts of statements is formed, small, and spells what was taken.
use Rattle.std.proofs.Common.{◌≡◌, ℕ, ◌≤◌, max, List, [], ◌∷◌, length, Option, Some, None, codes, refl, ap}
use Rattle.std.proofs.Common.{◌∙◌, arith}
use Rattle.java_tree.specs.declared.words.Spelled.{Spelled}
use Rattle.java_tree.specs.Words.{identifier, sign}
use Rattle.java_tree.specs.Operators.{conditional_level}
use Rattle.java_tree.specs.Trees.{Ty, Expr, pack_exprs, Modifier, Variable, Locals}
use Rattle.java_tree.specs.Spelling.{behind_commas, commas_onto, brackets_onto, ty_onto, expr_onto, exprs_onto}
use Rattle.java_tree.specs.Spelling.{more_exprs_onto, maybe_expr_onto, init_onto, modifiers_onto, variable_onto}
use Rattle.java_tree.specs.Spelling.{locals_onto}
use Rattle.java_tree.specs.FormedModifiers.{Each, FormedVariableModifiers}
use Rattle.java_tree.specs.Formed.{FormedTy, FormedExpr, FormedMaybeExpr, FormedRun, FormedRuns, FormedInit}
use Rattle.java_tree.specs.Formed.{FormedVariable, FormedLocals, is_run, level}
use Rattle.java_tree.specs.Nesting.{most_over, ty_nesting, expr_nesting, exprs_nesting, maybe_expr_nesting}
use Rattle.java_tree.specs.Nesting.{init_nesting, variable_nesting, locals_nesting}
use Rattle.java_parser_grammar.specs.Taking.{after_sign, after_name}
use Rattle.java_parser_grammar.specs.TypeReading.{brackets_at}
use Rattle.java_parser_grammar.specs.BalancedReading.{before_type_at}
use Rattle.java_parser_grammar.specs.Readers.{Readers}
use Rattle.java_parser_grammar.specs.Leads.{begins_with}
use Rattle.java_parser_grammar.specs.StatementReading.{comma_list, variable_at, variables_at, locals_at}
use Rattle.java_parser_grammar.specs.StatementReading.{condition_at, expr_until, run_at, runs_until}
use Rattle.java_parser_grammar.proofs.Ensuring.{Ensures, weaker, then_ensures, if_ensures, match_ensures, sign_taken}
use Rattle.java_parser_grammar.proofs.Ensuring.{name_taken, brackets_are}
use Rattle.java_parser_grammar.proofs.SoundTokens.{Taken}
use Rattle.java_parser_grammar.proofs.SoundAnnotations.{before_type_sound}
use Rattle.java_parser_grammar.proofs.SoundSteps.{GotOne, SomeOf, list_sound}

-- what readers must give: what they read is formed, small, and spells what was taken
pub record AreSound (readers : Readers) : Type 0 where
  pub expr : (n : ℕ) (ts : List Spelled) → Ensures (GotOne FormedExpr expr_nesting expr_onto n ts) (readers.expr n 0 ts)
  -- one that is no assignment
  pub conditional : (n : ℕ) (ts : List Spelled) → Ensures (GotOne (λ e. FormedExpr e × (conditional_level ≤ level e))
      expr_nesting expr_onto n ts) (readers.expr n conditional_level ts)
  pub ty : (n : ℕ) (ts : List Spelled) → Ensures (GotOne FormedTy ty_nesting ty_onto n ts) (readers.ty n ts)
  pub init : (n : ℕ) (ts : List Spelled) → Ensures (GotOne FormedInit init_nesting init_onto n ts) (readers.init n ts)

-- ---- expressions that are run

runs_formed : (es : List Expr) → Each FormedRun es → FormedRuns (pack_exprs es)
runs_formed [] f = tt
runs_formed (e ∷ es) f = (f.0, runs_formed es f.1)

packed_nesting : (es : List Expr) → exprs_nesting (pack_exprs es) ≡ most_over expr_nesting es
packed_nesting [] = refl
packed_nesting (e ∷ es) = ap (λ k. max (expr_nesting e) k) (packed_nesting es)

more_packed : (es : List Expr) (r : List Spelled) → behind_commas expr_onto es r ≡ more_exprs_onto (pack_exprs es) r
more_packed [] r = refl
more_packed (e ∷ es) r = ap (λ (s : List Spelled). sign (codes ",") ∷ expr_onto e s) (more_packed es r)

packed : (es : List Expr) (r : List Spelled) → commas_onto expr_onto es r ≡ exprs_onto (pack_exprs es) r
packed [] r = refl
packed (e ∷ es) r = ap (expr_onto e) (more_packed es r)

module _ (readers : Readers) (sound : AreSound readers) where
  -- ---- variables

  variable_sound : (n : ℕ) (ts : List Spelled) → Ensures (GotOne FormedVariable variable_nesting variable_onto n ts)
      (variable_at readers n ts)
  unfolding variable_at
  variable_sound n ts =
      let G : Variable × List Spelled → Type 0 = GotOne FormedVariable variable_nesting variable_onto n ts in
      then_ensures (λ x. ts ≡ identifier x.0 ∷ x.1) G (after_name ts) _ (name_taken ts)
      (λ x e.
      let m = brackets_at (length x.1) x.1 in
      let named : ts ≡ identifier x.0 ∷ brackets_onto m.0 m.1 =
      e ∙ ap (λ (s : List Spelled). identifier x.0 ∷ s) (brackets_are (length x.1) x.1) in
      match_ensures (λ r. m.1 ≡ sign (codes "=") ∷ r) G (after_sign (codes "=") m.1) _ _
      (sign_taken (codes "=") m.1) (record { formed = tt; small = omega arith; spelled = named })
      (λ r d. then_ensures (GotOne FormedInit init_nesting init_onto n r) G (readers.init n r) _ (sound.init n r)
      (λ i g. record {
        formed = g.formed;
        small = g.small;
        spelled = named ∙ ap (λ (s : List Spelled). identifier x.0 ∷ brackets_onto m.0 s) (d
            ∙ ap (λ (s : List Spelled). sign (codes "=") ∷ s) g.spelled);
      })))

  -- variables with commas between them
  pub listed_sound : (n : ℕ) (ts : List Spelled)
      → Ensures (GotOne (SomeOf FormedVariable) (most_over variable_nesting) (commas_onto variable_onto) n ts)
      (comma_list (variable_at readers n) ts)
  listed_sound n =
      list_sound FormedVariable variable_nesting variable_onto n (variable_at readers n) (variable_sound n)

  -- a declaration from behind its type on
  pub declared_sound : (n : ℕ) (ms : List Modifier) (ts r : List Spelled) → FormedVariableModifiers ms
      → ts ≡ modifiers_onto ms r → (t : Ty × List Spelled) → GotOne FormedTy ty_nesting ty_onto n r t
      → Ensures (GotOne FormedLocals locals_nesting locals_onto n ts) (variables_at readers n ms t.0 t.1)
  unfolding variables_at
  declared_sound n ms ts r f e t g =
      let G : Locals × List Spelled → Type 0 = GotOne FormedLocals locals_nesting locals_onto n ts in
      then_ensures (GotOne (SomeOf FormedVariable) (most_over variable_nesting) (commas_onto variable_onto) n t.1) G
      (comma_list (variable_at readers n) t.1) _
      (listed_sound n t.1)
      (λ vs h. record {
        formed = (f, g.formed, h.formed.0, h.formed.1);
        small = omega (arith, g.small, h.small);
        spelled = e ∙ ap (modifiers_onto ms) (g.spelled ∙ ap (ty_onto t.0) h.spelled);
      })

  pub locals_sound : (n : ℕ) (ts : List Spelled) → Ensures (GotOne FormedLocals locals_nesting locals_onto n ts)
      (locals_at readers n ts)
  unfolding locals_at
  locals_sound n ts =
      let G : Locals × List Spelled → Type 0 = GotOne FormedLocals locals_nesting locals_onto n ts in
      then_ensures (Taken FormedVariableModifiers modifiers_onto ts) G (before_type_at ts) _ (before_type_sound ts)
      (λ ms f. then_ensures (GotOne FormedTy ty_nesting ty_onto n ms.1) G (readers.ty n ms.1) _ (sound.ty n ms.1)
      (λ t g. declared_sound n ms.0 ts ms.1 f.formed f.spelled t g))

  -- ---- expressions

  pub condition_sound : (n : ℕ) (ts : List Spelled) → Ensures (GotOne FormedExpr expr_nesting (λ e r. sign (codes "(")
      ∷ expr_onto e (sign (codes ")") ∷ r)) n ts) (condition_at readers n ts)
  unfolding condition_at
  condition_sound n ts =
      let G : Expr × List Spelled → Type 0 =
      GotOne FormedExpr expr_nesting (λ e r. sign (codes "(") ∷ expr_onto e (sign (codes ")") ∷ r)) n ts in
      then_ensures (λ r. ts ≡ sign (codes "(") ∷ r) G (after_sign (codes "(") ts) _ (sign_taken (codes "(") ts)
      (λ r e. then_ensures (GotOne FormedExpr expr_nesting expr_onto n r) G (readers.expr n 0 r) _ (sound.expr n r)
      (λ x g. then_ensures (λ s. x.1 ≡ sign (codes ")") ∷ s) G (after_sign (codes ")") x.1) _ (sign_taken (codes ")")
      x.1)
      (λ s d. record {
        formed = g.formed;
        small = g.small;
        spelled = e ∙ ap (λ (u : List Spelled). sign (codes "(")
            ∷ u) (g.spelled ∙ ap (expr_onto x.0) d);
      })))

  pub until_sound : (n : ℕ) (end : List ℕ) (ts : List Spelled) → Ensures (GotOne FormedMaybeExpr maybe_expr_nesting
      maybe_expr_onto n ts) (expr_until readers n end ts)
  until_sound n end ts =
      let G : Option Expr × List Spelled → Type 0 = GotOne FormedMaybeExpr maybe_expr_nesting maybe_expr_onto n ts in
      if_ensures G (begins_with end ts) _ _ (λ here. record { formed = tt; small = omega arith; spelled = refl })
      (λ away. then_ensures (GotOne FormedExpr expr_nesting expr_onto n ts) G (readers.expr n 0 ts) _ (sound.expr n ts)
      (λ x g. record { formed = g.formed; small = g.small; spelled = g.spelled }))

  pub run_sound : (n : ℕ) (ts : List Spelled) → Ensures (GotOne FormedRun expr_nesting expr_onto n ts)
      (run_at readers n ts)
  run_sound n ts =
      let G : Expr × List Spelled → Type 0 = GotOne FormedRun expr_nesting expr_onto n ts in
      then_ensures (GotOne FormedExpr expr_nesting expr_onto n ts) G (readers.expr n 0 ts) _ (sound.expr n ts)
      (λ x g. if_ensures G (is_run x.0) (Some x) None (λ runs. record {
        formed = (g.formed, runs);
        small = g.small;
        spelled = g.spelled;
      }) (λ other. tt))

  pub runs_sound : (n : ℕ) (end : List ℕ) (ts : List Spelled) → Ensures (GotOne (λ es. FormedRuns (pack_exprs es))
      (λ es. exprs_nesting (pack_exprs es)) (λ es. exprs_onto (pack_exprs es)) n ts) (runs_until readers n end ts)
  runs_sound n end ts =
      let G : List Expr × List Spelled → Type 0 =
      GotOne (λ es. FormedRuns (pack_exprs es)) (λ es. exprs_nesting (pack_exprs es)) (λ es. exprs_onto
      (pack_exprs es)) n ts in
      if_ensures G (begins_with end ts) _ _ (λ here. record { formed = tt; small = omega arith; spelled = refl })
      (λ away. weaker _ G (comma_list (run_at readers n) ts) (λ es g. record {
        formed = runs_formed es.0 g.formed.1;
        small = rw (packed_nesting es.0) g.small;
        spelled = g.spelled ∙ packed es.0 es.1;
      })
      (list_sound FormedRun expr_nesting expr_onto n (run_at readers n) (run_sound n) ts))
