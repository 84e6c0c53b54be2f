-- Arguments, lengths and items that are read are formed, small, and spelled by what was taken.
use Rattle.std.proofs.Common.{◌≡◌, ℕ, zero, suc, ◌≤◌, Bool, true, IsTrue, List, ◌∷◌, length, refl, ap, ◌∙◌, arith}
use Rattle.std.proofs.Common.{codes}
use Rattle.java_tree.specs.declared.words.Spelled.{Spelled}
use Rattle.java_tree.specs.Words.{sign}
use Rattle.java_tree.specs.Trees.{Expr, Array, Init, pack_exprs, pack_inits}
use Rattle.java_tree.specs.Spelling.{last_comma_onto, expr_onto, exprs_onto, more_exprs_onto, lengths_onto}
use Rattle.java_tree.specs.Spelling.{array_onto, more_inits_onto, init_onto}
use Rattle.java_tree.specs.Formed.{level, ends_open, is_lambda, FormedExpr, FormedExprs, FormedArray, FormedInits}
use Rattle.java_tree.specs.Formed.{FormedInit}
use Rattle.java_tree.specs.Nesting.{expr_nesting, exprs_nesting, array_nesting, inits_nesting, init_nesting}
use Rattle.java_parser_grammar.specs.Taking.{after_sign, commas}
use Rattle.java_parser_grammar.specs.TypeReading.{after_brackets}
use Rattle.java_parser_grammar.specs.Leads.{pull, begins_lambda}
use Rattle.java_parser_grammar.specs.BalancedReading.{Reading}
use Rattle.java_parser_grammar.specs.ExpressionReading.{call_arguments_with, lengths_with, init_with}
use Rattle.java_parser_grammar.specs.ExpressionReading.{items_with}
use Rattle.java_parser_grammar.specs.ExpressionReading.{braces_with}
use Rattle.java_parser_grammar.proofs.Ensuring.{Ensures, then_ensures, match_ensures, sign_taken, brackets_taken}

-- an expression that is as far as it was read
pub record Grown (n l : ℕ) (ts : List Spelled) (x : Expr × List Spelled) : Type 0 where
  pub formed : FormedExpr x.0
  pub high : l ≤ 12 → l ≤ level x.0
  pub small : expr_nesting x.0 ≤ n
  pub spelled : ts ≡ expr_onto x.0 x.1
  -- nothing goes on with the expression of a lambda at its end
  pub shut : IsTrue (ends_open x.0) → pull x.1 ≤ 0

-- a whole one, which is a lambda where one begins
pub record Got (n l : ℕ) (ts : List Spelled) (x : Expr × List Spelled) : Type 0 where
  pub formed : FormedExpr x.0
  pub high : l ≤ 12 → l ≤ level x.0
  pub small : expr_nesting x.0 ≤ n
  pub spelled : ts ≡ expr_onto x.0 x.1
  pub shut : IsTrue (ends_open x.0) → pull x.1 ≤ 0
  pub lambda : begins_lambda ts ≡ true → is_lambda x.0 ≡ true

-- expressions behind commas
pub record GotMore (n : ℕ) (ts : List Spelled) (x : List Expr × List Spelled) : Type 0 where
  pub formed : FormedExprs (pack_exprs x.0)
  pub small : exprs_nesting (pack_exprs x.0) ≤ n
  pub spelled : ts ≡ more_exprs_onto (pack_exprs x.0) x.1

-- the arguments of a call, and the `)`
pub record GotArguments (n : ℕ) (ts : List Spelled) (x : List Expr × List Spelled) : Type 0 where
  pub formed : FormedExprs (pack_exprs x.0)
  pub small : exprs_nesting (pack_exprs x.0) ≤ n
  pub spelled : ts ≡ exprs_onto (pack_exprs x.0) (sign (codes ")") ∷ x.1)

pub record GotLengths (n : ℕ) (ts : List Spelled) (x : List Expr × List Spelled) : Type 0 where
  pub formed : FormedExprs (pack_exprs x.0)
  pub small : exprs_nesting (pack_exprs x.0) ≤ n
  pub spelled : ts ≡ lengths_onto (pack_exprs x.0) x.1

pub record GotArray (n : ℕ) (ts : List Spelled) (x : Array × List Spelled) : Type 0 where
  pub formed : FormedArray x.0
  pub small : array_nesting x.0 ≤ n
  pub spelled : ts ≡ array_onto x.0 x.1

pub record GotInit (n : ℕ) (ts : List Spelled) (x : Init × List Spelled) : Type 0 where
  pub formed : FormedInit x.0
  pub small : init_nesting x.0 ≤ n
  pub spelled : ts ≡ init_onto x.0 x.1

-- items behind commas, the last comma and the `}`
pub record GotItems (n : ℕ) (ts : List Spelled) (x : List Init × Bool × List Spelled) : Type 0 where
  pub formed : FormedInits (pack_inits x.0)
  pub small : inits_nesting (pack_inits x.0) ≤ n
  pub spelled : ts ≡ more_inits_onto (pack_inits x.0) (last_comma_onto x.1 (sign (codes "}") ∷ x.2))

module _ (n : ℕ) (read : ℕ → Reading Expr) (sound : (l : ℕ) (ts : List Spelled) → Ensures (Got n l ts) (read l ts))
  where
    more_sound : (m : ℕ) (ts : List Spelled) → Ensures (GotMore n ts) (commas (read 0) m ts)
    unfolding commas
    more_sound zero ts = record { formed = tt; small = omega arith; spelled = refl }
    more_sound (suc m) ts =
        match_ensures _ (GotMore n ts) (after_sign (codes ",") ts) _ _ (sign_taken (codes ",") ts)
        (record { formed = tt; small = omega arith; spelled = refl })
        (λ r e. then_ensures (Got n 0 r) (GotMore n ts) (read 0 r) _ (sound 0 r)
        (λ a g. then_ensures (GotMore n a.1) (GotMore n ts) (commas (read 0) m a.1) _ (more_sound m a.1)
        (λ others h. record {
          formed = (g.formed, h.formed);
          small = omega (arith, g.small, h.small);
          spelled = e
              ∙ ap (λ (u : List Spelled). sign (codes ",") ∷ u) (g.spelled ∙ ap (expr_onto a.0) h.spelled);
        })))

    pub arguments_sound : (ts : List Spelled) → Ensures (GotArguments n ts) (call_arguments_with read ts)
    unfolding call_arguments_with
    arguments_sound ts =
        match_ensures _ (GotArguments n ts) (after_sign (codes ")") ts) _ _ (sign_taken (codes ")") ts)
        (then_ensures (Got n 0 ts) (GotArguments n ts) (read 0 ts) _ (sound 0 ts)
        (λ a g. then_ensures (GotMore n a.1) (GotArguments n ts) (commas (read 0) (length a.1) a.1) _
        (more_sound (length a.1) a.1)
        (λ others h. then_ensures _ (GotArguments n ts) (after_sign (codes ")") others.1) _ (sign_taken (codes ")")
        others.1)
        (λ r e. record {
          formed = (g.formed, h.formed);
          small = omega (arith, g.small, h.small);
          spelled = g.spelled
              ∙ ap (expr_onto a.0) (h.spelled ∙ ap (more_exprs_onto (pack_exprs others.0)) e);
        }))))
        (λ r e. record { formed = tt; small = omega arith; spelled = e })

    pub lengths_sound : (m : ℕ) (ts : List Spelled) → Ensures (GotLengths n ts) (lengths_with (read 0) m ts)
    unfolding lengths_with
    lengths_sound zero ts = record { formed = tt; small = omega arith; spelled = refl }
    lengths_sound (suc m) ts =
        match_ensures _ (GotLengths n ts) (after_brackets ts) _ _ (brackets_taken ts)
        (match_ensures _ (GotLengths n ts) (after_sign (codes "[") ts) _ _ (sign_taken (codes "[") ts)
        (record { formed = tt; small = omega arith; spelled = refl })
        (λ r e. then_ensures (Got n 0 r) (GotLengths n ts) (read 0 r) _ (sound 0 r)
        (λ a g. then_ensures _ (GotLengths n ts) (after_sign (codes "]") a.1) _ (sign_taken (codes "]") a.1)
        (λ s f. then_ensures (GotLengths n s) (GotLengths n ts) (lengths_with (read 0) m s) _ (lengths_sound m s)
        (λ others h. record {
          formed = (g.formed, h.formed);
          small = omega (arith, g.small, h.small);
          spelled = e
              ∙ ap (λ (u : List Spelled). sign (codes "[") ∷ u) (g.spelled ∙ ap (expr_onto a.0) (f
              ∙ ap (λ (u : List Spelled). sign (codes "]") ∷ u) h.spelled));
        })))))
        (λ r e. record { formed = tt; small = omega arith; spelled = refl })

    pub init_sound : (array : Reading Array) → ((ts : List Spelled) → Ensures (GotArray n ts) (array ts))
        → (ts : List Spelled) → Ensures (GotInit n ts) (init_with (read 0) array ts)
    init_sound array filled ts =
        match_ensures _ (GotInit n ts) (after_sign (codes "{") ts) _ _ (sign_taken (codes "{") ts)
        (then_ensures (Got n 0 ts) (GotInit n ts) (read 0 ts) _ (sound 0 ts) (λ a g. record {
          formed = g.formed;
          small = g.small;
          spelled = g.spelled;
        }))
        (λ r e. then_ensures (GotArray n ts) (GotInit n ts) (array ts) _ (filled ts) (λ a g. record {
          formed = g.formed;
          small = g.small;
          spelled = g.spelled;
        }))

module _ (n : ℕ) (read : Reading Init) (sound : (ts : List Spelled) → Ensures (GotInit n ts) (read ts)) where
  items_sound : (m : ℕ) (ts : List Spelled) → Ensures (GotItems n ts) (items_with read m ts)
  unfolding items_with
  items_sound zero ts = tt
  items_sound (suc m) ts =
      match_ensures _ (GotItems n ts) (after_sign (codes ",") ts) _ _ (sign_taken (codes ",") ts)
      (then_ensures _ (GotItems n ts) (after_sign (codes "}") ts) _ (sign_taken (codes "}") ts)
      (λ r e. record { formed = tt; small = omega arith; spelled = e }))
      (λ r e. match_ensures _ (GotItems n ts) (after_sign (codes "}") r) _ _ (sign_taken (codes "}") r)
      (then_ensures (GotInit n r) (GotItems n ts) (read r) _ (sound r)
      (λ i g. then_ensures (GotItems n i.1) (GotItems n ts) (items_with read m i.1) _ (items_sound m i.1)
      (λ others h. record {
        formed = (g.formed, h.formed);
        small = omega (arith, g.small, h.small);
        spelled = e
            ∙ ap (λ (u : List Spelled). sign (codes ",") ∷ u) (g.spelled ∙ ap (init_onto i.0) h.spelled);
      })))
      (λ s f. record {
        formed = tt;
        small = omega arith;
        spelled = e ∙ ap (λ (u : List Spelled). sign (codes ",") ∷ u)
            f;
      }))

  pub braces_sound : (ts : List Spelled) → Ensures (GotArray (suc n) ts) (braces_with read ts)
  unfolding braces_with
  braces_sound ts =
      then_ensures _ (GotArray (suc n) ts) (after_sign (codes "{") ts) _ (sign_taken (codes "{") ts)
      (λ r e. match_ensures _ (GotArray (suc n) ts) (after_sign (codes "}") r) _ _ (sign_taken (codes "}") r)
      (then_ensures (GotInit n r) (GotArray (suc n) ts) (read r) _ (sound r)
      (λ i g. then_ensures (GotItems n i.1) (GotArray (suc n) ts) (items_with read (length i.1) i.1) _
      (items_sound (length i.1) i.1)
      (λ others h. record {
        formed = ((g.formed, h.formed), λ l. refl);
        small = omega (arith, g.small, h.small);
        spelled = e ∙ ap (λ (u : List Spelled). sign (codes "{") ∷ u) (g.spelled ∙ ap (init_onto i.0) h.spelled);
      })))
      (λ s f. record {
        formed = (tt, λ l. l);
        small = omega arith;
        spelled = e ∙ ap (λ (u : List Spelled). sign
            (codes "{") ∷ u) f;
      }))
