-- An expression or an array initialiser that is read is formed, small, and spelled by what was taken.
use Rattle.std.proofs.Common.{◌≡◌, ℕ, zero, suc, ◌≤◌, true, false, List, ◌∷◌, refl, sym, ap, ◌∙◌, arith, leb, leb-true}
use Rattle.std.proofs.Common.{codes}
use Rattle.std.proofs.lemmas.Bool.{false≢true}
use Rattle.java_tree.specs.declared.words.Spelled.{Spelled}
use Rattle.java_tree.specs.Trees.{Expr}
use Rattle.java_tree.specs.Words.{sign}
use Rattle.java_tree.specs.Brackets.{are_lambda_parameters, are_braces}
use Rattle.java_tree.specs.Spelling.{tokens_onto, expr_onto}
use Rattle.java_parser_grammar.specs.Taking.{after_sign}
use Rattle.java_parser_grammar.specs.Leads.{begins_with, ends_expression, begins_lambda}
use Rattle.java_parser_grammar.specs.TypeReading.{made_base_at}
use Rattle.java_parser_grammar.specs.BalancedReading.{Reading, braces_tokens_at}
use Rattle.java_parser_grammar.specs.ExpressionReading.{lambda_parameters_at, lambda_with, operand_with, read_at}
use Rattle.java_parser_grammar.specs.ExpressionReading.{array_at, init_at, init_with}
use Rattle.java_parser_grammar.proofs.Ensuring.{Ensures, then_ensures, if_ensures, weaker, sign_taken}
use Rattle.java_parser_grammar.proofs.Taken.{nothing_pulls}
use Rattle.java_parser_grammar.proofs.SoundTokens.{Passes, braces_tokens_sound, parameters_sound}
use Rattle.java_parser_grammar.proofs.SoundTypes.{made_sound}
use Rattle.java_parser_grammar.proofs.SoundLists.{Got, Grown, GotArray, GotInit, init_sound, braces_sound}
use Rattle.java_parser_grammar.proofs.SoundTurns.{climb_sound}
use Rattle.java_parser_grammar.proofs.SoundOperands.{operand_sound}

lower : (n l : ℕ) (ts : List Spelled) (e : Expr) (r : List Spelled) → Grown n 12 ts (e, r)
    → Grown n l (expr_onto e r) (e, r)
lower n l ts e r g = record {
  formed = g.formed;
  high = λ h. (let above = g.high (omega arith) in omega arith);
  small = g.small;
  spelled = refl;
  shut = g.shut;
}

lambda_sound : (n : ℕ) (read : Reading Expr) → ((ts : List Spelled) → Ensures (Got n 0 ts) (read ts))
    → (l : ℕ) → l ≤ 0 → (ts : List Spelled) → begins_lambda ts ≡ true → Ensures (Got (suc n) l ts) (lambda_with read ts)
unfolding lambda_with
lambda_sound n read sound l low ts begins =
    let G : Expr × List Spelled → Type 0 = Got (suc n) l ts in
    then_ensures (Passes are_lambda_parameters ts) G (lambda_parameters_at ts) _ (parameters_sound ts begins)
    (λ ps p. then_ensures (λ r. ps.1 ≡ sign (codes "->") ∷ r) G (after_sign (codes "->") ps.1) _
    (sign_taken (codes "->") ps.1)
    (λ r e. if_ensures G (begins_with (codes "{") r) _ _
    (λ braces. then_ensures (Passes are_braces r) G (braces_tokens_at r) _ (braces_tokens_sound r)
    (λ block g. record {
      formed = (p.formed, g.formed);
      high = λ h. omega arith;
      small = omega arith;
      spelled = p.spelled ∙ ap (tokens_onto ps.0) (e ∙ ap (λ (u : List Spelled). sign (codes "->") ∷ u) g.spelled);
      shut = λ ends. absurd (false≢true ends);
      lambda = λ b. refl;
    }))
    (λ none. then_ensures (Got n 0 r) G (read r) _ (sound r)
    (λ a g. if_ensures G (ends_expression a.1) _ _
    (λ ends. record {
      formed = (p.formed, g.formed);
      high = λ h. omega arith;
      small = omega (arith, g.small);
      spelled = p.spelled ∙ ap (tokens_onto ps.0) (e ∙ ap (λ (u : List Spelled). sign (codes "->") ∷ u) g.spelled);
      shut = λ o. nothing_pulls a.1 ends;
      lambda = λ b. refl;
    })
    (λ goes_on. tt)))))

-- an expression that is whole, where no lambda begins
whole : (n l : ℕ) (ts us : List Spelled) (x : Expr × List Spelled) → begins_lambda ts ≡ false → ts ≡ us
    → Grown n l us x → Got n l ts x
whole n l ts us x none e g = record {
  formed = g.formed;
  high = g.high;
  small = g.small;
  spelled = e ∙ g.spelled;
  shut = g.shut;
  lambda = λ begins. absurd (false≢true (sym none ∙ begins));
}

mutual
  unfolding read_at array_at

  pub read_sound : (n l : ℕ) (ts : List Spelled) → Ensures (Got n l ts) (read_at n l ts)
  read_sound zero l ts = tt
  read_sound (suc n) l ts =
      if_ensures (Got (suc n) l ts) (begins_lambda ts) _ _
      (λ begins. if_ensures (Got (suc n) l ts) (leb l 0) _ _
      (λ low. lambda_sound n (read_at n 0) (read_sound n 0) l (leb-true l 0 low) ts begins) (λ high. tt))
      (λ none. then_ensures (Grown (suc n) 12 ts) (Got (suc n) l ts) (operand_with (read_at n) n (made_base_at n)
      (array_at n) ts) _
      (operand_sound n (read_at n) (read_sound n) (made_base_at n) (made_sound n) (array_at n) (array_sound n) ts)
      (λ a g. weaker (Grown (suc n) l (expr_onto a.0 a.1)) (Got (suc n) l ts) _
      (λ x p. whole (suc n) l ts (expr_onto a.0 a.1) x none g.spelled p)
      (climb_sound n (read_at n) (read_sound n) (suc n) l a.0 a.1 (lower (suc n) l ts a.0 a.1
      (record { formed = g.formed; high = g.high; small = g.small; spelled = g.spelled; shut = g.shut })))))

  pub array_sound : (n : ℕ) (ts : List Spelled) → Ensures (GotArray n ts) (array_at n ts)
  array_sound zero ts = tt
  array_sound (suc n) ts = braces_sound n (init_with (read_at n 0) (array_at n)) (init_sound n (read_at n)
      (read_sound n) (array_at n) (array_sound n)) ts

pub variable_sound : (n : ℕ) (ts : List Spelled) → Ensures (GotInit n ts) (init_at n ts)
variable_sound n ts = init_sound n (read_at n) (read_sound n) (array_at n) (array_sound n) ts
