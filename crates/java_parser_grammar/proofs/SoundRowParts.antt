-- What is read of the parts of rows, statements aside, is formed, small, and spells what was taken.
use Rattle.std.proofs.Common.{◌≡◌, ℕ, zero, suc, ◌≤◌, Bool, false, List, [], ◌∷◌, length, Option, Some}
use Rattle.std.proofs.Common.{None, codes, refl, ap, ◌∙◌, arith}
use Rattle.java_tree.specs.declared.words.Spelled.{Spelled}
use Rattle.java_tree.specs.Words.{keyword, identifier, sign}
use Rattle.java_tree.specs.Operators.{conditional_level}
use Rattle.java_tree.specs.Trees.{Ty, Expr, Resource, Resources, CatchParameter, Label}
use Rattle.java_tree.specs.Spelling.{ty_onto, between_sign, modifiers_onto, expr_onto, resource_onto}
use Rattle.java_tree.specs.Spelling.{more_resources_onto}
use Rattle.java_tree.specs.Spelling.{last_semicolon_onto, maybe_resources_onto, catch_parameter_onto}
use Rattle.java_tree.specs.Spelling.{label_onto, labels_onto, maybe_name_onto, maybe_behind_onto}
use Rattle.java_tree.specs.FormedModifiers.{Each, FormedVariableModifiers}
use Rattle.java_tree.specs.Formed.{FormedMaybeExpr, FormedThrown, FormedResource}
use Rattle.java_tree.specs.Formed.{FormedMaybeResources, FormedCatchParameter, FormedLabel, is_named}
use Rattle.java_tree.specs.Nesting.{most_over, ty_nesting, maybe_expr_nesting, resource_nesting}
use Rattle.java_tree.specs.Nesting.{maybe_resources_nesting, catch_parameter_nesting, label_nesting}
use Rattle.java_parser_grammar.specs.Taking.{after_sign, after_keyword, after_name}
use Rattle.java_parser_grammar.specs.TypeReading.{between_each}
use Rattle.java_parser_grammar.specs.BalancedReading.{before_type_at}
use Rattle.java_parser_grammar.specs.Readers.{Readers}
use Rattle.java_parser_grammar.specs.StatementReading.{maybe_name_at, maybe_behind_at, resource_at}
use Rattle.java_parser_grammar.specs.StatementReading.{more_resources_at, maybe_resources_at, named_at}
use Rattle.java_parser_grammar.specs.StatementReading.{catch_parameter_at, begins_label, label_at, labels_at}
use Rattle.java_parser_grammar.proofs.Ensuring.{Ensures, then_ensures, if_ensures, match_ensures, sign_taken}
use Rattle.java_parser_grammar.proofs.Ensuring.{keyword_taken, name_taken}
use Rattle.java_parser_grammar.proofs.LongerStatements.{label_longer}
use Rattle.java_parser_grammar.proofs.SoundParts.{AreSound}
use Rattle.java_parser_grammar.proofs.SoundTokens.{Taken}
use Rattle.java_parser_grammar.proofs.SoundAnnotations.{before_type_sound}
use Rattle.java_parser_grammar.proofs.SoundSteps.{GotOne, SomeOf, between_sound}

-- resources behind the first one, whether a last `;` stands, and the `)`
record GotMore (n : ℕ) (ts : List Spelled) (x : (List Resource × Bool) × List Spelled) : Type 0 where
  formed : Each FormedResource x.0.0
  small : most_over resource_nesting x.0.0 ≤ n
  spelled : ts ≡ more_resources_onto x.0.0 (last_semicolon_onto x.0.1 (sign (codes ")") ∷ x.1))

module _ (readers : Readers) (sound : AreSound readers) where
  pub maybe_name_sound : (n : ℕ) (ts : List Spelled) → Ensures (GotOne (λ x. Unit {0}) (λ x. 0) maybe_name_onto n ts)
      (maybe_name_at readers ts)
  maybe_name_sound n ts =
      let G : Option (List ℕ) × List Spelled → Type 0 = GotOne (λ x. Unit {0}) (λ x. 0) maybe_name_onto n ts in
      match_ensures (λ x. ts ≡ identifier x.0 ∷ x.1) G (after_name ts) _ _ (name_taken ts)
      (record { formed = tt; small = omega arith; spelled = refl })
      (λ x e. record { formed = tt; small = omega arith; spelled = e })

  pub behind_sound : (n : ℕ) (text : List ℕ) (ts : List Spelled) → Ensures (GotOne FormedMaybeExpr maybe_expr_nesting
      (maybe_behind_onto text) n ts) (maybe_behind_at readers n text ts)
  behind_sound n text ts =
      let G : Option Expr × List Spelled → Type 0 =
      GotOne FormedMaybeExpr maybe_expr_nesting (maybe_behind_onto text) n ts in
      match_ensures (λ r. ts ≡ sign text ∷ r) G (after_sign text ts) _ _ (sign_taken text ts)
      (record { formed = tt; small = omega arith; spelled = refl })
      (λ r e. then_ensures _ G (readers.expr n 0 r) _ (sound.expr n r)
      (λ x g. record {
        formed = g.formed;
        small = g.small;
        spelled = e ∙ ap (λ (u : List Spelled). sign text ∷ u) g.spelled;
      }))

  -- ---- resources

  resource_sound : (n : ℕ) (ts : List Spelled) → Ensures (GotOne FormedResource resource_nesting resource_onto n ts)
      (resource_at readers n ts)
  unfolding resource_at
  resource_sound n ts =
      let G : Resource × List Spelled → Type 0 = GotOne FormedResource resource_nesting resource_onto n ts in
      then_ensures (Taken FormedVariableModifiers modifiers_onto ts) G (before_type_at ts) _ (before_type_sound ts)
      (λ ms f. then_ensures _ G (readers.ty n ms.1) _ (sound.ty n ms.1)
      (λ t g. then_ensures (λ x. t.1 ≡ identifier x.0 ∷ x.1) G (after_name t.1) _ (name_taken t.1)
      (λ x d. then_ensures (λ a. x.1 ≡ sign (codes "=") ∷ a) G (after_sign (codes "=") x.1) _
      (sign_taken (codes "=") x.1)
      (λ a c. then_ensures _ G (readers.expr n 0 a) _ (sound.expr n a)
      (λ e h. record {
        formed = (f.formed, g.formed, h.formed);
        small = omega (arith, g.small, h.small);
        spelled = f.spelled ∙ ap (modifiers_onto ms.0) (g.spelled ∙ ap (ty_onto t.0) (d
            ∙ ap (λ (u : List Spelled). identifier x.0 ∷ u) (c ∙ ap (λ (u : List Spelled). sign (codes "=") ∷ u)
            h.spelled)));
      })))))

  more_sound : (n m : ℕ) (ts : List Spelled) → Ensures (GotMore n ts) (more_resources_at readers n m ts)
  unfolding more_resources_at
  more_sound n zero ts = tt
  more_sound n (suc m) ts =
      let G : (List Resource × Bool) × List Spelled → Type 0 = GotMore n ts in
      match_ensures (λ s. ts ≡ sign (codes ")") ∷ s) G (after_sign (codes ")") ts) _ _ (sign_taken (codes ")") ts)
      (then_ensures (λ r. ts ≡ sign (codes ";") ∷ r) G (after_sign (codes ";") ts) _ (sign_taken (codes ";") ts)
      (λ r e. match_ensures (λ s. r ≡ sign (codes ")") ∷ s) G (after_sign (codes ")") r) _ _
      (sign_taken (codes ")") r)
      (then_ensures _ G (resource_at readers n r) _ (resource_sound n r)
      (λ first g. then_ensures (GotMore n first.1) G (more_resources_at readers n m first.1) _ (more_sound n m first.1)
      (λ others h. record {
        formed = (g.formed, h.formed);
        small = omega (arith, g.small, h.small);
        spelled = e ∙ ap (λ (u : List Spelled). sign (codes ";") ∷ u) (g.spelled ∙ ap (resource_onto first.0)
            h.spelled);
      })))
      (λ s d. record {
        formed = tt;
        small = omega arith;
        spelled = e ∙ ap (λ (u : List Spelled). sign (codes ";") ∷ u) d;
      })))
      (λ s e. record { formed = tt; small = omega arith; spelled = e })

  pub resources_sound : (n : ℕ) (ts : List Spelled) → Ensures (GotOne FormedMaybeResources maybe_resources_nesting
      maybe_resources_onto n ts) (maybe_resources_at readers n ts)
  resources_sound n ts =
      let G : Option Resources × List Spelled → Type 0 =
      GotOne FormedMaybeResources maybe_resources_nesting maybe_resources_onto n ts in
      match_ensures (λ r. ts ≡ sign (codes "(") ∷ r) G (after_sign (codes "(") ts) _ _ (sign_taken (codes "(") ts)
      (record { formed = tt; small = omega arith; spelled = refl })
      (λ r e. then_ensures _ G (resource_at readers n r) _ (resource_sound n r)
      (λ first g. then_ensures (GotMore n first.1) G (more_resources_at readers n (suc (length first.1)) first.1) _
      (more_sound n (suc (length first.1)) first.1)
      (λ others h. record {
        formed = (refl, (g.formed, h.formed));
        small = omega (arith, g.small, h.small);
        spelled = e ∙ ap (λ (u : List Spelled). sign (codes "(") ∷ u) (g.spelled ∙ ap (resource_onto first.0)
            h.spelled);
      })))

  -- ---- the parameter of a `catch`

  named_sound : (n : ℕ) (ts : List Spelled) → Ensures (GotOne FormedThrown ty_nesting ty_onto n ts)
      (named_at readers n ts)
  named_sound n ts =
      let G : Ty × List Spelled → Type 0 = GotOne FormedThrown ty_nesting ty_onto n ts in
      then_ensures _ G (readers.ty n ts) _ (sound.ty n ts)
      (λ t g. if_ensures G (is_named t.0) (Some t) None (λ named. record {
        formed = (g.formed, named);
        small = g.small;
        spelled = g.spelled;
      }) (λ other. tt))

  pub parameter_sound : (n : ℕ) (ts : List Spelled) → Ensures (GotOne FormedCatchParameter catch_parameter_nesting
      catch_parameter_onto n ts) (catch_parameter_at readers n ts)
  unfolding catch_parameter_at
  parameter_sound n ts =
      let G : CatchParameter × List Spelled → Type 0 =
      GotOne FormedCatchParameter catch_parameter_nesting catch_parameter_onto n ts in
      then_ensures (λ r. ts ≡ sign (codes "(") ∷ r) G (after_sign (codes "(") ts) _ (sign_taken (codes "(") ts)
      (λ r e. then_ensures (Taken FormedVariableModifiers modifiers_onto r) G (before_type_at r) _ (before_type_sound r)
      (λ ms f. then_ensures (GotOne (SomeOf FormedThrown) (most_over ty_nesting) (between_sign (codes "|")) n ms.1) G
      (between_each (codes "|") (named_at readers n) ms.1) _
      (between_sound FormedThrown n (named_at readers n) (named_sound n) (codes "|") ms.1)
      (λ types g. then_ensures (λ x. types.1 ≡ identifier x.0 ∷ x.1) G (after_name types.1) _ (name_taken types.1)
      (λ x d. then_ensures (λ s. x.1 ≡ sign (codes ")") ∷ s) G (after_sign (codes ")") x.1) _
      (sign_taken (codes ")") x.1)
      (λ s c. record {
        formed = (f.formed, g.formed.0, g.formed.1);
        small = g.small;
        spelled = e ∙ ap (λ (u : List Spelled). sign (codes "(") ∷ u) (f.spelled ∙ ap (modifiers_onto ms.0)
            (g.spelled ∙ ap (between_sign (codes "|") types.0) (d ∙ ap (λ (u : List Spelled). identifier x.0 ∷ u)
            c)));
      })))))

  -- ---- labels

  -- labels, and that none stands behind them where there are tokens no more than could be read
  pub record GotLabels (n m : ℕ) (ts : List Spelled) (x : List Label × List Spelled) : Type 0 where
    pub formed : Each FormedLabel x.0
    pub small : most_over label_nesting x.0 ≤ n
    pub spelled : ts ≡ labels_onto x.0 x.1
    pub ends : length ts ≤ m → begins_label readers x.1 ≡ false

  label_sound : (n : ℕ) (ts : List Spelled) → Ensures (GotOne FormedLabel label_nesting label_onto n ts)
      (label_at readers n ts)
  unfolding label_at
  label_sound n ts =
      let G : Label × List Spelled → Type 0 = GotOne FormedLabel label_nesting label_onto n ts in
      match_ensures (λ r. ts ≡ keyword (codes "case") ∷ r) G (after_keyword (codes "case") ts) _ _
      (keyword_taken (codes "case") ts)
      (then_ensures (λ r. ts ≡ keyword (codes "default") ∷ r) G (after_keyword (codes "default") ts) _
      (keyword_taken (codes "default") ts)
      (λ r e. then_ensures (λ c. r ≡ sign (codes ":") ∷ c) G (after_sign (codes ":") r) _ (sign_taken (codes ":") r)
      (λ c d. record {
        formed = tt;
        small = omega arith;
        spelled = e ∙ ap (λ (u : List Spelled). keyword (codes "default") ∷ u) d;
      })))
      (λ r e. then_ensures _ G (readers.expr n conditional_level r) _ (sound.conditional n r)
      (λ x g. then_ensures (λ c. x.1 ≡ sign (codes ":") ∷ c) G (after_sign (codes ":") x.1) _
      (sign_taken (codes ":") x.1)
      (λ c d. record {
        formed = g.formed;
        small = g.small;
        spelled = e ∙ ap (λ (u : List Spelled). keyword (codes "case") ∷ u) (g.spelled ∙ ap (expr_onto x.0) d);
      })))

  no_label : (ts : List Spelled) → length ts ≤ 0 → begins_label readers ts ≡ false
  no_label [] none = refl
  no_label (t ∷ ts) none = absurd omega (arith, none)

  pub labels_sound : (n m : ℕ) (ts : List Spelled) → Ensures (GotLabels n m ts) (labels_at readers n m ts)
  unfolding labels_at
  labels_sound n zero ts = record { formed = tt; small = omega arith; spelled = refl; ends = no_label ts }
  labels_sound n (suc m) ts =
      let G : List Label × List Spelled → Type 0 = GotLabels n (suc m) ts in
      if_ensures G (begins_label readers ts) _ _
      (λ here. then_ensures _ G (label_at readers n ts) _ (label_sound n ts)
      (λ l g. then_ensures (GotLabels n m l.1) G (labels_at readers n m l.1) _ (labels_sound n m l.1)
      (λ ls h. record {
        formed = (g.formed, h.formed);
        small = omega (arith, g.small, h.small);
        spelled = g.spelled ∙ ap (label_onto l.0) h.spelled;
        ends = λ few. h.ends (omega (arith, few, ap length g.spelled, label_longer l.0 g.formed l.1));
      })))
      (λ away. record { formed = tt; small = omega arith; spelled = refl; ends = λ few. away })
