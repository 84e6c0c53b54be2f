-- What holds of a value that may be missing, step by step.
use Rattle.std.proofs.Common.{IsTrue}
use Rattle.std.proofs.Common.{◌≡◌, ℕ, zero, suc, ◌≤◌, List, ◌∷◌, length, Option, Some, None, codes, refl, ap, ◌∙◌}
use Rattle.std.proofs.Common.{arith}
use Rattle.java_tree.specs.declared.words.Spelled.{Spelled}
use Rattle.java_tree.specs.Words.{sign}
use Rattle.java_tree.specs.Spelling.{ty_onto, behind_sign, between_sign, behind_commas, commas_onto}
use Rattle.java_tree.specs.Trees.{Ty}
use Rattle.java_tree.specs.FormedModifiers.{Each, has_some}
use Rattle.java_tree.specs.Nesting.{ty_nesting, most_over}
use Rattle.java_parser_grammar.specs.BalancedReading.{Reading}
use Rattle.java_parser_grammar.specs.Taking.{match_option, after_sign, commas}
use Rattle.java_parser_grammar.specs.StatementReading.{comma_list}
use Rattle.java_parser_grammar.specs.TypeReading.{behind_each, between_each}
use Rattle.java_parser_grammar.proofs.Ensuring.{Ensures, then_ensures, match_ensures, sign_taken}

-- where it makes a difference that there is no value
pub match_none_ensures : {A B : Type 0} (P : A → Type 0) (Q : B → Type 0) (o : Option A) (b : Option B) (f : A
    → Option B) → Ensures P o → (o ≡ None → Ensures Q b) → ((x : A) → P x → Ensures Q (f x))
    → Ensures Q (match_option o b f)
match_none_ensures P Q None b f p n q = n refl
match_none_ensures P Q (Some x) b f p n q = q x p

-- ---- what was read

-- it is formed, is nested so deep at most, and spells what was taken
pub record GotOne {A : Type 0} (Formed : A → Type 0) (nesting : A → ℕ) (onto : A → List Spelled → List Spelled)
    (n : ℕ) (ts : List Spelled) (x : A × List Spelled) : Type 0 where
  pub formed : Formed x.0
  pub small : nesting x.0 ≤ n
  pub spelled : ts ≡ onto x.0 x.1

-- some of them, each formed
abbrev pub SomeOf : {A : Type 0} → (A → Type 0) → List A → Type 0
SomeOf Formed xs = IsTrue (has_some xs) × Each Formed xs

module _ {A : Type 0} (Formed : A → Type 0) (nesting : A → ℕ) (onto : A → List Spelled → List Spelled) (n : ℕ)
    (read : Reading A)
    (sound : (ts : List Spelled) → Ensures (GotOne Formed nesting onto n ts) (read ts)) where
  commas_sound : (m : ℕ) (ts : List Spelled) → Ensures (GotOne (Each Formed) (most_over nesting) (behind_commas onto)
      n ts) (commas read m ts)
  unfolding commas
  commas_sound zero ts = record { formed = tt; small = omega arith; spelled = refl }
  commas_sound (suc m) ts =
      let G : List A × List Spelled → Type 0 = GotOne (Each Formed) (most_over nesting) (behind_commas onto) n ts in
      match_ensures (λ r. ts ≡ sign (codes ",") ∷ r) G (after_sign (codes ",") ts) _ _ (sign_taken (codes ",") ts)
      (record { formed = tt; small = omega arith; spelled = refl })
      (λ r e. then_ensures (GotOne Formed nesting onto n r) G (read r) _ (sound r)
      (λ x g. then_ensures (GotOne (Each Formed) (most_over nesting) (behind_commas onto) n x.1) G (commas read m x.1)
      _ (commas_sound m x.1)
      (λ xs h. record {
        formed = (g.formed, h.formed);
        small = omega (arith, g.small, h.small);
        spelled = e ∙ ap (λ (s : List Spelled). sign (codes ",") ∷ s) (g.spelled ∙ ap (onto x.0) h.spelled);
      })))

  pub list_sound : (ts : List Spelled) → Ensures (GotOne (SomeOf Formed) (most_over nesting) (commas_onto onto) n ts)
      (comma_list read ts)
  list_sound ts =
      let G : List A × List Spelled → Type 0 = GotOne (SomeOf Formed) (most_over nesting) (commas_onto onto) n ts in
      then_ensures (GotOne Formed nesting onto n ts) G (read ts) _ (sound ts)
      (λ x g. then_ensures (GotOne (Each Formed) (most_over nesting) (behind_commas onto) n x.1) G
      (commas read (length x.1) x.1) _ (commas_sound (length x.1) x.1)
      (λ xs h. record {
        formed = (refl, (g.formed, h.formed));
        small = omega (arith, g.small, h.small);
        spelled = g.spelled ∙ ap (onto x.0) h.spelled;
      }))

-- ---- types

-- with a sign between them
module _ (Formed : Ty → Type 0) (n : ℕ) (read : Reading Ty)
    (sound : (ts : List Spelled) → Ensures (GotOne Formed ty_nesting ty_onto n ts) (read ts)) (text : List ℕ) where
  behind_sound : (m : ℕ) (ts : List Spelled) → Ensures (GotOne (Each Formed) (most_over ty_nesting) (behind_sign text)
      n ts) (behind_each text read m ts)
  unfolding behind_each
  behind_sound zero ts = record { formed = tt; small = omega arith; spelled = refl }
  behind_sound (suc m) ts =
      let G : List Ty × List Spelled → Type 0 = GotOne (Each Formed) (most_over ty_nesting) (behind_sign text) n ts in
      match_ensures (λ r. ts ≡ sign text ∷ r) G (after_sign text ts) _ _ (sign_taken text ts)
      (record { formed = tt; small = omega arith; spelled = refl })
      (λ r e. then_ensures (GotOne Formed ty_nesting ty_onto n r) G (read r) _ (sound r)
      (λ t g. then_ensures (GotOne (Each Formed) (most_over ty_nesting) (behind_sign text) n t.1) G
      (behind_each text read m t.1) _ (behind_sound m t.1)
      (λ others h. record {
        formed = (g.formed, h.formed);
        small = omega (arith, g.small, h.small);
        spelled = e ∙ ap (λ (s : List Spelled). sign text ∷ s) (g.spelled ∙ ap (ty_onto t.0) h.spelled);
      })))

  pub between_sound : (ts : List Spelled) → Ensures (GotOne (SomeOf Formed) (most_over ty_nesting) (between_sign text)
      n ts) (between_each text read ts)
  between_sound ts =
      let G : List Ty × List Spelled → Type 0 =
      GotOne (SomeOf Formed) (most_over ty_nesting) (between_sign text) n ts in
      then_ensures (GotOne Formed ty_nesting ty_onto n ts) G (read ts) _ (sound ts)
      (λ t g. then_ensures (GotOne (Each Formed) (most_over ty_nesting) (behind_sign text) n t.1) G
      (behind_each text read (length t.1) t.1) _ (behind_sound (length t.1) t.1)
      (λ others h. record {
        formed = (refl, (g.formed, h.formed));
        small = omega (arith, g.small, h.small);
        spelled = g.spelled ∙ ap (ty_onto t.0) h.spelled;
      }))
