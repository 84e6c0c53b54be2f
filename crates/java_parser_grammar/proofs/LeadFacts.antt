-- What a first token is that leads on from an expression.
use Rattle.std.proofs.Common.{◌≡◌, ℕ, Bool, true, false, cond, List, [], ◌∷◌, Option, Some, None, IsTrue, refl, sym}
use Rattle.std.proofs.Common.{ap, ◌∙◌, subst, codes}
use Rattle.std.specs.Prelude.{bytes_eq}
use Rattle.std.specs.Cmp.Lexicographic.{bytes_decides}
use Rattle.racer_base.specs.Name.{is_listed}
use Rattle.java_lexer.specs.declared.token.TokenKind.{TokenKind}
use Rattle.java_lexer.specs.declared.token.TokenKind.TheVariants as kind
use Rattle.java_tree.specs.declared.words.Spelled.{Spelled}
use Rattle.java_tree.specs.Words.{sign, sign_glued, keyword}
use Rattle.java_tree.specs.Operators.{is_binary, is_assignment, is_step}
use Rattle.java_tree.specs.Spelling.{operator_onto}
use Rattle.java_parser_grammar.specs.Taking.{match_option, after_glued}
use Rattle.java_parser_grammar.specs.Leads.{Lead, Assigns, Asks, Joins, Tests, Steps, Selects, Indexes, Opens, Ends}
use Rattle.java_parser_grammar.specs.TypeReading.{opens, opens_word}
use Rattle.java_parser_grammar.specs.Leads.{Refers, Binds, binds, one_sign_operators, lead_of_angle, lead_of_sign}
use Rattle.java_parser_grammar.specs.Leads.{lead_of_word, lead}
use Rattle.java_parser_grammar.proofs.OperatorTexts.{listed_cases}
use Rattle.java_parser_grammar.proofs.Ensuring.{Ensures, glued_taken}

-- the tokens are those that lead so
abbrev pub LeadIs : List Spelled → Lead → Type 0
LeadIs ts (Assigns op r) = (ts ≡ sign op ∷ r) × IsTrue (is_assignment op)
LeadIs ts (Asks r) = ts ≡ sign (codes "?") ∷ r
LeadIs ts (Joins op r) = (ts ≡ operator_onto op r) × IsTrue (is_binary op)
LeadIs ts (Tests r) = ts ≡ keyword (codes "instanceof") ∷ r
LeadIs ts (Steps op r) = (ts ≡ sign op ∷ r) × IsTrue (is_step op)
LeadIs ts (Selects r) = ts ≡ sign (codes ".") ∷ r
LeadIs ts (Indexes r) = ts ≡ sign (codes "[") ∷ r
LeadIs ts (Refers r) = ts ≡ sign (codes "::") ∷ r
LeadIs ts Opens = Unit {0}
LeadIs ts Binds = Unit {0}
LeadIs ts Ends = Unit {0}

by_cond : (P : Lead → Type 0) (b : Bool) (x y : Lead) → (b ≡ true → P x) → (b ≡ false → P y) → P (cond b x y)
by_cond P true x y p q = p refl
by_cond P false x y p q = q refl

by_option : (P : Lead → Type 0) (Q : List Spelled → Type 0) (o : Option (List Spelled)) (x : Lead) (f : List Spelled
    → Lead) → Ensures Q o → P x → ((r : List Spelled) → Q r → P (f r)) → P (match_option o x f)
by_option P Q None x f e p q = p
by_option P Q (Some r) x f e p q = q r e

angle_lead : (ts : List Spelled) → LeadIs (sign (codes ">") ∷ ts) (lead_of_angle ts)
angle_lead ts =
    let P : Lead → Type 0 = LeadIs (sign (codes ">") ∷ ts) in
    by_option P (λ r. ts ≡ sign_glued true (codes ">") ∷ r) (after_glued ts) _ _ (glued_taken ts) (refl, refl)
    (λ r e. by_option P (λ s. r ≡ sign_glued true (codes ">") ∷ s) (after_glued r) _ _ (glued_taken r)
    (ap (λ (u : List Spelled). sign (codes ">") ∷ u) e, refl)
    (λ s f. (
      ap (λ (u : List Spelled). sign (codes ">") ∷ u) (e ∙ ap (λ (u : List Spelled). sign_glued true
          (codes ">") ∷ u) f),
      refl,
    )))

one_sign_lead : (text : List ℕ) (ts : List Spelled) → is_listed one_sign_operators text ≡ true → LeadIs (sign text
    ∷ ts) (Joins text ts)
one_sign_lead text ts h =
    listed_cases (λ (t : List ℕ). LeadIs (sign t ∷ ts) (Joins t ts)) one_sign_operators text h (
      (refl, refl),
      (
        (refl, refl),
        (
          (refl, refl),
          (
            (refl, refl),
            (
              (refl, refl),
              (
                (refl, refl),
                (
                  (refl, refl),
                  (
                    (refl, refl),
                    (
                      (refl, refl),
                      (
                        (refl, refl),
                        (
                          (refl, refl),
                          (
                            (refl, refl),
                            (
                              (refl, refl),
                              (
                                (refl, refl),
                                (
                                  (refl, refl),
                                  (
                                    (refl, refl),
                                    tt,
                                  ),
                                ),
                              ),
                            ),
                          ),
                        ),
                      ),
                    ),
                  ),
                ),
              ),
            ),
          ),
        ),
      ),
    )

same_sign : (text u : List ℕ) (ts : List Spelled) → bytes_eq text u ≡ true → sign text ∷ ts ≡ sign u ∷ ts
same_sign text u ts e = ap (λ (t : List ℕ). sign t ∷ ts) ((bytes_decides text u).0 e)

sign_lead : (text : List ℕ) (ts : List Spelled) → LeadIs (sign text ∷ ts) (lead_of_sign text ts)
sign_lead text ts =
    let P : Lead → Type 0 = LeadIs (sign text ∷ ts) in
    by_cond P (is_assignment text) _ _ (λ e. (refl, e))
    (λ _. by_cond P (is_listed one_sign_operators text) _ _ (one_sign_lead text ts)
    (λ _. by_cond P (is_step text) _ _ (λ e. (refl, e))
    (λ _. by_cond P (bytes_eq text (codes ">")) _ _ (λ e. subst (λ (u : List Spelled). LeadIs u (lead_of_angle ts))
    (sym (same_sign text (codes ">") ts e)) (angle_lead ts))
    (λ _. by_cond P (bytes_eq text (codes "?")) _ _ (same_sign text (codes "?") ts)
    (λ _. by_cond P (bytes_eq text (codes ".")) _ _ (same_sign text (codes ".") ts)
    (λ _. by_cond P (bytes_eq text (codes "[")) _ _ (same_sign text (codes "[") ts)
    (λ _. by_cond P (bytes_eq text (codes "::")) _ _ (same_sign text (codes "::") ts)
    (λ _. by_cond P (binds text) Binds _ (λ _. tt)
    (λ _. by_cond P (opens text) Opens Ends (λ _. tt) (λ _. tt))))))))))

keyword_lead : (text : List ℕ) (ts : List Spelled) → LeadIs (keyword text ∷ ts) (lead_of_word kind.Keyword text ts)
keyword_lead text ts =
    let P : Lead → Type 0 = LeadIs (keyword text ∷ ts) in
    by_cond P (bytes_eq text (codes "instanceof")) _ _ (λ e. ap (λ (t : List ℕ). keyword t ∷ ts)
    ((bytes_decides text (codes "instanceof")).0 e))
    (λ _. by_cond P (opens_word text) Opens Ends (λ _. tt) (λ _. tt))

word_lead : (k : TokenKind) (text : List ℕ) (glued : Bool) (ts : List Spelled)
    → LeadIs (record { kind = k; text = text; glued = glued } ∷ ts) (cond glued Ends (lead_of_word k text ts))
word_lead k text true ts = tt
word_lead kind.Keyword text false ts = keyword_lead text ts
word_lead kind.Sign text false ts = sign_lead text ts
word_lead _ text false ts = tt

pub lead_is : (ts : List Spelled) → LeadIs ts (lead ts)
unfolding lead
lead_is [] = tt
lead_is (t ∷ ts) = word_lead t.kind t.text t.glued ts
