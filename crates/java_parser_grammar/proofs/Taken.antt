-- What is taken stood in front.
use Rattle.std.proofs.Common.{◌≡◌, ℕ, ◌≤◌, ◌<◌, Bool, true, false, cond, not, ◌||◌, List, [], ◌∷◌, Option, Some, None}
use Rattle.std.proofs.Common.{refl, sym, ◌∙◌, ap, arith, codes}
use Rattle.std.proofs.lemmas.Bool.{false≢true}
use Rattle.std.specs.Prelude.{bytes_eq}
use Rattle.std.specs.Cmp.Lexicographic.{bytes_decides}
use Rattle.java_lexer.specs.declared.token.TokenKind.{TokenKind}
use Rattle.java_lexer.specs.declared.token.TokenKind.TheVariants as kind
use Rattle.java_tree.specs.declared.words.Spelled.{Spelled}
use Rattle.java_tree.specs.Words.{sign}
use Rattle.java_tree.specs.Brackets.{is_sign}
use Rattle.java_tree.specs.Operators.{is_signed}
use Rattle.java_parser_grammar.specs.Taking.{after_sign}
use Rattle.java_parser_grammar.specs.TypeReading.{after_brackets, opens_word, opens, no_operand_at}
use Rattle.java_parser_grammar.specs.Leads.{Lead, Assigns, Tests, Opens, Ends, lead_of_sign, lead, pull, pull_of}
use Rattle.java_parser_grammar.specs.Leads.{is_opens, opens_operand}
use Rattle.java_parser_grammar.specs.Leads.{begins_with, is_ends, ends_expression}
use Rattle.java_parser_grammar.specs.ExpressionReading.{NamesEnd, class_at, begins_glued}
use Rattle.java_parser_grammar.proofs.OperatorTexts.{listed_cases}

-- a token that is a sign is that sign
pub sign_is : (text : List ℕ) (t : Spelled) → is_sign text t ≡ true → t ≡ sign text
sign_is text t h = by_parts text t.kind t.text t.glued h where
  by_text : (text u : List ℕ) → bytes_eq u text ≡ true → sign u ≡ sign text
  by_text text u e = ap sign ((bytes_decides u text).0 e)

  by_parts : (text : List ℕ) (k : TokenKind) (u : List ℕ) (g : Bool) → is_sign text (record {
    kind = k;
    text = u;
    glued = g;
  }) ≡ true → record { kind = k; text = u; glued = g } ≡ sign text
  by_parts text kind.Sign u false e = by_text text u e
  by_parts text kind.Sign u true e = absurd cc
  by_parts text _ u g e = absurd cc

-- where the sign was taken, it stood in front
pub after_sign_is : (text : List ℕ) (ts r : List Spelled) → after_sign text ts ≡ Some r → ts ≡ sign text ∷ r
after_sign_is text [] r e = absurd cc
after_sign_is text (t ∷ ts) r e = by_test (is_sign text t) refl e where
  by_test : (b : Bool) → is_sign text t ≡ b → cond b (Some ts) None ≡ Some r → t ∷ ts ≡ sign text ∷ r
  by_test true is e = let same = sign_is text t is in let others : ts ≡ r = cc in cc
  by_test false is e = absurd cc

-- ---- what does not go on with an expression

-- the sign does not stand before what pulls less
pub not_pulled : (text : List ℕ) (n : ℕ) (rest : List Spelled) → ((ts : List Spelled) → n < pull (sign text ∷ ts))
    → pull rest ≤ n → after_sign text rest ≡ None
not_pulled text n rest more less = by_result (after_sign text rest) refl where
  by_result : (o : Option (List Spelled)) → after_sign text rest ≡ o → o ≡ None
  by_result None e = refl
  by_result (Some r) e = absurd (omega (arith, more r, ap pull (after_sign_is text rest r e)))

pub no_arrow : (rest : List Spelled) → pull rest ≤ 16 → begins_with (codes "->") rest ≡ false
unfolding lead
no_arrow rest h = by_tokens rest (not_pulled (codes "->") 16 rest (λ ts. omega arith) h) where
  by_test : (b : Bool) (ts : List Spelled) → cond b (Some ts) None ≡ None → b ≡ false
  by_test true ts e = absurd cc
  by_test false ts e = refl

  by_tokens : (ts : List Spelled) → after_sign (codes "->") ts ≡ None → begins_with (codes "->") ts ≡ false
  by_tokens [] e = refl
  by_tokens (t ∷ ts) e = by_test (is_sign (codes "->") t) ts e

pub no_open : (rest : List Spelled) → pull rest ≤ 16 → after_sign (codes "(") rest ≡ None
unfolding lead
no_open rest h = not_pulled (codes "(") 16 rest (λ ts. omega arith) h

pub no_point : (rest : List Spelled) → pull rest ≤ 14 → after_sign (codes ".") rest ≡ None
unfolding lead
no_point rest h = not_pulled (codes ".") 14 rest (λ ts. omega arith) h

pub no_bracket : (rest : List Spelled) → pull rest ≤ 15 → after_sign (codes "[") rest ≡ None
unfolding lead
no_bracket rest h = not_pulled (codes "[") 15 rest (λ ts. omega arith) h

pub no_brackets : (rest : List Spelled) → pull rest ≤ 15 → after_brackets rest ≡ None
no_brackets rest h = rw (no_bracket rest h) refl

pub no_class : (rest : List Spelled) → after_sign (codes ".") rest ≡ None → after_sign (codes "[") rest ≡ None
    → class_at true rest ≡ None
unfolding class_at
no_class [] e f = refl
no_class (t ∷ ts) e f = by_tests (is_sign (codes ".") t) (is_sign (codes "[") t) _ e f where
  by_tests : (b c : Bool) (o : Option ((List (List ℕ) × NamesEnd) × List Spelled)) → cond b (Some ts) None ≡ None
      → cond c (Some ts) None ≡ None → cond b (class_at false ts) (cond c o None) ≡ None
  by_tests true c o e f = absurd cc
  by_tests false true o e f = absurd cc
  by_tests false false o e f = refl

no_opens : (d : Lead) → pull_of d ≤ 16 → is_opens d ≡ false
no_opens Opens h = absurd (omega arith)
no_opens (Assigns op r) h = refl
no_opens _ h = refl

pub no_operand : (rest : List Spelled) → pull rest ≤ 16 → opens_operand rest ≡ false
no_operand rest h = no_opens (lead rest) h

ends_lead : (d : Lead) → pull_of d ≤ 0 → is_ends d ≡ true
ends_lead Ends h = refl
ends_lead (Assigns op r) h = absurd (omega arith)
ends_lead _ h = absurd (omega arith)

pub ends_here : (rest : List Spelled) → pull rest ≤ 0 → ends_expression rest ≡ true
ends_here rest h = ends_lead (lead rest) h

lead_ends : (d : Lead) → is_ends d ≡ true → pull_of d ≤ 0
lead_ends Ends h = omega arith
lead_ends (Assigns op r) h = absurd (false≢true h)
lead_ends _ h = absurd (false≢true h)

pub nothing_pulls : (rest : List Spelled) → ends_expression rest ≡ true → pull rest ≤ 0
nothing_pulls rest h = lead_ends (lead rest) h

-- what pulls no more than a comparison and is glued to nothing begins no operand
pub no_operand_stands : (rest : List Spelled) → pull rest ≤ 9 → begins_glued rest ≡ false → no_operand_at rest ≡ true
unfolding lead
no_operand_stands [] h e = refl
no_operand_stands (t ∷ ts) h e = by_parts t.kind t.text t.glued h e where
  by_word : (b c : Bool) (text : List ℕ) → bytes_eq text (codes "instanceof") ≡ b → opens_word text ≡ c
      → pull_of (cond b (Tests ts) (cond c Opens Ends)) ≤ 9 → not (c || false) ≡ true
  by_word b false text p q h = refl
  by_word false true text p q h = absurd (omega arith)
  by_word true true text p q h =
      absurd (false≢true (ap opens_word (sym ((bytes_decides text (codes "instanceof")).0 p)) ∙ q))

  by_sign : (b c : Bool) (text : List ℕ) → opens text ≡ b → is_signed text ≡ c → pull_of (lead_of_sign text ts) ≤ 9
      → not (b || c) ≡ true
  by_sign false false text p q h = refl
  by_sign true c text p q h =
      listed_cases (λ text. pull_of (lead_of_sign text ts) ≤ 9 → not (true || c) ≡ true)
      (codes "(" ∷ codes "!" ∷ codes "~" ∷ []) text p
      (λ h. absurd (omega arith), (λ h. absurd (omega arith), (λ h. absurd (omega arith), tt))) h
  by_sign false true text p q h =
      listed_cases (λ text. pull_of (lead_of_sign text ts) ≤ 9 → not (false || true) ≡ true)
      (codes "+" ∷ codes "-" ∷ codes "++" ∷ codes "--" ∷ []) text q (
        λ h. absurd (omega arith),
        (
          λ h. absurd (omega arith),
          (
            λ h. absurd (omega arith),
            (
              λ h. absurd
                  (omega arith),
              tt,
            ),
          ),
        ),
      )
      h

  by_parts : (k : TokenKind) (text : List ℕ) (glued : Bool) → pull (record { kind = k; text = text; glued = glued }
      ∷ ts) ≤ 9 → glued ≡ false → no_operand_at (record { kind = k; text = text; glued = glued } ∷ ts) ≡ true
  by_parts k text true h e = absurd (false≢true (sym e))
  by_parts kind.Keyword text false h e =
      by_word (bytes_eq text (codes "instanceof")) (opens_word text) text refl refl h
  by_parts kind.Sign text false h e = by_sign (opens text) (is_signed text) text refl refl h
  by_parts _ text false h e = absurd (omega arith)

-- ---- what ends an expression

pub pull_close : (ts : List Spelled) → pull (sign (codes ")") ∷ ts) ≡ 0
unfolding lead
pull_close ts = refl

pub pull_bracket : (ts : List Spelled) → pull (sign (codes "]") ∷ ts) ≡ 0
unfolding lead
pull_bracket ts = refl

pub pull_brace : (ts : List Spelled) → pull (sign (codes "}") ∷ ts) ≡ 0
unfolding lead
pull_brace ts = refl

pub pull_comma : (ts : List Spelled) → pull (sign (codes ",") ∷ ts) ≡ 0
unfolding lead
pull_comma ts = refl

pub pull_semicolon : (ts : List Spelled) → pull (sign (codes ";") ∷ ts) ≡ 0
unfolding lead
pull_semicolon ts = refl

pub pull_colon : (ts : List Spelled) → pull (sign (codes ":") ∷ ts) ≡ 0
unfolding lead
pull_colon ts = refl

pub pull_nothing : pull [] ≡ 0
unfolding lead
pull_nothing = refl
