-- Annotations and modifiers that are read are formed and spell what was taken.
use Rattle.std.proofs.Common.{◌≡◌, ℕ, zero, suc, Bool, true, false, cond, List, [], ◌∷◌, length, Some, None}
use Rattle.std.proofs.Common.{IsTrue, codes, refl, ap, ◌∙◌}
use Rattle.std.proofs.lemmas.Bool.{false≢true}
use Rattle.java_lexer.specs.declared.token.TokenKind.{TokenKind}
use Rattle.java_lexer.specs.declared.token.TokenKind.TheVariants as kind
use Rattle.java_tree.specs.declared.words.Spelled.{Spelled}
use Rattle.java_tree.specs.Words.{keyword, identifier, sign}
use Rattle.java_tree.specs.Brackets.{are_between, are_parentheses_or_none}
use Rattle.java_tree.specs.Trees.{Annotation, Modifier, Word, Annotated}
use Rattle.java_tree.specs.Spelling.{behind_points, names_onto, annotation_onto, annotations_onto, modifiers_onto}
use Rattle.java_tree.specs.FormedMethods.{is_method_modifier, FormedModifier}
use Rattle.java_tree.specs.FormedModifiers.{Each, has_some, FormedAnnotation, FormedVariableModifier}
use Rattle.java_tree.specs.FormedModifiers.{have_no_word, FormedVariableModifiers}
use Rattle.java_parser_grammar.specs.Taking.{after_sign, after_keyword, after_name}
use Rattle.java_parser_grammar.specs.Leads.{begins_with}
use Rattle.java_parser_grammar.specs.Lookahead.{after_modifier}
use Rattle.java_parser_grammar.specs.BalancedReading.{between_at, arguments_at, names_at, annotation_at}
use Rattle.java_parser_grammar.specs.BalancedReading.{annotations_at, variable_modifiers_at, before_type_at}
use Rattle.java_parser_grammar.specs.MethodReading.{modifiers_at}
use Rattle.java_parser_grammar.specs.TypeReading.{points}
use Rattle.java_parser_grammar.proofs.Annotations.{words_in}
use Rattle.java_parser_grammar.proofs.SoundTokens.{Taken, Passes, between_sound}
use Rattle.java_parser_grammar.proofs.Ensuring.{Ensures, then_ensures, if_ensures, match_ensures, weaker, sign_taken}
use Rattle.java_parser_grammar.proofs.Ensuring.{keyword_taken, name_taken}

-- ---- tokens in parentheses

round_sound : (args : List Spelled) → are_between (codes "(") (codes ")") args ≡ true
    → IsTrue (are_parentheses_or_none args)
round_sound [] h = refl
round_sound (t ∷ args) h = h

arguments_sound : (ts : List Spelled) → Ensures (Passes are_parentheses_or_none ts) (arguments_at ts)
arguments_sound ts =
    if_ensures (Passes are_parentheses_or_none ts) (begins_with (codes "(") ts) _ _
    (λ round. weaker (Passes (are_between (codes "(") (codes ")")) ts) (Passes are_parentheses_or_none ts)
    (between_at (codes ")") ts) (λ args g. record { formed = round_sound args.0 g.formed; spelled = g.spelled })
    (between_sound (codes "(") (codes ")") ts round))
    (λ away. record { formed = refl; spelled = refl })

-- ---- names

points_sound : (m : ℕ) (ts : List Spelled) → Ensures (λ xs. ts ≡ behind_points xs.0 xs.1) (points after_name m ts)
unfolding points
points_sound zero ts = refl
points_sound (suc m) ts =
    let G : List (List ℕ) × List Spelled → Type 0 = λ xs. ts ≡ behind_points xs.0 xs.1 in
    match_ensures (λ r. ts ≡ sign (codes ".") ∷ r) G (after_sign (codes ".") ts) _ _ (sign_taken (codes ".") ts) refl
    (λ r e. then_ensures (λ x. r ≡ identifier x.0 ∷ x.1) G (after_name r) _ (name_taken r)
    (λ x d. then_ensures (λ xs. x.1 ≡ behind_points xs.0 xs.1) G (points after_name m x.1) _ (points_sound m x.1)
    (λ xs c. e ∙ ap (λ (u : List Spelled). sign (codes ".") ∷ u) (d ∙ ap (λ (u : List Spelled). identifier x.0 ∷ u)
    c))))

names_sound : (ts : List Spelled) → Ensures (Taken (λ (xs : List (List ℕ)). IsTrue (has_some xs)) names_onto ts)
    (names_at ts)
unfolding names_at
names_sound ts =
    let G : List (List ℕ) × List Spelled → Type 0 = Taken (λ (xs : List (List ℕ)). IsTrue (has_some xs)) names_onto
    ts in
    then_ensures (λ x. ts ≡ identifier x.0 ∷ x.1) G (after_name ts) _ (name_taken ts)
    (λ x e. then_ensures (λ xs. x.1 ≡ behind_points xs.0 xs.1) G (points after_name (length x.1) x.1) _
    (points_sound (length x.1) x.1)
    (λ xs d. record { formed = refl; spelled = e ∙ ap (λ (u : List Spelled). identifier x.0 ∷ u) d }))

-- ---- annotations

pub annotation_sound : (ts : List Spelled) → Ensures (Taken FormedAnnotation annotation_onto (sign (codes "@") ∷ ts))
    (annotation_at ts)
unfolding annotation_at
annotation_sound ts =
    let G : Annotation × List Spelled → Type 0 = Taken FormedAnnotation annotation_onto (sign (codes "@") ∷ ts) in
    then_ensures (Taken (λ (xs : List (List ℕ)). IsTrue (has_some xs)) names_onto ts) G (names_at ts) _ (names_sound ts)
    (λ xs g. then_ensures (Passes are_parentheses_or_none xs.1) G (arguments_at xs.1) _ (arguments_sound xs.1)
    (λ a h. record {
      formed = (g.formed, h.formed);
      spelled = ap (λ (u : List Spelled). sign (codes "@") ∷ u)
          (g.spelled ∙ ap (names_onto xs.0) h.spelled);
    }))

pub annotations_sound : (m : ℕ) (ts : List Spelled) → Ensures (Taken (Each FormedAnnotation) annotations_onto ts)
    (annotations_at m ts)
unfolding annotations_at
annotations_sound zero ts = tt
annotations_sound (suc m) ts =
    let G : List Annotation × List Spelled → Type 0 = Taken (Each FormedAnnotation) annotations_onto ts in
    match_ensures (λ r. ts ≡ sign (codes "@") ∷ r) G (after_sign (codes "@") ts) _ _ (sign_taken (codes "@") ts)
    (record { formed = tt; spelled = refl })
    (λ r e. then_ensures (Taken FormedAnnotation annotation_onto (sign (codes "@") ∷ r)) G (annotation_at r) _
    (annotation_sound r)
    (λ x g. then_ensures (Taken (Each FormedAnnotation) annotations_onto x.1) G (annotations_at m x.1) _
    (annotations_sound m x.1)
    (λ xs h. record { formed = (g.formed, h.formed); spelled = e ∙ g.spelled ∙ ap (annotation_onto x.0) h.spelled })))

-- ---- modifiers

word_of_modifier : (k : TokenKind) (word : List ℕ) (glued : Bool) (ts : List Spelled)
    → Ensures (λ w. (record { kind = k; text = word; glued = glued } ∷ ts ≡ keyword w.0 ∷ w.1)
    × IsTrue (is_method_modifier w.0)) (after_modifier (record { kind = k; text = word; glued = glued } ∷ ts))
word_of_modifier kind.Keyword word false ts =
    if_ensures (λ (w : List ℕ × List Spelled). (keyword word ∷ ts ≡ keyword w.0 ∷ w.1)
    × IsTrue (is_method_modifier w.0)) (is_method_modifier word) (Some (word, ts)) None (λ h. (refl, h)) (λ h. tt)
word_of_modifier kind.Keyword word true ts = tt
word_of_modifier _ word glued ts = tt

modifier_taken : (ts : List Spelled) → Ensures (λ w. (ts ≡ keyword w.0 ∷ w.1) × IsTrue (is_method_modifier w.0))
    (after_modifier ts)
modifier_taken [] = tt
modifier_taken (t ∷ ts) = word_of_modifier t.kind t.text t.glued ts

pub modifiers_sound : (m : ℕ) (ts : List Spelled) → Ensures (Taken (Each FormedModifier) modifiers_onto ts)
    (modifiers_at m ts)
unfolding modifiers_at
modifiers_sound zero ts = tt
modifiers_sound (suc m) ts =
    let G : List Modifier × List Spelled → Type 0 = Taken (Each FormedModifier) modifiers_onto ts in
    match_ensures (λ r. ts ≡ sign (codes "@") ∷ r) G (after_sign (codes "@") ts) _ _ (sign_taken (codes "@") ts)
    (match_ensures (λ w. (ts ≡ keyword w.0 ∷ w.1) × IsTrue (is_method_modifier w.0)) G (after_modifier ts) _ _
    (modifier_taken ts) (record { formed = tt; spelled = refl })
    (λ w e. then_ensures (Taken (Each FormedModifier) modifiers_onto w.1) G (modifiers_at m w.1) _ (modifiers_sound m
    w.1)
    (λ ms h. record {
      formed = (e.1, h.formed);
      spelled = e.0 ∙ ap (λ (u : List Spelled). keyword w.0 ∷ u) h.spelled;
    })))
    (λ r e. then_ensures (Taken FormedAnnotation annotation_onto (sign (codes "@") ∷ r)) G (annotation_at r) _
    (annotation_sound r)
    (λ x g. then_ensures (Taken (Each FormedModifier) modifiers_onto x.1) G (modifiers_at m x.1) _ (modifiers_sound m
    x.1)
    (λ ms h. record { formed = (g.formed, h.formed); spelled = e ∙ g.spelled ∙ ap (annotation_onto x.0) h.spelled })))

-- ---- before the type of a variable

final_where : (may : Bool) (ts : List Spelled) → Ensures (λ (r : List Spelled). (ts ≡ keyword (codes "final") ∷ r)
    × (may ≡ true)) (cond may (after_keyword (codes "final") ts) None)
final_where true ts =
    weaker (λ r. ts ≡ keyword (codes "final") ∷ r) (λ (r : List Spelled). (ts ≡ keyword (codes "final") ∷ r)
    × (true ≡ true)) (after_keyword (codes "final") ts) (λ r e. (e, refl)) (keyword_taken (codes "final") ts)
final_where false ts = tt

no_words : (may : Bool) → IsTrue (words_in may [])
no_words true = refl
no_words false = refl

one_word : (may : Bool) (text : List ℕ) (ms : List Modifier) → may ≡ true → IsTrue (have_no_word ms)
    → IsTrue (words_in may (Word text ∷ ms))
one_word true text ms e h = h
one_word false text ms e h = absurd (false≢true e)

no_more_words : (may : Bool) (n : Annotation) (ms : List Modifier) → IsTrue (words_in may ms)
    → IsTrue (words_in may (Annotated n ∷ ms))
no_more_words true n ms h = h
no_more_words false n ms h = h

-- annotations, and `final` where it may stand
abbrev MayStand : Bool → List Modifier → Type 0
MayStand may ms = Each FormedVariableModifier ms × IsTrue (words_in may ms)

variable_modifiers_sound : (may : Bool) (m : ℕ) (ts : List Spelled) → Ensures (Taken (MayStand may) modifiers_onto ts)
    (variable_modifiers_at may m ts)
unfolding variable_modifiers_at
variable_modifiers_sound may zero ts = tt
variable_modifiers_sound may (suc m) ts =
    let G : List Modifier × List Spelled → Type 0 = Taken (MayStand may) modifiers_onto ts in
    match_ensures (λ r. ts ≡ sign (codes "@") ∷ r) G (after_sign (codes "@") ts) _ _ (sign_taken (codes "@") ts)
    (match_ensures (λ (r : List Spelled). (ts ≡ keyword (codes "final") ∷ r) × (may ≡ true)) G
    (cond may (after_keyword (codes "final") ts) None) _ _ (final_where may ts)
    (record { formed = (tt, no_words may); spelled = refl })
    (λ r e. then_ensures (Taken (MayStand false) modifiers_onto r) G (variable_modifiers_at false m r) _
    (variable_modifiers_sound false m r)
    (λ ms g. record {
      formed = ((refl, g.formed.0), one_word may (codes "final") ms.0 e.1 g.formed.1);
      spelled = e.0 ∙ ap (λ (u : List Spelled). keyword (codes "final") ∷ u) g.spelled;
    })))
    (λ r e. then_ensures (Taken FormedAnnotation annotation_onto (sign (codes "@") ∷ r)) G (annotation_at r) _
    (annotation_sound r)
    (λ x g. then_ensures (Taken (MayStand may) modifiers_onto x.1) G (variable_modifiers_at may m x.1) _
    (variable_modifiers_sound may m x.1)
    (λ ms h. record {
      formed = ((g.formed, h.formed.0), no_more_words may x.0 ms.0 h.formed.1);
      spelled = e ∙ g.spelled ∙ ap (annotation_onto x.0) h.spelled;
    })))

pub before_type_sound : (ts : List Spelled) → Ensures (Taken FormedVariableModifiers modifiers_onto ts)
    (before_type_at ts)
before_type_sound ts = variable_modifiers_sound true (length ts) ts
