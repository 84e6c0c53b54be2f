-- One modifier: what is read is one and spells what was taken, and one that stands there is read.
use Rattle.std.proofs.Common.{◌≡◌, ℕ, Bool, true, false, List, [], ◌∷◌, Option, Some, None, IsTrue, codes, refl, ◌∙◌}
use Rattle.java_lexer.specs.declared.token.TokenKind.{TokenKind}
use Rattle.java_lexer.specs.declared.token.TokenKind.TheVariants as kind
use Rattle.java_tree.specs.declared.words.Spelled.{Spelled}
use Rattle.java_tree.specs.Words.{keyword, sign}
use Rattle.java_tree.specs.Trees.{Modifier, Word, Annotated}
use Rattle.java_tree.specs.Spelling.{modifier_onto}
use Rattle.java_tree.specs.FormedModifiers.{FormedAnnotation}
use Rattle.java_parser_grammar.specs.Taking.{after_sign}
use Rattle.java_parser_grammar.specs.BalancedReading.{annotation_at}
use Rattle.java_parser_grammar.specs.ClassHeadReading.{word_at, modifier_at}
use Rattle.java_parser_grammar.proofs.Annotations.{EndsAnnotation, annotation_found}
use Rattle.java_parser_grammar.proofs.Ensuring.{Ensures, then_ensures, if_ensures, match_ensures, sign_taken}
use Rattle.java_parser_grammar.proofs.SoundAnnotations.{annotation_sound}

-- a word that passes the test, or a formed annotation
abbrev pub IsOneOf : (List ℕ → Bool) → Modifier → Type 0
IsOneOf test (Word text) = IsTrue (test text)
IsOneOf test (Annotated n) = FormedAnnotation n

-- it stands there, if one does
abbrev pub Got : (List ℕ → Bool) → List Spelled → Option (Modifier × List Spelled) → Type 0
Got test ts None = Unit {0}
Got test ts (Some x) = IsOneOf test x.0 × (ts ≡ modifier_onto x.0 x.1)

word_by : (test : List ℕ → Bool) (k : TokenKind) (word : List ℕ) (glued : Bool) (ts : List Spelled)
    → Ensures (λ w. (record { kind = k; text = word; glued = glued } ∷ ts ≡ keyword w.0 ∷ w.1) × IsTrue (test w.0))
    (word_at test (record { kind = k; text = word; glued = glued } ∷ ts))
word_by test kind.Keyword word false ts =
    if_ensures (λ (w : List ℕ × List Spelled). (keyword word ∷ ts ≡ keyword w.0 ∷ w.1) × IsTrue (test w.0)) (test word)
    (Some (word, ts)) None (λ h. (refl, h)) (λ h. tt)
word_by test kind.Keyword word true ts = tt
word_by test _ word glued ts = tt

word_taken : (test : List ℕ → Bool) (ts : List Spelled)
    → Ensures (λ w. (ts ≡ keyword w.0 ∷ w.1) × IsTrue (test w.0)) (word_at test ts)
word_taken test [] = tt
word_taken test (t ∷ ts) = word_by test t.kind t.text t.glued ts

pub modifier_sound : (test : List ℕ → Bool) (ts : List Spelled) → Ensures (Got test ts) (modifier_at test ts)
modifier_sound test ts =
    match_ensures (λ r. ts ≡ sign (codes "@") ∷ r) (Got test ts) (after_sign (codes "@") ts) _ _
    (sign_taken (codes "@") ts)
    (match_ensures (λ w. (ts ≡ keyword w.0 ∷ w.1) × IsTrue (test w.0)) (Got test ts) (word_at test ts) _ _
    (word_taken test ts) tt (λ w e. (e.1, e.0)))
    (λ r e. then_ensures _ (Got test ts) (annotation_at r) _ (annotation_sound r) (λ x g. (g.formed, e ∙ g.spelled)))

pub modifier_found : (test : List ℕ → Bool) (m : Modifier) (rest : List Spelled) → IsOneOf test m
    → EndsAnnotation rest → modifier_at test (modifier_onto m rest) ≡ Some (Some (m, rest))
modifier_found test (Word text) rest f e = rw f refl
modifier_found test (Annotated n) rest f e = rw (annotation_found n rest f e) refl
