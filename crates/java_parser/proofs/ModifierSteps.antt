-- Modifiers of fields, one after the other.
use Rattle.std.proofs.Common.{◌≡◌, ℕ, Bool, true, false, List, [], ◌∷◌, ◌++◌, Option, Some, None, IsTrue, codes}
use Rattle.std.proofs.Common.{refl, ap, sym, ◌∙◌, subst, map, length}
use Rattle.java_lexer.specs.declared.token.Token.{Token}
use Rattle.java_lexer.specs.declared.token.TokenKind.{TokenKind}
use Rattle.java_lexer.specs.declared.token.TokenKind.TheVariants as kind
use Rattle.java_tree.specs.declared.words.Spelled.{Spelled}
use Rattle.java_tree.specs.Words.{keyword, sign}
use Rattle.java_tree.specs.Trees.{Modifier, Word, Annotated, Ty, Typed, Plain, Named, no_part, part_then}
use Rattle.java_tree.specs.Trees.{Bare, Generic}
use Rattle.java_tree.specs.Spelling.{modifier_onto, modifiers_onto, ty_onto, brackets_onto}
use Rattle.java_tree.specs.FormedModifiers.{Each}
use Rattle.java_tree.specs.Formed.{FormedTy, is_plain_word}
use Rattle.java_parser_grammar.specs.Taking.{after_sign}
use Rattle.java_parser_grammar.specs.BalancedReading.{annotation_at}
use Rattle.java_parser_grammar.proofs.Annotations.{EndsAnnotation, annotation_found}
use Rattle.java_parser_grammar.proofs.Ensuring.{Ensures, then_ensures, if_ensures, match_ensures, sign_taken}
use Rattle.java_parser_grammar.proofs.Ensuring.{of_equation}
use Rattle.java_parser_grammar.proofs.SoundAnnotations.{annotation_sound}
use Rattle.java_parser_grammar.proofs.StatementFronts.{plain_cases}
use Rattle.java_parser_grammar.specs.FieldDivisions.{FormedFieldModifier, is_field_modifier}
use Rattle.java_parser_grammar.proofs.Appended.{modifiers_append}
use Rattle.java_parser_types.specs.Tokens.{spelled}
use Rattle.java_parser.proofs.SameEnds.{plain_ends}
use Rattle.java_parser_grammar.specs.ClassHeadReading.{word_at}
use Rattle.java_parser.specs.FieldModifiers.{field_modifier_at, EndsModifiers, Spells}
use Rattle.java_parser.specs.FieldModifiers.{SkipsModifiers, NoModifiers, AreModifiers}

-- ---- a modifier is found

modifiers_end : (ms : List Modifier) (rest : List Spelled) → EndsAnnotation rest
    → EndsAnnotation (modifiers_onto ms rest)
modifiers_end [] rest e = e
modifiers_end (Word text ∷ ms) rest e = record { no_point = refl; no_open = refl }
modifiers_end (Annotated n ∷ ms) rest e = record { no_point = refl; no_open = refl }

modifier_found : (m : Modifier) (rest : List Spelled) → FormedFieldModifier m → EndsAnnotation rest
    → field_modifier_at (modifier_onto m rest) ≡ Some (Some (m, rest))
modifier_found (Word text) rest f e = rw f refl
modifier_found (Annotated n) rest f e = rw (annotation_found n rest f e) refl

pub first_found : (ts : List Spelled) (m : Modifier) (ms : List Modifier) (end : List Spelled) → Spells ts (m ∷ ms) end
    → EndsModifiers end → field_modifier_at ts ≡ Some (Some (m, modifiers_onto ms end))
first_found ts m ms end s ends =
    ap field_modifier_at s.spelled ∙ modifier_found m (modifiers_onto ms end) s.formed.0 (modifiers_end ms end (record {
      no_point = ends.no_point;
      no_open = ends.no_open;
    }))

abbrev behind : Option (Option (Modifier × List Spelled)) → List Spelled
behind (Some (Some x)) = x.1
behind _ = []

-- ---- what stands in front is passed over

pub skips_none : (ts : List Spelled) → SkipsModifiers ts ts
skips_none ts = λ ms end s ends. (ms, s)

pub skips_one : (ts here rest : List Spelled) (m : Modifier) → SkipsModifiers ts here
    → field_modifier_at here ≡ Some (Some (m, rest)) → SkipsModifiers ts rest
skips_one ts here rest m skips e = λ ms end s ends. let x = skips ms end s ends in one x.0 end x.1 ends where
  one : (ms : List Modifier) (end : List Spelled) → Spells here ms end → EndsModifiers end
      → (others : List Modifier) × Spells rest others end
  one [] end s ends =
      let none : field_modifier_at here ≡ Some None = ap field_modifier_at s.spelled ∙ ends.ended in absurd cc
  one (x ∷ ms) end s ends =
      (ms, record { formed = s.formed.1; spelled = ap behind (sym e ∙ first_found here x ms end s ends) })

pub skips_end : (ts rest : List Spelled) → SkipsModifiers ts rest → field_modifier_at rest ≡ Some None
    → (ms : List Modifier) (end : List Spelled) → Spells ts ms end → EndsModifiers end → rest ≡ end
skips_end ts rest skips e ms end s ends = let x = skips ms end s ends in none_left x.0 x.1 where
  none_left : (others : List Modifier) → Spells rest others end → rest ≡ end
  none_left [] s = s.spelled
  none_left (x ∷ others) s =
      let here : field_modifier_at rest ≡ Some (Some (x, modifiers_onto others end)) =
      first_found rest x others end s ends in
      absurd cc

pub skips_fail : (ts rest : List Spelled) → SkipsModifiers ts rest → field_modifier_at rest ≡ None → NoModifiers ts
skips_fail ts rest skips e = λ ms end s ends. let x = skips ms end s ends in none_there x.0 end x.1 ends where
  none_there : (others : List Modifier) (end : List Spelled) → Spells rest others end → EndsModifiers end → ⊥
  none_there [] end s ends =
      let none : field_modifier_at rest ≡ Some None = ap field_modifier_at s.spelled ∙ ends.ended in absurd cc
  none_there (x ∷ others) end s ends =
      let here : field_modifier_at rest ≡ Some (Some (x, modifiers_onto others end)) =
      first_found rest x others end s ends in
      absurd cc

-- ---- what is read is formed and spells

word_by : (k : TokenKind) (word : List ℕ) (glued : Bool) (ts : List Spelled)
    → Ensures (λ w. (record { kind = k; text = word; glued = glued } ∷ ts ≡ keyword w.0 ∷ w.1)
    × IsTrue (is_field_modifier w.0)) (word_at is_field_modifier (record { kind = k; text = word; glued = glued } ∷ ts))
word_by kind.Keyword word false ts =
    if_ensures (λ (w : List ℕ × List Spelled). (keyword word ∷ ts ≡ keyword w.0 ∷ w.1)
    × IsTrue (is_field_modifier w.0)) (is_field_modifier word) (Some (word, ts)) None (λ h. (refl, h)) (λ h. tt)
word_by kind.Keyword word true ts = tt
word_by _ word glued ts = tt

word_taken : (ts : List Spelled) → Ensures (λ w. (ts ≡ keyword w.0 ∷ w.1) × IsTrue (is_field_modifier w.0))
    (word_at is_field_modifier ts)
word_taken [] = tt
word_taken (t ∷ ts) = word_by t.kind t.text t.glued ts

abbrev Got : List Spelled → Option (Modifier × List Spelled) → Type 0
Got ts None = Unit {0}
Got ts (Some x) = FormedFieldModifier x.0 × (ts ≡ modifier_onto x.0 x.1)

modifier_sound : (ts : List Spelled) → Ensures (Got ts) (field_modifier_at ts)
modifier_sound ts =
    match_ensures (λ r. ts ≡ sign (codes "@") ∷ r) (Got ts) (after_sign (codes "@") ts) _ _ (sign_taken (codes "@") ts)
    (match_ensures (λ w. (ts ≡ keyword w.0 ∷ w.1) × IsTrue (is_field_modifier w.0)) (Got ts)
    (word_at is_field_modifier ts) _ _ (word_taken ts) tt (λ w e. (e.1, e.0)))
    (λ r e. then_ensures _ (Got ts) (annotation_at r) _ (annotation_sound r) (λ x g. (g.formed, e ∙ g.spelled)))

each_push : (ms : List Modifier) (m : Modifier) → Each FormedFieldModifier ms → FormedFieldModifier m
    → Each FormedFieldModifier (ms ++ m ∷ [])
each_push [] m f g = (g, tt)
each_push (x ∷ ms) m f g = (f.0, each_push ms m f.1 g)

onto_push : (ms : List Modifier) (m : Modifier) (rest : List Spelled)
    → modifiers_onto ms (modifier_onto m rest) ≡ modifiers_onto (ms ++ m ∷ []) rest
onto_push [] m rest = refl
onto_push (x ∷ ms) m rest = ap (modifier_onto x) (onto_push ms m rest)

pub spells_none : (ts : List Spelled) → Spells ts [] ts
spells_none ts = record { formed = tt; spelled = refl }

pub spells_more : (ts here rest : List Spelled) (ms : List Modifier) (m : Modifier) → Spells ts ms here
    → field_modifier_at here ≡ Some (Some (m, rest)) → Spells ts (ms ++ m ∷ []) rest
spells_more ts here rest ms m s e =
    let g = of_equation (Got here) (field_modifier_at here) (Some (m, rest)) (modifier_sound here) e in
    record {
      formed = each_push ms m s.formed g.0;
      spelled = s.spelled ∙ ap (modifiers_onto ms) g.1 ∙ onto_push ms m rest;
    }

-- ---- what stands behind modifiers

ends_plain : (text : List ℕ) (rest : List Spelled) → IsTrue (is_plain_word text) → EndsModifiers (keyword text ∷ rest)
ends_plain text rest h = record {
  no_point = refl;
  no_open = refl;
  ended = plain_cases (λ word. field_modifier_at (keyword word ∷ rest) ≡ Some None) refl refl refl refl refl refl refl
      refl text h;
}

pub ends_type : (t : Ty) (rest : List Spelled) → FormedTy t → EndsModifiers (ty_onto t rest)
ends_type (Typed (Plain text) arrays) rest f = ends_plain text (brackets_onto arrays rest) f
ends_type (Typed (Named no_part) arrays) rest f = absurd cc
ends_type (Typed (Named (part_then (Bare x) ps)) arrays) rest f =
    record { no_point = refl; no_open = refl; ended = refl }
ends_type (Typed (Named (part_then (Generic x a) ps)) arrays) rest f =
    record { no_point = refl; no_open = refl; ended = refl }

-- the tokens at the end that were left, behind the same modifiers
pub modifiers_left : (ts words rest left : List Token) (ms : List Modifier) → ts ≡ words ++ rest
    → length rest ≡ length left → AreModifiers ms (map spelled ts) (map spelled left)
    → AreModifiers ms (map spelled ts) (map spelled rest)
modifiers_left ts words rest left ms parts size h =
    let k = plain_ends ts words rest left (modifiers_onto ms []) parts size (h.spells.spelled
    ∙ modifiers_append ms [] (map spelled left)) in
    subst (AreModifiers ms (map spelled ts)) (sym k.end) h
