-- What the head of a method says of its result.
use Rattle.std.proofs.Common.{◌≡◌, ℕ, ◌<◌, Bool, true, false, List, [], ◌∷◌, ◌++◌, Option, Some, None, IsTrue}
use Rattle.std.proofs.Common.{codes, length, refl, ap, sym, ◌∙◌, subst, arith}
use Rattle.std.specs.Prelude.{◌↔◌}
use Rattle.java_lexer.specs.declared.token.Token.{Token}
use Rattle.java_tree.specs.declared.words.Spelled.{Spelled}
use Rattle.java_tree.specs.Words.{keyword}
use Rattle.java_tree.specs.Trees.{Modifier, Result, NoResult, VoidResult, TypeResult}
use Rattle.java_tree.specs.Spelling.{modifiers_onto, result_onto}
use Rattle.java_tree.specs.FormedMethods.{FormedResult}
use Rattle.java_tree.specs.KeptPlaces.{kept}
use Rattle.java_tree.specs.View.{ty_of}
use Rattle.java_parser_grammar.specs.MethodReading.{modifiers_at}
use Rattle.java_tree.specs.Brackets.{is_keyword}
use Rattle.java_parser_grammar.proofs.Annotations.{EndsModifiers, ends_void, ends_type, modifiers_fit, modifiers_found}
use Rattle.java_parser_grammar.proofs.Ensuring.{of_equation, keyword_is}
use Rattle.java_parser_grammar.proofs.SoundAnnotations.{modifiers_sound}
use Rattle.java_parser_grammar.proofs.TypeFronts.{formed_longer}
use Rattle.java_tree.specs.declared.unit.HeadResult.{HeadResult}
use Rattle.java_tree.specs.declared.unit.HeadResult.TheVariants.{Void, Formed, Constructor, Unknown}
use Rattle.java_tree.proofs.KeptWords.{kept-append}
use Rattle.java_parser_grammar.specs.Heads.{EndsInResult, IsConstructor, HasHead, HeadSays, IsResult}
use Rattle.java_parser_grammar.specs.Tokens.{plain_all}
use Rattle.java_parser_types.specs.Tokens.{spelled}
use Rattle.java_parser.specs.Fronts.{EndsWith}
use Rattle.java_parser.specs.LastParts.{Scan, Ended, scanned}
use Rattle.java_parser.specs.ResultParts.{SpellsResult, SaysResult, SaysType, IsAnyResult, HasModifiers}
use Rattle.java_parser.specs.ResultParts.{HasNoModifiers}
use Rattle.java_parser.proofs.LastPartSteps.{result_ended, is_end, EndsSo}
use Rattle.java_parser_grammar.proofs.Appended.{modifiers_append}
use Rattle.java_parser.proofs.SameEnds.{plain_ends}

-- ---- the end of tokens

abbrev part_of : Scan → List Spelled
part_of (Ended part) = part
part_of _ = []

ended_so : (ts : List Token) → EndsInResult ts → EndsSo (plain_all ts)
ended_so ts h = subst EndsSo h.5 (result_ended h.0 h.1 h.2 h.3 h.4)

ends_result : (ts part : List Token) → scanned (plain_all ts) ≡ Ended (plain_all part) → (r : Result)
    → SpellsResult (plain_all part) r → EndsInResult ts
ends_result ts part found r s =
    let k = is_end (plain_all ts) (plain_all part) found in
    (k.0, r, s.formed, s.nested, s.some, ap (λ l. k.0 ++ l) s.spelled ∙ k.1)

pub ends_by : (ts part : List Token) (known : Bool) → scanned (plain_all ts) ≡ Ended (plain_all part)
    → IsAnyResult part known → IsTrue known ↔ EndsInResult ts
ends_by ts part true found any = (λ h. ends_result ts part found any.0 any.1, λ h. refl)
ends_by ts part false found none = (λ h. absurd cc, λ h. absurd (no_result h))
  where
    no_result : EndsInResult ts → ⊥
    no_result h =
        let k = ended_so ts h in
        let same : k.part ≡ plain_all part = ap part_of (sym k.found ∙ found) in
        none k.result (subst (λ (l : List Spelled). SpellsResult l k.result) same k.spells)

pub ends_not : (ts : List Token) → ((part : List Spelled) → scanned (plain_all ts) ≡ Ended part → ⊥)
    → IsTrue false ↔ EndsInResult ts
ends_not ts none = (λ h. absurd cc, λ h. let k = ended_so ts h in absurd (none k.part k.found))

-- ---- all of the tokens

pub word_says : (t : Token) → is_keyword (codes "void") (spelled t) ≡ true → SaysResult (t ∷ []) Void
word_says t h = record {
  some = λ e. absurd cc;
  formed = tt;
  nested = omega arith;
  spelled = ap (λ (s : Spelled). s ∷ []) (sym (keyword_is (codes "void") (spelled t) h));
}

-- the tokens are not `void` alone
abbrev pub IsNoVoid : List Token → Type 0
IsNoVoid ts = plain_all ts ≡ keyword (codes "void") ∷ [] → ⊥

pub type_says : (ts : List Token) (r : HeadResult) → IsNoVoid ts → SaysType ts r → SaysResult ts r
type_says ts Void other h = absurd h
type_says ts (Formed t) other h = h
type_says ts Constructor other h = absurd h
type_says ts Unknown other h = λ r s. by_result r s where
  by_result : (r : Result) → SpellsResult (plain_all ts) r → ⊥
  by_result NoResult s = s.some refl
  by_result VoidResult s = other (sym s.spelled)
  by_result (TypeResult t) s = h t s

first_is : (t : Token) (ts : List Token) → plain_all (t ∷ ts) ≡ keyword (codes "void") ∷ []
    → is_keyword (codes "void") (spelled t) ≡ true
first_is t ts e = let same : spelled t ≡ keyword (codes "void") = cc in ap (is_keyword (codes "void")) same

pub other_word : (t : Token) → is_keyword (codes "void") (spelled t) ≡ false → IsNoVoid (t ∷ [])
other_word t h = λ e. let k = first_is t [] e in absurd cc

pub no_word : (ts : List Token) → ts ≡ [] → IsNoVoid ts
no_word ts e = λ h. let none : [] ≡ keyword (codes "void") ∷ [] = sym (ap plain_all e) ∙ h in absurd cc

pub more_words : (t u : Token) (ts : List Token) → IsNoVoid (t ∷ u ∷ ts)
more_words t u ts = λ e. absurd cc

pub any_result : (ts : List Token) (r : HeadResult) → (r ≡ Unknown → ⊥) → SaysResult ts r → IsAnyResult ts true
any_result ts Void known h = (VoidResult, h)
any_result ts (Formed t) known h = (TypeResult (ty_of t), h.0)
any_result ts Constructor known h = absurd h
any_result ts Unknown known h = absurd (known refl)

-- ---- behind modifiers

ends_here : (r : Result) → FormedResult r → (r ≡ NoResult → ⊥) → EndsModifiers (result_onto r [])
ends_here NoResult f some = absurd (some refl)
ends_here VoidResult f some = ends_void []
ends_here (TypeResult t) f some = ends_type t [] f

has_token : (r : Result) → FormedResult r → (r ≡ NoResult → ⊥) → 0 < length (result_onto r [])
has_token NoResult f some = absurd (some refl)
has_token VoidResult f some = omega arith
has_token (TypeResult t) f some = omega (arith, formed_longer t f [])

pub head_read : (front : List Token) (r : Result) → (r ≡ NoResult → ⊥) → (h : HasHead front r)
    → modifiers_at (length (plain_all front)) (plain_all front) ≡ Some (h.0, result_onto r [])
head_read front r some h =
    let k = h.1 in
    let rest = result_onto r [] in
    let room : length h.0 < length (plain_all front) =
    omega (arith, modifiers_fit h.0 rest, has_token r k.result_formed some, ap length k.spelled) in
    ap (modifiers_at (length (plain_all front))) (sym k.spelled)
    ∙ modifiers_found h.0 (length (plain_all front)) rest k.formed (ends_here r k.result_formed some) room

abbrev pub behind : Option (List Modifier × List Spelled) → List Spelled
behind None = []
behind (Some x) = x.1

is_head : (front rest : List Token) (r : Result) (ms : List Modifier)
    → modifiers_at (length (plain_all front)) (plain_all front) ≡ Some (ms, plain_all rest)
    → SpellsResult (plain_all rest) r → HasHead front r
is_head front rest r ms read s =
    let g = of_equation _ (modifiers_at (length (plain_all front)) (plain_all front)) (ms, plain_all rest)
    (modifiers_sound (length (plain_all front)) (plain_all front)) read in (
      ms,
      record {
        formed = g.formed;
        result_formed = s.formed;
        nested = s.nested;
        spelled = ap (modifiers_onto ms) s.spelled ∙ sym g.spelled;
      },
    )

pub head_says : (front rest : List Token) (r : HeadResult) → HasModifiers front rest → EndsWith front rest
    → SaysResult rest r → HeadSays front r
head_says front rest Void h end s = is_head front rest VoidResult h.0 h.1 s
head_says front rest (Formed t) h end s = (
  is_head front rest (TypeResult (ty_of t)) h.0 h.1 s.0,
  (kept end.0, ap (λ ps. kept end.0 ++ ps) s.1 ∙ sym (kept-append end.0 rest) ∙ sym (ap kept end.1)),
)
head_says front rest Constructor h end s = absurd s
head_says front rest Unknown h end s = λ r some head.
    let same : plain_all rest ≡ result_onto r [] = ap behind (sym h.1 ∙ head_read front r some head) in
    s r (record { some = some; formed = head.1.result_formed; nested = head.1.nested; spelled = sym same })

pub head_says_nothing : (front : List Token) → HasNoModifiers front → HeadSays front Unknown
head_says_nothing front none = λ r some head. let read = head_read front r some head in absurd cc

-- the tokens at the end that were left, behind the same modifiers
pub modifiers_left : (front words rest left : List Token) → front ≡ words ++ rest → length rest ≡ length left
    → HasModifiers front left → HasModifiers front rest
modifiers_left front words rest left parts size h =
    let g = of_equation _ (modifiers_at (length (plain_all front)) (plain_all front)) (h.0, plain_all left)
    (modifiers_sound (length (plain_all front)) (plain_all front)) h.1 in
    let k = plain_ends front words rest left (modifiers_onto h.0 []) parts size (g.spelled
    ∙ modifiers_append h.0 [] (plain_all left)) in
    (h.0, h.1 ∙ ap (λ (l : List Spelled). Some (pair h.0 l)) (sym k.end))
  where
    pair : List Modifier → List Spelled → List Modifier × List Spelled
    pair ms l = (ms, l)

pub result_is : (class name : List ℕ) (front : List Token) (r : HeadResult) → (IsConstructor class name front → ⊥)
    → HeadSays front r → IsResult class name front r
result_is class name front Void none h = (none, h)
result_is class name front (Formed t) none h = (none, h)
result_is class name front Constructor none h = absurd h
result_is class name front Unknown none h = (none, h)
