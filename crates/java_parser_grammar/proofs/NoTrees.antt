-- What spells no type, and no head.
use Rattle.std.proofs.Common.{◌≡◌, ℕ, Bool, true, false, List, [], ◌∷◌, ◌++◌, codes, refl, ap, sym, ◌∙◌, subst}
use Rattle.std.specs.Prelude.{bytes_eq}
use Rattle.std.proofs.lemmas.Bool.{true≢false}
use Rattle.java_tree.specs.declared.words.Spelled.{Spelled}
use Rattle.java_tree.specs.Words.{keyword}
use Rattle.java_tree.specs.Trees.{Ty, Typed, Plain, Named, no_part, part_then, Bare, Generic, Modifier, Word, Annotated}
use Rattle.java_tree.specs.Trees.{Result, NoResult, VoidResult, TypeResult}
use Rattle.java_tree.specs.Spelling.{ty_onto, modifiers_onto, result_onto}
use Rattle.java_tree.specs.Brackets.{is_keyword_kind}
use Rattle.java_tree.specs.FormedMethods.{is_method_modifier, FormedModifier, FormedResult}
use Rattle.java_tree.specs.FormedModifiers.{Each}
use Rattle.java_tree.specs.Formed.{is_plain_word, FormedTy}

type_spells : (t : Ty) → FormedTy t → ty_onto t [] ≡ [] → ⊥
type_spells (Typed (Plain text) n) f e = cc
type_spells (Typed (Named no_part) n) f e = let none = f.1 in cc
type_spells (Typed (Named (part_then (Bare x) ps)) n) f e = cc
type_spells (Typed (Named (part_then (Generic x a) ps)) n) f e = cc

pub no_result : (r : Result) → FormedResult r → (r ≡ NoResult → ⊥) → result_onto r [] ≡ [] → ⊥
no_result NoResult f some e = some refl
no_result VoidResult f some e = cc
no_result (TypeResult t) f some e = type_spells t f e

pub no_ending : (front : List Spelled) (r : Result) → FormedResult r → (r ≡ NoResult → ⊥)
    → front ++ result_onto r [] ≡ [] → ⊥
no_ending [] r f some e = no_result r f some e
no_ending (t ∷ front) r f some e = cc

pub no_head : (ms : List Modifier) (r : Result) → FormedResult r → (r ≡ NoResult → ⊥)
    → modifiers_onto ms (result_onto r []) ≡ [] → ⊥
no_head [] r f some e = no_result r f some e
no_head (Word text ∷ ms) r f some e = cc
no_head (Annotated n ∷ ms) r f some e = cc

pub texts_differ : (a b : List ℕ) → bytes_eq a b ≡ false → bytes_eq b b ≡ true → a ≡ b → ⊥
texts_differ a b f t e = true≢false (sym t ∙ ap (λ c. bytes_eq c b) (sym e) ∙ f)

abbrev first_text : List Spelled → List ℕ
first_text [] = []
first_text (t ∷ ts) = t.text

abbrev is_word_first : List Spelled → Bool
is_word_first [] = false
is_word_first (t ∷ ts) = is_keyword_kind t.kind

-- `native` begins no head
pub no_native : (ms : List Modifier) (r : Result) (rest : List Spelled) → Each FormedModifier ms → FormedResult r
    → (r ≡ NoResult → ⊥) → modifiers_onto ms (result_onto r []) ≡ keyword (codes "native") ∷ rest → ⊥
no_native [] NoResult rest g f some e = some refl
no_native [] VoidResult rest g f some e = texts_differ (codes "void") (codes "native") refl refl (ap first_text e)
no_native [] (TypeResult (Typed (Plain text) n)) rest g f some e =
    let same : text ≡ codes "native" = ap first_text e in
    let no : is_plain_word (codes "native") ≡ true = subst (λ x. is_plain_word x ≡ true) same f in
    true≢false (sym no)
no_native [] (TypeResult (Typed (Named no_part) n)) rest g f some e = let none = f.1 in cc
no_native [] (TypeResult (Typed (Named (part_then (Bare x) ps)) n)) rest g f some e =
    true≢false (sym (ap is_word_first e))
no_native [] (TypeResult (Typed (Named (part_then (Generic x a) ps)) n)) rest g f some e =
    true≢false (sym (ap is_word_first e))
no_native (Word text ∷ ms) r rest g f some e =
    let same : text ≡ codes "native" = ap first_text e in
    let no : is_method_modifier (codes "native") ≡ true = subst (λ x. is_method_modifier x ≡ true) same g.0 in
    true≢false (sym no)
no_native (Annotated n ∷ ms) r rest g f some e = true≢false (sym (ap is_word_first e))
