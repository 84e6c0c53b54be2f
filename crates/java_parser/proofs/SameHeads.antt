-- What is kept of a method that has no tree is the same wherever it is kept of the same tokens.
use Rattle.std.proofs.Common.{◌≡◌, ℕ, Bool, true, false, List, [], ◌∷◌, codes, refl, ap, sym, ◌∙◌}
use Rattle.std.proofs.lemmas.Bool.{true≢false}
use Rattle.java_lexer.specs.declared.token.Token.{Token}
use Rattle.java_tree.specs.declared.words.Spelled.{Spelled}
use Rattle.java_tree.specs.Words.{keyword}
use Rattle.java_tree.specs.Trees.{Ty, Typed, Plain, Named, no_part, part_then, Bare, Generic}
use Rattle.java_tree.specs.Trees.{Result, NoResult, VoidResult, TypeResult}
use Rattle.java_tree.specs.Spelling.{result_onto, ty_onto}
use Rattle.java_tree.specs.Formed.{FormedTy, is_plain_word}
use Rattle.java_tree.specs.View.{ty_of}
use Rattle.java_tree.specs.Brackets.{is_keyword_kind}
use Rattle.java_parser_grammar.proofs.FoundTypes.{one_type}
use Rattle.java_tree.specs.declared.unit.HeadResult.{HeadResult}
use Rattle.java_tree.specs.declared.unit.HeadResult.TheVariants.{Void, Formed, Constructor, Unknown}
use Rattle.java_tree.specs.declared.unit.OutsideHead.{OutsideHead}
use Rattle.java_parser_grammar.specs.Heads.{HasHead, HeadSays, IsResult, IsOutside, name_kept}
use Rattle.java_parser.proofs.ResultSteps.{head_read, behind}
use Rattle.java_tree.specs.SameUnits.{SameResult, SameHead}
use Rattle.java_parser.proofs.SameFields.{same_places}

one_result : (front : List Token) (r s : Result) → (r ≡ NoResult → ⊥) → (s ≡ NoResult → ⊥) → HasHead front r
    → HasHead front s → result_onto r [] ≡ result_onto s []
one_result front r s some other h k = ap behind (sym (head_read front r some h) ∙ head_read front s other k)

abbrev first_text : List Spelled → List ℕ
first_text [] = []
first_text (t ∷ ts) = t.text

abbrev is_word_first : List Spelled → Bool
is_word_first [] = false
is_word_first (t ∷ ts) = is_keyword_kind t.kind

no_void : (t : Ty) → FormedTy t → keyword (codes "void") ∷ [] ≡ ty_onto t [] → ⊥
no_void (Typed (Plain text) n) f e =
    let same : codes "void" ≡ text = ap first_text e in
    let no : is_plain_word (codes "void") ≡ true = ap is_plain_word same ∙ f in
    true≢false (sym no)
no_void (Typed (Named no_part) n) f e = let none = f.1 in absurd cc
no_void (Typed (Named (part_then (Bare x) ps)) n) f e = true≢false (ap is_word_first e)
no_void (Typed (Named (part_then (Generic x a) ps)) n) f e = true≢false (ap is_word_first e)

void_is_some : VoidResult ≡ NoResult → ⊥
void_is_some e = absurd cc

type_is_some : (t : Ty) → TypeResult t ≡ NoResult → ⊥
type_is_some t e = absurd cc

same_said : (front : List Token) (r s : HeadResult) → HeadSays front r → HeadSays front s → SameResult r s
same_said front Constructor s h k = absurd h
same_said front Void Constructor h k = absurd k
same_said front Void Void h k = tt
same_said front Void (Formed u) h k =
    no_void (ty_of u) k.0.1.result_formed (one_result front VoidResult (TypeResult (ty_of u)) void_is_some
    (type_is_some (ty_of u)) h k.0)
same_said front Void Unknown h k = k VoidResult void_is_some h
same_said front (Formed t) Constructor h k = absurd k
same_said front (Formed t) Void h k =
    no_void (ty_of t) h.0.1.result_formed (one_result front VoidResult (TypeResult (ty_of t)) void_is_some
    (type_is_some (ty_of t)) k h.0)
same_said front (Formed t) (Formed u) h k =
    same_places front t u (one_type (ty_of t) (ty_of u) h.0.1.result_formed k.0.1.result_formed
    (one_result front (TypeResult (ty_of t)) (TypeResult (ty_of u)) (type_is_some (ty_of t)) (type_is_some (ty_of u))
    h.0 k.0)) h.1 k.1
same_said front (Formed t) Unknown h k = k (TypeResult (ty_of t)) (type_is_some (ty_of t)) h.0
same_said front Unknown Constructor h k = absurd k
same_said front Unknown Void h k = h VoidResult void_is_some k
same_said front Unknown (Formed u) h k = h (TypeResult (ty_of u)) (type_is_some (ty_of u)) k.0
same_said front Unknown Unknown h k = tt

same_result : (class name : List ℕ) (front : List Token) (r s : HeadResult) → IsResult class name front r
    → IsResult class name front s → SameResult r s
same_result class name front Constructor Constructor h k = tt
same_result class name front Constructor Void h k = absurd (k.0 h)
same_result class name front Constructor (Formed u) h k = absurd (k.0 h)
same_result class name front Constructor Unknown h k = absurd (k.0 h)
same_result class name front Void Constructor h k = absurd (h.0 k)
same_result class name front (Formed t) Constructor h k = absurd (h.0 k)
same_result class name front Unknown Constructor h k = absurd (h.0 k)
same_result class name front Void Void h k = tt
same_result class name front Void (Formed u) h k = same_said front Void (Formed u) h.1 k.1
same_result class name front Void Unknown h k = same_said front Void Unknown h.1 k.1
same_result class name front (Formed t) Void h k = same_said front (Formed t) Void h.1 k.1
same_result class name front (Formed t) (Formed u) h k = same_said front (Formed t) (Formed u) h.1 k.1
same_result class name front (Formed t) Unknown h k = same_said front (Formed t) Unknown h.1 k.1
same_result class name front Unknown Void h k = same_said front Unknown Void h.1 k.1
same_result class name front Unknown (Formed u) h k = same_said front Unknown (Formed u) h.1 k.1
same_result class name front Unknown Unknown h k = tt

same_name : (r s : HeadResult) (name : List ℕ) → SameResult r s → name_kept r name ≡ name_kept s name
same_name Constructor Constructor name e = refl
same_name Constructor Void name e = absurd e
same_name Constructor (Formed u) name e = absurd e
same_name Constructor Unknown name e = absurd e
same_name Void Constructor name e = absurd e
same_name (Formed t) Constructor name e = absurd e
same_name Unknown Constructor name e = absurd e
same_name Void Void name e = refl
same_name Void (Formed u) name e = refl
same_name Void Unknown name e = refl
same_name (Formed t) Void name e = refl
same_name (Formed t) (Formed u) name e = refl
same_name (Formed t) Unknown name e = refl
same_name Unknown Void name e = refl
same_name Unknown (Formed u) name e = refl
same_name Unknown Unknown name e = refl

pub same_head : (class : List ℕ) (front : List Token) (name : Token) (parentheses ts : List Token) (a b : OutsideHead)
    → IsOutside class front name parentheses ts a → IsOutside class front name parentheses ts b → SameHead a b
same_head class front name parentheses ts a b h k =
    let results = same_result class name.text front a.result b.result h.result k.result in
    record {
      name = h.named ∙ same_name a.result b.result name.text results ∙ sym k.named;
      place = h.placed ∙ sym k.placed;
      is_static = h.is_static ∙ sym k.is_static;
      has_synchronized = h.has_synchronized ∙ sym k.has_synchronized;
      result = results;
      parameters = h.counted ∙ sym k.counted;
    }
