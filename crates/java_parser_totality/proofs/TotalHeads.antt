-- What is kept of a method that has no tree, whatever its tokens are.
use Rattle.std.proofs.Common.{◌≡◌, ℕ, ◌<◌, inl, inr, List, [], ◌++◌, length, refl, sym, ap, ◌∙◌, subst}
use Rattle.std.proofs.lemmas.List.{append-nil}
use Rattle.java_lexer.specs.declared.token.Token.{Token}
use Rattle.java_tree.specs.declared.words.Spelled.{Spelled}
use Rattle.java_tree.specs.declared.types.TypeTree.{TypeTree}
use Rattle.java_tree.specs.Trees.{Ty, Modifier, Word, Result, NoResult, VoidResult, TypeResult}
use Rattle.java_tree.specs.Spelling.{modifiers_onto, result_onto, ty_onto}
use Rattle.java_tree.specs.FormedMethods.{FormedModifier, is_method_modifier}
use Rattle.java_tree.specs.Formed.{FormedTy}
use Rattle.java_tree.specs.KeptPlaces.{kept, ty_places}
use Rattle.java_tree.specs.View.{ty_of}
use Rattle.java_tree.specs.declared.unit.HeadResult.{HeadResult}
use Rattle.java_tree.specs.declared.unit.HeadResult.TheVariants.{Void, Formed, Constructor, Unknown}
use Rattle.java_tree.specs.declared.unit.OutsideHead.{OutsideHead}
use Rattle.java_tree.proofs.KeptWords.{kept-append}
use Rattle.java_parser_grammar.specs.Tokens.{plain_all, AreLast}
use Rattle.java_parser_grammar.specs.Pieces.{items_of, inside}
use Rattle.java_parser_grammar.specs.Heads.{EndsInResult, without_annotations, IsConstructor, HasHead, HeadSays}
use Rattle.java_parser_grammar.specs.Heads.{IsResult}
use Rattle.java_parser_grammar.specs.Heads.{parameters_among, has_static, has_synchronized, name_kept, IsOutside}
use Rattle.java_parser_grammar.proofs.Appended.{modifiers_append}
use Rattle.java_parser_grammar.proofs.OneDivision.{plain_append}
use Rattle.java_parser_totality.specs.Totality.{most}
use Rattle.java_parser_totality.proofs.Parts.{Made, no_tokens}
use Rattle.java_parser_totality.proofs.MadeTypes.{Same, ty_part, ty-made}
use Rattle.java_parser_totality.proofs.Deciding.{Decided, decided-as, decided-both, decided-true, decided-bytes, Split}
use Rattle.java_parser_totality.proofs.Deciding.{decided-split}
use Rattle.java_parser_totality.proofs.DecidingTrees.{Modifiers, decided-modifiers, AResult, IsResultOf, decided-result}
use Rattle.java_parser_totality.proofs.Splits.{InTwo, in-two, back-within}

-- ---- the tree of a type

pub record TypeTreeOf (ts : List Token) (t : Ty) : Type 0 where
  pub tree : TypeTree
  pub is : ty_of tree ≡ t
  pub places : ty_places tree ≡ kept ts

pub type-tree : (ts : List Token) (t : Ty) → length ts < most → FormedTy t → plain_all ts ≡ ty_onto t []
    → TypeTreeOf ts t
type-tree ts t few f e = of (ty-made t f ts [] few e) where
  of : Made Same (ty_part t) ts [] → TypeTreeOf ts t
  of m =
      record {
        tree = m.tree;
        is = m.is;
        places = sym (append-nil (ty_places m.tree)) ∙ m.fits [] (sym (ap kept (no_tokens m.behind m.spelled)));
      }

-- what stands at the end keeps the last places
pub last-places : (a b : List Token) (ts : List Token) (places : List _) → a ++ b ≡ ts → places ≡ kept b
    → AreLast places ts
last-places a b ts places parts e =
    (kept a, ap (λ l. kept a ++ l) e ∙ sym (kept-append a b) ∙ ap kept parts)

-- ---- a result at the end

abbrev EndsSo : List Token → List Token → Type 0
EndsSo a b = AResult (plain_all b)

decided-ending : (ts : List Token) → Decided (EndsInResult ts)
decided-ending ts = decided-as to from (decided-split EndsSo ts (λ a b e. decided-result (plain_all b))) where
  to : Split EndsSo ts → EndsInResult ts
  to h =
      let r = h.is.1 in (
        plain_all h.front,
        h.is.0,
        r.formed,
        r.nested,
        r.some,
        ap (λ l. plain_all h.front ++ l) r.spelled ∙ sym (plain_append h.front h.back) ∙ ap plain_all h.parts,
      )

  of : (r : Result) {x : List Spelled} → IsResultOf (result_onto r []) r → InTwo ts x (result_onto r [])
      → Split EndsSo ts
  of r is h =
      record {
        front = h.front;
        back = h.back;
        parts = h.parts;
        is = (r, subst (λ s. IsResultOf s r) (sym h.second) is);
      }

  from : EndsInResult ts → Split EndsSo ts
  from h =
      of h.1 (record { some = h.4; formed = h.2; nested = h.3; spelled = refl })
      (in-two ts h.0 (result_onto h.1 []) h.5)

-- ---- modifiers, and then a result

method-words : (text : List ℕ) → Decided (FormedModifier (Word text))
method-words text = decided-true (is_method_modifier text)

abbrev MethodModifiers : List Spelled → Type 0
MethodModifiers = Modifiers FormedModifier method-words (λ n f. f) (λ n f. f)

abbrev HeadSo : List Token → List Token → Type 0
HeadSo a b = MethodModifiers (plain_all a) × AResult (plain_all b)

abbrev AHead : List Token → Type 0
AHead ts = Split HeadSo ts

head-spelled : (ts a b : List Token) (ms : List Modifier) (r : Result) → a ++ b ≡ ts
    → modifiers_onto ms [] ≡ plain_all a → result_onto r [] ≡ plain_all b
    → modifiers_onto ms (result_onto r []) ≡ plain_all ts
head-spelled ts a b ms r parts first second =
    modifiers_append ms [] (result_onto r []) ∙ ap (λ l. l ++ result_onto r []) first
    ∙ ap (λ l. plain_all a ++ l) second ∙ sym (plain_append a b) ∙ ap plain_all parts

decided-head : (ts : List Token) → Decided (AHead ts)
decided-head ts =
    decided-split HeadSo ts (λ a b e. decided-both
    (decided-modifiers FormedModifier method-words (λ n f. f) (λ n f. f) (plain_all a)) (decided-result (plain_all b)))

head-found : (ts : List Token) (r : Result) → (r ≡ NoResult → ⊥) → HasHead ts r → AHead ts
head-found ts r some h = of (in-two ts (modifiers_onto h.0 []) (result_onto r []) (sym (modifiers_append h.0 []
    (result_onto r [])) ∙ h.1.spelled)) where
      of : InTwo ts (modifiers_onto h.0 []) (result_onto r []) → AHead ts
      of k =
          record {
            front = k.front;
            back = k.back;
            parts = k.parts;
            is = (
              (h.0, h.1.formed, sym k.first),
              (
                r,
                record { some = some; formed = h.1.result_formed; nested = h.1.nested; spelled = sym k.second },
              ),
            );
          }

AnyHead : List Token → Type 0
AnyHead ts = (r : HeadResult) × HeadSays ts r

-- ---- the result

abbrev NotConstructor : List ℕ → List ℕ → List Token → Type 0
NotConstructor class name front = IsConstructor class name front → ⊥

abbrev AnyResult : List ℕ → List ℕ → List Token → Type 0
AnyResult class name front = (r : HeadResult) × IsResult class name front r

module _ (class name : List ℕ) (front : List Token) (few : length front < most) where
  decided-constructor : Decided (IsConstructor class name front)
  decided-constructor = by (decided-bytes name class) (decided-ending (without_annotations front)) where
    by : Decided (name ≡ class) → Decided (EndsInResult (without_annotations front))
        → Decided (IsConstructor class name front)
    by (inl e) (inr none) = inl (record { named = e; without_result = none })
    by (inl e) (inl some) = inr (λ c. c.without_result some)
    by (inr none) o = inr (λ c. none c.named)

  void-head : NotConstructor class name front → HasHead front VoidResult → AnyResult class name front
  void-head none h = (Void, (none, h))

  type-head : NotConstructor class name front → (t : Ty) (a b : List Token) → a ++ b ≡ front → TypeTreeOf b t
      → HasHead front (TypeResult t) → AnyResult class name front
  type-head none t a b parts k h = (
    Formed k.tree,
    (
      none,
      (subst (λ u. HasHead front (TypeResult u)) (sym k.is) h, last-places a b front (ty_places k.tree) parts k.places),
    ),
  )

  with-head : NotConstructor class name front → (ms : List Modifier) (r : Result) (h : AHead front)
      → h.is.0.0 ≡ ms → h.is.1.0 ≡ r → IsResultOf (plain_all h.back) r → HasHead front r → AnyResult class name front
  with-head none ms NoResult h e f is has = absurd (is.some refl)
  with-head none ms VoidResult h e f is has = void-head none has
  with-head none ms (TypeResult t) h e f is has =
      type-head none t h.front h.back h.parts
      (type-tree h.back t (back-within most h.front h.back front h.parts few) is.formed (sym is.spelled)) has

  found : NotConstructor class name front → AHead front → AnyResult class name front
  found none h =
      let m = h.is.0 in
      let r = h.is.1 in
      with-head none m.0 r.0 h refl refl r.1 (
        m.0,
        record {
          formed = m.1;
          result_formed = r.1.formed;
          nested = r.1.nested;
          spelled = head-spelled front h.front h.back m.0 r.0 h.parts m.2 r.1.spelled;
        },
      )

  no-head : NotConstructor class name front → (AHead front → ⊥) → AnyResult class name front
  no-head none headless = (Unknown, (none, λ r some h. headless (head-found front r some h)))

  pub any-result : AnyResult class name front
  any-result = by decided-constructor (decided-head front) where
    by : Decided (IsConstructor class name front) → Decided (AHead front) → AnyResult class name front
    by (inl c) o = (Constructor, c)
    by (inr none) (inl h) = found none h
    by (inr none) (inr headless) = no-head none headless

-- ---- what is kept

pub any-outside : (class : List ℕ) (front : List Token) (name : Token) (parentheses ts : List Token)
    → length front < most → (head : OutsideHead) × IsOutside class front name parentheses ts head
any-outside class front name parentheses ts few = of (any-result class name.text front few) where
  of : AnyResult class name.text front → (head : OutsideHead) × IsOutside class front name parentheses ts head
  of r = (
    record {
      name = name_kept r.0 name.text;
      place = name.place;
      is_static = has_static front;
      has_synchronized = has_synchronized ts;
      result = r.0;
      parameters = parameters_among (items_of (inside parentheses));
    },
    record {
      named = refl;
      placed = refl;
      is_static = refl;
      has_synchronized = refl;
      result = r.1;
      counted = refl;
    },
  )
