-- Every tokens of a member are read as one.
use Rattle.std.proofs.Common.{◌≡◌, ℕ, ◌<◌, ◌≤◌, Bool, true, false, cond, ◌||◌, inl, inr, List, [], ◌∷◌, ◌++◌, Option}
use Rattle.std.proofs.Common.{Some, None, length, length-append, refl, sym, ap, ◌∙◌, subst, arith, codes}
use Rattle.std.specs.Prelude.{option_map}
use Rattle.std.specs.List.{AllZip}
use Rattle.racer_base.specs.declared.limits.TheConstants.{MAX_NESTING}
use Rattle.racer_base.specs.declared.ids.Place.{Place}
use Rattle.java_lexer.specs.declared.token.Token.{Token}
use Rattle.java_tree.specs.declared.methods.MethodTree.{MethodTree}
use Rattle.java_tree.specs.Trees.{Result, NoResult, VoidResult, TypeResult, Method}
use Rattle.java_tree.specs.KeptPlaces.{kept}
use Rattle.java_tree.specs.KeptPlaces.{AreAt}
use Rattle.java_tree.specs.MethodPlaces.{method_marks}
use Rattle.java_tree.specs.View.{method_of}
use Rattle.java_parser_grammar.specs.JavaReaders.{method_readers}
use Rattle.java_parser_grammar.specs.MethodReading.{method_at}
use Rattle.java_tree.specs.declared.unit.Member.{Member}
use Rattle.java_tree.specs.declared.unit.Member.TheVariants as member
use Rattle.java_parser_grammar.specs.Tokens.{plain_all, is_sign_token, is_name, begins_sign}
use Rattle.java_parser_grammar.specs.Cuts.{joined, ends}
use Rattle.java_parser_grammar.specs.Pieces.{Piece, items_of, pieces_of}
use Rattle.java_parser_grammar.specs.Members.{is_endless, is_block, is_modifier, behind_words, begins_type}
use Rattle.java_parser_grammar.specs.Members.{before_parentheses}
use Rattle.java_parser_grammar.specs.Members.{name_at_end, Form, SkippedForm, MethodForm, FieldForm, form_by, form_of}
use Rattle.java_tree.specs.declared.unit.OutsideHead.{OutsideHead}
use Rattle.java_parser_grammar.specs.Heads.{IsMethod, IsOutside, has_synchronized}
use Rattle.java_parser_grammar.specs.Units.{BeginsAt, HasForm, IsMember}
use Rattle.java_parser_grammar.proofs.FoundJava.{EndsExpr, java_finds}
use Rattle.java_parser_grammar.proofs.Joined.{joined_pieces}
use Rattle.java_parser_grammar.proofs.ReadMethods.{read_is_formed, only_one_read, none_read}
use Rattle.java_parser_grammar.proofs.SoundJava.{java_sound}
use Rattle.java_parser_grammar.proofs.TypeFronts.{EndsTy}
use Rattle.java_parser_totality.specs.Totality.{most}
use Rattle.java_parser_totality.proofs.Deciding.{Decided, decided-bytes}
use Rattle.java_parser_totality.proofs.Filling.{Filled, Good, EachGood}
use Rattle.java_parser_totality.proofs.MadeMethods.{method-made}
use Rattle.java_parser_totality.proofs.TotalFields.{SomeFields, decided-fields}
use Rattle.java_parser_totality.proofs.TotalHeads.{any-outside}

-- ---- what stands before the name of a method is part of it

abbrev front_size : Form → ℕ
front_size SkippedForm = 0
front_size (MethodForm front name parentheses) = length front
front_size FieldForm = 0

name-short : (ts : List Token) (x : List Token × Token) → name_at_end ts ≡ Some x → length x.0 ≤ length ts
name-short [] x e = absurd cc
name-short (t ∷ []) x e = by (is_name t) e where
  by : (b : Bool) → cond b (Some ([], t)) None ≡ Some x → length x.0 ≤ 1
  by true f = let same : ([], t) ≡ x = cc in subst (λ (y : List Token × Token). length y.0 ≤ 1) same (omega arith)
  by false f = absurd cc
name-short (t ∷ u ∷ ts) x e = by (name_at_end (u ∷ ts)) refl e (λ y f. name-short (u ∷ ts) y f) where
  by : (o : Option (List Token × Token)) → name_at_end (u ∷ ts) ≡ o
      → option_map (λ y. (t ∷ y.0, y.1)) o ≡ Some x
      → ((y : List Token × Token) → name_at_end (u ∷ ts) ≡ Some y → length y.0 ≤ length (u ∷ ts))
      → length x.0 ≤ length (t ∷ u ∷ ts)
  by None is f k = absurd cc
  by (Some y) is f k =
      let same : (t ∷ y.0, y.1) ≡ x = cc in
      let short = k y is in
      subst (λ (z : List Token × Token). length z.0 ≤ length (t ∷ u ∷ ts)) same (omega (arith, short))

abbrev Front : Type 0
Front = Option (List Token × Piece)

parentheses-short : (ps : List Piece) (x : List Token × Piece) → before_parentheses ps ≡ Some x
    → length x.0 ≤ length (joined ps)
parentheses-short [] x e = absurd cc
parentheses-short (p ∷ ps) x e =
    by (begins_sign (codes "(") p) (begins_sign (codes "=") p) (before_parentheses ps) refl e
    (parentheses-short ps) where
      by : (b c : Bool) (o : Front) → before_parentheses ps ≡ o
          → cond b (Some ([], p)) (cond c None (option_map (λ h. (p ++ h.0, h.1)) o)) ≡ Some x
          → ((y : List Token × Piece) → before_parentheses ps ≡ Some y → length y.0 ≤ length (joined ps))
          → length x.0 ≤ length (joined (p ∷ ps))
      by true c o is f k =
          let same : ([], p) ≡ x = cc in
          subst (λ (z : List Token × Piece). length z.0 ≤ length (joined (p ∷ ps))) same (omega arith)
      by false true o is f k = absurd cc
      by false false None is f k = absurd cc
      by false false (Some y) is f k =
          let same : (p ++ y.0, y.1) ≡ x = cc in
          let short = k y is in
          subst (λ (z : List Token × Piece). length z.0 ≤ length (joined (p ∷ ps))) same
          (omega (arith, short, length-append p y.0, length-append p (joined ps)))

front-short : (m : List Token) → front_size (form_of m) ≤ length m
front-short m =
    by (is_endless false (items_of m) || (is_block (items_of m) || begins_type (behind_words is_modifier (pieces_of
    m)))) (ends (is_sign_token (codes "}")) m) (before_parentheses (pieces_of m)) refl where
      named : (h : List Token × Piece) → length h.0 ≤ length m → (o : Option (List Token × Token)) → name_at_end h.0 ≡ o
          → front_size (elim o as (λ _. Form) [ None ↦ SkippedForm | (Some x) ↦ MethodForm x.0 x.1 h.1 ]) ≤ length m
      named h short None e = omega arith
      named h short (Some x) e = omega (arith, short, name-short h.0 x e)

      by : (c b : Bool) (o : Front) → before_parentheses (pieces_of m) ≡ o
          → front_size (cond c SkippedForm (form_by b o)) ≤ length m
      by true b o e = omega arith
      by false b None e = omega arith
      by false false (Some h) e = omega arith
      by false true (Some h) e =
          let all : length (joined (pieces_of m)) ≡ length m = ap (λ (l : List Token). length l) (joined_pieces m) in
          let short = parentheses-short (pieces_of m) h e in
          let fits : length h.0 ≤ length m = omega (arith, short, all) in
          named h fits (name_at_end h.0) refl

-- ---- methods

-- a method without a result has the name of the class
abbrev Constructed : List ℕ → Method → Type 0
Constructed class m = m.result ≡ NoResult → m.name ≡ class

abbrev is_none : Result → Bool
is_none NoResult = true
is_none _ = false

has-result : (class : List ℕ) (m : Method) → is_none m.result ≡ false → Constructed class m
has-result class m some is = absurd (let wrong : true ≡ false = sym (ap is_none is) ∙ some in cc)

decided-constructed : (class : List ℕ) (m : Method) → Decided (Constructed class m)
decided-constructed class m = by (decided-bytes m.name class) m.result refl where
  by : Decided (m.name ≡ class) → (r : Result) → m.result ≡ r → Decided (Constructed class m)
  by (inl e) r is = inl (λ none. e)
  by (inr other) NoResult is = inr (λ h. other (h is))
  by (inr other) VoidResult is = inl (has-result class m (ap is_none is))
  by (inr other) (TypeResult t) is = inl (has-result class m (ap is_none is))

abbrev AMember : List ℕ → List Token → Form → Type 0
AMember class m form = (x : Member) × HasForm class m form x

module _ (class : List ℕ) (m : List Token) (few : length m < most) (front : List Token) (name : Token)
    (parentheses : Piece) (short : length front < most) where
  outside : ((tree : Method) → IsMethod class m tree → ⊥) → AMember class m (MethodForm front name parentheses)
  outside none = of (any-outside class front name parentheses m short) where
    of : (head : OutsideHead) × IsOutside class front name parentheses m head
        → AMember class m (MethodForm front name parentheses)
    of h = (member.Outside h.0, (none, h.1))

  abbrev Tree : Method → Type 0
  Tree t =
      (tree : MethodTree) × (method_of tree ≡ t) × AreAt (method_marks tree) (kept m)
      × (tree.has_synchronized ≡ has_synchronized m) × (tree.tokens ≡ length m)

  inside-class : (t : Method) → IsMethod class m t → Tree t → AMember class m (MethodForm front name parentheses)
  inside-class t is h = (member.Method h.0, (subst (IsMethod class m) (sym h.1) is, h.2, h.3, h.4))

  method-read : (t : Method) → method_at method_readers MAX_NESTING (plain_all m) ≡ Some t
      → Decided (Constructed class t) → AMember class m (MethodForm front name parentheses)
  method-read t e (inl constructed) =
      let g = read_is_formed method_readers java_sound MAX_NESTING (plain_all m) t e in
      inside-class t
      (record { formed = g.formed; nested = g.small; spelled = sym g.spelled; constructed = constructed })
      (method-made m t few g.formed g.spelled)
  method-read t e (inr other) =
      outside (λ tree is.
      let same : tree ≡ t =
      only_one_read method_readers EndsTy EndsExpr java_finds java_sound MAX_NESTING (plain_all m) t tree e is.formed
      (sym is.spelled) in
      other (subst (Constructed class) same is.constructed))

  pub method-member : AMember class m (MethodForm front name parentheses)
  method-member = by (method_at method_readers MAX_NESTING (plain_all m)) refl where
    by : (o : Option Method) → method_at method_readers MAX_NESTING (plain_all m) ≡ o
        → AMember class m (MethodForm front name parentheses)
    by (Some t) e = method-read t e (decided-constructed class t)
    by None e =
        outside (λ tree is.
        none_read method_readers EndsTy EndsExpr java_finds MAX_NESTING (plain_all m) e tree is.formed is.nested
        (sym is.spelled))

-- ---- members

pub begins-at : (m : List Token) → Filled m → (p : Place) × BeginsAt m p
begins-at [] some = absurd some
begins-at (t ∷ ts) some = (t.place, refl)

field-member : (class : List ℕ) (m : List Token) → Filled m → Decided (SomeFields m) → AMember class m FieldForm
field-member class m some (inl f) = (member.Field f.0, f.1)
field-member class m some (inr none) =
    let p = begins-at m some in
    (member.Skipped p.0, (λ f is. none (f, is), p.1))

pub any-member : (class : List ℕ) (m : List Token) → Good most m → (x : Member) × IsMember class m x
any-member class m good = by (form_of m) (front-short m) where
  by : (form : Form) → front_size form ≤ length m → AMember class m form
  by SkippedForm short = let p = begins-at m good.0 in (member.Skipped p.0, p.1)
  by (MethodForm front name parentheses) short =
      let few : length front < most = omega (arith, short, good.1) in
      method-member class m good.1 front name parentheses few
  by FieldForm short = field-member class m good.0 (decided-fields m good.1)

pub any-members : (class : List ℕ) (ms : List (List Token)) → EachGood most ms
    → (xs : List Member) × AllZip (IsMember class) ms xs
any-members class [] good = ([], tt)
any-members class (m ∷ ms) good = of (any-member class m good.0) (any-members class ms good.1) where
  of : (x : Member) × IsMember class m x → (xs : List Member) × AllZip (IsMember class) ms xs
      → (xs : List Member) × AllZip (IsMember class) (m ∷ ms) xs
  of x xs = (x.0 ∷ xs.0, (x.1, xs.1))
