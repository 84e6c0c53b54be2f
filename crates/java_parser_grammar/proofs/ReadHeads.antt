-- Heads of classes: what is read is a head, and each head is read; so a type has one at most.
use Rattle.std.proofs.Common.{◌≡◌, ℕ, zero, suc, ◌-◌, ◌<◌, Bool, ◌||◌, ◌⊎◌, inl, inr, List, [], ◌∷◌, ◌++◌, length}
use Rattle.std.proofs.Common.{length-append, drop, true, Option, Some, None, IsTrue, codes, refl, ap, sym, ◌∙◌, subst}
use Rattle.std.proofs.Common.{arith}
use Rattle.std.proofs.lemmas.Bool.{and_parts}
use Rattle.std.proofs.lemmas.List.{length-map}
use Rattle.std.proofs.Math.Seq.{drop-append_seam}
use Rattle.racer_base.specs.Name.{is_listed}
use Rattle.java_lexer.specs.declared.token.Token.{Token}
use Rattle.java_tree.specs.declared.words.Spelled.{Spelled}
use Rattle.java_tree.specs.Trees.{Modifier, Word, Annotated}
use Rattle.java_tree.specs.Spelling.{modifier_onto, modifiers_onto}
use Rattle.java_tree.specs.FormedModifiers.{Each}
use Rattle.java_parser_grammar.specs.Taking.{◌>>=◌, match_option}
use Rattle.java_parser_grammar.specs.Declarations.{type_modifiers}
use Rattle.java_parser_grammar.specs.Tokens.{plain, plain_all, is_sign_token, is_word_token, is_name}
use Rattle.java_parser_grammar.specs.ClassHeads.{FormedTypeModifier, IsHead, HasNoHead}
use Rattle.java_parser_grammar.specs.ClassHeadReading.{modifier_at, type_modifiers_at, is_class, name_behind_class}
use Rattle.java_parser_grammar.specs.ClassHeadReading.{class_head}
use Rattle.java_parser_grammar.proofs.Annotations.{EndsAnnotation, modifiers_end, modifiers_fit}
use Rattle.java_parser_grammar.proofs.Appended.{modifiers_append}
use Rattle.java_parser_grammar.proofs.Ensuring.{Ensures, then_ensures, if_ensures, weaker, of_equation, keyword_is}
use Rattle.java_parser_grammar.proofs.OneModifier.{IsOneOf, Got, modifier_sound, modifier_found}
use Rattle.java_parser_grammar.proofs.SoundTokens.{Taken}

abbrev is_word : List ℕ → Bool
is_word text = is_listed type_modifiers text

-- ---- modifiers

formed_one : (m : Modifier) → IsOneOf is_word m → FormedTypeModifier m
formed_one (Word text) h = h
formed_one (Annotated n) h = h

one_formed : (m : Modifier) → FormedTypeModifier m → IsOneOf is_word m
one_formed (Word text) h = h
one_formed (Annotated n) h = h

abbrev AreTaken : List Spelled → List Modifier × List Spelled → Type 0
AreTaken ts = Taken (Each FormedTypeModifier) modifiers_onto ts

first_sound : (m : ℕ) (ts : List Spelled) (o : Option (Modifier × List Spelled)) → Got is_word ts o
    → ((r : List Spelled) → Ensures (AreTaken r) (type_modifiers_at m r))
    → Ensures (AreTaken ts) (match_option o (Some ([], ts)) (λ x. type_modifiers_at m x.1 >>= λ others.
    Some (x.0 ∷ others.0, others.1)))
first_sound m ts None g more = record { formed = tt; spelled = refl }
first_sound m ts (Some x) g more =
    then_ensures (AreTaken x.1) (AreTaken ts) (type_modifiers_at m x.1) _ (more x.1) (λ others h. record {
      formed = (formed_one x.0 g.0, h.formed);
      spelled = g.1 ∙ ap (modifier_onto x.0) h.spelled;
    })

modifiers_sound : (m : ℕ) (ts : List Spelled) → Ensures (AreTaken ts) (type_modifiers_at m ts)
unfolding type_modifiers_at
modifiers_sound zero ts = tt
modifiers_sound (suc m) ts =
    then_ensures (Got is_word ts) (AreTaken ts) (modifier_at is_word ts) _ (modifier_sound is_word ts)
    (λ o g. first_sound m ts o g (modifiers_sound m))

modifiers_found : (ms : List Modifier) (m : ℕ) (rest : List Spelled) → Each FormedTypeModifier ms
    → EndsAnnotation rest → modifier_at is_word rest ≡ Some None → length ms < m
    → type_modifiers_at m (modifiers_onto ms rest) ≡ Some (ms, rest)
unfolding type_modifiers_at
modifiers_found ms zero rest f e ends room = absurd (omega (arith, room))
modifiers_found [] (suc m) rest f e ends room = rw ends refl
modifiers_found (x ∷ ms) (suc m) rest f e ends room =
    rw (
      modifier_found is_word x (modifiers_onto ms rest) (one_formed x f.0) (modifiers_end ms rest e),
      modifiers_found ms m rest f.1 e ends (omega (arith, room)),
    ) refl

-- ---- tokens and what they spell

record IsCut (type : List Token) (xs ys : List Spelled) : Type 0 where
  pub front : List Token
  pub behind : List Token
  pub parts : type ≡ front ++ behind
  pub first : plain_all front ≡ xs
  pub last : plain_all behind ≡ ys

cut_at : (type : List Token) (xs ys : List Spelled) → plain_all type ≡ xs ++ ys → IsCut type xs ys
cut_at type [] ys e = record { front = []; behind = type; parts = refl; first = refl; last = e }
cut_at [] (x ∷ xs) ys e = absurd cc
cut_at (t ∷ ts) (x ∷ xs) ys e =
    let one : plain t ≡ x = cc in
    let others : plain_all ts ≡ xs ++ ys = cc in
    let k = cut_at ts xs ys others in
    record {
      front = t ∷ k.front;
      behind = k.behind;
      parts = ap (λ (l : List Token). t ∷ l) k.parts;
      first = ap (λ (l : List Spelled). plain t ∷ l) k.first ∙ ap (λ (s : Spelled). s ∷ xs) one;
      last = k.last;
    }

plain_size : (ts : List Token) → length (plain_all ts) ≡ length ts
plain_size ts = length-map ts plain

plain_front : (front behind : List Token) → plain_all (front ++ behind) ≡ plain_all front ++ plain_all behind
plain_front [] behind = refl
plain_front (t ∷ ts) behind = ap (λ (l : List Spelled). plain t ∷ l) (plain_front ts behind)

-- what is left at the end of a type
left_behind : (type front behind : List Token) (left : List Spelled) → type ≡ front ++ behind
    → plain_all behind ≡ left → drop (length type - length left) type ≡ behind
left_behind type front behind left parts last =
    let before : length type - length left ≡ length front =
    omega (
      arith,
      ap (λ (l : List Token). length l) parts,
      length-append front behind,
      plain_size behind,
      ap (λ (l : List Spelled). length l) last,
    ) in
    ap (λ (n : ℕ). drop n type) before ∙ ap (λ (l : List Token). drop (length front) l) parts
    ∙ drop-append_seam front behind

-- ---- what is read is a head

record BeginsClass (ts : List Token) (name : Token) : Type 0 where
  pub word : Token
  pub next : Token
  pub rest : List Token
  pub is : ts ≡ word ∷ name ∷ next ∷ rest
  pub class : IsTrue (is_word_token (codes "class") word)
  pub named : IsTrue (is_name name)
  pub behind : IsTrue (is_sign_token (codes "{") next || is_word_token (codes "implements") next)

class_begun : (word name next : Token) (ts : List Token) → is_class word name next ≡ true
    → BeginsClass (word ∷ name ∷ next ∷ ts) name
class_begun word name next ts h =
    let goes_on = is_sign_token (codes "{") next || is_word_token (codes "implements") next in
    let others = (and_parts (is_word_token (codes "class") word) _ h).1 in
    record {
      word = word;
      next = next;
      rest = ts;
      is = refl;
      class = (and_parts (is_word_token (codes "class") word) _ h).0;
      named = (and_parts (is_name name) goes_on others).0;
      behind = (and_parts (is_name name) goes_on others).1;
    }

name_sound : (ts : List Token) → Ensures (BeginsClass ts) (name_behind_class ts)
name_sound [] = tt
name_sound (word ∷ []) = tt
name_sound (word ∷ name ∷ []) = tt
name_sound (word ∷ name ∷ next ∷ ts) =
    if_ensures (BeginsClass (word ∷ name ∷ next ∷ ts)) (is_class word name next) (Some name) None
    (class_begun word name next ts) (λ h. tt)

abbrev Head : Type 0
Head = List Modifier × Token

abbrev IsHeadOf : List Token → Head → Type 0
IsHeadOf type head = IsHead type head.0 head.1

module _ (type : List Token) where
  named_sound : (front : List Modifier × List Spelled) → AreTaken (plain_all type) front
      → Ensures (λ (name : Token). IsHead type front.0 name)
      (name_behind_class (drop (length type - length front.1) type))
  named_sound front g =
      let k = cut_at type (modifiers_onto front.0 []) front.1 (g.spelled ∙ modifiers_append front.0 [] front.1) in
      subst (λ (l : List Token). Ensures (λ (name : Token). IsHead type front.0 name) (name_behind_class l))
      (sym (left_behind type k.front k.behind front.1 k.parts k.last)) (of k) where
        begun : (k : IsCut type (modifiers_onto front.0 []) front.1) (name : Token) → BeginsClass k.behind name
            → IsHead type front.0 name
        begun k name b = record {
          front = k.front;
          word = b.word;
          next = b.next;
          rest = b.rest;
          parts = k.parts ∙ ap (λ (l : List Token). k.front ++ l) b.is;
          formed = g.formed;
          spelled = sym k.first;
          class = b.class;
          named = b.named;
          behind = b.behind;
        }

        of : (k : IsCut type (modifiers_onto front.0 []) front.1)
            → Ensures (λ (name : Token). IsHead type front.0 name) (name_behind_class k.behind)
        of k = weaker (BeginsClass k.behind) (λ (name : Token). IsHead type front.0 name) (name_behind_class k.behind)
            (begun k) (name_sound k.behind)

  heads_sound : Ensures (IsHeadOf type) (class_head type)
  heads_sound =
      then_ensures (AreTaken (plain_all type)) (IsHeadOf type) (type_modifiers_at (length type) (plain_all type)) _
      (modifiers_sound (length type) (plain_all type))
      (λ front g. then_ensures (λ (name : Token). IsHead type front.0 name) (IsHeadOf type)
      (name_behind_class (drop (length type - length front.1) type)) _ (named_sound front g) (λ name h. h))

pub head_sound : (type : List Token) (ms : List Modifier) (name : Token) → class_head type ≡ Some (ms, name)
    → IsHead type ms name
head_sound type ms name e = of_equation (IsHeadOf type) (class_head type) (ms, name) (heads_sound type) e

-- ---- a head is read

ends_class : (word : Token) (ts : List Token) → IsTrue (is_word_token (codes "class") word)
    → EndsAnnotation (plain_all (word ∷ ts)) × (modifier_at is_word (plain_all (word ∷ ts)) ≡ Some None)
ends_class word ts h =
    subst (λ (s : Spelled). EndsAnnotation (s ∷ plain_all ts) × (modifier_at is_word (s ∷ plain_all ts) ≡ Some None))
    (sym (keyword_is (codes "class") (plain word) h)) (record { no_point = refl; no_open = refl }, refl)

module _ (type : List Token) (ms : List Modifier) (name : Token) (h : IsHead type ms name) where
  abbrev behind : List Token
  behind = h.word ∷ name ∷ h.next ∷ h.rest

  spells : plain_all type ≡ modifiers_onto ms (plain_all behind)
  spells = ap (λ (l : List Token). plain_all l) h.parts ∙ plain_front h.front behind
      ∙ ap (λ (l : List Spelled). l ++ plain_all behind) (sym h.spelled)
      ∙ sym (modifiers_append ms [] (plain_all behind))

  room : length ms < length type
  room =
      let size : length type ≡ length (modifiers_onto ms (plain_all behind)) =
      sym (plain_size type) ∙ ap (λ (l : List Spelled). length l) spells in
      omega (arith, size, modifiers_fit ms (plain_all behind))

  modifiers_read : type_modifiers_at (length type) (plain_all type) ≡ Some (ms, plain_all behind)
  modifiers_read =
      let ends = ends_class h.word (name ∷ h.next ∷ h.rest) h.class in
      ap (type_modifiers_at (length type)) spells
      ∙ modifiers_found ms (length type) (plain_all behind) h.formed ends.0 ends.1 room

  name_read : name_behind_class behind ≡ Some name
  name_read = rw (h.class, h.named, h.behind) refl

  pub head_complete : class_head type ≡ Some (ms, name)
  head_complete =
      rw (modifiers_read, left_behind type h.front behind (plain_all behind) h.parts refl, name_read) refl

-- ---- a head or none

abbrev modifiers_of : Option Head → List Modifier
modifiers_of None = []
modifiers_of (Some head) = head.0

abbrev name_of : Token → Option Head → Token
name_of other None = other
name_of other (Some head) = head.1

-- the modifiers of a type that has a head, and its name, are these alone
pub one_head : (type : List Token) (ms ns : List Modifier) (name other : Token) → IsHead type ms name
    → IsHead type ns other → (ms ≡ ns) × (name ≡ other)
one_head type ms ns name other h k =
    let same = sym (head_complete type ms name h) ∙ head_complete type ns other k in
    (ap modifiers_of same, ap (name_of name) same)

pub no_head : (type : List Token) → class_head type ≡ None → HasNoHead type
no_head type e ms name h = let there = head_complete type ms name h in absurd cc

pub head_or_none : (type : List Token) → ((ms : List Modifier) × (name : Token) × IsHead type ms name) ⊎ HasNoHead type
head_or_none type = by (class_head type) refl where
  by : (o : Option Head) → class_head type ≡ o
      → ((ms : List Modifier) × (name : Token) × IsHead type ms name) ⊎ HasNoHead type
  by None e = inr (no_head type e)
  by (Some head) e = inl (head.0, head.1, head_sound type head.0 head.1 e)
