-- A type of the code is made of the tokens of a formed type.
use Rattle.std.proofs.Common.{◌≡◌, ℕ, ◌<◌, Bool, true, false, IsTrue, List, [], ◌∷◌, ◌++◌, Some}
use Rattle.std.proofs.Common.{None, map}
use Rattle.std.proofs.Common.{◌||◌, inl, inr, length, refl, sym, ap, subst, ◌∙◌, arith, rules, codes}
use Rattle.std.proofs.lemmas.Bool.{false≢true, or_cases}
use Rattle.std.specs.Prelude.{bytes_eq}
use Rattle.std.specs.Cmp.Lexicographic.{bytes_decides}
use Rattle.std.proofs.lemmas.List.{append_assoc}
use Rattle.racer_base.specs.declared.ids.Place.{Place}
use Rattle.java_lexer.specs.declared.token.TokenKind.TheVariants as kind
use Rattle.java_tree.specs.declared.words.Ident.{Ident}
use Rattle.java_tree.specs.declared.types.TypeTree.{TypeTree, roll-TypeTree}
use Rattle.java_tree.specs.declared.types.BaseType.{BaseType, roll-BaseType}
use Rattle.java_tree.specs.declared.types.TypePart.{TypePart, roll-TypePart}
use Rattle.java_tree.specs.declared.types.TypeArguments.{TypeArguments, roll-TypeArguments}
use Rattle.java_tree.specs.declared.types.TypeArgument.{TypeArgument, roll-TypeArgument}
use Rattle.java_tree.specs.declared.types.BaseType.TheOpen as type
use Rattle.java_tree.specs.declared.types.BaseType.TheFolds.{the_lemmas}
use Rattle.java_tree.specs.declared.words.Spelled.{Spelled}
use Rattle.java_tree.specs.KeptPlaces.{Places, is_kept, all_places, ty_places, base_places, part_places}
use Rattle.java_tree.specs.KeptPlaces.{angled_places, argument_places}
use Rattle.java_tree.specs.Trees.{Ty, Typed, Base, Plain, Named, Parts, no_part, part_then, Part, Bare, Generic}
use Rattle.java_tree.specs.Trees.{Arguments, Angled, ArgumentList, no_argument, argument_then, Argument, Exact, Any}
use Rattle.java_tree.specs.Trees.{Extends, Super, pack_parts, pack_arguments}
use Rattle.java_tree.specs.Spelling.{ty_onto, base_onto, more_parts_onto, part_onto, angled_onto, arguments_onto}
use Rattle.java_tree.specs.Spelling.{more_arguments_onto, argument_onto}
use Rattle.java_tree.specs.Formed.{FormedTy, FormedBase, FormedParts, FormedArguments, FormedArgument}
use Rattle.java_tree.specs.Formed.{FormedLastPart, FormedClass, FormedClassParts, FormedLiteral, is_plain_word}
use Rattle.java_tree.specs.Formed.{has_part}
use Rattle.java_tree.specs.Formed.{are_bare_parts}
use Rattle.java_tree.specs.View.{ty_of, base_of, part_of, angled_of, argument_of, name_of}
use Rattle.java_tree.proofs.KeptWords.{plain-unkept}
use Rattle.java_parser_totality.specs.Totality.{most}
use Rattle.java_parser_totality.proofs.Parts as parts
use Rattle.java_parser_totality.proofs.Parts.{Made, Makes, Maker, maker, nothing, nothing-made, and, IsAs, as-made}
use Rattle.java_parser_totality.proofs.PartTokens as tokens
use Rattle.java_parser_totality.proofs.PartTokens.{some_brackets}
use Rattle.java_parser_totality.proofs.Vectors.{vector, vector-items}
use Rattle.java_parser_grammar.proofs.FoundMadeTypes.{last_part}

-- places that are the same
abbrev pub Same : Places → Places → Type 0
Same ps qs = ps ≡ qs

abbrev pub put_place : Place → Places → Places
put_place p ps = p ∷ ps

pub puts-place : (p : Place) (ps qs : Places) → Same ps qs → Same (put_place p ps) (p ∷ qs)
puts-place p ps qs e = ap (λ (l : Places). p ∷ l) e

abbrev pub Plain-Part : Type 1
Plain-Part = parts.Part Places

-- ---- words

abbrev pub a_sign : (text : List ℕ) → Maker Same
a_sign text = tokens.a_sign Same text

abbrev pub a_glued : (glued : Bool) (text : List ℕ) → Maker Same
a_glued glued text = tokens.a_glued Same glued text

abbrev pub a_keyword : (text : List ℕ) → is_kept kind.Keyword text ≡ false → Maker Same
a_keyword text unkept = tokens.a_keyword Same text unkept

abbrev pub a_name : (x : List ℕ) → Maker Same
a_name x = tokens.a_name Same put_place puts-place x

not-this : (text other : List ℕ) → is_plain_word text ≡ true → is_plain_word other ≡ false
    → bytes_eq text other ≡ false
not-this text other plain differs = by (bytes_eq text other) refl where
  by : (b : Bool) → bytes_eq text other ≡ b → b ≡ false
  by true e = absurd (let wrong : false ≡ true = sym differs
      ∙ ap is_plain_word (sym ((bytes_decides text other).0 e)) ∙ plain in cc)
  by false e = refl

-- ---- types

abbrev pub ty_part : Ty → Plain-Part
ty_part t =
    record { X = TypeTree; ok = λ x. ty_of x ≡ t; put = λ x ps. ty_places x ++ ps; size = λ _. 1; onto = ty_onto t }

abbrev base_part : Base → Plain-Part
base_part t =
    record {
      X = BaseType;
      ok = λ x. base_of x ≡ t;
      put = λ x ps. base_places x ++ ps;
      size = λ _. 1;
      onto = base_onto t;
    }

abbrev parts_part : (onto : List Spelled → List Spelled) → Parts → Plain-Part
parts_part onto t =
    record {
      X = List TypePart;
      ok = λ xs. pack_parts (map part_of xs) ≡ t;
      put = λ xs ps. all_places (map part_places xs) ++ ps;
      size = λ xs. length xs;
      onto = onto;
    }

abbrev part_part : Part → Plain-Part
part_part t =
    record {
      X = TypePart;
      ok = λ x. part_of x ≡ t;
      put = λ x ps. part_places x ++ ps;
      size = λ _. 1;
      onto = part_onto t;
    }

abbrev angled_part : Arguments → Plain-Part
angled_part t =
    record {
      X = TypeArguments;
      ok = λ x. angled_of x ≡ t;
      put = λ x ps. angled_places x ++ ps;
      size = λ _. 1;
      onto = angled_onto t;
    }

abbrev arguments_part : (onto : List Spelled → List Spelled) → ArgumentList → Plain-Part
arguments_part onto t =
    record {
      X = List TypeArgument;
      ok = λ xs. pack_arguments (map argument_of xs) ≡ t;
      put = λ xs ps. all_places (map argument_places xs) ++ ps;
      size = λ xs. length xs;
      onto = onto;
    }

abbrev argument_part : Argument → Plain-Part
argument_part t =
    record {
      X = TypeArgument;
      ok = λ x. argument_of x ≡ t;
      put = λ x ps. argument_places x ++ ps;
      size = λ _. 1;
      onto = argument_onto t;
    }

-- each of the parts of a type, or of one that is made, may be the last of one that is made
abbrev pub EachLast : Parts → Type 0
EachLast no_part = Unit {0}
EachLast (part_then p ps) = FormedLastPart p × EachLast ps

abbrev InAngles : Arguments → Type 0
InAngles (Angled list glued) = FormedArguments list

pub each-last : (ps : Parts) → FormedParts ps → EachLast ps
each-last no_part f = tt
each-last (part_then p ps) f = (last_part p f.0, each-last ps f.1)

pub class-last : (ps : Parts) → FormedClassParts ps → EachLast ps
class-last no_part f = tt
class-last (part_then p no_part) f = (f, tt)
class-last (part_then p (part_then q ps)) f = (last_part p f.0, class-last (part_then q ps) f.1)

-- ---- forms

abbrev named_base : TypePart × List TypePart → BaseType
named_base x = roll-BaseType (type.Named (vector (x.0 ∷ x.1)))

named_base-is : (p : TypePart) (ps : List TypePart) → length (p ∷ ps) < most
    → base_of (named_base (p, ps)) ≡ Named (part_then (part_of p) (pack_parts (map part_of ps)))
named_base-is p ps s =
    let seen : base_of (named_base (p, ps)) ≡ Named (pack_parts (map part_of (vector (p ∷ ps)).items)) =
    search (rules, the_lemmas) in
    seen ∙ ap (λ l. Named (pack_parts (map part_of l))) (vector-items (p ∷ ps) s)

named-at : (p : TypePart) (ps : List TypePart) → length (p ∷ ps) < most
    → base_places (named_base (p, ps)) ≡ part_places p ++ all_places (map part_places ps)
named-at p ps s =
    let at : base_places (named_base (p, ps)) ≡ all_places (map part_places (vector (p ∷ ps)).items) =
    search (rules, the_lemmas) in
    at ∙ ap (λ l. all_places (map part_places l)) (vector-items (p ∷ ps) s)

abbrev bare : Ident → TypePart
bare x = roll-TypePart (record { name = x; arguments = None })

abbrev generic : Ident × TypeArguments → TypePart
generic x = roll-TypePart (record { name = x.0; arguments = Some x.1 })

bare-is : (x : Ident) → part_of (bare x) ≡ Bare (name_of x)
bare-is x = search (rules, the_lemmas)

bare-at : (x : Ident) → part_places (bare x) ≡ x.place ∷ []
bare-at x = search (rules, the_lemmas)

generic-is : (x : Ident) (a : TypeArguments) → part_of (generic (x, a)) ≡ Generic (name_of x) (angled_of a)
generic-is x a = search (rules, the_lemmas)

generic-at : (x : Ident) (a : TypeArguments) → part_places (generic (x, a)) ≡ x.place ∷ angled_places a
generic-at x a = search (rules, the_lemmas)

abbrev angled : Bool → List TypeArgument → TypeArguments
angled glued xs = roll-TypeArguments (record { items = vector xs; glued = glued })

angled-is : (glued : Bool) (xs : List TypeArgument) → length xs < most
    → angled_of (angled glued xs) ≡ Angled (pack_arguments (map argument_of xs)) glued
angled-is glued xs s =
    let seen : angled_of (angled glued xs) ≡ Angled (pack_arguments (map argument_of (vector xs).items)) glued =
    search (rules, the_lemmas) in
    seen ∙ ap (λ l. Angled (pack_arguments (map argument_of l)) glued) (vector-items xs s)

angled-at : (glued : Bool) (xs : List TypeArgument) → length xs < most
    → angled_places (angled glued xs) ≡ all_places (map argument_places xs)
angled-at glued xs s =
    let at : angled_places (angled glued xs) ≡ all_places (map argument_places (vector xs).items) =
    search (rules, the_lemmas) in
    at ∙ ap (λ l. all_places (map argument_places l)) (vector-items xs s)

any-is : argument_of (roll-TypeArgument type.Any) ≡ Any
any-is = search (rules, the_lemmas)

any-at : argument_places (roll-TypeArgument type.Any) ≡ []
any-at = search (rules, the_lemmas)

exact-is : (t : TypeTree) → argument_of (roll-TypeArgument (type.Exact t)) ≡ Exact (ty_of t)
exact-is t = search (rules, the_lemmas)

exact-at : (t : TypeTree) → argument_places (roll-TypeArgument (type.Exact t)) ≡ ty_places t
exact-at t = search (rules, the_lemmas)

extends-is : (t : TypeTree) → argument_of (roll-TypeArgument (type.Extends t)) ≡ Extends (ty_of t)
extends-is t = search (rules, the_lemmas)

extends-at : (t : TypeTree) → argument_places (roll-TypeArgument (type.Extends t)) ≡ ty_places t
extends-at t = search (rules, the_lemmas)

super-is : (t : TypeTree) → argument_of (roll-TypeArgument (type.Super t)) ≡ Super (ty_of t)
super-is t = search (rules, the_lemmas)

super-at : (t : TypeTree) → argument_places (roll-TypeArgument (type.Super t)) ≡ ty_places t
super-at t = search (rules, the_lemmas)

-- what may stand before `[ ]`, also where it is made
abbrev pub FitsBase : Base → Type 0
FitsBase (Plain text) = IsTrue (is_plain_word text)
FitsBase (Named ps) = EachLast ps × IsTrue (has_part ps)

fits-base : (b : Base) → FormedBase b → FitsBase b
fits-base (Plain text) f = f
fits-base (Named ps) f = (each-last ps f.0, f.1)

typed-made : (base : Base) (arrays : ℕ) → Makes Same (base_part base) → Makes Same (ty_part (Typed base arrays))
typed-made base arrays m =
    as-made Same (and Same (maker Same (base_part base) m) (some_brackets Same arrays))
    (ty_part (Typed base arrays)) (λ x. roll-TypeTree (record { base = x.0; arrays = arrays })) (record {
      ok = λ x s h.
          let seen : ty_of (roll-TypeTree (record { base = x.0; arrays = arrays })) ≡ Typed (base_of x.0) arrays =
          search (rules, the_lemmas) in
          seen ∙ ap (λ b. Typed b arrays) h.0;
      put = λ x s ps.
          let at : ty_places (roll-TypeTree (record { base = x.0; arrays = arrays })) ≡ base_places x.0 =
          search (rules, the_lemmas) in
          ap (λ l. l ++ ps) at;
      size = λ x. omega arith;
      onto = λ rest. refl;
    })

plain-made : (text : List ℕ) → is_kept kind.Keyword text ≡ false → Makes Same (base_part (Plain text))
plain-made text unkept =
    as-made Same (a_keyword text unkept) (base_part (Plain text)) (λ x. roll-BaseType (type.Plain text))
    (record {
      ok = λ x s h. search (rules, the_lemmas);
      put = λ x s ps.
          let at : base_places (roll-BaseType (type.Plain text)) ≡ [] = search (rules, the_lemmas) in
          ap (λ l. l ++ ps) at;
      size = λ x. omega arith;
      onto = λ rest. refl;
    })

mutual
  pub ty-made : (t : Ty) → FormedTy t → Makes Same (ty_part t)
  ty-made (Typed base arrays) f = typed-made base arrays (base-made base (fits-base base f))

  base-made : (b : Base) → FitsBase b → Makes Same (base_part b)
  base-made (Plain text) f = plain-made text (plain-unkept text f)
  base-made (Named no_part) f = absurd (let wrong : false ≡ true = f.1 in cc)
  base-made (Named (part_then p ps)) f =
      as-made Same (and Same (maker Same (part_part p) (part-made p f.0.0)) (maker Same (parts_part
      (more_parts_onto ps) ps) (more-parts-made ps f.0.1))) (base_part (Named (part_then p ps)))
      named_base (record {
        ok = λ x s h. named_base-is x.0 x.1 (omega (arith, s))
            ∙ ap Named (ap (λ q. part_then q (pack_parts (map part_of x.1))) h.0
            ∙ ap (part_then p) h.1);
        put = λ x s ps. ap (λ l. l ++ ps) (named-at x.0 x.1 (omega (arith, s))) ∙ append_assoc (part_places x.0) _ ps;
        size = λ x. omega arith;
        onto = λ rest. refl;
      })

  more-parts-made : (ps : Parts) → EachLast ps → Makes Same (parts_part (more_parts_onto ps) ps)
  more-parts-made no_part f = as-made Same (maker Same (nothing Same) (nothing-made Same)) (parts_part
      (more_parts_onto no_part) no_part)
      (λ x. []) (record { ok = λ x s h. refl; put = λ x s ps. refl; size = λ x. omega arith; onto = λ rest. refl })
  more-parts-made (part_then p ps) f =
      as-made Same (and Same (a_sign (codes ".")) (and Same (maker Same (part_part p) (part-made p f.0)) (maker Same
      (parts_part (more_parts_onto ps) ps) (more-parts-made ps f.1)))) (parts_part (more_parts_onto (part_then p ps))
      (part_then p ps)) (λ x. x.1.0 ∷ x.1.1) (record {
        ok = λ x s h. ap (λ q. part_then q (pack_parts (map part_of x.1.1))) h.1.0 ∙ ap (part_then p) h.1.1;
        put = λ x s ps. append_assoc (part_places x.1.0) _ ps;
        size = λ x. omega arith;
        onto = λ rest. refl;
      })

  part-made : (p : Part) → FormedLastPart p → Makes Same (part_part p)
  part-made (Bare x) f =
      as-made Same (a_name x) (part_part (Bare x)) bare (record {
        ok = λ i s h. bare-is i ∙ ap Bare h;
        put = λ i s ps. ap (λ l. l ++ ps) (bare-at i);
        size = λ i. omega arith;
        onto = λ rest. refl;
      })
  part-made (Generic x (Angled list glued)) f =
      as-made Same (and Same (a_name x) (maker Same (angled_part (Angled list glued)) (angled-made
      (Angled list glued) f)))
      (part_part (Generic x (Angled list glued))) generic (record {
        ok = λ i s h. generic-is i.0 i.1 ∙ ap (λ n. Generic n (angled_of i.1)) h.0 ∙ ap (Generic x) h.1;
        put = λ i s ps. ap (λ l. l ++ ps) (generic-at i.0 i.1);
        size = λ i. omega arith;
        onto = λ rest. refl;
      })

  angled-made : (a : Arguments) → InAngles a → Makes Same (angled_part a)
  angled-made (Angled list glued) f =
      as-made Same (and Same (a_sign (codes "<")) (and Same (maker Same (arguments_part (arguments_onto list) list)
      (arguments-made list f)) (a_glued glued (codes ">")))) (angled_part (Angled list glued))
      (λ x. angled glued x.1.0) (record {
        ok = λ x s h. angled-is glued x.1.0 (omega (arith, s)) ∙ ap (λ l. Angled l glued) h.1.0;
        put = λ x s ps. ap (λ l. l ++ ps) (angled-at glued x.1.0 (omega (arith, s)));
        size = λ x. omega arith;
        onto = λ rest. refl;
      })

  arguments-made : (list : ArgumentList) → FormedArguments list → Makes Same (arguments_part (arguments_onto list) list)
  arguments-made no_argument f = as-made Same (maker Same (nothing Same) (nothing-made Same)) (arguments_part
      (arguments_onto no_argument) no_argument)
      (λ x. []) (record { ok = λ x s h. refl; put = λ x s ps. refl; size = λ x. omega arith; onto = λ rest. refl })
  arguments-made (argument_then a l) f =
      as-made Same (and Same (maker Same (argument_part a) (argument-made a f.0)) (maker Same (arguments_part
      (more_arguments_onto l) l) (more-arguments-made l f.1))) (arguments_part (arguments_onto (argument_then a l))
      (argument_then a l)) (λ x. x.0 ∷ x.1) (record {
        ok = λ x s h. ap (λ q. argument_then q (pack_arguments (map argument_of x.1))) h.0 ∙ ap (argument_then a) h.1;
        put = λ x s ps. append_assoc (argument_places x.0) _ ps;
        size = λ x. omega arith;
        onto = λ rest. refl;
      })

  more-arguments-made : (list : ArgumentList) → FormedArguments list
      → Makes Same (arguments_part (more_arguments_onto list) list)
  more-arguments-made no_argument f = as-made Same (maker Same (nothing Same) (nothing-made Same)) (arguments_part
      (more_arguments_onto no_argument)
      no_argument) (λ x. [])
      (record { ok = λ x s h. refl; put = λ x s ps. refl; size = λ x. omega arith; onto = λ rest. refl })
  more-arguments-made (argument_then a l) f =
      as-made Same (and Same (a_sign (codes ",")) (and Same (maker Same (argument_part a) (argument-made a f.0))
      (maker Same
      (arguments_part (more_arguments_onto l) l) (more-arguments-made l f.1)))) (arguments_part
      (more_arguments_onto (argument_then a l)) (argument_then a l)) (λ x. x.1.0 ∷ x.1.1) (record {
        ok = λ x s h.
            ap (λ q. argument_then q (pack_arguments (map argument_of x.1.1))) h.1.0 ∙ ap (argument_then a) h.1.1;
        put = λ x s ps. append_assoc (argument_places x.1.0) _ ps;
        size = λ x. omega arith;
        onto = λ rest. refl;
      })

  argument-made : (a : Argument) → FormedArgument a → Makes Same (argument_part a)
  argument-made (Exact t) f =
      as-made Same (maker Same (ty_part t) (ty-made t f)) (argument_part (Exact t)) (λ x. roll-TypeArgument
      (type.Exact x))
      (record {
        ok = λ x s h. exact-is x ∙ ap Exact h;
        put = λ x s ps. ap (λ l. l ++ ps) (exact-at x);
        size = λ x. omega arith;
        onto = λ rest. refl;
      })
  argument-made Any f =
      as-made Same (a_sign (codes "?")) (argument_part Any) (λ x. roll-TypeArgument type.Any) (record {
        ok = λ x s h. any-is;
        put = λ x s ps. ap (λ l. l ++ ps) any-at;
        size = λ x. omega arith;
        onto = λ rest. refl;
      })
  argument-made (Extends t) f =
      as-made Same (and Same (a_sign (codes "?")) (and Same (a_keyword (codes "extends") refl) (maker Same (ty_part t)
      (ty-made t f)))) (argument_part (Extends t)) (λ x. roll-TypeArgument (type.Extends x.1.1)) (record {
        ok = λ x s h. extends-is x.1.1 ∙ ap Extends h.1.1;
        put = λ x s ps. ap (λ l. l ++ ps) (extends-at x.1.1);
        size = λ x. omega arith;
        onto = λ rest. refl;
      })
  argument-made (Super t) f =
      as-made Same (and Same (a_sign (codes "?")) (and Same (a_keyword (codes "super") refl) (maker Same (ty_part t)
      (ty-made t f)))) (argument_part (Super t)) (λ x. roll-TypeArgument (type.Super x.1.1)) (record {
        ok = λ x s h. super-is x.1.1 ∙ ap Super h.1.1;
        put = λ x s ps. ap (λ l. l ++ ps) (super-at x.1.1);
        size = λ x. omega arith;
        onto = λ rest. refl;
      })

-- the class that a `new` makes an object of
pub class-made : (t : Ty) → FormedClass t → Makes Same (ty_part t)
class-made (Typed (Plain text) arrays) f = absurd f
class-made (Typed (Named ps) arrays) f = typed-made (Named ps) arrays (base-made (Named ps) (class-last ps f.0, f.1))

abbrev pub a_type : (t : Ty) → FormedTy t → Maker Same
a_type t f = maker Same (ty_part t) (ty-made t f)

-- a type before `.class`
bare-last : (ps : Parts) → IsTrue (are_bare_parts ps) → EachLast ps
bare-last no_part f = tt
bare-last (part_then (Bare x) ps) f = (tt, bare-last ps f)
bare-last (part_then (Generic x a) ps) f = absurd (false≢true f)

unkept-word : (text : List ℕ) → (is_plain_word text || bytes_eq text (codes "void")) ≡ true
    → is_kept kind.Keyword text ≡ false
unkept-word text w = elim (or_cases (is_plain_word text) (bytes_eq text (codes "void")) w) [
  | inl e ↦ plain-unkept text e
  | inr e ↦ subst (λ word. is_kept kind.Keyword word ≡ false) (sym ((bytes_decides text (codes "void")).0 e)) refl
]

pub literal-made : (t : Ty) → FormedLiteral t → Makes Same (ty_part t)
literal-made (Typed (Plain text) n) f = typed-made (Plain text) n (plain-made text (unkept-word text f))
literal-made (Typed (Named ps) n) f = typed-made (Named ps) n (base-made (Named ps) (bare-last ps f.0, f.1))
