-- Parts whose marks are kept: words, names, tokens that are kept as they stand, annotations, modifiers and types.
use Rattle.std.proofs.Common.{◌≡◌, ℕ, Bool, true, false, cond, List, [], ◌∷◌, ◌++◌, Some, None, map}
use Rattle.std.proofs.Common.{length, refl, sym, ap, ◌∙◌, subst, arith, codes}
use Rattle.racer_base.specs.declared.ids.Place.{Place}
use Rattle.java_lexer.specs.declared.token.TokenKind.TheVariants as kind
use Rattle.java_lexer.specs.declared.token.Token.{Token}
use Rattle.java_tree.specs.declared.words.Spelled.{Spelled}
use Rattle.java_tree.specs.declared.types.TypeTree.{TypeTree}
use Rattle.java_tree.specs.declared.methods.AnnotationTree.{AnnotationTree}
use Rattle.java_tree.specs.declared.methods.ModifierTree.{ModifierTree}
use Rattle.java_tree.specs.declared.methods.ModifierTree.TheVariants as modifier
use Rattle.java_tree.specs.Words.{sign, keyword, identifier}
use Rattle.java_tree.specs.KeptPlaces.{Places, is_kept, kept, all_places, ty_places, types_places}
use Rattle.java_tree.specs.KeptPlaces.{Marks, some_onto, each_marks, no_place, no_name, annotation_marks}
use Rattle.java_tree.specs.KeptPlaces.{modifier_marks, AreAt}
use Rattle.java_tree.specs.Trees.{Ty, Annotation, Modifier, Word, Annotated}
use Rattle.java_tree.specs.Spelling.{behind_points, names_onto, ty_onto, behind_sign, between_sign}
use Rattle.java_tree.specs.Spelling.{annotation_onto, annotations_onto, modifier_onto, modifiers_onto}
use Rattle.java_tree.specs.FormedModifiers.{Each}
use Rattle.java_tree.specs.Formed.{FormedTy, FormedClass}
use Rattle.java_tree.specs.View.{ty_of, annotation_of, modifier_of}
use Rattle.java_parser_totality.proofs.Parts.{Made, Makes, Maker, maker, nothing, nothing-made, and, as-made, Front}
use Rattle.java_parser_totality.proofs.Parts.{front, kind-seen, kept-tail, unkept-tail}
use Rattle.java_parser_totality.proofs.PartTokens as tokens
use Rattle.java_parser_totality.proofs.Parts as parts
use Rattle.java_parser_totality.proofs.MadeTypes.{Same, ty_part, ty-made, class-made}

pub by2 : {A B Z : Type 0} (C : A → B → Z) {a c : A} {b d : B} → a ≡ c → b ≡ d → C a b ≡ C c d
by2 C {c = c} {b = b} e f = ap (λ x. C x b) e ∙ ap (C c) f

abbrev pub Marked-Part : Type 1
Marked-Part = parts.Part Marks

-- ---- marks

pub some-at : (ps : Places) (ms : Marks) (qs : Places) → AreAt ms qs → AreAt (some_onto ps ms) (ps ++ qs)
some-at [] ms qs h = h
some-at (p ∷ ps) ms qs h = (refl, some-at ps ms qs h)

some-append : (ps qs : Places) (ms : Marks) → some_onto (ps ++ qs) ms ≡ some_onto ps (some_onto qs ms)
some-append [] qs ms = refl
some-append (p ∷ ps) qs ms = ap (λ (l : Marks). Some p ∷ l) (some-append ps qs ms)

-- ---- words

abbrev pub a_word : (s : Spelled) → is_kept s.kind s.text ≡ false → Maker AreAt
a_word s unkept = tokens.a_word AreAt s unkept

abbrev pub a_sign : (text : List ℕ) → Maker AreAt
a_sign text = tokens.a_sign AreAt text

abbrev pub a_glued : (glued : Bool) (text : List ℕ) → Maker AreAt
a_glued glued text = tokens.a_glued AreAt glued text

abbrev pub a_keyword : (text : List ℕ) → is_kept kind.Keyword text ≡ false → Maker AreAt
a_keyword text unkept = tokens.a_keyword AreAt text unkept

abbrev pub some_brackets : ℕ → Maker AreAt
some_brackets n = tokens.some_brackets AreAt n

abbrev pub mark : Place → Marks → Marks
mark p ms = Some p ∷ ms

pub marks : (p : Place) (ms : Marks) (qs : Places) → AreAt ms qs → AreAt (mark p ms) (p ∷ qs)
marks p ms qs h = (refl, h)

abbrev pub a_placed : (s : Spelled) → is_kept s.kind s.text ≡ true → Maker AreAt
a_placed s is = tokens.a_placed AreAt mark marks s is

abbrev pub a_name : (x : List ℕ) → Maker AreAt
a_name x = tokens.a_name AreAt mark marks x

-- a token whose place the tree of a method does not keep
abbrev pub passed : Spelled → Marked-Part
passed s =
    record { X = Unit {0}; ok = λ _. Unit {0}; put = λ _ ms. no_place s ms; size = λ _. 1; onto = λ rest. s ∷ rest }

pub passed-made : (s : Spelled) → Makes AreAt (passed s)
passed-made s ts rest few e = of (front ts s rest e) where
  at : (f : Front ts s rest) (ms : Marks) (b : Bool) → is_kept s.kind s.text ≡ b → AreAt ms (kept f.tail)
      → AreAt (cond b (None ∷ ms) ms) (kept ts)
  at f ms true is h =
      let places : kept ts ≡ f.token.place ∷ kept f.tail =
      ap kept f.is ∙ kept-tail AreAt f.token f.tail (kind-seen f.token s f.seen ∙ is) in
      subst (AreAt (None ∷ ms)) (sym places) h
  at f ms false is h =
      let places : kept ts ≡ kept f.tail =
      ap kept f.is ∙ unkept-tail AreAt f.token f.tail (kind-seen f.token s f.seen ∙ is) in
      subst (AreAt ms) (sym places) h

  of : Front ts s rest → Made AreAt (passed s) ts rest
  of f =
      record {
        tree = tt;
        is = tt;
        behind = f.tail;
        spelled = f.others;
        fits = λ ms h. at f ms (is_kept s.kind s.text) refl h;
        shorter = let long : length ts ≡ length (f.token ∷ f.tail) = ap (λ (l : List Token). length l) f.is in
            omega (arith, long);
      }

abbrev pub a_passed : Spelled → Maker AreAt
a_passed s = maker AreAt (passed s) (passed-made s)

abbrev pub all_passed : List Spelled → Marked-Part
all_passed ss =
    record {
      X = Unit {0};
      ok = λ _. Unit {0};
      put = λ _ ms. each_marks no_place ss ms;
      size = λ _. 0;
      onto = λ rest. ss ++ rest;
    }

pub all-passed-made : (ss : List Spelled) → Makes AreAt (all_passed ss)
all-passed-made [] =
    as-made AreAt (maker AreAt (nothing AreAt) (nothing-made AreAt)) (all_passed []) (λ x. tt)
    (record { ok = λ x s h. tt; put = λ x s ps. refl; size = λ x. omega arith; onto = λ rest. refl })
all-passed-made (s ∷ ss) =
    as-made AreAt (and AreAt (a_passed s) (maker AreAt (all_passed ss) (all-passed-made ss))) (all_passed (s ∷ ss))
    (λ x. tt) (record { ok = λ x s h. tt; put = λ x s ps. refl; size = λ x. omega arith; onto = λ rest. refl })

abbrev names_part : (List (List ℕ) → List Spelled → List Spelled) → List (List ℕ) → Marked-Part
names_part onto xs =
    record {
      X = Unit {0};
      ok = λ _. Unit {0};
      put = λ _ ms. each_marks no_name xs ms;
      size = λ _. 0;
      onto = onto xs;
    }

points-made : (xs : List (List ℕ)) → Makes AreAt (names_part behind_points xs)
points-made [] =
    as-made AreAt (maker AreAt (nothing AreAt) (nothing-made AreAt)) (names_part behind_points []) (λ x. tt)
    (record { ok = λ x s h. tt; put = λ x s ps. refl; size = λ x. omega arith; onto = λ rest. refl })
points-made (x ∷ xs) =
    as-made AreAt (and AreAt (a_word (sign (codes ".")) refl) (and AreAt (a_passed (identifier x)) (maker AreAt
    (names_part behind_points xs) (points-made xs)))) (names_part behind_points (x ∷ xs)) (λ x. tt)
    (record { ok = λ x s h. tt; put = λ x s ps. refl; size = λ x. omega arith; onto = λ rest. refl })

names-made : (xs : List (List ℕ)) → Makes AreAt (names_part names_onto xs)
names-made [] =
    as-made AreAt (maker AreAt (nothing AreAt) (nothing-made AreAt)) (names_part names_onto []) (λ x. tt)
    (record { ok = λ x s h. tt; put = λ x s ps. refl; size = λ x. omega arith; onto = λ rest. refl })
names-made (x ∷ xs) =
    as-made AreAt (and AreAt (a_passed (identifier x)) (maker AreAt (names_part behind_points xs) (points-made xs)))
    (names_part names_onto (x ∷ xs)) (λ x. tt)
    (record { ok = λ x s h. tt; put = λ x s ps. refl; size = λ x. omega arith; onto = λ rest. refl })

-- ---- annotations and modifiers

abbrev annotation_part : Annotation → Marked-Part
annotation_part n =
    record {
      X = AnnotationTree;
      ok = λ x. annotation_of x ≡ n;
      put = annotation_marks;
      size = λ _. 1;
      onto = annotation_onto n;
    }

annotation-made : (n : Annotation) → Makes AreAt (annotation_part n)
annotation-made n =
    as-made AreAt (and AreAt (a_word (sign (codes "@")) refl) (and AreAt (maker AreAt (names_part names_onto n.names)
    (names-made n.names)) (maker AreAt (all_passed n.arguments) (all-passed-made n.arguments)))) (annotation_part n)
    (λ x. record { names = n.names; arguments = n.arguments })
    (record { ok = λ x s h. refl; put = λ x s ps. refl; size = λ x. omega arith; onto = λ rest. refl })

abbrev pub annotations_part : List Annotation → Marked-Part
annotations_part ns =
    record {
      X = List AnnotationTree;
      ok = λ xs. map annotation_of xs ≡ ns;
      put = λ xs ms. each_marks annotation_marks xs ms;
      size = λ xs. length xs;
      onto = annotations_onto ns;
    }

pub annotations-made : (ns : List Annotation) → Makes AreAt (annotations_part ns)
annotations-made [] =
    as-made AreAt (maker AreAt (nothing AreAt) (nothing-made AreAt)) (annotations_part []) (λ x. [])
    (record { ok = λ x s h. refl; put = λ x s ps. refl; size = λ x. omega arith; onto = λ rest. refl })
annotations-made (n ∷ ns) =
    as-made AreAt (and AreAt (maker AreAt (annotation_part n) (annotation-made n)) (maker AreAt (annotations_part ns)
    (annotations-made ns))) (annotations_part (n ∷ ns)) (λ x. x.0 ∷ x.1) (record {
      ok = λ x s h. by2 (λ (y : Annotation) (ys : List Annotation). y ∷ ys) h.0 h.1;
      put = λ x s ps. refl;
      size = λ x. omega arith;
      onto = λ rest. refl;
    })

abbrev modifier_part : Modifier → Marked-Part
modifier_part m =
    record {
      X = ModifierTree;
      ok = λ x. modifier_of x ≡ m;
      put = modifier_marks;
      size = λ _. 1;
      onto = modifier_onto m;
    }

modifier-made : (m : Modifier) → Makes AreAt (modifier_part m)
modifier-made (Word text) =
    as-made AreAt (a_passed (keyword text)) (modifier_part (Word text)) (λ x. modifier.Word text)
    (record { ok = λ x s h. refl; put = λ x s ps. refl; size = λ x. omega arith; onto = λ rest. refl })
modifier-made (Annotated n) =
    as-made AreAt (maker AreAt (annotation_part n) (annotation-made n)) (modifier_part (Annotated n))
    modifier.Annotated
    (record { ok = λ x s h. ap Annotated h; put = λ x s ps. refl; size = λ x. omega arith; onto = λ rest. refl })

abbrev pub modifiers_part : List Modifier → Marked-Part
modifiers_part ms =
    record {
      X = List ModifierTree;
      ok = λ xs. map modifier_of xs ≡ ms;
      put = λ xs rest. each_marks modifier_marks xs rest;
      size = λ xs. length xs;
      onto = modifiers_onto ms;
    }

pub modifiers-made : (ms : List Modifier) → Makes AreAt (modifiers_part ms)
modifiers-made [] =
    as-made AreAt (maker AreAt (nothing AreAt) (nothing-made AreAt)) (modifiers_part []) (λ x. [])
    (record { ok = λ x s h. refl; put = λ x s ps. refl; size = λ x. omega arith; onto = λ rest. refl })
modifiers-made (m ∷ ms) =
    as-made AreAt (and AreAt (maker AreAt (modifier_part m) (modifier-made m)) (maker AreAt (modifiers_part ms)
    (modifiers-made ms))) (modifiers_part (m ∷ ms)) (λ x. x.0 ∷ x.1) (record {
      ok = λ x s h. by2 (λ (y : Modifier) (ys : List Modifier). y ∷ ys) h.0 h.1;
      put = λ x s ps. refl;
      size = λ x. omega arith;
      onto = λ rest. refl;
    })

-- ---- types

abbrev pub marked_ty : Ty → Marked-Part
marked_ty t =
    record {
      X = TypeTree;
      ok = λ x. ty_of x ≡ t;
      put = λ x ms. some_onto (ty_places x) ms;
      size = λ _. 1;
      onto = ty_onto t;
    }

-- a type that is made with places is made with marks
pub marked-made : (t : Ty) → Makes Same (ty_part t) → Makes AreAt (marked_ty t)
marked-made t makes ts rest few e = of (makes ts rest few e) where
  of : Made Same (ty_part t) ts rest → Made AreAt (marked_ty t) ts rest
  of m =
      record {
        tree = m.tree;
        is = m.is;
        behind = m.behind;
        spelled = m.spelled;
        fits = λ ms h.
            subst (AreAt (some_onto (ty_places m.tree) ms)) (m.fits (kept m.behind) refl)
            (some-at (ty_places m.tree) ms (kept m.behind) h);
        shorter = m.shorter;
      }

abbrev pub a_type : (t : Ty) → FormedTy t → Maker AreAt
a_type t f = maker AreAt (marked_ty t) (marked-made t (ty-made t f))

-- the class that a `new` makes an object of
abbrev pub a_class : (t : Ty) → FormedClass t → Maker AreAt
a_class t f = maker AreAt (marked_ty t) (marked-made t (class-made t f))

-- types that are read one by one, with their marks
abbrev pub types_part : (List Ty → List Spelled → List Spelled) → List Ty → Marked-Part
types_part onto ts =
    record {
      X = List TypeTree;
      ok = λ xs. map ty_of xs ≡ ts;
      put = λ xs ms. types_places xs ms;
      size = λ xs. length xs;
      onto = onto ts;
    }

-- ---- types with a sign between them

-- the marks of one more type
pub types-put : (x : TypeTree) (xs : List TypeTree) (ms : Marks) → types_places (x ∷ xs) ms
    ≡ some_onto (ty_places x) (types_places xs ms)
types-put x xs ms = some-append (ty_places x) (all_places (map ty_places xs)) ms

module _ (text : List ℕ) where
  pub behind-made : (ts : List Ty) → Each FormedTy ts → Makes AreAt (types_part (behind_sign text) ts)
  behind-made [] f =
      as-made AreAt (maker AreAt (nothing AreAt) (nothing-made AreAt)) (types_part (behind_sign text) []) (λ x. [])
      (record { ok = λ x s h. refl; put = λ x s ps. refl; size = λ x. omega arith; onto = λ rest. refl })
  behind-made (t ∷ ts) f =
      as-made AreAt (and AreAt (a_sign text) (and AreAt (a_type t f.0) (maker AreAt (types_part (behind_sign text) ts)
      (behind-made ts f.1)))) (types_part (behind_sign text) (t ∷ ts)) (λ x. x.1.0 ∷ x.1.1) (record {
        ok = λ x s h. by2 (λ (y : Ty) (ys : List Ty). y ∷ ys) h.1.0 h.1.1;
        put = λ x s ps. types-put x.1.0 x.1.1 ps;
        size = λ x. omega arith;
        onto = λ rest. refl;
      })

  pub between-made : (ts : List Ty) → Each FormedTy ts → Makes AreAt (types_part (between_sign text) ts)
  between-made [] f =
      as-made AreAt (maker AreAt (nothing AreAt) (nothing-made AreAt)) (types_part (between_sign text) []) (λ x. [])
      (record { ok = λ x s h. refl; put = λ x s ps. refl; size = λ x. omega arith; onto = λ rest. refl })
  between-made (t ∷ ts) f =
      as-made AreAt (and AreAt (a_type t f.0) (maker AreAt (types_part (behind_sign text) ts) (behind-made ts f.1)))
      (types_part (between_sign text) (t ∷ ts)) (λ x. x.0 ∷ x.1) (record {
        ok = λ x s h. by2 (λ (y : Ty) (ys : List Ty). y ∷ ys) h.0 h.1;
        put = λ x s ps. types-put x.0 x.1 ps;
        size = λ x. omega arith;
        onto = λ rest. refl;
      })
