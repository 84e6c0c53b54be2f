-- Words in expressions are made of their tokens: operators, names with points between them, and last commas.
use Rattle.std.proofs.Common.{◌≡◌, ℕ, Bool, true, false, List, [], ◌∷◌, map, length, refl, arith, codes}
use Rattle.std.specs.Prelude.{bytes_eq}
use Rattle.java_lexer.specs.declared.token.TokenKind.{TokenKind}
use Rattle.java_lexer.specs.declared.token.TokenKind.TheVariants as kind
use Rattle.java_tree.specs.declared.words.Ident.{Ident}
use Rattle.java_tree.specs.declared.words.Spelled.{Spelled}
use Rattle.java_tree.specs.KeptPlaces.{is_kept, AreAt, each_puts, name_places}
use Rattle.java_tree.specs.Spelling.{behind_points, names_onto, operator_onto, last_comma_onto}
use Rattle.java_tree.specs.Formed.{is_literal}
use Rattle.java_tree.specs.View.{name_of}
use Rattle.java_parser_totality.proofs.Parts.{Makes, Maker, maker, nothing, nothing-made, and, as-made}
use Rattle.java_parser_totality.proofs.MadeMarks.{by2, Marked-Part, a_sign, a_glued, a_name}

-- ---- words

pub literal-unkept : (k : TokenKind) (text : List ℕ) → is_literal k ≡ true → is_kept k text ≡ false
literal-unkept kind.Number text h = refl
literal-unkept kind.Character text h = refl
literal-unkept kind.Text text h = refl
literal-unkept kind.Fixed text h = refl
literal-unkept _ text h = absurd cc

abbrev pub operator_part : List ℕ → Marked-Part
operator_part op =
    record { X = Unit {0}; ok = λ _. Unit {0}; put = λ _ ps. ps; size = λ _. 1; onto = operator_onto op }

pub operator-made : (op : List ℕ) → Makes AreAt (operator_part op)
operator-made op = by (bytes_eq op (codes ">>")) (bytes_eq op (codes ">>>")) refl refl where
  by : (b c : Bool) → bytes_eq op (codes ">>") ≡ b → bytes_eq op (codes ">>>") ≡ c → Makes AreAt (operator_part op)
  by true c e f =
      as-made AreAt (and AreAt (a_sign (codes ">")) (a_glued true (codes ">"))) (operator_part op) (λ x. tt) (record {
        ok = λ x s h. tt;
        put = λ x s ps. refl;
        size = λ x. omega arith;
        onto = λ rest. rw e refl;
      })
  by false true e f =
      as-made AreAt (and AreAt (a_sign (codes ">")) (and AreAt (a_glued true (codes ">")) (a_glued true (codes ">"))))
      (operator_part op) (λ x. tt) (record {
        ok = λ x s h. tt;
        put = λ x s ps. refl;
        size = λ x. omega arith;
        onto = λ rest. rw (e, f) refl;
      })
  by false false e f =
      as-made AreAt (a_sign op) (operator_part op) (λ x. tt) (record {
        ok = λ x s h. tt;
        put = λ x s ps. refl;
        size = λ x. omega arith;
        onto = λ rest. rw (e, f) refl;
      })

abbrev pub operator : List ℕ → Maker AreAt
operator op = maker AreAt (operator_part op) (operator-made op)

abbrev pub names_part : (List (List ℕ) → List Spelled → List Spelled) → List (List ℕ) → Marked-Part
names_part onto xs =
    record {
      X = List Ident;
      ok = λ is. map name_of is ≡ xs;
      put = λ is. each_puts (map name_places is);
      size = λ is. length is;
      onto = onto xs;
    }

pub points-made : (xs : List (List ℕ)) → Makes AreAt (names_part behind_points xs)
points-made [] =
    as-made AreAt (maker AreAt (nothing AreAt) (nothing-made AreAt)) (names_part behind_points []) (λ x. [])
    (record { ok = λ x s h. refl; put = λ x s ps. refl; size = λ x. omega arith; onto = λ rest. refl })
points-made (x ∷ xs) =
    as-made AreAt (and AreAt (a_sign (codes ".")) (and AreAt (a_name x) (maker AreAt (names_part behind_points xs)
    (points-made xs)))) (names_part behind_points (x ∷ xs)) (λ x. x.1.0 ∷ x.1.1) (record {
      ok = λ x s h. by2 (λ (i : List ℕ) (is : List (List ℕ)). i ∷ is) h.1.0 h.1.1;
      put = λ x s ps. refl;
      size = λ x. omega arith;
      onto = λ rest. refl;
    })

pub names-made : (xs : List (List ℕ)) → Makes AreAt (names_part names_onto xs)
names-made [] =
    as-made AreAt (maker AreAt (nothing AreAt) (nothing-made AreAt)) (names_part names_onto []) (λ x. [])
    (record { ok = λ x s h. refl; put = λ x s ps. refl; size = λ x. omega arith; onto = λ rest. refl })
names-made (x ∷ xs) =
    as-made AreAt (and AreAt (a_name x) (maker AreAt (names_part behind_points xs) (points-made xs)))
    (names_part names_onto (x ∷ xs)) (λ x. x.0 ∷ x.1) (record {
      ok = λ x s h. by2 (λ (i : List ℕ) (is : List (List ℕ)). i ∷ is) h.0 h.1;
      put = λ x s ps. refl;
      size = λ x. omega arith;
      onto = λ rest. refl;
    })

abbrev pub comma_part : Bool → Marked-Part
comma_part last =
    record { X = Unit {0}; ok = λ _. Unit {0}; put = λ _ ps. ps; size = λ _. 0; onto = last_comma_onto last }

pub comma-made : (last : Bool) → Makes AreAt (comma_part last)
comma-made true =
    as-made AreAt (a_sign (codes ",")) (comma_part true) (λ x. tt)
    (record { ok = λ x s h. tt; put = λ x s ps. refl; size = λ x. omega arith; onto = λ rest. refl })
comma-made false =
    as-made AreAt (maker AreAt (nothing AreAt) (nothing-made AreAt)) (comma_part false) (λ x. tt)
    (record { ok = λ x s h. tt; put = λ x s ps. refl; size = λ x. omega arith; onto = λ rest. refl })
