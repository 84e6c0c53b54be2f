-- A local class is made of its tokens: its name keeps its place, and no other token does.
use Rattle.std.proofs.Common.{◌≡◌, ℕ, Bool, true, false, cond, ◌&&◌, List, [], ◌∷◌, ◌++◌, Some, inl, inr, refl}
use Rattle.std.proofs.Common.{sym, ap, subst, ◌∙◌, arith, codes}
use Rattle.std.specs.Prelude.{bytes_eq}
use Rattle.std.specs.Cmp.Lexicographic.{bytes_decides}
use Rattle.std.proofs.lemmas.Bool.{false≢true, and_parts, or_cases}
use Rattle.java_tree.specs.declared.words.Ident.{Ident}
use Rattle.java_tree.specs.declared.words.Spelled.{Spelled}
use Rattle.java_tree.specs.Words.{keyword, identifier}
use Rattle.java_tree.specs.Brackets.{is_keyword, is_word_name, is_class_word, closes_class, are_class}
use Rattle.java_tree.specs.KeptPlaces.{AreAt, no_places, behind_name}
use Rattle.java_tree.specs.View.{name_of}
use Rattle.java_parser_grammar.proofs.Ensuring.{keyword_is, name_is}
use Rattle.java_parser_totality.proofs.Parts.{Makes, maker, and, as-made}
use Rattle.java_parser_totality.proofs.MadeMarks.{Marked-Part, a_keyword, a_name, all_passed, all-passed-made}

abbrev pub class_part : List ℕ → List Spelled → Marked-Part
class_part x ts =
    record {
      X = Ident;
      ok = λ i. name_of i ≡ x;
      put = λ i ms. Some i.place ∷ no_places (behind_name ts) ms;
      size = λ _. 1;
      onto = λ rest. ts ++ rest;
    }

named-made : (x : List ℕ) (ts : List Spelled) → Makes AreAt (class_part x (keyword (codes "class") ∷ identifier x ∷ ts))
named-made x ts =
    as-made AreAt (and AreAt (a_keyword (codes "class") refl) (and AreAt (a_name x) (maker AreAt (all_passed ts)
    (all-passed-made ts)))) (class_part x (keyword (codes "class") ∷ identifier x ∷ ts)) (λ y. y.1.0)
    (record { ok = λ y s h. h.1.0; put = λ y s ps. refl; size = λ y. omega arith; onto = λ rest. refl })

class-word-made : (x : List ℕ) (t : Spelled) (ts : List Spelled) → Makes AreAt (class_part x ts)
    → is_class_word t ≡ true → Makes AreAt (class_part x (t ∷ ts))
class-word-made x t ts makes word = elim (or_cases (is_keyword (codes "final") t) (is_keyword (codes "abstract") t)
    word) [
      | inl e ↦ subst (λ u. Makes AreAt (class_part x (u ∷ ts))) (sym (keyword_is (codes "final") t e))
          (as-made AreAt (and AreAt (a_keyword (codes "final") refl) (maker AreAt (class_part x ts) makes))
          (class_part x (keyword (codes "final") ∷ ts)) (λ y. y.1)
          (record { ok = λ y s h. h.1; put = λ y s ps. refl; size = λ y. omega arith; onto = λ rest. refl }))
      | inr e ↦ subst (λ u. Makes AreAt (class_part x (u ∷ ts))) (sym (keyword_is (codes "abstract") t e))
          (as-made AreAt (and AreAt (a_keyword (codes "abstract") refl) (maker AreAt (class_part x ts) makes))
          (class_part x (keyword (codes "abstract") ∷ ts)) (λ y. y.1)
          (record { ok = λ y s h. h.1; put = λ y s ps. refl; size = λ y. omega arith; onto = λ rest. refl }))
    ]

unworded-made : (x : List ℕ) (t u : Spelled) (ts : List Spelled) → (is_keyword (codes "class") t
    && (is_word_name u && (bytes_eq u.text x && closes_class [] ts))) ≡ true → Makes AreAt (class_part x (t ∷ u ∷ ts))
unworded-made x t u ts h =
    let one = and_parts (is_keyword (codes "class") t) (is_word_name u &&
    (bytes_eq u.text x && closes_class [] ts)) h in
    let two = and_parts (is_word_name u) (bytes_eq u.text x && closes_class [] ts) one.1 in
    let three = and_parts (bytes_eq u.text x) (closes_class [] ts) two.1 in
    let name : u ≡ identifier x = name_is u two.0 ∙ ap identifier ((bytes_decides u.text x).0 three.0) in
    subst (λ v. Makes AreAt (class_part x (v ∷ u ∷ ts))) (sym (keyword_is (codes "class") t one.0))
    (subst (λ v. Makes AreAt (class_part x (keyword (codes "class") ∷ v ∷ ts))) (sym name) (named-made x ts))

by-word : (x : List ℕ) (t u : Spelled) (ts : List Spelled) → (are_class x (u ∷ ts) ≡ true
    → Makes AreAt (class_part x (u ∷ ts))) → (b : Bool) → is_class_word t ≡ b → cond b (are_class x (u ∷ ts))
    (is_keyword (codes "class") t && (is_word_name u && (bytes_eq u.text x && closes_class [] ts))) ≡ true
    → Makes AreAt (class_part x (t ∷ u ∷ ts))
by-word x t u ts others true word h = class-word-made x t (u ∷ ts) (others h) word
by-word x t u ts others false word h = unworded-made x t u ts h

pub class-made : (x : List ℕ) (ts : List Spelled) → are_class x ts ≡ true → Makes AreAt (class_part x ts)
class-made x [] h = absurd (false≢true h)
class-made x (t ∷ []) h = absurd (false≢true h)
class-made x (t ∷ u ∷ ts) h = by-word x t u ts (λ e. class-made x (u ∷ ts) e) (is_class_word t) refl h
