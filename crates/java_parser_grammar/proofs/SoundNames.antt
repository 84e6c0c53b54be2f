-- What is read behind names, words and `super` is formed, small, and spelled by what was taken: classes, references to
-- types, and a `this` of a class.
use Rattle.std.proofs.Common.{◌≡◌, ℕ, zero, suc, ◌≤◌, Bool, true, false, ◌&&◌, ◌||◌, List, [], ◌∷◌, length}
use Rattle.std.proofs.Common.{Some, None, refl, ap, ◌∙◌, arith, leb, leb-true, codes}
use Rattle.std.specs.Prelude.{bytes_eq}
use Rattle.std.proofs.lemmas.Bool.{false≢true, and_parts}
use Rattle.java_tree.specs.declared.words.Spelled.{Spelled}
use Rattle.java_tree.specs.Words.{sign, keyword, identifier}
use Rattle.java_tree.specs.Brackets.{is_sign, is_keyword, is_word_name}
use Rattle.java_tree.specs.Trees.{Ty, Typed, Plain, Expr}
use Rattle.java_tree.specs.Spelling.{behind_points, brackets_onto, ty_onto, more_parts_onto}
use Rattle.java_tree.specs.Formed.{are_bare_parts, is_plain_word, is_no_expression}
use Rattle.java_parser_grammar.specs.Taking.{match_number, after_sign, after_keyword}
use Rattle.java_parser_grammar.specs.TypeReading.{brackets_at, ty_at}
use Rattle.java_parser_grammar.specs.ExpressionReading.{NamesEnd, AtClass, AtArray, AtThis, array_class_at, class_at}
use Rattle.java_parser_grammar.specs.ExpressionReading.{bare_parts, ended, referred_at, type_reference_at}
use Rattle.java_parser_grammar.specs.ExpressionReading.{typed_name_with, plain_word_with, super_with}
use Rattle.java_parser_grammar.proofs.Ensuring.{Ensures, then_ensures, if_ensures, match_ensures, weaker, sign_taken}
use Rattle.java_parser_grammar.proofs.Ensuring.{keyword_taken, brackets_are, keyword_is, name_is}
use Rattle.java_parser_grammar.proofs.Taken.{sign_is}
use Rattle.java_parser_grammar.proofs.SoundTypes.{GotTy, ty_sound}
use Rattle.java_parser_grammar.proofs.SoundTypeLists.{GotReferred, referred_sound}
use Rattle.java_parser_grammar.proofs.SoundLists.{Grown}

-- ---- names and their end

abbrev end_onto : NamesEnd → List Spelled → List Spelled
end_onto AtClass rest = sign (codes ".") ∷ keyword (codes "class") ∷ rest
end_onto (AtArray n) rest = brackets_onto n (sign (codes ".") ∷ keyword (codes "class") ∷ rest)
end_onto AtThis rest = sign (codes ".") ∷ keyword (codes "this") ∷ rest

abbrev FormedEnd : NamesEnd → Type 0
FormedEnd AtClass = Unit {0}
FormedEnd (AtArray n) = 1 ≤ n
FormedEnd AtThis = Unit {0}

-- the tokens with the point before them that was taken, if none is awaited
abbrev with_point : Bool → List Spelled → List Spelled
with_point true ts = ts
with_point false ts = sign (codes ".") ∷ ts

pub record GotNames (point : Bool) (ts : List Spelled) (x : (List (List ℕ) × NamesEnd) × List Spelled) : Type 0 where
  pub formed : FormedEnd x.0.1
  pub spelled : with_point point ts ≡ behind_points x.0.0 (end_onto x.0.1 x.1)

some_arrays : (m : ℕ) (ts s : List Spelled) → ts ≡ brackets_onto m (sign (codes ".") ∷ keyword (codes "class") ∷ s)
    → Ensures (λ (x : NamesEnd × List Spelled). FormedEnd x.0 × (ts ≡ end_onto x.0 x.1)) (match_number m None
    (λ e. Some (AtArray (suc e), s)))
some_arrays zero ts s e = tt
some_arrays (suc m) ts s e = (omega arith, e)

array_class_sound : (ts : List Spelled) → Ensures (λ x. FormedEnd x.0 × (ts ≡ end_onto x.0 x.1)) (array_class_at ts)
array_class_sound ts =
    let G : NamesEnd × List Spelled → Type 0 = λ x. FormedEnd x.0 × (ts ≡ end_onto x.0 x.1) in
    let m = brackets_at (length ts) ts in
    then_ensures (λ r. m.1 ≡ sign (codes ".") ∷ r) G (after_sign (codes ".") m.1) _ (sign_taken (codes ".") m.1)
    (λ r e. then_ensures (λ s. r ≡ keyword (codes "class") ∷ s) G (after_keyword (codes "class") r) _
    (keyword_taken (codes "class") r)
    (λ s f. some_arrays m.0 ts s (brackets_are (length ts) ts ∙ ap (brackets_onto m.0) (e
    ∙ ap (λ (u : List Spelled). sign (codes ".") ∷ u) f))))

pub names_sound : (point : Bool) (ts : List Spelled) → Ensures (GotNames point ts) (class_at point ts)
unfolding class_at
names_sound point [] = tt
names_sound true (t ∷ ts) =
    if_ensures (GotNames true (t ∷ ts)) (is_sign (codes ".") t) _ _
    (λ e. weaker (GotNames false ts) (GotNames true (t ∷ ts)) (class_at false ts)
    (λ x g. record {
      formed = g.formed;
      spelled = ap (λ (u : Spelled). u ∷ ts) (sign_is (codes ".") t e) ∙ g.spelled;
    }) (names_sound false ts))
    (λ _. if_ensures (GotNames true (t ∷ ts)) (is_sign (codes "[") t) _ _
    (λ e. then_ensures _ (GotNames true (t ∷ ts)) (array_class_at (t ∷ ts)) _ (array_class_sound (t ∷ ts))
    (λ end g. record { formed = g.0; spelled = g.1 }))
    (λ e. tt))
names_sound false (t ∷ ts) =
    if_ensures (GotNames false (t ∷ ts)) (is_keyword (codes "class") t) _ _
    (λ e. record {
      formed = tt;
      spelled = ap (λ (u : Spelled). sign (codes ".") ∷ u ∷ ts) (keyword_is (codes "class") t e);
    })
    (λ _. if_ensures (GotNames false (t ∷ ts)) (is_keyword (codes "this") t) _ _
    (λ e. record {
      formed = tt;
      spelled = ap (λ (u : Spelled). sign (codes ".") ∷ u ∷ ts) (keyword_is (codes "this") t e);
    })
    (λ _. if_ensures (GotNames false (t ∷ ts)) (is_word_name t) _ _
    (λ e. then_ensures (GotNames true ts) (GotNames false (t ∷ ts)) (class_at true ts) _ (names_sound true ts)
    (λ xs g. record {
      formed = g.formed;
      spelled = ap (λ (u : Spelled). sign (codes ".") ∷ u ∷ ts) (name_is t e) ∙ ap (λ (u : List Spelled). sign
          (codes ".") ∷ identifier t.text ∷ u) g.spelled;
    }))
    (λ e. tt)))

bare_are : (xs : List (List ℕ)) → are_bare_parts (bare_parts xs) ≡ true
bare_are [] = refl
bare_are (x ∷ xs) = bare_are xs

bare_onto : (xs : List (List ℕ)) (rest : List Spelled) → behind_points xs rest ≡ more_parts_onto (bare_parts xs) rest
bare_onto [] rest = refl
bare_onto (x ∷ xs) rest = ap (λ (ts : List Spelled). sign (codes ".") ∷ identifier x ∷ ts) (bare_onto xs rest)

-- behind a name
pub ended_sound : (n : ℕ) (x : List ℕ) (ts : List Spelled) (xs : List (List ℕ)) (end : NamesEnd) (rest : List Spelled)
    → FormedEnd end → ts ≡ behind_points xs (end_onto end rest)
    → Grown (suc n) 12 (identifier x ∷ ts) (ended (x ∷ xs) end, rest)
ended_sound n x ts xs AtClass rest f e = record {
  formed = refl;
  high = λ h. omega arith;
  small = omega arith;
  spelled = ap (λ (u : List Spelled). identifier x ∷ u) e;
  shut = λ ends. absurd (false≢true ends);
}
ended_sound n x ts xs (AtArray m) rest f e = record {
  formed = (bare_are xs, refl, f);
  high = λ h. omega arith;
  small = omega arith;
  spelled = ap (λ (u : List Spelled). identifier x ∷ u) (e ∙ bare_onto xs (end_onto (AtArray m) rest));
  shut = λ ends. absurd (false≢true ends);
}
ended_sound n x ts xs AtThis rest f e = record {
  formed = refl;
  high = λ h. omega arith;
  small = omega arith;
  spelled = ap (λ (u : List Spelled). identifier x ∷ u) e;
  shut = λ ends. absurd (false≢true ends);
}

-- ---- references to types

module _ (n : ℕ) where
  reference_sound : (all : List Spelled) (t : Ty) (ts : List Spelled) → GotTy n all (t, ts)
      → Ensures (Grown (suc n) 12 all) (type_reference_at n t ts)
  reference_sound all t ts g =
      let G : Expr × List Spelled → Type 0 = Grown (suc n) 12 all in
      then_ensures (λ r. ts ≡ sign (codes "::") ∷ r) G (after_sign (codes "::") ts) _ (sign_taken (codes "::") ts)
      (λ r e. then_ensures (GotReferred n r) G (referred_at n r) _ (referred_sound n r)
      (λ to h. if_ensures G (is_no_expression t) _ _
      (λ is. record {
        formed = (g.formed, h.formed, is);
        high = λ low. omega arith;
        small = omega (arith, g.small, h.small);
        spelled = g.spelled ∙ ap (ty_onto t) (e ∙ ap (λ (u : List Spelled). sign (codes "::") ∷ u) h.spelled);
        shut = λ ends. absurd (false≢true ends);
      })
      (λ is. tt)))

  pub typed_name_sound : (x : List ℕ) (ts : List Spelled) → Ensures (Grown (suc n) 12 (identifier x ∷ ts))
      (typed_name_with n x ts)
  unfolding typed_name_with
  typed_name_sound x ts =
      then_ensures (GotTy n (identifier x ∷ ts)) (Grown (suc n) 12 (identifier x ∷ ts)) (ty_at n (identifier x ∷ ts)) _
      (ty_sound n (identifier x ∷ ts))
      (λ t g. reference_sound (identifier x ∷ ts) t.0 t.1 (record {
        formed = g.formed;
        small = g.small;
        spelled = g.spelled;
      }))

  pub plain_word_sound : (word : List ℕ) (ts : List Spelled) → (is_plain_word word || bytes_eq word (codes "void"))
      ≡ true → Ensures (Grown (suc n) 12 (keyword word ∷ ts)) (plain_word_with n word ts)
  unfolding plain_word_with
  plain_word_sound word ts w =
      let G : Expr × List Spelled → Type 0 = Grown (suc n) 12 (keyword word ∷ ts) in
      let m = brackets_at (length ts) ts in
      match_ensures (λ r. m.1 ≡ sign (codes ".") ∷ r) G (after_sign (codes ".") m.1) _ _ (sign_taken (codes ".") m.1)
      (if_ensures G (is_plain_word word && leb 1 n) _ _
      (λ c. reference_sound (keyword word ∷ ts) (Typed (Plain word) m.0) m.1 (record {
        formed = (and_parts _ _ c).0;
        small = omega (arith, leb-true 1 n (and_parts _ _ c).1);
        spelled = ap (λ (u : List Spelled). keyword word ∷ u) (brackets_are (length ts) ts);
      }))
      (λ c. tt))
      (λ r e. then_ensures (λ s. r ≡ keyword (codes "class") ∷ s) G (after_keyword (codes "class") r) _
      (keyword_taken (codes "class") r)
      (λ s f. record {
        formed = w;
        high = λ low. omega arith;
        small = omega arith;
        spelled = ap (λ (u : List Spelled). keyword word ∷ u) (brackets_are (length ts) ts ∙ ap (brackets_onto m.0)
            (e ∙ ap (λ (u : List Spelled). sign (codes ".") ∷ u) f));
        shut = λ ends. absurd (false≢true ends);
      }))

  pub super_sound : (ts : List Spelled) → Ensures (Grown (suc n) 12 (keyword (codes "super") ∷ ts)) (super_with n ts)
  super_sound ts =
      let G : Expr × List Spelled → Type 0 = Grown (suc n) 12 (keyword (codes "super") ∷ ts) in
      then_ensures (λ r. ts ≡ sign (codes "::") ∷ r) G (after_sign (codes "::") ts) _ (sign_taken (codes "::") ts)
      (λ r e. then_ensures (GotReferred n r) G (referred_at n r) _ (referred_sound n r)
      (λ to h. record {
        formed = h.formed;
        high = λ low. omega arith;
        small = omega (arith, h.small);
        spelled = ap (λ (u : List Spelled). keyword (codes "super") ∷ u) (e ∙ ap (λ (u : List Spelled). sign
            (codes "::") ∷ u) h.spelled);
        shut = λ ends. absurd (false≢true ends);
      }))
