-- The types that a method takes in a call or a reference are made of their tokens, and what a reference refers to.
use Rattle.std.proofs.Common.{◌≡◌, ℕ, Bool, true, false, List, [], ◌∷◌, Option, Some, None, map, length, refl, ap}
use Rattle.std.proofs.Common.{arith}
use Rattle.std.proofs.Common.{codes}
use Rattle.std.specs.Prelude.{option_map}
use Rattle.std.proofs.lemmas.Bool.{false≢true}
use Rattle.java_tree.specs.declared.words.Ident.{Ident}
use Rattle.java_tree.specs.declared.words.Spelled.{Spelled}
use Rattle.java_tree.specs.declared.types.TypeTree.{TypeTree}
use Rattle.java_tree.specs.Words.{keyword}
use Rattle.java_tree.specs.KeptPlaces.{AreAt, name_or_new, types_places}
use Rattle.java_tree.specs.Trees.{Ty, Arguments, Angled, ArgumentList, no_argument, argument_then, Argument, Exact, Any}
use Rattle.java_tree.specs.Trees.{Extends, Super, pack_arguments}
use Rattle.java_tree.specs.Spelling.{arguments_onto, more_arguments_onto, maybe_angled_onto, referred_onto}
use Rattle.java_tree.specs.Formed.{are_exact, FormedArguments, FormedTypes}
use Rattle.java_tree.specs.View.{ty_of, types_of, name_of}
use Rattle.java_parser_totality.proofs.Parts.{Makes, Maker, maker, nothing, nothing-made, and, as-made}
use Rattle.java_parser_totality.proofs.MadeMarks.{by2, Marked-Part, a_sign, a_glued, a_name, a_type, a_passed}
use Rattle.java_parser_totality.proofs.MadeMarks.{types-put}

-- ---- types in angle brackets

abbrev pub is_glued : Option Arguments → Bool
is_glued None = false
is_glued (Some (Angled list g)) = g

abbrev exact_part : (ArgumentList → List Spelled → List Spelled) → ArgumentList → Marked-Part
exact_part onto list =
    record {
      X = List TypeTree;
      ok = λ xs. pack_arguments (map (λ u. Exact (ty_of u)) xs) ≡ list;
      put = types_places;
      size = λ xs. length xs;
      onto = onto list;
    }

more-exact-made : (list : ArgumentList) → FormedArguments list → are_exact list ≡ true
    → Makes AreAt (exact_part more_arguments_onto list)
more-exact-made no_argument f e =
    as-made AreAt (maker AreAt (nothing AreAt) (nothing-made AreAt)) (exact_part more_arguments_onto no_argument)
    (λ x. []) (record { ok = λ x s h. refl; put = λ x s ps. refl; size = λ x. omega arith; onto = λ rest. refl })
more-exact-made (argument_then (Exact t) others) f e =
    as-made AreAt (and AreAt (a_sign (codes ",")) (and AreAt (a_type t f.0) (maker AreAt (exact_part
    more_arguments_onto others) (more-exact-made others f.1 e)))) (exact_part more_arguments_onto
    (argument_then (Exact t) others)) (λ x. x.1.0 ∷ x.1.1) (record {
      ok = λ x s h. by2 (λ (y : Ty) (ys : ArgumentList). argument_then (Exact y) ys) h.1.0 h.1.1;
      put = λ x s ps. types-put x.1.0 x.1.1 ps;
      size = λ x. omega arith;
      onto = λ rest. refl;
    })
more-exact-made (argument_then Any others) f e = absurd (false≢true e)
more-exact-made (argument_then (Extends t) others) f e = absurd (false≢true e)
more-exact-made (argument_then (Super t) others) f e = absurd (false≢true e)

exact-made : (list : ArgumentList) → FormedArguments list → are_exact list ≡ true
    → Makes AreAt (exact_part arguments_onto list)
exact-made no_argument f e =
    as-made AreAt (maker AreAt (nothing AreAt) (nothing-made AreAt)) (exact_part arguments_onto no_argument)
    (λ x. []) (record { ok = λ x s h. refl; put = λ x s ps. refl; size = λ x. omega arith; onto = λ rest. refl })
exact-made (argument_then (Exact t) others) f e =
    as-made AreAt (and AreAt (a_type t f.0) (maker AreAt (exact_part more_arguments_onto others)
    (more-exact-made others f.1 e))) (exact_part arguments_onto (argument_then (Exact t) others)) (λ x. x.0 ∷ x.1)
    (record {
      ok = λ x s h. by2 (λ (y : Ty) (ys : ArgumentList). argument_then (Exact y) ys) h.0 h.1;
      put = λ x s ps. types-put x.0 x.1 ps;
      size = λ x. omega arith;
      onto = λ rest. refl;
    })
exact-made (argument_then Any others) f e = absurd (false≢true e)
exact-made (argument_then (Extends t) others) f e = absurd (false≢true e)
exact-made (argument_then (Super t) others) f e = absurd (false≢true e)

angled-are : (xs : List TypeTree) (a : Argument) (others : ArgumentList) (g : Bool)
    → pack_arguments (map (λ u. Exact (ty_of u)) xs) ≡ argument_then a others
    → types_of xs g ≡ Some (Angled (argument_then a others) g)
angled-are [] a others g e = absurd cc
angled-are (x ∷ xs) a others g e = ap (λ (list : ArgumentList). Some (Angled list g)) e

abbrev pub maybe_types_part : Option Arguments → Marked-Part
maybe_types_part types =
    record {
      X = List TypeTree;
      ok = λ xs. types_of xs (is_glued types) ≡ types;
      put = types_places;
      size = λ _. 0;
      onto = maybe_angled_onto types;
    }

pub types-made : (types : Option Arguments) → FormedTypes types → Makes AreAt (maybe_types_part types)
types-made None f =
    as-made AreAt (maker AreAt (nothing AreAt) (nothing-made AreAt)) (maybe_types_part None) (λ x. [])
    (record { ok = λ x s h. refl; put = λ x s ps. refl; size = λ x. omega arith; onto = λ rest. refl })
types-made (Some (Angled no_argument g)) f = absurd (false≢true f.0.1)
types-made (Some (Angled (argument_then a others) g)) f =
    let list = argument_then a others in
    as-made AreAt (and AreAt (a_sign (codes "<")) (and AreAt (maker AreAt (exact_part arguments_onto list)
    (exact-made list f.0.0 f.1)) (a_glued g (codes ">")))) (maybe_types_part (Some (Angled list g))) (λ x. x.1.0)
    (record {
      ok = λ x s h. angled-are x.1.0 a others g h.1.0;
      put = λ x s ps. refl;
      size = λ x. omega arith;
      onto = λ rest. refl;
    })

abbrev pub some_types : (types : Option Arguments) → FormedTypes types → Maker AreAt
some_types types f = maker AreAt (maybe_types_part types) (types-made types f)

-- ---- what a method reference refers to

abbrev pub referred_part : Option Arguments → Option (List ℕ) → Marked-Part
referred_part types o =
    record {
      X = List TypeTree × Option Ident;
      ok = λ x. (types_of x.0 (is_glued types) ≡ types) × (option_map name_of x.1 ≡ o);
      put = λ x ps. types_places x.0 (name_or_new x.1 ps);
      size = λ _. 0;
      onto = referred_onto types o;
    }

pub referred-made : (types : Option Arguments) (o : Option (List ℕ)) → FormedTypes types
    → Makes AreAt (referred_part types o)
referred-made types None f =
    as-made AreAt (and AreAt (some_types types f) (a_passed (keyword (codes "new")))) (referred_part types None)
    (λ x. (x.0, None))
    (record { ok = λ x s h. (h.0, refl); put = λ x s ps. refl; size = λ x. omega arith; onto = λ rest. refl })
referred-made types (Some n) f =
    as-made AreAt (and AreAt (some_types types f) (a_name n)) (referred_part types (Some n)) (λ x. (x.0, Some x.1))
    (record { ok = λ x s h. (h.0, ap Some h.1); put = λ x s ps. refl; size = λ x. omega arith; onto = λ rest. refl })

abbrev pub a_referred : (types : Option Arguments) (o : Option (List ℕ)) → FormedTypes types → Maker AreAt
a_referred types o f = maker AreAt (referred_part types o) (referred-made types o f)
