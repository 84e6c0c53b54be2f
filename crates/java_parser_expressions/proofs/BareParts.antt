-- Names as the parts of a type.
use Rattle.std.proofs.Common.{◌≡◌, List, [], ◌∷◌, ◌++◌, map, refl, ap, sym, ◌∙◌, append-nil, append_assoc, length}
use Rattle.std.proofs.Common.{arith}
use Rattle.std.proofs.lemmas.List.{map_push}
use Rattle.racer_base.specs.declared.ids.Place.{Place}
use Rattle.java_tree.specs.declared.words.Ident.{Ident}
use Rattle.java_tree.specs.KeptPlaces.{Places, Marks, each_puts, some_onto, name_places}
use Rattle.java_tree.specs.Trees.{Part, Bare, part_then, pack_parts}
use Rattle.java_tree.specs.View.{name_of}
use Rattle.java_parser_grammar.specs.ExpressionReading.{bare_parts}

abbrev pub place_of : Ident → Place
place_of x = x.place

-- without type arguments
abbrev pub bare_of : Ident → Part
bare_of x = Bare (name_of x)

pub all_made : {A B : Type 0} (of : A → B) (made all : List B) (left : List A) → length left ≡ 0
    → made ++ map of left ≡ all → made ≡ all
all_made of made all [] none e = sym (append-nil made) ∙ e
all_made of made all (x ∷ left) some e = absurd (omega (arith, some))

-- one more is made
pub more_made : {A B P : Type 0} (of : A → B) (view : P → B) (made : List P) (p : P) (left more : List A) (x : A)
    (all : List B) → left ≡ x ∷ more → view p ≡ of x → map view made ++ map of left ≡ all
    → map view (made ++ p ∷ []) ++ map of more ≡ all
more_made of view made p left more x all e same so_far =
    rw (map_push view made p, append_assoc (map view made) (view p ∷ []) (map of more), same) (rw e at so_far)

pub bare_packed : (xs : List Ident) (parts : List Part) → parts ≡ map bare_of xs → pack_parts parts
    ≡ bare_parts (map name_of xs)
bare_packed xs parts e = rw e (packed xs) where
  packed : (ys : List Ident) → pack_parts (map bare_of ys) ≡ bare_parts (map name_of ys)
  packed [] = refl
  packed (y ∷ ys) = ap (part_then (Bare y.text)) (packed ys)

pub bare_put : (xs : List Ident) (places : Places) → places ≡ map place_of xs → (rest : Marks)
    → some_onto places rest ≡ each_puts (map name_places xs) rest
bare_put xs places e rest = rw e (put xs) where
  put : (ys : List Ident) → some_onto (map place_of ys) rest ≡ each_puts (map name_places ys) rest
  put [] = refl
  put (y ∷ ys) = ap (name_places y) (put ys)
