-- Where among its marks a tree keeps places: its shape, which its view tells.
use Rattle.std.proofs.Common.{◌≡◌, ℕ, zero, suc, Bool, true, false, List, [], ◌∷◌, ◌++◌, Option, Some, None, map}
use Rattle.std.proofs.Common.{option_map, length, if◌then◌else◌, refl, ap, ◌∙◌, arith}
use Rattle.std.proofs.lemmas.List.{length-append}
use Rattle.java_tree.specs.declared.words.Ident.{Ident}
use Rattle.java_tree.specs.declared.words.Spelled.{Spelled}
use Rattle.java_tree.specs.declared.types.TypeTree.{TypeTree}
use Rattle.java_tree.specs.declared.methods.AnnotationTree.{AnnotationTree}
use Rattle.java_tree.specs.declared.methods.ModifierTree as modifiers
use Rattle.java_tree.specs.declared.methods.ModifierTree.TheVariants as modifier
use Rattle.java_tree.specs.KeptPlaces.{Places, Marks, AreAt, is_kept, some_onto, each_marks, maybe_marks, no_place}
use Rattle.java_tree.specs.KeptPlaces.{no_places, no_name, each_puts, maybe_puts, name_places, all_places, ty_places}
use Rattle.java_tree.specs.KeptPlaces.{types_places, annotation_marks, modifier_marks}
use Rattle.java_tree.specs.Trees.{Ty, Arguments, Exact, Annotation, Modifier, Word, Annotated, pack_arguments}
use Rattle.java_tree.specs.View.{name_of, ty_of, types_of, annotation_of, modifier_of}
use Rattle.java_tree.specs.Words.{keyword}
use Rattle.java_tree.proofs.TypeCounts.{ty_count, angled_count, arguments_count, ty_counts}

-- for each mark whether it keeps a place
abbrev pub Shape : Type 0
Shape = List Bool

abbrev pub shape_of : Marks → Shape
shape_of [] = []
shape_of (None ∷ rest) = false ∷ shape_of rest
shape_of (Some p ∷ rest) = true ∷ shape_of rest

-- what is at the same places and has the same shape is the same
pub one_at : (ms ns : Marks) (ps : Places) → shape_of ms ≡ shape_of ns → AreAt ms ps → AreAt ns ps → ms ≡ ns
one_at [] [] ps e x y = refl
one_at [] (None ∷ ns) ps e x y = absurd (cc e)
one_at [] (Some q ∷ ns) ps e x y = absurd (cc e)
one_at (None ∷ ms) [] ps e x y = absurd (cc e)
one_at (Some p ∷ ms) [] ps e x y = absurd (cc e)
one_at (None ∷ ms) (Some q ∷ ns) ps e x y = absurd (cc e)
one_at (Some p ∷ ms) (None ∷ ns) ps e x y = absurd (cc e)
one_at (None ∷ ms) (None ∷ ns) [] e x y = absurd x
one_at (None ∷ ms) (None ∷ ns) (r ∷ ps) e x y = ap (λ (l : Marks). None ∷ l) (one_at ms ns ps (cc e) x y)
one_at (Some p ∷ ms) (Some q ∷ ns) [] e x y = absurd x
one_at (Some p ∷ ms) (Some q ∷ ns) (r ∷ ps) e x y = cc (x.0, y.0, one_at ms ns ps (cc e) x.1 y.1)

-- ---- shapes

abbrev pub ones : ℕ → Shape → Shape
ones zero rest = rest
ones (suc n) rest = true ∷ ones n rest

abbrev pub lacking : Spelled → Shape → Shape
lacking t rest = if is_kept t.kind t.text then false ∷ rest else rest

abbrev pub unnamed : List ℕ → Shape → Shape
unnamed x rest = false ∷ rest

abbrev pub named : List ℕ → Shape → Shape
named x rest = true ∷ rest

abbrev pub each_shape : {A : Type 0} → (A → Shape → Shape) → List A → Shape → Shape
each_shape f [] rest = rest
each_shape f (x ∷ xs) rest = f x (each_shape f xs rest)

abbrev pub maybe_shape : {A : Type 0} → (A → Shape → Shape) → Option A → Shape → Shape
maybe_shape f None rest = rest
maybe_shape f (Some x) rest = f x rest

abbrev pub ty_shape : Ty → Shape → Shape
ty_shape t rest = ones (ty_count t) rest

abbrev pub angled_shape : Arguments → Shape → Shape
angled_shape a rest = ones (angled_count a) rest

abbrev pub annotation_shape : Annotation → Shape → Shape
annotation_shape n rest = each_shape unnamed n.names (each_shape lacking n.arguments rest)

abbrev pub modifier_shape : Modifier → Shape → Shape
modifier_shape (Word text) rest = lacking (keyword text) rest
modifier_shape (Annotated n) rest = annotation_shape n rest

-- ---- what is put before marks has a shape

abbrev pub Fits : (Marks → Marks) → (Shape → Shape) → Type 0
Fits puts f = (rest : Marks) → shape_of (puts rest) ≡ f (shape_of rest)

places_fit : (ps : Places) → Fits (some_onto ps) (ones (length ps))
places_fit [] rest = refl
places_fit (p ∷ ps) rest = ap (λ (s : Shape). true ∷ s) (places_fit ps rest)

two_onto : (ps qs : Places) (rest : Marks) → some_onto (ps ++ qs) rest ≡ some_onto ps (some_onto qs rest)
two_onto [] qs rest = refl
two_onto (p ∷ ps) qs rest = ap (λ (l : Marks). Some p ∷ l) (two_onto ps qs rest)

pub ty_fits : (t : TypeTree) → Fits (some_onto (ty_places t)) (ty_shape (ty_of t))
ty_fits t rest = places_fit (ty_places t) rest ∙ ap (λ (n : ℕ). ones n (shape_of rest)) (ty_counts t)

pub tys_fit : (ts : List TypeTree) → Fits (types_places ts) (each_shape ty_shape (map ty_of ts))
tys_fit [] rest = refl
tys_fit (t ∷ ts) rest =
    ap shape_of (two_onto (ty_places t) (all_places (map ty_places ts)) rest)
    ∙ (ty_fits t (types_places ts rest) ∙ ap (ty_shape (ty_of t)) (tys_fit ts rest))

exact_counts : (ts : List TypeTree) → length (all_places (map ty_places ts))
    ≡ arguments_count (pack_arguments (map (λ u. Exact (ty_of u)) ts))
exact_counts [] = refl
exact_counts (t ∷ ts) =
    omega (arith, ty_counts t, exact_counts ts, length-append (ty_places t) (all_places (map ty_places ts)))

pub types_fit : (ts : List TypeTree) (glued : Bool)
    → Fits (types_places ts) (maybe_shape angled_shape (types_of ts glued))
types_fit [] glued rest = refl
types_fit (t ∷ ts) glued rest =
    places_fit (all_places (map ty_places (t ∷ ts))) rest
    ∙ ap (λ (n : ℕ). ones n (shape_of rest)) (exact_counts (t ∷ ts))

module _ {A B : Type 0} (view : A → B) (puts : A → Marks → Marks) (f : B → Shape → Shape)
    (one : (x : A) → Fits (puts x) (f (view x))) where
  pub each_mark_fits : (xs : List A) → Fits (each_marks puts xs) (each_shape f (map view xs))
  each_mark_fits [] rest = refl
  each_mark_fits (x ∷ xs) rest = one x (each_marks puts xs rest) ∙ ap (f (view x)) (each_mark_fits xs rest)

  pub each_fits : (xs : List A) → Fits (each_puts (map puts xs)) (each_shape f (map view xs))
  each_fits [] rest = refl
  each_fits (x ∷ xs) rest = one x (each_puts (map puts xs) rest) ∙ ap (f (view x)) (each_fits xs rest)

  pub maybe_mark_fits : (o : Option A) → Fits (maybe_marks puts o) (maybe_shape f (option_map view o))
  maybe_mark_fits None rest = refl
  maybe_mark_fits (Some x) rest = one x rest

  pub maybe_fits : (o : Option A) → Fits (maybe_puts (option_map puts o)) (maybe_shape f (option_map view o))
  maybe_fits None rest = refl
  maybe_fits (Some x) rest = one x rest

by_kept : (b : Bool) (rest : Marks) → shape_of (if b then None ∷ rest else rest) ≡ (if b then false
    ∷ shape_of rest else shape_of rest)
by_kept true rest = refl
by_kept false rest = refl

pub token_fits : (t : Spelled) → Fits (no_place t) (lacking t)
token_fits t rest = by_kept (is_kept t.kind t.text) rest

pub tokens_fit : (ts : List Spelled) → Fits (no_places ts) (each_shape lacking ts)
tokens_fit [] rest = refl
tokens_fit (t ∷ ts) rest = token_fits t (no_places ts rest) ∙ ap (lacking t) (tokens_fit ts rest)

names_fit : (xs : List (List ℕ)) → Fits (each_marks no_name xs) (each_shape unnamed xs)
names_fit [] rest = refl
names_fit (x ∷ xs) rest = ap (λ (s : Shape). false ∷ s) (names_fit xs rest)

pub idents_fit : (xs : List Ident) → Fits (each_puts (map name_places xs)) (each_shape named (map name_of xs))
idents_fit = each_fits name_of name_places named (λ x rest. refl)

pub annotation_fits : (n : AnnotationTree) → Fits (annotation_marks n) (annotation_shape (annotation_of n))
annotation_fits n rest =
    names_fit n.names (no_places n.arguments rest) ∙ ap (each_shape unnamed n.names) (tokens_fit n.arguments rest)

modifier_fits : (m : modifiers.ModifierTree) → Fits (modifier_marks m) (modifier_shape (modifier_of m))
modifier_fits (modifier.Word x) rest = token_fits (keyword x) rest
modifier_fits (modifier.Annotated n) rest = annotation_fits n rest

pub modifiers_fit : (ms : List modifiers.ModifierTree)
    → Fits (each_marks modifier_marks ms) (each_shape modifier_shape (map modifier_of ms))
modifiers_fit = each_mark_fits modifier_of modifier_marks modifier_shape modifier_fits
