-- The places that units keep, part by part.
use Rattle.std.proofs.Common.{◌≡◌, ℕ, suc, ◌+◌, ◌≤◌, Bool, true, false, cond, List, [], ◌∷◌}
use Rattle.std.proofs.Common.{◌++◌, Option, Some, None, map, length, refl, sym, ◌∙◌, nat_lt, arith}
use Rattle.std.specs.List.{flat_map, list_all, list_any}
use Rattle.std.proofs.lemmas.Bool.{lt-ltb, and_from, and_parts}
use Rattle.std.proofs.lemmas.List.Folds.{list_all-append}
use Rattle.racer_base.specs.declared.ids.ClassId.{ClassId}
use Rattle.racer_base.specs.declared.ids.Place.{Place}
use Rattle.java_tree.specs.declared.words.Spelled.{Spelled as SpelledToken}
use Rattle.java_tree.specs.declared.methods.AnnotationTree.{AnnotationTree}
use Rattle.java_tree.specs.declared.methods.ModifierTree as modifiers
use Rattle.java_tree.specs.declared.methods.ModifierTree.TheVariants as modifier
use Rattle.java_tree.specs.declared.methods.MethodTree.{MethodTree}
use Rattle.java_tree.specs.declared.methods.ParameterTree.{ParameterTree}
use Rattle.java_tree.specs.declared.methods.TypeParameterTree.{TypeParameterTree}
use Rattle.java_tree.specs.declared.methods.TypeParametersTree.{TypeParametersTree}
use Rattle.java_tree.specs.Words.{keyword}
use Rattle.java_tree.specs.KeptPlaces.{Places, is_kept, all_places, each_puts, ty_places, stmt_places}
use Rattle.java_tree.specs.KeptPlaces.{Marks, some_onto, each_marks, maybe_marks, no_place, no_name, annotation_marks}
use Rattle.java_tree.specs.KeptPlaces.{modifier_marks}
use Rattle.java_tree.specs.MethodPlaces.{result_places, parameter_marks, type_parameter_marks}
use Rattle.java_tree.specs.MethodPlaces.{type_parameters_marks, method_marks}
use Rattle.java_tree.specs.declared.unit.Unit as unit_type
use Rattle.java_tree.specs.declared.unit.ClassTree.{ClassTree}
use Rattle.java_tree.specs.declared.unit.Member.{Member}
use Rattle.java_tree.specs.declared.unit.Member.TheVariants as member
use Rattle.java_resolver.specs.Declarations.{trees_of}
use Rattle.java_resolver.specs.Declarations.{by_class, names_of, default_constructor, member_is_constructor}
use Rattle.core_lowering_rules.specs.Methods.{Body, Default, Spelled, Unspelled, Source}
use Rattle.core_lowering_rules.specs.Programs.{member_sources, default_sources, class_sources, sources_of}
use Rattle.core_lowering_rules.specs.Programs.{skipped_member, skipped_in, put_in, is_before, in_order}
use Rattle.core_lowering_rules.specs.Conditions.{kept_of, member_places, class_places}
use Rattle.core_lowering_rules.specs.Conditions.{unit_places}
use Rattle.core_lowering_rules.proofs.FoundElements.{Each, each-append, unless}

-- ---- lists

pub each-all : {A : Type 0} (test : A → Bool) (xs : List A) → Each (λ x. test x ≡ true) xs → list_all test xs ≡ true
each-all test [] all = refl
each-all test (x ∷ xs) all = and_from (test x) _ all.0 (each-all test xs all.1)

pub each-from : {A B : Type 0} (P : A → Type 0) (Q : B → Type 0) (f : A → List B) → ((x : A) → P x → Each Q (f x)) →
    (xs : List A) → Each P xs → Each Q (flat_map f xs)
each-from P Q f step [] all = tt
each-from P Q f step (x ∷ xs) all =
    each-append Q (f x) (flat_map f xs) (step x all.0) (each-from P Q f step xs all.1)

pub bounded-by_class : {A : Type 0} (P : A → Type 0) (Q : ClassTree → Type 0) (f : ClassId → ClassTree → List A)
    (total : ℕ) →
    ((c : ClassId) (tree : ClassTree) → nat_lt c.0 total ≡ true → Q tree → Each P (f c tree)) →
    (n : ℕ) (trees : List ClassTree) → n + length trees ≤ total → Each Q trees → Each P (by_class f n trees)
bounded-by_class P Q f total step n [] within all = tt
bounded-by_class P Q f total step n (c ∷ cs) within all =
    let below : nat_lt n total ≡ true = lt-ltb n total (omega arith) in
    each-append P (f (record { 0 = n }) c) (by_class f (suc n) cs) (step (record { 0 = n }) c below all.0)
    (bounded-by_class P Q f total step (suc n) cs (omega arith) all.1)

module _ (test : Place → Bool) where
  abbrev All : List Place → Type 0
  All ps = list_all test ps ≡ true

  all-two : (ps qs : List Place) → All (ps ++ qs) → All ps × All qs
  all-two ps qs h =
      let e = sym (list_all-append test ps qs) ∙ h in
      ((and_parts (list_all test ps) _ e).0, (and_parts (list_all test ps) _ e).1)

  pub each-places : {A : Type 0} (f : A → List Place) (xs : List A) → All (flat_map f xs) → Each (λ x. All (f x)) xs
  each-places f [] h = tt
  each-places f (x ∷ xs) h = let p = all-two (f x) (flat_map f xs) h in (p.0, each-places f xs p.1)

  all-places : {A : Type 0} (f : A → List Place) (xs : List A) → Each (λ x. All (f x)) xs → All (flat_map f xs)
  all-places f [] all = refl
  all-places f (x ∷ xs) all =
      list_all-append test (f x) (flat_map f xs)
      ∙ and_from (list_all test (f x)) (list_all test (flat_map f xs)) all.0 (all-places f xs all.1)

  -- ---- the places that a method keeps

  abbrev pub Kept : Marks → Type 0
  Kept marks = All (kept_of marks)

  pub some-behind : (ps : Places) (rest : Marks) → Kept (some_onto ps rest) → Kept rest
  some-behind [] rest h = h
  some-behind (p ∷ ps) rest h = some-behind ps rest (and_parts (test p) _ h).1

  some-front : (ps : Places) (rest : Marks) → Kept (some_onto ps rest) → All ps
  some-front [] rest h = refl
  some-front (p ∷ ps) rest h =
      and_from (test p) _ (and_parts (test p) _ h).0 (some-front ps rest (and_parts (test p) _ h).1)

  pub each-behind : {A : Type 0} (f : A → Marks → Marks) → ((x : A) (rest : Marks) → Kept (f x rest) → Kept rest) →
      (xs : List A) (rest : Marks) → Kept (each_marks f xs rest) → Kept rest
  each-behind f step [] rest h = h
  each-behind f step (x ∷ xs) rest h = each-behind f step xs rest (step x (each_marks f xs rest) h)

  unkept : (b : Bool) (rest : Marks) → Kept (cond b (None ∷ rest) rest) → Kept rest
  unkept true rest h = h
  unkept false rest h = h

  pub place-behind : (t : SpelledToken) (rest : Marks) → Kept (no_place t rest) → Kept rest
  place-behind t rest h = unkept (is_kept t.kind t.text) rest h

  name-behind : (x : List ℕ) (rest : Marks) → Kept (no_name x rest) → Kept rest
  name-behind x rest h = h

  annotation-behind : (n : AnnotationTree) (rest : Marks) → Kept (annotation_marks n rest) → Kept rest
  annotation-behind n rest h =
      each-behind no_place place-behind n.arguments rest
      (each-behind no_name name-behind n.names (each_marks no_place n.arguments rest) h)

  pub modifier-behind : (m : modifiers.ModifierTree) (rest : Marks) → Kept (modifier_marks m rest) → Kept rest
  modifier-behind (modifier.Word text) rest h = place-behind (keyword text) rest h
  modifier-behind (modifier.Annotated n) rest h = annotation-behind n rest h

  parameter-behind : (p : ParameterTree) (rest : Marks) → Kept (parameter_marks p rest) → Kept rest
  parameter-behind p rest h =
      some-behind (p.name.place ∷ []) rest
      (some-behind (ty_places p.kind) (some_onto (p.name.place ∷ []) rest)
      (each-behind modifier_marks modifier-behind p.modifiers
      (some_onto (ty_places p.kind) (some_onto (p.name.place ∷ []) rest)) h))

  type_parameter-behind : (p : TypeParameterTree) (rest : Marks) → Kept (type_parameter_marks p rest) → Kept rest
  type_parameter-behind p rest h =
      let bounds = some_onto (all_places (map ty_places p.bounds)) rest in
      some-behind (all_places (map ty_places p.bounds)) rest
      (some-behind (p.name.place ∷ []) bounds
      (each-behind annotation_marks annotation-behind p.annotations (some_onto (p.name.place ∷ []) bounds) h))

  maybe_parameters-behind : (o : Option TypeParametersTree) (rest : Marks) →
      Kept (maybe_marks type_parameters_marks o rest) → Kept rest
  maybe_parameters-behind None rest h = h
  maybe_parameters-behind (Some ps) rest h =
      each-behind modifier_marks modifier-behind ps.modifiers rest
      (each-behind type_parameter_marks type_parameter-behind ps.items (each_marks modifier_marks ps.modifiers rest) h)

  -- the place of the name, and those of the body
  pub method-places : (t : MethodTree) → Kept (method_marks t) →
      (test t.name.place ≡ true) × Kept (each_puts (map stmt_places t.body) [])
  method-places t h =
      let body = each_puts (map stmt_places t.body) [] in
      let throws = some_onto (all_places (map ty_places t.throws)) body in
      let parameters = each_marks parameter_marks t.parameters throws in
      let name = some_onto (t.name.place ∷ []) parameters in
      let result = some_onto (result_places t.result) name in
      let first = each-behind modifier_marks modifier-behind t.modifiers
      (maybe_marks type_parameters_marks t.type_parameters result) h in
      let p = maybe_parameters-behind t.type_parameters result first in
      let q = some-behind (result_places t.result) name p in
      let r = each-behind parameter_marks parameter-behind t.parameters throws
      (some-behind (t.name.place ∷ []) parameters q) in (
        (and_parts (test t.name.place) _ (some-front (t.name.place ∷ []) parameters q)).0,
        some-behind (all_places (map ty_places t.throws)) body r,
      )

  -- ---- skipped places

  put-all : (b : Bool) (p q : Place) (qs more : List Place) → test p ≡ true → test q ≡ true → All qs → All more →
      All (cond b (q ∷ more) (p ∷ q ∷ qs))
  put-all true p q qs more h k all most = and_from (test q) _ k most
  put-all false p q qs more h k all most = and_from (test p) _ h (and_from (test q) _ k all)

  put_in-all : (p : Place) (ps : List Place) → test p ≡ true → All ps → All (put_in p ps)
  put_in-all p [] h all = and_from (test p) true h refl
  put_in-all p (q ∷ qs) h all =
      put-all (is_before q p) p q qs (put_in p qs) h (and_parts (test q) _ all).0 (and_parts (test q) _ all).1
      (put_in-all p qs h (and_parts (test q) _ all).1)

  in_order-all : (ps : List Place) → All ps → All (in_order ps)
  in_order-all [] all = refl
  in_order-all (p ∷ ps) all =
      put_in-all p (in_order ps) (and_parts (test p) _ all).0 (in_order-all ps (and_parts (test p) _ all).1)

  skipped_member-all : (x : Member) → All (member_places x) → All (skipped_member x)
  skipped_member-all (member.Skipped place) h = h
  skipped_member-all (member.Method t) h = refl
  skipped_member-all (member.Outside o) h = refl
  skipped_member-all (member.Field f) h = refl

  each-step : {A : Type 0} (f g : A → List Place) → ((x : A) → All (f x) → All (g x)) → (xs : List A) →
      All (flat_map f xs) → All (flat_map g xs)
  each-step f g step [] h = refl
  each-step f g step (x ∷ xs) h =
      let p = all-two (f x) (flat_map f xs) h in
      list_all-append test (g x) (flat_map g xs)
      ∙ and_from (list_all test (g x)) (list_all test (flat_map g xs)) (step x p.0) (each-step f g step xs p.1)

  pub members-all : (c : ClassTree) → All (class_places c) → All (flat_map member_places c.members)
  members-all c h = (and_parts (test c.place) _ h).1

  skipped_in-all : (u : unit_type.Unit) → All (unit_places u) → All (skipped_in u)
  skipped_in-all u h =
      let p = all-two u.skipped (flat_map class_places u.classes) h in
      list_all-append test u.skipped (flat_map (λ (c : ClassTree). flat_map skipped_member c.members) u.classes)
      ∙ and_from (list_all test u.skipped) _ p.0
      (each-step class_places (λ (c : ClassTree). flat_map skipped_member c.members)
      (λ c k. each-step member_places skipped_member skipped_member-all c.members (members-all c k)) u.classes p.1)

  pub skipped-all : (units : List unit_type.Unit) → All (flat_map unit_places units) →
      All (in_order (flat_map skipped_in units))
  skipped-all units h =
      in_order-all (flat_map skipped_in units) (each-step unit_places skipped_in skipped_in-all units h)

  abbrev pub PlacedClass : ClassTree → Type 0
  PlacedClass c = All (class_places c)

  pub trees-placed : (units : List unit_type.Unit) → All (flat_map unit_places units) →
      Each PlacedClass (trees_of units)
  trees-placed units h =
      each-from (λ u. All (unit_places u)) PlacedClass (λ (u : unit_type.Unit). u.classes)
      (λ u k. each-places class_places u.classes (let p = all-two u.skipped (flat_map class_places u.classes) k in p.1))
      units (each-places unit_places units h)

  abbrev pub PlacedBody : Body → Type 0
  PlacedBody Default = Unit {0}
  PlacedBody (Spelled t) = Kept (method_marks t)
  PlacedBody Unspelled = Unit {0}

  -- ---- what methods are made of

  -- of a method, and of the members of its class
  pub record PlacedSource (s : Source) : Type 0 where
    pub members : All (flat_map member_places s.members)
    pub body : PlacedBody s.body

  member-placed : (names : List (List ℕ)) (c : ClassId) (tree : ClassTree) → PlacedClass tree → (x : Member) →
      All (member_places x) → Each PlacedSource (member_sources names c tree x)
  member-placed names c tree p (member.Method t) k =
      (record { members = members-all tree p; body = k }, tt)
  member-placed names c tree p (member.Outside o) k = (record { members = members-all tree p; body = tt }, tt)
  member-placed names c tree p (member.Field f) k = tt
  member-placed names c tree p (member.Skipped place) k = tt

  class-placed : (names : List (List ℕ)) (c : ClassId) (tree : ClassTree) → PlacedClass tree →
      Each PlacedSource (class_sources names c tree)
  class-placed names c tree p =
      each-append PlacedSource (default_sources c tree) (flat_map (member_sources names c tree) tree.members)
      (unless PlacedSource (list_any member_is_constructor tree.members)
      (record { info = default_constructor c tree; members = tree.members; body = Default } ∷ [])
      (record { members = members-all tree p; body = tt }, tt))
      (each-from (λ x. All (member_places x)) PlacedSource (member_sources names c tree)
      (member-placed names c tree p) tree.members (each-places member_places tree.members (members-all tree p)))

  pub sources-placed : (units : List unit_type.Unit) → All (flat_map unit_places units) →
      Each PlacedSource (sources_of units)
  sources-placed units h =
      bounded-by_class PlacedSource PlacedClass (class_sources (names_of units)) (length (trees_of units))
      (λ c tree below p. class-placed (names_of units) c tree p) 0 (trees_of units) (omega arith)
      (trees-placed units h)
