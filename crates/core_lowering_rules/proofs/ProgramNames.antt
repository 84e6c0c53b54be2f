-- The names in a program are identifiers, and differ where they have to.
use Rattle.std.proofs.Common.{◌≡◌, ℕ, suc, ◌+◌, ◌≤◌, Bool, true, false, cond, not, ◌&&◌, List, [], ◌∷◌, ◌++◌, Option}
use Rattle.std.proofs.Common.{Some, ◌||◌, append-nil}
use Rattle.std.proofs.Common.{None, map, filter, refl, sym, ap, ◌∙◌, subst, arith, length, is_none, nat_eq, nat_lt}
use Rattle.std.specs.Prelude.{option_map, count_by}
use Rattle.std.specs.List.{list_all, find}
use Rattle.std.specs.Option.{option_or}
use borrow.Author.Tests.{eqb-true, ltb-false}
use Rattle.std.proofs.lemmas.Bool.{false≢true, eq-eqb, and_from, and_parts}
use Rattle.std.proofs.lemmas.List.Folds.{list_all-map}
use Rattle.std.proofs.lemmas.List.Sums.{sum_by-cons}
use Rattle.container_cells.specs.declared.cell.Containers.{Containers}
use Rattle.container_cells.specs.declared.cell.Containers.TheVariants.{Opaque}
use Rattle.racer_base.specs.declared.ids.MethodId.{MethodId}
use Rattle.racer_base.specs.declared.limits.TheConstants.{MAX_PARAMETERS, MAX_LOCALS}
use Rattle.racer_base.proofs.Tests.{bytes_same}
use Rattle.core_lowering_rules.proofs.Texts.{bytes_is}
use Rattle.java_tree.specs.declared.unit.Unit as unit_type
use Rattle.java_resolver.specs.declared.infos.ClassInfo.{ClassInfo}
use Rattle.java_resolver.specs.declared.infos.FieldInfo.{FieldInfo}
use Rattle.java_resolver.specs.declared.infos.MethodInfo.{MethodInfo}
use Rattle.java_resolver.specs.declared.fault.ResolveFault.{ResolveFault}
use Rattle.java_resolver.specs.Declarations.{classes_of, fields_of, methods_of}
use Rattle.java_resolver.specs.Meanings.{is_called}
use Rattle.java_resolver.specs.Refusals.{Repeat, repeated_after, repeated, same_class, same_field, duplicate_class}
use Rattle.java_resolver.specs.Refusals.{duplicate_field, too_many, refusal}
use Rattle.core_code.specs.declared.code.Reason.{Reason}
use Rattle.core_code.specs.declared.code.Reason.TheVariants.{Overload, Outside, Parameters, Locals, Operations}
use Rattle.core_code.specs.declared.code.Reason.TheVariants.{Recursive}
use Rattle.core_code.specs.declared.parts.ClassCore.{ClassCore}
use Rattle.core_code.specs.declared.parts.FieldCore.{FieldCore}
use Rattle.core_code.specs.Core.{Method}
use Rattle.core_code.specs.Names.{is_identifier, is_field_name, is_content_name, are_names_right, all_differ, same_text}
use Rattle.core_code.specs.Names.{do_classes_differ}
use Rattle.core_code.specs.Names.{do_fields_differ, same_signature, do_methods_differ}
use Rattle.core_code.specs.Names as names
use Rattle.core_code.proofs.FieldNames.{content-of}
use Rattle.core_lowering_rules.specs.Context.{Folder}
use Rattle.core_lowering_rules.specs.Methods.{Source, is_past_limit}
use Rattle.core_lowering_rules.specs.Programs.{sources_of, is_outside, is_overloaded, local_count, where_so, status_of}
use Rattle.core_lowering_rules.specs.Programs.{declared_in, statuses_from, folder_of, class_core, field_core}
use Rattle.core_lowering_rules.specs.Programs.{method_core}
use Rattle.core_lowering_rules.specs.Programs.{method_cores, program_of}
use Rattle.core_lowering_rules.specs.Conditions.{are_named}
use Rattle.core_lowering_rules.proofs.FoundElements.{Each}
use Rattle.core_lowering_rules.proofs.ContentFields.{all-pass}
use Rattle.core_lowering_rules.proofs.DifferentFields.{IsNamed, all_differ-map, fields-apart}
use Rattle.core_lowering_rules.proofs.KindedPrograms.{known, sources-same}

-- ---- names are right

each-named : (fs : List FieldInfo) → list_all (λ (f : FieldInfo). is_identifier f.name) fs ≡ true → Each IsNamed fs
each-named [] h = tt
each-named (f ∷ fs) h =
    let parts = and_parts (is_identifier f.name) (list_all (λ (g : FieldInfo). is_identifier g.name) fs) h in
    (parts.0, each-named fs parts.1)

pub fields-named : (units : List unit_type.Unit) → are_named units ≡ true → Each IsNamed (fields_of units)
fields-named units h =
    each-named (fields_of units)
    (and_parts (list_all (λ (c : ClassInfo). is_identifier c.name) (classes_of units)) _ h).1

pub names-right : (containers : Containers) (files : List (List ℕ)) (units : List unit_type.Unit)
    (is_recursive : MethodId → Bool) →
    are_named units ≡ true → are_names_right (program_of containers files units is_recursive) ≡ true
names-right containers files units is_recursive h =
    and_from (list_all (λ (c : ClassCore). is_identifier c.name) (map class_core (classes_of units))) _
    (list_all-map (λ (c : ClassCore). is_identifier c.name) class_core (classes_of units)
    ∙ (and_parts (list_all (λ (c : ClassInfo). is_identifier c.name) (classes_of units)) _ h).0)
    (all-pass (λ (f : FieldCore). is_field_name f.name) IsNamed
    (λ f named. ap (λ b. b || is_content_name f.name) named)
    (λ f named. content-of f.name ∙ named) containers (fields_of units) (fields-named units h))

-- ---- lists without repetitions

each-front : {A : Type 0} (P : A → Type 0) (xs ys : List A) → Each P (xs ++ ys) → Each P xs
each-front P [] ys all = tt
each-front P (x ∷ xs) ys all = (all.0, each-front P xs ys all.1)

each-back : {A : Type 0} (P : A → Type 0) (xs ys : List A) → Each P (xs ++ ys) → Each P ys
each-back P [] ys all = all
each-back P (x ∷ xs) ys all = each-back P xs ys all.1

fails-from : {A : Type 0} (test : A → Bool) (x : A) (xs : List A) (b : Bool) → test x ≡ b →
    (find test xs ≡ None → Each (λ y. test y ≡ false) xs) → cond b (Some x) (find test xs) ≡ None →
    Each (λ y. test y ≡ false) (x ∷ xs)
fails-from test x xs true passes more e = cc
fails-from test x xs false fails more e = (fails, more e)

none-passes : {A : Type 0} (test : A → Bool) (xs : List A) → find test xs ≡ None → Each (λ y. test y ≡ false) xs
none-passes test [] e = tt
none-passes test (x ∷ xs) e = fails-from test x xs (test x) refl (none-passes test xs) e

module _ {A : Type 0} (same : A → A → Bool) where
  -- none of these is the same as this one
  abbrev IsApart : List A → A → Type 0
  IsApart xs y = list_all (λ x. not (same y x)) xs ≡ true

  apart-none : (seen : List A) → Each (IsApart []) seen
  apart-none [] = tt
  apart-none (y ∷ seen) = (refl, apart-none seen)

  apart-one : (x : A) (xs seen : List A) → Each (λ y. same y x ≡ false) seen → Each (IsApart xs) seen →
      Each (IsApart (x ∷ xs)) seen
  apart-one x xs [] p q = tt
  apart-one x xs (y ∷ seen) p q =
      (and_from (not (same y x)) _ (ap not p.0) q.0, apart-one x xs seen p.1 q.1)

  abbrev Unrepeated : List A → List A → Type 0
  Unrepeated seen xs = Each (IsApart xs) seen × (all_differ same xs ≡ true)

  unrepeated-by : (seen : List A) (x : A) (xs : List A) (o : Option A) → find (λ y. same y x) seen ≡ o →
      (repeated_after same (seen ++ x ∷ []) xs ≡ None → Unrepeated (seen ++ x ∷ []) xs) →
      elim o as (λ _. Option (Repeat A)) [
        | Some y ↦ Some (record { first = y; second = x })
        | None ↦ repeated_after same (seen ++ x ∷ []) xs
      ] ≡ None → Unrepeated seen (x ∷ xs)
  unrepeated-by seen x xs (Some y) there more e = cc
  unrepeated-by seen x xs None there more e =
      let rest = more e in
      let own = each-back (IsApart xs) seen (x ∷ []) rest.0 in (
        apart-one x xs seen (none-passes (λ y. same y x) seen there) (each-front (IsApart xs) seen (x ∷ []) rest.0),
        and_from (list_all (λ y. not (same x y)) xs) _ own.0 rest.1,
      )

  unrepeated : (xs seen : List A) → repeated_after same seen xs ≡ None → Unrepeated seen xs
  unrepeated [] seen e = (apart-none seen, refl)
  unrepeated (x ∷ xs) seen e =
      unrepeated-by seen x xs (find (λ y. same y x) seen) refl (unrepeated xs (seen ++ x ∷ [])) e

or-none : {A : Type 0} (a b : Option A) → option_or a b ≡ None → (a ≡ None) × (b ≡ None)
or-none None b e = (refl, e)
or-none (Some x) b e = cc

map-none : {A B : Type 0} (f : A → B) (o : Option A) → option_map f o ≡ None → o ≡ None
map-none f None e = refl
map-none f (Some x) e = cc

abbrev too_many_in : List unit_type.Unit → Option ResolveFault
too_many_in units = too_many (length (classes_of units)) (length (methods_of units))

module _ (units : List unit_type.Unit) (accepted : refusal units ≡ None) where
  first_parts : (duplicate_class (classes_of units) ≡ None)
      × (option_or (duplicate_field (fields_of units)) (too_many_in units) ≡ None)
  first_parts =
      or-none (duplicate_class (classes_of units))
      (option_or (duplicate_field (fields_of units)) (too_many_in units)) accepted

  classes-unrepeated : all_differ same_class (classes_of units) ≡ true
  classes-unrepeated =
      let rest = unrepeated same_class (classes_of units) []
      (map-none _ (repeated same_class (classes_of units)) first_parts.0) in rest.1

  fields-unrepeated : all_differ same_field (fields_of units) ≡ true
  fields-unrepeated =
      let parts = or-none (duplicate_field (fields_of units)) (too_many_in units) first_parts.1 in
      let rest = unrepeated same_field (fields_of units) []
      (map-none _ (repeated same_field (fields_of units)) parts.0) in rest.1

  pub classes-differ : (containers : Containers) (files : List (List ℕ)) (is_recursive : MethodId → Bool) →
      do_classes_differ (program_of containers files units is_recursive) ≡ true
  classes-differ containers files is_recursive =
      all_differ-map (λ (a b : ClassCore). same_text a.name b.name) class_core (classes_of units) ∙ classes-unrepeated

  pub opaque-differ : (files : List (List ℕ)) (is_recursive : MethodId → Bool) →
      do_fields_differ (program_of Opaque files units is_recursive) ≡ true
  opaque-differ files is_recursive =
      ap (all_differ names.same_field) (append-nil (map field_core (fields_of units)))
      ∙ all_differ-map names.same_field field_core (fields_of units) ∙ fields-unrepeated

  pub fields-differ : (containers : Containers) (files : List (List ℕ)) (is_recursive : MethodId → Bool) →
      are_named units ≡ true → do_fields_differ (program_of containers files units is_recursive) ≡ true
  fields-differ containers files is_recursive named =
      fields-apart containers (fields_of units) (fields-named units named) fields-unrepeated

-- ---- methods

count-next : (test : MethodInfo → Bool) (x : MethodInfo) (xs : List MethodInfo) →
    count_by test (x ∷ xs) ≡ cond (test x) 1 0 + count_by test xs
count-next test x xs = sum_by-cons (λ y. cond (test y) 1 0) x xs

count-yes : (test : MethodInfo → Bool) (x : MethodInfo) (xs : List MethodInfo) → test x ≡ true →
    count_by test (x ∷ xs) ≡ 1 + count_by test xs
count-yes test x xs h = count-next test x xs ∙ ap (λ b. cond b 1 0 + count_by test xs) h

count-more : (test : MethodInfo → Bool) (x : MethodInfo) (xs : List MethodInfo) →
    count_by test xs ≤ count_by test (x ∷ xs)
count-more test x xs = let e = count-next test x xs in omega arith

none-from : (test : MethodInfo → Bool) (x : Source) (xs : List Source) (b : Bool) → test x.info ≡ b →
    (count_by test (map known xs) ≡ 0 → Each (λ (s : Source). test s.info ≡ false) xs) →
    count_by test (map known (x ∷ xs)) ≡ 0 → Each (λ (s : Source). test s.info ≡ false) (x ∷ xs)
none-from test x xs true passes more e =
    let one = count-yes test x.info (map known xs) passes in absurd (omega arith)
none-from test x xs false fails more e =
    let next = count-next test x.info (map known xs) in
    let same = ap (λ b. cond b 1 0 + count_by test (map known xs)) fails in (fails, more (omega arith))

none-counted : (test : MethodInfo → Bool) (xs : List Source) → count_by test (map known xs) ≡ 0 →
    Each (λ (s : Source). test s.info ≡ false) xs
none-counted test [] e = tt
none-counted test (x ∷ xs) e = none-from test x xs (test x.info) refl (none-counted test xs) e

called-same : (a b : MethodInfo) → nat_eq a.class.0 b.class.0 ≡ true → same_text a.name b.name ≡ true →
    nat_eq (length a.parameters) (length b.parameters) ≡ true →
    is_called a.class a.name (length a.parameters) b ≡ true
called-same a b p q r =
    and_from (nat_eq b.class.0 a.class.0 && nat_eq (length b.parameters) (length a.parameters)) _
    (and_from (nat_eq b.class.0 a.class.0) _ (eq-eqb b.class.0 a.class.0 (sym (eqb-true a.class.0 b.class.0 p)))
    (eq-eqb (length b.parameters) (length a.parameters)
    (sym (eqb-true (length a.parameters) (length b.parameters) r))))
    (subst (λ (text : List ℕ). same_text text a.name ≡ true) (bytes_is a.name b.name q) (bytes_same a.name))

called-itself : (a : MethodInfo) → is_called a.class a.name (length a.parameters) a ≡ true
called-itself a =
    called-same a a (eq-eqb a.class.0 a.class.0 refl) (bytes_same a.name)
    (eq-eqb (length a.parameters) (length a.parameters) refl)

where_so-none : (b : Bool) (reason : Reason) → where_so b reason ≡ None → b ≡ false
where_so-none true reason e = cc
where_so-none false reason e = refl

-- an analysed method is no overload
no-overload : (folder : Folder) (b : Bool) (s : Source) → status_of folder b s ≡ None →
    is_overloaded folder.methods s.info ≡ false
no-overload folder b s e =
    let parts = or-none (where_so (is_overloaded folder.methods s.info) Overload)
    (option_or (where_so (is_outside folder s) Outside)
    (option_or (where_so (nat_lt MAX_PARAMETERS (length s.info.parameters)) Parameters)
    (option_or (where_so (nat_lt MAX_LOCALS (local_count folder s)) Locals)
    (option_or (where_so (is_past_limit folder s) Operations) (where_so b Recursive))))) e in
    where_so-none (is_overloaded folder.methods s.info) Overload parts.0

abbrev is_read : Method → Bool
is_read m = is_none m.status

module _ (folder : Folder) where
  -- a method with the signature of another is called as it
  signed-called : (a b : Source) (p q : Option Reason) →
      same_signature (method_core folder a p) (method_core folder b q) ≡ true →
      is_called a.info.class a.info.name (length a.info.parameters) b.info ≡ true
  signed-called a b p q e =
      let front = (and_parts (nat_eq a.info.class.0 b.info.class.0 && same_text a.info.name b.info.name) _ e).0 in
      called-same a.info b.info (and_parts (nat_eq a.info.class.0 b.info.class.0) _ front).0
      (and_parts (nat_eq a.info.class.0 b.info.class.0) _ front).1
      (and_parts (nat_eq a.info.class.0 b.info.class.0 && same_text a.info.name b.info.name) _ e).1

  apart-by : (a b : Source) (p q : Option Reason) (test : Bool) →
      same_signature (method_core folder a p) (method_core folder b q) ≡ test →
      is_called a.info.class a.info.name (length a.info.parameters) b.info ≡ false → not test ≡ true
  apart-by a b p q true e fails = absurd (false≢true (sym fails ∙ signed-called a b p q e))
  apart-by a b p q false e fails = refl

  kept-apart : (a : Source) (p q : Option Reason) (b : Source) (rest : List Method) (test : Bool) →
      is_called a.info.class a.info.name (length a.info.parameters) b.info ≡ false →
      list_all (λ y. not (same_signature (method_core folder a p) y)) rest ≡ true →
      list_all (λ y. not (same_signature (method_core folder a p) y))
      (cond test (method_core folder b q ∷ rest) rest) ≡ true
  kept-apart a p q b rest true fails more =
      and_from (not (same_signature (method_core folder a p) (method_core folder b q))) _
      (apart-by a b p q (same_signature (method_core folder a p) (method_core folder b q)) refl fails) more
  kept-apart a p q b rest false fails more = more

  others-differ : (a : Source) (p : Option Reason) (sources : List Source) (statuses : List (Option Reason)) →
      Each (λ (s : Source). is_called a.info.class a.info.name (length a.info.parameters) s.info ≡ false) sources →
      list_all (λ y. not (same_signature (method_core folder a p) y))
      (filter is_read (method_cores folder sources statuses)) ≡ true
  others-differ a p [] statuses fails = refl
  others-differ a p (s ∷ sources) [] fails = refl
  others-differ a p (s ∷ sources) (status ∷ statuses) fails =
      kept-apart a p status s (filter is_read (method_cores folder sources statuses)) (is_none status) fails.0
      (others-differ a p sources statuses fails.1)

  -- the methods are counted among these
  module _ (declared : Folder) (is_recursive : MethodId → Bool) where
    abbrev AreCounted : List Source → Type 0
    AreCounted sources = (test : MethodInfo → Bool) → count_by test (map known sources) ≤ count_by test declared.methods

    abbrev cores_from : ℕ → List Source → List Method
    cores_from n sources = method_cores folder sources (statuses_from declared is_recursive n sources)

    alone : (s : Source) (sources : List Source) (b : Bool) → AreCounted (s ∷ sources) →
        status_of declared b s ≡ None →
        Each (λ (x : Source). is_called s.info.class s.info.name (length s.info.parameters) x.info ≡ false) sources
    alone s sources b counted e =
        let test : MethodInfo → Bool = is_called s.info.class s.info.name (length s.info.parameters) in
        let few : count_by test declared.methods ≤ 1 =
        ltb-false 1 (count_by test declared.methods) (no-overload declared b s e) in
        let one = count-yes test s.info (map known sources) (called-itself s.info) in
        let all = counted test in
        none-counted test sources (omega arith)

    differ-by : (s : Source) (sources : List Source) (b : Bool) (status : Option Reason) (rest : List Method) →
        status_of declared b s ≡ status →
        (status_of declared b s ≡ None →
        list_all (λ y. not (same_signature (method_core folder s None) y)) rest ≡ true) →
        all_differ same_signature rest ≡ true →
        all_differ same_signature (cond (is_none status) (method_core folder s status ∷ rest) rest) ≡ true
    differ-by s sources b (Some reason) rest e apart more = more
    differ-by s sources b None rest e apart more =
        and_from (list_all (λ y. not (same_signature (method_core folder s None) y)) rest) _ (apart e) more

    all-differ : (n : ℕ) (sources : List Source) → AreCounted sources →
        all_differ same_signature (filter is_read (cores_from n sources)) ≡ true
    all-differ n [] counted = refl
    all-differ n (s ∷ sources) counted =
        let b = is_recursive (record { 0 = n }) in
        differ-by s sources b (status_of declared b s) (filter is_read (cores_from (suc n) sources)) refl
        (λ e. others-differ s None sources (statuses_from declared is_recursive (suc n) sources)
        (alone s sources b counted e))
        (all-differ (suc n) sources
        (λ test. let more = count-more test s.info (map known sources) in let all = counted test in omega arith))

pub methods-differ : (containers : Containers) (files : List (List ℕ)) (units : List unit_type.Unit)
    (is_recursive : MethodId → Bool) →
    do_methods_differ (program_of containers files units is_recursive) ≡ true
methods-differ containers files units is_recursive =
    all-differ (folder_of containers units is_recursive) (declared_in containers units) is_recursive 0
    (sources_of units) (λ test. let same : count_by test (map known (sources_of units)) ≡ count_by test (methods_of units) =
    ap (count_by test) (sources-same units) in omega arith)
