-- What is found in the lists of a folder.
use Rattle.std.proofs.Common.{◌≡◌, ◌≤◌, ℕ, suc, Bool, true, false, cond, not, ◌&&◌, ◌||◌, List, [], ◌∷◌, Option, Some}
use Rattle.std.proofs.Common.{None}
use Rattle.std.proofs.Common.{refl, sym, ap, ◌∙◌, subst, slice_get, length, ◌++◌, nat_lt, arith}
use Rattle.std.specs.Prelude.{option_map, option_and_then, ◌==◌}
use Rattle.std.specs.List.{flat_map, list_any}
use Rattle.std.specs.Option.{option_or}
use Rattle.std.proofs.lemmas.Option.{same_Some, none-some}
use Rattle.std.proofs.lemmas.Bool.{and_parts, eq-eqb}
use borrow.Author.Tests.{eqb-true, ltb-false}
use Rattle.racer_base.specs.declared.ids.ClassId.{ClassId}
use Rattle.racer_base.specs.declared.ids.FieldId.{FieldId}
use Rattle.racer_base.specs.declared.ids.Kind.{Kind}
use Rattle.racer_base.specs.declared.ids.MethodId.{MethodId}
use Rattle.racer_base.proofs.Tests.{implied}
use Rattle.java_resolver.specs.declared.infos.FieldInfo.{FieldInfo}
use Rattle.java_resolver.specs.declared.infos.MethodInfo.{MethodInfo}
use Rattle.java_resolver.specs.Firsts.{first_that, only_that, last_that}
use Rattle.java_resolver.specs.Meanings.{is_seen, field_named, is_called, exactly_found, is_called_with_any}
use Rattle.java_resolver.specs.Meanings.{are_enough, is_enough, if_enough, found_with_any, found}

first_from : {A : Type 0} (test : A → Bool) (x : A) (xs : List A) →
    ((n : ℕ) → first_that test xs ≡ Some n → (y : A) × (slice_get xs n ≡ Some y) × (test y ≡ true)) →
    (b : Bool) → test x ≡ b → (o : Option ℕ) → first_that test xs ≡ o → (n : ℕ) →
    cond b (Some 0) (option_map suc o) ≡ Some n → (y : A) × (slice_get (x ∷ xs) n ≡ Some y) × (test y ≡ true)
first_from test x xs more true passes o there n e =
    (x, subst (λ k. slice_get (x ∷ xs) k ≡ Some x) (same_Some _ _ e) refl, passes)
first_from test x xs more false fails None there n e = absurd (none-some _ e)
first_from test x xs more false fails (Some k) there n e =
    let y = more k there in
    (y.0, subst (λ j. slice_get (x ∷ xs) j ≡ Some y.0) (same_Some _ _ e) y.1, y.2)

-- the first element that passes is there, and passes
pub first-passes : {A : Type 0} (test : A → Bool) (xs : List A) (n : ℕ) → first_that test xs ≡ Some n →
    (y : A) × (slice_get xs n ≡ Some y) × (test y ≡ true)
first-passes test [] n e = absurd (none-some _ e)
first-passes test (x ∷ xs) n e =
    first_from test x xs (first-passes test xs) (test x) refl (first_that test xs) refl n e

numbered-field : (o : Option ℕ) (f : FieldId) → option_map
    (λ n. let made : FieldId = record { 0 = n } in made) o ≡ Some f →
    o ≡ Some f.0
numbered-field None f e = absurd (none-some _ e)
numbered-field (Some n) f e = ap (λ (g : FieldId). Some g.0) (same_Some _ _ e)

pub numbered-method : (o : Option ℕ) (m : MethodId) →
    option_map (λ n. let made : MethodId = record { 0 = n } in made) o ≡ Some m → o ≡ Some m.0
numbered-method None m e = absurd (none-some _ e)
numbered-method (Some n) m e = ap (λ (g : MethodId). Some g.0) (same_Some _ _ e)

-- a field that is found in a class
pub record FieldThere (fields : List FieldInfo) (c : ClassId) (in_static : Bool) (f : FieldId) : Type 0 where
  pub info : FieldInfo
  pub there : slice_get fields f.0 ≡ Some info
  pub class_is : info.class ≡ c
  pub static_is : in_static ≡ true → info.is_static ≡ true

pub field-there : (fields : List FieldInfo) (c : ClassId) (in_static : Bool) (name : List ℕ) (f : FieldId) →
    field_named fields c in_static name ≡ Some f → FieldThere fields c in_static f
field-there fields c in_static name f e =
    let y = first-passes (is_seen c in_static name) fields f.0
    (numbered-field (first_that (is_seen c in_static name) fields) f e) in
    let seen = (and_parts (not in_static || y.0.is_static) _ y.2).0 in
    let own = (and_parts (y.0.class.0 == c.0) _ (and_parts (not in_static || y.0.is_static) _ y.2).1).0 in
    record {
      info = y.0;
      there = y.1;
      class_is = ap (λ (n : ℕ). let made : ClassId = record { 0 = n } in made) (eqb-true y.0.class.0 c.0 own);
      static_is = implied in_static y.0.is_static seen;
    }

-- where arguments and parameters are others in number, the arguments are enough for the parameters but the last
abbrev pub IsEnough : (arguments parameters : ℕ) → Type 0
IsEnough count parameters = (count == parameters) ≡ false → (1 ≤ parameters) × (parameters ≤ suc count)

-- a method that is found in a class
pub record MethodThere (methods : List MethodInfo) (c : ClassId) (count : ℕ) (m : MethodId) : Type 0 where
  pub info : MethodInfo
  pub there : slice_get methods m.0 ≡ Some info
  pub class_is : info.class ≡ c
  pub enough : IsEnough count (length info.parameters)

same-class_id : (a b : ClassId) → (a.0 == b.0) ≡ true → a ≡ b
same-class_id a b e = ap (λ (n : ℕ). let made : ClassId = record { 0 = n } in made) (eqb-true a.0 b.0 e)

as-many : (count n : ℕ) → (n == count) ≡ true → IsEnough count n
as-many count n e differ =
    let same : (count == n) ≡ true = eq-eqb count n (sym (eqb-true n count e)) in
    let both : true ≡ false = sym same ∙ differ in absurd cc

exactly-there : (methods : List MethodInfo) (c : ClassId) (name : List ℕ) (count : ℕ) (m : MethodId) →
    exactly_found methods c name count ≡ Some m → MethodThere methods c count m
exactly-there methods c name count m e =
    let y = first-passes (is_called c name count) methods m.0
    (numbered-method (first_that (is_called c name count) methods) m e) in
    let both = (and_parts (y.0.class.0 == c.0 && length y.0.parameters == count) _ y.2).0 in
    record {
      info = y.0;
      there = y.1;
      class_is = same-class_id y.0.class c (and_parts (y.0.class.0 == c.0) _ both).0;
      enough = as-many count (length y.0.parameters) (and_parts (y.0.class.0 == c.0) _ both).1;
    }

only_from : {A : Type 0} (test : A → Bool) (x : A) (xs : List A) →
    ((n : ℕ) → only_that test xs ≡ Some n → (y : A) × (slice_get xs n ≡ Some y) × (test y ≡ true)) →
    (b : Bool) → test x ≡ b → (again : Bool) (o : Option ℕ) → only_that test xs ≡ o → (n : ℕ) →
    cond b (cond again None (Some 0)) (option_map suc o) ≡ Some n →
    (y : A) × (slice_get (x ∷ xs) n ≡ Some y) × (test y ≡ true)
only_from test x xs more true passes true o there n e = absurd (none-some _ e)
only_from test x xs more true passes false o there n e =
    (x, subst (λ k. slice_get (x ∷ xs) k ≡ Some x) (same_Some _ _ e) refl, passes)
only_from test x xs more false fails again None there n e = absurd (none-some _ e)
only_from test x xs more false fails again (Some k) there n e =
    let y = more k there in
    (y.0, subst (λ j. slice_get (x ∷ xs) j ≡ Some y.0) (same_Some _ _ e) y.1, y.2)

-- the only element that passes is there, and passes
only-passes : {A : Type 0} (test : A → Bool) (xs : List A) (n : ℕ) → only_that test xs ≡ Some n →
    (y : A) × (slice_get xs n ≡ Some y) × (test y ≡ true)
only-passes test [] n e = absurd (none-some _ e)
only-passes test (x ∷ xs) n e =
    only_from test x xs (only-passes test xs) (test x) refl (list_any test xs) (only_that test xs) refl n e

not-true : (b : Bool) → not b ≡ true → b ≡ false
not-true true e = sym e
not-true false e = refl

enough-of : (count : ℕ) (ks : List Kind) → are_enough count ks ≡ true →
    (1 ≤ length ks) × (length ks ≤ suc count)
enough-of count [] e = absurd cc
enough-of count (k ∷ ks) e =
    let few : length ks ≤ count = ltb-false count (length ks) (not-true (nat_lt count (length ks)) e) in
    (omega arith, omega (arith, few))

enough-there : (methods : List MethodInfo) (c : ClassId) (name : List ℕ) (count n : ℕ) (m : MethodId) →
    only_that (is_called_with_any c name) methods ≡ Some n → (b : Bool) →
    is_enough count (slice_get methods n) ≡ b →
    cond b (Some (let made : MethodId = record { 0 = n } in made)) None ≡ Some m → MethodThere methods c count m
enough-there methods c name count n m e false h is = absurd (none-some _ is)
enough-there methods c name count n m e true h is =
    let y = only-passes (is_called_with_any c name) methods n e in
    let number : n ≡ m.0 = ap (λ (i : MethodId). i.0) (same_Some _ _ is) in
    let named = (and_parts y.0.any_number _ y.2).1 in
    record {
      info = y.0;
      there = subst (λ (k : ℕ). slice_get methods k ≡ Some y.0) number y.1;
      class_is = same-class_id y.0.class c (and_parts (y.0.class.0 == c.0) _ named).0;
      enough = λ differ. enough-of count y.0.parameters (sym (ap (is_enough count) y.1) ∙ h);
    }

with_any-there : (methods : List MethodInfo) (c : ClassId) (name : List ℕ) (count : ℕ) (m : MethodId)
    (o : Option ℕ) → only_that (is_called_with_any c name) methods ≡ o →
    option_and_then (if_enough methods count) o ≡ Some m → MethodThere methods c count m
with_any-there methods c name count m None e is = absurd (none-some _ is)
with_any-there methods c name count m (Some n) e is =
    enough-there methods c name count n m e (is_enough count (slice_get methods n)) refl is

found-there : (methods : List MethodInfo) (c : ClassId) (name : List ℕ) (count : ℕ) (m : MethodId)
    (o : Option MethodId) → exactly_found methods c name count ≡ o →
    option_or o (found_with_any methods c name count) ≡ Some m → MethodThere methods c count m
found-there methods c name count m None e is =
    with_any-there methods c name count m (only_that (is_called_with_any c name) methods) refl is
found-there methods c name count m (Some x) e is = exactly-there methods c name count m (e ∙ is)

pub method-there : (methods : List MethodInfo) (c : ClassId) (name : List ℕ) (count : ℕ) (m : MethodId) →
    found methods c name count ≡ Some m → MethodThere methods c count m
method-there methods c name count m e =
    found-there methods c name count m (exactly_found methods c name count) refl e

last_from : {A : Type 0} (P : A → Type 0) (x : A) (b : Bool) (o : Option A) (y : A) → P x → (o ≡ Some y → P y) →
    option_or o (cond b (Some x) None) ≡ Some y → P y
last_from P x b (Some z) y first later e = later e
last_from P x true None y first later e = subst P (same_Some _ _ e) first
last_from P x false None y first later e = absurd (none-some _ e)

-- what holds of all
abbrev pub Each : {A : Type 0} → (A → Type 0) → List A → Type 0
Each P [] = Unit {0}
Each P (x ∷ xs) = P x × Each P xs

-- what holds of all holds of the last that passes
pub last-holds : {A : Type 0} (P : A → Type 0) (test : A → Bool) (xs : List A) (y : A) → Each P xs →
    last_that test xs ≡ Some y → P y
last-holds P test [] y all e = absurd (none-some _ e)
last-holds P test (x ∷ xs) y all e =
    last_from P x (test x) (last_that test xs) y all.0 (last-holds P test xs y all.1) e

pub each-append : {A : Type 0} (P : A → Type 0) (xs ys : List A) → Each P xs → Each P ys → Each P (xs ++ ys)
each-append P [] ys p q = q
each-append P (x ∷ xs) ys p q = (p.0, each-append P xs ys p.1 q)

pub each-flat_map : {A B : Type 0} (P : B → Type 0) (f : A → List B) → ((x : A) → Each P (f x)) → (xs : List A) →
    Each P (flat_map f xs)
each-flat_map P f all [] = tt
each-flat_map P f all (x ∷ xs) = each-append P (f x) (flat_map f xs) (all x) (each-flat_map P f all xs)

pub unless : {A : Type 0} (P : A → Type 0) (b : Bool) (xs : List A) → Each P xs → Each P (cond b [] xs)
unless P true xs all = tt
unless P false xs all = all
