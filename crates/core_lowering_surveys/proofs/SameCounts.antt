-- Methods that are called as one have one first method.
use Rattle.std.proofs.Common.{◌≡◌, ℕ, suc, ◌<◌, Bool, true, false, cond, ◌&&◌, List, [], ◌∷◌, Option, Some, None}
use Rattle.std.proofs.Common.{length}
use Rattle.std.proofs.Common.{refl, sym, ap, ◌∙◌, subst, slice_get, nat_eq, nat_lt, arith}
use Rattle.std.specs.Prelude.{option_map, count_by, bytes_eq, if◌then◌else◌}
use borrow.Author.Tests.{eqb-true}
use Rattle.std.proofs.lemmas.Bool.{false≢true, eq-eqb, and_from, and_parts}
use Rattle.std.proofs.lemmas.List.Sums.{sum_by-cons}
use Rattle.std.proofs.lemmas.Option.{same_Some, none-some, slice_get_within}
use Rattle.racer_base.specs.declared.ids.ClassId.{ClassId}
use Rattle.racer_base.specs.declared.ids.MethodId.{MethodId}
use Rattle.racer_base.proofs.Tests.{bytes_same}
use Rattle.core_lowering_rules.proofs.Texts.{bytes_is}
use Rattle.java_resolver.specs.declared.infos.MethodInfo.{MethodInfo}
use Rattle.java_resolver.specs.Firsts.{first_that}
use Rattle.java_resolver.specs.Meanings.{is_called, exactly_found}
use Rattle.core_lowering_rules.specs.Programs.{is_overloaded}
use Rattle.core_lowering_rules.proofs.FoundElements.{first-passes, numbered-method}
use Rattle.core_lowering_surveys.specs.Counts.{first_of, is_number, tally}

-- ---- methods that are called as one

record CalledAs (a b : MethodInfo) : Type 0 where
  pub class : a.class ≡ b.class
  pub name : a.name ≡ b.name
  pub many : length a.parameters ≡ length b.parameters

abbrev as_one : MethodInfo → MethodInfo → Bool
as_one a b = is_called a.class a.name (length a.parameters) b

called-as : (a b : MethodInfo) → as_one a b ≡ true → CalledAs b a
called-as a b h =
    let front = (and_parts (nat_eq b.class.0 a.class.0 && nat_eq (length b.parameters) (length a.parameters)) _ h).0 in
    record {
      class =
          ap (λ (n : ℕ). let made : ClassId = record { 0 = n } in made)
          (eqb-true b.class.0 a.class.0 (and_parts (nat_eq b.class.0 a.class.0) _ front).0);
      name =
          bytes_is b.name a.name
          (and_parts (nat_eq b.class.0 a.class.0 && nat_eq (length b.parameters) (length a.parameters)) _ h).1;
      many =
          eqb-true (length b.parameters) (length a.parameters) (and_parts (nat_eq b.class.0 a.class.0) _ front).1;
    }

is-one : (a b : MethodInfo) → CalledAs b a → as_one a b ≡ true
is-one a b s =
    and_from (nat_eq b.class.0 a.class.0 && nat_eq (length b.parameters) (length a.parameters)) _
    (and_from (nat_eq b.class.0 a.class.0) _ (eq-eqb b.class.0 a.class.0 (ap (λ (c : ClassId). c.0) s.class))
    (eq-eqb (length b.parameters) (length a.parameters) s.many))
    (subst (λ (text : List ℕ). bytes_eq text a.name ≡ true) (sym s.name) (bytes_same a.name))

first-same : (methods : List MethodInfo) (a b : MethodInfo) → CalledAs b a → first_of methods b ≡ first_of methods a
first-same methods a b s =
    ap (λ (c : ClassId). exactly_found methods c b.name (length b.parameters)) s.class
    ∙ ap (λ text. exactly_found methods a.class text (length b.parameters)) s.name
    ∙ ap (λ n. exactly_found methods a.class a.name n) s.many

-- the first method of one is called as it
first-there : (methods : List MethodInfo) (a : MethodInfo) (f : MethodId) → first_of methods a ≡ Some f →
    (y : MethodInfo) × (slice_get methods f.0 ≡ Some y) × CalledAs y a
first-there methods a f e =
    let y = first-passes (as_one a) methods f.0 (numbered-method (first_that (as_one a) methods) f e) in
    (y.0, y.1, called-as a y.0 y.2)

pub first-below : (methods : List MethodInfo) (a : MethodInfo) (f : MethodId) → first_of methods a ≡ Some f →
    f.0 < length methods
first-below methods a f e = let y = first-there methods a f e in slice_get_within methods f.0 y.0 y.1

-- two methods with one first method are called as one
one-first : (methods : List MethodInfo) (a b : MethodInfo) (f g : MethodId) → first_of methods a ≡ Some f →
    first_of methods b ≡ Some g → g.0 ≡ f.0 → as_one a b ≡ true
one-first methods a b f g e h same =
    let x = first-there methods a f e in
    let y = first-there methods b g h in
    let z : y.0 ≡ x.0 = same_Some _ _ (sym y.1 ∙ ap (slice_get methods) same ∙ x.1) in
    is-one a b (record {
      class = sym y.2.class ∙ ap (λ (m : MethodInfo). m.class) z ∙ x.2.class;
      name = sym y.2.name ∙ ap (λ (m : MethodInfo). m.name) z ∙ x.2.name;
      many = sym y.2.many ∙ ap (λ (m : MethodInfo). length m.parameters) z ∙ x.2.many;
    })

abbrev one_if : Bool → ℕ
one_if t = if t then 1 else 0

one_if-cond : (t : Bool) → one_if t ≡ cond t 1 0
one_if-cond true = refl
one_if-cond false = refl

module _ (methods : List MethodInfo) (a : MethodInfo) (f : MethodId) (first : first_of methods a ≡ Some f) where
  others : (b : MethodInfo) (g : MethodId) → first_of methods b ≡ Some g → as_one a b ≡ false → (t : Bool) →
      nat_eq g.0 f.0 ≡ t → t ≡ false
  others b g e h true k =
      absurd (false≢true (sym h ∙ one-first methods a b f g first e (eqb-true g.0 f.0 k)))
  others b g e h false k = refl

  not_one : (b : MethodInfo) (o : Option MethodId) → first_of methods b ≡ o → as_one a b ≡ false →
      is_number o f.0 ≡ false
  not_one b None e h = refl
  not_one b (Some g) e h = others b g e h (nat_eq g.0 f.0) refl

  same-by : (b : MethodInfo) (t : Bool) → as_one a b ≡ t → is_number (first_of methods b) f.0 ≡ t
  same-by b true h =
      ap (λ (o : Option MethodId). is_number o f.0) (first-same methods a b (called-as a b h) ∙ first)
      ∙ eq-eqb f.0 f.0 refl
  same-by b false h = not_one b (first_of methods b) refl h

  tally-counts : (some : List MethodInfo) → tally methods f.0 some ≡ count_by (as_one a) some
  tally-counts [] = refl
  tally-counts (b ∷ bs) =
      let next = sum_by-cons (λ m. cond (as_one a m) 1 0) b bs in
      let rest = tally-counts bs in
      let same : one_if (is_number (first_of methods b) f.0) ≡ one_if (as_one a b) =
      ap one_if (same-by b (as_one a b) refl) in
      let counted = one_if-cond (as_one a b) in omega arith

  pub overload-counted : (count : ℕ) → count ≡ tally methods f.0 methods → nat_lt 1 count ≡ is_overloaded methods a
  overload-counted count e = ap (nat_lt 1) (e ∙ tally-counts methods)

-- where none is the first, none is called so
none-passes : {A : Type 0} (test : A → Bool) (xs : List A) → first_that test xs ≡ None → count_by test xs ≡ 0
none-passes test [] e = refl
none-passes {A} test (x ∷ xs) e = by (none-passes test xs) (test x) refl
  where
    none-next : (o : Option ℕ) → option_map suc o ≡ None → o ≡ None
    none-next None e = refl
    none-next (Some n) e = absurd (none-some _ (sym e))

    by : (first_that test xs ≡ None → count_by test xs ≡ 0) → (t : Bool) → test x ≡ t → count_by test (x ∷ xs) ≡ 0
    by later true h =
        absurd (none-some _
        (sym e ∙ ap (λ (t : Bool). if t then Some 0 else option_map suc (first_that test xs)) h))
    by later false h =
        let next = sum_by-cons (λ m. cond (test m) 1 0) x xs in
        let own : cond {A = ℕ} (test x) 1 0 ≡ 0 = ap (λ (t : Bool). cond {A = ℕ} t 1 0) h in
        let others : count_by test xs ≡ 0 =
        later (none-next (first_that test xs)
        (sym (ap (λ (t : Bool). if t then Some 0 else option_map suc (first_that test xs)) h) ∙ e)) in
        omega arith

pub none-overloaded : (methods : List MethodInfo) (a : MethodInfo) → first_of methods a ≡ None →
    false ≡ is_overloaded methods a
none-overloaded methods a e =
    sym (ap (nat_lt 1) (none-passes (as_one a) methods (none-first (first_that (as_one a) methods) e)))
  where
    none-first : (o : Option ℕ) → option_map (λ n. let made : MethodId = record { 0 = n } in made) o ≡ None → o ≡ None
    none-first None e = refl
    none-first (Some n) e = absurd (none-some _ (sym e))
