-- Each record that has a conflict has exactly one warning.
use Rattle.std.proofs.Common.{◌≡◌, ℕ, zero, suc, ◌+◌, Bool, true, false, cond, ◌&&◌, inl, inr, List, [], ◌∷◌, ◌++◌}
use Rattle.std.proofs.Common.{Option, None, Some, option_map, is_some, map, slice_get, nat_eq, refl, sym, ap, subst}
use Rattle.std.proofs.Common.{◌∙◌, arith, eq-eqb, zero-add}
use Rattle.std.proofs.lemmas.Bool.{eqb-true, ne_eqb, and_parts}
use Rattle.std.specs.List.{count_by, enumerate_from, flat_map, filter_map, cons_option, find}
use Rattle.std.proofs.Math.Bool.{and-false, and-true}
use Rattle.racer_base.specs.declared.ids.ClassId.{ClassId}
use Rattle.racer_base.specs.declared.ids.MethodId.{MethodId}
use Rattle.racer_base.proofs.Lists.{count_append}
use Rattle.core_code.specs.Core.{Core, Method}
use Rattle.core_code.specs.declared.parts.ClassCore.{ClassCore}
use Rattle.access_domain.specs.declared.access.Access.{Access}
use Rattle.access_domain.specs.OutcomeRecords.{records_of}
use Rattle.race_pairs.specs.declared.warning.Warning.{Warning}
use Rattle.race_pairs.specs.Warnings.{MethodRecord, conflicts, numbered_record, numbered_records, is_entry_of}
use Rattle.race_pairs.specs.Warnings.{entry_records, records_in, warning_of, warning_among, warnings_among}
use Rattle.race_pairs.specs.Warnings.{class_warnings, warnings}
use Rattle.race_pairs.specs.Pairs.{IsCheckedClass, IsRecord, IsPair, is_warning_of}
use Rattle.core_code.proofs.Membership.{In, in_filter_map, in_map, in_enumerate_from, enumerate_from_has, flat_map_has}
use Rattle.core_code.proofs.Membership.{map_has, find_has}
use Rattle.race_pairs.proofs.WarningPairs.{listed_warning}

count_one : {X : Type 0} (p : X → Bool) (x : X) (b : Bool) → p x ≡ b → count_by p (x ∷ []) ≡ cond b 1 0
count_one p x b e = zero-add (cond (p x) 1 0) ∙ ap (λ c. cond c 1 0) e

count_cons : {X : Type 0} (p : X → Bool) (x : X) (xs : List X) (b : Bool) → p x ≡ b →
    count_by p (x ∷ xs) ≡ cond b 1 0 + count_by p xs
count_cons p x xs b e = count_append p (x ∷ []) xs ∙ ap (λ n. n + count_by p xs) (count_one p x b e)

none_counted : {X : Type 0} (p : X → Bool) (xs : List X) → ((x : X) → In xs x → p x ≡ false) → count_by p xs ≡ 0
none_counted p [] fails = refl
none_counted p (x ∷ xs) fails =
    let here : count_by p (x ∷ xs) ≡ 0 + count_by p xs = count_cons p x xs false (fails x (inl refl)) in
    let later : count_by p xs ≡ 0 = none_counted p xs (λ y h. fails y (inr h)) in
    omega arith

none_of_lists : {X Y : Type 0} (p : Y → Bool) (f : X → List Y) (xs : List X) →
    ((x : X) → In xs x → count_by p (f x) ≡ 0) → count_by p (flat_map f xs) ≡ 0
none_of_lists p f [] none = refl
none_of_lists p f (x ∷ xs) none =
    let here : count_by p (f x) ≡ 0 = none x (inl refl) in
    let later : count_by p (flat_map f xs) ≡ 0 = none_of_lists p f xs (λ y h. none y (inr h)) in
    let both : count_by p (f x ++ flat_map f xs) ≡ count_by p (f x) + count_by p (flat_map f xs) =
    count_append p (f x) (flat_map f xs) in
    omega arith

-- where all that are counted come from one element, they are those of that element
only_there : {X Y : Type 0} (p : Y → Bool) (f : ℕ × X → List Y) (n : ℕ) (xs : List X) (k : ℕ) (x : X) →
    slice_get xs k ≡ Some x → ((e : ℕ × X) → In (enumerate_from n xs) e → (e.0 ≡ n + k → ⊥) → count_by p (f e) ≡ 0) →
    count_by p (flat_map f (enumerate_from n xs)) ≡ count_by p (f (n + k, x))
only_there p f n [] k x is others = cc
only_there {X} {Y} p f n (y ∷ xs) zero x is others =
    let same : y ≡ x = cc in
    let later : count_by p (flat_map f (enumerate_from (n + 1) xs)) ≡ 0 =
    none_of_lists p f (enumerate_from (n + 1) xs)
    (λ e h. others e (inr h) (λ wrong. let moved = in_enumerate_from (n + 1) xs e h in
    let at : e.0 ≡ n + 1 + moved.0 = moved.1 in absurd (omega arith)))
    in
    let both : count_by p (f (n, y) ++ flat_map f (enumerate_from (n + 1) xs)) ≡ count_by p (f (n, y)) + count_by p
    (flat_map f (enumerate_from (n + 1) xs)) =
    count_append p (f (n, y)) (flat_map f (enumerate_from (n + 1) xs)) in
    let moved : n ≡ n + 0 = omega arith in
    let there : count_by p (f (n, y)) ≡ count_by p (f (n + 0, x)) = λ i. count_by p (f (moved i, same i)) in
    omega arith
only_there {X} {Y} p f n (y ∷ xs) (suc k) x is others =
    let here : count_by p (f (n, y)) ≡ 0 = others (n, y) (inl refl) (λ wrong. absurd (omega arith)) in
    let shift : n + 1 + k ≡ n + suc k = omega arith in
    let later : count_by p (flat_map f (enumerate_from (n + 1) xs)) ≡ count_by p (f (n + 1 + k, x)) =
    only_there p f (n + 1) xs k x is (λ e h other. others e (inr h)
    (λ wrong. other (let is_there : e.0 ≡ n + suc k = wrong in omega arith)))
    in
    let there : count_by p (f (n + 1 + k, x)) ≡ count_by p (f (n + suc k, x)) =
    ap (λ (m : ℕ). count_by p (f (m, x))) shift in
    let both : count_by p (f (n, y) ++ flat_map f (enumerate_from (n + 1) xs)) ≡ count_by p (f (n, y)) + count_by p
    (flat_map f (enumerate_from (n + 1) xs)) =
    count_append p (f (n, y)) (flat_map f (enumerate_from (n + 1) xs)) in
    omega arith

-- what is counted of the values that h gives, by the elements
count_given : {X Y : Type 0} (p : Y → Bool) (q : X → Bool) (h : X → Option Y) (xs : List X) →
    ((x : X) (y : Y) → h x ≡ Some y → p y ≡ q x) →
    count_by p (filter_map h xs) ≡ count_by (λ x. q x && is_some (h x)) xs
count_given p q h [] alike = refl
count_given {X} {Y} p q h (x ∷ xs) alike =
    let counted : X → Bool = λ z. q z && is_some (h z) in
    let later : count_by p (filter_map h xs) ≡ count_by counted xs = count_given p q h xs alike in
    elim (h x) as (λ o. h x ≡ o → count_by p (cons_option o (filter_map h xs)) ≡ count_by counted (x ∷ xs)) [
      | None ↦ λ e.
          let here : count_by counted (x ∷ xs) ≡ 0 + count_by counted xs =
          count_cons counted x xs false (ap (λ o. q x && is_some o) e ∙ and-false (q x)) in
          omega arith
      | Some y ↦ λ e.
          let here : count_by counted (x ∷ xs) ≡ cond (q x) 1 0 + count_by counted xs =
          count_cons counted x xs (q x) (ap (λ o. q x && is_some o) e ∙ and-true (q x)) in
          let there : count_by p (y ∷ filter_map h xs) ≡ cond (q x) 1 0 + count_by p (filter_map h xs) =
          count_cons p y (filter_map h xs) (q x) (alike x y e) in
          omega arith
    ] refl

map_as_lists : {X Y : Type 0} (g : X → Y) (xs : List X) → map g xs ≡ flat_map (λ x. g x ∷ []) xs
map_as_lists g [] = refl
map_as_lists g (x ∷ xs) = ap (λ ys. g x ∷ ys) (map_as_lists g xs)

nat_eq-itself : (n : ℕ) → nat_eq n n ≡ true
nat_eq-itself n = eq-eqb n n refl

-- whether a record is the one of this method and index
abbrev is_record : MethodId → ℕ → MethodRecord → Bool
is_record m i p = nat_eq p.method.0 m.0 && nat_eq p.index i

entry_test : (core : Core) (c : ClassId) (m : MethodId) (i : ℕ) (a : Access) (r : IsRecord core c m i a) →
    is_entry_of c r.method ≡ true
entry_test core c m i a r =
    ap (λ b. b && nat_eq r.method.class.0 c.0) r.entry ∙ ap (λ (d : ClassId). nat_eq d.0 c.0) r.class
    ∙ nat_eq-itself c.0

-- a record of an entry is listed
record_listed : (core : Core) (c : ClassId) (m : MethodId) (i : ℕ) (a : Access) → IsRecord core c m i a →
    In (records_in core c) (numbered_record m (i, a))
record_listed core c m i a r =
    let there : In (enumerate_from 0 core.methods) (m.0, r.method) =
    subst (λ (n : ℕ). In (enumerate_from 0 core.methods) (n, r.method)) (zero-add m.0)
    (enumerate_from_has 0 core.methods m.0 r.method r.is) in
    let index : In (enumerate_from 0 (records_of core m)) (i, a) =
    subst (λ (n : ℕ). In (enumerate_from 0 (records_of core m)) (n, a)) (zero-add i)
    (enumerate_from_has 0 (records_of core m) i a r.has) in
    let added : In (numbered_records m (records_of core m)) (numbered_record m (i, a)) =
    map_has (numbered_record m) (enumerate_from 0 (records_of core m)) (i, a) index in
    let listed : In (entry_records core c (m.0, r.method)) (numbered_record m (i, a)) =
    subst (λ (b : Bool). In (cond b (numbered_records m (records_of core m)) []) (numbered_record m (i, a)))
    (sym (entry_test core c m i a r)) added
    in
    flat_map_has (entry_records core c) (enumerate_from 0 core.methods) (m.0, r.method)
    (numbered_record m (i, a)) there listed

-- the warning that a record has is its own
own_warning : (c : ClassId) (records : List MethodRecord) (m : MethodId) (i : ℕ) (r : MethodRecord) (w : Warning) →
    warning_among c records r ≡ Some w → is_warning_of m i w ≡ is_record m i r
own_warning c records m i r w =
    elim (find (λ partner. conflicts r.access partner.access) records)
    as (λ o. option_map (warning_of c r) o ≡ Some w → is_warning_of m i w ≡ is_record m i r) [
      | None ↦ λ e. cc
      | Some partner ↦ λ e. let is : warning_of c r partner ≡ w = cc in ap (is_warning_of m i) (sym is)
    ]

-- the records of an entry are of its number
of_its_method : (core : Core) (c : ClassId) (e : ℕ × Method) (p : MethodRecord) → In (entry_records core c e) p →
    p.method.0 ≡ e.0
of_its_method core c e p =
    let number : MethodId = record { 0 = e.0 } in
    elim (is_entry_of c e.1) as (λ b. In (cond b (numbered_records number (records_of core number)) []) p →
    p.method.0 ≡ e.0) [
      | true ↦ λ h. let from = in_map (numbered_record number) (enumerate_from 0 (records_of core number)) p h in
          ap (λ (q : MethodRecord). q.method.0) (sym from.2)
      | false ↦ λ h. absurd h
    ]

-- the warnings of a class are of its number
of_its_class : (core : Core) (e : ℕ × ClassCore) (w : Warning) → In (class_warnings core e) w → w.class.0 ≡ e.0
of_its_class core e w =
    let c : ClassId = record { 0 = e.0 } in
    elim e.1.checked as (λ b. In (cond b (warnings_among c (records_in core c)) []) w → w.class.0 ≡ e.0) [
      | true ↦ λ h.
          let from = in_filter_map (warning_among c (records_in core c)) (records_in core c) w h in
          elim (find (λ partner. conflicts from.0.access partner.access) (records_in core c))
          as (λ o. option_map (warning_of c from.0) o ≡ Some w → w.class.0 ≡ e.0) [
            | None ↦ λ e. cc
            | Some partner ↦ λ e. let is : warning_of c from.0 partner ≡ w = cc in
                ap (λ (v : Warning). v.class.0) (sym is)
          ] from.2
      | false ↦ λ h. absurd h
    ]

-- one of the records of a method counts
one_of_method : (core : Core) (c : ClassId) (m : MethodId) (i : ℕ) (a : Access) (has : MethodRecord → Bool) →
    IsRecord core c m i a → has (numbered_record m (i, a)) ≡ true →
    ((p : MethodRecord) → is_record m i p ≡ false → has p ≡ false) →
    count_by has (numbered_records m (records_of core m)) ≡ 1
one_of_method core c m i a has r there others =
    ap (count_by has) (map_as_lists (numbered_record m) (enumerate_from 0 (records_of core m)))
    ∙ only_there has (λ e. numbered_record m e ∷ []) 0 (records_of core m) i a r.has
    (λ e h other.
    let index : nat_eq e.0 i ≡ false = ne_eqb e.0 i (λ is. other (is ∙ sym (zero-add i))) in
    let no : is_record m i (numbered_record m e) ≡ false =
    (λ k. nat_eq m.0 m.0 && index k) ∙ and-false (nat_eq m.0 m.0) in
    count_one has (numbered_record m e) false (others (numbered_record m e) no))
    ∙ ap (λ (n : ℕ). count_by has (numbered_record m (n, a) ∷ [])) (zero-add i)
    ∙ count_one has (numbered_record m (i, a)) true there

-- one of the records of a class counts
one_of_class : (core : Core) (c : ClassId) (m : MethodId) (i : ℕ) (a : Access) (has : MethodRecord → Bool) →
    IsRecord core c m i a → has (numbered_record m (i, a)) ≡ true →
    ((p : MethodRecord) → is_record m i p ≡ false → has p ≡ false) → count_by has (records_in core c) ≡ 1
one_of_class core c m i a has r there others =
    only_there has (entry_records core c) 0 core.methods m.0 r.method r.is
    (λ e h other.
    none_counted has (entry_records core c e)
    (λ p listed.
    let method : nat_eq p.method.0 m.0 ≡ false =
    ne_eqb p.method.0 m.0 (λ is. other (sym (of_its_method core c e p listed) ∙ is ∙ sym (zero-add m.0))) in
    others p (ap (λ b. b && nat_eq p.index i) method)))
    ∙ ap (λ (n : ℕ). count_by has (entry_records core c (n, r.method))) (zero-add m.0)
    ∙ ap (λ b. count_by has (cond b (numbered_records m (records_of core m)) [])) (entry_test core c m i a r)
    ∙ one_of_method core c m i a has r there others

has_warning : (core : Core) (c : ClassId) (m n : MethodId) (i j : ℕ) (a b : Access) → IsRecord core c n j b →
    conflicts a b ≡ true → is_some (warning_among c (records_in core c) (numbered_record m (i, a))) ≡ true
has_warning core c m n i j a b r conflict =
    let found = find_has (λ (partner : MethodRecord). conflicts a partner.access) (records_in core c)
    (numbered_record n (j, b)) (record_listed core c n j b r) conflict in
    ap (λ o. is_some (option_map (warning_of c (numbered_record m (i, a))) o)) found.1

one_warning_in_class : (core : Core) (c : ClassId) (m n : MethodId) (i j : ℕ) (a b : Access) →
    IsRecord core c m i a → IsRecord core c n j b → conflicts a b ≡ true →
    count_by (is_warning_of m i) (warnings_among c (records_in core c)) ≡ 1
one_warning_in_class core c m n i j a b r s conflict =
    count_given (is_warning_of m i) (is_record m i) (warning_among c (records_in core c)) (records_in core c)
    (own_warning c (records_in core c) m i)
    ∙ one_of_class core c m i a (λ p. is_record m i p && is_some (warning_among c (records_in core c) p)) r
    ((λ k. (nat_eq-itself m.0 k && nat_eq-itself i k) && has_warning core c m n i j a b s conflict k))
    (λ p no. ap (λ b. b && is_some (warning_among c (records_in core c) p)) no)

-- the warnings of another class are of no entry of this one
other_class : (core : Core) (c : ClassId) (m : MethodId) (i : ℕ) (a : Access) → IsRecord core c m i a →
    (e : ℕ × ClassCore) → In (enumerate_from 0 core.classes) e → (e.0 ≡ c.0 → ⊥) → (w : Warning) →
    In (class_warnings core e) w → is_warning_of m i w ≡ false
other_class core c m i a r e h other w listed =
    let pair : IsPair core w = listed_warning core w
    (flat_map_has (class_warnings core) (enumerate_from 0 core.classes) e w h listed) in
    elim (is_warning_of m i w) as (λ b. is_warning_of m i w ≡ b → b ≡ false) [
      | true ↦ λ is.
          let entry : w.entry.0 ≡ m.0 = eqb-true w.entry.0 m.0
          (and_parts (nat_eq w.entry.0 m.0) (nat_eq w.access i) is).0 in
          let same : Some pair.of_entry.method ≡ Some r.method =
          sym pair.of_entry.is ∙ ap (slice_get core.methods) entry ∙ r.is in
          let method : pair.of_entry.method ≡ r.method = cc in
          let class : w.class ≡ c = sym pair.of_entry.class ∙ ap (λ (x : Method). x.class) method ∙ r.class in
          absurd (other (sym (of_its_class core e w listed) ∙ ap (λ (x : ClassId). x.0) class))
      | false ↦ λ is. refl
    ] refl

pub one_warning : (core : Core) (c : ClassId) (m n : MethodId) (i j : ℕ) (a b : Access) → IsCheckedClass core c →
    IsRecord core c m i a → IsRecord core c n j b → conflicts a b ≡ true →
    count_by (is_warning_of m i) (warnings core) ≡ 1
one_warning core c m n i j a b checked r s conflict =
    only_there (is_warning_of m i) (class_warnings core) 0 core.classes c.0 checked.class checked.is
    (λ e h other. none_counted (is_warning_of m i) (class_warnings core e)
    (other_class core c m i a r e h (λ is. other (is ∙ sym (zero-add c.0)))))
    ∙ ap (λ (k : ℕ). count_by (is_warning_of m i) (class_warnings core (k, checked.class))) (zero-add c.0)
    ∙ ap (λ t. count_by (is_warning_of m i) (cond t (warnings_among c (records_in core c)) [])) checked.checked
    ∙ one_warning_in_class core c m n i j a b r s conflict
