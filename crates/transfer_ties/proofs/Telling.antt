-- The partners that numbers by names give.
use Rattle.std.proofs.Common.{◌≡◌, ℕ, Bool, true, false, ◌&&◌, List, Some, None, map, nat_eq, length, refl, sym, ap}
use Rattle.std.proofs.Common.{subst, ◌∙◌}
use Rattle.std.specs.Prelude.{Option, MatchOption, bytes_eq, if◌then◌else◌, is_none, option_map, slice_get}
use Rattle.std.specs.List.{list_any}
use Rattle.std.specs.Option.{IsSomeAnd, option_and_then, option_flatten}
use Rattle.std.proofs.lemmas.Bool.{and_from, and_parts, both_ways, eq-eqb, eqb-true, false_from_ne_true}
use Rattle.std.proofs.lemmas.Option.{slice_get-map}
use Rattle.racer_base.specs.declared.ids.ClassId.{ClassId}
use Rattle.racer_base.specs.declared.ids.FieldId.{FieldId}
use Rattle.racer_base.specs.declared.ids.MethodId.{MethodId}
use Rattle.racer_base.proofs.Lists.{same_given}
use Rattle.racer_base.proofs.Tests.{same_truth}
use Rattle.core_code.specs.declared.parts.ClassCore.{ClassCore}
use Rattle.core_code.specs.declared.parts.FieldCore.{FieldCore}
use Rattle.core_code.specs.declared.parts.MethodCore.{MethodCore}
use Rattle.core_code.specs.Core.{Core, Method, method_of}
use Rattle.core_code.specs.Names.{do_fields_differ, same_text}
use Rattle.core_code.specs.Names as core_names
use Rattle.core_code.proofs.Members.{at_place, passes}
use Rattle.access_domain.specs.Records.{same_flag}
use Rattle.keyed_numbers.specs.Numbers.{Key, Named, key_eq, number_at}
use Rattle.transfer_ties.specs.Ties.{both, same_field, same_signature, ties_classes, ties_kinds}
use Rattle.transfer_ties.specs.Names.{AreNumbers, IsNumberOf, TellClasses, TellFields, TellMethods}
use Rattle.transfer_ties.specs.Names.{class_at, class_belongs, class_partner, field_belongs, field_by_number}
use Rattle.transfer_ties.specs.Names.{field_partner, is_partner_class, is_under, method_belongs, method_partner}
use Rattle.transfer_ties.specs.Names as named
use Rattle.transfer_ties.specs.Partners.{AreOneToOne}
use Rattle.transfer_ties.proofs.OneToOne.{alike_fields, both_none, class_id, differ_at, field_id, is_text, text_is}
use Rattle.transfer_ties.proofs.Tied.{told_class, told_kind}

abbrev method_id : ℕ → MethodId
method_id n = record { 0 = n }

none_passes : {A : Type 0} (test : A → Bool) (xs : List A) (n : ℕ) (x : A) → slice_get xs n ≡ Some x →
    list_any test xs ≡ false → test x ≡ false
none_passes test xs n x at none =
    false_from_ne_true (test x)
    (λ h. both_ways (list_any test xs) none (passes test xs x (at_place xs n x at) h))

-- the number of the only element that is the same as this one
number_tells : {X Y : Type 0} (same : X → Y → Bool) (x : X) (ys : List Y) (test : Y → Bool) →
    ((y : Y) → test y ≡ same x y) → (o : Option ℕ) → IsNumberOf test ys o →
    MatchOption o ((n : ℕ) → both same (Some x) (slice_get ys n) ≡ false)
    (λ n. both same (Some x) (slice_get ys n) ≡ true)
number_tells {X} {Y} same x ys test agree None none = λ n.
    elim (slice_get ys n) as (λ o. slice_get ys n ≡ o → both same (Some x) o ≡ false) [
      | None ↦ λ e. refl
      | Some y ↦ λ e. sym (agree y) ∙ none_passes test ys n y e none
    ] refl
number_tells {X} {Y} same x ys test agree (Some n) there =
    elim (slice_get ys n) as (λ o. IsSomeAnd o (λ y. test y ≡ true) → both same (Some x) o ≡ true) [
      | None ↦ λ h. absurd h
      | Some y ↦ λ h. sym (agree y) ∙ h
    ] there

key_same : (key : Key) → key_eq key key ≡ true
key_same key =
    and_from (nat_eq key.0 key.0) (nat_eq key.1 key.1) (eq-eqb key.0 key.0 refl) (eq-eqb key.1 key.1 refl)

with_true : (b : Bool) → (b && true) ≡ b
with_true true = refl
with_true false = refl

text_back : (xs ys : List ℕ) → bytes_eq xs ys ≡ same_text ys xs
text_back xs ys = same_truth (bytes_eq xs ys) (same_text ys xs) (λ h. is_text ys xs (sym (text_is xs ys h)))
    (λ h. is_text xs ys (sym (text_is ys xs h)))

-- ---- classes

abbrev alike : ClassCore → ClassCore → Bool
alike a b = same_text a.name b.name

as_classes : (P : ℕ → Bool) (o : Option ℕ) → MatchOption o ((n : ℕ) → P n ≡ false) (λ n. P n ≡ true) →
    MatchOption (option_map class_id o) ((d : ClassId) → P d.0 ≡ false) (λ d. P d.0 ≡ true)
as_classes P None none = λ d. none d.0
as_classes P (Some n) there = there

module _ (p q : Core) where
  class_tells : (numbers : Named) → AreNumbers class_belongs q.classes numbers → (o : Option ClassCore) →
      MatchOption (option_flatten (option_map (class_partner numbers) o))
      ((d : ClassId) → both alike o (slice_get q.classes d.0) ≡ false)
      (λ d. both alike o (slice_get q.classes d.0) ≡ true)
  class_tells numbers are None = λ d. both_none alike (slice_get q.classes d.0)
  class_tells numbers are (Some a) =
      as_classes (λ n. both alike (Some a) (slice_get q.classes n)) (number_at numbers a.name (0, 0))
      (number_tells alike a q.classes (class_belongs a.name (0, 0))
      (λ b. ap (λ t. bytes_eq b.name a.name && t) (key_same (0, 0)) ∙ with_true (bytes_eq b.name a.name)
      ∙ text_back b.name a.name)
      (number_at numbers a.name (0, 0)) (are a.name (0, 0)))

  pub tell_classes : (numbers : Named) → AreNumbers class_belongs q.classes numbers →
      TellClasses p q (map (class_partner numbers) p.classes)
  tell_classes numbers are c =
      subst (λ (o : Option ClassId). MatchOption o ((d : ClassId) → ties_classes p q c d ≡ false)
      (λ d. ties_classes p q c d ≡ true))
      (sym (ap option_flatten (slice_get-map (class_partner numbers) p.classes c.0)))
      (class_tells numbers are (slice_get p.classes c.0))

-- ---- fields

record IsPlaced (name : List ℕ) (c : ℕ) (b : FieldCore) : Type 0 where
  text : b.name ≡ name
  class : b.class.0 ≡ c

placed : (name : List ℕ) (c : ℕ) (b : FieldCore) → field_belongs name (c, 0) b ≡ true → IsPlaced name c b
placed name c b h =
    let parts = and_parts (bytes_eq b.name name) (key_eq (b.class.0, 0) (c, 0)) h in
    let keys = and_parts (nat_eq b.class.0 c) (nat_eq 0 0) parts.1 in
    record { text = text_is b.name name parts.0; class = eqb-true b.class.0 c keys.0 }

placed_belongs : (name : List ℕ) (c : ℕ) (b : FieldCore) → b.name ≡ name → b.class.0 ≡ c →
    field_belongs name (c, 0) b ≡ true
placed_belongs name c b text class =
    and_from (bytes_eq b.name name) (key_eq (b.class.0, 0) (c, 0)) (is_text b.name name text)
    (and_from (nat_eq b.class.0 c) (nat_eq 0 0) (eq-eqb b.class.0 c class) (eq-eqb 0 0 refl))

module _ (p q : Core) (one : AreOneToOne p q) (differ : do_fields_differ q ≡ true) (classes : List (Option ClassId))
    (told : TellClasses p q classes) where
  abbrev Nowhere : FieldCore → Type 0
  Nowhere a = (g : FieldId) → both (same_field p q) (Some a) (slice_get q.fields g.0) ≡ false

  abbrev At : FieldCore → FieldId → Type 0
  At a g = both (same_field p q) (Some a) (slice_get q.fields g.0) ≡ true

  -- where no field is the same
  no_field : (a : FieldCore) → ((g : ℕ) (b : FieldCore) → slice_get q.fields g ≡ Some b → same_field p q a b ≡ false) →
      Nowhere a
  no_field a other = λ g.
      elim (slice_get q.fields g.0) as (λ o. slice_get q.fields g.0 ≡ o → both (same_field p q) (Some a) o ≡ false) [
        | None ↦ λ e. refl
        | Some b ↦ λ e. other g.0 b e
      ] refl

  module _ (a : FieldCore) (c : ClassId) (there : ties_classes p q a.class c ≡ true) where
    belongs_if : (b : FieldCore) → same_field p q a b ≡ true → field_belongs a.name (c.0, 0) b ≡ true
    belongs_if b h =
        let same = alike_fields p q a b h in
        let class : c ≡ b.class = one.classes a.class c b.class there same.class in
        placed_belongs a.name c.0 b (sym same.name) (ap (λ (d : ClassId). d.0) (sym class))

    -- a field that belongs there is the same where kinds and flags are
    whole : (b : FieldCore) → IsPlaced a.name c.0 b → same_field p q a b ≡ named.same_field classes a b
    whole b is =
        let class : b.class ≡ c = ap class_id is.class in
        let ties : ties_classes p q a.class b.class ≡ true =
        ap (λ (d : ClassId). ties_classes p q a.class d) class ∙ there in
        let text : same_text a.name b.name ≡ true = is_text a.name b.name (sym is.text) in
        let kind : ties_kinds p q a.kind b.kind ≡ named.same_kind classes a.kind b.kind =
        sym (told_kind p q one classes told a.kind b.kind) in
        λ i. ties i && text i && kind i && same_flag a.is_static b.is_static && same_flag a.recorded b.recorded

    module _ (n : ℕ) (b : FieldCore) (at : slice_get q.fields n ≡ Some b)
        (belongs : field_belongs a.name (c.0, 0) b ≡ true) where
      -- no other field is the same, where this one is not
      none_other : named.same_field classes a b ≡ false → Nowhere a
      none_other other =
          let here = placed a.name c.0 b belongs in
          no_field a
          (λ g x at_g. false_from_ne_true (same_field p q a x)
          (λ h.
          let there_too = placed a.name c.0 x (belongs_if x h) in
          let numbers : x.class.0 ≡ b.class.0 = there_too.class ∙ sym here.class in
          let texts : x.name ≡ b.name = there_too.text ∙ sym here.text in
          let place : g ≡ n =
          differ_at core_names.same_field q.fields differ g n x b at_g at
          (and_from (nat_eq x.class.0 b.class.0) (same_text x.name b.name) (eq-eqb x.class.0 b.class.0 numbers)
          (is_text x.name b.name texts))
          (and_from (nat_eq b.class.0 x.class.0) (same_text b.name x.name) (eq-eqb b.class.0 x.class.0 (sym numbers))
          (is_text b.name x.name (sym texts))) in
          let same : x ≡ b =
          same_given x b (slice_get q.fields n) (ap (slice_get q.fields) (sym place) ∙ at_g) at in
          both_ways (same_field p q a b) (whole b here ∙ other) (ap (same_field p q a) (sym same) ∙ h)))

      by_test : (t : Bool) → named.same_field classes a b ≡ t →
          MatchOption (if t then Some (field_id n) else None) (Nowhere a) (At a)
      by_test true e =
          ap (both (same_field p q) (Some a)) at ∙ whole b (placed a.name c.0 b belongs) ∙ e
      by_test false e = none_other e

    by_field : (n : ℕ) (o : Option FieldCore) → slice_get q.fields n ≡ o →
        IsSomeAnd o (λ b. field_belongs a.name (c.0, 0) b ≡ true) →
        MatchOption (option_and_then
        (λ (b : FieldCore). if named.same_field classes a b then Some (field_id n) else None) o) (Nowhere a) (At a)
    by_field n None at h = absurd h
    by_field n (Some b) at h = by_test n b at h (named.same_field classes a b) refl

    by_number : (o : Option ℕ) → IsNumberOf (field_belongs a.name (c.0, 0)) q.fields o →
        MatchOption (option_and_then (field_by_number q.fields classes a) o) (Nowhere a) (At a)
    by_number None none =
        no_field a
        (λ g b at. false_from_ne_true (same_field p q a b)
        (λ h. both_ways (field_belongs a.name (c.0, 0) b)
        (none_passes (field_belongs a.name (c.0, 0)) q.fields g b at none) (belongs_if b h)))
    by_number (Some n) has = by_field n (slice_get q.fields n) refl has

  by_class : (numbers : Named) → AreNumbers field_belongs q.fields numbers → (a : FieldCore) (o : Option ClassId) →
      MatchOption o ((d : ClassId) → ties_classes p q a.class d ≡ false) (λ d. ties_classes p q a.class d ≡ true) →
      MatchOption (option_and_then (λ (c : ClassId).
      option_and_then (field_by_number q.fields classes a) (number_at numbers a.name (c.0, 0))) o) (Nowhere a) (At a)
  by_class numbers are a None none =
      no_field a
      (λ g b at. ap (λ t. t && same_text a.name b.name && ties_kinds p q a.kind b.kind
      && same_flag a.is_static b.is_static && same_flag a.recorded b.recorded) (none b.class))
  by_class numbers are a (Some c) there =
      by_number a c there (number_at numbers a.name (c.0, 0)) (are a.name (c.0, 0))

  field_tells : (numbers : Named) → AreNumbers field_belongs q.fields numbers → (o : Option FieldCore) →
      MatchOption (option_flatten (option_map (field_partner q.fields numbers classes) o))
      ((g : FieldId) → both (same_field p q) o (slice_get q.fields g.0) ≡ false)
      (λ g. both (same_field p q) o (slice_get q.fields g.0) ≡ true)
  field_tells numbers are None = λ g. both_none (same_field p q) (slice_get q.fields g.0)
  field_tells numbers are (Some a) = by_class numbers are a (class_at classes a.class) (told a.class)

  pub tell_fields : (numbers : Named) → AreNumbers field_belongs q.fields numbers →
      TellFields p q (map (field_partner q.fields numbers classes) p.fields)
  tell_fields numbers are f =
      subst (λ (o : Option FieldId). MatchOption o
      ((g : FieldId) → both (same_field p q) (slice_get p.fields f.0) (slice_get q.fields g.0) ≡ false)
      (λ g. both (same_field p q) (slice_get p.fields f.0) (slice_get q.fields g.0) ≡ true))
      (sym (ap option_flatten (slice_get-map (field_partner q.fields numbers classes) p.fields f.0)))
      (field_tells numbers are (slice_get p.fields f.0))

-- ---- methods

abbrev is_read : Option Method → Bool
is_read o = elim o [ None ↦ false | Some m ↦ is_none m.status ]

as_methods : (P : ℕ → Bool) (o : Option ℕ) → MatchOption o ((n : ℕ) → P n ≡ false) (λ n. P n ≡ true) →
    MatchOption (option_map method_id o) ((m : MethodId) → P m.0 ≡ false) (λ m. P m.0 ≡ true)
as_methods P None none = λ m. none m.0
as_methods P (Some n) there = there

-- three tests in another order
regrouped : (read class text count : Bool) → (read && (text && (class && count))) ≡
    (read && true && (class && text && count))
regrouped true true text count = refl
regrouped true false true count = refl
regrouped true false false count = refl
regrouped false class text count = refl

never : (b : Bool) → (b && false) ≡ false
never true = refl
never false = refl

module _ (p q : Core) (one : AreOneToOne p q) (classes : List (Option ClassId)) (told : TellClasses p q classes) where
  -- of what stands at two numbers
  abbrev pair : Option Method → Option Method → Bool
  pair o u = is_read o && is_read u && both (same_signature p q) o u

  -- a method of the newer program and one of the older
  abbrev same : MethodCore → MethodCore → Bool
  same b a = is_none a.status && true && same_signature p q (method_of a) (method_of b)

  under : (a b : MethodCore) (o : Option ClassId) → class_at classes a.class ≡ o →
      (is_none a.status && is_under o b.name (b.class.0, length b.parameters) a) ≡ same b a
  under a b None e =
      never (is_none a.status)
      ∙ sym (ap (λ t. is_none a.status && true
      && (t && same_text a.name b.name && nat_eq (length a.parameters) (length b.parameters)))
      (sym (told_class p q one classes told a.class b.class) ∙ ap (λ o. is_partner_class o b.class) e)
      ∙ never (is_none a.status && true))
  under a b (Some c) e =
      regrouped (is_none a.status) (nat_eq c.0 b.class.0) (bytes_eq a.name b.name)
      (nat_eq (length a.parameters) (length b.parameters))
      ∙ ap (λ t. is_none a.status && true
      && (t && same_text a.name b.name && nat_eq (length a.parameters) (length b.parameters)))
      (sym (sym (told_class p q one classes told a.class b.class) ∙ ap (λ o. is_partner_class o b.class) e))

  paired : (b : MethodCore) → is_none b.status ≡ true → (o : Option MethodCore) → (t : Bool) →
      both same (Some b) o ≡ t → pair (option_map method_of o) (Some (method_of b)) ≡ t
  paired b read None t e = e
  paired b read (Some a) t e =
      ap (λ r. is_none a.status && r && same_signature p q (method_of a) (method_of b)) read ∙ e

  unpaired : (b : MethodCore) → is_none b.status ≡ false → (o : Option Method) →
      pair o (Some (method_of b)) ≡ false
  unpaired b read o =
      ap (λ r. is_read o && r && both (same_signature p q) o (Some (method_of b))) read
      ∙ ap (λ t. t && both (same_signature p q) o (Some (method_of b))) (never (is_read o))

  module _ (olds : List MethodCore) (numbers : Named) (are : AreNumbers (method_belongs classes) olds numbers) where
    abbrev Unpaired : Option Method → Type 0
    Unpaired u = (m : MethodId) → pair (slice_get (map method_of olds) m.0) u ≡ false

    abbrev Paired : Option Method → MethodId → Type 0
    Paired u m = pair (slice_get (map method_of olds) m.0) u ≡ true

    seen : (b : MethodCore) → is_none b.status ≡ true → (n : ℕ) (t : Bool) → both same (Some b) (slice_get olds n) ≡ t →
        pair (slice_get (map method_of olds) n) (Some (method_of b)) ≡ t
    seen b read n t e =
        ap (λ (o : Option Method). pair o (Some (method_of b))) (slice_get-map method_of olds n)
        ∙ paired b read (slice_get olds n) t e

    seen_all : (b : MethodCore) → is_none b.status ≡ true → (o : Option ℕ) →
        MatchOption o ((n : ℕ) → both same (Some b) (slice_get olds n) ≡ false)
        (λ n. both same (Some b) (slice_get olds n) ≡ true) →
        MatchOption o ((n : ℕ) → pair (slice_get (map method_of olds) n) (Some (method_of b)) ≡ false)
        (λ n. pair (slice_get (map method_of olds) n) (Some (method_of b)) ≡ true)
    seen_all b read None none = λ n. seen b read n false (none n)
    seen_all b read (Some n) there = seen b read n true there

    by_status : (b : MethodCore) (t : Bool) → is_none b.status ≡ t →
        MatchOption (if t
        then option_map method_id (number_at numbers b.name (b.class.0, length b.parameters)) else None)
        (Unpaired (Some (method_of b))) (Paired (Some (method_of b)))
    by_status b false read = λ m. unpaired b read (slice_get (map method_of olds) m.0)
    by_status b true read =
        let key : Key = (b.class.0, length b.parameters) in
        let found : Option ℕ = number_at numbers b.name key in
        as_methods (λ n. pair (slice_get (map method_of olds) n) (Some (method_of b))) found
        (seen_all b read found
        (number_tells same b olds (method_belongs classes b.name key)
        (λ a. under a b (class_at classes a.class) refl) found (are b.name key)))

    method_tells : (o : Option MethodCore) →
        MatchOption (option_flatten (option_map (method_partner numbers) o)) (Unpaired (option_map method_of o))
        (Paired (option_map method_of o))
    method_tells None = λ m.
        none_read (is_read (slice_get (map method_of olds) m.0)) (slice_get (map method_of olds) m.0)
      where
        none_read : (b : Bool) (o : Option Method) → (b && false && both (same_signature p q) o None) ≡ false
        none_read true o = refl
        none_read false o = refl
    method_tells (Some b) = by_status b (is_none b.status) refl

    told_methods : (news : List MethodCore) (n : MethodId) →
        MatchOption (option_flatten (slice_get (map (method_partner numbers) news) n.0))
        (Unpaired (slice_get (map method_of news) n.0)) (Paired (slice_get (map method_of news) n.0))
    told_methods news n =
        subst (λ (u : Option Method).
        MatchOption (option_flatten (slice_get (map (method_partner numbers) news) n.0)) (Unpaired u) (Paired u))
        (sym (slice_get-map method_of news n.0))
        (subst (λ (o : Option (Option MethodId)). MatchOption (option_flatten o)
        (Unpaired (option_map method_of (slice_get news n.0))) (Paired (option_map method_of (slice_get news n.0))))
        (sym (slice_get-map (method_partner numbers) news n.0)) (method_tells (slice_get news n.0)))

  -- of two programs that have these methods
  pub tell_methods : (olds news : List MethodCore) (numbers : Named) → map method_of olds ≡ p.methods →
      map method_of news ≡ q.methods → AreNumbers (method_belongs classes) olds numbers →
      TellMethods p q (map (method_partner numbers) news)
  tell_methods olds news numbers are_old are_new are n =
      subst (λ (ms : List Method).
      MatchOption (option_flatten (slice_get (map (method_partner numbers) news) n.0))
      ((m : MethodId) → pair (slice_get ms m.0) (slice_get q.methods n.0) ≡ false)
      (λ m. pair (slice_get ms m.0) (slice_get q.methods n.0) ≡ true)) are_old
      (subst (λ (ms : List Method).
      MatchOption (option_flatten (slice_get (map (method_partner numbers) news) n.0))
      ((m : MethodId) → pair (slice_get (map method_of olds) m.0) (slice_get ms n.0) ≡ false)
      (λ m. pair (slice_get (map method_of olds) m.0) (slice_get ms n.0) ≡ true)) are_new
      (told_methods olds numbers are news n))

-- ---- the same of lists that are those of two programs

pub classes_told : (p q : Core) (olds news : List ClassCore) (numbers : Named) (made : List (Option ClassId)) →
    olds ≡ p.classes → news ≡ q.classes → AreNumbers class_belongs news numbers →
    made ≡ map (class_partner numbers) olds → TellClasses p q made
classes_told p q olds news numbers made are_old are_new are is =
    subst (TellClasses p q) (sym (is ∙ ap (map (class_partner numbers)) are_old))
    (tell_classes p q numbers (subst (λ (cs : List ClassCore). AreNumbers class_belongs cs numbers) are_new are))

module _ (p q : Core) (one : AreOneToOne p q) (classes : List (Option ClassId)) (told : TellClasses p q classes) where
  pub fields_told : do_fields_differ q ≡ true → (olds news : List FieldCore) (numbers : Named)
      (made : List (Option FieldId)) → olds ≡ p.fields → news ≡ q.fields → AreNumbers field_belongs news numbers →
      made ≡ map (field_partner news numbers classes) olds → TellFields p q made
  fields_told differ olds news numbers made are_old are_new are is =
      subst (TellFields p q)
      (sym (is ∙ (λ i. map (field_partner (are_new i) numbers classes) (are_old i))))
      (tell_fields p q one differ classes told numbers
      (subst (λ (fs : List FieldCore). AreNumbers field_belongs fs numbers) are_new are))

  pub methods_told : (olds news : List MethodCore) (numbers : Named) (made : List (Option MethodId)) →
      map method_of olds ≡ p.methods → map method_of news ≡ q.methods →
      AreNumbers (method_belongs classes) olds numbers → made ≡ map (method_partner numbers) news →
      TellMethods p q made
  methods_told olds news numbers made are_old are_new are is =
      subst (TellMethods p q) (sym is) (tell_methods p q one classes told olds news numbers are_old are_new are)
