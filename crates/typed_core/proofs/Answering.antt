-- Answers by flags are those that are stated.
use Rattle.std.proofs.Common.{◌≡◌, ℕ, zero, suc, ◌+◌, ◌<◌, ◌≤◌, inl, inr, Bool, true, false, cond, ◌||◌, List}
use Rattle.std.proofs.Common.{[], ◌∷◌, ◌++◌, Option, Some, None, length, map, min, filter, nat_eq, replicate, take, drop}
use Rattle.std.proofs.Common.{get_or, refl, sym, ap, subst, ◌∙◌, arith, append-nil, append_assoc, slice_get}
use Rattle.std.specs.Prelude.{option_to_list, slice_index_or, slice_set}
use Rattle.std.specs.List.{enumerate_from, flat_map}
use Rattle.std.proofs.lemmas.Bool.{cases_lt, eqb-true}
use Rattle.std.proofs.lemmas.List.{at_drop_all, at_drop_more, length-replicate, length-set, take_all, take_more}
use Rattle.std.proofs.lemmas.List.Folds.{list_any-append}
use Rattle.std.proofs.Math.Bool.{or-false}
use Rattle.racer_base.specs.declared.ids.ClassId.{ClassId}
use Rattle.racer_base.specs.declared.ids.MethodId.{MethodId}
use Rattle.racer_base.specs.declared.ids.Place.{Place}
use Rattle.core_code.specs.declared.parts.ClassCore.{ClassCore}
use Rattle.core_code.specs.Core.{Core, Method}
use Rattle.core_code.specs.Kinds.{same_class}
use Rattle.typed_core.specs.declared.answers.Answer.TheVariants.{Typed, Untyped}
use Rattle.typed_core.specs.declared.answers.Typing.{Typing}
use Rattle.typed_core.specs.declared.doubts.Doubt.{Doubt}
use Rattle.typed_core.specs.declared.findings.Findings.{Findings}
use Rattle.typed_core.specs.Check.{doubts_of}
use Rattle.typed_core.specs.Contexts.{flag_of}
use Rattle.typed_core.specs.Typings.{answer_of, class_typings, is_among, is_read_in, place_failing}
use Rattle.typed_core.specs.Reaching.{first_of, has_class, places_where, reached_places, reads_in, reads_where, typings_at}
use Rattle.typed_core.specs.Reaching.{AreFlagged, AreFound, IsInRange}
use Rattle.typed_core.proofs.MetKinds.{grouped}
use Rattle.typed_core.proofs.ReadClasses.{there-already}
use Rattle.typed_core.proofs.Coming.{set-flag}
use Rattle.typed_core.proofs.Entries.{none-flagged}

-- ---- flags of classes
pub flag-one : (flags : List Bool) (class : ClassId) (new : List Bool) → class.0 < length flags →
    new ≡ slice_set flags class.0 true → AreFlagged (class ∷ []) flags new
flag-one flags class new low set =
    record {
      size = ap length set ∙ length-set flags class.0 true;
      flags = λ c within. ap (λ (fs : List Bool). slice_index_or fs c.0 false) set ∙ set-flag flags class.0 c.0 low;
    }

pub flag-past : (flags : List Bool) (class : ClassId) → length flags ≤ class.0 → AreFlagged (class ∷ []) flags flags
flag-past flags class past =
    record {
      size = refl;
      flags = λ c within. there-already (flag_of flags c) (has_class (class ∷ []) c) (λ e.
          absurd (let same : class.0 ≡ c.0 = eqb-true class.0 c.0 (sym (or-false (nat_eq class.0 c.0)) ∙ e) in
          let low : c.0 < length flags = within in omega arith));
    }

pub flag-none : (flags : List Bool) → AreFlagged [] flags flags
flag-none flags = record { size = refl; flags = λ c within. sym (or-false (flag_of flags c)) }

pub flag-both : (xs ys : List ClassId) (old mid new : List Bool) → AreFlagged xs old mid → AreFlagged ys mid new →
    AreFlagged (xs ++ ys) old new
flag-both xs ys old mid new a b =
    let size : length mid ≡ length old = a.size in
    record {
      size = b.size ∙ a.size;
      flags = λ c within.
          (let low : c.0 < length old = within in
          b.flags c (let l : c.0 < length mid = omega arith in l)
          ∙ ap (λ (t : Bool). t || has_class ys c) (a.flags c within)
          ∙ grouped (flag_of old c) (has_class xs c) (has_class ys c)
          ∙ ap (λ (t : Bool). flag_of old c || t) (sym (list_any-append (λ (d : ClassId). same_class d c) xs ys)));
    }

pub flag-turn : (classes : List ClassId) (i : ℕ) (d : ClassId) (old now new : List Bool) → i < length classes →
    AreFlagged (take i classes) old now → AreFlagged (get_or classes i d ∷ []) now new →
    AreFlagged (take (i + 1) classes) old new
flag-turn classes i d old now new low before one =
    subst (λ (xs : List ClassId). AreFlagged xs old new) (sym (take_more classes i d low))
    (flag-both (take i classes) (get_or classes i d ∷ []) old now new before one)

pub flag-end : (classes : List ClassId) (i : ℕ) (old now : List Bool) → length classes ≤ i →
    AreFlagged (take i classes) old now → AreFlagged classes old now
flag-end classes i old now past all =
    subst (λ (xs : List ClassId). AreFlagged xs old now) (take_all i classes past) all

-- ---- what the methods that are reached read
-- what is flagged so far, and what the methods that are left read, is all that is read
pub record AreReadTo (count : ℕ) (reached : List Bool) (all : List Findings) (i : ℕ) (flags : List Bool) : Type 0 where
  pub size : length flags ≡ count
  pub reads : (c : ClassId) → IsInRange count c →
      (flag_of flags c || reads_in (drop i reached) (drop i all) c) ≡ reads_in reached all c

pub read-begins : (count : ℕ) (reached : List Bool) (all : List Findings) (flags : List Bool) →
    flags ≡ replicate count false → AreReadTo count reached all 0 flags
read-begins count reached all flags none =
    record {
      size = ap length none ∙ length-replicate count false;
      reads = λ c within.
          ap (λ (b : Bool). b || reads_in reached all c)
          (ap (λ (fs : List Bool). slice_index_or fs c.0 false) none ∙ none-flagged count c.0);
    }

pub read-turn : (count : ℕ) (reached : List Bool) (all : List Findings) (i : ℕ) (d : Bool) (found : Findings)
    (old mid new : List Bool) → i < length reached → i < length all → found ≡ get_or all i found →
    AreReadTo count reached all i old → mid ≡ old → AreFlagged (reads_where (get_or reached i d) found) mid new →
    AreReadTo count reached all (i + 1) new
read-turn count reached all i d found old mid new in_reached in_all is before unchanged flagged =
    let one : AreFlagged (reads_where (get_or reached i d) found) old new =
    subst (λ (flags : List Bool). AreFlagged (reads_where (get_or reached i d) found) flags new) unchanged flagged in
    let flag = get_or reached i d in
    let size : length old ≡ count = before.size in
    record {
      size = one.size ∙ before.size;
      reads = λ c within.
          (let low : c.0 < count = within in
          let rest = reads_in (drop (i + 1) reached) (drop (i + 1) all) c in
          let own = has_class (reads_where flag found) c in
          let whole : reads_in (drop i reached) (drop i all) c ≡ (own || rest) =
          at_drop_more (λ (bs : List Bool). reads_in bs (drop i all) c) reached i d in_reached
          ∙ at_drop_more (λ (fs : List Findings). reads_in (flag ∷ drop (i + 1) reached) fs c) all i found in_all
          ∙ ap (λ (f : Findings). has_class (reads_where flag f) c || rest) (sym is) in
          ap (λ (t : Bool). t || rest) (one.flags c (let l : c.0 < length old = omega arith in l))
          ∙ grouped (flag_of old c) own rest
          ∙ ap (λ (t : Bool). flag_of old c || t) (sym whole)
          ∙ before.reads c within);
    }

reads-past : (reached : List Bool) (all : List Findings) (i : ℕ) (c : ClassId) → min (length reached) (length all) ≤ i →
    reads_in (drop i reached) (drop i all) c ≡ false
reads-past reached all i c past = elim (cases_lt i (length reached)) [
  | inl low ↦ at_drop_all (λ (fs : List Findings). reads_in (drop i reached) fs c) all i (omega arith)
      ∙ nothing (drop i reached) c
  | inr high ↦ at_drop_all (λ (bs : List Bool). reads_in bs (drop i all) c) reached i high
]
  where
    nothing : (bs : List Bool) (c : ClassId) → reads_in bs [] c ≡ false
    nothing [] c = refl
    nothing (b ∷ bs) c = refl

pub read-end : (count : ℕ) (reached : List Bool) (all : List Findings) (i : ℕ) (flags : List Bool) →
    min (length reached) (length all) ≤ i → AreReadTo count reached all i flags → (c : ClassId) → IsInRange count c →
    flag_of flags c ≡ reads_in reached all c
read-end count reached all i flags past before c within =
    sym (or-false (flag_of flags c))
    ∙ ap (λ (t : Bool). flag_of flags c || t) (sym (reads-past reached all i c past))
    ∙ before.reads c within

-- ---- the first place
pub first-some : (front rest : List Place) (o : Option Place) (place : Place) → o ≡ first_of front → o ≡ Some place →
    answer_of (front ++ rest) ≡ Untyped place
first-some [] rest o place is some = let e : Some place ≡ None = sym some ∙ is in cc
first-some (p ∷ front) rest o place is some =
    let e : Some place ≡ Some p = sym some ∙ is in
    let same : place ≡ p = cc in ap Untyped (sym same)

pub first-none : (front rest : List Place) (o : Option Place) → o ≡ first_of front → o ≡ None →
    answer_of (front ++ rest) ≡ answer_of rest
first-none [] rest o is none = refl
first-none (p ∷ front) rest o is none = let e : Some p ≡ None = sym is ∙ none in cc

places-turn : (is_read : ClassId → Bool) (reached : List Bool) (all : List Findings) (i : ℕ) (d : Bool)
    (found : Findings) → i < length reached → i < length all → found ≡ get_or all i found →
    reached_places is_read (drop i reached) (drop i all) ≡
    places_where (get_or reached i d) is_read found ++ reached_places is_read (drop (i + 1) reached) (drop (i + 1) all)
places-turn is_read reached all i d found in_reached in_all is =
    at_drop_more (λ (bs : List Bool). reached_places is_read bs (drop i all)) reached i d in_reached
    ∙ at_drop_more (λ (fs : List Findings). reached_places is_read (get_or reached i d ∷ drop (i + 1) reached) fs) all i
    found in_all
    ∙ ap (λ (f : Findings). places_where (get_or reached i d) is_read f
    ++ reached_places is_read (drop (i + 1) reached) (drop (i + 1) all)) (sym is)

module _ (is_read : ClassId → Bool) (reached : List Bool) (all : List Findings) (i : ℕ) (d : Bool) (found : Findings)
    (in_reached : i < length reached) (in_all : i < length all) (is : found ≡ get_or all i found) (o : Option Place)
    (first : o ≡ first_of (places_where (get_or reached i d) is_read found)) where
  abbrev later : List Place
  later = reached_places is_read (drop (i + 1) reached) (drop (i + 1) all)

  pub answer-here : (place : Place) → o ≡ Some place →
      answer_of (reached_places is_read (drop i reached) (drop i all)) ≡ Untyped place
  answer-here place some =
      ap answer_of (places-turn is_read reached all i d found in_reached in_all is)
      ∙ first-some (places_where (get_or reached i d) is_read found) later o place first some

  pub answer-later : o ≡ None →
      answer_of (reached_places is_read (drop i reached) (drop i all)) ≡
      answer_of (reached_places is_read (drop (i + 1) reached) (drop (i + 1) all))
  answer-later none =
      ap answer_of (places-turn is_read reached all i d found in_reached in_all is)
      ∙ first-none (places_where (get_or reached i d) is_read found) later o first none

pub answer-past : (is_read : ClassId → Bool) (reached : List Bool) (all : List Findings) (i : ℕ) →
    min (length reached) (length all) ≤ i →
    answer_of (reached_places is_read (drop i reached) (drop i all)) ≡ Typed
answer-past is_read reached all i past = elim (cases_lt i (length reached)) [
  | inl low ↦ at_drop_all (λ (fs : List Findings). answer_of (reached_places is_read (drop i reached) fs)) all i
      (omega arith)
      ∙ nothing (drop i reached)
  | inr high ↦ at_drop_all (λ (bs : List Bool). answer_of (reached_places is_read bs (drop i all))) reached i high
]
  where
    nothing : (bs : List Bool) → answer_of (reached_places is_read bs []) ≡ Typed
    nothing [] = refl
    nothing (b ∷ bs) = refl

-- ---- the first place of one method
pub doubt-here : (is_read : ClassId → Bool) (doubts : List Doubt) (i : ℕ) (d : Doubt) (o : Option Place)
    (place : Place) → i < length doubts → option_to_list o ≡ place_failing is_read (get_or doubts i d) →
    o ≡ Some place → first_of (flat_map (place_failing is_read) (drop i doubts)) ≡ Some place
doubt-here is_read doubts i d o place low is some =
    at_drop_more (λ (ds : List Doubt). first_of (flat_map (place_failing is_read) ds)) doubts i d low
    ∙ ap (λ (ps : List Place). first_of (ps ++ flat_map (place_failing is_read) (drop (i + 1) doubts)))
    (sym is ∙ ap option_to_list some)

pub doubt-later : (is_read : ClassId → Bool) (doubts : List Doubt) (i : ℕ) (d : Doubt) (o : Option Place) →
    i < length doubts → option_to_list o ≡ place_failing is_read (get_or doubts i d) → o ≡ None →
    first_of (flat_map (place_failing is_read) (drop i doubts)) ≡
    first_of (flat_map (place_failing is_read) (drop (i + 1) doubts))
doubt-later is_read doubts i d o low is none =
    at_drop_more (λ (ds : List Doubt). first_of (flat_map (place_failing is_read) ds)) doubts i d low
    ∙ ap (λ (ps : List Place). first_of (ps ++ flat_map (place_failing is_read) (drop (i + 1) doubts)))
    (sym is ∙ ap option_to_list none)

pub doubt-past : (is_read : ClassId → Bool) (doubts : List Doubt) (i : ℕ) → length doubts ≤ i →
    first_of (flat_map (place_failing is_read) (drop i doubts)) ≡ None
doubt-past is_read doubts i past =
    at_drop_all (λ (ds : List Doubt). first_of (flat_map (place_failing is_read) ds)) doubts i past

-- ---- methods with a flag are those that are reached
abbrev pub listed : List MethodId → ℕ → List Method → List Method
listed wanted k ms =
    map (λ (e : ℕ × Method). e.1) (filter (λ (e : ℕ × Method). is_among wanted e.0) (enumerate_from k ms))

-- the flags from a number on, and that those with a flag are analysed
abbrev pub AreOf : List MethodId → ℕ → List Bool → List Method → Type 0
AreOf wanted k flags ms =
    (length flags ≡ length ms) × ((i : ℕ) → slice_index_or flags i false ≡ is_among wanted (k + i))
    × ((i : ℕ) (m : Method) → slice_get ms i ≡ Some m → is_among wanted (k + i) ≡ true → m.status ≡ None)

of-rest : (wanted : List MethodId) (k : ℕ) (flag : Bool) (flags : List Bool) (m : Method) (ms : List Method) →
    AreOf wanted k (flag ∷ flags) (m ∷ ms) → AreOf wanted (k + 1) flags ms
of-rest wanted k flag flags m ms are = (
  (let long : suc (length flags) ≡ suc (length ms) = are.0 in omega arith),
  λ i. are.1 (suc i) ∙ ap (is_among wanted) (shift i),
  λ i method at e. are.2 (suc i) method at (ap (is_among wanted) (shift i) ∙ e),
)
  where
    shift : (i : ℕ) → k + suc i ≡ (k + 1) + i
    shift i = omega arith

of-here : (wanted : List MethodId) (k : ℕ) (flag : Bool) (flags : List Bool) (m : Method) (ms : List Method) →
    AreOf wanted k (flag ∷ flags) (m ∷ ms) → flag ≡ is_among wanted k
of-here wanted k flag flags m ms are = are.1 0 ∙ ap (is_among wanted) (let e : k + 0 ≡ k = omega arith in e)

analysed-here : (wanted : List MethodId) (k : ℕ) (flag : Bool) (flags : List Bool) (m : Method) (ms : List Method) →
    AreOf wanted k (flag ∷ flags) (m ∷ ms) → is_among wanted k ≡ true → m.status ≡ None
analysed-here wanted k flag flags m ms are e =
    are.2 0 m refl (ap (is_among wanted) (let z : k + 0 ≡ k = omega arith in z) ∙ e)

listed-here : (wanted : List MethodId) (k : ℕ) (m : Method) (ms : List Method) (b : Bool) → is_among wanted k ≡ b →
    listed wanted k (m ∷ ms) ≡ cond b (m ∷ listed wanted (k + 1) ms) (listed wanted (k + 1) ms)
listed-here wanted k m ms true e =
    ap (λ (b : Bool). map (λ (e : ℕ × Method). e.1)
    (cond b ((k, m) ∷ filter (λ (e : ℕ × Method). is_among wanted e.0) (enumerate_from (k + 1) ms))
    (filter (λ (e : ℕ × Method). is_among wanted e.0) (enumerate_from (k + 1) ms)))) e
listed-here wanted k m ms false e =
    ap (λ (b : Bool). map (λ (e : ℕ × Method). e.1)
    (cond b ((k, m) ∷ filter (λ (e : ℕ × Method). is_among wanted e.0) (enumerate_from (k + 1) ms))
    (filter (λ (e : ℕ × Method). is_among wanted e.0) (enumerate_from (k + 1) ms)))) e

pub reads-same : (core : Core) (wanted : List MethodId) (ms : List Method) (k : ℕ) (flags : List Bool)
    (all : List Findings) (c : ClassId) → AreFound core ms all → AreOf wanted k flags ms →
    reads_in flags all c ≡ is_read_in core (listed wanted k ms) c
reads-same core wanted [] k [] [] c found are = refl
reads-same core wanted [] k [] (f ∷ all) c found are = absurd found
reads-same core wanted [] k (flag ∷ flags) all c found are =
    absurd (let z : suc (length flags) ≡ 0 = are.0 in omega arith)
reads-same core wanted (m ∷ ms) k [] all c found are =
    absurd (let z : 0 ≡ suc (length ms) = are.0 in omega arith)
reads-same core wanted (m ∷ ms) k (flag ∷ flags) [] c found are = absurd found
reads-same core wanted (m ∷ ms) k (flag ∷ flags) (f ∷ all) c found are =
    let rest : reads_in flags all c ≡ is_read_in core (listed wanted (k + 1) ms) c =
    reads-same core wanted ms (k + 1) flags all c found.1 (of-rest wanted k flag flags m ms are) in
    let here : flag ≡ is_among wanted k = of-here wanted k flag flags m ms are in
    elim (is_among wanted k) as (λ b. is_among wanted k ≡ b →
    reads_in (flag ∷ flags) (f ∷ all) c ≡ is_read_in core (listed wanted k (m ∷ ms)) c) [
      | true ↦ λ e.
          (λ i. has_class (reads_where ((here ∙ e) i) f) c || reads_in flags all c)
          ∙ (λ i. (found.0 (analysed-here wanted k flag flags m ms are e)).reads c i || rest i)
          ∙ sym (ap (λ (xs : List Method). is_read_in core xs c) (listed-here wanted k m ms true e))
      | false ↦ λ e.
          (λ i. has_class (reads_where ((here ∙ e) i) f) c || reads_in flags all c)
          ∙ rest
          ∙ sym (ap (λ (xs : List Method). is_read_in core xs c) (listed-here wanted k m ms false e))
    ] refl

abbrev pub failing_in : Core → (ClassId → Bool) → List Method → List Place
failing_in core is_read ms = flat_map (λ (m : Method). flat_map (place_failing is_read) (doubts_of core m)) ms

pub places-same : (core : Core) (is_read : ClassId → Bool) (wanted : List MethodId) (ms : List Method) (k : ℕ)
    (flags : List Bool) (all : List Findings) → AreFound core ms all → AreOf wanted k flags ms →
    reached_places is_read flags all ≡ failing_in core is_read (listed wanted k ms)
places-same core is_read wanted [] k [] [] found are = refl
places-same core is_read wanted [] k [] (f ∷ all) found are = absurd found
places-same core is_read wanted [] k (flag ∷ flags) all found are =
    absurd (let z : suc (length flags) ≡ 0 = are.0 in omega arith)
places-same core is_read wanted (m ∷ ms) k [] all found are =
    absurd (let z : 0 ≡ suc (length ms) = are.0 in omega arith)
places-same core is_read wanted (m ∷ ms) k (flag ∷ flags) [] found are = absurd found
places-same core is_read wanted (m ∷ ms) k (flag ∷ flags) (f ∷ all) found are =
    let rest : reached_places is_read flags all ≡ failing_in core is_read (listed wanted (k + 1) ms) =
    places-same core is_read wanted ms (k + 1) flags all found.1 (of-rest wanted k flag flags m ms are) in
    let here : flag ≡ is_among wanted k = of-here wanted k flag flags m ms are in
    elim (is_among wanted k) as (λ b. is_among wanted k ≡ b →
    reached_places is_read (flag ∷ flags) (f ∷ all) ≡ failing_in core is_read (listed wanted k (m ∷ ms))) [
      | true ↦ λ e.
          (λ i. places_where ((here ∙ e) i) is_read f ++ reached_places is_read flags all)
          ∙ (λ i. flat_map (place_failing is_read) ((found.0 (analysed-here wanted k flag flags m ms are e)).doubts i)
          ++ rest i)
          ∙ sym (ap (failing_in core is_read) (listed-here wanted k m ms true e))
      | false ↦ λ e.
          (λ i. places_where ((here ∙ e) i) is_read f ++ reached_places is_read flags all)
          ∙ rest
          ∙ sym (ap (failing_in core is_read) (listed-here wanted k m ms false e))
    ] refl

-- ---- classes one after another
pub typings-turn : (core : Core) (classes : List ClassCore) (n k : ℕ) → n < length classes →
    flat_map (class_typings core) (enumerate_from k (drop n classes)) ≡
    typings_at core (record { 0 = k }) ++ flat_map (class_typings core) (enumerate_from (k + 1) (drop (suc n) classes))
typings-turn core [] n k low = absurd (let z : n < 0 = low in omega arith)
typings-turn core (c ∷ classes) zero k low = refl
typings-turn core (c ∷ classes) (suc n) k low = typings-turn core classes n k (omega arith)

pub typings-next : (core : Core) (classes : List ClassCore) (n found : ℕ) (made new : List Typing) →
    n < length classes → found ≡ n → new ≡ made ++ typings_at core (record { 0 = found }) →
    new ++ flat_map (class_typings core) (enumerate_from (n + 1) (drop (n + 1) classes)) ≡
    made ++ flat_map (class_typings core) (enumerate_from n (drop n classes))
typings-next core classes n found made new low same is =
    let one : n + 1 ≡ suc n = omega arith in
    let rest = flat_map (class_typings core) (enumerate_from (n + 1) (drop (suc n) classes)) in
    (λ i. is i ++ flat_map (class_typings core) (enumerate_from (n + 1) (drop (one i) classes)))
    ∙ append_assoc made (typings_at core (record { 0 = found })) rest
    ∙ ap (λ (k : ℕ). made ++ (typings_at core (record { 0 = k }) ++ rest)) same
    ∙ ap (λ (ts : List Typing). made ++ ts) (sym (typings-turn core classes n n low))

pub typings-end : (core : Core) (classes : List ClassCore) (n : ℕ) (made : List Typing) → length classes ≤ n →
    made ≡ made ++ flat_map (class_typings core) (enumerate_from n (drop n classes))
typings-end core classes n made past =
    sym (append-nil made)
    ∙ ap (λ (ts : List Typing). made ++ ts)
    (sym (at_drop_all (λ (cs : List ClassCore). flat_map (class_typings core) (enumerate_from n cs)) classes n past))
