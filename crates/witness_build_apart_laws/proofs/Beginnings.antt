-- A leg from two states in which its thread and what is stored are the same.
use Rattle.std.proofs.Common.{◌≡◌, ℕ, zero, suc, Bool, true, false, cond, not, ◌||◌, List, [], ◌∷◌, ◌++◌, Option, None}
use Rattle.std.proofs.Common.{Some}
use Rattle.std.proofs.Common.{refl, sym, ap, subst, ◌∙◌, slice_get}
use Rattle.std.specs.List.{list_any}
use Rattle.std.specs.Option.{option_and_then}
use Rattle.racer_base.specs.declared.ids.FieldId.{FieldId}
use Rattle.racer_base.specs.declared.ids.Touch.TheVariants.{Read, Write}
use Rattle.core_code.specs.Core.{Core}
use Rattle.core_semantics.specs.declared.answer.Turn.{Turn}
use Rattle.core_semantics.specs.declared.object.Object.{Object}
use Rattle.core_semantics.specs.Runs.{Access, frame_touch, next_touch}
use Rattle.core_semantics.specs.State.{State, Thread, thread_of}
use Rattle.core_semantics.specs.Steps.{kind_of}
use Rattle.core_semantics.specs.Advances.{Going, one_step}
use Rattle.witness_build_apart_laws.specs.Apart.{AreAlike, DoesAvoid, avoids_behind, is_avoided}
use Rattle.witness_build_apart_laws.specs.Goes.{GoingAlike, goes_behind, leg_goes, nothing}
use Rattle.core_semantics.specs.Changes.{step_looks, touch_looks}
use Rattle.witness_build_apart_laws.specs.Looks.{leg_looks, looks_behind}
use Rattle.core_semantics.specs.Changes.{Change, Spot, frame_change, is_plain_kind, step_change}
use Rattle.witness_build_apart_laws.specs.Stores.{leg_stores, noted, stores_behind}
use Rattle.witness_build_apart_laws.proofs.Legs.{one-alike}

pub avoids-nothing : (touch : Option Access) → is_avoided nothing touch ≡ true
avoids-nothing None = refl
avoids-nothing (Some (o, f, Read)) = refl
avoids-nothing (Some (o, f, Write)) = refl

same-change : (core : Core) (t : ℕ) (a b : State) → thread_of a t ≡ thread_of b t →
    step_change core a t ≡ step_change core b t
same-change core t a b e = ap (λ (x : Thread). frame_change core (slice_get x.frames 0)) e

same-touch : (t : ℕ) (a b : State) → thread_of a t ≡ thread_of b t → next_touch a t ≡ next_touch b t
same-touch t a b e = ap (λ (x : Thread). option_and_then frame_touch (slice_get x.frames 0)) e

module _ (core : Core) (t : ℕ) where
  goes-behind : (rest : List Turn → State → Option Going) (m n : Option Going) →
      ((ts : List Turn) (x y : State) → AreAlike core nothing t x y →
      GoingAlike core nothing t (rest ts x) (rest ts y)) →
      GoingAlike core nothing t m n → GoingAlike core nothing t (goes_behind rest m) (goes_behind rest n)
  goes-behind rest None None then_on going = tt
  goes-behind rest (Some (x, ts)) (Some (y, us)) then_on going =
      subst (λ (vs : List Turn). GoingAlike core nothing t (rest ts x) (rest vs y)) going.1 (then_on ts x y going.0)
  goes-behind rest None (Some y) then_on going = absurd going
  goes-behind rest (Some x) None then_on going = absurd going

  stores-behind : (rest : List Turn → State → Option (List Spot)) (m n : Option Going) →
      ((ts : List Turn) (x y : State) → AreAlike core nothing t x y → rest ts x ≡ rest ts y) →
      GoingAlike core nothing t m n → stores_behind rest m ≡ stores_behind rest n
  stores-behind rest None None then_on going = refl
  stores-behind rest (Some (x, ts)) (Some (y, us)) then_on going =
      then_on ts x y going.0 ∙ ap (λ (vs : List Turn). rest vs y) going.1
  stores-behind rest None (Some y) then_on going = absurd going
  stores-behind rest (Some x) None then_on going = absurd going

  avoids-on : (rest : List Turn → State → Type 0) (m n : Option Going) →
      ((ts : List Turn) (x y : State) → AreAlike core nothing t x y → rest ts x → rest ts y) →
      GoingAlike core nothing t m n → avoids_behind rest m → avoids_behind rest n
  avoids-on rest None None then_on going avoids = tt
  avoids-on rest (Some (x, ts)) (Some (y, us)) then_on going avoids =
      subst (λ (vs : List Turn). rest vs y) going.1 (then_on ts x y going.0 avoids)
  avoids-on rest None (Some y) then_on going avoids = absurd going
  avoids-on rest (Some x) None then_on going avoids = absurd going

  one-same : (turns : List Turn) (a b : State) → AreAlike core nothing t a b →
      GoingAlike core nothing t (one_step core t turns a) (one_step core t turns b)
  one-same turns a b alike = one-alike core nothing t turns a b alike (avoids-nothing (next_touch a t))

  pub goes-same : (n : ℕ) (turns : List Turn) (a b : State) → AreAlike core nothing t a b →
      GoingAlike core nothing t (leg_goes core t n turns a) (leg_goes core t n turns b)
  goes-same zero turns a b alike = (alike, refl)
  goes-same (suc n) turns a b alike =
      goes-behind (leg_goes core t n) (one_step core t turns a) (one_step core t turns b) (goes-same n)
      (one-same turns a b alike)

  pub stores-same : (n : ℕ) (turns : List Turn) (a b : State) → AreAlike core nothing t a b →
      leg_stores core t n turns a ≡ leg_stores core t n turns b
  stores-same zero turns a b alike = refl
  stores-same (suc n) turns a b alike =
      ap (λ (c : Change). noted c (stores_behind (leg_stores core t n) (one_step core t turns a)))
      (same-change core t a b alike.thread)
      ∙ ap (noted (step_change core b t)) (stores-behind (leg_stores core t n) (one_step core t turns a)
      (one_step core t turns b) (stores-same n) (one-same turns a b alike))

  pub avoids-same : (but : Object → FieldId → Bool) (n : ℕ) (turns : List Turn) (a b : State) →
      AreAlike core nothing t a b → DoesAvoid core but t n turns a → DoesAvoid core but t n turns b
  avoids-same but zero turns a b alike avoids = tt
  avoids-same but (suc n) turns a b alike avoids = (
    sym (ap (is_avoided but) (same-touch t a b alike.thread)) ∙ avoids.0,
    avoids-on (DoesAvoid core but t n) (one_step core t turns a) (one_step core t turns b) (avoids-same but n)
        (one-same turns a b alike) avoids.1,
  )

-- ---- what is looked at

abbrev hits : (Object → FieldId → Bool) → Spot → Bool
hits but (o, f) = but o f

left-none : (but : Object → FieldId → Bool) (xs ys : List Spot) → list_any (hits but) (xs ++ ys) ≡ false →
    (list_any (hits but) xs ≡ false) × (list_any (hits but) ys ≡ false)
left-none but [] ys e = (refl, e)
left-none but (x ∷ xs) ys e =
    let parts = or-false (hits but x) (list_any (hits but) (xs ++ ys)) e in
    let rest = left-none but xs ys parts.1 in
    (both-false (hits but x) (list_any (hits but) xs) parts.0 rest.0, rest.1)
  where
    or-false : (a b : Bool) → (a || b) ≡ false → (a ≡ false) × (b ≡ false)
    or-false true b h = absurd cc
    or-false false b h = (refl, h)

    both-false : (a b : Bool) → a ≡ false → b ≡ false → (a || b) ≡ false
    both-false true b h k = absurd cc
    both-false false b h k = k

not-hit : (but : Object → FieldId → Bool) (o : Object) (f : FieldId) → but o f ≡ false → not (but o f) ≡ true
not-hit but o f e = ap not e

first-none : (b : Bool) → (b || false) ≡ false → b ≡ false
first-none true h = absurd cc
first-none false h = refl

read-avoided : (core : Core) (but : Object → FieldId → Bool) (o : Object) (f : FieldId) (k : Bool) →
    is_plain_kind (kind_of core f) ≡ k → (is_plain_kind (kind_of core f) ≡ true → but o f ≡ false) →
    list_any (hits but) (cond k [] ((o, f) ∷ [])) ≡ false → not (but o f) ≡ true
read-avoided core but o f true kind plain e = not-hit but o f (plain kind)
read-avoided core but o f false kind plain e = not-hit but o f (first-none (but o f) e)

touch-avoided : (core : Core) (but : Object → FieldId → Bool) (touch : Option Access) →
    ((o : Object) (f : FieldId) → is_plain_kind (kind_of core f) ≡ true → but o f ≡ false) →
    list_any (hits but) (touch_looks core touch) ≡ false → is_avoided but touch ≡ true
touch-avoided core but None plain e = refl
touch-avoided core but (Some (o, f, Write)) plain e = refl
touch-avoided core but (Some (o, f, Read)) plain e =
    read-avoided core but o f (is_plain_kind (kind_of core f)) refl (plain o f) e

avoids-looks : (but : Object → FieldId → Bool) (rest : List Turn → State → Type 0)
    (looks : List Turn → State → List Spot) (o : Option Going) →
    ((ts : List Turn) (x : State) → list_any (hits but) (looks ts x) ≡ false → rest ts x) →
    list_any (hits but) (looks_behind looks o) ≡ false → avoids_behind rest o
avoids-looks but rest looks None then_on e = tt
avoids-looks but rest looks (Some (x, ts)) then_on e = then_on ts x e

pub looks-avoid : (core : Core) (but : Object → FieldId → Bool) (t n : ℕ) (turns : List Turn) (s : State) →
    ((o : Object) (f : FieldId) → is_plain_kind (kind_of core f) ≡ true → but o f ≡ false) →
    list_any (λ (x : Spot). but x.0 x.1) (leg_looks core t n turns s) ≡ false → DoesAvoid core but t n turns s
looks-avoid core but t zero turns s plain e = tt
looks-avoid core but t (suc n) turns s plain e =
    let parts = left-none but (step_looks core s t) (looks_behind (leg_looks core t n) (one_step core t turns s)) e in (
      touch-avoided core but (next_touch s t) plain parts.0,
      avoids-looks but (DoesAvoid core but t n) (leg_looks core t n) (one_step core t turns s)
          (λ ts x h. looks-avoid core but t n ts x plain h) parts.1,
    )
