-- The laws of the demand machine.
use Rattle.std.proofs.Common.{◌≡◌, ℕ, zero, suc, ◌+◌, ◌*◌, ◌<◌, ◌≤◌, List, [], ◌∷◌, length, Bool, true, false, cond}
use Rattle.std.proofs.Common.{Option, Some, None, refl, ap, inl, inr, arith, length-append}
use Rattle.std.specs.Prelude.{◌==◌, slice_get, ◌⊎◌}
use Rattle.racer_base.specs.declared.ids.MethodId.{MethodId}
use Rattle.core_code.specs.Counting.{weigh, times, IsIn}
use Rattle.core_code.specs.Chains.{row_of}
use Rattle.summary_store.specs.declared.machine.Event.{Event}
use Rattle.summary_store.specs.declared.machine.Event.TheVariants.{Take, Park, Publish, Leave}
use Rattle.summary_store.specs.declared.machine.Hand.{Hand}
use Rattle.summary_store.specs.declared.machine.Hand.TheVariants.{Free, Holds, Gone}
use Rattle.summary_store.specs.Machine.{Setup, Machine, Legal, replay, next_of, AllDone, AllGone, IsComplete, NoneHeld}
use Rattle.summary_store.specs.Laws.{park_one, takes, parks, publishes, leaves, edges, Ranked}
use Rattle.summary_store.proofs.Weights.{firsts, pairs, pairs-le-firsts, none_left, weigh-le-length, eqb_same}
use Rattle.summary_store.proofs.Weights.{fewer_pairs}
use Rattle.summary_store.proofs.Sound.{Sound, sound, gone_one, held_one, left_one, park_all, gone_small, from_row}
use Rattle.summary_store.proofs.Sound.{edge_list}

zero_or_more : (n : ℕ) → (n ≡ 0) ⊎ (0 < n)
zero_or_more zero = inl refl
zero_or_more (suc n) = inr (omega arith)

-- the pairs of the parks
park_list : List Event → List (MethodId × MethodId)
park_list [] = []
park_list (Take w m ∷ es) = park_list es
park_list (Park w m c ∷ es) = (m, c) ∷ park_list es
park_list (Publish w m ∷ es) = park_list es
park_list (Leave w ∷ es) = park_list es

park_list-pairs : (x y : ℕ) (es : List Event) → pairs x y (park_list es) ≡ weigh (park_one x y) es
unfolding park_list
park_list-pairs x y [] = refl
park_list-pairs x y (Take w m ∷ es) = omega (arith, park_list-pairs x y es)
park_list-pairs x y (Park w m c ∷ es) = omega (arith, park_list-pairs x y es)
park_list-pairs x y (Publish w m ∷ es) = omega (arith, park_list-pairs x y es)
park_list-pairs x y (Leave w ∷ es) = omega (arith, park_list-pairs x y es)

park_list-length : (es : List Event) → length (park_list es) ≡ weigh park_all es
unfolding park_list
park_list-length [] = refl
park_list-length (Take w m ∷ es) = omega (arith, park_list-length es)
park_list-length (Park w m c ∷ es) = omega (arith, park_list-length es)
park_list-length (Publish w m ∷ es) = omega (arith, park_list-length es)
park_list-length (Leave w ∷ es) = omega (arith, park_list-length es)

from_row-length : (m : MethodId) (cs : List MethodId) → length (from_row m cs) ≡ length cs
from_row-length m [] = refl
from_row-length m (c ∷ cs) = ap suc (from_row-length m cs)

edge_list-length : (rows : List (List MethodId)) (ms : List MethodId) →
    length (edge_list rows ms) ≡ weigh (λ m. length (row_of rows m)) ms
edge_list-length rows [] = refl
edge_list-length rows (m ∷ ms) = omega (
  arith,
  length-append (from_row m (row_of rows m)) (edge_list rows ms),
  from_row-length m (row_of rows m),
  edge_list-length rows ms,
)

pub parks-le-edges : (u : Setup) (h : List Event) (s : Machine) → Sound u h s → weigh park_all h ≤ edges u
parks-le-edges u h s ok =
    let few = fewer_pairs (park_list h) (edge_list u.rows u.methods) (λ x y. let a : MethodId = record { 0 = x } in
    let c : MethodId = record { 0 = y } in omega (arith, park_list-pairs x y h, ok.within a c)) in
    omega (arith, park_list-length h, edge_list-length u.rows u.methods)

pub published_once : (u : Setup) (rank : ℕ → ℕ) (h : List Event) → 0 < u.workers → Ranked u rank → Legal u h →
    (m : MethodId) → publishes m h ≤ 1
published_once u rank h some well legal m =
    let ok = sound u rank h some well legal in
    omega (arith, ok.published m.0, ok.one m.0, well.apart m.0)

pub parked_once : (u : Setup) (rank : ℕ → ℕ) (h : List Event) → 0 < u.workers → Ranked u rank → Legal u h →
    (m c : MethodId) → parks m c h ≤ 1
parked_once u rank h some well legal m c =
    let ok = sound u rank h some well legal in
    let s = replay u h in
    elim (zero_or_more (pairs m.0 c.0 s.parked)) as (λ x. parks m c h ≤ 1) [
      | inl z ↦ omega (arith, ok.parks m c, ok.one c.0, well.apart c.0)
      | inr more ↦ (let i = ok.waits m c more in omega (
        arith,
        ok.parks m c,
        i.1,
        ok.one m.0,
        well.apart m.0,
        pairs-le-firsts m.0 c.0 s.parked,
      ))
    ]

pub takes_bounded : (u : Setup) (rank : ℕ → ℕ) (h : List Event) → 0 < u.workers → Ranked u rank → Legal u h →
    takes h ≤ length u.methods + edges u
takes_bounded u rank h some well legal =
    let ok = sound u rank h some well legal in
    omega (arith, ok.taken, ok.all, parks-le-edges u h (replay u h) ok)

-- the room that a history takes
pub events_bounded : (u : Setup) (rank : ℕ → ℕ) (h : List Event) → 0 < u.workers → Ranked u rank → Legal u h →
    length h ≤ 2 * (length u.methods + edges u) + u.workers
events_bounded u rank h some well legal =
    let ok = sound u rank h some well legal in
    omega (
      arith,
      ok.taken,
      ok.all,
      ok.events,
      ok.hands,
      parks-le-edges u h (replay u h) ok,
      weigh-le-length gone_one gone_small (replay u h).hands,
    )

first_pair : (x : ℕ) (ps : List (MethodId × MethodId)) → 0 < firsts x ps → (c : MethodId) × (0 < pairs x c.0 ps)
first_pair x [] some = absurd (omega arith)
first_pair x (p ∷ ps) some =
    let P : Bool → Type 0 = λ b. (p.0.0 == x) ≡ b → (c : MethodId) × (0 < pairs x c.0 (p ∷ ps)) in
    let f : P (p.0.0 == x) = elim (p.0.0 == x) as P [
      | true ↦ (λ e. (
        p.1,
        let is : cond {A = ℕ} (p.0.0 == x) (cond {A = ℕ} (p.1.0 == p.1.0) 1 0) 0 ≡ 1 =
            (λ i. cond {A = ℕ} (e i) (cond {A = ℕ} (eqb_same p.1.0 i) 1 0) 0) in omega arith,
      ))
      | false ↦ (λ e. let z : cond {A = ℕ} (p.0.0 == x) 1 0 ≡ 0 = ap (λ (b : Bool). cond {A = ℕ} b 1 0) e in
          let i = first_pair x ps (omega arith) in (i.0, (let j = i.1 in omega arith)))
    ] in f refl

none_held : (x : ℕ) (hands : List Hand) → ((w : ℕ) (m : MethodId) → slice_get hands w ≡ Some (Holds m) → ⊥) →
    weigh (held_one x) hands ≡ 0
none_held x [] none = refl
none_held x (Free ∷ hs) none = omega (arith, none_held x hs (λ w m e. none (suc w) m e))
none_held x (Holds k ∷ hs) none = absurd (none 0 k refl)
none_held x (Gone ∷ hs) none = omega (arith, none_held x hs (λ w m e. none (suc w) m e))

-- nobody waits where nothing is idle, ready or held
nobody_waits : (u : Setup) (rank : ℕ → ℕ) (h : List Event) (s : Machine) → Ranked u rank → Sound u h s →
    next_of s ≡ None → NoneHeld s → (n : ℕ) (m : MethodId) → rank m.0 < n → firsts m.0 s.parked ≡ 0
nobody_waits u rank h s well ok none free zero m low = absurd (omega arith)
nobody_waits u rank h s well ok none free (suc n) m low =
    elim (zero_or_more (firsts m.0 s.parked)) as (λ x. firsts m.0 s.parked ≡ 0) [
      | inl z ↦ z
      | inr more ↦ (
          let pair = first_pair m.0 s.parked more in
          let c = pair.0 in
          let i = ok.waits m c pair.1 in
          let in_here : IsIn m u.methods = omega (arith, ok.one m.0) in
          let in_there = well.closed m c in_here i.0 in
          let falls = well.falls m c i.0 in
          let left = none_left s.ready s.idle none in
          let r : times c.0 s.ready ≡ 0 = ap (λ (l : List MethodId). times c.0 l) left.0 in
          let h0 = none_held c.0 s.hands free in
          let before = nobody_waits u rank h s well ok none free n c (omega arith) in
          absurd (omega (arith, ok.one c.0, i.1, i.2)))
    ]

pub all_done : (u : Setup) (rank : ℕ → ℕ) (h : List Event) → 0 < u.workers → Ranked u rank → Legal u h →
    next_of (replay u h) ≡ None → NoneHeld (replay u h) → AllDone u (replay u h)
all_done u rank h some well legal none free m here =
    let ok = sound u rank h some well legal in
    let s = replay u h in
    let left = none_left s.ready s.idle none in
    let r : times m.0 s.ready ≡ 0 = ap (λ (l : List MethodId). times m.0 l) left.0 in
    let i : times m.0 s.idle ≡ 0 = ap (λ (l : List MethodId). times m.0 l) left.1 in
    let h0 = none_held m.0 s.hands free in
    let p = nobody_waits u rank h s well ok none free (suc (rank m.0)) m (omega arith) in
    omega (arith, ok.one m.0)

left-le-one : (o : Option Hand) → left_one o ≤ 1
left-le-one None = omega arith
left-le-one (Some h) = gone_small h

pub left_once : (u : Setup) (rank : ℕ → ℕ) (h : List Event) → 0 < u.workers → Ranked u rank → Legal u h → (w : ℕ) →
    leaves w h ≤ 1
left_once u rank h some well legal w =
    let ok = sound u rank h some well legal in
    omega (arith, ok.left w, left-le-one (slice_get (replay u h).hands w))

all_gone : (hands : List Hand) → ((w : ℕ) → w < length hands → slice_get hands w ≡ Some Gone) →
    weigh gone_one hands ≡ length hands
all_gone [] gone = refl
all_gone (h ∷ hs) gone =
    let e : h ≡ Gone = (let first = gone 0 (omega arith) in cc) in
    let e' : gone_one h ≡ 1 = ap gone_one e in
    omega (arith, all_gone hs (λ w low. gone (suc w) (omega arith)))

gone-none_held : (hands : List Hand) → ((w : ℕ) → w < length hands → slice_get hands w ≡ Some Gone) →
    (w : ℕ) (m : MethodId) → slice_get hands w ≡ Some (Holds m) → ⊥
gone-none_held [] gone w m is = cc
gone-none_held (h ∷ hs) gone zero m is = let first = gone 0 (omega arith) in cc
gone-none_held (h ∷ hs) gone (suc w) m is = gone-none_held hs (λ v low. gone (suc v) (omega arith)) w m is

-- where all workers have left, the history is complete
pub complete : (u : Setup) (rank : ℕ → ℕ) (h : List Event) → 0 < u.workers → Ranked u rank → Legal u h →
    AllGone u (replay u h) → IsComplete u h
complete u rank h some well legal gone =
    let ok = sound u rank h some well legal in
    let s = replay u h in
    let every : (w : ℕ) → w < length s.hands → slice_get s.hands w ≡ Some Gone =
    λ w low. gone w (omega (arith, ok.hands)) in
    let none = ok.ended (omega (arith, all_gone s.hands every, ok.hands)) in
    (all_done u rank h some well legal none (gone-none_held s.hands every), gone)
