-- What holds after each legal history.
use Rattle.std.proofs.Common.{◌≡◌, ℕ, zero, suc, ◌+◌, ◌<◌, ◌≤◌, List, [], ◌∷◌, ◌++◌, length, Bool, true, false, cond}
use Rattle.std.proofs.Common.{Option, Some, None, refl, sym, ap, ◌∙◌, subst, inl, inr, arith, length-append}
use Rattle.std.proofs.Common.{append_assoc}
use Rattle.std.specs.Prelude.{◌==◌, slice_get, slice_set, replicate, ◌⊎◌}
use Rattle.racer_base.specs.declared.ids.MethodId.{MethodId}
use Rattle.core_code.specs.Counting.{weigh, times, IsIn}
use Rattle.core_code.specs.Chains.{row_of}
use Rattle.core_code.proofs.KindLemmas.{same_method}
use Rattle.summary_store.specs.declared.machine.Event.{Event}
use Rattle.summary_store.specs.declared.machine.Event.TheVariants.{Take, Park, Publish, Leave}
use Rattle.summary_store.specs.declared.machine.Hand.{Hand}
use Rattle.summary_store.specs.declared.machine.Hand.TheVariants.{Free, Holds, Gone}
use Rattle.summary_store.specs.Machine.{Setup, Machine, start, step, run, LegalAt, LegalFrom, Legal, replay, next_of}
use Rattle.summary_store.specs.Machine.{only, without, parked_on, parked_elsewhere}
use Rattle.summary_store.specs.Laws.{take_one, park_one, publish_one, leave_one, Ranked}
use Rattle.summary_store.proofs.Weights.{weigh-append, weigh-set, weigh-get, times-append, times_only, length_only}
use Rattle.summary_store.proofs.Weights.{times_without, firsts, pairs, times_parked, length_parked, pairs-le-firsts}
use Rattle.summary_store.proofs.Weights.{pairs_elsewhere_same, pairs_elsewhere-le, pairs_elsewhere_other, times_taken}
use Rattle.summary_store.proofs.Weights.{length_taken, weigh_replicate, times_idle_after-le, slice_get-set_same}
use Rattle.summary_store.proofs.Weights.{slice_get-set_other, length-slice_set, weigh-lt-length, eqb_yes}
use Rattle.summary_store.proofs.Weights.{eqb_no, eqb_same}

abbrev pub held_one : ℕ → Hand → ℕ
held_one x Free = 0
held_one x (Holds m) = cond (m.0 == x) 1 0
held_one x Gone = 0

abbrev pub busy_one : Hand → ℕ
busy_one Free = 0
busy_one (Holds m) = 1
busy_one Gone = 0

-- the hand of a worker that has left
abbrev pub gone_one : Hand → ℕ
gone_one Free = 0
gone_one (Holds m) = 0
gone_one Gone = 1

abbrev pub left_one : Option Hand → ℕ
left_one None = 0
left_one (Some h) = gone_one h

pub gone_small : (h : Hand) → gone_one h ≤ 1
gone_small Free = omega arith
gone_small (Holds m) = omega arith
gone_small Gone = omega arith

-- all parks of a history
abbrev pub park_all : Event → ℕ
park_all (Take w m) = 0
park_all (Park w m c) = 1
park_all (Publish w m) = 0
park_all (Leave w) = 0

-- the call edges
abbrev pub from_row : MethodId → List MethodId → List (MethodId × MethodId)
from_row m [] = []
from_row m (c ∷ cs) = (m, c) ∷ from_row m cs

abbrev pub edge_list : List (List MethodId) → List MethodId → List (MethodId × MethodId)
edge_list rows [] = []
edge_list rows (m ∷ ms) = from_row m (row_of rows m) ++ edge_list rows ms

pub record Sound (u : Setup) (h : List Event) (s : Machine) : Type 0 where
  pub hands : length s.hands ≡ u.workers
  pub one : (x : ℕ) → times x s.idle + times x s.ready + firsts x s.parked + weigh (held_one x) s.hands
      + times x s.done ≡ times x u.methods
  pub all : length s.idle + length s.ready + length s.parked + weigh busy_one s.hands + length s.done ≡ length u.methods
  pub waits : (m c : MethodId) → 0 < pairs m.0 c.0 s.parked →
      IsIn c (row_of u.rows m) × (times c.0 s.done ≡ 0) × (times c.0 s.idle ≡ 0)
  pub taken : weigh take_one h ≡ weigh park_all h + weigh busy_one s.hands + length s.done
  pub events : length h ≡ weigh take_one h + weigh park_all h + length s.done + weigh gone_one s.hands
  pub published : (x : ℕ) → weigh (publish_one x) h ≡ times x s.done
  pub parks : (m c : MethodId) → weigh (park_one m.0 c.0) h ≤ pairs m.0 c.0 s.parked + times c.0 s.done
  pub within : (m c : MethodId) → weigh (park_one m.0 c.0) h ≤ pairs m.0 c.0 (edge_list u.rows u.methods)
  pub left : (v : ℕ) → weigh (leave_one v) h ≡ left_one (slice_get s.hands v)
  pub ended : weigh gone_one s.hands ≡ u.workers → next_of s ≡ None

-- a history one event longer weighs the event more
push : (f : Event → ℕ) (h : List Event) (e : Event) → weigh f (h ++ e ∷ []) ≡ weigh f h + f e
push f h e = omega (arith, weigh-append f h (e ∷ []))

length_push : (h : List Event) (e : Event) → length (h ++ e ∷ []) ≡ suc (length h)
length_push h e = omega (arith, length-append h (e ∷ []))

-- a park counts for its own pair alone
pair_edge : (m c : MethodId) (cs : List MethodId) → 0 < times c.0 cs → 0 < pairs m.0 c.0 (from_row m cs)
pair_edge m c [] some = absurd (omega arith)
pair_edge m c (d ∷ ds) some =
    let e : cond {A = ℕ} (m.0 == m.0) (cond {A = ℕ} (d.0 == c.0) 1 0) 0 ≡ cond {A = ℕ} (d.0 == c.0) 1 0 =
    ap (λ (b : Bool). cond {A = ℕ} b (cond {A = ℕ} (d.0 == c.0) 1 0) 0) (eqb_same m.0) in
    let P : Bool → Type 0 = λ b. 0 < cond {A = ℕ} b 1 0 + times c.0 ds →
    0 < cond {A = ℕ} b 1 0 + pairs m.0 c.0 (from_row m ds) in
    let f : P (d.0 == c.0) = elim (d.0 == c.0) as P [
      | true ↦ (λ k. omega arith)
      | false ↦ (λ k. let i =
          pair_edge m c ds (omega arith) in omega arith)
    ] in
    let g = f some in omega arith

edge_here : (rows : List (List MethodId)) (m c : MethodId) (ms : List MethodId) → 0 < times m.0 ms →
    0 < times c.0 (row_of rows m) → 0 < pairs m.0 c.0 (edge_list rows ms)
edge_here rows m c [] some row = absurd (omega arith)
edge_here rows m c (d ∷ ds) some row =
    let whole = weigh-append (λ (p : MethodId × MethodId).
    cond {A = ℕ} (p.0.0 == m.0) (cond {A = ℕ} (p.1.0 == c.0) 1 0) 0) (from_row d (row_of rows d))
    (edge_list rows ds) in
    let P : Bool → Type 0 = λ b. (d.0 == m.0) ≡ b →
    0 < pairs m.0 c.0 (from_row d (row_of rows d) ++ edge_list rows ds) in
    let f : P (d.0 == m.0) = elim (d.0 == m.0) as P [
      | true ↦ (λ e. let is : m ≡ d = sym (same_method d m (eqb_yes _ _ e)) in
          let Q : MethodId → Type 0 = λ k. 0 < pairs m.0 c.0 (from_row k (row_of rows k)) in
          let here = subst Q is (pair_edge m c (row_of rows m) row) in omega arith)
      | false ↦ (λ e. let z : cond {A = ℕ} (d.0 == m.0) 1 0 ≡ 0 = ap (λ (b : Bool). cond {A = ℕ} b 1 0) e in
          let i = edge_here rows m c ds (omega arith) row in omega arith)
    ] in f refl

pub length_replicate : {X : Type 0} (n : ℕ) (x : X) → length (replicate n x) ≡ n
length_replicate zero x = refl
length_replicate (suc n) x = ap suc (length_replicate n x)

none_gone : (n v : ℕ) → left_one (slice_get (replicate n Free) v) ≡ 0
none_gone zero v = refl
none_gone (suc n) zero = refl
none_gone (suc n) (suc v) = none_gone n v

-- who has left after the hand of w has changed
left_stays : (hands : List Hand) (w v : ℕ) (y z : Hand) → slice_get hands w ≡ Some y → gone_one y ≡ 0 →
    gone_one z ≡ 0 → left_one (slice_get (slice_set hands w z) v) ≡ left_one (slice_get hands v)
left_stays hands w v y z is old new =
    let P : Bool → Type 0 = λ b. (w == v) ≡ b → left_one (slice_get (slice_set hands w z) v) ≡
    left_one (slice_get hands v) in
    let f : P (w == v) = elim (w == v) as P [
      | true ↦ (λ e. let same : w ≡ v = eqb_yes _ _ e in
          let Q : ℕ → Type 0 = λ k. left_one (slice_get (slice_set hands w z) k) ≡ left_one (slice_get hands k) in
          subst Q same (ap left_one (slice_get-set_same hands w y z is) ∙ new ∙ sym old ∙ sym (ap left_one is)))
      | false ↦ (λ e. ap left_one (slice_get-set_other hands w v z (eqb_no _ _ e)))
    ] in f refl

left_goes : (hands : List Hand) (w v : ℕ) → slice_get hands w ≡ Some Free →
    left_one (slice_get (slice_set hands w Gone) v) ≡ left_one (slice_get hands v) + cond (w == v) 1 0
left_goes hands w v is =
    let P : Bool → Type 0 = λ b. (w == v) ≡ b → left_one (slice_get (slice_set hands w Gone) v) ≡
    left_one (slice_get hands v) + cond {A = ℕ} b 1 0 in
    let f : P (w == v) = elim (w == v) as P [
      | true ↦ (λ e. let same : w ≡ v = eqb_yes _ _ e in
          let Q : ℕ → Type 0 = λ k. left_one (slice_get (slice_set hands w Gone) k) ≡
          left_one (slice_get hands k) + 1 in
          let a : left_one (slice_get (slice_set hands w Gone) w) ≡ 1 =
          ap left_one (slice_get-set_same hands w Free Gone is) in
          let b : left_one (slice_get hands w) ≡ 0 = ap left_one is in
          subst Q same (omega arith))
      | false ↦ (λ e. let a : left_one (slice_get (slice_set hands w Gone) v) ≡ left_one (slice_get hands v) =
          ap left_one (slice_get-set_other hands w v Gone (eqb_no _ _ e)) in omega arith)
    ] in f refl

pub sound_start : (u : Setup) → 0 < u.workers → Sound u [] (start u)
sound_start u some =
    let none : (x : ℕ) → weigh (held_one x) (replicate u.workers Free) ≡ 0 =
    λ x. weigh_replicate (held_one x) u.workers Free refl in
    let calm : weigh busy_one (replicate u.workers Free) ≡ 0 = weigh_replicate busy_one u.workers Free refl in
    let here : weigh gone_one (replicate u.workers Free) ≡ 0 = weigh_replicate gone_one u.workers Free refl in
    record {
      hands = length_replicate u.workers Free;
      one = λ x. omega (arith, none x);
      all = omega arith;
      waits = λ m c k. absurd (omega arith);
      taken = omega arith;
      events = omega arith;
      published = λ x. refl;
      parks = λ m c. omega arith;
      within = λ m c. omega arith;
      left = λ v. sym (none_gone u.workers v);
      ended = λ all. absurd (omega arith);
    }

-- a worker takes a method
sound_take : (u : Setup) (h : List Event) (s : Machine) (w : ℕ) (m : MethodId) → Sound u h s → LegalAt u s (Take w m) →
    Sound u (h ++ Take w m ∷ []) (step s (Take w m))
sound_take u h s w m ok legal =
    let set = λ (f : Hand → ℕ). weigh-set f s.hands w Free (Holds m) legal.0 in
    let e = Take w m in
    record {
      hands = length-slice_set s.hands w (Holds m) ∙ ok.hands;
      one = λ x. omega (arith, ok.one x, set (held_one x), times_taken x s.ready s.idle m legal.1);
      all = omega (arith, ok.all, set busy_one, length_taken s.ready s.idle m legal.1);
      waits = λ a c k. let i = ok.waits a c k in (i.0, i.1, omega (arith, i.2, times_idle_after-le c.0 s.ready s.idle));
      taken = omega (arith, ok.taken, set busy_one, push take_one h e, push park_all h e);
      events = omega (arith, ok.events, set gone_one, push take_one h e, push park_all h e, length_push h e);
      published = λ x. omega (arith, ok.published x, push (publish_one x) h e);
      parks = λ a c. omega (arith, ok.parks a c, push (park_one a.0 c.0) h e);
      within = λ a c. omega (arith, ok.within a c, push (park_one a.0 c.0) h e);
      left = λ v. push (leave_one v) h e ∙ (let i : weigh (leave_one v) h + 0 ≡ weigh (leave_one v) h = omega arith in
          i) ∙ ok.left v ∙ sym (left_stays s.hands w v Free (Holds m) legal.0 refl refl);
      ended = λ all. absurd (omega (
        arith,
        ok.hands,
        set gone_one,
        weigh-lt-length gone_one gone_small s.hands w Free legal.0 refl,
      ));
    }

-- a method that a worker holds is analysed, and in no list
pub held_here : (u : Setup) (rank : ℕ → ℕ) (h : List Event) (s : Machine) (w : ℕ) (m : MethodId) → Ranked u rank →
    Sound u h s → slice_get s.hands w ≡ Some (Holds m) →
    (0 < times m.0 u.methods) × (firsts m.0 s.parked ≡ 0) × (times m.0 s.done ≡ 0) × (times m.0 s.idle ≡ 0)
    × (times m.0 s.ready ≡ 0)
held_here u rank h s w m well ok holds =
    let is : cond {A = ℕ} (m.0 == m.0) 1 0 ≡ 1 = ap (λ (b : Bool). cond {A = ℕ} b 1 0) (eqb_same m.0) in
    let got : cond {A = ℕ} (m.0 == m.0) 1 0 ≤ weigh (held_one m.0) s.hands =
    weigh-get (held_one m.0) s.hands w (Holds m) holds in
    let one = ok.one m.0 in
    let most = well.apart m.0 in
    (omega arith, omega arith, omega arith, omega arith, omega arith)

-- a worker parks a method
sound_park : (u : Setup) (rank : ℕ → ℕ) (h : List Event) (s : Machine) (w : ℕ) (m c : MethodId) → Ranked u rank →
    Sound u h s → LegalAt u s (Park w m c) → Sound u (h ++ Park w m c ∷ []) (step s (Park w m c))
sound_park u rank h s w m c well ok legal =
    let set = λ (f : Hand → ℕ). weigh-set f s.hands w (Holds m) Free legal.0 in
    let e = Park w m c in
    let held = held_here u rank h s w m well ok legal.0 in
    let bit = λ (a d : MethodId). cond {A = ℕ} (m.0 == a.0) (cond {A = ℕ} (c.0 == d.0) 1 0) 0 in
    let added : (a d : MethodId) → pairs a.0 d.0 (s.parked ++ (m, c) ∷ []) ≡ pairs a.0 d.0 s.parked + bit a d =
    λ a d. let k = weigh-append (λ (p : MethodId × MethodId).
    cond {A = ℕ} (p.0.0 == a.0) (cond {A = ℕ} (p.1.0 == d.0) 1 0) 0) s.parked ((m, c) ∷ []) in omega arith in
    let first : (x : ℕ) → firsts x (s.parked ++ (m, c) ∷ []) ≡ firsts x s.parked + cond {A = ℕ} (m.0 == x) 1 0 =
    λ x. let k = weigh-append (λ (p : MethodId × MethodId). cond {A = ℕ} (p.0.0 == x) 1 0) s.parked
    ((m, c) ∷ []) in omega arith in
    let choose : (a d : MethodId) → (bit a d ≡ 0) ⊎ ((m ≡ a) × (c ≡ d)) = λ a d.
    (let P : Bool → Type 0 = λ b. (m.0 == a.0) ≡ b →
    (cond {A = ℕ} b (cond {A = ℕ} (c.0 == d.0) 1 0) 0 ≡ 0) ⊎ ((m ≡ a) × (c ≡ d)) in
    let Q : Bool → Type 0 = λ b. (c.0 == d.0) ≡ b → m ≡ a → (cond {A = ℕ} b 1 0 ≡ 0) ⊎ ((m ≡ a) × (c ≡ d)) in
    let g : Q (c.0 == d.0) = elim (c.0 == d.0) as Q [
      | true ↦
          (λ i j. inr (j, same_method c d (eqb_yes _ _ i)))
      | false ↦ (λ i j. inl refl)
    ] in
    let f : P (m.0 == a.0) = elim (m.0 == a.0) as P [
      | true ↦ (λ i. g refl (same_method m a (eqb_yes _ _ i)))
      | false ↦
          (λ i. inl refl)
    ] in f refl) in
    record {
      hands = length-slice_set s.hands w Free ∙ ok.hands;
      one = λ x. omega (
        arith,
        ok.one x,
        set (held_one x),
        times_only x c.0 s.idle,
        times-append x s.ready (only c.0 s.idle),
        first x,
      );
      all = omega (
        arith,
        ok.all,
        set busy_one,
        length_only c.0 s.idle,
        length-append s.ready (only c.0 s.idle),
        length-append s.parked ((m, c) ∷ []),
      );
      waits = λ a d k.
          (let Goal = IsIn d (row_of u.rows a) × (times d.0 s.done ≡ 0) × (times d.0 (without c.0 s.idle) ≡ 0) in
          let old : 0 < pairs a.0 d.0 s.parked → Goal = λ some. let i = ok.waits a d some in
          (i.0, i.1, omega (arith, i.2, times_only d.0 c.0 s.idle)) in
          elim (choose a d) as (λ x. Goal) [
            | inl z ↦ old (omega (arith, added a d))
            | inr is ↦ (let P : MethodId → MethodId →
                Type 0 = λ x y. IsIn y (row_of u.rows x) × (times y.0 s.done ≡ 0)
                × (times y.0 (without c.0 s.idle) ≡ 0) in
                let Q : MethodId → Type 0 = λ x. P x d in let R : MethodId → Type 0 = λ y. P m y in
                subst Q is.0 (subst R is.1 (legal.1, legal.2, times_without c.0 s.idle)))
          ]);
      taken = omega (arith, ok.taken, set busy_one, push take_one h e, push park_all h e);
      events = omega (arith, ok.events, set gone_one, push take_one h e, push park_all h e, length_push h e);
      published = λ x. omega (arith, ok.published x, push (publish_one x) h e);
      parks = λ a d. omega (arith, ok.parks a d, push (park_one a.0 d.0) h e, added a d);
      within = λ a d.
          (let Goal = weigh (park_one a.0 d.0) (h ++ e ∷ []) ≤ pairs a.0 d.0 (edge_list u.rows u.methods) in
          elim (choose a d) as (λ x. Goal) [
            | inl z ↦ omega (arith, ok.within a d, push (park_one a.0 d.0) h e)
            | inr is ↦ (let Q : MethodId → Type 0 = λ x. weigh (park_one x.0 d.0) (h ++ e ∷ []) ≤
                pairs x.0 d.0 (edge_list u.rows u.methods) in
                let R : MethodId → Type 0 = λ y. weigh (park_one m.0 y.0) (h ++ e ∷ []) ≤
                pairs m.0 y.0 (edge_list u.rows u.methods) in
                let small : cond {A = ℕ} (m.0 == m.0) (cond {A = ℕ} (c.0 == c.0) 1 0) 0 ≡ 1 =
                (λ i. cond {A = ℕ} (eqb_same m.0 i) (cond {A = ℕ} (eqb_same c.0 i) 1 0) 0) in
                let before = ok.parks m c in let few = pairs-le-firsts m.0 c.0 s.parked in let none = held.1 in
                let not_done = legal.2 in
                let now = push (park_one m.0 c.0) h e in let edge = edge_here u.rows m c u.methods held.0 legal.1 in
                subst Q is.0 (subst R is.1 (omega arith)))
          ]);
      left = λ v. push (leave_one v) h e ∙ (let i : weigh (leave_one v) h + 0 ≡ weigh (leave_one v) h = omega arith in
          i) ∙ ok.left v ∙ sym (left_stays s.hands w v (Holds m) Free legal.0 refl refl);
      ended = λ all. absurd (omega (
        arith,
        ok.hands,
        set gone_one,
        weigh-lt-length gone_one gone_small s.hands w (Holds m) legal.0 refl,
      ));
    }

-- a worker publishes a method
sound_publish : (u : Setup) (rank : ℕ → ℕ) (h : List Event) (s : Machine) (w : ℕ) (m : MethodId) → Ranked u rank →
    Sound u h s → LegalAt u s (Publish w m) → Sound u (h ++ Publish w m ∷ []) (step s (Publish w m))
sound_publish u rank h s w m well ok legal =
    let set = λ (f : Hand → ℕ). weigh-set f s.hands w (Holds m) Free legal.0 in
    let e = Publish w m in
    let added : (x : ℕ) → times x (s.done ++ m ∷ []) ≡ times x s.done + cond {A = ℕ} (m.0 == x) 1 0 = λ x. let k =
    times-append x s.done (m ∷ []) in omega arith in
    record {
      hands = length-slice_set s.hands w Free ∙ ok.hands;
      one = λ x. omega (
        arith,
        ok.one x,
        set (held_one x),
        times_parked x m.0 s.parked,
        times-append x s.ready (parked_on m.0 s.parked),
        added x,
      );
      all = omega (
        arith,
        ok.all,
        set busy_one,
        length_parked m.0 s.parked,
        length-append s.ready (parked_on m.0 s.parked),
        length-append s.done (m ∷ []),
      );
      waits = λ a c k.
          (let i = ok.waits a c (omega (arith, pairs_elsewhere-le a.0 c.0 m.0 s.parked)) in
          let P : Bool → Type 0 = λ b. (m.0 == c.0) ≡ b → times c.0 (s.done ++ m ∷ []) ≡ 0 in
          let f : P (m.0 == c.0) = elim (m.0 == c.0) as P [
            | true ↦ (λ j. let is : m.0 ≡ c.0 = eqb_yes _ _ j in let Q : ℕ →
                Type 0 = λ n. 0 < pairs a.0 n (parked_elsewhere m.0 s.parked) in
                let more = subst Q (sym is) k in absurd (omega (arith, pairs_elsewhere_same a.0 m.0 s.parked)))
            | false ↦ (λ j. let z : cond {A = ℕ} (m.0 == c.0) 1 0 ≡ 0 = ap (λ (b : Bool). cond {A = ℕ} b 1 0) j in
                omega (arith, added c.0, i.1))
          ] in
          (i.0, f refl, i.2));
      taken = omega (
        arith,
        ok.taken,
        set busy_one,
        push take_one h e,
        push park_all h e,
        length-append s.done (m ∷ []),
      );
      events = omega (
        arith,
        ok.events,
        set gone_one,
        push take_one h e,
        push park_all h e,
        length_push h e,
        length-append s.done (m ∷ []),
      );
      published = λ x. omega (arith, ok.published x, push (publish_one x) h e, added x);
      parks = λ a c.
          (let old = ok.parks a c in let now = push (park_one a.0 c.0) h e in let more = added c.0 in
          let P : Bool → Type 0 = λ b. (c.0 == m.0) ≡ b →
          weigh (park_one a.0 c.0) (h ++ e ∷ []) ≤
          pairs a.0 c.0 (parked_elsewhere m.0 s.parked) + times c.0 (s.done ++ m ∷ []) in
          let f : P (c.0 == m.0) = elim (c.0 == m.0) as P [
            | true ↦ (λ j. let is : c.0 ≡ m.0 = eqb_yes _ _ j in
                let bit : cond {A = ℕ} (m.0 == c.0) 1 0 ≡ 1 = ap (λ (n : ℕ). cond {A = ℕ} (m.0 == n) 1 0) is
                ∙ ap (λ (b : Bool). cond {A = ℕ} b 1 0) (eqb_same m.0) in
                let few = pairs-le-firsts a.0 c.0 s.parked in let one = ok.one a.0 in let most = well.apart a.0 in
                omega arith)
            | false ↦ (λ j. let same = pairs_elsewhere_other a.0 c.0 m.0 s.parked j in omega arith)
          ] in f refl);
      within = λ a c. omega (arith, ok.within a c, push (park_one a.0 c.0) h e);
      left = λ v. push (leave_one v) h e ∙ (let i : weigh (leave_one v) h + 0 ≡ weigh (leave_one v) h = omega arith in
          i) ∙ ok.left v ∙ sym (left_stays s.hands w v (Holds m) Free legal.0 refl refl);
      ended = λ all. absurd (omega (
        arith,
        ok.hands,
        set gone_one,
        weigh-lt-length gone_one gone_small s.hands w (Holds m) legal.0 refl,
      ));
    }

-- a worker leaves
sound_leave : (u : Setup) (h : List Event) (s : Machine) (w : ℕ) → Sound u h s → LegalAt u s (Leave w) →
    Sound u (h ++ Leave w ∷ []) (step s (Leave w))
sound_leave u h s w ok legal =
    let set = λ (f : Hand → ℕ). weigh-set f s.hands w Free Gone legal.0 in
    let e = Leave w in
    record {
      hands = length-slice_set s.hands w Gone ∙ ok.hands;
      one = λ x. omega (arith, ok.one x, set (held_one x));
      all = omega (arith, ok.all, set busy_one);
      waits = λ a c k. ok.waits a c k;
      taken = omega (arith, ok.taken, set busy_one, push take_one h e, push park_all h e);
      events = omega (arith, ok.events, set gone_one, push take_one h e, push park_all h e, length_push h e);
      published = λ x. omega (arith, ok.published x, push (publish_one x) h e);
      parks = λ a c. omega (arith, ok.parks a c, push (park_one a.0 c.0) h e);
      within = λ a c. omega (arith, ok.within a c, push (park_one a.0 c.0) h e);
      left = λ v. omega (arith, push (leave_one v) h e, ok.left v, left_goes s.hands w v legal.0);
      ended = λ all. legal.1;
    }

pub sound_step : (u : Setup) (rank : ℕ → ℕ) (h : List Event) (s : Machine) (e : Event) → Ranked u rank → Sound u h s →
    LegalAt u s e → Sound u (h ++ e ∷ []) (step s e)
sound_step u rank h s (Take w m) well ok legal = sound_take u h s w m ok legal
sound_step u rank h s (Park w m c) well ok legal = sound_park u rank h s w m c well ok legal
sound_step u rank h s (Publish w m) well ok legal = sound_publish u rank h s w m well ok legal
sound_step u rank h s (Leave w) well ok legal = sound_leave u h s w ok legal

sound_run : (u : Setup) (rank : ℕ → ℕ) (h : List Event) (s : Machine) (es : List Event) → Ranked u rank → Sound u h s →
    LegalFrom u s es → Sound u (h ++ es) (run s es)
sound_run u rank h s [] well ok legal = let P : List Event → Type 0 = λ k. Sound u k s in subst P (sym (nothing h)) ok
  where
    nothing : (h : List Event) → h ++ [] ≡ h
    nothing [] = refl
    nothing (x ∷ xs) = ap (λ ys. x ∷ ys) (nothing xs)
sound_run u rank h s (e ∷ es) well ok legal =
    let P : List Event → Type 0 = λ k. Sound u k (run (step s e) es) in
    subst P (append_assoc h (e ∷ []) es) (sound_run u rank (h ++ e ∷ []) (step s e) es well
    (sound_step u rank h s e well ok legal.0) legal.1)

-- what holds after a legal history
pub sound : (u : Setup) (rank : ℕ → ℕ) (history : List Event) → 0 < u.workers → Ranked u rank → Legal u history →
    Sound u history (replay u history)
sound u rank history some well legal = sound_run u rank [] (start u) history well (sound_start u some) legal
