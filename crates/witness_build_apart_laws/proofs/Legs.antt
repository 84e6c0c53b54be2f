-- A leg over two states that read alike wherever it reads.
use Rattle.std.proofs.Common.{◌≡◌, ℕ, zero, suc, Bool, true, false, cond, List, [], ◌∷◌, ◌++◌, Option, None, Some}
use Rattle.std.proofs.Common.{refl, sym, ap, subst, ◌∙◌, nat_eq, slice_get}
use Rattle.std.specs.Option.{option_and_then}
use Rattle.std.proofs.lemmas.Bool.{not-true}
use Rattle.racer_base.specs.declared.ids.Touch.TheVariants.{Read, Write}
use Rattle.core_code.specs.Core.{Core}
use Rattle.core_semantics.specs.declared.answer.Holder.{Holder}
use Rattle.core_semantics.specs.declared.answer.Turn.{Turn}
use Rattle.core_semantics.specs.declared.answer.Turn.TheVariants.{Right}
use Rattle.core_semantics.specs.declared.object.StartPath.{StartPath}
use Rattle.core_semantics.specs.Runs.{Access, frame_touch, is_turn, next_of, next_touch, wants_turn}
use Rattle.core_semantics.specs.State.{State, Store, Thread, other_of, thread_of, with_thread}
use Rattle.core_semantics.specs.Steps.{After, Next, Goes, Sticks, Waits, Ends, step, thread_step, within}
use Rattle.core_semantics.specs.Advances.{Going, made_of, one_step}
use Rattle.core_ways.specs.Ends.{Ended, end_behind, leg_end, leg_reads, reads_behind}
use Rattle.core_semantics.specs.Advances.{straight, turned, with_turns}
use Rattle.core_semantics.proofs.ThreadLemmas.{store-now, thread-now}
use Rattle.core_ways.specs.Ends.{step_reads}
use Rattle.core_ways.specs.Marks.{given_by, next_read, paths_in}
use Rattle.witness_build_apart_laws.specs.Apart.{AreAlike, AreEndsAlike, DoesAvoid, ReadAlike, avoids_behind}
use Rattle.witness_build_apart_laws.specs.Apart.{is_avoided}
use Rattle.witness_build_apart_laws.specs.Goes.{GoingAlike}
use Rattle.witness_build_apart_laws.proofs.Steps.{AfterAlike, Spots, thread-alike}

pub other-now : (s : State) (t : ℕ) (a : After) →
    (other_of (with_thread s t a.store a.thread) t).locks ≡ (other_of s t).locks
other-now s t a =
    elim (nat_eq t 0) as (λ b.
    (let x : State = cond b
    (let u : State = record { store = a.store; first = a.thread; second = s.second } in u)
    (let v : State = record { store = a.store; first = s.first; second = a.thread } in v) in
    (cond b x.second x.first).locks) ≡ (cond b s.second s.first).locks) [
      | true ↦ refl
      | false ↦ refl
    ]

-- ---- one step

abbrev MadeAlike : Core → Spots → ℕ → Option State → Option State → Type 0
MadeAlike core but t None None = Unit {0}
MadeAlike core but t (Some a) (Some b) = AreAlike core but t a b
MadeAlike core but t _ _ = ⊥

abbrev put_in : State → ℕ → After → State
put_in s t a = with_thread s t a.store a.thread

state-alike : (core : Core) (but : Spots) (t : ℕ) (a b : State) (x y : After) →
    (other_of a t).locks ≡ (other_of b t).locks → x.thread ≡ y.thread → ReadAlike core but x.store y.store →
    AreAlike core but t (put_in a t x) (put_in b t y)
state-alike core but t a b x y locks threads stores =
    record {
      thread = thread-now a t x ∙ threads ∙ sym (thread-now b t y);
      locks = other-now a t x ∙ locks ∙ sym (other-now b t y);
      stores =
          subst (λ (s : Store). ReadAlike core but s (put_in b t y).store) (sym (store-now a t x))
          (subst (λ (s : Store). ReadAlike core but x.store s) (sym (store-now b t y)) stores);
    }

made-alike : (core : Core) (but : Spots) (t : ℕ) (a b : State) (m n : Next After) →
    (other_of a t).locks ≡ (other_of b t).locks → AfterAlike core but m n →
    MadeAlike core but t (made_of (within (put_in a t) m)) (made_of (within (put_in b t) n))
made-alike core but t a b (Goes x) (Goes y) locks alike = state-alike core but t a b x y locks alike.0 alike.1
made-alike core but t a b (Sticks v) (Sticks w) locks alike = tt
made-alike core but t a b (Waits v) (Waits w) locks alike = tt
made-alike core but t a b Ends Ends locks alike = tt
made-alike core but t a b (Goes x) (Sticks w) locks alike = absurd alike
made-alike core but t a b (Goes x) (Waits w) locks alike = absurd alike
made-alike core but t a b (Goes x) Ends locks alike = absurd alike
made-alike core but t a b (Sticks v) (Goes y) locks alike = absurd alike
made-alike core but t a b (Sticks v) (Waits w) locks alike = absurd alike
made-alike core but t a b (Sticks v) Ends locks alike = absurd alike
made-alike core but t a b (Waits v) (Goes y) locks alike = absurd alike
made-alike core but t a b (Waits v) (Sticks w) locks alike = absurd alike
made-alike core but t a b (Waits v) Ends locks alike = absurd alike
made-alike core but t a b Ends (Goes y) locks alike = absurd alike
made-alike core but t a b Ends (Sticks w) locks alike = absurd alike
made-alike core but t a b Ends (Waits w) locks alike = absurd alike

step-alike : (core : Core) (but : Spots) (t : ℕ) (turn : Turn) (a b : State) → AreAlike core but t a b →
    is_avoided but (next_touch a t) ≡ true →
    MadeAlike core but t (made_of (step core a t turn)) (made_of (step core b t turn))
step-alike core but t turn a b alike avoided =
    made-alike core but t a b (thread_step core turn (other_of a t).locks a.store (thread_of a t))
    (thread_step core turn (other_of b t).locks b.store (thread_of b t)) alike.locks
    (subst (λ (thread : Thread). AfterAlike core but
    (thread_step core turn (other_of a t).locks a.store (thread_of a t))
    (thread_step core turn (other_of b t).locks b.store thread)) alike.thread
    (subst (λ (locks : List Holder). AfterAlike core but
    (thread_step core turn (other_of a t).locks a.store (thread_of a t))
    (thread_step core turn locks b.store (thread_of a t))) alike.locks
    (thread-alike core but turn (other_of a t).locks a.store b.store (thread_of a t).frames (thread_of a t).locks
    alike.stores avoided)))

-- ---- a step of a leg

turns-alike : (core : Core) (but : Spots) (t : ℕ) (turns : List Turn) (m n : Option State) → MadeAlike core but t m n →
    GoingAlike core but t (with_turns turns m) (with_turns turns n)
turns-alike core but t turns None None alike = tt
turns-alike core but t turns (Some a) (Some b) alike = (alike, refl)
turns-alike core but t turns None (Some b) alike = absurd alike
turns-alike core but t turns (Some a) None alike = absurd alike

turned-alike : (core : Core) (but : Spots) (t : ℕ) (turns : List Turn) (a b : State) → AreAlike core but t a b →
    is_avoided but (next_touch a t) ≡ true →
    GoingAlike core but t (turned core t turns a) (turned core t turns b)
turned-alike core but t [] a b alike avoided = tt
turned-alike core but t (turn ∷ turns) a b alike avoided =
    turns-alike core but t turns (made_of (step core a t turn)) (made_of (step core b t turn))
    (step-alike core but t turn a b alike avoided)

abbrev wants : Thread → Bool
wants thread = elim (option_and_then next_of (slice_get thread.frames 0)) [ None ↦ false | Some todo ↦ is_turn todo ]

pub one-alike : (core : Core) (but : Spots) (t : ℕ) (turns : List Turn) (a b : State) → AreAlike core but t a b →
    is_avoided but (next_touch a t) ≡ true →
    GoingAlike core but t (one_step core t turns a) (one_step core t turns b)
one-alike core but t turns a b alike avoided =
    subst (λ (w : Bool). GoingAlike core but t (one_step core t turns a)
    (cond w (turned core t turns b) (straight core t turns b))) (ap wants alike.thread)
    (elim (wants_turn a t) as (λ w. GoingAlike core but t
    (cond w (turned core t turns a) (straight core t turns a))
    (cond w (turned core t turns b) (straight core t turns b))) [
      | true ↦ turned-alike core but t turns a b alike avoided
      | false ↦
          turns-alike core but t turns (made_of (step core a t Right)) (made_of (step core b t Right))
          (step-alike core but t Right a b alike avoided)
    ])

-- ---- what a step reads

given-alike : (core : Core) (but : Spots) (a b : State) (touch : Option Access) → ReadAlike core but a.store b.store →
    is_avoided but touch ≡ true →
    (elim touch as (λ _. List StartPath) [ None ↦ [] | Some touching ↦ given_by core a touching ])
    ≡ (elim touch as (λ _. List StartPath) [ None ↦ [] | Some touching ↦ given_by core b touching ])
given-alike core but a b None alike avoided = refl
given-alike core but a b (Some (o, f, Read)) alike avoided = ap paths_in (alike.reads o f (not-true (but o f) avoided))
given-alike core but a b (Some (o, f, Write)) alike avoided = refl

next-alike : (core : Core) (but : Spots) (t : ℕ) (a b : State) → AreAlike core but t a b →
    is_avoided but (next_touch a t) ≡ true → next_read core a t ≡ next_read core b t
next-alike core but t a b alike avoided =
    given-alike core but a b (next_touch a t) alike.stores avoided
    ∙ ap (λ (thread : Thread). elim (option_and_then frame_touch (slice_get thread.frames 0)) as (λ _. List StartPath) [
      | None ↦ []
      | Some touching ↦ given_by core b touching
    ]) alike.thread

reads-alike : (core : Core) (but : Spots) (t : ℕ) (a b : State) → AreAlike core but t a b →
    is_avoided but (next_touch a t) ≡ true → step_reads core a t ≡ step_reads core b t
reads-alike core but t a b alike avoided =
    ap (λ (xs : List StartPath). cond (wants_turn a t) [] xs) (next-alike core but t a b alike avoided)
    ∙ ap (λ (thread : Thread). cond (wants thread) [] (next_read core b t)) alike.thread

-- ---- a leg

ends-behind : (core : Core) (but : Spots) (t : ℕ) (a b : State) (rest : List Turn → State → Ended)
    (avoids : List Turn → State → Type 0) (m n : Option Going) → AreAlike core but t a b →
    ((ts : List Turn) (x y : State) → AreAlike core but t x y → avoids ts x →
    AreEndsAlike core but t (rest ts x) (rest ts y)) → GoingAlike core but t m n → avoids_behind avoids m →
    AreEndsAlike core but t (end_behind a rest m) (end_behind b rest n)
ends-behind core but t a b rest avoids None None alike then_on going avoided = alike
ends-behind core but t a b rest avoids (Some (x, ts)) (Some (y, us)) alike then_on going avoided =
    subst (λ (vs : List Turn). AreEndsAlike core but t (rest ts x) (rest vs y)) going.1
    (then_on ts x y going.0 avoided)
ends-behind core but t a b rest avoids None (Some y) alike then_on going avoided = absurd going
ends-behind core but t a b rest avoids (Some x) None alike then_on going avoided = absurd going

reads-behind : (core : Core) (but : Spots) (t : ℕ) (rest : List Turn → State → List StartPath)
    (avoids : List Turn → State → Type 0) (m n : Option Going) →
    ((ts : List Turn) (x y : State) → AreAlike core but t x y → avoids ts x → rest ts x ≡ rest ts y) →
    GoingAlike core but t m n → avoids_behind avoids m → reads_behind rest m ≡ reads_behind rest n
reads-behind core but t rest avoids None None then_on going avoided = refl
reads-behind core but t rest avoids (Some (x, ts)) (Some (y, us)) then_on going avoided =
    then_on ts x y going.0 avoided ∙ ap (λ (vs : List Turn). rest vs y) going.1
reads-behind core but t rest avoids None (Some y) then_on going avoided = absurd going
reads-behind core but t rest avoids (Some x) None then_on going avoided = absurd going

pub legs-end-alike : (core : Core) (but : Spots) (t n : ℕ) (turns : List Turn) (a b : State) → AreAlike core but t a b →
    DoesAvoid core but t n turns a → AreEndsAlike core but t (leg_end core t n turns a) (leg_end core t n turns b)
legs-end-alike core but t zero turns a b alike avoided = alike
legs-end-alike core but t (suc n) turns a b alike avoided =
    ends-behind core but t a b (leg_end core t n) (DoesAvoid core but t n) (one_step core t turns a)
    (one_step core t turns b) alike (legs-end-alike core but t n)
    (one-alike core but t turns a b alike avoided.0) avoided.1

pub legs-read-alike : (core : Core) (but : Spots) (t n : ℕ) (turns : List Turn) (a b : State) →
    AreAlike core but t a b →
    DoesAvoid core but t n turns a → leg_reads core t n turns a ≡ leg_reads core t n turns b
legs-read-alike core but t zero turns a b alike avoided = refl
legs-read-alike core but t (suc n) turns a b alike avoided =
    ap (λ (xs : List StartPath). xs ++ reads_behind (leg_reads core t n) (one_step core t turns a))
    (reads-alike core but t a b alike avoided.0)
    ∙ ap (λ (xs : List StartPath). step_reads core b t ++ xs)
    (reads-behind core but t (leg_reads core t n) (DoesAvoid core but t n) (one_step core t turns a)
    (one_step core t turns b) (legs-read-alike core but t n) (one-alike core but t turns a b alike avoided.0) avoided.1)
