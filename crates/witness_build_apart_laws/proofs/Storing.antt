-- What a leg changes of what is stored.
use Rattle.std.proofs.Common.{◌≡◌, ℕ, zero, suc, Bool, true, false, cond, List, [], ◌∷◌, Option, None, Some}
use Rattle.std.proofs.Common.{refl, sym, ap, subst, ◌∙◌}
use Rattle.std.specs.List.{list_any}
use Rattle.std.proofs.lemmas.Bool.{or_parts}
use Rattle.racer_base.specs.declared.ids.FieldId.{FieldId}
use Rattle.core_code.specs.Core.{Core}
use Rattle.core_semantics.specs.declared.answer.Turn.{Turn}
use Rattle.core_semantics.specs.declared.answer.Turn.TheVariants.{Right}
use Rattle.core_semantics.specs.declared.object.Object.{Object}
use Rattle.core_semantics.specs.Runs.{wants_turn}
use Rattle.core_semantics.specs.State.{State, Store, other_of, thread_of, with_thread}
use Rattle.core_semantics.specs.Steps.{After, Next, Goes, Sticks, Waits, Ends, step, thread_step, within}
use Rattle.core_semantics.specs.Advances.{Going, made_of, one_step, straight, turned, with_turns}
use Rattle.witness_build_apart_laws.specs.Goes.{leg_goes}
use Rattle.core_semantics.specs.Changes.{Change, Loud, Quiet, Spot, Stores}
use Rattle.witness_build_apart_laws.specs.Stores.{ArePlain, HasStored, is_spot, leg_stores, noted}
use Rattle.core_semantics.specs.Changes.{step_change}
use Rattle.core_semantics.proofs.ThreadLemmas.{store-now}
use Rattle.witness_build_apart_laws.specs.Stores.{stores_behind}
use Rattle.witness_build_apart_laws.proofs.Prefixes.{both, first-of}
use Rattle.witness_build_apart_laws.proofs.Stored.{AfterChanged, IsChanged, thread-changed}
use Rattle.core_ways.proofs.Beside.{other-stays}

-- ---- one step

record Steps (core : Core) (t : ℕ) (s next : State) : Type 0 where
  changed : IsChanged core s.store (step_change core s t) next.store
  others : other_of next t ≡ other_of s t

made-changed : (core : Core) (t : ℕ) (s next : State) (m : Next After) →
    AfterChanged core s.store (step_change core s t) m →
    made_of (within (λ (a : After). with_thread s t a.store a.thread) m) ≡ Some next → Steps core t s next
made-changed core t s next (Goes a) changed e =
    let is : with_thread s t a.store a.thread ≡ next = cc in
    subst (Steps core t s) is (record {
      changed =
          subst (λ (st : Store). IsChanged core s.store (step_change core s t) st) (sym (store-now s t a)) changed;
      others = other-stays s t a;
    })
made-changed core t s next (Sticks w) changed e = absurd cc
made-changed core t s next (Waits w) changed e = absurd cc
made-changed core t s next Ends changed e = absurd cc

step-changed : (core : Core) (t : ℕ) (turn : Turn) (s next : State) → ArePlain core s.store →
    made_of (step core s t turn) ≡ Some next → Steps core t s next
step-changed core t turn s next plain e =
    made-changed core t s next (thread_step core turn (other_of s t).locks s.store (thread_of s t))
    (thread-changed core turn (other_of s t).locks s.store (thread_of s t).frames (thread_of s t).locks plain) e

pub turns-made : (turns : List Turn) (o : Option State) (next : State) (left : List Turn) →
    with_turns turns o ≡ Some (next, left) → o ≡ Some next
turns-made turns None next left e = absurd cc
turns-made turns (Some x) next left e = ap (λ (s : State). let o : Option State = Some s in o)
    (both x next turns left e).0

one-changed : (core : Core) (t : ℕ) (turns : List Turn) (s next : State) (left : List Turn) → ArePlain core s.store →
    one_step core t turns s ≡ Some (next, left) → Steps core t s next
one-changed core t turns s next left plain =
    elim (wants_turn s t) as (λ w. cond w (turned core t turns s) (straight core t turns s) ≡ Some (next, left) →
    Steps core t s next) [
      | true ↦ elim turns as (λ ts. turned core t ts s ≡ Some (next, left) → Steps core t s next) [
        | [] ↦ λ e. absurd cc
        | ◌∷◌ turn rest ↦ λ e.
            step-changed core t turn s next plain (turns-made rest (made_of (step core s t turn)) next left e)
      ]
      | false ↦ λ e. step-changed core t Right s next plain
          (turns-made turns (made_of (step core s t Right)) next left e)
    ]

-- ---- one change behind another

abbrev among : List Spot → Object → FieldId → Bool
among spots o f = list_any (is_spot o f) spots

pub some-in : (o : Option (List Spot)) (all : List Spot) (c : Change) → noted c o ≡ Some all →
    (spots : List Spot) × (o ≡ Some spots)
some-in (Some spots) all c e = (spots, refl)
some-in None all Quiet e = absurd cc
some-in None all (Stores p g) e = absurd cc
some-in None all Loud e = absurd cc

joined : (core : Core) (a b to : Store) (c : Change) (spots all : List Spot) → IsChanged core a c b →
    HasStored core spots b to → noted c (Some spots) ≡ Some all → HasStored core all a to
joined core a b to Quiet spots all changed stored e =
    let same : spots ≡ all = cc in
    subst (λ (xs : List Spot). HasStored core xs a to) same
    (record {
      alike = record {
        fresh = changed.0.fresh ∙ stored.alike.fresh;
        heap = changed.0.heap ∙ stored.alike.heap;
        reads = λ o f h. changed.0.reads o f refl ∙ stored.alike.reads o f h;
      };
      plain = stored.plain;
    })
joined core a b to (Stores p g) spots all changed stored e =
    let same : (p, g) ∷ spots ≡ all = cc in
    subst (λ (xs : List Spot). HasStored core xs a to) same
    (record {
      alike = record {
        fresh = changed.0.fresh ∙ stored.alike.fresh;
        heap = changed.0.heap ∙ stored.alike.heap;
        reads = λ o f h.
            changed.0.reads o f (or_parts (is_spot o f (p, g)) (among spots o f) h).0
            ∙ stored.alike.reads o f (or_parts (is_spot o f (p, g)) (among spots o f) h).1;
      };
      plain = stored.plain;
    })
joined core a b to Loud spots all changed stored e = absurd cc

plain-behind : (core : Core) (a b : Store) (c : Change) (o : Option (List Spot)) (all : List Spot) →
    IsChanged core a c b → noted c o ≡ Some all → ArePlain core b
plain-behind core a b Quiet o all changed e = changed.1
plain-behind core a b (Stores p g) o all changed e = changed.1
plain-behind core a b Loud o all changed e = absurd cc

-- ---- a leg

pub legs-store : (core : Core) (t n : ℕ) (turns : List Turn) (s to : State) (left : List Turn) (all : List Spot) →
    ArePlain core s.store → leg_goes core t n turns s ≡ Some (to, left) → leg_stores core t n turns s ≡ Some all →
    HasStored core all s.store to.store × (other_of to t ≡ other_of s t)
legs-store core t zero turns s to left all plain e stores =
    let state = (both s to turns left e).0 in
    let none : [] ≡ all = cc in
    subst (λ (x : State). HasStored core all s.store x.store × (other_of x t ≡ other_of s t)) state (
      subst (λ (xs : List Spot). HasStored core xs s.store s.store) none
          (record {
            alike = record { fresh = refl; heap = refl; reads = λ o f h. refl };
            plain = plain;
          }),
      refl,
    )
legs-store core t (suc n) turns s to left all plain e stores =
    let f = first-of core t n turns s to left (one_step core t turns s) refl e in
    let steps = one-changed core t turns s f.next f.rest plain f.made in
    let behind : noted (step_change core s t) (leg_stores core t n f.rest f.next) ≡ Some all =
    sym (ap (λ (o : Option Going). noted (step_change core s t) (stores_behind (leg_stores core t n) o)) f.made)
    ∙ stores in
    let rest = some-in (leg_stores core t n f.rest f.next) all (step_change core s t) behind in
    let more = legs-store core t n f.rest f.next to left rest.0
    (plain-behind core s.store f.next.store (step_change core s t) (leg_stores core t n f.rest f.next) all steps.changed
    behind) f.goes rest.1 in (
      joined core s.store f.next.store to.store (step_change core s t) rest.0 all steps.changed more.0
          (sym (ap (noted (step_change core s t)) rest.1) ∙ behind),
      more.1 ∙ steps.others,
    )
