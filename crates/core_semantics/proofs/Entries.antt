-- Threads at the entries of methods, and calls of none.
use Rattle.std.proofs.Common.{◌≡◌, ℕ, true, false, List, [], ◌∷◌, Option, None, Some, length, map, get_or, slice_get}
use Rattle.std.proofs.Common.{◌⊎◌, inl, inr, cond, Bool, Ok, Err, Result, option_map, refl, sym, ap, ◌∙◌}
use Rattle.std.proofs.Common.{slice_index_or}
use Rattle.std.proofs.Math.Dec.{ltb}
use Rattle.std.proofs.lemmas.Bool.{ltb-true, ltb-false}
use Rattle.std.proofs.lemmas.Option.{slice_get-map, slice_get_read, slice_get_past, same_Some}
use Rattle.racer_base.specs.declared.ids.MethodId.{MethodId}
use Rattle.core_code.specs.declared.parts.MethodCore.{MethodCore}
use Rattle.core_code.specs.Core.{Core, Method, method_of}
use Rattle.core_semantics.specs.declared.answer.Holder.{Holder}
use Rattle.core_semantics.specs.declared.answer.Why.{Why}
use Rattle.core_semantics.specs.declared.answer.Why.TheVariants.{UnreadCall}
use Rattle.core_semantics.specs.declared.object.Object.{Object}
use Rattle.core_semantics.specs.declared.object.Value.{Value}
use Rattle.core_semantics.specs.declared.object.Value.TheVariants.{Null}
use Rattle.core_semantics.specs.State.{Frame, Thread}
use Rattle.core_semantics.specs.Steps.{Spot, After, Next, Goes, Sticks, base_of, called, called_method, entered}
use Rattle.core_semantics.specs.Steps.{entering}
use Rattle.core_semantics.specs.Steps.{on_base, passed_from, popped, reason}
use Rattle.core_semantics.specs.Runs.{given_to, thread_at}

abbrev thread_of : Option Method → ℕ → Thread
thread_of o t =
    elim o as (λ _. Thread) [
      | None ↦ record { frames = []; locks = [] }
      | Some method ↦ record { frames = entered method (given_to t method) ∷ []; locks = [] }
    ]

-- the method that the table has at a number
there_at : (core : Core) (ms : List MethodCore) (m : MethodId) (x : MethodCore) → map method_of ms ≡ core.methods →
    true ≡ ltb m.0 (length ms) → x ≡ get_or ms m.0 x → slice_get core.methods m.0 ≡ Some (method_of x)
there_at core ms m x all within at =
    ap (λ (ys : List Method). slice_get ys m.0) (sym all)
    ∙ slice_get-map method_of ms m.0
    ∙ ap (λ (o : Option MethodCore). option_map method_of o)
    (slice_get_read ms (length ms) m.0 x refl (ltb-true m.0 (length ms) (sym within)) at)

-- where it has none
none_there : (core : Core) (ms : List MethodCore) (m : MethodId) → map method_of ms ≡ core.methods →
    false ≡ ltb m.0 (length ms) → slice_get core.methods m.0 ≡ None
none_there core ms m all past =
    ap (λ (ys : List Method). slice_get ys m.0) (sym all)
    ∙ slice_get-map method_of ms m.0
    ∙ ap (λ (o : Option MethodCore). option_map method_of o)
    (slice_get_past ms m.0 (ltb-false m.0 (length ms) (sym past)))

pub entry_of : (core : Core) (ms : List MethodCore) (t : ℕ) (m : MethodId) (x : MethodCore) (frames : List Frame)
    (locks : List Holder) → map method_of ms ≡ core.methods → true ≡ ltb m.0 (length ms) → x ≡ get_or ms m.0 x →
    frames ≡ entered (method_of x) (given_to t (method_of x)) ∷ [] → locks ≡ [] →
    record { frames = frames; locks = locks } ≡ thread_at core t m
entry_of core ms t m x frames locks all within at is empty =
    (λ i. record { frames = is i; locks = empty i })
    ∙ sym (ap (λ (o : Option Method). thread_of o t) (there_at core ms m x all within at))

pub no_entry : (core : Core) (ms : List MethodCore) (t : ℕ) (m : MethodId) (locks : List Holder) →
    map method_of ms ≡ core.methods → false ≡ ltb m.0 (length ms) → locks ≡ [] →
    record { frames = []; locks = locks } ≡ thread_at core t m
no_entry core ms t m locks all past empty =
    (λ i. record { frames = []; locks = empty i })
    ∙ sym (ap (λ (o : Option Method). thread_of o t) (none_there core ms m all past))

abbrev call_of : Spot → ℕ → Option Method → Next After
call_of s n o =
    elim o as (λ _. Next After) [ None ↦ Sticks UnreadCall | Some method ↦ called_method s method n ]

-- a call of no method
pub no_call : (core : Core) (ms : List MethodCore) (s : Spot) (m : MethodId) (n : ℕ) → map method_of ms ≡ core.methods →
    false ≡ ltb m.0 (length ms) → called core s m n ≡ Sticks UnreadCall
no_call core ms s m n all past = ap (call_of s n) (none_there core ms m all past)

-- a call on what is no object
sticks : {X : Type 0} (r : Result Object Why) (next : Object → Next X) (why : Why) → reason r ≡ Some why →
    on_base r next ≡ Sticks why
sticks (Ok o) next why e = cc
sticks (Err w) next why e = ap Sticks (same_Some _ _ e)

goes : {X : Type 0} (r : Result Object Why) (next : Next X) → reason r ≡ None → on_base r (λ o. next) ≡ next
goes (Ok o) next e = refl
goes (Err w) next e = cc

module _ (core : Core) (ms : List MethodCore) (s : Spot) (m : MethodId) (n : ℕ) (x : MethodCore) (passed : List Value)
    (all : map method_of ms ≡ core.methods) (within : true ≡ ltb m.0 (length ms)) (at : x ≡ get_or ms m.0 x)
    (is_passed : passed ≡ passed_from s.frame n) where
  abbrev base : Result Object Why
  base = base_of (slice_index_or passed 0 Null)

  abbrev base_now : Result Object Why
  base_now = base_of (slice_index_or (passed_from s.frame n) 0 Null)

  pub call_sticks : (why : Why) → x.is_static ≡ false → reason base ≡ Some why → called core s m n ≡ Sticks why
  call_sticks why static fault =
      ap (call_of s n) (there_at core ms m x all within at)
      ∙ ap (λ (b : Bool). cond b (entering s (method_of x) n) (on_base base_now (λ o. entering s (method_of x) n)))
      static
      ∙ ap (λ (vs : List Value). on_base (base_of (slice_index_or vs 0 Null)) (λ o. entering s (method_of x) n))
      (sym is_passed)
      ∙ sticks base (λ o. entering s (method_of x) n) why fault

  pub call_goes : (frames : List Frame) → ((x.is_static ≡ true) ⊎ (reason base ≡ None)) →
      frames ≡ entered (method_of x) passed ∷ popped s.frame n ∷ s.callers →
      called core s m n ≡ Goes (record {
        store = s.store;
        thread = record { frames = frames; locks = s.locks };
      })
  call_goes frames admitted is =
      ap (call_of s n) (there_at core ms m x all within at)
      ∙ (elim admitted as (λ _. called_method s (method_of x) n ≡ entering s (method_of x) n) [
        | inl static ↦ ap (λ (b : Bool).
            cond b (entering s (method_of x) n) (on_base base_now (λ o. entering s (method_of x) n))) static
        | inr fault ↦ either x.is_static (goes base_now (entering s (method_of x) n)
            (ap (λ (vs : List Value). reason (base_of (slice_index_or vs 0 Null))) (sym is_passed) ∙ fault))
      ])
      ∙ ap (λ (fs : List Frame). Goes (record { store = s.store; thread = record { frames = fs; locks = s.locks } }))
      (sym (is ∙ ap (λ (vs : List Value). entered (method_of x) vs ∷ popped s.frame n ∷ s.callers) is_passed))
    where
      either : (b : Bool) →
          on_base base_now (λ o. entering s (method_of x) n) ≡ entering s (method_of x) n →
          cond b (entering s (method_of x) n) (on_base base_now (λ o. entering s (method_of x) n)) ≡
          entering s (method_of x) n
      either true e = refl
      either false e = e
