-- How a thread begins, whatever the other is.
use Rattle.std.proofs.Common.{◌≡◌, ℕ, true, false, cond, [], ◌∷◌, Option, None, Some, refl, sym, ap, ◌∙◌, nat_eq}
use Rattle.racer_base.specs.declared.ids.FieldId.{FieldId}
use Rattle.racer_base.specs.declared.ids.Kind.{Kind}
use Rattle.racer_base.specs.declared.ids.Kind.TheVariants.{Plain as PlainKind, Declared, Other}
use Rattle.racer_base.specs.declared.ids.MethodId.{MethodId}
use Rattle.core_code.specs.Calls.{method_at}
use Rattle.core_code.specs.Core.{Core, Method}
use Rattle.core_semantics.specs.declared.object.Object.{Object}
use Rattle.core_semantics.specs.declared.object.Start.TheVariants.{All}
use Rattle.core_semantics.specs.declared.object.Value.TheVariants.{Plain}
use Rattle.core_semantics.specs.Changes.{is_plain_kind}
use Rattle.core_semantics.specs.Runs.{begun, given_to, is_in, thread_at}
use Rattle.core_semantics.specs.State.{Thread, other_of, thread_of}
use Rattle.core_semantics.specs.Steps.{entered, kind_of, unstored}
use Rattle.witness_build_apart_laws.specs.Apart.{AreAlike}
use Rattle.witness_build_apart_laws.specs.Goes.{nothing}
use Rattle.witness_build_apart_laws.specs.Starts.{entry_of}
use Rattle.witness_build_apart_laws.specs.Stores.{ArePlain}

plain-unstored : (k : Kind) (o : Object) (f : FieldId) → is_plain_kind k ≡ true → unstored (is_in All) k o f ≡ Plain
plain-unstored PlainKind o f e = refl
plain-unstored (Declared c) o f e = absurd cc
plain-unstored Other o f e = absurd cc

pub begun-plain : (core : Core) (m1 m2 : MethodId) → ArePlain core (begun core m1 m2 All).store
begun-plain core m1 m2 = λ o f e. plain-unstored (kind_of core f) o f e

abbrev thread_in : ℕ → Option Method → Thread
thread_in t o =
    elim o as (λ _. Thread) [
      | None ↦ record { frames = []; locks = [] }
      | Some method ↦ record { frames = entered method (given_to t method) ∷ []; locks = [] }
    ]

no-locks : (core : Core) (t : ℕ) (m : MethodId) → (thread_at core t m).locks ≡ []
no-locks core t m =
    elim (method_at core m) as (λ o. (thread_in t o).locks ≡ []) [ None ↦ refl | Some method ↦ refl ]

pub begun-free : (core : Core) (m1 m2 : MethodId) (t : ℕ) → (thread_of (begun core m1 m2 All) t).locks ≡ []
begun-free core m1 m2 t =
    elim (nat_eq t 0) as (λ b. (cond b (thread_at core 0 m1) (thread_at core 1 m2)).locks ≡ []) [
      | true ↦ no-locks core 0 m1
      | false ↦ no-locks core 1 m2
    ]

pub other-free : (core : Core) (m1 m2 : MethodId) (t : ℕ) → (other_of (begun core m1 m2 All) t).locks ≡ []
other-free core m1 m2 t =
    elim (nat_eq t 0) as (λ b. (cond b (thread_at core 1 m2) (thread_at core 0 m1)).locks ≡ []) [
      | true ↦ no-locks core 1 m2
      | false ↦ no-locks core 0 m1
    ]

pub same-thread : (core : Core) (t : ℕ) (m m1 m2 : MethodId) → m ≡ entry_of t m1 m2 →
    thread_of (begun core m m All) t ≡ thread_of (begun core m1 m2 All) t
same-thread core t m m1 m2 =
    elim (nat_eq t 0) as (λ b. m ≡ cond b m1 m2 →
    cond b (thread_at core 0 m) (thread_at core 1 m) ≡ cond b (thread_at core 0 m1) (thread_at core 1 m2)) [
      | true ↦ λ e. ap (thread_at core 0) e
      | false ↦ λ e. ap (thread_at core 1) e
    ]

-- a thread begins at its method alike, beside any other
pub begun-alike : (core : Core) (t : ℕ) (m m1 m2 : MethodId) → m ≡ entry_of t m1 m2 →
    AreAlike core nothing t (begun core m m All) (begun core m1 m2 All)
begun-alike core t m m1 m2 e =
    record {
      thread = same-thread core t m m1 m2 e;
      locks = other-free core m m t ∙ sym (other-free core m1 m2 t);
      stores = record { fresh = refl; heap = refl; reads = λ o f h. refl };
    }
